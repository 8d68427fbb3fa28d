use Rattle.std.proofs.Common.{ℕ, ◌≡◌, ◌≢◌, ◌+◌, ◌<◌, arith, eqb, slice_index, inl, inr, w8}
use Rattle.std.proofs.lemmas.Bool.{cases_lt}
use Rattle.std.proofs.lemmas.Bool.Decides.{nat_tests}
use Rattle.std.proofs.lemmas.Simd.{bitmask_splat, length-chunk, run_in_chunk_le, run_in_chunk_fails, run_in_chunk_stops}
use lib.Lanes.{chunk}
use Rattle.archive_check.proofs.format.BytesAt.{inline_all, inline_first}
use Rattle.archive_check.proofs.format.Lanes.{first_lane}
use Rattle.archive_check.proofs.format.bytes.inline_length.Goals as goal

pub returns-clause-short : goal.returns-clause-short
returns-clause-short c =
    let long = length-chunk c.args.p 8 c.args.bytes.now c.requires in
    let found = first_lane (λ x. eqb x 255) (chunk c.args.p 8 c.args.bytes.now) _ c.first_set.result long (bitmask_splat w8 eqb _ 8 255 long (omega arith)) c.first_set.ensures in
    run_in_chunk_le (λ x. eqb x 255) c.args.bytes.now c.args.p 8 c.first_set.result 0 c.requires found

pub returns-clause-text : goal.returns-clause-text
returns-clause-text c =
    let bytes = c.args.bytes.now in
    let p = c.args.p in
    let r = c.first_set.result in
    let long = length-chunk p 8 bytes c.requires in
    let found = first_lane (λ x. eqb x 255) (chunk p 8 bytes) _ r long (bitmask_splat w8 eqb _ 8 255 long (omega arith)) c.first_set.ensures in
    let few = run_in_chunk_le (λ x. eqb x 255) bytes p 8 r 0 c.requires found in
    let before : (i : ℕ) → i < r → slice_index bytes (p + i) ≢ 255 =
    λ i lt. let fails = run_in_chunk_fails (λ x. eqb x 255) bytes p 8 r 0 c.requires found (p + i) (omega arith) (omega arith) in grind (arith, nat_tests) in
    elim (cases_lt r 8) [
      | inl lt ↦ let stops = run_in_chunk_stops (λ x. eqb x 255) bytes p 8 r 0 c.requires found lt in inline_first bytes p r c.requires lt before (grind (arith, nat_tests))
      | inr ge ↦ let all : r ≡ 8 = omega arith in rw all (inline_all bytes p c.requires (rw all at before))
    ]
