use Rattle.std.proofs.Common.{◌+◌, arith, leb}
use Rattle.std.proofs.lemmas.Bool.Decides.{nat_tests}
use Rattle.std.proofs.lemmas.Simd.{length-chunk, run_in_chunk_le, run_in_chunk_fails}
use lib.Lanes.{chunk}
use Rattle.archive_check.proofs.format.BytesAt.{ascii_below}
use Rattle.archive_check.proofs.format.Lanes.{first_lane, others_mask}
use Rattle.archive_check.proofs.format.bytes.ascii_length.Goals as goal

pub returns : goal.returns
returns c =
    let bytes = c.args.bytes.now in
    let p = c.args.p in
    let r = c.first_set.result in
    let long = length-chunk p 8 bytes c.requires in
    let found = first_lane (λ x. leb 128 x) (chunk p 8 bytes) _ r long (others_mask _ 8 long (omega arith)) c.first_set.ensures in
    let few = run_in_chunk_le (λ x. leb 128 x) bytes p 8 r 0 c.requires found in
    ascii_below bytes p r (omega arith) (λ i lt. let fails = run_in_chunk_fails (λ x. leb 128 x) bytes p 8 r 0 c.requires found (p + i) (omega arith) (omega arith) in grind (arith, nat_tests))
