use Rattle.std.proofs.Common.{◌≡◌, ◌+◌, ◌∙◌, arith, leb, map, not, sym}
use Rattle.std.proofs.lemmas.Bool.Decides.{nat_tests}
use Rattle.std.proofs.lemmas.Simd.{length-chunk, leading_from_mask_l, run_in_chunk_fails}
use Rattle.std.specs.List.{prefix_len}
use lib.Lanes.{chunk, mask_l}
use Rattle.archive_check.proofs.format.BytesAt.{ascii_below}
use Rattle.archive_check.proofs.format.Lanes.{others_mask}
use Rattle.archive_check.proofs.format.bytes.are_ascii.Goals as goal

pub returns : goal.returns
returns g c none =
    let bytes = c.args.bytes.now in
    let long = length-chunk c.args.p g.row.N bytes c.requires.fits in
    let same = others_mask _ g.row.N long c.requires.few in
    let clear : mask_l (map (λ x. leb 128 x) (chunk c.args.p g.row.N bytes)) ≡ 0 = sym same ∙ grind (arith, nat_tests) in
    let found : g.row.N ≡ prefix_len (λ x. not (leb 128 x)) (chunk c.args.p g.row.N bytes) = sym (leading_from_mask_l (λ x. leb 128 x) _ clear ∙ long) in
    ascii_below bytes c.args.p g.row.N c.requires.fits (λ i lt. let fails = run_in_chunk_fails (λ x. leb 128 x) bytes c.args.p g.row.N g.row.N 0 c.requires.fits found (c.args.p + i) (omega arith) (omega arith) in grind (arith, nat_tests))
