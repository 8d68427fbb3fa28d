use Rattle.std.proofs.Common.{◌≡◌, ◌+◌, ◌-◌, ◌<◌, ◌≤◌, length, drop, slice_set, arith}
use Rattle.std.proofs.lemmas.List.{length-take, length-drop, length-set}
use Rattle.archive_check.specs.SelfCheck.Regions.{align_some}
use Rattle.archive_types.proofs.Writing.ResolvedVariants.{on_ok, case_written}
use Rattle.archive_types.proofs.variants.resolve_case.Goals as goal

pub returns-clause-held : goal.returns-clause-held
returns-clause-held g c =
    let L = g.T.Archived.Portable.layout in
    let o = c.align-offset.result in
    let n = c.size-size.result in
    let o_is : o ≡ L.align = c.align-offset.ensures in
    let n_is : n ≡ L.size = omega (arith, c.size-size.ensures, c.requires.fits, c.requires.ends) in
    let positive : 0 < o = omega (arith, o_is, align_some L.align g.met.T.Archived.Portable.is_align) in
    let few : o + n ≤ length c.args.bytes.now = omega (arith, o_is, n_is, c.requires.fits) in
    let k_is : o + n - o ≡ n = omega arith in
    let sized : length c.resolve_into.new.bytes ≡ n = omega (arith, c.resolve_into.ensures.same_length, length-take (o + n - o) (drop o (slice_set c.args.bytes.now 0 c.args.tag)), length-drop o (slice_set c.args.bytes.now 0 c.args.tag), length-set c.args.bytes.now 0 c.args.tag) in
    rw (← o_is, ← n_is) (on_ok c.resolve_into.result
    (case_written _ c.args.pos c.args.tag o n (o + n - o) _ _ c.args.bytes.now c.resolve_into.new.bytes c.requires.zeroed positive few sized k_is)
    c.resolve_into.ensures.resolved)
