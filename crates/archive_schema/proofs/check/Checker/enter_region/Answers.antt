use Rattle.std.proofs.Common.{refl, sym, ap, ◌∙◌}
use Rattle.archive_check.specs.Words.BoundedSizes.{times}
use Rattle.std.proofs.lemmas.Int.{to_z-of_z}
use mir.Syntax.{w128}
use Rattle.archive_schema.proofs.check.Entries.{region_is, enters_so}
use Rattle.archive_schema.proofs.check.Checker.enter_region.Goals as goal

pub returns-clause-enters : goal.returns-clause-enters
returns-clause-enters g c =
    let z = to_z-of_z w128 c.args.position c.ranges.position in
    let region = region_is c.args.self.now c.requires.known c.index-self-pointee.is (ap (λ o. times o c.args.count) (sym c.unit_of-unit.ensures.end) ∙ sym c.times-size.ensures.total) in
    enters_so c.enter.result region (rw (z, c.unit_of-unit.ensures.align) at c.enter.ensures.entered) (rw (z, c.unit_of-unit.ensures.align) at c.enter.ensures.stops) c.enter.ensures.positions refl
