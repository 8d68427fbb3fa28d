use Rattle.std.proofs.lemmas.Int.{to_z-of_z}
use mir.Syntax.{w128}
use Rattle.archive_schema.proofs.check.Checker.enter.Goals as goal

pub returns-clause-enters : goal.returns-clause-enters
returns-clause-enters g c = rw (to_z-of_z w128 c.args.position c.ranges.position) at c.enter_here.ensures.enters
