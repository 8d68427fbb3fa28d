use Rattle.archive_check.specs.Walk.{walk_no_part}
use Rattle.archive_check.proofs.SelfCheck.Ways.{goes_same}
use Rattle.archive_check.proofs.self_check.parts.UnitCheckedParts.check_parts.Goals as goal

pub returns-clause-through : goal.returns-clause-through
returns-clause-through g c = goes_same _ _ (g.C.Context.state c.args._context.now) (λ t k pending seen. walk_no_part)
