use Rattle.std.proofs.Common.{◌+◌, ◌*◌, ◌∙◌, Some, sym}
use Rattle.archive_check.proofs.SelfCheck.Laws.{checked_goes}
use Rattle.archive_check.proofs.self_check.elements.count_good.Goals as goal

pub returns-clause-good : goal.returns-clause-good
returns-clause-good g c k s lt =
    checked_goes _ _ _ _ _ _ (g.met.T.Portable.checks (sym c.is_direct.ensures ∙ c.if-not-is_direct.false)) c.args.bytes.now (c.args.at + k * c.args.step) s s (Some tt) (c.check_first.ensures.good k s lt)
