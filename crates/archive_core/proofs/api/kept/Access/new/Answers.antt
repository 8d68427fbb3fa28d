use Rattle.std.proofs.Common.{◌∙◌, sym}
use Rattle.archive_check.proofs.SelfCheck.Orders.{ordered_well}
use Rattle.archive_core.proofs.api.kept.Access.new.Goals as goal

pub returns-then-is_direct-clause-meaning : goal.returns-then-is_direct-clause-meaning
returns-then-is_direct-clause-meaning g c =
    let checks = g.met.T.Portable.checks (sym c.is_direct.ensures ∙ c.if-is_direct.true) in
    ordered_well g.T.ArchivePointee.definitions g.T.Portable.shape checks.order checks.ordered g.met.T.Portable.no_others

pub invariant_of-result-2 : goal.invariant_of-result-2
invariant_of-result-2 g c = record { made = c.in_ok-schema.ensures.made; needed = tt }
