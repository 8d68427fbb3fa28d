use Rattle.std.proofs.Common.{subst, ◌∙◌}
use Rattle.std.proofs.IntoIterSteps.{All-taken}
use Rattle.std.specs.BTreeMap.{IsFromIterResult}
use Rattle.archive_types.proofs.map.reading.collect.Goals as goal

pub returns-clause-made : goal.returns-clause-made
returns-clause-made g c =
    let h = c.in_ok-from_iter.ensures.ran in
    subst (λ l. IsFromIterResult g.A.Ord.cmp l c.in_ok-from_iter.field-0) (All-taken h.0 h.1 ((h.3.2 tt).0, (h.3.0, h.3.1, (h.3.2 tt).1)) ∙ h.2.0) h.4
