use Rattle.std.proofs.Common.{◌≡◌, ◌∙◌}
use Rattle.archive_types.proofs.Comparing.MeantOrder.{views_have_order}
use Rattle.archive_types.proofs.Comparing.SaidOrder.{order_said}
use Rattle.archive_types.specs.Words.Seen.{shown}
use Rattle.archive_types.proofs.view.Ref.compare_said.Goals as goal

pub returns-clause-said : goal.returns-clause-said
returns-clause-said g c v w says also h i =
    rw (c.part.ensures.buffer, c.part.ensures.position, c.part.ensures.length, c.part-2.ensures.buffer, c.part-2.ensures.position, c.part-2.ensures.length) at c.compare.ensures
    ∙ order_said _ _ _ g.met.T.Ordered.by_value _ _ _ _ _ _ v w c.args.self.valid c.args.other.valid says also h i

pub returns-clause-meant : goal.returns-clause-meant
returns-clause-meant g c h =
    let same : c.compare.result ≡ g.T.Ordered.order (shown c.args.self) (shown c.args.other) =
    rw (c.part.ensures.buffer, c.part.ensures.position, c.part.ensures.length, c.part-2.ensures.buffer, c.part-2.ensures.position, c.part-2.ensures.length) at c.compare.ensures in
    rw same (views_have_order _ _ _ g.met.T.Ordered.by_value h _ _ _ _ _ _ c.args.self.valid c.args.other.valid)
