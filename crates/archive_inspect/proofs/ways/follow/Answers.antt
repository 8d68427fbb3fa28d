use Rattle.std.proofs.Common.{ap, subst, ◌∙◌, []}
use Rattle.std.proofs.lemmas.Option.{IfSome_then}
use Rattle.archive_schema.specs.Schemas.{root_of}
use Rattle.archive_inspect.specs.Ways.{a_value}
use Rattle.archive_inspect.specs.Points.{end_of_way, MeansEnd}
use Rattle.archive_inspect.proofs.WaySteps.{way_begins}
use Rattle.archive_inspect.proofs.ways.follow.Goals as goal

pub returns : goal.returns
returns c = IfSome_then c.follow_from.result c.follow_from.ensures
    (λ b h. h c.args.root [] (way_begins c.args.form.now.schema c.args.bytes.now c.args.root c.meant.result c.meant.ensures.same
    (λ s know. subst (λ X. MeansEnd s (a_value X) (end_of_way c.meant.result.thing)) (c.root.ensures ∙ ap root_of c.schema.ensures) (c.meant.ensures.means s know))))
