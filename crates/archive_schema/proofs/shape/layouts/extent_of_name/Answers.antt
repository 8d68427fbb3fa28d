use Rattle.std.proofs.Common.{sym, ◌∙◌, refl, ap}
use Rattle.archive_schema.specs.plan.PlanGrowth.{node_of}
use Rattle.archive_schema.proofs.plan.ExtentsOf.{name_there, name_extent}
use Rattle.archive_schema.proofs.shape.layouts.extent_of_name.Goals as goal

pub returns : goal.returns
returns c =
    let is = ap (λ names. node_of names c.args.name.now) (sym c.deref.ensures.value) ∙ sym c.find.ensures ∙ c.in-Some.is in
    name_extent c.args.schema.now c.args.name.now is (record { below = name_there c.args.schema.now c.args.name.now is; is = c.index-node.ensures }) refl refl
