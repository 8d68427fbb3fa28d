use Rattle.std.proofs.Common.{refl, slice_index}
use Rattle.archive_check.specs.declared.format.error.Error.TheVariants.{InvalidDiscriminant}
use Rattle.archive_check.specs.Shape.{choice}
use Rattle.archive_check.specs.SelfCheck.Ways.{Halts, shape_way}
use Rattle.archive_check.proofs.SelfCheck.Outcomes.{if_none}
use Rattle.archive_check.proofs.SelfCheck.Variants.{choice_goes, choice_halts, tag_halts}
use Rattle.archive_check.proofs.self_check.variants.check_choice.Goals as goal

pub returns-in_err-check_variant-clause-stops : goal.returns-in_err-check_variant-clause-stops
returns-in_err-check_variant-clause-stops g c d =
    rw c.from_residual.ensures (choice_halts g.V.CheckedVariants.definitions c.args.bytes.now c.args.at c.args.name.now g.V.CheckedVariants.variants (g.C.Context.state c.args.context.now) c.check_variant.new.refusal (c.in_err-check_variant.ensures.stops d))

pub returns-then-not-branch-clause-stops : goal.returns-then-not-branch-clause-stops
returns-then-not-branch-clause-stops g c d =
    let b = c.args.bytes.now in
    let s = g.C.Context.state c.args.context.now in
    if_none (λ e. Halts g.V.CheckedVariants.definitions (shape_way b c.args.at (choice c.args.name.now g.V.CheckedVariants.variants)) s e) c.refuse.result c.refuse.new.refusal (InvalidDiscriminant c.args.name (slice_index b c.args.at)) c.refuse.ensures.fault
    (tag_halts g.V.CheckedVariants.definitions b c.args.at c.args.name.now g.V.CheckedVariants.variants s _ (c.in_ok-check_variant.ensures.unknown c.if-not-branch.true) (c.args.name, refl, refl))

pub returns-clause-through : goal.returns-clause-through
returns-clause-through g c = choice_goes g.V.CheckedVariants.definitions c.args.bytes.now c.args.at c.args.name.now g.V.CheckedVariants.variants (g.C.Context.state c.args.context.now) (g.C.Context.state c.check_variant.new.context) (c.in_ok-check_variant.ensures.through c.if-not-branch.false)
