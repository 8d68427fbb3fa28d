use Rattle.std.proofs.Common.{arith}
use Rattle.std.proofs.lemmas.Bool.{and_parts}
use Rattle.std.proofs.lemmas.Option.{IfSome_then}
use Rattle.archive_check.proofs.SelfCheck.Variants.{first_variant, first_variant_halts, other_variant, other_variant_halts}
use Rattle.archive_check.proofs.SelfCheck.Outcomes.{stopped_map}
use Rattle.archive_check.proofs.self_check.variants.Tuple2CheckedVariants.check_variant.Goals as goal

pub returns-in_err-check_parts-clause-stops : goal.returns-in_err-check_parts-clause-stops
returns-in_err-check_parts-clause-stops g c d = rw c.from_residual.ensures (first_variant_halts g.P.CheckedParts.definitions g.V.CheckedVariants.definitions c.args.bytes.now c.args.base g.P.CheckedParts.parts g.V.CheckedVariants.variants (g.C.Context.state c.args.context.now) c.args.tag c.check_parts.new.refusal c.if-tag-eq0.true (c.in_err-check_parts.ensures.stops (and_parts _ _ d).0))

pub returns-then-tag-eq0-clause-through : goal.returns-then-tag-eq0-clause-through
returns-then-tag-eq0-clause-through g c u = first_variant g.P.CheckedParts.definitions g.V.CheckedVariants.definitions c.args.bytes.now c.args.base g.P.CheckedParts.parts g.V.CheckedVariants.variants (g.C.Context.state c.args.context.now) (g.C.Context.state c.check_parts.new.context) c.args.tag c.if-tag-eq0.true c.in_ok-check_parts.ensures.through

pub returns-clause-through : goal.returns-clause-through
returns-clause-through g c = IfSome_then c.check_variant.result c.check_variant.ensures.through
    (λ known h says. other_variant g.P.CheckedParts.definitions g.V.CheckedVariants.definitions c.args.bytes.now c.args.base g.P.CheckedParts.parts g.V.CheckedVariants.variants (g.C.Context.state c.args.context.now) (g.C.Context.state c.check_variant.new.context) c.args.tag (omega (arith, c.if-tag-eq0.false)) (h says))

pub returns-clause-stops : goal.returns-clause-stops
returns-clause-stops g c d = stopped_map c.check_variant.result
    (λ h. other_variant_halts g.P.CheckedParts.definitions g.V.CheckedVariants.definitions c.args.bytes.now c.args.base g.P.CheckedParts.parts g.V.CheckedVariants.variants (g.C.Context.state c.args.context.now) c.args.tag c.check_variant.new.refusal (omega (arith, c.if-tag-eq0.false)) h)
    (c.check_variant.ensures.stops (and_parts _ _ d).1)
