use Rattle.std.proofs.Common.{ap, cond}
use Rattle.archive_schema.specs.declared.plan.NodeKind.TheVariants.{Free}
use Rattle.archive_schema.proofs.plan.Restated.{ok_map}
use Rattle.archive_schema.proofs.plan.growing.push_laid.Goals as goal

pub returns-then-is_nothing : goal.returns-then-is_nothing
returns-then-is_nothing c = ok_map c.push.result c.push.ensures (λ j p. record { made = _; made_is = ap (λ b. cond b Free c.args.kind) c.if-is_nothing.ensures; pushed = p })

pub returns : goal.returns
returns c = ok_map c.push-2.result c.push-2.ensures (λ j p. record { made = _; made_is = ap (λ b. cond b Free c.args.kind) c.if-is_nothing.ensures; pushed = p })
