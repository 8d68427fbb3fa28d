use Rattle.archive_schema.proofs.plan.Restated.{ok_map}
use Rattle.archive_schema.proofs.plan.CompiledPointers.{compiled_boxed}
use Rattle.archive_schema.proofs.plan.compile.compile_box.Goals as goal

pub returns : goal.returns
returns c = ok_map c.push.result c.push.ensures (λ j p. λ done. compiled_boxed c.in_ok-target.ensures c.pointer_size.ensures p)
