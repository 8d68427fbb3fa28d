use Rattle.archive_schema.proofs.plan.Restated.{ok_map}
use Rattle.archive_schema.proofs.plan.CompiledPointers.{compiled_str}
use Rattle.archive_schema.proofs.plan.compile.compile_str.Goals as goal

pub returns : goal.returns
returns c = ok_map c.push-2.result c.push-2.ensures (λ j p. λ names done w. compiled_str c.in_ok-pointee.ensures p)
