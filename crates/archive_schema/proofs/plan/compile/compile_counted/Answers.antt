use Rattle.archive_schema.proofs.plan.Restated.{ok_map}
use Rattle.archive_schema.proofs.plan.CompiledPointers.{compiled_counted}
use Rattle.archive_schema.proofs.plan.compile.compile_counted.Goals as goal

pub returns : goal.returns
returns c =
    ok_map c.push.result c.push.ensures
    (λ j p. λ done. compiled_counted c.in_ok-target.ensures c.in_ok-shared_type.ensures.sorted c.in_ok-shared_type.ensures.flavor_is c.in_ok-shared_type.ensures.pointee_is c.args.weak c.pointer_size.ensures c.counted_kind.ensures.weak c.counted_kind.ensures.shared p)
