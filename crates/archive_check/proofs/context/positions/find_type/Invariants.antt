use Rattle.archive_check.specs.Expressions.{flavor_of, pointee_of}
use Rattle.archive_check.proofs.context.SharedPositions.{NoneBefore}
use Rattle.archive_check.proofs.context.positions.find_type.Given as goal

abbrev pub invariant-loop-index : goal.invariant-loop-index
invariant-loop-index l = NoneBefore l.shared_types (flavor_of l.flavor) (pointee_of l.pointee) l.index
