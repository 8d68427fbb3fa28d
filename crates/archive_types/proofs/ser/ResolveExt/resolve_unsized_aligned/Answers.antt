use Rattle.archive_types.proofs.Planning.Causes.{err_by}
use Rattle.archive_types.proofs.Writing.PointersRefused.{writer_refuses}
use Rattle.archive_types.proofs.ser.ResolveExt.resolve_unsized_aligned.Goals as goal

pub returns-in_err-write-clause-unchanged : goal.returns-in_err-write-clause-unchanged
returns-in_err-write-clause-unchanged g c = err_by c.from_residual-in_err-write.result c.in_err-write.field-0.0 _ c.from_residual-in_err-write.ensures.1
    (λ hinders. absurd (writer_refuses _ _ _ _ _ _ _ _ _ _ _ c.in_err-write.ensures.refusal hinders))
