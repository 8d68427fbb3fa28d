use Rattle.archive_types.proofs.Copying.Copies.{copies_too_large, unwritten_refused}
use Rattle.archive_types.proofs.Planning.Causes.{err_by}
use Rattle.archive_types.proofs.slice.copying.copy_aligned.Goals as goal

pub returns-then-not-run_fits-clause-refused : goal.returns-then-not-run_fits-clause-refused
returns-then-not-run_fits-clause-refused g c = rw (← c.pos-pos.ensures) (copies_too_large _ _ _ _ _ _ c.run_fits.ensures.1 c.if-not-run_fits.true)

pub returns-in_err-copy_pieces-clause-refused : goal.returns-in_err-copy_pieces-clause-refused
returns-in_err-copy_pieces-clause-refused g c = err_by c.from_residual.result c.in_err-copy_pieces.field-0.0 _ c.from_residual.ensures.1
    (unwritten_refused _ _ _ _ c.in_err-copy_pieces.ensures.refused)
