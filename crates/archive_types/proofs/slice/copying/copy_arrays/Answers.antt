use Rattle.archive_types.proofs.Writing.ArrayBytes.{arrays_bytes}
use Rattle.archive_types.proofs.slice.copying.copy_arrays.Goals as goal

pub returns-clause-copied : goal.returns-clause-copied
returns-clause-copied g c = rw (c.as_flattened.ensures.value, arrays_bytes g.T.Copied.copied_bytes c.args.arrays.now) at c.copy_slice.ensures.copied

pub returns-clause-cause : goal.returns-clause-cause
returns-clause-cause g c = rw (c.as_flattened.ensures.len) at c.copy_slice.ensures.cause

pub returns-clause-succeeds : goal.returns-clause-succeeds
returns-clause-succeeds g c = rw (c.as_flattened.ensures.len) at c.copy_slice.ensures.succeeds
