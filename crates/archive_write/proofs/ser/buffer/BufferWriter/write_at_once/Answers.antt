use Rattle.std.proofs.Common.{arith}
use Rattle.std.proofs.lemmas.List.{same_lists, places}
use Rattle.archive_write.proofs.ser.buffer.BufferWriter.write_at_once.Goals as goal

pub returns-clause-beyond : goal.returns-clause-beyond
returns-clause-beyond c = same_lists _ _ (grind (arith, places)) (λ k d h. grind (arith, places))
