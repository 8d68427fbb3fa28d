use Rattle.std.proofs.Common.{refl}
use Rattle.archive_check.proofs.Reading.ReadBack.{leaf_read_back}
use Rattle.archive_types.proofs.primitive.LittleEndianAnyDeserializeAny.deserialize_part.Goals as goal

pub returns-clause-read : goal.returns-clause-read
returns-clause-read g c = rw c.from_native.ensures (leaf_read_back _ _ _ _ _ _ refl _ _ (rw (c.at-view.ensures.buffer, c.at-view.ensures.position, c.at-view.ensures.length) at c.get.ensures.says))
