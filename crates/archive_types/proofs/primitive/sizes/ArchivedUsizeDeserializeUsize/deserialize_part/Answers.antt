use Rattle.std.proofs.Common.{pos, refl}
use Rattle.std.specs.Int.{w32}
use Rattle.archive_check.specs.Shape.{number, unsigned}
use Rattle.archive_check.specs.LittleEndian.{little_number}
use Rattle.archive_num.specs.NumberLaws.{unsigned-value}
use Rattle.archive_check.proofs.Reading.ReadBack.{leaf_read_back}
use Rattle.archive_types.proofs.Viewing.Shown.{number_says}
use Rattle.archive_types.proofs.primitive.sizes.ArchivedUsizeDeserializeUsize.deserialize_part.Goals as goal

pub returns-clause-read : goal.returns-clause-read
returns-clause-read g c =
    leaf_read_back _ _ _ _ _ _ refl _ _ (number_says (λ n. pos n) (little_number) _ _ _ c.args.part.len 4 (number unsigned w32) _ refl (λ bs h. unsigned-value w32 bs h)
    (rw (c.at-view.ensures.buffer, c.at-view.ensures.position) at c.get.ensures.number))
