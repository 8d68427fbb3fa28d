use Rattle.std.proofs.Common.{refl, arith}
use Rattle.std.proofs.lemmas.Grind.{common_steps}
use Rattle.std.specs.Int.{w32, cast_signed}
use Rattle.archive_check.specs.Shape.{number, signed}
use Rattle.archive_check.specs.LittleEndian.{little_number}
use Rattle.archive_num.specs.NumberLaws.{signed-value}
use Rattle.archive_check.proofs.Reading.ReadBack.{leaf_read_back}
use Rattle.archive_types.proofs.Viewing.Shown.{number_says}
use Rattle.archive_types.proofs.primitive.sizes.ArchivedIsizeDeserializeIsize.deserialize_part.Goals as goal

pub returns-clause-read : goal.returns-clause-read
returns-clause-read g c =
    leaf_read_back _ _ _ _ _ _ refl _ _ (number_says (λ z. z) (λ bs. cast_signed w32 (little_number bs)) _ _ _ c.args.part.len 4 (number signed w32) _ refl (λ bs h. signed-value w32 bs h) (grind (arith, common_steps)))
