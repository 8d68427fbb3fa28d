use Rattle.std.proofs.Common.{◌≡◌, string_bytes, arith, refl}
use Rattle.std.proofs.lemmas.Grind.{common_steps}
use Rattle.archive_check.specs.Reads.{bytes_at}
use Rattle.archive_check.proofs.Reading.ReadBack.{text_read_back}
use Rattle.archive_check.proofs.Viewing.ViewedValues.{text_says}
use Rattle.archive_types.proofs.string.ArchivedStrDeserializeUnsizedString.deserialize_unsized_part.Goals as goal

pub returns-clause-read : goal.returns-clause-read
returns-clause-read g c =
    let same : string_bytes c.in_ok-from_str.field-0 ≡ bytes_at c.args.part.bytes.now c.args.part.pos c.args.part.len = grind (arith, common_steps) in
    rw same (text_read_back _ _ _ _ _ _ refl _ (text_says _ _ _ _))
