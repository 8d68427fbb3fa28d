use Rattle.std.proofs.Common.{◌≡◌, string_bytes, arith, refl}
use Rattle.std.proofs.lemmas.Grind.{common_steps}
use Rattle.archive_check.specs.Readable.{string_text}
use Rattle.archive_check.proofs.Reading.ReadBack.{string_read_back}
use Rattle.archive_check.proofs.Viewing.ViewedValues.{string_says}
use Rattle.archive_types.proofs.string.ArchivedStringDeserializeString.deserialize_part.Goals as goal

pub returns-clause-read : goal.returns-clause-read
returns-clause-read g c =
    let same : string_bytes c.in_ok-from_str.field-0 ≡ string_text c.args.part.bytes.now c.args.part.pos = grind (arith, common_steps) in
    rw same (string_read_back _ _ _ _ _ _ refl _ (string_says _ _ _ c.args.part.len))
