use Rattle.std.proofs.Common.{◌∙◌, ap}
use Rattle.std.proofs.lemmas.Int.{to_z-of_z}
use Rattle.std.specs.Int.{w128, cast_unsigned}
use Rattle.archive_check.specs.LittleEndian.{little_bytes}
use Rattle.archive_check.proofs.LittleEndian.{to_le_bytes-little}
use Rattle.archive_num.proofs.native.signed.I128Native.write_to.Goals as goal

pub returns-clause-bytes : goal.returns-clause-bytes
returns-clause-bytes c =
    c.copy_from_slice.ensures.after
    ∙ c.to_le_bytes.ensures
    ∙ to_le_bytes-little w128 _
    ∙ ap (λ z. little_bytes 16 (cast_unsigned w128 z)) (to_z-of_z w128 c.args.self c.ranges.self)
