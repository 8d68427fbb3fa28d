use Rattle.std.proofs.Common.{◌∙◌}
use Rattle.std.specs.Int.{w128}
use Rattle.archive_check.proofs.LittleEndian.{to_le_bytes-little}
use Rattle.archive_num.proofs.native.unsigned.U128Native.write_to.Goals as goal

pub returns-clause-bytes : goal.returns-clause-bytes
returns-clause-bytes c =
    c.copy_from_slice.ensures.after ∙ c.to_le_bytes.ensures ∙ to_le_bytes-little w128 c.args.self
