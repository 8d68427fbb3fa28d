use Rattle.std.proofs.Common.{arith}
use Rattle.archive_check.proofs.Viewing.ViewedValues.{string_readable}
use Rattle.archive_types.proofs.Viewing.Shown.{string_shown}
use Rattle.archive_types.proofs.string.views.Ref+ArchivedString.out_of_line_offset.Goals as goal

pub read_i32-requires : goal.read_i32-requires
read_i32-requires c = omega (arith, string_shown _ _ _ (string_readable _ _ _ _ c.part-pos.ensures.viewed))
