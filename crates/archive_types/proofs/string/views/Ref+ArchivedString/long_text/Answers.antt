use Rattle.std.proofs.Common.{arith}
use Rattle.archive_check.proofs.Viewing.ViewedValues.{string_readable}
use Rattle.archive_types.proofs.Viewing.Shown.{string_shown}
use Rattle.archive_types.proofs.string.views.Ref+ArchivedString.long_text.Goals as goal

pub is_out_of_line-requires : goal.is_out_of_line-requires
is_out_of_line-requires c = omega (arith, string_shown _ _ _ (string_readable _ _ _ _ c.part-pos.ensures.viewed))

pub read_u32-requires : goal.read_u32-requires
read_u32-requires c = omega (arith, string_shown _ _ _ (string_readable _ _ _ _ c.part-pos.ensures.viewed))
