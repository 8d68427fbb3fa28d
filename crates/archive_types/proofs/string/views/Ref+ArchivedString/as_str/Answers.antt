use Rattle.std.proofs.Common.{arith}
use Rattle.archive_check.proofs.Viewing.ViewedValues.{string_readable, inline_says}
use Rattle.archive_types.proofs.Viewing.Shown.{string_shown, inline_shown}
use Rattle.archive_types.proofs.string.views.Ref+ArchivedString.as_str.Goals as goal

pub is_out_of_line-requires : goal.is_out_of_line-requires
is_out_of_line-requires c = omega (arith, string_shown _ _ _ (string_readable _ _ _ _ c.part-pos.ensures.viewed))

pub inline_length-requires : goal.inline_length-requires
inline_length-requires c = string_shown _ _ _ (string_readable _ _ _ _ c.part-pos.ensures.viewed)

pub read_text-requires-clause-within : goal.read_text-requires-clause-within
read_text-requires-clause-within c = omega (arith, string_shown _ _ _ (string_readable _ _ _ _ c.part-pos.ensures.viewed), c.inline_length.ensures.short)

pub read_text-requires-clause-utf8 : goal.read_text-requires-clause-utf8
read_text-requires-clause-utf8 c = rw c.inline_length.ensures.text (inline_shown _ _ _ (λ o. let t = c.is_out_of_line.ensures.1 o in cc) (string_readable _ _ _ _ c.part-pos.ensures.viewed))

pub returns-clause-says : goal.returns-clause-says
returns-clause-says c =
    rw (c.read_text.ensures, c.inline_length.ensures.text, ← c.part-pos.ensures.buffer, ← c.part-pos.ensures.position) (inline_says _ _ _ _ (λ o. let t = c.is_out_of_line.ensures.1 o in cc))
