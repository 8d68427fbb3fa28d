use Rattle.archive_check.proofs.Viewing.ViewedValues.{text_readable, text_says}
use Rattle.archive_types.proofs.Viewing.Shown.{text_shown}
use Rattle.archive_types.proofs.string.views.Ref+ArchivedStr.as_str.Goals as goal

pub read_text-requires-clause-utf8 : goal.read_text-requires-clause-utf8
read_text-requires-clause-utf8 c = (text_shown _ _ _ (text_readable _ _ _ _ c.part-pos.ensures.viewed)).utf8

pub read_text-requires-clause-within : goal.read_text-requires-clause-within
read_text-requires-clause-within c = (text_shown _ _ _ (text_readable _ _ _ _ c.part-pos.ensures.viewed)).fits

pub returns-clause-says : goal.returns-clause-says
returns-clause-says c = rw (c.read_text.ensures, ← c.part-pos.ensures.buffer, ← c.part-pos.ensures.position, ← c.part-pos.ensures.length) (text_says _ _ _ _)
