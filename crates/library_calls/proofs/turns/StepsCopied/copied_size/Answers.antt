-- Written by tools/derive: change the declaration, and run it again.
use Rattle.archive_core.proofs.fields.CloseFields.{plain_owns_nothing, plain_leaf, plain_none, plain_part, plain_parts}
use Rattle.library_calls.proofs.turns.StepsCopied.copied_size.Goals as goal

pub returns-clause-owns_nothing : goal.returns-clause-owns_nothing
returns-clause-owns_nothing c v = plain_owns_nothing (plain_parts (plain_part plain_leaf (plain_part plain_leaf plain_none)))
