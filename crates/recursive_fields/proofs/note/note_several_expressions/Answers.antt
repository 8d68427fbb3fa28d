-- Written by tools/derive: change the declaration, and run it again.
use Rattle.recursive_fields.proofs.note.note_several_expressions.Goals as goal

pub returns : goal.returns
returns c = c.first_expression.ensures _ _ (c.vec_expression.ensures _ c.named_expression.ensures) c.no_expressions-rest1.ensures
