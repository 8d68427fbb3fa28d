-- Written by tools/derive: change the declaration, and run it again.
use Rattle.recursive_fields.proofs.note.note_either_expressions.Goals as goal

pub returns : goal.returns
returns c = c.first_expression.ensures _ _ (c.boxed_expression-2.ensures _ c.named_expression-2.ensures) (c.first_expression-rest1.ensures _ _ (c.boxed_expression.ensures _ c.named_expression.ensures) c.no_expressions-rest2.ensures)
