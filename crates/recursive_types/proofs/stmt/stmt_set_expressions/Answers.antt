-- Written by tools/derive: change the declaration, and run it again.
use Rattle.recursive_types.proofs.stmt.stmt_set_expressions.Goals as goal

pub returns : goal.returns
returns c = c.first_expression.ensures _ _ c.expression_of-2.ensures (c.first_expression-rest1.ensures _ _ c.expression_of.ensures c.no_expressions-rest2.ensures)
