-- Written by tools/derive: change the declaration, and run it again.
use Rattle.recursive_kinds.proofs.rule.rule_expressions.Goals as goal

pub returns : goal.returns
returns c = c.first_expression.ensures _ _ c.expression_of-4.ensures (c.first_expression-rest1.ensures _ _ c.expression_of-3.ensures (c.first_expression-rest2.ensures _ _ c.expression_of-2.ensures (c.first_expression-rest3.ensures _ _ c.expression_of.ensures (c.first_expression-rest4.ensures _ _ (c.run_expression.ensures _ c.named_expression.ensures) c.no_expressions-rest5.ensures))))
