-- Written by tools/derive: change the declaration, and run it again.
use Rattle.recursive_fields.proofs.json.json_expressions.Goals as goal

pub returns : goal.returns
returns c = c.first_variant.ensures _ _ c.no_expressions.ensures (c.first_variant-rest1.ensures _ _ c.json_number_expressions.ensures (c.first_variant-rest2.ensures _ _ c.json_text_expressions.ensures (c.first_variant-rest3.ensures _ _ c.json_list_expressions.ensures (c.first_variant-rest4.ensures _ _ c.json_object_expressions.ensures c.no_variants-rest5.ensures))))
