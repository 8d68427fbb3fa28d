-- Written by tools/derive: change the declaration, and run it again.
use Rattle.recursive_types.proofs.dir.entry_expressions.Goals as goal

pub returns : goal.returns
returns c = c.first_variant.ensures _ _ c.entry_file_expressions.ensures (c.first_variant-rest1.ensures _ _ c.entry_sub_expressions.ensures c.no_variants-rest2.ensures)
