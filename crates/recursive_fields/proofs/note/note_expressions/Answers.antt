-- Written by tools/derive: change the declaration, and run it again.
use Rattle.recursive_fields.proofs.note.note_expressions.Goals as goal

pub returns : goal.returns
returns c = c.first_variant.ensures _ _ c.note_text_expressions.ensures (c.first_variant-rest1.ensures _ _ c.note_work_expressions.ensures (c.first_variant-rest2.ensures _ _ c.note_table_expressions.ensures (c.first_variant-rest3.ensures _ _ c.note_done_expressions.ensures (c.first_variant-rest4.ensures _ _ c.note_days_expressions.ensures (c.first_variant-rest5.ensures _ _ c.note_about_expressions.ensures (c.first_variant-rest6.ensures _ _ c.note_either_expressions.ensures (c.first_variant-rest7.ensures _ _ c.note_several_expressions.ensures c.no_variants-rest8.ensures)))))))
