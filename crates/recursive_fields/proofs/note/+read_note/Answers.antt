-- Written by tools/derive: change the declaration, and run it again.
use Rattle.archive_core.proofs.OwnersRead.{box_read, box_unread, vec_read, vec_unread}
use Rattle.archive_core.proofs.ReadChoices.{variant_read_back, variant_refuses}
use Rattle.archive_core.proofs.ReadElements.{all_have, elements_none, elements_more, elements_all, element_refused}
use Rattle.archive_core.proofs.ReadRecords.{record_read_back, record_refuses, first_refuses, later_refuses}
use Rattle.archive_core.specs.Choices.{option_shape}
use Rattle.archive_core.specs.Definitions.{both, no_definition}
use Rattle.archive_core.specs.Held.{read_as}
use Rattle.archive_core.specs.Options.{option_keys}
use Rattle.archive_core.specs.PartsReading.{part_read_back, no_part_read_back}
use Rattle.archive_core.specs.Readable.{target_from}
use Rattle.archive_core.specs.Reads.{u32_at}
use Rattle.archive_core.specs.Runs.{each_keys}
use Rattle.archive_core.specs.Shape.{boxed, vec, str, one, run, part, no_part}
use Rattle.archive_core.specs.Value.{value}
use Rattle.recursive_fields.specs.NoteMeaning.{note_meaning, note_keys, note_table_means, note_table_has_keys, note_about_means, note_about_has_keys, note_either_means, note_either_has_keys, note_several_means, note_several_has_keys, tuple3_string_note_option_string_meaning, tuple3_string_note_option_string_keys}
use Rattle.recursive_fields.specs.NoteShape.{note_layout, note_has_layout, tuple3_string_note_option_string_layout, tuple3_string_note_option_string_has_layout, note_name, note_shape, note_definitions, tuple3_string_note_option_string_shape, tuple3_string_note_option_string_parts, tuple3_string_note_option_string_definitions, tuple3_string_note_option_string_has_parts, note_variants, note_variant_definitions, note_has_variants, note_table_parts, note_table_definitions, note_about_parts, note_about_definitions, note_either_parts, note_either_definitions, note_several_parts, note_several_definitions}
use Rattle.std.proofs.Common.{inl, ◌≡◌, ◌<◌, ◌+◌, ◌++◌, ◌∷◌, [], length, refl, arith, pos}
use Rattle.std.proofs.lemmas.Grind.{common_steps}
use Rattle.std.specs.Prelude.{[], ◌++◌, ◌≡◌, refl, pos, length}
use Rattle.recursive_fields.proofs.note.+read_note.Goals as goal

pub read_tuple3_string_note_option_string-returns-in-Err-clause-refused : goal.read_tuple3_string_note_option_string-returns-in-Err-clause-refused
read_tuple3_string_note_option_string-returns-in-Err-clause-refused g t c = (record_refuses tuple3_string_note_option_string_definitions tuple3_string_note_option_string_shape tuple3_string_note_option_string_definitions tuple3_string_note_option_string_parts tuple3_string_note_option_string_has_parts _ _ _ _ _ (first_refuses no_definition (both note_definitions (both no_definition no_definition)) str (record { size = 8; align = 4 }) (record { solved = λ s k. refl }) (part note_shape (part (option_shape str) no_part)) _ _ 0 _ _ (rw (c.part_of_record-p0.ensures.buffer, c.part_of_record-p0.ensures.position, c.part_of_record-p0.ensures.length) at c.in-Err.ensures.refused)))

pub read_tuple3_string_note_option_string-returns-in-Err-read_note-clause-refused : goal.read_tuple3_string_note_option_string-returns-in-Err-read_note-clause-refused
read_tuple3_string_note_option_string-returns-in-Err-read_note-clause-refused g t c = (record_refuses tuple3_string_note_option_string_definitions tuple3_string_note_option_string_shape tuple3_string_note_option_string_definitions tuple3_string_note_option_string_parts tuple3_string_note_option_string_has_parts _ _ _ _ _ (later_refuses no_definition (both note_definitions (both no_definition no_definition)) str (record { size = 8; align = 4 }) (record { solved = λ s k. refl }) (part note_shape (part (option_shape str) no_part)) _ _ 0 _ _ _ c.in-Ok.ensures.read.kept (first_refuses note_definitions (both no_definition no_definition) note_shape (record { size = 12; align = 4 }) note_has_layout (part (option_shape str) no_part) _ _ 8 _ _ (rw (c.part_of_record-p1.ensures.buffer, c.part_of_record-p1.ensures.position, c.part_of_record-p1.ensures.length) at c.in-Err-read_note.ensures.refused))))

pub read_tuple3_string_note_option_string-returns-in-Err-read_part-clause-refused : goal.read_tuple3_string_note_option_string-returns-in-Err-read_part-clause-refused
read_tuple3_string_note_option_string-returns-in-Err-read_part-clause-refused g t c = (record_refuses tuple3_string_note_option_string_definitions tuple3_string_note_option_string_shape tuple3_string_note_option_string_definitions tuple3_string_note_option_string_parts tuple3_string_note_option_string_has_parts _ _ _ _ _ (later_refuses no_definition (both note_definitions (both no_definition no_definition)) str (record { size = 8; align = 4 }) (record { solved = λ s k. refl }) (part note_shape (part (option_shape str) no_part)) _ _ 0 _ _ _ c.in-Ok.ensures.read.kept (later_refuses note_definitions (both no_definition no_definition) note_shape (record { size = 12; align = 4 }) note_has_layout (part (option_shape str) no_part) _ _ 8 _ _ _ c.in-Ok-read_note.ensures.read.kept (first_refuses no_definition no_definition (option_shape str) (record { size = 12; align = 4 }) (record { solved = λ s k. refl }) no_part _ _ 20 _ _ (rw (c.part_of_record-p2.ensures.buffer, c.part_of_record-p2.ensures.position, c.part_of_record-p2.ensures.length) at c.in-Err-read_part.ensures.refused)))))

pub read_tuple3_string_note_option_string-returns-clause-read : goal.read_tuple3_string_note_option_string-returns-clause-read
read_tuple3_string_note_option_string-returns-clause-read g t c = record_read_back tuple3_string_note_option_string_definitions tuple3_string_note_option_string_shape tuple3_string_note_option_string_definitions tuple3_string_note_option_string_parts tuple3_string_note_option_string_has_parts _ _ _ _ _ _ _ (part_read_back {L = (record { size = 8; align = 4 })} {ks = []} {ls = ((note_keys c.in-Ok-read_note.a1) ++ ((option_keys (λ y. []) c.in-Ok-read_part.a2) ++ []))} (record { solved = λ s k. refl }) (rw (c.part_of_record-p0.ensures.buffer, c.part_of_record-p0.ensures.position, c.part_of_record-p0.ensures.length) at c.in-Ok.ensures.read) (part_read_back {L = (record { size = 12; align = 4 })} {ks = (note_keys c.in-Ok-read_note.a1)} {ls = ((option_keys (λ y. []) c.in-Ok-read_part.a2) ++ [])} note_has_layout (rw (c.part_of_record-p1.ensures.buffer, c.part_of_record-p1.ensures.position, c.part_of_record-p1.ensures.length) at c.in-Ok-read_note.ensures.read) (part_read_back {L = (record { size = 12; align = 4 })} {ks = (option_keys (λ y. []) c.in-Ok-read_part.a2)} {ls = []} (record { solved = λ s k. refl }) (rw (c.part_of_record-p2.ensures.buffer, c.part_of_record-p2.ensures.position, c.part_of_record-p2.ensures.length) at c.in-Ok-read_part.ensures.read) no_part_read_back)))

pub read_vec_tuple3_string_note_option_string-returns-in-Err-clause-refused : goal.read_vec_tuple3_string_note_option_string-returns-in-Err-clause-refused
read_vec_tuple3_string_note_option_string-returns-in-Err-clause-refused g t c = (let kept = c.loop-index.invariant in let b = c.before_vec-list.result.bytes.now in let q = c.before_vec-list.result.pos in let n = c.before_vec-list.result.len in let below : c.loop-index.index < n = omega (arith, c.loop-index-test.true, c.loop-index.auto.index-end, c.len-index-end.ensures) in let h = rw (c.part.ensures.buffer, c.part.ensures.position, c.part.ensures.length, c.index.ensures.buffer, c.index.ensures.position, c.index.ensures.length) at c.in-Err.ensures.refused in let r = element_refused tuple3_string_note_option_string_definitions tuple3_string_note_option_string_shape tuple3_string_note_option_string_layout tuple3_string_note_option_string_has_layout b q (run tuple3_string_note_option_string_shape) n n (all_have tuple3_string_note_option_string_definitions tuple3_string_note_option_string_shape tuple3_string_note_option_string_layout tuple3_string_note_option_string_has_layout b q n (run tuple3_string_note_option_string_shape) n (inl (refl, refl))) tuple3_string_note_option_string_meaning tuple3_string_note_option_string_keys (g.D.Entries.entry_of c.args.deserializer.now) (g.D.Entries.entry_of c.loop-index.deserializer) c.loop-index.items.items c.loop-index.index (one tuple3_string_note_option_string_shape) c.in-Err.error refl below (kept.3) h in vec_unread tuple3_string_note_option_string_definitions c.args.part.bytes.now c.args.part.pos c.args.part.len tuple3_string_note_option_string_shape (g.D.Entries.entry_of c.args.deserializer.now) c.in-Err.error c.requires (rw (c.before_vec-list.ensures.buffer, c.before_vec-list.ensures.position, c.before_vec-list.ensures.length, c.at-view.ensures.buffer, c.at-view.ensures.position) at r))

pub read_vec_tuple3_string_note_option_string-loop-index-preserved : goal.read_vec_tuple3_string_note_option_string-loop-index-preserved
read_vec_tuple3_string_note_option_string-loop-index-preserved g t c = (let kept = c.loop-index.invariant in let b = c.before_vec-list.result.bytes.now in let q = c.before_vec-list.result.pos in let n = c.before_vec-list.result.len in let below : c.loop-index.index < n = omega (arith, c.loop-index-test.true, c.loop-index.auto.index-end, c.len-index-end.ensures) in let pushed : c.push_reserved.new.self.items ≡ c.loop-index.items.items ++ c.in-Ok.item ∷ [] = grind (arith, common_steps) in let more : length (c.loop-index.items.items ++ c.in-Ok.item ∷ []) ≡ c.loop-index.index + 1 = grind (arith, common_steps, kept.0) in let h = rw (c.part.ensures.buffer, c.part.ensures.position, c.part.ensures.length, c.index.ensures.buffer, c.index.ensures.position, c.index.ensures.length) at c.in-Ok.ensures.read in rw pushed (more, grind (arith, common_steps, kept.1), grind (arith, common_steps, kept.2), elements_more tuple3_string_note_option_string_definitions tuple3_string_note_option_string_shape tuple3_string_note_option_string_layout tuple3_string_note_option_string_has_layout b q (run tuple3_string_note_option_string_shape) n n (all_have tuple3_string_note_option_string_definitions tuple3_string_note_option_string_shape tuple3_string_note_option_string_layout tuple3_string_note_option_string_has_layout b q n (run tuple3_string_note_option_string_shape) n (inl (refl, refl))) tuple3_string_note_option_string_meaning tuple3_string_note_option_string_keys (g.D.Entries.entry_of c.args.deserializer.now) (g.D.Entries.entry_of c.loop-index.deserializer) (g.D.Entries.entry_of c.read_tuple3_string_note_option_string.new.deserializer) c.loop-index.items.items c.in-Ok.item c.loop-index.index (one tuple3_string_note_option_string_shape) refl kept.0 below (kept.3) h))

pub read_vec_tuple3_string_note_option_string-returns-clause-read : goal.read_vec_tuple3_string_note_option_string-returns-clause-read
read_vec_tuple3_string_note_option_string-returns-clause-read g t c = (let kept = c.loop-index.invariant in let b = c.before_vec-list.result.bytes.now in let q = c.before_vec-list.result.pos in let n = c.before_vec-list.result.len in let whole : length c.loop-index.items.items ≡ n = omega (arith, kept.0, c.loop-index-test.false, c.loop-index.auto.index-end, c.len-index-end.ensures) in let r = elements_all tuple3_string_note_option_string_definitions tuple3_string_note_option_string_shape tuple3_string_note_option_string_layout tuple3_string_note_option_string_has_layout b q (run tuple3_string_note_option_string_shape) n n (all_have tuple3_string_note_option_string_definitions tuple3_string_note_option_string_shape tuple3_string_note_option_string_layout tuple3_string_note_option_string_has_layout b q n (run tuple3_string_note_option_string_shape) n (inl (refl, refl))) tuple3_string_note_option_string_meaning tuple3_string_note_option_string_keys (g.D.Entries.entry_of c.args.deserializer.now) (g.D.Entries.entry_of c.loop-index.deserializer) c.loop-index.items.items whole (kept.3) in vec_read tuple3_string_note_option_string_definitions c.args.part.bytes.now c.args.part.pos c.args.part.len tuple3_string_note_option_string_shape _ _ _ _ c.requires (rw (c.before_vec-list.ensures.buffer, c.before_vec-list.ensures.position, c.before_vec-list.ensures.length, c.at-view.ensures.buffer, c.at-view.ensures.position) at r))

pub read_box_note-returns-in-Err-clause-refused : goal.read_box_note-returns-in-Err-clause-refused
read_box_note-returns-in-Err-clause-refused g t c = box_unread note_definitions c.args.part.bytes.now c.args.part.pos c.args.part.len (one note_shape) (g.D.Entries.entry_of c.args.deserializer.now) c.in-Err.error c.requires (rw (c.part.ensures.buffer, c.part.ensures.position, c.part.ensures.length, c.before_box.ensures.buffer, c.before_box.ensures.position, c.before_box.ensures.length, c.at-view.ensures.buffer, c.at-view.ensures.position) at c.in-Err.ensures.refused)

pub read_box_note-returns-clause-read : goal.read_box_note-returns-clause-read
read_box_note-returns-clause-read g t c = (let same : c.in_ok-whole.whole.value ≡ c.in-Ok.value = grind (arith, common_steps) in rw same (box_read note_definitions c.args.part.bytes.now c.args.part.pos c.args.part.len (one note_shape) _ _ _ _ c.requires (rw (c.part.ensures.buffer, c.part.ensures.position, c.part.ensures.length, c.before_box.ensures.buffer, c.before_box.ensures.position, c.before_box.ensures.length, c.at-view.ensures.buffer, c.at-view.ensures.position) at c.in-Ok.ensures.read)))

pub read_vec_note-returns-then-is_empty-clause-read : goal.read_vec_note-returns-then-is_empty-clause-read
read_vec_note-returns-then-is_empty-clause-read g t c = (let none : 0 ≡ u32_at c.args.part.bytes.now (c.args.part.pos + 4) = grind (arith, c.is_empty.ensures, c.if-is_empty.true, c.at-view.ensures.buffer, c.at-view.ensures.position) in rw c.new.ensures.items (vec_read note_definitions c.args.part.bytes.now c.args.part.pos c.args.part.len note_shape _ _ _ _ c.requires (elements_all note_definitions note_shape note_layout note_has_layout c.args.part.bytes.now (target_from c.args.part.bytes.now c.args.part.pos c.args.part.pos) (run note_shape) (u32_at c.args.part.bytes.now (c.args.part.pos + 4)) (u32_at c.args.part.bytes.now (c.args.part.pos + 4)) (all_have note_definitions note_shape note_layout note_has_layout c.args.part.bytes.now (target_from c.args.part.bytes.now c.args.part.pos c.args.part.pos) (u32_at c.args.part.bytes.now (c.args.part.pos + 4)) (run note_shape) (u32_at c.args.part.bytes.now (c.args.part.pos + 4)) (inl (refl, refl))) note_meaning note_keys (g.D.Entries.entry_of c.args.deserializer.now) (g.D.Entries.entry_of c.args.deserializer.now) [] none (elements_none note_definitions note_shape note_layout note_has_layout c.args.part.bytes.now (target_from c.args.part.bytes.now c.args.part.pos c.args.part.pos) (run note_shape) (u32_at c.args.part.bytes.now (c.args.part.pos + 4)) (u32_at c.args.part.bytes.now (c.args.part.pos + 4)) (all_have note_definitions note_shape note_layout note_has_layout c.args.part.bytes.now (target_from c.args.part.bytes.now c.args.part.pos c.args.part.pos) (u32_at c.args.part.bytes.now (c.args.part.pos + 4)) (run note_shape) (u32_at c.args.part.bytes.now (c.args.part.pos + 4)) (inl (refl, refl))) note_meaning note_keys (g.D.Entries.entry_of c.args.deserializer.now)))))

pub read_each_note-returns-in-Err-clause-refused : goal.read_each_note-returns-in-Err-clause-refused
read_each_note-returns-in-Err-clause-refused g t c = (let kept = c.loop-index.invariant in let b = c.before_vec-list.result.bytes.now in let q = c.before_vec-list.result.pos in let n = c.before_vec-list.result.len in let below : c.loop-index.index < n = omega (arith, c.loop-index-test.true, c.loop-index.auto.index-end, c.len-index-end.ensures) in let h = rw (c.part.ensures.buffer, c.part.ensures.position, c.part.ensures.length, c.index.ensures.buffer, c.index.ensures.position, c.index.ensures.length) at c.in-Err.ensures.refused in let r = element_refused note_definitions note_shape note_layout note_has_layout b q (run note_shape) n n (all_have note_definitions note_shape note_layout note_has_layout b q n (run note_shape) n (inl (refl, refl))) note_meaning note_keys (g.D.Entries.entry_of c.args.deserializer.now) (g.D.Entries.entry_of c.loop-index.deserializer) c.loop-index.items.items c.loop-index.index (one note_shape) c.in-Err.error refl below (kept.3) h in vec_unread note_definitions c.args.part.bytes.now c.args.part.pos c.args.part.len note_shape (g.D.Entries.entry_of c.args.deserializer.now) c.in-Err.error c.requires (rw (c.before_vec-list.ensures.buffer, c.before_vec-list.ensures.position, c.before_vec-list.ensures.length, c.at-view.ensures.buffer, c.at-view.ensures.position) at r))

pub read_each_note-loop-index-preserved : goal.read_each_note-loop-index-preserved
read_each_note-loop-index-preserved g t c = (let kept = c.loop-index.invariant in let b = c.before_vec-list.result.bytes.now in let q = c.before_vec-list.result.pos in let n = c.before_vec-list.result.len in let below : c.loop-index.index < n = omega (arith, c.loop-index-test.true, c.loop-index.auto.index-end, c.len-index-end.ensures) in let pushed : c.push_reserved.new.self.items ≡ c.loop-index.items.items ++ c.in-Ok.item ∷ [] = grind (arith, common_steps) in let more : length (c.loop-index.items.items ++ c.in-Ok.item ∷ []) ≡ c.loop-index.index + 1 = grind (arith, common_steps, kept.0) in let h = rw (c.part.ensures.buffer, c.part.ensures.position, c.part.ensures.length, c.index.ensures.buffer, c.index.ensures.position, c.index.ensures.length) at c.in-Ok.ensures.read in rw pushed (more, grind (arith, common_steps, kept.1), grind (arith, common_steps, kept.2), elements_more note_definitions note_shape note_layout note_has_layout b q (run note_shape) n n (all_have note_definitions note_shape note_layout note_has_layout b q n (run note_shape) n (inl (refl, refl))) note_meaning note_keys (g.D.Entries.entry_of c.args.deserializer.now) (g.D.Entries.entry_of c.loop-index.deserializer) (g.D.Entries.entry_of c.read_note.new.deserializer) c.loop-index.items.items c.in-Ok.item c.loop-index.index (one note_shape) refl kept.0 below (kept.3) h))

pub read_each_note-returns-clause-read : goal.read_each_note-returns-clause-read
read_each_note-returns-clause-read g t c = (let kept = c.loop-index.invariant in let b = c.before_vec-list.result.bytes.now in let q = c.before_vec-list.result.pos in let n = c.before_vec-list.result.len in let whole : length c.loop-index.items.items ≡ n = omega (arith, kept.0, c.loop-index-test.false, c.loop-index.auto.index-end, c.len-index-end.ensures) in let r = elements_all note_definitions note_shape note_layout note_has_layout b q (run note_shape) n n (all_have note_definitions note_shape note_layout note_has_layout b q n (run note_shape) n (inl (refl, refl))) note_meaning note_keys (g.D.Entries.entry_of c.args.deserializer.now) (g.D.Entries.entry_of c.loop-index.deserializer) c.loop-index.items.items whole (kept.3) in vec_read note_definitions c.args.part.bytes.now c.args.part.pos c.args.part.len note_shape _ _ _ _ c.requires (rw (c.before_vec-list.ensures.buffer, c.before_vec-list.ensures.position, c.before_vec-list.ensures.length, c.at-view.ensures.buffer, c.at-view.ensures.position) at r))

pub read_note_table-returns-in-Err-clause-refused : goal.read_note_table-returns-in-Err-clause-refused
read_note_table-returns-in-Err-clause-refused g t c = (variant_refuses note_definitions note_shape note_name note_variant_definitions note_variants note_has_variants 2 note_table_parts refl note_table_definitions refl _ _ _ c.requires.tag _ _ (first_refuses tuple3_string_note_option_string_definitions no_definition (vec tuple3_string_note_option_string_shape) (record { size = 8; align = 4 }) (record { solved = λ s k. refl }) no_part _ _ 1 _ _ (rw (c.part_0_of_note_table-p0.ensures.buffer, c.part_0_of_note_table-p0.ensures.position, c.part_0_of_note_table-p0.ensures.length) at c.in-Err.ensures.refused)))

pub read_note_table-returns-clause-read : goal.read_note_table-returns-clause-read
read_note_table-returns-clause-read g t c = read_as (note_table_has_keys c.in-Ok.a0) (note_table_means c.in-Ok.a0) (variant_read_back note_definitions note_shape note_name note_variant_definitions note_variants note_has_variants 2 note_table_parts refl note_table_definitions refl _ _ _ c.requires.tag _ _ _ _ (part_read_back {L = (record { size = 8; align = 4 })} {ks = (each_keys (λ y. ([] ++ ((note_keys y.1) ++ ((option_keys (λ y. []) y.2) ++ [])))) c.in-Ok.a0.items)} {ls = []} (record { solved = λ s k. refl }) (rw (c.part_0_of_note_table-p0.ensures.buffer, c.part_0_of_note_table-p0.ensures.position, c.part_0_of_note_table-p0.ensures.length) at c.in-Ok.ensures.read) no_part_read_back))

pub read_note_about-returns-in-Err-clause-refused : goal.read_note_about-returns-in-Err-clause-refused
read_note_about-returns-in-Err-clause-refused g t c = (variant_refuses note_definitions note_shape note_name note_variant_definitions note_variants note_has_variants 5 note_about_parts refl note_about_definitions refl _ _ _ c.requires.tag _ _ (first_refuses note_definitions no_definition (boxed (one note_shape)) (record { size = 4; align = 4 }) (record { solved = λ s k. refl }) no_part _ _ 1 _ _ (rw (c.part_0_of_note_about-p0.ensures.buffer, c.part_0_of_note_about-p0.ensures.position, c.part_0_of_note_about-p0.ensures.length) at c.in-Err.ensures.refused)))

pub read_note_about-returns-clause-read : goal.read_note_about-returns-clause-read
read_note_about-returns-clause-read g t c = read_as (note_about_has_keys c.in-Ok.a0) (note_about_means c.in-Ok.a0) (variant_read_back note_definitions note_shape note_name note_variant_definitions note_variants note_has_variants 5 note_about_parts refl note_about_definitions refl _ _ _ c.requires.tag _ _ _ _ (part_read_back {L = (record { size = 4; align = 4 })} {ks = (note_keys c.in-Ok.a0.value)} {ls = []} (record { solved = λ s k. refl }) (rw (c.part_0_of_note_about-p0.ensures.buffer, c.part_0_of_note_about-p0.ensures.position, c.part_0_of_note_about-p0.ensures.length) at c.in-Ok.ensures.read) no_part_read_back))

pub read_note_either-returns-in-Err-clause-refused : goal.read_note_either-returns-in-Err-clause-refused
read_note_either-returns-in-Err-clause-refused g t c = (variant_refuses note_definitions note_shape note_name note_variant_definitions note_variants note_has_variants 6 note_either_parts refl note_either_definitions refl _ _ _ c.requires.tag _ _ (first_refuses note_definitions (both note_definitions no_definition) (boxed (one note_shape)) (record { size = 4; align = 4 }) (record { solved = λ s k. refl }) (part (boxed (one note_shape)) no_part) _ _ 1 _ _ (rw (c.part_0_of_note_either-p0.ensures.buffer, c.part_0_of_note_either-p0.ensures.position, c.part_0_of_note_either-p0.ensures.length) at c.in-Err.ensures.refused)))

pub read_note_either-returns-in-Err-read_box_note-clause-refused : goal.read_note_either-returns-in-Err-read_box_note-clause-refused
read_note_either-returns-in-Err-read_box_note-clause-refused g t c = (variant_refuses note_definitions note_shape note_name note_variant_definitions note_variants note_has_variants 6 note_either_parts refl note_either_definitions refl _ _ _ c.requires.tag _ _ (later_refuses note_definitions (both note_definitions no_definition) (boxed (one note_shape)) (record { size = 4; align = 4 }) (record { solved = λ s k. refl }) (part (boxed (one note_shape)) no_part) _ _ 1 _ _ _ c.in-Ok.ensures.read.kept (first_refuses note_definitions no_definition (boxed (one note_shape)) (record { size = 4; align = 4 }) (record { solved = λ s k. refl }) no_part _ _ 8 _ _ (rw (c.part_1_of_note_either-p1.ensures.buffer, c.part_1_of_note_either-p1.ensures.position, c.part_1_of_note_either-p1.ensures.length) at c.in-Err-read_box_note.ensures.refused))))

pub read_note_either-returns-clause-read : goal.read_note_either-returns-clause-read
read_note_either-returns-clause-read g t c = read_as (note_either_has_keys c.in-Ok.a0 c.in-Ok-read_box_note.a1) (note_either_means c.in-Ok.a0 c.in-Ok-read_box_note.a1) (variant_read_back note_definitions note_shape note_name note_variant_definitions note_variants note_has_variants 6 note_either_parts refl note_either_definitions refl _ _ _ c.requires.tag _ _ _ _ (part_read_back {L = (record { size = 4; align = 4 })} {ks = (note_keys c.in-Ok.a0.value)} {ls = ((note_keys c.in-Ok-read_box_note.a1.value) ++ [])} (record { solved = λ s k. refl }) (rw (c.part_0_of_note_either-p0.ensures.buffer, c.part_0_of_note_either-p0.ensures.position, c.part_0_of_note_either-p0.ensures.length) at c.in-Ok.ensures.read) (part_read_back {L = (record { size = 4; align = 4 })} {ks = (note_keys c.in-Ok-read_box_note.a1.value)} {ls = []} (record { solved = λ s k. refl }) (rw (c.part_1_of_note_either-p1.ensures.buffer, c.part_1_of_note_either-p1.ensures.position, c.part_1_of_note_either-p1.ensures.length) at c.in-Ok-read_box_note.ensures.read) no_part_read_back)))

pub read_note_several-returns-in-Err-clause-refused : goal.read_note_several-returns-in-Err-clause-refused
read_note_several-returns-in-Err-clause-refused g t c = (variant_refuses note_definitions note_shape note_name note_variant_definitions note_variants note_has_variants 7 note_several_parts refl note_several_definitions refl _ _ _ c.requires.tag _ _ (first_refuses note_definitions no_definition (vec note_shape) (record { size = 8; align = 4 }) (record { solved = λ s k. refl }) no_part _ _ 1 _ _ (rw (c.part_0_of_note_several-p0.ensures.buffer, c.part_0_of_note_several-p0.ensures.position, c.part_0_of_note_several-p0.ensures.length) at c.in-Err.ensures.refused)))

pub read_note_several-returns-clause-read : goal.read_note_several-returns-clause-read
read_note_several-returns-clause-read g t c = read_as (note_several_has_keys c.in-Ok.a0) (note_several_means c.in-Ok.a0) (variant_read_back note_definitions note_shape note_name note_variant_definitions note_variants note_has_variants 7 note_several_parts refl note_several_definitions refl _ _ _ c.requires.tag _ _ _ _ (part_read_back {L = (record { size = 8; align = 4 })} {ks = (each_keys note_keys c.in-Ok.a0.items)} {ls = []} (record { solved = λ s k. refl }) (rw (c.part_0_of_note_several-p0.ensures.buffer, c.part_0_of_note_several-p0.ensures.position, c.part_0_of_note_several-p0.ensures.length) at c.in-Ok.ensures.read) no_part_read_back))
