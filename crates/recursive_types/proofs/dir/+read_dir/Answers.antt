-- Written by tools/derive: change the declaration, and run it again.
use Rattle.archive_core.proofs.OwnersRead.{box_read, box_unread, vec_read, vec_unread}
use Rattle.archive_core.proofs.ReadChoices.{variant_read_back, variant_refuses}
use Rattle.archive_core.proofs.ReadElements.{all_have, elements_none, elements_more, elements_all, element_refused}
use Rattle.archive_core.proofs.ReadRecords.{record_read_back, record_refuses, first_refuses, later_refuses}
use Rattle.archive_core.specs.Definitions.{both, no_definition}
use Rattle.archive_core.specs.Held.{read_as}
use Rattle.archive_core.specs.PartsReading.{part_read_back, no_part_read_back}
use Rattle.archive_core.specs.Readable.{target_from}
use Rattle.archive_core.specs.Reads.{u32_at}
use Rattle.archive_core.specs.Runs.{each_keys}
use Rattle.archive_core.specs.Shape.{boxed, vec, str, one, run, part, no_part}
use Rattle.archive_core.specs.Value.{value}
use Rattle.recursive_types.specs.DirMeaning.{dir_keys, dir_means_roll, dir_has_keys_roll, entry_meaning, entry_keys, entry_sub_means, entry_sub_has_keys}
use Rattle.recursive_types.specs.DirShape.{dir_shape, dir_definitions, dir_parts, dir_part_definitions, dir_has_parts, entry_layout, entry_has_layout, entry_name, entry_shape, entry_definitions, entry_variants, entry_variant_definitions, entry_has_variants, entry_sub_parts, entry_sub_definitions}
use Rattle.std.proofs.Common.{inl, ◌≡◌, ◌<◌, ◌+◌, ◌++◌, ◌∷◌, [], length, refl, arith, pos}
use Rattle.std.proofs.lemmas.Grind.{common_steps}
use Rattle.std.specs.Prelude.{[], ◌++◌, ◌≡◌, refl, pos, length}
use Rattle.recursive_types.proofs.dir.+read_dir.Goals as goal

pub read_vec_entry-returns-then-is_empty-clause-read : goal.read_vec_entry-returns-then-is_empty-clause-read
read_vec_entry-returns-then-is_empty-clause-read g t c = (let none : 0 ≡ u32_at c.args.part.bytes.now (c.args.part.pos + 4) = grind (arith, c.is_empty.ensures, c.if-is_empty.true, c.at-view.ensures.buffer, c.at-view.ensures.position) in rw c.new.ensures.items (vec_read dir_definitions c.args.part.bytes.now c.args.part.pos c.args.part.len entry_shape _ _ _ _ c.requires (elements_all dir_definitions entry_shape entry_layout entry_has_layout c.args.part.bytes.now (target_from c.args.part.bytes.now c.args.part.pos c.args.part.pos) (run entry_shape) (u32_at c.args.part.bytes.now (c.args.part.pos + 4)) (u32_at c.args.part.bytes.now (c.args.part.pos + 4)) (all_have dir_definitions entry_shape entry_layout entry_has_layout c.args.part.bytes.now (target_from c.args.part.bytes.now c.args.part.pos c.args.part.pos) (u32_at c.args.part.bytes.now (c.args.part.pos + 4)) (run entry_shape) (u32_at c.args.part.bytes.now (c.args.part.pos + 4)) (inl (refl, refl))) entry_meaning entry_keys (g.D.Entries.entry_of c.args.deserializer.now) (g.D.Entries.entry_of c.args.deserializer.now) [] none (elements_none dir_definitions entry_shape entry_layout entry_has_layout c.args.part.bytes.now (target_from c.args.part.bytes.now c.args.part.pos c.args.part.pos) (run entry_shape) (u32_at c.args.part.bytes.now (c.args.part.pos + 4)) (u32_at c.args.part.bytes.now (c.args.part.pos + 4)) (all_have dir_definitions entry_shape entry_layout entry_has_layout c.args.part.bytes.now (target_from c.args.part.bytes.now c.args.part.pos c.args.part.pos) (u32_at c.args.part.bytes.now (c.args.part.pos + 4)) (run entry_shape) (u32_at c.args.part.bytes.now (c.args.part.pos + 4)) (inl (refl, refl))) entry_meaning entry_keys (g.D.Entries.entry_of c.args.deserializer.now)))))

pub read_each_entry-returns-in-Err-clause-refused : goal.read_each_entry-returns-in-Err-clause-refused
read_each_entry-returns-in-Err-clause-refused g t c = (let kept = c.loop-index.invariant in let b = c.before_vec-list.result.bytes.now in let q = c.before_vec-list.result.pos in let n = c.before_vec-list.result.len in let below : c.loop-index.index < n = omega (arith, c.loop-index-test.true, c.loop-index.auto.index-end, c.len-index-end.ensures) in let h = rw (c.part.ensures.buffer, c.part.ensures.position, c.part.ensures.length, c.index.ensures.buffer, c.index.ensures.position, c.index.ensures.length) at c.in-Err.ensures.refused in let r = element_refused dir_definitions entry_shape entry_layout entry_has_layout b q (run entry_shape) n n (all_have dir_definitions entry_shape entry_layout entry_has_layout b q n (run entry_shape) n (inl (refl, refl))) entry_meaning entry_keys (g.D.Entries.entry_of c.args.deserializer.now) (g.D.Entries.entry_of c.loop-index.deserializer) c.loop-index.items.items c.loop-index.index (one entry_shape) c.in-Err.error refl below (kept.3) h in vec_unread dir_definitions c.args.part.bytes.now c.args.part.pos c.args.part.len entry_shape (g.D.Entries.entry_of c.args.deserializer.now) c.in-Err.error c.requires (rw (c.before_vec-list.ensures.buffer, c.before_vec-list.ensures.position, c.before_vec-list.ensures.length, c.at-view.ensures.buffer, c.at-view.ensures.position) at r))

pub read_each_entry-loop-index-preserved : goal.read_each_entry-loop-index-preserved
read_each_entry-loop-index-preserved g t c = (let kept = c.loop-index.invariant in let b = c.before_vec-list.result.bytes.now in let q = c.before_vec-list.result.pos in let n = c.before_vec-list.result.len in let below : c.loop-index.index < n = omega (arith, c.loop-index-test.true, c.loop-index.auto.index-end, c.len-index-end.ensures) in let pushed : c.push_reserved.new.self.items ≡ c.loop-index.items.items ++ c.in-Ok.item ∷ [] = grind (arith, common_steps) in let more : length (c.loop-index.items.items ++ c.in-Ok.item ∷ []) ≡ c.loop-index.index + 1 = grind (arith, common_steps, kept.0) in let h = rw (c.part.ensures.buffer, c.part.ensures.position, c.part.ensures.length, c.index.ensures.buffer, c.index.ensures.position, c.index.ensures.length) at c.in-Ok.ensures.read in rw pushed (more, grind (arith, common_steps, kept.1), grind (arith, common_steps, kept.2), elements_more dir_definitions entry_shape entry_layout entry_has_layout b q (run entry_shape) n n (all_have dir_definitions entry_shape entry_layout entry_has_layout b q n (run entry_shape) n (inl (refl, refl))) entry_meaning entry_keys (g.D.Entries.entry_of c.args.deserializer.now) (g.D.Entries.entry_of c.loop-index.deserializer) (g.D.Entries.entry_of c.read_entry.new.deserializer) c.loop-index.items.items c.in-Ok.item c.loop-index.index (one entry_shape) refl kept.0 below (kept.3) h))

pub read_each_entry-returns-clause-read : goal.read_each_entry-returns-clause-read
read_each_entry-returns-clause-read g t c = (let kept = c.loop-index.invariant in let b = c.before_vec-list.result.bytes.now in let q = c.before_vec-list.result.pos in let n = c.before_vec-list.result.len in let whole : length c.loop-index.items.items ≡ n = omega (arith, kept.0, c.loop-index-test.false, c.loop-index.auto.index-end, c.len-index-end.ensures) in let r = elements_all dir_definitions entry_shape entry_layout entry_has_layout b q (run entry_shape) n n (all_have dir_definitions entry_shape entry_layout entry_has_layout b q n (run entry_shape) n (inl (refl, refl))) entry_meaning entry_keys (g.D.Entries.entry_of c.args.deserializer.now) (g.D.Entries.entry_of c.loop-index.deserializer) c.loop-index.items.items whole (kept.3) in vec_read dir_definitions c.args.part.bytes.now c.args.part.pos c.args.part.len entry_shape _ _ _ _ c.requires (rw (c.before_vec-list.ensures.buffer, c.before_vec-list.ensures.position, c.before_vec-list.ensures.length, c.at-view.ensures.buffer, c.at-view.ensures.position) at r))

pub read_dir-returns-in-Err-clause-refused : goal.read_dir-returns-in-Err-clause-refused
read_dir-returns-in-Err-clause-refused g t c = (record_refuses dir_definitions dir_shape dir_part_definitions dir_parts dir_has_parts _ _ _ _ _ (first_refuses no_definition (both dir_definitions no_definition) str (record { size = 8; align = 4 }) (record { solved = λ s k. refl }) (part (vec entry_shape) no_part) _ _ 0 _ _ (rw (c.part_of_record-p0.ensures.buffer, c.part_of_record-p0.ensures.position, c.part_of_record-p0.ensures.length) at c.in-Err.ensures.refused)))

pub read_dir-returns-in-Err-read_vec_entry-clause-refused : goal.read_dir-returns-in-Err-read_vec_entry-clause-refused
read_dir-returns-in-Err-read_vec_entry-clause-refused g t c = (record_refuses dir_definitions dir_shape dir_part_definitions dir_parts dir_has_parts _ _ _ _ _ (later_refuses no_definition (both dir_definitions no_definition) str (record { size = 8; align = 4 }) (record { solved = λ s k. refl }) (part (vec entry_shape) no_part) _ _ 0 _ _ _ c.in-Ok.ensures.read.kept (first_refuses dir_definitions no_definition (vec entry_shape) (record { size = 8; align = 4 }) (record { solved = λ s k. refl }) no_part _ _ 8 _ _ (rw (c.part_of_record-p1.ensures.buffer, c.part_of_record-p1.ensures.position, c.part_of_record-p1.ensures.length) at c.in-Err-read_vec_entry.ensures.refused))))

pub read_dir-returns-clause-read : goal.read_dir-returns-clause-read
read_dir-returns-clause-read g t c = read_as (dir_has_keys_roll (record { name = c.in-Ok.a0; entries = c.in-Ok-read_vec_entry.a1 })) (dir_means_roll (record { name = c.in-Ok.a0; entries = c.in-Ok-read_vec_entry.a1 })) (record_read_back dir_definitions dir_shape dir_part_definitions dir_parts dir_has_parts _ _ _ _ _ _ _ (part_read_back {L = (record { size = 8; align = 4 })} {ks = []} {ls = ((each_keys entry_keys c.in-Ok-read_vec_entry.a1.items) ++ [])} (record { solved = λ s k. refl }) (rw (c.part_of_record-p0.ensures.buffer, c.part_of_record-p0.ensures.position, c.part_of_record-p0.ensures.length) at c.in-Ok.ensures.read) (part_read_back {L = (record { size = 8; align = 4 })} {ks = (each_keys entry_keys c.in-Ok-read_vec_entry.a1.items)} {ls = []} (record { solved = λ s k. refl }) (rw (c.part_of_record-p1.ensures.buffer, c.part_of_record-p1.ensures.position, c.part_of_record-p1.ensures.length) at c.in-Ok-read_vec_entry.ensures.read) no_part_read_back)))

pub read_box_dir-returns-in-Err-clause-refused : goal.read_box_dir-returns-in-Err-clause-refused
read_box_dir-returns-in-Err-clause-refused g t c = box_unread entry_definitions c.args.part.bytes.now c.args.part.pos c.args.part.len (one dir_shape) (g.D.Entries.entry_of c.args.deserializer.now) c.in-Err.error c.requires (rw (c.part.ensures.buffer, c.part.ensures.position, c.part.ensures.length, c.before_box.ensures.buffer, c.before_box.ensures.position, c.before_box.ensures.length, c.at-view.ensures.buffer, c.at-view.ensures.position) at c.in-Err.ensures.refused)

pub read_box_dir-returns-clause-read : goal.read_box_dir-returns-clause-read
read_box_dir-returns-clause-read g t c = (let same : c.in_ok-whole.whole.value ≡ c.in-Ok.value = grind (arith, common_steps) in rw same (box_read entry_definitions c.args.part.bytes.now c.args.part.pos c.args.part.len (one dir_shape) _ _ _ _ c.requires (rw (c.part.ensures.buffer, c.part.ensures.position, c.part.ensures.length, c.before_box.ensures.buffer, c.before_box.ensures.position, c.before_box.ensures.length, c.at-view.ensures.buffer, c.at-view.ensures.position) at c.in-Ok.ensures.read)))

pub read_entry_sub-returns-in-Err-clause-refused : goal.read_entry_sub-returns-in-Err-clause-refused
read_entry_sub-returns-in-Err-clause-refused g t c = (variant_refuses entry_definitions entry_shape entry_name entry_variant_definitions entry_variants entry_has_variants 1 entry_sub_parts refl entry_sub_definitions refl _ _ _ c.requires.tag _ _ (first_refuses entry_definitions no_definition (boxed (one dir_shape)) (record { size = 4; align = 4 }) (record { solved = λ s k. refl }) no_part _ _ 1 _ _ (rw (c.part_0_of_entry_sub-p0.ensures.buffer, c.part_0_of_entry_sub-p0.ensures.position, c.part_0_of_entry_sub-p0.ensures.length) at c.in-Err.ensures.refused)))

pub read_entry_sub-returns-clause-read : goal.read_entry_sub-returns-clause-read
read_entry_sub-returns-clause-read g t c = read_as (entry_sub_has_keys c.in-Ok.a0) (entry_sub_means c.in-Ok.a0) (variant_read_back entry_definitions entry_shape entry_name entry_variant_definitions entry_variants entry_has_variants 1 entry_sub_parts refl entry_sub_definitions refl _ _ _ c.requires.tag _ _ _ _ (part_read_back {L = (record { size = 4; align = 4 })} {ks = (dir_keys c.in-Ok.a0.value)} {ls = []} (record { solved = λ s k. refl }) (rw (c.part_0_of_entry_sub-p0.ensures.buffer, c.part_0_of_entry_sub-p0.ensures.position, c.part_0_of_entry_sub-p0.ensures.length) at c.in-Ok.ensures.read) no_part_read_back))
