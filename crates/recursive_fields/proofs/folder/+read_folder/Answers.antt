-- Written by tools/derive: change the declaration, and run it again.
use Rattle.archive_core.proofs.MapsRead.{pairs_unread}
use Rattle.archive_core.proofs.ReadElements.{all_have, elements_more, elements_all, element_refused}
use Rattle.archive_core.proofs.ReadRecords.{record_read_back, record_refuses, first_refuses, later_refuses}
use Rattle.archive_core.proofs.fields.Ties.{if_ok}
use Rattle.archive_core.specs.Definitions.{both, no_definition}
use Rattle.archive_core.specs.Held.{read_as}
use Rattle.archive_core.specs.PartsReading.{part_read_back, no_part_read_back}
use Rattle.archive_core.specs.Runs.{each_keys}
use Rattle.archive_core.specs.Shape.{sorted_map, str, one, run, leaf, unsigned, str_key, part, no_part, number as number_kind}
use Rattle.recursive_fields.specs.FolderMeaning.{folder_keys, folder_means_roll, folder_has_keys_roll, pair_string_folder_meaning, pair_string_folder_keys}
use Rattle.recursive_fields.specs.FolderShape.{folder_has_layout, pair_string_folder_layout, pair_string_folder_has_layout, folder_shape, folder_definitions, pair_string_folder_shape, pair_string_folder_parts, pair_string_folder_definitions, pair_string_folder_has_parts, folder_parts, folder_part_definitions, folder_has_parts}
use Rattle.std.proofs.Common.{inl, ◌≡◌, ◌<◌, ◌+◌, ◌++◌, ◌∷◌, [], length, refl, arith, pos}
use Rattle.std.proofs.lemmas.Grind.{common_steps}
use Rattle.std.specs.Int.{w8}
use Rattle.std.specs.Prelude.{[], ◌++◌, ◌≡◌, refl, pos, length}
use Rattle.recursive_fields.proofs.folder.+read_folder.Goals as goal

pub read_pair_string_folder-returns-in-Err-clause-refused : goal.read_pair_string_folder-returns-in-Err-clause-refused
read_pair_string_folder-returns-in-Err-clause-refused g t c = (record_refuses pair_string_folder_definitions pair_string_folder_shape pair_string_folder_definitions pair_string_folder_parts pair_string_folder_has_parts _ _ _ _ _ (first_refuses no_definition (both folder_definitions no_definition) str (record { size = 8; align = 4 }) (record { solved = λ s k. refl }) (part folder_shape no_part) _ _ 0 _ _ (rw (c.part_of_record-p0.ensures.buffer, c.part_of_record-p0.ensures.position, c.part_of_record-p0.ensures.length) at c.in-Err.ensures.refused)))

pub read_pair_string_folder-returns-in-Err-read_folder-clause-refused : goal.read_pair_string_folder-returns-in-Err-read_folder-clause-refused
read_pair_string_folder-returns-in-Err-read_folder-clause-refused g t c = (record_refuses pair_string_folder_definitions pair_string_folder_shape pair_string_folder_definitions pair_string_folder_parts pair_string_folder_has_parts _ _ _ _ _ (later_refuses no_definition (both folder_definitions no_definition) str (record { size = 8; align = 4 }) (record { solved = λ s k. refl }) (part folder_shape no_part) _ _ 0 _ _ _ c.in-Ok.ensures.read.kept (first_refuses folder_definitions no_definition folder_shape (record { size = 12; align = 4 }) folder_has_layout no_part _ _ 8 _ _ (rw (c.part_of_record-p1.ensures.buffer, c.part_of_record-p1.ensures.position, c.part_of_record-p1.ensures.length) at c.in-Err-read_folder.ensures.refused))))

pub read_pair_string_folder-returns-clause-read : goal.read_pair_string_folder-returns-clause-read
read_pair_string_folder-returns-clause-read g t c = record_read_back pair_string_folder_definitions pair_string_folder_shape pair_string_folder_definitions pair_string_folder_parts pair_string_folder_has_parts _ _ _ _ _ _ _ (part_read_back {L = (record { size = 8; align = 4 })} {ks = []} {ls = ((folder_keys c.in-Ok-read_folder.a1) ++ [])} (record { solved = λ s k. refl }) (rw (c.part_of_record-p0.ensures.buffer, c.part_of_record-p0.ensures.position, c.part_of_record-p0.ensures.length) at c.in-Ok.ensures.read) (part_read_back {L = (record { size = 12; align = 4 })} {ks = (folder_keys c.in-Ok-read_folder.a1)} {ls = []} folder_has_layout (rw (c.part_of_record-p1.ensures.buffer, c.part_of_record-p1.ensures.position, c.part_of_record-p1.ensures.length) at c.in-Ok-read_folder.ensures.read) no_part_read_back))

pub read_map_string_folder-returns-in-Err-clause-refused : goal.read_map_string_folder-returns-in-Err-clause-refused
read_map_string_folder-returns-in-Err-clause-refused g t c = (let kept = c.loop-index.invariant in let b = c.before_map-list.result.bytes.now in let q = c.before_map-list.result.pos in let n = c.before_map-list.result.len in let below : c.loop-index.index < n = omega (arith, c.loop-index-test.true, c.loop-index.auto.index-end, c.len-index-end.ensures) in let h = rw (c.part.ensures.buffer, c.part.ensures.position, c.part.ensures.length, c.index.ensures.buffer, c.index.ensures.position, c.index.ensures.length) at c.in-Err.ensures.refused in let r = element_refused pair_string_folder_definitions pair_string_folder_shape pair_string_folder_layout pair_string_folder_has_layout b q (run pair_string_folder_shape) n n (all_have pair_string_folder_definitions pair_string_folder_shape pair_string_folder_layout pair_string_folder_has_layout b q n (run pair_string_folder_shape) n (inl (refl, refl))) pair_string_folder_meaning pair_string_folder_keys (g.D.Entries.entry_of c.args.deserializer.now) (g.D.Entries.entry_of c.loop-index.deserializer) c.loop-index.items.items c.loop-index.index (one pair_string_folder_shape) c.in-Err.error refl below (kept.3) h in pairs_unread pair_string_folder_definitions str folder_shape str_key refl c.args.part.bytes.now c.args.part.pos c.args.part.len c.requires (g.D.Entries.entry_of c.args.deserializer.now) c.in-Err.error (rw (c.before_map-list.ensures.buffer, c.before_map-list.ensures.position, c.before_map-list.ensures.length) at r))

pub read_map_string_folder-loop-index-preserved : goal.read_map_string_folder-loop-index-preserved
read_map_string_folder-loop-index-preserved g t c = (let kept = c.loop-index.invariant in let b = c.before_map-list.result.bytes.now in let q = c.before_map-list.result.pos in let n = c.before_map-list.result.len in let below : c.loop-index.index < n = omega (arith, c.loop-index-test.true, c.loop-index.auto.index-end, c.len-index-end.ensures) in let pushed : c.push_reserved.new.self.items ≡ c.loop-index.items.items ++ c.in-Ok.item ∷ [] = grind (arith, common_steps) in let more : length (c.loop-index.items.items ++ c.in-Ok.item ∷ []) ≡ c.loop-index.index + 1 = grind (arith, common_steps, kept.0) in let h = rw (c.part.ensures.buffer, c.part.ensures.position, c.part.ensures.length, c.index.ensures.buffer, c.index.ensures.position, c.index.ensures.length) at c.in-Ok.ensures.read in rw pushed (more, grind (arith, common_steps, kept.1), grind (arith, common_steps, kept.2), elements_more pair_string_folder_definitions pair_string_folder_shape pair_string_folder_layout pair_string_folder_has_layout b q (run pair_string_folder_shape) n n (all_have pair_string_folder_definitions pair_string_folder_shape pair_string_folder_layout pair_string_folder_has_layout b q n (run pair_string_folder_shape) n (inl (refl, refl))) pair_string_folder_meaning pair_string_folder_keys (g.D.Entries.entry_of c.args.deserializer.now) (g.D.Entries.entry_of c.loop-index.deserializer) (g.D.Entries.entry_of c.read_pair_string_folder.new.deserializer) c.loop-index.items.items c.in-Ok.item c.loop-index.index (one pair_string_folder_shape) refl kept.0 below (kept.3) h))

pub read_map_string_folder-returns-clause-read : goal.read_map_string_folder-returns-clause-read
read_map_string_folder-returns-clause-read g t c = (let kept = c.loop-index.invariant in let b = c.before_map-list.result.bytes.now in let q = c.before_map-list.result.pos in let n = c.before_map-list.result.len in let whole : length c.loop-index.items.items ≡ n = omega (arith, kept.0, c.loop-index-test.false, c.loop-index.auto.index-end, c.len-index-end.ensures) in let r = elements_all pair_string_folder_definitions pair_string_folder_shape pair_string_folder_layout pair_string_folder_has_layout b q (run pair_string_folder_shape) n n (all_have pair_string_folder_definitions pair_string_folder_shape pair_string_folder_layout pair_string_folder_has_layout b q n (run pair_string_folder_shape) n (inl (refl, refl))) pair_string_folder_meaning pair_string_folder_keys (g.D.Entries.entry_of c.args.deserializer.now) (g.D.Entries.entry_of c.loop-index.deserializer) c.loop-index.items.items whole (kept.3) in if_ok c.collect_map.result (λ m h. h.since _ _ _ (rw (c.before_map-list.ensures.buffer, c.before_map-list.ensures.position, c.before_map-list.ensures.length) at r)) c.collect_map.ensures.read)

pub read_folder-returns-in-Err-clause-refused : goal.read_folder-returns-in-Err-clause-refused
read_folder-returns-in-Err-clause-refused g t c = (record_refuses folder_definitions folder_shape folder_part_definitions folder_parts folder_has_parts _ _ _ _ _ (first_refuses no_definition (both pair_string_folder_definitions no_definition) (leaf (number_kind unsigned w8)) (record { size = 1; align = 1 }) (record { solved = λ s k. refl }) (part (sorted_map str_key folder_shape) no_part) _ _ 0 _ _ (rw (c.part_of_record-p0.ensures.buffer, c.part_of_record-p0.ensures.position, c.part_of_record-p0.ensures.length) at c.in-Err.ensures.refused)))

pub read_folder-returns-in-Err-read_map_string_folder-clause-refused : goal.read_folder-returns-in-Err-read_map_string_folder-clause-refused
read_folder-returns-in-Err-read_map_string_folder-clause-refused g t c = (record_refuses folder_definitions folder_shape folder_part_definitions folder_parts folder_has_parts _ _ _ _ _ (later_refuses no_definition (both pair_string_folder_definitions no_definition) (leaf (number_kind unsigned w8)) (record { size = 1; align = 1 }) (record { solved = λ s k. refl }) (part (sorted_map str_key folder_shape) no_part) _ _ 0 _ _ _ c.in-Ok.ensures.read.kept (first_refuses pair_string_folder_definitions no_definition (sorted_map str_key folder_shape) (record { size = 8; align = 4 }) (record { solved = λ s k. refl }) no_part _ _ 1 _ _ (rw (c.part_of_record-p1.ensures.buffer, c.part_of_record-p1.ensures.position, c.part_of_record-p1.ensures.length) at c.in-Err-read_map_string_folder.ensures.refused))))

pub read_folder-returns-clause-read : goal.read_folder-returns-clause-read
read_folder-returns-clause-read g t c = read_as (folder_has_keys_roll (record { id = c.in-Ok.a0; entries = c.in-Ok-read_map_string_folder.a1 })) (folder_means_roll (record { id = c.in-Ok.a0; entries = c.in-Ok-read_map_string_folder.a1 })) (record_read_back folder_definitions folder_shape folder_part_definitions folder_parts folder_has_parts _ _ _ _ _ _ _ (part_read_back {L = (record { size = 1; align = 1 })} {ks = []} {ls = ((each_keys (λ y. ([] ++ ((folder_keys y.1) ++ []))) c.in-Ok-read_map_string_folder.a1.entries) ++ [])} (record { solved = λ s k. refl }) (rw (c.part_of_record-p0.ensures.buffer, c.part_of_record-p0.ensures.position, c.part_of_record-p0.ensures.length) at c.in-Ok.ensures.read) (part_read_back {L = (record { size = 8; align = 4 })} {ks = (each_keys (λ y. ([] ++ ((folder_keys y.1) ++ []))) c.in-Ok-read_map_string_folder.a1.entries)} {ls = []} (record { solved = λ s k. refl }) (rw (c.part_of_record-p1.ensures.buffer, c.part_of_record-p1.ensures.position, c.part_of_record-p1.ensures.length) at c.in-Ok-read_map_string_folder.ensures.read) no_part_read_back)))
