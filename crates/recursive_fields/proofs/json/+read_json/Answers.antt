-- Written by tools/derive: change the declaration, and run it again.
use Rattle.archive_core.proofs.OwnersRead.{vec_read, vec_unread}
use Rattle.archive_core.proofs.ReadChoices.{variant_read_back, variant_refuses}
use Rattle.archive_core.proofs.ReadElements.{all_have, elements_none, elements_more, elements_all, element_refused}
use Rattle.archive_core.proofs.ReadRecords.{record_read_back, record_refuses, first_refuses, later_refuses}
use Rattle.archive_core.specs.Definitions.{both, no_definition}
use Rattle.archive_core.specs.Held.{read_as}
use Rattle.archive_core.specs.PartsReading.{part_read_back, no_part_read_back}
use Rattle.archive_core.specs.Readable.{target_from}
use Rattle.archive_core.specs.Reads.{u32_at}
use Rattle.archive_core.specs.Runs.{each_keys}
use Rattle.archive_core.specs.Shape.{vec, str, one, run, part, no_part}
use Rattle.archive_core.specs.Value.{value}
use Rattle.recursive_fields.specs.JsonMeaning.{json_meaning, json_keys, json_list_means, json_list_has_keys, json_object_means, json_object_has_keys, member_type_meaning, member_type_keys, member_type_means_roll, member_type_has_keys_roll}
use Rattle.recursive_fields.specs.JsonShape.{json_layout, json_has_layout, json_name, json_shape, json_definitions, json_variants, json_variant_definitions, json_has_variants, json_list_parts, json_list_definitions, json_object_parts, json_object_definitions, member_type_layout, member_type_has_layout, member_type_shape, member_type_definitions, member_type_parts, member_type_part_definitions, member_type_has_parts}
use Rattle.std.proofs.Common.{inl, ◌≡◌, ◌<◌, ◌+◌, ◌++◌, ◌∷◌, [], length, refl, arith, pos}
use Rattle.std.proofs.lemmas.Grind.{common_steps}
use Rattle.std.specs.Prelude.{[], ◌++◌, ◌≡◌, refl, pos, length}
use Rattle.recursive_fields.proofs.json.+read_json.Goals as goal

pub read_vec_json-returns-then-is_empty-clause-read : goal.read_vec_json-returns-then-is_empty-clause-read
read_vec_json-returns-then-is_empty-clause-read g t c = (let none : 0 ≡ u32_at c.args.part.bytes.now (c.args.part.pos + 4) = grind (arith, c.is_empty.ensures, c.if-is_empty.true, c.at-view.ensures.buffer, c.at-view.ensures.position) in rw c.new.ensures.items (vec_read json_definitions c.args.part.bytes.now c.args.part.pos c.args.part.len json_shape _ _ _ _ c.requires (elements_all json_definitions json_shape json_layout json_has_layout c.args.part.bytes.now (target_from c.args.part.bytes.now c.args.part.pos c.args.part.pos) (run json_shape) (u32_at c.args.part.bytes.now (c.args.part.pos + 4)) (u32_at c.args.part.bytes.now (c.args.part.pos + 4)) (all_have json_definitions json_shape json_layout json_has_layout c.args.part.bytes.now (target_from c.args.part.bytes.now c.args.part.pos c.args.part.pos) (u32_at c.args.part.bytes.now (c.args.part.pos + 4)) (run json_shape) (u32_at c.args.part.bytes.now (c.args.part.pos + 4)) (inl (refl, refl))) json_meaning json_keys (g.D.Entries.entry_of c.args.deserializer.now) (g.D.Entries.entry_of c.args.deserializer.now) [] none (elements_none json_definitions json_shape json_layout json_has_layout c.args.part.bytes.now (target_from c.args.part.bytes.now c.args.part.pos c.args.part.pos) (run json_shape) (u32_at c.args.part.bytes.now (c.args.part.pos + 4)) (u32_at c.args.part.bytes.now (c.args.part.pos + 4)) (all_have json_definitions json_shape json_layout json_has_layout c.args.part.bytes.now (target_from c.args.part.bytes.now c.args.part.pos c.args.part.pos) (u32_at c.args.part.bytes.now (c.args.part.pos + 4)) (run json_shape) (u32_at c.args.part.bytes.now (c.args.part.pos + 4)) (inl (refl, refl))) json_meaning json_keys (g.D.Entries.entry_of c.args.deserializer.now)))))

pub read_each_json-returns-in-Err-clause-refused : goal.read_each_json-returns-in-Err-clause-refused
read_each_json-returns-in-Err-clause-refused g t c = (let kept = c.loop-index.invariant in let b = c.before_vec-list.result.bytes.now in let q = c.before_vec-list.result.pos in let n = c.before_vec-list.result.len in let below : c.loop-index.index < n = omega (arith, c.loop-index-test.true, c.loop-index.auto.index-end, c.len-index-end.ensures) in let h = rw (c.part.ensures.buffer, c.part.ensures.position, c.part.ensures.length, c.index.ensures.buffer, c.index.ensures.position, c.index.ensures.length) at c.in-Err.ensures.refused in let r = element_refused json_definitions json_shape json_layout json_has_layout b q (run json_shape) n n (all_have json_definitions json_shape json_layout json_has_layout b q n (run json_shape) n (inl (refl, refl))) json_meaning json_keys (g.D.Entries.entry_of c.args.deserializer.now) (g.D.Entries.entry_of c.loop-index.deserializer) c.loop-index.items.items c.loop-index.index (one json_shape) c.in-Err.error refl below (kept.3) h in vec_unread json_definitions c.args.part.bytes.now c.args.part.pos c.args.part.len json_shape (g.D.Entries.entry_of c.args.deserializer.now) c.in-Err.error c.requires (rw (c.before_vec-list.ensures.buffer, c.before_vec-list.ensures.position, c.before_vec-list.ensures.length, c.at-view.ensures.buffer, c.at-view.ensures.position) at r))

pub read_each_json-loop-index-preserved : goal.read_each_json-loop-index-preserved
read_each_json-loop-index-preserved g t c = (let kept = c.loop-index.invariant in let b = c.before_vec-list.result.bytes.now in let q = c.before_vec-list.result.pos in let n = c.before_vec-list.result.len in let below : c.loop-index.index < n = omega (arith, c.loop-index-test.true, c.loop-index.auto.index-end, c.len-index-end.ensures) in let pushed : c.push_reserved.new.self.items ≡ c.loop-index.items.items ++ c.in-Ok.item ∷ [] = grind (arith, common_steps) in let more : length (c.loop-index.items.items ++ c.in-Ok.item ∷ []) ≡ c.loop-index.index + 1 = grind (arith, common_steps, kept.0) in let h = rw (c.part.ensures.buffer, c.part.ensures.position, c.part.ensures.length, c.index.ensures.buffer, c.index.ensures.position, c.index.ensures.length) at c.in-Ok.ensures.read in rw pushed (more, grind (arith, common_steps, kept.1), grind (arith, common_steps, kept.2), elements_more json_definitions json_shape json_layout json_has_layout b q (run json_shape) n n (all_have json_definitions json_shape json_layout json_has_layout b q n (run json_shape) n (inl (refl, refl))) json_meaning json_keys (g.D.Entries.entry_of c.args.deserializer.now) (g.D.Entries.entry_of c.loop-index.deserializer) (g.D.Entries.entry_of c.read_json.new.deserializer) c.loop-index.items.items c.in-Ok.item c.loop-index.index (one json_shape) refl kept.0 below (kept.3) h))

pub read_each_json-returns-clause-read : goal.read_each_json-returns-clause-read
read_each_json-returns-clause-read g t c = (let kept = c.loop-index.invariant in let b = c.before_vec-list.result.bytes.now in let q = c.before_vec-list.result.pos in let n = c.before_vec-list.result.len in let whole : length c.loop-index.items.items ≡ n = omega (arith, kept.0, c.loop-index-test.false, c.loop-index.auto.index-end, c.len-index-end.ensures) in let r = elements_all json_definitions json_shape json_layout json_has_layout b q (run json_shape) n n (all_have json_definitions json_shape json_layout json_has_layout b q n (run json_shape) n (inl (refl, refl))) json_meaning json_keys (g.D.Entries.entry_of c.args.deserializer.now) (g.D.Entries.entry_of c.loop-index.deserializer) c.loop-index.items.items whole (kept.3) in vec_read json_definitions c.args.part.bytes.now c.args.part.pos c.args.part.len json_shape _ _ _ _ c.requires (rw (c.before_vec-list.ensures.buffer, c.before_vec-list.ensures.position, c.before_vec-list.ensures.length, c.at-view.ensures.buffer, c.at-view.ensures.position) at r))

pub read_vec_member_type-returns-then-is_empty-clause-read : goal.read_vec_member_type-returns-then-is_empty-clause-read
read_vec_member_type-returns-then-is_empty-clause-read g t c = (let none : 0 ≡ u32_at c.args.part.bytes.now (c.args.part.pos + 4) = grind (arith, c.is_empty.ensures, c.if-is_empty.true, c.at-view.ensures.buffer, c.at-view.ensures.position) in rw c.new.ensures.items (vec_read json_definitions c.args.part.bytes.now c.args.part.pos c.args.part.len member_type_shape _ _ _ _ c.requires (elements_all json_definitions member_type_shape member_type_layout member_type_has_layout c.args.part.bytes.now (target_from c.args.part.bytes.now c.args.part.pos c.args.part.pos) (run member_type_shape) (u32_at c.args.part.bytes.now (c.args.part.pos + 4)) (u32_at c.args.part.bytes.now (c.args.part.pos + 4)) (all_have json_definitions member_type_shape member_type_layout member_type_has_layout c.args.part.bytes.now (target_from c.args.part.bytes.now c.args.part.pos c.args.part.pos) (u32_at c.args.part.bytes.now (c.args.part.pos + 4)) (run member_type_shape) (u32_at c.args.part.bytes.now (c.args.part.pos + 4)) (inl (refl, refl))) member_type_meaning member_type_keys (g.D.Entries.entry_of c.args.deserializer.now) (g.D.Entries.entry_of c.args.deserializer.now) [] none (elements_none json_definitions member_type_shape member_type_layout member_type_has_layout c.args.part.bytes.now (target_from c.args.part.bytes.now c.args.part.pos c.args.part.pos) (run member_type_shape) (u32_at c.args.part.bytes.now (c.args.part.pos + 4)) (u32_at c.args.part.bytes.now (c.args.part.pos + 4)) (all_have json_definitions member_type_shape member_type_layout member_type_has_layout c.args.part.bytes.now (target_from c.args.part.bytes.now c.args.part.pos c.args.part.pos) (u32_at c.args.part.bytes.now (c.args.part.pos + 4)) (run member_type_shape) (u32_at c.args.part.bytes.now (c.args.part.pos + 4)) (inl (refl, refl))) member_type_meaning member_type_keys (g.D.Entries.entry_of c.args.deserializer.now)))))

pub read_each_member_type-returns-in-Err-clause-refused : goal.read_each_member_type-returns-in-Err-clause-refused
read_each_member_type-returns-in-Err-clause-refused g t c = (let kept = c.loop-index.invariant in let b = c.before_vec-list.result.bytes.now in let q = c.before_vec-list.result.pos in let n = c.before_vec-list.result.len in let below : c.loop-index.index < n = omega (arith, c.loop-index-test.true, c.loop-index.auto.index-end, c.len-index-end.ensures) in let h = rw (c.part.ensures.buffer, c.part.ensures.position, c.part.ensures.length, c.index.ensures.buffer, c.index.ensures.position, c.index.ensures.length) at c.in-Err.ensures.refused in let r = element_refused json_definitions member_type_shape member_type_layout member_type_has_layout b q (run member_type_shape) n n (all_have json_definitions member_type_shape member_type_layout member_type_has_layout b q n (run member_type_shape) n (inl (refl, refl))) member_type_meaning member_type_keys (g.D.Entries.entry_of c.args.deserializer.now) (g.D.Entries.entry_of c.loop-index.deserializer) c.loop-index.items.items c.loop-index.index (one member_type_shape) c.in-Err.error refl below (kept.3) h in vec_unread json_definitions c.args.part.bytes.now c.args.part.pos c.args.part.len member_type_shape (g.D.Entries.entry_of c.args.deserializer.now) c.in-Err.error c.requires (rw (c.before_vec-list.ensures.buffer, c.before_vec-list.ensures.position, c.before_vec-list.ensures.length, c.at-view.ensures.buffer, c.at-view.ensures.position) at r))

pub read_each_member_type-loop-index-preserved : goal.read_each_member_type-loop-index-preserved
read_each_member_type-loop-index-preserved g t c = (let kept = c.loop-index.invariant in let b = c.before_vec-list.result.bytes.now in let q = c.before_vec-list.result.pos in let n = c.before_vec-list.result.len in let below : c.loop-index.index < n = omega (arith, c.loop-index-test.true, c.loop-index.auto.index-end, c.len-index-end.ensures) in let pushed : c.push_reserved.new.self.items ≡ c.loop-index.items.items ++ c.in-Ok.item ∷ [] = grind (arith, common_steps) in let more : length (c.loop-index.items.items ++ c.in-Ok.item ∷ []) ≡ c.loop-index.index + 1 = grind (arith, common_steps, kept.0) in let h = rw (c.part.ensures.buffer, c.part.ensures.position, c.part.ensures.length, c.index.ensures.buffer, c.index.ensures.position, c.index.ensures.length) at c.in-Ok.ensures.read in rw pushed (more, grind (arith, common_steps, kept.1), grind (arith, common_steps, kept.2), elements_more json_definitions member_type_shape member_type_layout member_type_has_layout b q (run member_type_shape) n n (all_have json_definitions member_type_shape member_type_layout member_type_has_layout b q n (run member_type_shape) n (inl (refl, refl))) member_type_meaning member_type_keys (g.D.Entries.entry_of c.args.deserializer.now) (g.D.Entries.entry_of c.loop-index.deserializer) (g.D.Entries.entry_of c.read_member_type.new.deserializer) c.loop-index.items.items c.in-Ok.item c.loop-index.index (one member_type_shape) refl kept.0 below (kept.3) h))

pub read_each_member_type-returns-clause-read : goal.read_each_member_type-returns-clause-read
read_each_member_type-returns-clause-read g t c = (let kept = c.loop-index.invariant in let b = c.before_vec-list.result.bytes.now in let q = c.before_vec-list.result.pos in let n = c.before_vec-list.result.len in let whole : length c.loop-index.items.items ≡ n = omega (arith, kept.0, c.loop-index-test.false, c.loop-index.auto.index-end, c.len-index-end.ensures) in let r = elements_all json_definitions member_type_shape member_type_layout member_type_has_layout b q (run member_type_shape) n n (all_have json_definitions member_type_shape member_type_layout member_type_has_layout b q n (run member_type_shape) n (inl (refl, refl))) member_type_meaning member_type_keys (g.D.Entries.entry_of c.args.deserializer.now) (g.D.Entries.entry_of c.loop-index.deserializer) c.loop-index.items.items whole (kept.3) in vec_read json_definitions c.args.part.bytes.now c.args.part.pos c.args.part.len member_type_shape _ _ _ _ c.requires (rw (c.before_vec-list.ensures.buffer, c.before_vec-list.ensures.position, c.before_vec-list.ensures.length, c.at-view.ensures.buffer, c.at-view.ensures.position) at r))

pub read_json_list-returns-in-Err-clause-refused : goal.read_json_list-returns-in-Err-clause-refused
read_json_list-returns-in-Err-clause-refused g t c = (variant_refuses json_definitions json_shape json_name json_variant_definitions json_variants json_has_variants 3 json_list_parts refl json_list_definitions refl _ _ _ c.requires.tag _ _ (first_refuses json_definitions no_definition (vec json_shape) (record { size = 8; align = 4 }) (record { solved = λ s k. refl }) no_part _ _ 1 _ _ (rw (c.part_0_of_json_list-p0.ensures.buffer, c.part_0_of_json_list-p0.ensures.position, c.part_0_of_json_list-p0.ensures.length) at c.in-Err.ensures.refused)))

pub read_json_list-returns-clause-read : goal.read_json_list-returns-clause-read
read_json_list-returns-clause-read g t c = read_as (json_list_has_keys c.in-Ok.a0) (json_list_means c.in-Ok.a0) (variant_read_back json_definitions json_shape json_name json_variant_definitions json_variants json_has_variants 3 json_list_parts refl json_list_definitions refl _ _ _ c.requires.tag _ _ _ _ (part_read_back {L = (record { size = 8; align = 4 })} {ks = (each_keys json_keys c.in-Ok.a0.items)} {ls = []} (record { solved = λ s k. refl }) (rw (c.part_0_of_json_list-p0.ensures.buffer, c.part_0_of_json_list-p0.ensures.position, c.part_0_of_json_list-p0.ensures.length) at c.in-Ok.ensures.read) no_part_read_back))

pub read_json_object-returns-in-Err-clause-refused : goal.read_json_object-returns-in-Err-clause-refused
read_json_object-returns-in-Err-clause-refused g t c = (variant_refuses json_definitions json_shape json_name json_variant_definitions json_variants json_has_variants 4 json_object_parts refl json_object_definitions refl _ _ _ c.requires.tag _ _ (first_refuses json_definitions no_definition (vec member_type_shape) (record { size = 8; align = 4 }) (record { solved = λ s k. refl }) no_part _ _ 1 _ _ (rw (c.part_0_of_json_object-p0.ensures.buffer, c.part_0_of_json_object-p0.ensures.position, c.part_0_of_json_object-p0.ensures.length) at c.in-Err.ensures.refused)))

pub read_json_object-returns-clause-read : goal.read_json_object-returns-clause-read
read_json_object-returns-clause-read g t c = read_as (json_object_has_keys c.in-Ok.a0) (json_object_means c.in-Ok.a0) (variant_read_back json_definitions json_shape json_name json_variant_definitions json_variants json_has_variants 4 json_object_parts refl json_object_definitions refl _ _ _ c.requires.tag _ _ _ _ (part_read_back {L = (record { size = 8; align = 4 })} {ks = (each_keys member_type_keys c.in-Ok.a0.items)} {ls = []} (record { solved = λ s k. refl }) (rw (c.part_0_of_json_object-p0.ensures.buffer, c.part_0_of_json_object-p0.ensures.position, c.part_0_of_json_object-p0.ensures.length) at c.in-Ok.ensures.read) no_part_read_back))

pub read_member_type-returns-in-Err-clause-refused : goal.read_member_type-returns-in-Err-clause-refused
read_member_type-returns-in-Err-clause-refused g t c = (record_refuses member_type_definitions member_type_shape member_type_part_definitions member_type_parts member_type_has_parts _ _ _ _ _ (first_refuses no_definition (both member_type_definitions no_definition) str (record { size = 8; align = 4 }) (record { solved = λ s k. refl }) (part json_shape no_part) _ _ 0 _ _ (rw (c.part_of_record-p0.ensures.buffer, c.part_of_record-p0.ensures.position, c.part_of_record-p0.ensures.length) at c.in-Err.ensures.refused)))

pub read_member_type-returns-in-Err-read_json-clause-refused : goal.read_member_type-returns-in-Err-read_json-clause-refused
read_member_type-returns-in-Err-read_json-clause-refused g t c = (record_refuses member_type_definitions member_type_shape member_type_part_definitions member_type_parts member_type_has_parts _ _ _ _ _ (later_refuses no_definition (both member_type_definitions no_definition) str (record { size = 8; align = 4 }) (record { solved = λ s k. refl }) (part json_shape no_part) _ _ 0 _ _ _ c.in-Ok.ensures.read.kept (first_refuses member_type_definitions no_definition json_shape (record { size = 16; align = 8 }) json_has_layout no_part _ _ 8 _ _ (rw (c.part_of_record-p1.ensures.buffer, c.part_of_record-p1.ensures.position, c.part_of_record-p1.ensures.length) at c.in-Err-read_json.ensures.refused))))

pub read_member_type-returns-clause-read : goal.read_member_type-returns-clause-read
read_member_type-returns-clause-read g t c = read_as (member_type_has_keys_roll (record { name = c.in-Ok.a0; value = c.in-Ok-read_json.a1 })) (member_type_means_roll (record { name = c.in-Ok.a0; value = c.in-Ok-read_json.a1 })) (record_read_back member_type_definitions member_type_shape member_type_part_definitions member_type_parts member_type_has_parts _ _ _ _ _ _ _ (part_read_back {L = (record { size = 8; align = 4 })} {ks = []} {ls = ((json_keys c.in-Ok-read_json.a1) ++ [])} (record { solved = λ s k. refl }) (rw (c.part_of_record-p0.ensures.buffer, c.part_of_record-p0.ensures.position, c.part_of_record-p0.ensures.length) at c.in-Ok.ensures.read) (part_read_back {L = (record { size = 16; align = 8 })} {ks = (json_keys c.in-Ok-read_json.a1)} {ls = []} json_has_layout (rw (c.part_of_record-p1.ensures.buffer, c.part_of_record-p1.ensures.position, c.part_of_record-p1.ensures.length) at c.in-Ok-read_json.ensures.read) no_part_read_back)))
