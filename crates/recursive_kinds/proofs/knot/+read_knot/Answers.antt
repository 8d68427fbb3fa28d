-- Written by tools/derive: change the declaration, and run it again.
use Rattle.archive_core.proofs.Causes.{err_from}
use Rattle.archive_core.proofs.OwnersRead.{vec_read, vec_unread}
use Rattle.archive_core.proofs.ReadElements.{all_have, elements_more, elements_all, element_refused}
use Rattle.archive_core.proofs.ReadRecords.{record_read_back, record_refuses, first_refuses, later_refuses}
use Rattle.archive_core.proofs.fields.Ties.{if_ok}
use Rattle.archive_core.proofs.recursive.PositionsBegun.{unread_since}
use Rattle.archive_core.specs.Definitions.{both, no_definition}
use Rattle.archive_core.specs.Held.{read_as}
use Rattle.archive_core.specs.PartsReading.{part_read_back, no_part_read_back}
use Rattle.archive_core.specs.Runs.{each_keys}
use Rattle.archive_core.specs.Shape.{shared, vec, one, run, leaf, unsigned, part, no_part, number as number_kind}
use Rattle.archive_core.specs.SharedSources.{rc_flavor, rc_keys}
use Rattle.archive_core.specs.Value.{value, shared_value}
use Rattle.recursive_kinds.specs.KnotMeaning.{knot_meaning, knot_keys, knot_means_roll, knot_has_keys_roll}
use Rattle.recursive_kinds.specs.KnotShape.{knot_shape, knot_definitions, knot_parts, knot_part_definitions, knot_has_parts}
use Rattle.std.proofs.Common.{inl, ◌≡◌, ◌<◌, ◌+◌, ◌++◌, ◌∷◌, [], length, refl, arith, pos}
use Rattle.std.proofs.lemmas.Grind.{common_steps}
use Rattle.std.specs.Int.{w32}
use Rattle.std.specs.Prelude.{[], ◌++◌, ◌≡◌, refl, pos, length}
use Rattle.recursive_kinds.proofs.knot.+read_knot.Goals as goal

pub read_shared_knot-returns-in-Err-read_knot-clause-refused : goal.read_shared_knot-returns-in-Err-read_knot-clause-refused
read_shared_knot-returns-in-Err-read_knot-clause-refused g t c = unread_since knot_definitions c.args.part.bytes.now c.args.part.pos c.args.part.len rc_flavor (one knot_shape) g.D.Entries.keeps _ _ _ c.requires (rw c.in-None.is at c.in-Ok.ensures.begun) (rw (c.part_behind-behind.ensures.buffer, c.part_behind-behind.ensures.position, c.part_behind-behind.ensures.length) at c.in-Err-read_knot.ensures.refused)

pub read_shared_knot-returns-in-Some-clause-read : goal.read_shared_knot-returns-in-Some-clause-read
read_shared_knot-returns-in-Some-clause-read g t c = rw c.in-Some.is at c.in-Ok.ensures.known

pub read_shared_knot-returns-in-Ok-read_knot-clause-read : goal.read_shared_knot-returns-in-Ok-read_knot-clause-read
read_shared_knot-returns-in-Ok-read_knot-clause-read g t c = if_ok c.finish_reading.result (λ s h. h.since _ _ (rw c.in-None.is at c.in-Ok.ensures.begun) (rw (c.part_behind-behind.ensures.buffer, c.part_behind-behind.ensures.position, c.part_behind-behind.ensures.length) at c.in-Ok-read_knot.ensures.read)) c.finish_reading.ensures.read

pub read_shared_knot-returns-in-Ok-read_knot-clause-refused : goal.read_shared_knot-returns-in-Ok-read_knot-clause-refused
read_shared_knot-returns-in-Ok-read_knot-clause-refused g t c = err_from c.finish_reading.result c.finish_reading.ensures.refused (λ e h. h.since _ _ (rw c.in-None.is at c.in-Ok.ensures.begun) (rw (c.part_behind-behind.ensures.buffer, c.part_behind-behind.ensures.position, c.part_behind-behind.ensures.length) at c.in-Ok-read_knot.ensures.read))

pub read_vec_shared_knot-returns-in-Err-clause-refused : goal.read_vec_shared_knot-returns-in-Err-clause-refused
read_vec_shared_knot-returns-in-Err-clause-refused g t c = (let kept = c.loop-index.invariant in let b = c.before_vec-list.result.bytes.now in let q = c.before_vec-list.result.pos in let n = c.before_vec-list.result.len in let below : c.loop-index.index < n = omega (arith, c.loop-index-test.true, c.loop-index.auto.index-end, c.len-index-end.ensures) in let h = rw (c.part.ensures.buffer, c.part.ensures.position, c.part.ensures.length, c.index.ensures.buffer, c.index.ensures.position, c.index.ensures.length) at c.in-Err.ensures.refused in let r = element_refused knot_definitions (shared rc_flavor (one knot_shape)) (record { size = 4; align = 4 }) (record { solved = λ s k. refl }) b q (run (shared rc_flavor (one knot_shape))) n n (all_have knot_definitions (shared rc_flavor (one knot_shape)) (record { size = 4; align = 4 }) (record { solved = λ s k. refl }) b q n (run (shared rc_flavor (one knot_shape))) n (inl (refl, refl))) (λ y. (shared_value y.key)) (λ y. (rc_keys y.key (one knot_shape) 0 (knot_meaning y.value.value) (knot_keys y.value.value))) (g.D.Entries.entry_of c.args.deserializer.now) (g.D.Entries.entry_of c.loop-index.deserializer) c.loop-index.items.items c.loop-index.index (one (shared rc_flavor (one knot_shape))) c.in-Err.error refl below (kept.3) h in vec_unread knot_definitions c.args.part.bytes.now c.args.part.pos c.args.part.len (shared rc_flavor (one knot_shape)) (g.D.Entries.entry_of c.args.deserializer.now) c.in-Err.error c.requires (rw (c.before_vec-list.ensures.buffer, c.before_vec-list.ensures.position, c.before_vec-list.ensures.length, c.at-view.ensures.buffer, c.at-view.ensures.position) at r))

pub read_vec_shared_knot-loop-index-preserved : goal.read_vec_shared_knot-loop-index-preserved
read_vec_shared_knot-loop-index-preserved g t c = (let kept = c.loop-index.invariant in let b = c.before_vec-list.result.bytes.now in let q = c.before_vec-list.result.pos in let n = c.before_vec-list.result.len in let below : c.loop-index.index < n = omega (arith, c.loop-index-test.true, c.loop-index.auto.index-end, c.len-index-end.ensures) in let pushed : c.push_reserved.new.self.items ≡ c.loop-index.items.items ++ c.in-Ok.item ∷ [] = grind (arith, common_steps) in let more : length (c.loop-index.items.items ++ c.in-Ok.item ∷ []) ≡ c.loop-index.index + 1 = grind (arith, common_steps, kept.0) in let h = rw (c.part.ensures.buffer, c.part.ensures.position, c.part.ensures.length, c.index.ensures.buffer, c.index.ensures.position, c.index.ensures.length) at c.in-Ok.ensures.read in rw pushed (more, grind (arith, common_steps, kept.1), grind (arith, common_steps, kept.2), elements_more knot_definitions (shared rc_flavor (one knot_shape)) (record { size = 4; align = 4 }) (record { solved = λ s k. refl }) b q (run (shared rc_flavor (one knot_shape))) n n (all_have knot_definitions (shared rc_flavor (one knot_shape)) (record { size = 4; align = 4 }) (record { solved = λ s k. refl }) b q n (run (shared rc_flavor (one knot_shape))) n (inl (refl, refl))) (λ y. (shared_value y.key)) (λ y. (rc_keys y.key (one knot_shape) 0 (knot_meaning y.value.value) (knot_keys y.value.value))) (g.D.Entries.entry_of c.args.deserializer.now) (g.D.Entries.entry_of c.loop-index.deserializer) (g.D.Entries.entry_of c.read_shared_knot.new.deserializer) c.loop-index.items.items c.in-Ok.item c.loop-index.index (one (shared rc_flavor (one knot_shape))) refl kept.0 below (kept.3) h))

pub read_vec_shared_knot-returns-clause-read : goal.read_vec_shared_knot-returns-clause-read
read_vec_shared_knot-returns-clause-read g t c = (let kept = c.loop-index.invariant in let b = c.before_vec-list.result.bytes.now in let q = c.before_vec-list.result.pos in let n = c.before_vec-list.result.len in let whole : length c.loop-index.items.items ≡ n = omega (arith, kept.0, c.loop-index-test.false, c.loop-index.auto.index-end, c.len-index-end.ensures) in let r = elements_all knot_definitions (shared rc_flavor (one knot_shape)) (record { size = 4; align = 4 }) (record { solved = λ s k. refl }) b q (run (shared rc_flavor (one knot_shape))) n n (all_have knot_definitions (shared rc_flavor (one knot_shape)) (record { size = 4; align = 4 }) (record { solved = λ s k. refl }) b q n (run (shared rc_flavor (one knot_shape))) n (inl (refl, refl))) (λ y. (shared_value y.key)) (λ y. (rc_keys y.key (one knot_shape) 0 (knot_meaning y.value.value) (knot_keys y.value.value))) (g.D.Entries.entry_of c.args.deserializer.now) (g.D.Entries.entry_of c.loop-index.deserializer) c.loop-index.items.items whole (kept.3) in vec_read knot_definitions c.args.part.bytes.now c.args.part.pos c.args.part.len (shared rc_flavor (one knot_shape)) _ _ _ _ c.requires (rw (c.before_vec-list.ensures.buffer, c.before_vec-list.ensures.position, c.before_vec-list.ensures.length, c.at-view.ensures.buffer, c.at-view.ensures.position) at r))

pub read_knot-returns-in-Err-clause-refused : goal.read_knot-returns-in-Err-clause-refused
read_knot-returns-in-Err-clause-refused g t c = (record_refuses knot_definitions knot_shape knot_part_definitions knot_parts knot_has_parts _ _ _ _ _ (first_refuses no_definition (both knot_definitions no_definition) (leaf (number_kind unsigned w32)) (record { size = 4; align = 4 }) (record { solved = λ s k. refl }) (part (vec (shared rc_flavor (one knot_shape))) no_part) _ _ 0 _ _ (rw (c.part_of_record-p0.ensures.buffer, c.part_of_record-p0.ensures.position, c.part_of_record-p0.ensures.length) at c.in-Err.ensures.refused)))

pub read_knot-returns-in-Err-read_vec_shared_knot-clause-refused : goal.read_knot-returns-in-Err-read_vec_shared_knot-clause-refused
read_knot-returns-in-Err-read_vec_shared_knot-clause-refused g t c = (record_refuses knot_definitions knot_shape knot_part_definitions knot_parts knot_has_parts _ _ _ _ _ (later_refuses no_definition (both knot_definitions no_definition) (leaf (number_kind unsigned w32)) (record { size = 4; align = 4 }) (record { solved = λ s k. refl }) (part (vec (shared rc_flavor (one knot_shape))) no_part) _ _ 0 _ _ _ c.in-Ok.ensures.read.kept (first_refuses knot_definitions no_definition (vec (shared rc_flavor (one knot_shape))) (record { size = 8; align = 4 }) (record { solved = λ s k. refl }) no_part _ _ 4 _ _ (rw (c.part_of_record-p1.ensures.buffer, c.part_of_record-p1.ensures.position, c.part_of_record-p1.ensures.length) at c.in-Err-read_vec_shared_knot.ensures.refused))))

pub read_knot-returns-clause-read : goal.read_knot-returns-clause-read
read_knot-returns-clause-read g t c = read_as (knot_has_keys_roll (record { id = c.in-Ok.a0; next = c.in-Ok-read_vec_shared_knot.a1 })) (knot_means_roll (record { id = c.in-Ok.a0; next = c.in-Ok-read_vec_shared_knot.a1 })) (record_read_back knot_definitions knot_shape knot_part_definitions knot_parts knot_has_parts _ _ _ _ _ _ _ (part_read_back {L = (record { size = 4; align = 4 })} {ks = []} {ls = ((each_keys (λ y. (rc_keys y.key (one knot_shape) 0 (knot_meaning y.value.value) (knot_keys y.value.value))) c.in-Ok-read_vec_shared_knot.a1.items) ++ [])} (record { solved = λ s k. refl }) (rw (c.part_of_record-p0.ensures.buffer, c.part_of_record-p0.ensures.position, c.part_of_record-p0.ensures.length) at c.in-Ok.ensures.read) (part_read_back {L = (record { size = 8; align = 4 })} {ks = (each_keys (λ y. (rc_keys y.key (one knot_shape) 0 (knot_meaning y.value.value) (knot_keys y.value.value))) c.in-Ok-read_vec_shared_knot.a1.items)} {ls = []} (record { solved = λ s k. refl }) (rw (c.part_of_record-p1.ensures.buffer, c.part_of_record-p1.ensures.position, c.part_of_record-p1.ensures.length) at c.in-Ok-read_vec_shared_knot.ensures.read) no_part_read_back)))
