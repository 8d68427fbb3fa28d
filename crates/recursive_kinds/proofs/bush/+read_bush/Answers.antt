-- Written by tools/derive: change the declaration, and run it again.
use Rattle.archive_core.proofs.OwnersRead.{box_read, box_unread, vec_read, vec_unread}
use Rattle.archive_core.proofs.ReadElements.{all_have, elements_more, elements_all, element_refused}
use Rattle.archive_core.proofs.ReadRecords.{record_read_back, record_refuses, first_refuses, later_refuses}
use Rattle.archive_core.proofs.ReadVariants.{case_read_back, case_refuses, empty_case_read_back}
use Rattle.archive_core.specs.Choices.{option_shape}
use Rattle.archive_core.specs.Definitions.{both, no_definition}
use Rattle.archive_core.specs.Held.{read_as}
use Rattle.archive_core.specs.Options.{option_keys, option_meaning}
use Rattle.archive_core.specs.PartsReading.{part_read_back, no_part_read_back}
use Rattle.archive_core.specs.Runs.{each_keys}
use Rattle.archive_core.specs.Shape.{boxed, vec, one, run, leaf, unsigned, part, no_part, number as number_kind}
use Rattle.archive_core.specs.Value.{box, value}
use Rattle.recursive_kinds.specs.BushMeaning.{bush_meaning, bush_keys, bush_means_roll, bush_has_keys_roll}
use Rattle.recursive_kinds.specs.BushShape.{bush_shape, bush_definitions, bush_parts, bush_part_definitions, bush_has_parts}
use Rattle.std.proofs.Common.{inl, ◌≡◌, ◌<◌, ◌+◌, ◌++◌, ◌∷◌, [], length, refl, arith, pos}
use Rattle.std.proofs.lemmas.Grind.{common_steps}
use Rattle.std.specs.Int.{w32}
use Rattle.std.specs.Prelude.{[], ◌++◌, ◌≡◌, refl, pos, length}
use Rattle.recursive_kinds.proofs.bush.+read_bush.Goals as goal

pub read_box_bush-returns-in-Err-clause-refused : goal.read_box_bush-returns-in-Err-clause-refused
read_box_bush-returns-in-Err-clause-refused g t c = box_unread bush_definitions c.args.part.bytes.now c.args.part.pos c.args.part.len (one bush_shape) (g.D.Entries.entry_of c.args.deserializer.now) c.in-Err.error c.requires (rw (c.part.ensures.buffer, c.part.ensures.position, c.part.ensures.length, c.before_box.ensures.buffer, c.before_box.ensures.position, c.before_box.ensures.length, c.at-view.ensures.buffer, c.at-view.ensures.position) at c.in-Err.ensures.refused)

pub read_box_bush-returns-clause-read : goal.read_box_bush-returns-clause-read
read_box_bush-returns-clause-read g t c = (let same : c.in_ok-whole.whole.value ≡ c.in-Ok.value = grind (arith, common_steps) in rw same (box_read bush_definitions c.args.part.bytes.now c.args.part.pos c.args.part.len (one bush_shape) _ _ _ _ c.requires (rw (c.part.ensures.buffer, c.part.ensures.position, c.part.ensures.length, c.before_box.ensures.buffer, c.before_box.ensures.position, c.before_box.ensures.length, c.at-view.ensures.buffer, c.at-view.ensures.position) at c.in-Ok.ensures.read)))

pub read_option_box_bush-returns-in-None-clause-read : goal.read_option_box_bush-returns-in-None-clause-read
read_option_box_bush-returns-in-None-clause-read g t c = empty_case_read_back bush_definitions _ _ 0 refl c.args.part.bytes.now c.args.part.pos c.args.part.len (rw (c.at-view.ensures.buffer, c.at-view.ensures.position) at c.in-None.ensures.tag) _ _ refl

pub read_option_box_bush-returns-in-Err-clause-refused : goal.read_option_box_bush-returns-in-Err-clause-refused
read_option_box_bush-returns-in-Err-clause-refused g t c = case_refuses bush_definitions bush_definitions (λ s k. k) _ _ 1 (boxed (one bush_shape)) refl (record { size = 4; align = 4 }) (record { solved = λ s k. refl }) c.args.part.bytes.now c.args.part.pos c.args.part.len 4 refl (rw (c.at-view.ensures.buffer, c.at-view.ensures.position) at c.in-Some.ensures.tag) _ _ (rw (c.part.ensures.buffer, c.part.ensures.position, c.part.ensures.length, c.in-Some.ensures.buffer, c.in-Some.ensures.position, c.in-Some.ensures.length, c.at-view.ensures.buffer, c.at-view.ensures.position) at c.in-Err.ensures.refused)

pub read_option_box_bush-returns-in-Ok-clause-read : goal.read_option_box_bush-returns-in-Ok-clause-read
read_option_box_bush-returns-in-Ok-clause-read g t c = case_read_back bush_definitions bush_definitions (λ s k. k) _ _ 1 (boxed (one bush_shape)) refl (record { size = 4; align = 4 }) (record { solved = λ s k. refl }) c.args.part.bytes.now c.args.part.pos c.args.part.len 4 refl (rw (c.at-view.ensures.buffer, c.at-view.ensures.position) at c.in-Some.ensures.tag) _ _ _ _ (rw (c.part.ensures.buffer, c.part.ensures.position, c.part.ensures.length, c.in-Some.ensures.buffer, c.in-Some.ensures.position, c.in-Some.ensures.length, c.at-view.ensures.buffer, c.at-view.ensures.position) at c.in-Ok.ensures.read)

pub read_vec_option_box_bush-returns-in-Err-clause-refused : goal.read_vec_option_box_bush-returns-in-Err-clause-refused
read_vec_option_box_bush-returns-in-Err-clause-refused g t c = (let kept = c.loop-index.invariant in let b = c.before_vec-list.result.bytes.now in let q = c.before_vec-list.result.pos in let n = c.before_vec-list.result.len in let below : c.loop-index.index < n = omega (arith, c.loop-index-test.true, c.loop-index.auto.index-end, c.len-index-end.ensures) in let h = rw (c.part.ensures.buffer, c.part.ensures.position, c.part.ensures.length, c.index.ensures.buffer, c.index.ensures.position, c.index.ensures.length) at c.in-Err.ensures.refused in let r = element_refused bush_definitions (option_shape (boxed (one bush_shape))) (record { size = 8; align = 4 }) (record { solved = λ s k. refl }) b q (run (option_shape (boxed (one bush_shape)))) n n (all_have bush_definitions (option_shape (boxed (one bush_shape))) (record { size = 8; align = 4 }) (record { solved = λ s k. refl }) b q n (run (option_shape (boxed (one bush_shape)))) n (inl (refl, refl))) (λ y. (option_meaning (λ y. (box (bush_meaning y.value))) y)) (λ y. (option_keys (λ y. (bush_keys y.value)) y)) (g.D.Entries.entry_of c.args.deserializer.now) (g.D.Entries.entry_of c.loop-index.deserializer) c.loop-index.items.items c.loop-index.index (one (option_shape (boxed (one bush_shape)))) c.in-Err.error refl below (kept.3) h in vec_unread bush_definitions c.args.part.bytes.now c.args.part.pos c.args.part.len (option_shape (boxed (one bush_shape))) (g.D.Entries.entry_of c.args.deserializer.now) c.in-Err.error c.requires (rw (c.before_vec-list.ensures.buffer, c.before_vec-list.ensures.position, c.before_vec-list.ensures.length, c.at-view.ensures.buffer, c.at-view.ensures.position) at r))

pub read_vec_option_box_bush-loop-index-preserved : goal.read_vec_option_box_bush-loop-index-preserved
read_vec_option_box_bush-loop-index-preserved g t c = (let kept = c.loop-index.invariant in let b = c.before_vec-list.result.bytes.now in let q = c.before_vec-list.result.pos in let n = c.before_vec-list.result.len in let below : c.loop-index.index < n = omega (arith, c.loop-index-test.true, c.loop-index.auto.index-end, c.len-index-end.ensures) in let pushed : c.push_reserved.new.self.items ≡ c.loop-index.items.items ++ c.in-Ok.item ∷ [] = grind (arith, common_steps) in let more : length (c.loop-index.items.items ++ c.in-Ok.item ∷ []) ≡ c.loop-index.index + 1 = grind (arith, common_steps, kept.0) in let h = rw (c.part.ensures.buffer, c.part.ensures.position, c.part.ensures.length, c.index.ensures.buffer, c.index.ensures.position, c.index.ensures.length) at c.in-Ok.ensures.read in rw pushed (more, grind (arith, common_steps, kept.1), grind (arith, common_steps, kept.2), elements_more bush_definitions (option_shape (boxed (one bush_shape))) (record { size = 8; align = 4 }) (record { solved = λ s k. refl }) b q (run (option_shape (boxed (one bush_shape)))) n n (all_have bush_definitions (option_shape (boxed (one bush_shape))) (record { size = 8; align = 4 }) (record { solved = λ s k. refl }) b q n (run (option_shape (boxed (one bush_shape)))) n (inl (refl, refl))) (λ y. (option_meaning (λ y. (box (bush_meaning y.value))) y)) (λ y. (option_keys (λ y. (bush_keys y.value)) y)) (g.D.Entries.entry_of c.args.deserializer.now) (g.D.Entries.entry_of c.loop-index.deserializer) (g.D.Entries.entry_of c.read_option_box_bush.new.deserializer) c.loop-index.items.items c.in-Ok.item c.loop-index.index (one (option_shape (boxed (one bush_shape)))) refl kept.0 below (kept.3) h))

pub read_vec_option_box_bush-returns-clause-read : goal.read_vec_option_box_bush-returns-clause-read
read_vec_option_box_bush-returns-clause-read g t c = (let kept = c.loop-index.invariant in let b = c.before_vec-list.result.bytes.now in let q = c.before_vec-list.result.pos in let n = c.before_vec-list.result.len in let whole : length c.loop-index.items.items ≡ n = omega (arith, kept.0, c.loop-index-test.false, c.loop-index.auto.index-end, c.len-index-end.ensures) in let r = elements_all bush_definitions (option_shape (boxed (one bush_shape))) (record { size = 8; align = 4 }) (record { solved = λ s k. refl }) b q (run (option_shape (boxed (one bush_shape)))) n n (all_have bush_definitions (option_shape (boxed (one bush_shape))) (record { size = 8; align = 4 }) (record { solved = λ s k. refl }) b q n (run (option_shape (boxed (one bush_shape)))) n (inl (refl, refl))) (λ y. (option_meaning (λ y. (box (bush_meaning y.value))) y)) (λ y. (option_keys (λ y. (bush_keys y.value)) y)) (g.D.Entries.entry_of c.args.deserializer.now) (g.D.Entries.entry_of c.loop-index.deserializer) c.loop-index.items.items whole (kept.3) in vec_read bush_definitions c.args.part.bytes.now c.args.part.pos c.args.part.len (option_shape (boxed (one bush_shape))) _ _ _ _ c.requires (rw (c.before_vec-list.ensures.buffer, c.before_vec-list.ensures.position, c.before_vec-list.ensures.length, c.at-view.ensures.buffer, c.at-view.ensures.position) at r))

pub read_vec_box_bush-returns-in-Err-clause-refused : goal.read_vec_box_bush-returns-in-Err-clause-refused
read_vec_box_bush-returns-in-Err-clause-refused g t c = (let kept = c.loop-index.invariant in let b = c.before_vec-list.result.bytes.now in let q = c.before_vec-list.result.pos in let n = c.before_vec-list.result.len in let below : c.loop-index.index < n = omega (arith, c.loop-index-test.true, c.loop-index.auto.index-end, c.len-index-end.ensures) in let h = rw (c.part.ensures.buffer, c.part.ensures.position, c.part.ensures.length, c.index.ensures.buffer, c.index.ensures.position, c.index.ensures.length) at c.in-Err.ensures.refused in let r = element_refused bush_definitions (boxed (one bush_shape)) (record { size = 4; align = 4 }) (record { solved = λ s k. refl }) b q (run (boxed (one bush_shape))) n n (all_have bush_definitions (boxed (one bush_shape)) (record { size = 4; align = 4 }) (record { solved = λ s k. refl }) b q n (run (boxed (one bush_shape))) n (inl (refl, refl))) (λ y. (box (bush_meaning y.value))) (λ y. (bush_keys y.value)) (g.D.Entries.entry_of c.args.deserializer.now) (g.D.Entries.entry_of c.loop-index.deserializer) c.loop-index.items.items c.loop-index.index (one (boxed (one bush_shape))) c.in-Err.error refl below (kept.3) h in vec_unread bush_definitions c.args.part.bytes.now c.args.part.pos c.args.part.len (boxed (one bush_shape)) (g.D.Entries.entry_of c.args.deserializer.now) c.in-Err.error c.requires (rw (c.before_vec-list.ensures.buffer, c.before_vec-list.ensures.position, c.before_vec-list.ensures.length, c.at-view.ensures.buffer, c.at-view.ensures.position) at r))

pub read_vec_box_bush-loop-index-preserved : goal.read_vec_box_bush-loop-index-preserved
read_vec_box_bush-loop-index-preserved g t c = (let kept = c.loop-index.invariant in let b = c.before_vec-list.result.bytes.now in let q = c.before_vec-list.result.pos in let n = c.before_vec-list.result.len in let below : c.loop-index.index < n = omega (arith, c.loop-index-test.true, c.loop-index.auto.index-end, c.len-index-end.ensures) in let pushed : c.push_reserved.new.self.items ≡ c.loop-index.items.items ++ c.in-Ok.item ∷ [] = grind (arith, common_steps) in let more : length (c.loop-index.items.items ++ c.in-Ok.item ∷ []) ≡ c.loop-index.index + 1 = grind (arith, common_steps, kept.0) in let h = rw (c.part.ensures.buffer, c.part.ensures.position, c.part.ensures.length, c.index.ensures.buffer, c.index.ensures.position, c.index.ensures.length) at c.in-Ok.ensures.read in rw pushed (more, grind (arith, common_steps, kept.1), grind (arith, common_steps, kept.2), elements_more bush_definitions (boxed (one bush_shape)) (record { size = 4; align = 4 }) (record { solved = λ s k. refl }) b q (run (boxed (one bush_shape))) n n (all_have bush_definitions (boxed (one bush_shape)) (record { size = 4; align = 4 }) (record { solved = λ s k. refl }) b q n (run (boxed (one bush_shape))) n (inl (refl, refl))) (λ y. (box (bush_meaning y.value))) (λ y. (bush_keys y.value)) (g.D.Entries.entry_of c.args.deserializer.now) (g.D.Entries.entry_of c.loop-index.deserializer) (g.D.Entries.entry_of c.read_box_bush.new.deserializer) c.loop-index.items.items c.in-Ok.item c.loop-index.index (one (boxed (one bush_shape))) refl kept.0 below (kept.3) h))

pub read_vec_box_bush-returns-clause-read : goal.read_vec_box_bush-returns-clause-read
read_vec_box_bush-returns-clause-read g t c = (let kept = c.loop-index.invariant in let b = c.before_vec-list.result.bytes.now in let q = c.before_vec-list.result.pos in let n = c.before_vec-list.result.len in let whole : length c.loop-index.items.items ≡ n = omega (arith, kept.0, c.loop-index-test.false, c.loop-index.auto.index-end, c.len-index-end.ensures) in let r = elements_all bush_definitions (boxed (one bush_shape)) (record { size = 4; align = 4 }) (record { solved = λ s k. refl }) b q (run (boxed (one bush_shape))) n n (all_have bush_definitions (boxed (one bush_shape)) (record { size = 4; align = 4 }) (record { solved = λ s k. refl }) b q n (run (boxed (one bush_shape))) n (inl (refl, refl))) (λ y. (box (bush_meaning y.value))) (λ y. (bush_keys y.value)) (g.D.Entries.entry_of c.args.deserializer.now) (g.D.Entries.entry_of c.loop-index.deserializer) c.loop-index.items.items whole (kept.3) in vec_read bush_definitions c.args.part.bytes.now c.args.part.pos c.args.part.len (boxed (one bush_shape)) _ _ _ _ c.requires (rw (c.before_vec-list.ensures.buffer, c.before_vec-list.ensures.position, c.before_vec-list.ensures.length, c.at-view.ensures.buffer, c.at-view.ensures.position) at r))

pub read_bush-returns-in-Err-clause-refused : goal.read_bush-returns-in-Err-clause-refused
read_bush-returns-in-Err-clause-refused g t c = (record_refuses bush_definitions bush_shape bush_part_definitions bush_parts bush_has_parts _ _ _ _ _ (first_refuses no_definition (both bush_definitions (both bush_definitions no_definition)) (leaf (number_kind unsigned w32)) (record { size = 4; align = 4 }) (record { solved = λ s k. refl }) (part (vec (option_shape (boxed (one bush_shape)))) (part (vec (boxed (one bush_shape))) no_part)) _ _ 0 _ _ (rw (c.part_of_record-p0.ensures.buffer, c.part_of_record-p0.ensures.position, c.part_of_record-p0.ensures.length) at c.in-Err.ensures.refused)))

pub read_bush-returns-in-Err-read_vec_option_box_bush-clause-refused : goal.read_bush-returns-in-Err-read_vec_option_box_bush-clause-refused
read_bush-returns-in-Err-read_vec_option_box_bush-clause-refused g t c = (record_refuses bush_definitions bush_shape bush_part_definitions bush_parts bush_has_parts _ _ _ _ _ (later_refuses no_definition (both bush_definitions (both bush_definitions no_definition)) (leaf (number_kind unsigned w32)) (record { size = 4; align = 4 }) (record { solved = λ s k. refl }) (part (vec (option_shape (boxed (one bush_shape)))) (part (vec (boxed (one bush_shape))) no_part)) _ _ 0 _ _ _ c.in-Ok.ensures.read.kept (first_refuses bush_definitions (both bush_definitions no_definition) (vec (option_shape (boxed (one bush_shape)))) (record { size = 8; align = 4 }) (record { solved = λ s k. refl }) (part (vec (boxed (one bush_shape))) no_part) _ _ 4 _ _ (rw (c.part_of_record-p1.ensures.buffer, c.part_of_record-p1.ensures.position, c.part_of_record-p1.ensures.length) at c.in-Err-read_vec_option_box_bush.ensures.refused))))

pub read_bush-returns-in-Err-read_vec_box_bush-clause-refused : goal.read_bush-returns-in-Err-read_vec_box_bush-clause-refused
read_bush-returns-in-Err-read_vec_box_bush-clause-refused g t c = (record_refuses bush_definitions bush_shape bush_part_definitions bush_parts bush_has_parts _ _ _ _ _ (later_refuses no_definition (both bush_definitions (both bush_definitions no_definition)) (leaf (number_kind unsigned w32)) (record { size = 4; align = 4 }) (record { solved = λ s k. refl }) (part (vec (option_shape (boxed (one bush_shape)))) (part (vec (boxed (one bush_shape))) no_part)) _ _ 0 _ _ _ c.in-Ok.ensures.read.kept (later_refuses bush_definitions (both bush_definitions no_definition) (vec (option_shape (boxed (one bush_shape)))) (record { size = 8; align = 4 }) (record { solved = λ s k. refl }) (part (vec (boxed (one bush_shape))) no_part) _ _ 4 _ _ _ c.in-Ok-read_vec_option_box_bush.ensures.read.kept (first_refuses bush_definitions no_definition (vec (boxed (one bush_shape))) (record { size = 8; align = 4 }) (record { solved = λ s k. refl }) no_part _ _ 12 _ _ (rw (c.part_of_record-p2.ensures.buffer, c.part_of_record-p2.ensures.position, c.part_of_record-p2.ensures.length) at c.in-Err-read_vec_box_bush.ensures.refused)))))

pub read_bush-returns-clause-read : goal.read_bush-returns-clause-read
read_bush-returns-clause-read g t c = read_as (bush_has_keys_roll (record { id = c.in-Ok.a0; sides = c.in-Ok-read_vec_option_box_bush.a1; next = c.in-Ok-read_vec_box_bush.a2 })) (bush_means_roll (record { id = c.in-Ok.a0; sides = c.in-Ok-read_vec_option_box_bush.a1; next = c.in-Ok-read_vec_box_bush.a2 })) (record_read_back bush_definitions bush_shape bush_part_definitions bush_parts bush_has_parts _ _ _ _ _ _ _ (part_read_back {L = (record { size = 4; align = 4 })} {ks = []} {ls = ((each_keys (λ y. (option_keys (λ y. (bush_keys y.value)) y)) c.in-Ok-read_vec_option_box_bush.a1.items) ++ ((each_keys (λ y. (bush_keys y.value)) c.in-Ok-read_vec_box_bush.a2.items) ++ []))} (record { solved = λ s k. refl }) (rw (c.part_of_record-p0.ensures.buffer, c.part_of_record-p0.ensures.position, c.part_of_record-p0.ensures.length) at c.in-Ok.ensures.read) (part_read_back {L = (record { size = 8; align = 4 })} {ks = (each_keys (λ y. (option_keys (λ y. (bush_keys y.value)) y)) c.in-Ok-read_vec_option_box_bush.a1.items)} {ls = ((each_keys (λ y. (bush_keys y.value)) c.in-Ok-read_vec_box_bush.a2.items) ++ [])} (record { solved = λ s k. refl }) (rw (c.part_of_record-p1.ensures.buffer, c.part_of_record-p1.ensures.position, c.part_of_record-p1.ensures.length) at c.in-Ok-read_vec_option_box_bush.ensures.read) (part_read_back {L = (record { size = 8; align = 4 })} {ks = (each_keys (λ y. (bush_keys y.value)) c.in-Ok-read_vec_box_bush.a2.items)} {ls = []} (record { solved = λ s k. refl }) (rw (c.part_of_record-p2.ensures.buffer, c.part_of_record-p2.ensures.position, c.part_of_record-p2.ensures.length) at c.in-Ok-read_vec_box_bush.ensures.read) no_part_read_back))))
