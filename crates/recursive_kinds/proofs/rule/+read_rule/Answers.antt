-- Written by tools/derive: change the declaration, and run it again.
use Rattle.archive_core.proofs.OwnersRead.{box_read, box_unread}
use Rattle.archive_core.proofs.ReadElements.{all_have, elements_more, elements_all, element_refused}
use Rattle.archive_core.proofs.ReadRecords.{record_read_back, record_refuses, first_refuses, later_refuses}
use Rattle.archive_core.specs.Arrays.{array_keys}
use Rattle.archive_core.specs.Definitions.{both, no_definition}
use Rattle.archive_core.specs.Held.{read_as}
use Rattle.archive_core.specs.PartsReading.{part_read_back, no_part_read_back}
use Rattle.archive_core.specs.Runs.{each_keys}
use Rattle.archive_core.specs.Shape.{parts, boxed, array, one, run, text, leaf, unsigned, part, no_part, number as number_kind}
use Rattle.recursive_kinds.specs.RuleMeaning.{rule_meaning, rule_keys, rule_means_roll, rule_has_keys_roll}
use Rattle.recursive_kinds.specs.RuleShape.{rule_layout, rule_has_layout, rule_shape, rule_definitions, rule_parts, rule_part_definitions, rule_has_parts}
use Rattle.std.proofs.Common.{inl, ◌≡◌, ◌<◌, ◌+◌, ◌++◌, ◌∷◌, [], length, refl, arith, pos}
use Rattle.std.proofs.lemmas.Grind.{common_steps}
use Rattle.std.specs.Int.{w8, w16, w32}
use Rattle.std.specs.Prelude.{[], ◌++◌, ◌≡◌, refl, pos, length}
use Rattle.recursive_kinds.proofs.rule.+read_rule.Goals as goal

pub read_box_slice_rule-returns-in-Err-clause-refused : goal.read_box_slice_rule-returns-in-Err-clause-refused
read_box_slice_rule-returns-in-Err-clause-refused g t c = (let kept = c.loop-index.invariant in let b = c.before_box_slice-list.result.bytes.now in let q = c.before_box_slice-list.result.pos in let n = c.before_box_slice-list.result.len in let below : c.loop-index.index < n = omega (arith, c.loop-index-test.true, c.loop-index.auto.index-end, c.len-index-end.ensures) in let h = rw (c.part.ensures.buffer, c.part.ensures.position, c.part.ensures.length, c.index.ensures.buffer, c.index.ensures.position, c.index.ensures.length) at c.in-Err.ensures.refused in let r = element_refused rule_definitions rule_shape rule_layout rule_has_layout b q (run rule_shape) n n (all_have rule_definitions rule_shape rule_layout rule_has_layout b q n (run rule_shape) n (inl (refl, refl))) rule_meaning rule_keys (g.D.Entries.entry_of c.args.deserializer.now) (g.D.Entries.entry_of c.loop-index.deserializer) c.loop-index.items.items c.loop-index.index (one rule_shape) c.in-Err.error refl below (kept.3) h in box_unread rule_definitions c.args.part.bytes.now c.args.part.pos c.args.part.len (run rule_shape) (g.D.Entries.entry_of c.args.deserializer.now) c.in-Err.error c.requires (rw (c.before_box_slice-list.ensures.buffer, c.before_box_slice-list.ensures.position, c.before_box_slice-list.ensures.length) at r))

pub read_box_slice_rule-loop-index-preserved : goal.read_box_slice_rule-loop-index-preserved
read_box_slice_rule-loop-index-preserved g t c = (let kept = c.loop-index.invariant in let b = c.before_box_slice-list.result.bytes.now in let q = c.before_box_slice-list.result.pos in let n = c.before_box_slice-list.result.len in let below : c.loop-index.index < n = omega (arith, c.loop-index-test.true, c.loop-index.auto.index-end, c.len-index-end.ensures) in let pushed : c.push_reserved.new.self.items ≡ c.loop-index.items.items ++ c.in-Ok.item ∷ [] = grind (arith, common_steps) in let more : length (c.loop-index.items.items ++ c.in-Ok.item ∷ []) ≡ c.loop-index.index + 1 = grind (arith, common_steps, kept.0) in let h = rw (c.part.ensures.buffer, c.part.ensures.position, c.part.ensures.length, c.index.ensures.buffer, c.index.ensures.position, c.index.ensures.length) at c.in-Ok.ensures.read in rw pushed (more, grind (arith, common_steps, kept.1), grind (arith, common_steps, kept.2), elements_more rule_definitions rule_shape rule_layout rule_has_layout b q (run rule_shape) n n (all_have rule_definitions rule_shape rule_layout rule_has_layout b q n (run rule_shape) n (inl (refl, refl))) rule_meaning rule_keys (g.D.Entries.entry_of c.args.deserializer.now) (g.D.Entries.entry_of c.loop-index.deserializer) (g.D.Entries.entry_of c.read_rule.new.deserializer) c.loop-index.items.items c.in-Ok.item c.loop-index.index (one rule_shape) refl kept.0 below (kept.3) h))

pub read_box_slice_rule-returns-clause-read : goal.read_box_slice_rule-returns-clause-read
read_box_slice_rule-returns-clause-read g t c = (let kept = c.loop-index.invariant in let b = c.before_box_slice-list.result.bytes.now in let q = c.before_box_slice-list.result.pos in let n = c.before_box_slice-list.result.len in let whole : length c.loop-index.items.items ≡ n = omega (arith, kept.0, c.loop-index-test.false, c.loop-index.auto.index-end, c.len-index-end.ensures) in let r = elements_all rule_definitions rule_shape rule_layout rule_has_layout b q (run rule_shape) n n (all_have rule_definitions rule_shape rule_layout rule_has_layout b q n (run rule_shape) n (inl (refl, refl))) rule_meaning rule_keys (g.D.Entries.entry_of c.args.deserializer.now) (g.D.Entries.entry_of c.loop-index.deserializer) c.loop-index.items.items whole (kept.3) in box_read rule_definitions c.args.part.bytes.now c.args.part.pos c.args.part.len (run rule_shape) _ _ _ _ c.requires (rw (c.before_box_slice-list.ensures.buffer, c.before_box_slice-list.ensures.position, c.before_box_slice-list.ensures.length) at r))

pub read_rule-returns-in-Err-clause-refused : goal.read_rule-returns-in-Err-clause-refused
read_rule-returns-in-Err-clause-refused g t c = (record_refuses rule_definitions rule_shape rule_part_definitions rule_parts rule_has_parts _ _ _ _ _ (first_refuses no_definition (both no_definition (both no_definition (both no_definition (both rule_definitions no_definition)))) (boxed text) (record { size = 8; align = 4 }) (record { solved = λ s k. refl }) (part (array 4 (leaf (number_kind unsigned w8))) (part (boxed (run (leaf (number_kind unsigned w16)))) (part (leaf (number_kind unsigned w32)) (part (boxed (run rule_shape)) no_part)))) _ _ 0 _ _ (rw (c.part_of_record-p0.ensures.buffer, c.part_of_record-p0.ensures.position, c.part_of_record-p0.ensures.length) at c.in-Err.ensures.refused)))

pub read_rule-returns-in-Err-read_part-clause-refused : goal.read_rule-returns-in-Err-read_part-clause-refused
read_rule-returns-in-Err-read_part-clause-refused g t c = (record_refuses rule_definitions rule_shape rule_part_definitions rule_parts rule_has_parts _ _ _ _ _ (later_refuses no_definition (both no_definition (both no_definition (both no_definition (both rule_definitions no_definition)))) (boxed text) (record { size = 8; align = 4 }) (record { solved = λ s k. refl }) (part (array 4 (leaf (number_kind unsigned w8))) (part (boxed (run (leaf (number_kind unsigned w16)))) (part (leaf (number_kind unsigned w32)) (part (boxed (run rule_shape)) no_part)))) _ _ 0 _ _ _ c.in-Ok.ensures.read.kept (first_refuses no_definition (both no_definition (both no_definition (both rule_definitions no_definition))) (array 4 (leaf (number_kind unsigned w8))) (record { size = 4; align = 1 }) (record { solved = λ s k. refl }) (part (boxed (run (leaf (number_kind unsigned w16)))) (part (leaf (number_kind unsigned w32)) (part (boxed (run rule_shape)) no_part))) _ _ 8 _ _ (rw (c.part_of_record-p1.ensures.buffer, c.part_of_record-p1.ensures.position, c.part_of_record-p1.ensures.length) at c.in-Err-read_part.ensures.refused))))

pub read_rule-returns-in-Err-read_part-2-clause-refused : goal.read_rule-returns-in-Err-read_part-2-clause-refused
read_rule-returns-in-Err-read_part-2-clause-refused g t c = (record_refuses rule_definitions rule_shape rule_part_definitions rule_parts rule_has_parts _ _ _ _ _ (later_refuses no_definition (both no_definition (both no_definition (both no_definition (both rule_definitions no_definition)))) (boxed text) (record { size = 8; align = 4 }) (record { solved = λ s k. refl }) (part (array 4 (leaf (number_kind unsigned w8))) (part (boxed (run (leaf (number_kind unsigned w16)))) (part (leaf (number_kind unsigned w32)) (part (boxed (run rule_shape)) no_part)))) _ _ 0 _ _ _ c.in-Ok.ensures.read.kept (later_refuses no_definition (both no_definition (both no_definition (both rule_definitions no_definition))) (array 4 (leaf (number_kind unsigned w8))) (record { size = 4; align = 1 }) (record { solved = λ s k. refl }) (part (boxed (run (leaf (number_kind unsigned w16)))) (part (leaf (number_kind unsigned w32)) (part (boxed (run rule_shape)) no_part))) _ _ 8 _ _ _ c.in-Ok-read_part.ensures.read.kept (first_refuses no_definition (both no_definition (both rule_definitions no_definition)) (boxed (run (leaf (number_kind unsigned w16)))) (record { size = 8; align = 4 }) (record { solved = λ s k. refl }) (part (leaf (number_kind unsigned w32)) (part (boxed (run rule_shape)) no_part)) _ _ 12 _ _ (rw (c.part_of_record-p2.ensures.buffer, c.part_of_record-p2.ensures.position, c.part_of_record-p2.ensures.length) at c.in-Err-read_part-2.ensures.refused)))))

pub read_rule-returns-in-Err-read_part-3-clause-refused : goal.read_rule-returns-in-Err-read_part-3-clause-refused
read_rule-returns-in-Err-read_part-3-clause-refused g t c = (record_refuses rule_definitions rule_shape rule_part_definitions rule_parts rule_has_parts _ _ _ _ _ (later_refuses no_definition (both no_definition (both no_definition (both no_definition (both rule_definitions no_definition)))) (boxed text) (record { size = 8; align = 4 }) (record { solved = λ s k. refl }) (part (array 4 (leaf (number_kind unsigned w8))) (part (boxed (run (leaf (number_kind unsigned w16)))) (part (leaf (number_kind unsigned w32)) (part (boxed (run rule_shape)) no_part)))) _ _ 0 _ _ _ c.in-Ok.ensures.read.kept (later_refuses no_definition (both no_definition (both no_definition (both rule_definitions no_definition))) (array 4 (leaf (number_kind unsigned w8))) (record { size = 4; align = 1 }) (record { solved = λ s k. refl }) (part (boxed (run (leaf (number_kind unsigned w16)))) (part (leaf (number_kind unsigned w32)) (part (boxed (run rule_shape)) no_part))) _ _ 8 _ _ _ c.in-Ok-read_part.ensures.read.kept (later_refuses no_definition (both no_definition (both rule_definitions no_definition)) (boxed (run (leaf (number_kind unsigned w16)))) (record { size = 8; align = 4 }) (record { solved = λ s k. refl }) (part (leaf (number_kind unsigned w32)) (part (boxed (run rule_shape)) no_part)) _ _ 12 _ _ _ c.in-Ok-read_part-2.ensures.read.kept (first_refuses no_definition (both rule_definitions no_definition) (leaf (number_kind unsigned w32)) (record { size = 4; align = 4 }) (record { solved = λ s k. refl }) (part (boxed (run rule_shape)) no_part) _ _ 20 _ _ (rw (c.part_of_record-p3.ensures.buffer, c.part_of_record-p3.ensures.position, c.part_of_record-p3.ensures.length) at c.in-Err-read_part-3.ensures.refused))))))

pub read_rule-returns-in-Err-read_box_slice_rule-clause-refused : goal.read_rule-returns-in-Err-read_box_slice_rule-clause-refused
read_rule-returns-in-Err-read_box_slice_rule-clause-refused g t c = (record_refuses rule_definitions rule_shape rule_part_definitions rule_parts rule_has_parts _ _ _ _ _ (later_refuses no_definition (both no_definition (both no_definition (both no_definition (both rule_definitions no_definition)))) (boxed text) (record { size = 8; align = 4 }) (record { solved = λ s k. refl }) (part (array 4 (leaf (number_kind unsigned w8))) (part (boxed (run (leaf (number_kind unsigned w16)))) (part (leaf (number_kind unsigned w32)) (part (boxed (run rule_shape)) no_part)))) _ _ 0 _ _ _ c.in-Ok.ensures.read.kept (later_refuses no_definition (both no_definition (both no_definition (both rule_definitions no_definition))) (array 4 (leaf (number_kind unsigned w8))) (record { size = 4; align = 1 }) (record { solved = λ s k. refl }) (part (boxed (run (leaf (number_kind unsigned w16)))) (part (leaf (number_kind unsigned w32)) (part (boxed (run rule_shape)) no_part))) _ _ 8 _ _ _ c.in-Ok-read_part.ensures.read.kept (later_refuses no_definition (both no_definition (both rule_definitions no_definition)) (boxed (run (leaf (number_kind unsigned w16)))) (record { size = 8; align = 4 }) (record { solved = λ s k. refl }) (part (leaf (number_kind unsigned w32)) (part (boxed (run rule_shape)) no_part)) _ _ 12 _ _ _ c.in-Ok-read_part-2.ensures.read.kept (later_refuses no_definition (both rule_definitions no_definition) (leaf (number_kind unsigned w32)) (record { size = 4; align = 4 }) (record { solved = λ s k. refl }) (part (boxed (run rule_shape)) no_part) _ _ 20 _ _ _ c.in-Ok-read_part-3.ensures.read.kept (first_refuses rule_definitions no_definition (boxed (run rule_shape)) (record { size = 8; align = 4 }) (record { solved = λ s k. refl }) no_part _ _ 24 _ _ (rw (c.part_of_record-p4.ensures.buffer, c.part_of_record-p4.ensures.position, c.part_of_record-p4.ensures.length) at c.in-Err-read_box_slice_rule.ensures.refused)))))))

pub read_rule-returns-clause-read : goal.read_rule-returns-clause-read
read_rule-returns-clause-read g t c = read_as (rule_has_keys_roll (record { words = c.in-Ok.a0; version = c.in-Ok-read_part.a1; pages = c.in-Ok-read_part-2.a2; lines = c.in-Ok-read_part-3.a3; parts = c.in-Ok-read_box_slice_rule.a4 })) (rule_means_roll (record { words = c.in-Ok.a0; version = c.in-Ok-read_part.a1; pages = c.in-Ok-read_part-2.a2; lines = c.in-Ok-read_part-3.a3; parts = c.in-Ok-read_box_slice_rule.a4 })) (record_read_back rule_definitions rule_shape rule_part_definitions rule_parts rule_has_parts _ _ _ _ _ _ _ (part_read_back {L = (record { size = 8; align = 4 })} {ks = []} {ls = ((array_keys 4 (λ y. []) c.in-Ok-read_part.a1) ++ ((each_keys (λ y. []) c.in-Ok-read_part-2.a2.items.items) ++ ([] ++ ((each_keys rule_keys c.in-Ok-read_box_slice_rule.a4.items.items) ++ []))))} (record { solved = λ s k. refl }) (rw (c.part_of_record-p0.ensures.buffer, c.part_of_record-p0.ensures.position, c.part_of_record-p0.ensures.length) at c.in-Ok.ensures.read) (part_read_back {L = (record { size = 4; align = 1 })} {ks = (array_keys 4 (λ y. []) c.in-Ok-read_part.a1)} {ls = ((each_keys (λ y. []) c.in-Ok-read_part-2.a2.items.items) ++ ([] ++ ((each_keys rule_keys c.in-Ok-read_box_slice_rule.a4.items.items) ++ [])))} (record { solved = λ s k. refl }) (rw (c.part_of_record-p1.ensures.buffer, c.part_of_record-p1.ensures.position, c.part_of_record-p1.ensures.length) at c.in-Ok-read_part.ensures.read) (part_read_back {L = (record { size = 8; align = 4 })} {ks = (each_keys (λ y. []) c.in-Ok-read_part-2.a2.items.items)} {ls = ([] ++ ((each_keys rule_keys c.in-Ok-read_box_slice_rule.a4.items.items) ++ []))} (record { solved = λ s k. refl }) (rw (c.part_of_record-p2.ensures.buffer, c.part_of_record-p2.ensures.position, c.part_of_record-p2.ensures.length) at c.in-Ok-read_part-2.ensures.read) (part_read_back {L = (record { size = 4; align = 4 })} {ks = []} {ls = ((each_keys rule_keys c.in-Ok-read_box_slice_rule.a4.items.items) ++ [])} (record { solved = λ s k. refl }) (rw (c.part_of_record-p3.ensures.buffer, c.part_of_record-p3.ensures.position, c.part_of_record-p3.ensures.length) at c.in-Ok-read_part-3.ensures.read) (part_read_back {L = (record { size = 8; align = 4 })} {ks = (each_keys rule_keys c.in-Ok-read_box_slice_rule.a4.items.items)} {ls = []} (record { solved = λ s k. refl }) (rw (c.part_of_record-p4.ensures.buffer, c.part_of_record-p4.ensures.position, c.part_of_record-p4.ensures.length) at c.in-Ok-read_box_slice_rule.ensures.read) no_part_read_back))))))
