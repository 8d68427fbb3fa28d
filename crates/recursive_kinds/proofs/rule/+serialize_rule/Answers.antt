-- Written by tools/derive: change the declaration, and run it again.
use Rattle.archive_core.proofs.Causes.{err_by, goes_both}
use Rattle.archive_core.proofs.Owners.{box_refused}
use Rattle.archive_core.proofs.PlannedParts.{serialized_no_part, serialized_part, serialized_record, record_refused, first_refused, later_refused}
use Rattle.archive_core.proofs.RunRegions.{run_owned, long_run_refused}
use Rattle.archive_core.proofs.Runs.{continues_step, continues_broken, continues_end, belongs_end}
use Rattle.archive_core.specs.Arrays.{array_keys, array_meaning, array_planned}
use Rattle.archive_core.specs.Causes.{no_memory}
use Rattle.archive_core.specs.Definitions.{both, no_definition}
use Rattle.archive_core.specs.Error.TheVariants.{OutOfMemory}
use Rattle.archive_core.specs.Held.{written_as, refused_as}
use Rattle.archive_core.specs.PartsPlanned.{part_planned, no_part_planned}
use Rattle.archive_core.specs.Planned.{leaf_planned}
use Rattle.archive_core.specs.PlannedOwners.{box_planned, slice_planned, each_planned}
use Rattle.archive_core.specs.Runs.{each_keys, each_meaning}
use Rattle.archive_core.specs.Shape.{parts, boxed, array, run, text, leaf, unsigned, part, no_part, number as number_kind}
use Rattle.archive_core.specs.Value.{list, box, number, value, no_value, text_value}
use Rattle.recursive_kinds.specs.RuleMeaning.{rule_meaning, rule_keys, rule_planned, rule_means, rule_has_keys}
use Rattle.recursive_kinds.specs.RuleShape.{rule_shape, rule_definitions, rule_parts, rule_part_definitions, rule_has_parts}
use Rattle.recursive_kinds.specs.declared.rule.Rule.{out-Rule}
use Rattle.std.proofs.Common.{◌≡◌, ◌<◌, ◌++◌, [], length, refl, arith, pos, string_bytes}
use Rattle.std.proofs.Math.ListN.{drop_of_length-le}
use Rattle.std.proofs.lemmas.Grind.{common_steps}
use Rattle.std.specs.Int.{w8, w16, w32}
use Rattle.std.specs.Prelude.{[], ◌++◌, ◌≡◌, refl, pos, length, string_bytes}
use Rattle.recursive_kinds.proofs.rule.+serialize_rule.Goals as goal

pub serialize_each_rule-returns-in_err-resolvers-clause-refused : goal.serialize_each_rule-returns-in_err-resolvers-clause-refused
serialize_each_rule-returns-in_err-resolvers-clause-refused g t c = err_by c.from_residual.result OutOfMemory _ c.from_residual.ensures.1 no_memory

pub serialize_each_rule-returns-in-Err-clause-goes_on : goal.serialize_each_rule-returns-in-Err-clause-goes_on
serialize_each_rule-returns-in-Err-clause-goes_on g t c = goes_both _ _ _ c.loop-value.invariant.continues.goes c.serialize_rule.ensures.goes_on

pub serialize_each_rule-returns-in-Err-clause-refused : goal.serialize_each_rule-returns-in-Err-clause-refused
serialize_each_rule-returns-in-Err-clause-refused g t c = rw c.handed_on.ensures (continues_broken _ _ _ _ _ _ _ _ _ _ c.loop-value.value-index _ _ _ c.loop-value-test.true c.value-item.is rule_planned c.loop-value.invariant.continues c.serialize_rule.ensures.goes_on c.in-Err.ensures.refused)

pub serialize_each_rule-loop-value-preserved : goal.serialize_each_rule-loop-value-preserved
serialize_each_rule-loop-value-preserved g t c = record { continues = continues_step _ _ _ _ _ _ _ _ _ _ c.loop-value.value-index _ _ _ c.in-Ok.resolver c.loop-value-test.true c.value-item.is (grind (arith, common_steps)) c.loop-value.invariant.continues c.in-Ok.ensures.serialized c.in-Ok.ensures.same_value c.serialize_rule.ensures.goes_on; reserved = (grind (arith, common_steps, c.loop-value.invariant.reserved.0), grind (arith, common_steps, c.loop-value.invariant.reserved.1)) }

pub serialize_each_rule-returns-clause-serialized : goal.serialize_each_rule-returns-clause-serialized
serialize_each_rule-returns-clause-serialized g t c = continues_end _ _ _ _ _ _ _ _ _ _ _ (drop_of_length-le _ c.loop-value-test.false) c.loop-value.invariant.continues

pub serialize_each_rule-returns-clause-same_values : goal.serialize_each_rule-returns-clause-same_values
serialize_each_rule-returns-clause-same_values g t c = belongs_end _ _ _ _ _ _ _ _ _ _ _ (drop_of_length-le _ c.loop-value-test.false) c.loop-value.invariant.continues

pub serialize_box_slice_rule-returns-then-len-clause-refused : goal.serialize_box_slice_rule-returns-then-len-clause-refused
serialize_box_slice_rule-returns-then-len-clause-refused g t c = (let long : 4294967295 < length c.args.value.now.items = (let whole : length c.args.value.now.items ≡ c.len.result = grind (arith, common_steps, c.len.ensures) in omega (arith, c.if-len.true, whole)) in box_refused rule_definitions (run rule_shape) (length c.args.value.now.items) (each_keys rule_keys c.args.value.now.items) (list (each_meaning rule_meaning c.args.value.now.items)) _ _ _ (long_run_refused rule_definitions rule_shape (length c.args.value.now.items) (each_keys rule_keys c.args.value.now.items) (each_meaning rule_meaning c.args.value.now.items) _ _ (each_planned rule_definitions rule_shape rule_keys rule_meaning rule_planned c.args.value.now.items) long))

pub serialize_box_slice_rule-returns-in-Err-clause-refused : goal.serialize_box_slice_rule-returns-in-Err-clause-refused
serialize_box_slice_rule-returns-in-Err-clause-refused g t c = box_refused rule_definitions (run rule_shape) (length c.args.value.now.items) (each_keys rule_keys c.args.value.now.items) (list (each_meaning rule_meaning c.args.value.now.items)) _ _ _ (run_owned rule_definitions rule_shape (length c.args.value.now.items) (each_keys rule_keys c.args.value.now.items) (each_meaning rule_meaning c.args.value.now.items) _ _ _ (rw c.as_slice-items.ensures.value at c.in-Err.ensures.refused))

pub serialize_box_slice_rule-returns-in-Ok-serialize_inner_box_slice-clause-serialized : goal.serialize_box_slice_rule-returns-in-Ok-serialize_inner_box_slice-clause-serialized
serialize_box_slice_rule-returns-in-Ok-serialize_inner_box_slice-clause-serialized g t c = (rw c.as_slice-items.ensures.value at c.in-Ok-serialize_inner_box_slice.ensures.boxed) _ c.serialize_each_rule.ensures.goes_on (rw c.as_slice-items.ensures.value at c.in-Ok.ensures.serialized)

pub serialize_box_slice_rule-returns-in-Ok-serialize_inner_box_slice-clause-goes_on : goal.serialize_box_slice_rule-returns-in-Ok-serialize_inner_box_slice-clause-goes_on
serialize_box_slice_rule-returns-in-Ok-serialize_inner_box_slice-clause-goes_on g t c = (goes_both _ _ _ c.serialize_each_rule.ensures.goes_on c.serialize_inner_box_slice.ensures.goes_on)

pub serialize_box_slice_rule-returns-in-Err-serialize_inner_box_slice-clause-goes_on : goal.serialize_box_slice_rule-returns-in-Err-serialize_inner_box_slice-clause-goes_on
serialize_box_slice_rule-returns-in-Err-serialize_inner_box_slice-clause-goes_on g t c = (goes_both _ _ _ c.serialize_each_rule.ensures.goes_on c.serialize_inner_box_slice.ensures.goes_on)

pub serialize_box_slice_rule-returns-in-Err-serialize_inner_box_slice-clause-refused : goal.serialize_box_slice_rule-returns-in-Err-serialize_inner_box_slice-clause-refused
serialize_box_slice_rule-returns-in-Err-serialize_inner_box_slice-clause-refused g t c = (rw c.as_slice-items.ensures.value at c.in-Err-serialize_inner_box_slice.ensures.refused) _ c.serialize_each_rule.ensures.goes_on (rw c.as_slice-items.ensures.value at c.in-Ok.ensures.serialized)

pub serialize_whole_rule-returns-in-Err-clause-refused : goal.serialize_whole_rule-returns-in-Err-clause-refused
serialize_whole_rule-returns-in-Err-clause-refused g t c = (refused_as (rule_has_keys c.args.value.now) (rule_means c.args.value.now) (record_refused rule_definitions rule_shape rule_part_definitions rule_parts rule_has_parts _ _ _ _ _ (first_refused no_definition (both no_definition (both no_definition (both no_definition (both rule_definitions no_definition)))) (boxed text) (part (array 4 (leaf (number_kind unsigned w8))) (part (boxed (run (leaf (number_kind unsigned w16)))) (part (leaf (number_kind unsigned w32)) (part (boxed (run rule_shape)) no_part)))) [] ((array_keys 4 (λ y. []) (out-Rule c.args.value.now).version) ++ ((each_keys (λ y. []) (out-Rule c.args.value.now).pages.items.items) ++ ([] ++ ((each_keys rule_keys (out-Rule c.args.value.now).parts.items.items) ++ [])))) (box (text_value (string_bytes (out-Rule c.args.value.now).words.text))) (value (array_meaning 4 (λ y. (number (pos y))) (out-Rule c.args.value.now).version) (value (box (list (each_meaning (λ y. (number (pos y))) (out-Rule c.args.value.now).pages.items.items))) (value (number (pos (out-Rule c.args.value.now).lines)) (value (box (list (each_meaning rule_meaning (out-Rule c.args.value.now).parts.items.items))) no_value)))) _ _ _ (part_planned no_definition (array 4 (leaf (number_kind unsigned w8))) (array_keys 4 (λ y. []) (out-Rule c.args.value.now).version) (array_meaning 4 (λ y. (number (pos y))) (out-Rule c.args.value.now).version) (array_planned 4 no_definition (leaf (number_kind unsigned w8)) (λ y. []) (λ y. (number (pos y))) (λ y. (leaf_planned no_definition _ _ [] _ refl)) (out-Rule c.args.value.now).version) (part_planned no_definition (boxed (run (leaf (number_kind unsigned w16)))) (each_keys (λ y. []) (out-Rule c.args.value.now).pages.items.items) (box (list (each_meaning (λ y. (number (pos y))) (out-Rule c.args.value.now).pages.items.items))) (box_planned no_definition (run (leaf (number_kind unsigned w16))) _ _ _ (slice_planned no_definition (leaf (number_kind unsigned w16)) (λ y. []) (λ y. (number (pos y))) (λ y. (leaf_planned no_definition _ _ [] _ refl)) (out-Rule c.args.value.now).pages.items.items)) (part_planned no_definition (leaf (number_kind unsigned w32)) [] (number (pos (out-Rule c.args.value.now).lines)) (leaf_planned no_definition _ _ [] _ refl) (part_planned rule_definitions (boxed (run rule_shape)) (each_keys rule_keys (out-Rule c.args.value.now).parts.items.items) (box (list (each_meaning rule_meaning (out-Rule c.args.value.now).parts.items.items))) (box_planned rule_definitions (run rule_shape) _ _ _ (slice_planned rule_definitions rule_shape rule_keys rule_meaning rule_planned (out-Rule c.args.value.now).parts.items.items)) no_part_planned)))) c.in-Err.ensures.refused)))

pub serialize_whole_rule-returns-in-Err-serialize_part-clause-refused : goal.serialize_whole_rule-returns-in-Err-serialize_part-clause-refused
serialize_whole_rule-returns-in-Err-serialize_part-clause-refused g t c = (refused_as (rule_has_keys c.args.value.now) (rule_means c.args.value.now) (record_refused rule_definitions rule_shape rule_part_definitions rule_parts rule_has_parts _ _ _ _ _ (later_refused no_definition (both no_definition (both no_definition (both no_definition (both rule_definitions no_definition)))) (boxed text) (part (array 4 (leaf (number_kind unsigned w8))) (part (boxed (run (leaf (number_kind unsigned w16)))) (part (leaf (number_kind unsigned w32)) (part (boxed (run rule_shape)) no_part)))) [] ((array_keys 4 (λ y. []) (out-Rule c.args.value.now).version) ++ ((each_keys (λ y. []) (out-Rule c.args.value.now).pages.items.items) ++ ([] ++ ((each_keys rule_keys (out-Rule c.args.value.now).parts.items.items) ++ [])))) (box (text_value (string_bytes (out-Rule c.args.value.now).words.text))) (value (array_meaning 4 (λ y. (number (pos y))) (out-Rule c.args.value.now).version) (value (box (list (each_meaning (λ y. (number (pos y))) (out-Rule c.args.value.now).pages.items.items))) (value (number (pos (out-Rule c.args.value.now).lines)) (value (box (list (each_meaning rule_meaning (out-Rule c.args.value.now).parts.items.items))) no_value)))) _ _ _ _ _ c.in-Ok.ensures.serialized c.serialize_part.ensures.goes_on c.serialize_part-2.ensures.goes_on (first_refused no_definition (both no_definition (both no_definition (both rule_definitions no_definition))) (array 4 (leaf (number_kind unsigned w8))) (part (boxed (run (leaf (number_kind unsigned w16)))) (part (leaf (number_kind unsigned w32)) (part (boxed (run rule_shape)) no_part))) (array_keys 4 (λ y. []) (out-Rule c.args.value.now).version) ((each_keys (λ y. []) (out-Rule c.args.value.now).pages.items.items) ++ ([] ++ ((each_keys rule_keys (out-Rule c.args.value.now).parts.items.items) ++ []))) (array_meaning 4 (λ y. (number (pos y))) (out-Rule c.args.value.now).version) (value (box (list (each_meaning (λ y. (number (pos y))) (out-Rule c.args.value.now).pages.items.items))) (value (number (pos (out-Rule c.args.value.now).lines)) (value (box (list (each_meaning rule_meaning (out-Rule c.args.value.now).parts.items.items))) no_value))) _ _ _ (part_planned no_definition (boxed (run (leaf (number_kind unsigned w16)))) (each_keys (λ y. []) (out-Rule c.args.value.now).pages.items.items) (box (list (each_meaning (λ y. (number (pos y))) (out-Rule c.args.value.now).pages.items.items))) (box_planned no_definition (run (leaf (number_kind unsigned w16))) _ _ _ (slice_planned no_definition (leaf (number_kind unsigned w16)) (λ y. []) (λ y. (number (pos y))) (λ y. (leaf_planned no_definition _ _ [] _ refl)) (out-Rule c.args.value.now).pages.items.items)) (part_planned no_definition (leaf (number_kind unsigned w32)) [] (number (pos (out-Rule c.args.value.now).lines)) (leaf_planned no_definition _ _ [] _ refl) (part_planned rule_definitions (boxed (run rule_shape)) (each_keys rule_keys (out-Rule c.args.value.now).parts.items.items) (box (list (each_meaning rule_meaning (out-Rule c.args.value.now).parts.items.items))) (box_planned rule_definitions (run rule_shape) _ _ _ (slice_planned rule_definitions rule_shape rule_keys rule_meaning rule_planned (out-Rule c.args.value.now).parts.items.items)) no_part_planned))) c.in-Err-serialize_part.ensures.refused))))

pub serialize_whole_rule-returns-in-Err-serialize_part-clause-goes_on : goal.serialize_whole_rule-returns-in-Err-serialize_part-clause-goes_on
serialize_whole_rule-returns-in-Err-serialize_part-clause-goes_on g t c = (goes_both _ _ _ c.serialize_part.ensures.goes_on c.serialize_part-2.ensures.goes_on)

pub serialize_whole_rule-returns-in-Err-serialize_part-2-clause-refused : goal.serialize_whole_rule-returns-in-Err-serialize_part-2-clause-refused
serialize_whole_rule-returns-in-Err-serialize_part-2-clause-refused g t c = (refused_as (rule_has_keys c.args.value.now) (rule_means c.args.value.now) (record_refused rule_definitions rule_shape rule_part_definitions rule_parts rule_has_parts _ _ _ _ _ (later_refused no_definition (both no_definition (both no_definition (both no_definition (both rule_definitions no_definition)))) (boxed text) (part (array 4 (leaf (number_kind unsigned w8))) (part (boxed (run (leaf (number_kind unsigned w16)))) (part (leaf (number_kind unsigned w32)) (part (boxed (run rule_shape)) no_part)))) [] ((array_keys 4 (λ y. []) (out-Rule c.args.value.now).version) ++ ((each_keys (λ y. []) (out-Rule c.args.value.now).pages.items.items) ++ ([] ++ ((each_keys rule_keys (out-Rule c.args.value.now).parts.items.items) ++ [])))) (box (text_value (string_bytes (out-Rule c.args.value.now).words.text))) (value (array_meaning 4 (λ y. (number (pos y))) (out-Rule c.args.value.now).version) (value (box (list (each_meaning (λ y. (number (pos y))) (out-Rule c.args.value.now).pages.items.items))) (value (number (pos (out-Rule c.args.value.now).lines)) (value (box (list (each_meaning rule_meaning (out-Rule c.args.value.now).parts.items.items))) no_value)))) _ _ _ _ _ c.in-Ok.ensures.serialized c.serialize_part.ensures.goes_on (goes_both _ _ _ c.serialize_part-2.ensures.goes_on c.serialize_part-3.ensures.goes_on) (later_refused no_definition (both no_definition (both no_definition (both rule_definitions no_definition))) (array 4 (leaf (number_kind unsigned w8))) (part (boxed (run (leaf (number_kind unsigned w16)))) (part (leaf (number_kind unsigned w32)) (part (boxed (run rule_shape)) no_part))) (array_keys 4 (λ y. []) (out-Rule c.args.value.now).version) ((each_keys (λ y. []) (out-Rule c.args.value.now).pages.items.items) ++ ([] ++ ((each_keys rule_keys (out-Rule c.args.value.now).parts.items.items) ++ []))) (array_meaning 4 (λ y. (number (pos y))) (out-Rule c.args.value.now).version) (value (box (list (each_meaning (λ y. (number (pos y))) (out-Rule c.args.value.now).pages.items.items))) (value (number (pos (out-Rule c.args.value.now).lines)) (value (box (list (each_meaning rule_meaning (out-Rule c.args.value.now).parts.items.items))) no_value))) _ _ _ _ _ c.in-Ok-serialize_part.ensures.serialized c.serialize_part-2.ensures.goes_on c.serialize_part-3.ensures.goes_on (first_refused no_definition (both no_definition (both rule_definitions no_definition)) (boxed (run (leaf (number_kind unsigned w16)))) (part (leaf (number_kind unsigned w32)) (part (boxed (run rule_shape)) no_part)) (each_keys (λ y. []) (out-Rule c.args.value.now).pages.items.items) ([] ++ ((each_keys rule_keys (out-Rule c.args.value.now).parts.items.items) ++ [])) (box (list (each_meaning (λ y. (number (pos y))) (out-Rule c.args.value.now).pages.items.items))) (value (number (pos (out-Rule c.args.value.now).lines)) (value (box (list (each_meaning rule_meaning (out-Rule c.args.value.now).parts.items.items))) no_value)) _ _ _ (part_planned no_definition (leaf (number_kind unsigned w32)) [] (number (pos (out-Rule c.args.value.now).lines)) (leaf_planned no_definition _ _ [] _ refl) (part_planned rule_definitions (boxed (run rule_shape)) (each_keys rule_keys (out-Rule c.args.value.now).parts.items.items) (box (list (each_meaning rule_meaning (out-Rule c.args.value.now).parts.items.items))) (box_planned rule_definitions (run rule_shape) _ _ _ (slice_planned rule_definitions rule_shape rule_keys rule_meaning rule_planned (out-Rule c.args.value.now).parts.items.items)) no_part_planned)) c.in-Err-serialize_part-2.ensures.refused)))))

pub serialize_whole_rule-returns-in-Err-serialize_part-2-clause-goes_on : goal.serialize_whole_rule-returns-in-Err-serialize_part-2-clause-goes_on
serialize_whole_rule-returns-in-Err-serialize_part-2-clause-goes_on g t c = (goes_both _ _ _ (goes_both _ _ _ c.serialize_part.ensures.goes_on c.serialize_part-2.ensures.goes_on) c.serialize_part-3.ensures.goes_on)

pub serialize_whole_rule-returns-in-Err-serialize_part-3-clause-refused : goal.serialize_whole_rule-returns-in-Err-serialize_part-3-clause-refused
serialize_whole_rule-returns-in-Err-serialize_part-3-clause-refused g t c = (refused_as (rule_has_keys c.args.value.now) (rule_means c.args.value.now) (record_refused rule_definitions rule_shape rule_part_definitions rule_parts rule_has_parts _ _ _ _ _ (later_refused no_definition (both no_definition (both no_definition (both no_definition (both rule_definitions no_definition)))) (boxed text) (part (array 4 (leaf (number_kind unsigned w8))) (part (boxed (run (leaf (number_kind unsigned w16)))) (part (leaf (number_kind unsigned w32)) (part (boxed (run rule_shape)) no_part)))) [] ((array_keys 4 (λ y. []) (out-Rule c.args.value.now).version) ++ ((each_keys (λ y. []) (out-Rule c.args.value.now).pages.items.items) ++ ([] ++ ((each_keys rule_keys (out-Rule c.args.value.now).parts.items.items) ++ [])))) (box (text_value (string_bytes (out-Rule c.args.value.now).words.text))) (value (array_meaning 4 (λ y. (number (pos y))) (out-Rule c.args.value.now).version) (value (box (list (each_meaning (λ y. (number (pos y))) (out-Rule c.args.value.now).pages.items.items))) (value (number (pos (out-Rule c.args.value.now).lines)) (value (box (list (each_meaning rule_meaning (out-Rule c.args.value.now).parts.items.items))) no_value)))) _ _ _ _ _ c.in-Ok.ensures.serialized c.serialize_part.ensures.goes_on (goes_both _ _ _ (goes_both _ _ _ c.serialize_part-2.ensures.goes_on c.serialize_part-3.ensures.goes_on) c.serialize_part-4.ensures.goes_on) (later_refused no_definition (both no_definition (both no_definition (both rule_definitions no_definition))) (array 4 (leaf (number_kind unsigned w8))) (part (boxed (run (leaf (number_kind unsigned w16)))) (part (leaf (number_kind unsigned w32)) (part (boxed (run rule_shape)) no_part))) (array_keys 4 (λ y. []) (out-Rule c.args.value.now).version) ((each_keys (λ y. []) (out-Rule c.args.value.now).pages.items.items) ++ ([] ++ ((each_keys rule_keys (out-Rule c.args.value.now).parts.items.items) ++ []))) (array_meaning 4 (λ y. (number (pos y))) (out-Rule c.args.value.now).version) (value (box (list (each_meaning (λ y. (number (pos y))) (out-Rule c.args.value.now).pages.items.items))) (value (number (pos (out-Rule c.args.value.now).lines)) (value (box (list (each_meaning rule_meaning (out-Rule c.args.value.now).parts.items.items))) no_value))) _ _ _ _ _ c.in-Ok-serialize_part.ensures.serialized c.serialize_part-2.ensures.goes_on (goes_both _ _ _ c.serialize_part-3.ensures.goes_on c.serialize_part-4.ensures.goes_on) (later_refused no_definition (both no_definition (both rule_definitions no_definition)) (boxed (run (leaf (number_kind unsigned w16)))) (part (leaf (number_kind unsigned w32)) (part (boxed (run rule_shape)) no_part)) (each_keys (λ y. []) (out-Rule c.args.value.now).pages.items.items) ([] ++ ((each_keys rule_keys (out-Rule c.args.value.now).parts.items.items) ++ [])) (box (list (each_meaning (λ y. (number (pos y))) (out-Rule c.args.value.now).pages.items.items))) (value (number (pos (out-Rule c.args.value.now).lines)) (value (box (list (each_meaning rule_meaning (out-Rule c.args.value.now).parts.items.items))) no_value)) _ _ _ _ _ c.in-Ok-serialize_part-2.ensures.serialized c.serialize_part-3.ensures.goes_on c.serialize_part-4.ensures.goes_on (first_refused no_definition (both rule_definitions no_definition) (leaf (number_kind unsigned w32)) (part (boxed (run rule_shape)) no_part) [] ((each_keys rule_keys (out-Rule c.args.value.now).parts.items.items) ++ []) (number (pos (out-Rule c.args.value.now).lines)) (value (box (list (each_meaning rule_meaning (out-Rule c.args.value.now).parts.items.items))) no_value) _ _ _ (part_planned rule_definitions (boxed (run rule_shape)) (each_keys rule_keys (out-Rule c.args.value.now).parts.items.items) (box (list (each_meaning rule_meaning (out-Rule c.args.value.now).parts.items.items))) (box_planned rule_definitions (run rule_shape) _ _ _ (slice_planned rule_definitions rule_shape rule_keys rule_meaning rule_planned (out-Rule c.args.value.now).parts.items.items)) no_part_planned) c.in-Err-serialize_part-3.ensures.refused))))))

pub serialize_whole_rule-returns-in-Err-serialize_part-3-clause-goes_on : goal.serialize_whole_rule-returns-in-Err-serialize_part-3-clause-goes_on
serialize_whole_rule-returns-in-Err-serialize_part-3-clause-goes_on g t c = (goes_both _ _ _ (goes_both _ _ _ (goes_both _ _ _ c.serialize_part.ensures.goes_on c.serialize_part-2.ensures.goes_on) c.serialize_part-3.ensures.goes_on) c.serialize_part-4.ensures.goes_on)

pub serialize_whole_rule-returns-in-Err-serialize_box_slice_rule-clause-refused : goal.serialize_whole_rule-returns-in-Err-serialize_box_slice_rule-clause-refused
serialize_whole_rule-returns-in-Err-serialize_box_slice_rule-clause-refused g t c = rw c.handed_on.ensures (refused_as (rule_has_keys c.args.value.now) (rule_means c.args.value.now) (record_refused rule_definitions rule_shape rule_part_definitions rule_parts rule_has_parts _ _ _ _ _ (later_refused no_definition (both no_definition (both no_definition (both no_definition (both rule_definitions no_definition)))) (boxed text) (part (array 4 (leaf (number_kind unsigned w8))) (part (boxed (run (leaf (number_kind unsigned w16)))) (part (leaf (number_kind unsigned w32)) (part (boxed (run rule_shape)) no_part)))) [] ((array_keys 4 (λ y. []) (out-Rule c.args.value.now).version) ++ ((each_keys (λ y. []) (out-Rule c.args.value.now).pages.items.items) ++ ([] ++ ((each_keys rule_keys (out-Rule c.args.value.now).parts.items.items) ++ [])))) (box (text_value (string_bytes (out-Rule c.args.value.now).words.text))) (value (array_meaning 4 (λ y. (number (pos y))) (out-Rule c.args.value.now).version) (value (box (list (each_meaning (λ y. (number (pos y))) (out-Rule c.args.value.now).pages.items.items))) (value (number (pos (out-Rule c.args.value.now).lines)) (value (box (list (each_meaning rule_meaning (out-Rule c.args.value.now).parts.items.items))) no_value)))) _ _ _ _ _ c.in-Ok.ensures.serialized c.serialize_part.ensures.goes_on (goes_both _ _ _ (goes_both _ _ _ (goes_both _ _ _ c.serialize_part-2.ensures.goes_on c.serialize_part-3.ensures.goes_on) c.serialize_part-4.ensures.goes_on) c.serialize_box_slice_rule.ensures.goes_on) (later_refused no_definition (both no_definition (both no_definition (both rule_definitions no_definition))) (array 4 (leaf (number_kind unsigned w8))) (part (boxed (run (leaf (number_kind unsigned w16)))) (part (leaf (number_kind unsigned w32)) (part (boxed (run rule_shape)) no_part))) (array_keys 4 (λ y. []) (out-Rule c.args.value.now).version) ((each_keys (λ y. []) (out-Rule c.args.value.now).pages.items.items) ++ ([] ++ ((each_keys rule_keys (out-Rule c.args.value.now).parts.items.items) ++ []))) (array_meaning 4 (λ y. (number (pos y))) (out-Rule c.args.value.now).version) (value (box (list (each_meaning (λ y. (number (pos y))) (out-Rule c.args.value.now).pages.items.items))) (value (number (pos (out-Rule c.args.value.now).lines)) (value (box (list (each_meaning rule_meaning (out-Rule c.args.value.now).parts.items.items))) no_value))) _ _ _ _ _ c.in-Ok-serialize_part.ensures.serialized c.serialize_part-2.ensures.goes_on (goes_both _ _ _ (goes_both _ _ _ c.serialize_part-3.ensures.goes_on c.serialize_part-4.ensures.goes_on) c.serialize_box_slice_rule.ensures.goes_on) (later_refused no_definition (both no_definition (both rule_definitions no_definition)) (boxed (run (leaf (number_kind unsigned w16)))) (part (leaf (number_kind unsigned w32)) (part (boxed (run rule_shape)) no_part)) (each_keys (λ y. []) (out-Rule c.args.value.now).pages.items.items) ([] ++ ((each_keys rule_keys (out-Rule c.args.value.now).parts.items.items) ++ [])) (box (list (each_meaning (λ y. (number (pos y))) (out-Rule c.args.value.now).pages.items.items))) (value (number (pos (out-Rule c.args.value.now).lines)) (value (box (list (each_meaning rule_meaning (out-Rule c.args.value.now).parts.items.items))) no_value)) _ _ _ _ _ c.in-Ok-serialize_part-2.ensures.serialized c.serialize_part-3.ensures.goes_on (goes_both _ _ _ c.serialize_part-4.ensures.goes_on c.serialize_box_slice_rule.ensures.goes_on) (later_refused no_definition (both rule_definitions no_definition) (leaf (number_kind unsigned w32)) (part (boxed (run rule_shape)) no_part) [] ((each_keys rule_keys (out-Rule c.args.value.now).parts.items.items) ++ []) (number (pos (out-Rule c.args.value.now).lines)) (value (box (list (each_meaning rule_meaning (out-Rule c.args.value.now).parts.items.items))) no_value) _ _ _ _ _ c.in-Ok-serialize_part-3.ensures.serialized c.serialize_part-4.ensures.goes_on c.serialize_box_slice_rule.ensures.goes_on (first_refused rule_definitions no_definition (boxed (run rule_shape)) no_part (each_keys rule_keys (out-Rule c.args.value.now).parts.items.items) [] (box (list (each_meaning rule_meaning (out-Rule c.args.value.now).parts.items.items))) no_value _ _ _ no_part_planned c.in-Err-serialize_box_slice_rule.ensures.refused)))))))

pub serialize_whole_rule-returns-in-Err-serialize_box_slice_rule-clause-goes_on : goal.serialize_whole_rule-returns-in-Err-serialize_box_slice_rule-clause-goes_on
serialize_whole_rule-returns-in-Err-serialize_box_slice_rule-clause-goes_on g t c = (goes_both _ _ _ (goes_both _ _ _ (goes_both _ _ _ (goes_both _ _ _ c.serialize_part.ensures.goes_on c.serialize_part-2.ensures.goes_on) c.serialize_part-3.ensures.goes_on) c.serialize_part-4.ensures.goes_on) c.serialize_box_slice_rule.ensures.goes_on)

pub serialize_whole_rule-returns-clause-serialized : goal.serialize_whole_rule-returns-clause-serialized
serialize_whole_rule-returns-clause-serialized g t c = (written_as (rule_has_keys c.args.value.now) (rule_means c.args.value.now) refl (serialized_record rule_definitions rule_shape rule_part_definitions rule_parts rule_has_parts _ _ _ _ _ (serialized_part no_definition (both no_definition (both no_definition (both no_definition (both rule_definitions no_definition)))) (boxed text) (part (array 4 (leaf (number_kind unsigned w8))) (part (boxed (run (leaf (number_kind unsigned w16)))) (part (leaf (number_kind unsigned w32)) (part (boxed (run rule_shape)) no_part)))) [] ((array_keys 4 (λ y. []) (out-Rule c.args.value.now).version) ++ ((each_keys (λ y. []) (out-Rule c.args.value.now).pages.items.items) ++ ([] ++ ((each_keys rule_keys (out-Rule c.args.value.now).parts.items.items) ++ [])))) (box (text_value (string_bytes (out-Rule c.args.value.now).words.text))) (value (array_meaning 4 (λ y. (number (pos y))) (out-Rule c.args.value.now).version) (value (box (list (each_meaning (λ y. (number (pos y))) (out-Rule c.args.value.now).pages.items.items))) (value (number (pos (out-Rule c.args.value.now).lines)) (value (box (list (each_meaning rule_meaning (out-Rule c.args.value.now).parts.items.items))) no_value)))) _ _ _ _ _ c.in-Ok.ensures.serialized (serialized_part no_definition (both no_definition (both no_definition (both rule_definitions no_definition))) (array 4 (leaf (number_kind unsigned w8))) (part (boxed (run (leaf (number_kind unsigned w16)))) (part (leaf (number_kind unsigned w32)) (part (boxed (run rule_shape)) no_part))) (array_keys 4 (λ y. []) (out-Rule c.args.value.now).version) ((each_keys (λ y. []) (out-Rule c.args.value.now).pages.items.items) ++ ([] ++ ((each_keys rule_keys (out-Rule c.args.value.now).parts.items.items) ++ []))) (array_meaning 4 (λ y. (number (pos y))) (out-Rule c.args.value.now).version) (value (box (list (each_meaning (λ y. (number (pos y))) (out-Rule c.args.value.now).pages.items.items))) (value (number (pos (out-Rule c.args.value.now).lines)) (value (box (list (each_meaning rule_meaning (out-Rule c.args.value.now).parts.items.items))) no_value))) _ _ _ _ _ c.in-Ok-serialize_part.ensures.serialized (serialized_part no_definition (both no_definition (both rule_definitions no_definition)) (boxed (run (leaf (number_kind unsigned w16)))) (part (leaf (number_kind unsigned w32)) (part (boxed (run rule_shape)) no_part)) (each_keys (λ y. []) (out-Rule c.args.value.now).pages.items.items) ([] ++ ((each_keys rule_keys (out-Rule c.args.value.now).parts.items.items) ++ [])) (box (list (each_meaning (λ y. (number (pos y))) (out-Rule c.args.value.now).pages.items.items))) (value (number (pos (out-Rule c.args.value.now).lines)) (value (box (list (each_meaning rule_meaning (out-Rule c.args.value.now).parts.items.items))) no_value)) _ _ _ _ _ c.in-Ok-serialize_part-2.ensures.serialized (serialized_part no_definition (both rule_definitions no_definition) (leaf (number_kind unsigned w32)) (part (boxed (run rule_shape)) no_part) [] ((each_keys rule_keys (out-Rule c.args.value.now).parts.items.items) ++ []) (number (pos (out-Rule c.args.value.now).lines)) (value (box (list (each_meaning rule_meaning (out-Rule c.args.value.now).parts.items.items))) no_value) _ _ _ _ _ c.in-Ok-serialize_part-3.ensures.serialized (serialized_part rule_definitions no_definition (boxed (run rule_shape)) no_part (each_keys rule_keys (out-Rule c.args.value.now).parts.items.items) [] (box (list (each_meaning rule_meaning (out-Rule c.args.value.now).parts.items.items))) no_value _ _ _ _ _ c.in-Ok-serialize_box_slice_rule.ensures.serialized (serialized_no_part no_definition _))))))))

pub serialize_whole_rule-returns-clause-goes_on : goal.serialize_whole_rule-returns-clause-goes_on
serialize_whole_rule-returns-clause-goes_on g t c = (goes_both _ _ _ (goes_both _ _ _ (goes_both _ _ _ (goes_both _ _ _ c.serialize_part.ensures.goes_on c.serialize_part-2.ensures.goes_on) c.serialize_part-3.ensures.goes_on) c.serialize_part-4.ensures.goes_on) c.serialize_box_slice_rule.ensures.goes_on)
