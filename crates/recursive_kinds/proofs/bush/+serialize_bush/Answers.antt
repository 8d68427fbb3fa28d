-- Written by tools/derive: change the declaration, and run it again.
use Rattle.archive_core.proofs.Causes.{err_by, goes_both, goes_nowhere}
use Rattle.archive_core.proofs.Owners.{box_refused, vec_refused}
use Rattle.archive_core.proofs.Planned.{one_owned}
use Rattle.archive_core.proofs.PlannedParts.{serialized_no_part, serialized_part, serialized_record, record_refused, first_refused, later_refused}
use Rattle.archive_core.proofs.RunRegions.{run_owned, long_run_refused}
use Rattle.archive_core.proofs.Runs.{continues_step, continues_broken, continues_end, belongs_end}
use Rattle.archive_core.proofs.WrittenVariants.{serialized_case, serialized_empty_case, case_refused}
use Rattle.archive_core.specs.Causes.{no_memory}
use Rattle.archive_core.specs.Choices.{option_shape}
use Rattle.archive_core.specs.Definitions.{both, no_definition}
use Rattle.archive_core.specs.Error.TheVariants.{OutOfMemory}
use Rattle.archive_core.specs.Held.{written_as, refused_as}
use Rattle.archive_core.specs.Options.{option_keys, option_meaning, option_planned}
use Rattle.archive_core.specs.PartsPlanned.{part_planned, no_part_planned}
use Rattle.archive_core.specs.PlannedOwners.{boxed_one_planned, vec_planned, slice_planned, each_planned}
use Rattle.archive_core.specs.Runs.{each_keys, each_meaning}
use Rattle.archive_core.specs.Shape.{boxed, vec, one, leaf, unsigned, part, no_part, variant, number as number_kind}
use Rattle.archive_core.specs.Value.{list, box, number, value, no_value}
use Rattle.recursive_kinds.proofs.bush.+serialize_bush.Goals.{serialize_each_option_box_bush-in-None+in_ok-map_err-in-None, serialize_each_option_box_bush-in-Some+in-Ok+in-Ok-serialize_inner+in_ok-map_err-in-Some}
use Rattle.recursive_kinds.specs.BushMeaning.{bush_meaning, bush_keys, bush_planned, bush_means, bush_has_keys}
use Rattle.recursive_kinds.specs.BushShape.{bush_shape, bush_definitions, bush_parts, bush_part_definitions, bush_has_parts}
use Rattle.recursive_kinds.specs.declared.bush.Bush.{out-Bush}
use Rattle.std.proofs.Common.{◌≡◌, ◌<◌, ◌++◌, [], length, refl, arith, pos}
use Rattle.std.proofs.Math.ListN.{drop_of_length-le}
use Rattle.std.proofs.lemmas.Grind.{common_steps}
use Rattle.std.specs.Int.{w32}
use Rattle.std.specs.Prelude.{[], ◌++◌, ◌≡◌, refl, pos, length, None, Some}
use Rattle.recursive_kinds.proofs.bush.+serialize_bush.Goals as goal

pub serialize_each_option_box_bush-returns-in_err-resolvers-clause-refused : goal.serialize_each_option_box_bush-returns-in_err-resolvers-clause-refused
serialize_each_option_box_bush-returns-in_err-resolvers-clause-refused g t c = err_by c.from_residual.result OutOfMemory _ c.from_residual.ensures.1 no_memory

pub serialize_each_option_box_bush-returns-in-Err-clause-goes_on : goal.serialize_each_option_box_bush-returns-in-Err-clause-goes_on
serialize_each_option_box_bush-returns-in-Err-clause-goes_on g t c = goes_both _ _ _ c.loop-value.invariant.continues.goes c.serialize_bush.ensures.goes_on

pub serialize_each_option_box_bush-returns-in-Err-clause-refused : goal.serialize_each_option_box_bush-returns-in-Err-clause-refused
serialize_each_option_box_bush-returns-in-Err-clause-refused g t c = rw c.handed_on.ensures (continues_broken _ _ _ _ _ _ _ _ _ _ c.loop-value.value-index _ _ _ c.loop-value-test.true c.value-item.is (λ y. (option_planned bush_definitions (boxed (one bush_shape)) (λ y. (bush_keys y.value)) (λ y. (box (bush_meaning y.value))) (λ y. (boxed_one_planned bush_definitions (one bush_shape) bush_shape refl _ _ (bush_planned y.value))) y)) c.loop-value.invariant.continues c.serialize_bush.ensures.goes_on (let same : c.deref-inner.result.now ≡ c.in-Some.whole.value = grind (arith, common_steps) in rw (c.in-Some.is, ← same) (case_refused bush_definitions bush_definitions (λ s k. k) _ _ 1 (boxed (one bush_shape)) refl _ _ _ _ _ (box_refused bush_definitions (one bush_shape) 0 _ _ _ _ _ (one_owned bush_definitions bush_shape _ _ _ _ _ c.in-Err.ensures.refused)))))

pub serialize_each_option_box_bush-returns-in-Err-serialize_inner-clause-goes_on : goal.serialize_each_option_box_bush-returns-in-Err-serialize_inner-clause-goes_on
serialize_each_option_box_bush-returns-in-Err-serialize_inner-clause-goes_on g t c = goes_both _ _ _ c.loop-value.invariant.continues.goes (goes_both _ _ _ c.serialize_bush.ensures.goes_on c.serialize_inner.ensures.goes_on)

pub serialize_each_option_box_bush-returns-in-Err-serialize_inner-clause-refused : goal.serialize_each_option_box_bush-returns-in-Err-serialize_inner-clause-refused
serialize_each_option_box_bush-returns-in-Err-serialize_inner-clause-refused g t c = continues_broken _ _ _ _ _ _ _ _ _ _ c.loop-value.value-index _ _ _ c.loop-value-test.true c.value-item.is (λ y. (option_planned bush_definitions (boxed (one bush_shape)) (λ y. (bush_keys y.value)) (λ y. (box (bush_meaning y.value))) (λ y. (boxed_one_planned bush_definitions (one bush_shape) bush_shape refl _ _ (bush_planned y.value))) y)) c.loop-value.invariant.continues (goes_both _ _ _ c.serialize_bush.ensures.goes_on c.serialize_inner.ensures.goes_on) (let same : c.deref-inner.result.now ≡ c.in-Some.whole.value = grind (arith, common_steps) in rw (c.in-Some.is, ← same) (case_refused bush_definitions bush_definitions (λ s k. k) _ _ 1 (boxed (one bush_shape)) refl _ _ _ _ _ (c.in-Err-serialize_inner.ensures.refused.since _ c.serialize_bush.ensures.goes_on c.in-Ok.ensures.serialized)))

pub serialize_each_option_box_bush-returns-in_err-resolvers-clause-goes_on : goal.serialize_each_option_box_bush-returns-in_err-resolvers-clause-goes_on
serialize_each_option_box_bush-returns-in_err-resolvers-clause-goes_on g t c = goes_nowhere _

pub serialize_each_option_box_bush-returns-in_err-map_err-in-None-clause-refused : goal.serialize_each_option_box_bush-returns-in_err-map_err-in-None-clause-refused
serialize_each_option_box_bush-returns-in_err-map_err-in-None-clause-refused g t c = err_by c.from_residual-in_err-map_err-in-None.result OutOfMemory _ c.from_residual-in_err-map_err-in-None.ensures.1 no_memory

pub serialize_each_option_box_bush-returns-in_err-map_err-in-Some-clause-goes_on : goal.serialize_each_option_box_bush-returns-in_err-map_err-in-Some-clause-goes_on
serialize_each_option_box_bush-returns-in_err-map_err-in-Some-clause-goes_on g t c = goes_both _ _ _ c.loop-value.invariant.continues.goes (goes_both _ _ _ c.serialize_bush.ensures.goes_on c.serialize_inner.ensures.goes_on)

pub serialize_each_option_box_bush-returns-in_err-map_err-in-Some-clause-refused : goal.serialize_each_option_box_bush-returns-in_err-map_err-in-Some-clause-refused
serialize_each_option_box_bush-returns-in_err-map_err-in-Some-clause-refused g t c = err_by c.from_residual-in_err-map_err-in-Some.result OutOfMemory _ c.from_residual-in_err-map_err-in-Some.ensures.1 no_memory

pub serialize_each_option_box_bush-loop-value-preserved : goal.serialize_each_option_box_bush-loop-value-preserved
serialize_each_option_box_bush-loop-value-preserved g t c = record { continues = elim c.match-value.branch [ serialize_each_option_box_bush-in-None+in_ok-map_err-in-None w ↦ rw (w.serializer-is, w.resolvers-is) (continues_step _ _ _ _ _ _ _ _ _ _ c.loop-value.value-index _ _ _ None c.loop-value-test.true c.value-item.is (grind (arith, common_steps, w.push.ensures.items, w.map_err.ensures.variant, w.branch-map_err.ensures, w.in_ok-map_err-in-None.is)) c.loop-value.invariant.continues (rw w.in-None.is (serialized_empty_case bush_definitions _ _ 0 refl _)) (rw w.in-None.is tt) (goes_nowhere _)) | serialize_each_option_box_bush-in-Some+in-Ok+in-Ok-serialize_inner+in_ok-map_err-in-Some w ↦ rw (w.serializer-is, w.resolvers-is) (continues_step _ _ _ _ _ _ _ _ _ _ c.loop-value.value-index _ _ _ (Some w.in-Ok-serialize_inner.resolver) c.loop-value-test.true c.value-item.is (grind (arith, common_steps, w.push-in-Some.ensures.items, w.map_err-in-Some.ensures.variant, w.branch-map_err-in-Some.ensures, w.in_ok-map_err-in-Some.is)) c.loop-value.invariant.continues (let same : w.deref-inner.result.now ≡ w.in-Some.whole.value = grind (arith, common_steps) in rw (w.in-Some.is, ← same) (serialized_case bush_definitions bush_definitions (λ s k. k) _ _ 1 (boxed (one bush_shape)) refl _ _ _ _ _ (w.in-Ok-serialize_inner.ensures.boxed.since _ w.serialize_bush.ensures.goes_on w.in-Ok.ensures.serialized))) (rw w.in-Some.is tt) (goes_both _ _ _ w.serialize_bush.ensures.goes_on w.serialize_inner.ensures.goes_on)) ] }

pub serialize_each_option_box_bush-returns-clause-serialized : goal.serialize_each_option_box_bush-returns-clause-serialized
serialize_each_option_box_bush-returns-clause-serialized g t c = continues_end _ _ _ _ _ _ _ _ _ _ _ (drop_of_length-le _ c.loop-value-test.false) c.loop-value.invariant.continues

pub serialize_each_option_box_bush-returns-clause-same_values : goal.serialize_each_option_box_bush-returns-clause-same_values
serialize_each_option_box_bush-returns-clause-same_values g t c = belongs_end _ _ _ _ _ _ _ _ _ _ _ (drop_of_length-le _ c.loop-value-test.false) c.loop-value.invariant.continues

pub serialize_vec_option_box_bush-returns-then-len-clause-refused : goal.serialize_vec_option_box_bush-returns-then-len-clause-refused
serialize_vec_option_box_bush-returns-then-len-clause-refused g t c = (let long : 4294967295 < length c.args.value.now.items = (let whole : length c.args.value.now.items ≡ c.len.result = grind (arith, common_steps, c.len.ensures) in omega (arith, c.if-len.true, whole)) in vec_refused bush_definitions (option_shape (boxed (one bush_shape))) (length c.args.value.now.items) (each_keys (λ y. (option_keys (λ y. (bush_keys y.value)) y)) c.args.value.now.items) (list (each_meaning (λ y. (option_meaning (λ y. (box (bush_meaning y.value))) y)) c.args.value.now.items)) _ _ _ (long_run_refused bush_definitions (option_shape (boxed (one bush_shape))) (length c.args.value.now.items) (each_keys (λ y. (option_keys (λ y. (bush_keys y.value)) y)) c.args.value.now.items) (each_meaning (λ y. (option_meaning (λ y. (box (bush_meaning y.value))) y)) c.args.value.now.items) _ _ (each_planned bush_definitions (option_shape (boxed (one bush_shape))) (λ y. (option_keys (λ y. (bush_keys y.value)) y)) (λ y. (option_meaning (λ y. (box (bush_meaning y.value))) y)) (λ y. (option_planned bush_definitions (boxed (one bush_shape)) (λ y. (bush_keys y.value)) (λ y. (box (bush_meaning y.value))) (λ y. (boxed_one_planned bush_definitions (one bush_shape) bush_shape refl _ _ (bush_planned y.value))) y)) c.args.value.now.items) long))

pub serialize_vec_option_box_bush-returns-in-Err-clause-refused : goal.serialize_vec_option_box_bush-returns-in-Err-clause-refused
serialize_vec_option_box_bush-returns-in-Err-clause-refused g t c = vec_refused bush_definitions (option_shape (boxed (one bush_shape))) (length c.args.value.now.items) (each_keys (λ y. (option_keys (λ y. (bush_keys y.value)) y)) c.args.value.now.items) (list (each_meaning (λ y. (option_meaning (λ y. (box (bush_meaning y.value))) y)) c.args.value.now.items)) _ _ _ (run_owned bush_definitions (option_shape (boxed (one bush_shape))) (length c.args.value.now.items) (each_keys (λ y. (option_keys (λ y. (bush_keys y.value)) y)) c.args.value.now.items) (each_meaning (λ y. (option_meaning (λ y. (box (bush_meaning y.value))) y)) c.args.value.now.items) _ _ _ (rw c.as_slice-items.ensures.value at c.in-Err.ensures.refused))

pub serialize_vec_option_box_bush-returns-in-Ok-serialize_run-clause-serialized : goal.serialize_vec_option_box_bush-returns-in-Ok-serialize_run-clause-serialized
serialize_vec_option_box_bush-returns-in-Ok-serialize_run-clause-serialized g t c = (rw c.as_slice-items.ensures.value at c.in-Ok-serialize_run.ensures.listed).since _ c.serialize_each_option_box_bush.ensures.goes_on (rw c.as_slice-items.ensures.value at c.in-Ok.ensures.serialized)

pub serialize_vec_option_box_bush-returns-in-Ok-serialize_run-clause-goes_on : goal.serialize_vec_option_box_bush-returns-in-Ok-serialize_run-clause-goes_on
serialize_vec_option_box_bush-returns-in-Ok-serialize_run-clause-goes_on g t c = (goes_both _ _ _ c.serialize_each_option_box_bush.ensures.goes_on c.serialize_run.ensures.goes_on)

pub serialize_vec_option_box_bush-returns-in-Err-serialize_run-clause-goes_on : goal.serialize_vec_option_box_bush-returns-in-Err-serialize_run-clause-goes_on
serialize_vec_option_box_bush-returns-in-Err-serialize_run-clause-goes_on g t c = (goes_both _ _ _ c.serialize_each_option_box_bush.ensures.goes_on c.serialize_run.ensures.goes_on)

pub serialize_vec_option_box_bush-returns-in-Err-serialize_run-clause-refused : goal.serialize_vec_option_box_bush-returns-in-Err-serialize_run-clause-refused
serialize_vec_option_box_bush-returns-in-Err-serialize_run-clause-refused g t c = (rw c.as_slice-items.ensures.value at c.in-Err-serialize_run.ensures.refused).since _ c.serialize_each_option_box_bush.ensures.goes_on (rw c.as_slice-items.ensures.value at c.in-Ok.ensures.serialized)

pub serialize_each_box_bush-returns-in_err-resolvers-clause-refused : goal.serialize_each_box_bush-returns-in_err-resolvers-clause-refused
serialize_each_box_bush-returns-in_err-resolvers-clause-refused g t c = err_by c.from_residual.result OutOfMemory _ c.from_residual.ensures.1 no_memory

pub serialize_each_box_bush-returns-in-Err-clause-goes_on : goal.serialize_each_box_bush-returns-in-Err-clause-goes_on
serialize_each_box_bush-returns-in-Err-clause-goes_on g t c = goes_both _ _ _ c.loop-value.invariant.continues.goes c.serialize_bush.ensures.goes_on

pub serialize_each_box_bush-returns-in-Err-clause-refused : goal.serialize_each_box_bush-returns-in-Err-clause-refused
serialize_each_box_bush-returns-in-Err-clause-refused g t c = rw c.handed_on.ensures (continues_broken _ _ _ _ _ _ _ _ _ _ c.loop-value.value-index _ _ _ c.loop-value-test.true c.value-item.is (λ y. (boxed_one_planned bush_definitions (one bush_shape) bush_shape refl _ _ (bush_planned y.value))) c.loop-value.invariant.continues c.serialize_bush.ensures.goes_on (let same : c.deref-inner.result.now ≡ c.value-item.result.value = grind (arith, common_steps) in rw (← same) (box_refused bush_definitions (one bush_shape) 0 _ _ _ _ _ (one_owned bush_definitions bush_shape _ _ _ _ _ c.in-Err.ensures.refused))))

pub serialize_each_box_bush-returns-in-Err-serialize_inner-clause-goes_on : goal.serialize_each_box_bush-returns-in-Err-serialize_inner-clause-goes_on
serialize_each_box_bush-returns-in-Err-serialize_inner-clause-goes_on g t c = goes_both _ _ _ c.loop-value.invariant.continues.goes (goes_both _ _ _ c.serialize_bush.ensures.goes_on c.serialize_inner.ensures.goes_on)

pub serialize_each_box_bush-returns-in-Err-serialize_inner-clause-refused : goal.serialize_each_box_bush-returns-in-Err-serialize_inner-clause-refused
serialize_each_box_bush-returns-in-Err-serialize_inner-clause-refused g t c = continues_broken _ _ _ _ _ _ _ _ _ _ c.loop-value.value-index _ _ _ c.loop-value-test.true c.value-item.is (λ y. (boxed_one_planned bush_definitions (one bush_shape) bush_shape refl _ _ (bush_planned y.value))) c.loop-value.invariant.continues (goes_both _ _ _ c.serialize_bush.ensures.goes_on c.serialize_inner.ensures.goes_on) (let same : c.deref-inner.result.now ≡ c.value-item.result.value = grind (arith, common_steps) in rw (← same) (c.in-Err-serialize_inner.ensures.refused.since _ c.serialize_bush.ensures.goes_on c.in-Ok.ensures.serialized))

pub serialize_each_box_bush-loop-value-preserved : goal.serialize_each_box_bush-loop-value-preserved
serialize_each_box_bush-loop-value-preserved g t c = record { continues = continues_step _ _ _ _ _ _ _ _ _ _ c.loop-value.value-index _ _ _ c.in-Ok-serialize_inner.resolver c.loop-value-test.true c.value-item.is (grind (arith, common_steps)) c.loop-value.invariant.continues (let same : c.deref-inner.result.now ≡ c.value-item.result.value = grind (arith, common_steps) in rw (← same) (c.in-Ok-serialize_inner.ensures.boxed.since _ c.serialize_bush.ensures.goes_on c.in-Ok.ensures.serialized)) tt (goes_both _ _ _ c.serialize_bush.ensures.goes_on c.serialize_inner.ensures.goes_on); reserved = (grind (arith, common_steps, c.loop-value.invariant.reserved.0), grind (arith, common_steps, c.loop-value.invariant.reserved.1)) }

pub serialize_each_box_bush-returns-clause-serialized : goal.serialize_each_box_bush-returns-clause-serialized
serialize_each_box_bush-returns-clause-serialized g t c = continues_end _ _ _ _ _ _ _ _ _ _ _ (drop_of_length-le _ c.loop-value-test.false) c.loop-value.invariant.continues

pub serialize_each_box_bush-returns-clause-same_values : goal.serialize_each_box_bush-returns-clause-same_values
serialize_each_box_bush-returns-clause-same_values g t c = belongs_end _ _ _ _ _ _ _ _ _ _ _ (drop_of_length-le _ c.loop-value-test.false) c.loop-value.invariant.continues

pub serialize_vec_box_bush-returns-then-len-clause-refused : goal.serialize_vec_box_bush-returns-then-len-clause-refused
serialize_vec_box_bush-returns-then-len-clause-refused g t c = (let long : 4294967295 < length c.args.value.now.items = (let whole : length c.args.value.now.items ≡ c.len.result = grind (arith, common_steps, c.len.ensures) in omega (arith, c.if-len.true, whole)) in vec_refused bush_definitions (boxed (one bush_shape)) (length c.args.value.now.items) (each_keys (λ y. (bush_keys y.value)) c.args.value.now.items) (list (each_meaning (λ y. (box (bush_meaning y.value))) c.args.value.now.items)) _ _ _ (long_run_refused bush_definitions (boxed (one bush_shape)) (length c.args.value.now.items) (each_keys (λ y. (bush_keys y.value)) c.args.value.now.items) (each_meaning (λ y. (box (bush_meaning y.value))) c.args.value.now.items) _ _ (each_planned bush_definitions (boxed (one bush_shape)) (λ y. (bush_keys y.value)) (λ y. (box (bush_meaning y.value))) (λ y. (boxed_one_planned bush_definitions (one bush_shape) bush_shape refl _ _ (bush_planned y.value))) c.args.value.now.items) long))

pub serialize_vec_box_bush-returns-in-Err-clause-refused : goal.serialize_vec_box_bush-returns-in-Err-clause-refused
serialize_vec_box_bush-returns-in-Err-clause-refused g t c = vec_refused bush_definitions (boxed (one bush_shape)) (length c.args.value.now.items) (each_keys (λ y. (bush_keys y.value)) c.args.value.now.items) (list (each_meaning (λ y. (box (bush_meaning y.value))) c.args.value.now.items)) _ _ _ (run_owned bush_definitions (boxed (one bush_shape)) (length c.args.value.now.items) (each_keys (λ y. (bush_keys y.value)) c.args.value.now.items) (each_meaning (λ y. (box (bush_meaning y.value))) c.args.value.now.items) _ _ _ (rw c.as_slice-items.ensures.value at c.in-Err.ensures.refused))

pub serialize_vec_box_bush-returns-in-Ok-serialize_run-clause-serialized : goal.serialize_vec_box_bush-returns-in-Ok-serialize_run-clause-serialized
serialize_vec_box_bush-returns-in-Ok-serialize_run-clause-serialized g t c = (rw c.as_slice-items.ensures.value at c.in-Ok-serialize_run.ensures.listed).since _ c.serialize_each_box_bush.ensures.goes_on (rw c.as_slice-items.ensures.value at c.in-Ok.ensures.serialized)

pub serialize_vec_box_bush-returns-in-Ok-serialize_run-clause-goes_on : goal.serialize_vec_box_bush-returns-in-Ok-serialize_run-clause-goes_on
serialize_vec_box_bush-returns-in-Ok-serialize_run-clause-goes_on g t c = (goes_both _ _ _ c.serialize_each_box_bush.ensures.goes_on c.serialize_run.ensures.goes_on)

pub serialize_vec_box_bush-returns-in-Err-serialize_run-clause-goes_on : goal.serialize_vec_box_bush-returns-in-Err-serialize_run-clause-goes_on
serialize_vec_box_bush-returns-in-Err-serialize_run-clause-goes_on g t c = (goes_both _ _ _ c.serialize_each_box_bush.ensures.goes_on c.serialize_run.ensures.goes_on)

pub serialize_vec_box_bush-returns-in-Err-serialize_run-clause-refused : goal.serialize_vec_box_bush-returns-in-Err-serialize_run-clause-refused
serialize_vec_box_bush-returns-in-Err-serialize_run-clause-refused g t c = (rw c.as_slice-items.ensures.value at c.in-Err-serialize_run.ensures.refused).since _ c.serialize_each_box_bush.ensures.goes_on (rw c.as_slice-items.ensures.value at c.in-Ok.ensures.serialized)

pub serialize_whole_bush-returns-in-Err-clause-refused : goal.serialize_whole_bush-returns-in-Err-clause-refused
serialize_whole_bush-returns-in-Err-clause-refused g t c = (refused_as (bush_has_keys c.args.value.now) (bush_means c.args.value.now) (record_refused bush_definitions bush_shape bush_part_definitions bush_parts bush_has_parts _ _ _ _ _ (first_refused no_definition (both bush_definitions (both bush_definitions no_definition)) (leaf (number_kind unsigned w32)) (part (vec (option_shape (boxed (one bush_shape)))) (part (vec (boxed (one bush_shape))) no_part)) [] ((each_keys (λ y. (option_keys (λ y. (bush_keys y.value)) y)) (out-Bush c.args.value.now).sides.items) ++ ((each_keys (λ y. (bush_keys y.value)) (out-Bush c.args.value.now).next.items) ++ [])) (number (pos (out-Bush c.args.value.now).id)) (value (list (each_meaning (λ y. (option_meaning (λ y. (box (bush_meaning y.value))) y)) (out-Bush c.args.value.now).sides.items)) (value (list (each_meaning (λ y. (box (bush_meaning y.value))) (out-Bush c.args.value.now).next.items)) no_value)) _ _ _ (part_planned bush_definitions (vec (option_shape (boxed (one bush_shape)))) (each_keys (λ y. (option_keys (λ y. (bush_keys y.value)) y)) (out-Bush c.args.value.now).sides.items) (list (each_meaning (λ y. (option_meaning (λ y. (box (bush_meaning y.value))) y)) (out-Bush c.args.value.now).sides.items)) (vec_planned bush_definitions (option_shape (boxed (one bush_shape))) _ _ _ (slice_planned bush_definitions (option_shape (boxed (one bush_shape))) (λ y. (option_keys (λ y. (bush_keys y.value)) y)) (λ y. (option_meaning (λ y. (box (bush_meaning y.value))) y)) (λ y. (option_planned bush_definitions (boxed (one bush_shape)) (λ y. (bush_keys y.value)) (λ y. (box (bush_meaning y.value))) (λ y. (boxed_one_planned bush_definitions (one bush_shape) bush_shape refl _ _ (bush_planned y.value))) y)) (out-Bush c.args.value.now).sides.items)) (part_planned bush_definitions (vec (boxed (one bush_shape))) (each_keys (λ y. (bush_keys y.value)) (out-Bush c.args.value.now).next.items) (list (each_meaning (λ y. (box (bush_meaning y.value))) (out-Bush c.args.value.now).next.items)) (vec_planned bush_definitions (boxed (one bush_shape)) _ _ _ (slice_planned bush_definitions (boxed (one bush_shape)) (λ y. (bush_keys y.value)) (λ y. (box (bush_meaning y.value))) (λ y. (boxed_one_planned bush_definitions (one bush_shape) bush_shape refl _ _ (bush_planned y.value))) (out-Bush c.args.value.now).next.items)) no_part_planned)) c.in-Err.ensures.refused)))

pub serialize_whole_bush-returns-in-Err-serialize_vec_option_box_bush-clause-refused : goal.serialize_whole_bush-returns-in-Err-serialize_vec_option_box_bush-clause-refused
serialize_whole_bush-returns-in-Err-serialize_vec_option_box_bush-clause-refused g t c = rw c.handed_on.ensures (refused_as (bush_has_keys c.args.value.now) (bush_means c.args.value.now) (record_refused bush_definitions bush_shape bush_part_definitions bush_parts bush_has_parts _ _ _ _ _ (later_refused no_definition (both bush_definitions (both bush_definitions no_definition)) (leaf (number_kind unsigned w32)) (part (vec (option_shape (boxed (one bush_shape)))) (part (vec (boxed (one bush_shape))) no_part)) [] ((each_keys (λ y. (option_keys (λ y. (bush_keys y.value)) y)) (out-Bush c.args.value.now).sides.items) ++ ((each_keys (λ y. (bush_keys y.value)) (out-Bush c.args.value.now).next.items) ++ [])) (number (pos (out-Bush c.args.value.now).id)) (value (list (each_meaning (λ y. (option_meaning (λ y. (box (bush_meaning y.value))) y)) (out-Bush c.args.value.now).sides.items)) (value (list (each_meaning (λ y. (box (bush_meaning y.value))) (out-Bush c.args.value.now).next.items)) no_value)) _ _ _ _ _ c.in-Ok.ensures.serialized c.serialize_part.ensures.goes_on c.serialize_vec_option_box_bush.ensures.goes_on (first_refused bush_definitions (both bush_definitions no_definition) (vec (option_shape (boxed (one bush_shape)))) (part (vec (boxed (one bush_shape))) no_part) (each_keys (λ y. (option_keys (λ y. (bush_keys y.value)) y)) (out-Bush c.args.value.now).sides.items) ((each_keys (λ y. (bush_keys y.value)) (out-Bush c.args.value.now).next.items) ++ []) (list (each_meaning (λ y. (option_meaning (λ y. (box (bush_meaning y.value))) y)) (out-Bush c.args.value.now).sides.items)) (value (list (each_meaning (λ y. (box (bush_meaning y.value))) (out-Bush c.args.value.now).next.items)) no_value) _ _ _ (part_planned bush_definitions (vec (boxed (one bush_shape))) (each_keys (λ y. (bush_keys y.value)) (out-Bush c.args.value.now).next.items) (list (each_meaning (λ y. (box (bush_meaning y.value))) (out-Bush c.args.value.now).next.items)) (vec_planned bush_definitions (boxed (one bush_shape)) _ _ _ (slice_planned bush_definitions (boxed (one bush_shape)) (λ y. (bush_keys y.value)) (λ y. (box (bush_meaning y.value))) (λ y. (boxed_one_planned bush_definitions (one bush_shape) bush_shape refl _ _ (bush_planned y.value))) (out-Bush c.args.value.now).next.items)) no_part_planned) c.in-Err-serialize_vec_option_box_bush.ensures.refused))))

pub serialize_whole_bush-returns-in-Err-serialize_vec_option_box_bush-clause-goes_on : goal.serialize_whole_bush-returns-in-Err-serialize_vec_option_box_bush-clause-goes_on
serialize_whole_bush-returns-in-Err-serialize_vec_option_box_bush-clause-goes_on g t c = (goes_both _ _ _ c.serialize_part.ensures.goes_on c.serialize_vec_option_box_bush.ensures.goes_on)

pub serialize_whole_bush-returns-in-Err-serialize_vec_box_bush-clause-refused : goal.serialize_whole_bush-returns-in-Err-serialize_vec_box_bush-clause-refused
serialize_whole_bush-returns-in-Err-serialize_vec_box_bush-clause-refused g t c = (refused_as (bush_has_keys c.args.value.now) (bush_means c.args.value.now) (record_refused bush_definitions bush_shape bush_part_definitions bush_parts bush_has_parts _ _ _ _ _ (later_refused no_definition (both bush_definitions (both bush_definitions no_definition)) (leaf (number_kind unsigned w32)) (part (vec (option_shape (boxed (one bush_shape)))) (part (vec (boxed (one bush_shape))) no_part)) [] ((each_keys (λ y. (option_keys (λ y. (bush_keys y.value)) y)) (out-Bush c.args.value.now).sides.items) ++ ((each_keys (λ y. (bush_keys y.value)) (out-Bush c.args.value.now).next.items) ++ [])) (number (pos (out-Bush c.args.value.now).id)) (value (list (each_meaning (λ y. (option_meaning (λ y. (box (bush_meaning y.value))) y)) (out-Bush c.args.value.now).sides.items)) (value (list (each_meaning (λ y. (box (bush_meaning y.value))) (out-Bush c.args.value.now).next.items)) no_value)) _ _ _ _ _ c.in-Ok.ensures.serialized c.serialize_part.ensures.goes_on (goes_both _ _ _ c.serialize_vec_option_box_bush.ensures.goes_on c.serialize_vec_box_bush.ensures.goes_on) (later_refused bush_definitions (both bush_definitions no_definition) (vec (option_shape (boxed (one bush_shape)))) (part (vec (boxed (one bush_shape))) no_part) (each_keys (λ y. (option_keys (λ y. (bush_keys y.value)) y)) (out-Bush c.args.value.now).sides.items) ((each_keys (λ y. (bush_keys y.value)) (out-Bush c.args.value.now).next.items) ++ []) (list (each_meaning (λ y. (option_meaning (λ y. (box (bush_meaning y.value))) y)) (out-Bush c.args.value.now).sides.items)) (value (list (each_meaning (λ y. (box (bush_meaning y.value))) (out-Bush c.args.value.now).next.items)) no_value) _ _ _ _ _ c.in-Ok-serialize_vec_option_box_bush.ensures.serialized c.serialize_vec_option_box_bush.ensures.goes_on c.serialize_vec_box_bush.ensures.goes_on (first_refused bush_definitions no_definition (vec (boxed (one bush_shape))) no_part (each_keys (λ y. (bush_keys y.value)) (out-Bush c.args.value.now).next.items) [] (list (each_meaning (λ y. (box (bush_meaning y.value))) (out-Bush c.args.value.now).next.items)) no_value _ _ _ no_part_planned c.in-Err-serialize_vec_box_bush.ensures.refused)))))

pub serialize_whole_bush-returns-in-Err-serialize_vec_box_bush-clause-goes_on : goal.serialize_whole_bush-returns-in-Err-serialize_vec_box_bush-clause-goes_on
serialize_whole_bush-returns-in-Err-serialize_vec_box_bush-clause-goes_on g t c = (goes_both _ _ _ (goes_both _ _ _ c.serialize_part.ensures.goes_on c.serialize_vec_option_box_bush.ensures.goes_on) c.serialize_vec_box_bush.ensures.goes_on)

pub serialize_whole_bush-returns-clause-serialized : goal.serialize_whole_bush-returns-clause-serialized
serialize_whole_bush-returns-clause-serialized g t c = (written_as (bush_has_keys c.args.value.now) (bush_means c.args.value.now) refl (serialized_record bush_definitions bush_shape bush_part_definitions bush_parts bush_has_parts _ _ _ _ _ (serialized_part no_definition (both bush_definitions (both bush_definitions no_definition)) (leaf (number_kind unsigned w32)) (part (vec (option_shape (boxed (one bush_shape)))) (part (vec (boxed (one bush_shape))) no_part)) [] ((each_keys (λ y. (option_keys (λ y. (bush_keys y.value)) y)) (out-Bush c.args.value.now).sides.items) ++ ((each_keys (λ y. (bush_keys y.value)) (out-Bush c.args.value.now).next.items) ++ [])) (number (pos (out-Bush c.args.value.now).id)) (value (list (each_meaning (λ y. (option_meaning (λ y. (box (bush_meaning y.value))) y)) (out-Bush c.args.value.now).sides.items)) (value (list (each_meaning (λ y. (box (bush_meaning y.value))) (out-Bush c.args.value.now).next.items)) no_value)) _ _ _ _ _ c.in-Ok.ensures.serialized (serialized_part bush_definitions (both bush_definitions no_definition) (vec (option_shape (boxed (one bush_shape)))) (part (vec (boxed (one bush_shape))) no_part) (each_keys (λ y. (option_keys (λ y. (bush_keys y.value)) y)) (out-Bush c.args.value.now).sides.items) ((each_keys (λ y. (bush_keys y.value)) (out-Bush c.args.value.now).next.items) ++ []) (list (each_meaning (λ y. (option_meaning (λ y. (box (bush_meaning y.value))) y)) (out-Bush c.args.value.now).sides.items)) (value (list (each_meaning (λ y. (box (bush_meaning y.value))) (out-Bush c.args.value.now).next.items)) no_value) _ _ _ _ _ c.in-Ok-serialize_vec_option_box_bush.ensures.serialized (serialized_part bush_definitions no_definition (vec (boxed (one bush_shape))) no_part (each_keys (λ y. (bush_keys y.value)) (out-Bush c.args.value.now).next.items) [] (list (each_meaning (λ y. (box (bush_meaning y.value))) (out-Bush c.args.value.now).next.items)) no_value _ _ _ _ _ c.in-Ok-serialize_vec_box_bush.ensures.serialized (serialized_no_part no_definition _))))))

pub serialize_whole_bush-returns-clause-goes_on : goal.serialize_whole_bush-returns-clause-goes_on
serialize_whole_bush-returns-clause-goes_on g t c = (goes_both _ _ _ (goes_both _ _ _ c.serialize_part.ensures.goes_on c.serialize_vec_option_box_bush.ensures.goes_on) c.serialize_vec_box_bush.ensures.goes_on)
