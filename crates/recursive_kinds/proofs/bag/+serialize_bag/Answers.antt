-- Written by tools/derive: change the declaration, and run it again.
use Rattle.archive_core.proofs.Causes.{err_by, goes_both, goes_nowhere}
use Rattle.archive_core.proofs.Owners.{box_refused}
use Rattle.archive_core.proofs.Planned.{one_owned}
use Rattle.archive_core.proofs.PlannedParts.{serialized_no_part, serialized_part, serialized_record, record_refused, first_refused, later_refused}
use Rattle.archive_core.proofs.RunRegions.{run_owned}
use Rattle.archive_core.proofs.Runs.{continues_step, continues_broken, continues_end, belongs_end}
use Rattle.archive_core.proofs.WrittenVariants.{serialized_case, serialized_empty_case, case_refused}
use Rattle.archive_core.proofs.recursive.KeysBegun.{region_refused}
use Rattle.archive_core.specs.Causes.{no_memory}
use Rattle.archive_core.specs.Choices.{option_shape}
use Rattle.archive_core.specs.Definitions.{both, no_definition}
use Rattle.archive_core.specs.Error.TheVariants.{OutOfMemory}
use Rattle.archive_core.specs.Held.{written_as, refused_as}
use Rattle.archive_core.specs.Options.{option_keys, option_meaning}
use Rattle.archive_core.specs.PartsPlanned.{part_planned, no_part_planned}
use Rattle.archive_core.specs.PlannedOwners.{slice_planned, each_planned}
use Rattle.archive_core.specs.Runs.{each_keys, each_meaning}
use Rattle.archive_core.specs.Shape.{boxed, shared, one, run, part, no_part}
use Rattle.archive_core.specs.SharedSources.{rc_flavor, rc_keys, rc_planned}
use Rattle.archive_core.specs.Value.{list, box, value, no_value, shared_value}
use Rattle.recursive_kinds.specs.BagMeaning.{bag_meaning, bag_keys, bag_planned, bag_means, bag_has_keys}
use Rattle.recursive_kinds.specs.BagShape.{bag_shape, bag_definitions, bag_parts, bag_part_definitions, bag_has_parts}
use Rattle.recursive_kinds.specs.declared.bag.Bag.{out-Bag}
use Rattle.std.proofs.Common.{◌≡◌, ◌++◌, [], length, refl, arith}
use Rattle.std.proofs.Math.ListN.{drop_of_length-le}
use Rattle.std.proofs.lemmas.Grind.{common_steps}
use Rattle.std.specs.Prelude.{[], ◌++◌, ◌≡◌, refl, length}
use Rattle.recursive_kinds.proofs.bag.+serialize_bag.Goals as goal

pub serialize_option_box_bag-returns-in-None-clause-serialized : goal.serialize_option_box_bag-returns-in-None-clause-serialized
serialize_option_box_bag-returns-in-None-clause-serialized g t c = rw c.in-None.is (serialized_empty_case bag_definitions _ _ 0 refl _)

pub serialize_option_box_bag-returns-in-Err-clause-refused : goal.serialize_option_box_bag-returns-in-Err-clause-refused
serialize_option_box_bag-returns-in-Err-clause-refused g t c = rw c.handed_on.ensures (let same : c.deref-inner.result.now ≡ c.in-Some.whole.value = grind (arith, common_steps) in rw (c.in-Some.is, ← same) (case_refused bag_definitions bag_definitions (λ s k. k) _ _ 1 (boxed (one bag_shape)) refl _ _ _ _ _ (box_refused bag_definitions (one bag_shape) 0 _ _ _ _ _ (one_owned bag_definitions bag_shape _ _ _ _ _ c.in-Err.ensures.refused))))

pub serialize_option_box_bag-returns-in-Ok-serialize_inner-clause-serialized : goal.serialize_option_box_bag-returns-in-Ok-serialize_inner-clause-serialized
serialize_option_box_bag-returns-in-Ok-serialize_inner-clause-serialized g t c = (let same : c.deref-inner.result.now ≡ c.in-Some.whole.value = grind (arith, common_steps) in rw (c.in-Some.is, ← same) (serialized_case bag_definitions bag_definitions (λ s k. k) _ _ 1 (boxed (one bag_shape)) refl _ _ _ _ _ (c.in-Ok-serialize_inner.ensures.boxed.since _ c.serialize_bag.ensures.goes_on c.in-Ok.ensures.serialized)))

pub serialize_option_box_bag-returns-in-Ok-serialize_inner-clause-goes_on : goal.serialize_option_box_bag-returns-in-Ok-serialize_inner-clause-goes_on
serialize_option_box_bag-returns-in-Ok-serialize_inner-clause-goes_on g t c = (goes_both _ _ _ c.serialize_bag.ensures.goes_on c.serialize_inner.ensures.goes_on)

pub serialize_option_box_bag-returns-in-Err-serialize_inner-clause-goes_on : goal.serialize_option_box_bag-returns-in-Err-serialize_inner-clause-goes_on
serialize_option_box_bag-returns-in-Err-serialize_inner-clause-goes_on g t c = (goes_both _ _ _ c.serialize_bag.ensures.goes_on c.serialize_inner.ensures.goes_on)

pub serialize_option_box_bag-returns-in-Err-serialize_inner-clause-refused : goal.serialize_option_box_bag-returns-in-Err-serialize_inner-clause-refused
serialize_option_box_bag-returns-in-Err-serialize_inner-clause-refused g t c = (let same : c.deref-inner.result.now ≡ c.in-Some.whole.value = grind (arith, common_steps) in rw (c.in-Some.is, ← same) (case_refused bag_definitions bag_definitions (λ s k. k) _ _ 1 (boxed (one bag_shape)) refl _ _ _ _ _ (c.in-Err-serialize_inner.ensures.refused.since _ c.serialize_bag.ensures.goes_on c.in-Ok.ensures.serialized)))

pub serialize_each_bag-returns-in_err-resolvers-clause-refused : goal.serialize_each_bag-returns-in_err-resolvers-clause-refused
serialize_each_bag-returns-in_err-resolvers-clause-refused g t c = err_by c.from_residual.result OutOfMemory _ c.from_residual.ensures.1 no_memory

pub serialize_each_bag-returns-in-Err-clause-goes_on : goal.serialize_each_bag-returns-in-Err-clause-goes_on
serialize_each_bag-returns-in-Err-clause-goes_on g t c = goes_both _ _ _ c.loop-value.invariant.continues.goes c.serialize_bag.ensures.goes_on

pub serialize_each_bag-returns-in-Err-clause-refused : goal.serialize_each_bag-returns-in-Err-clause-refused
serialize_each_bag-returns-in-Err-clause-refused g t c = rw c.handed_on.ensures (continues_broken _ _ _ _ _ _ _ _ _ _ c.loop-value.value-index _ _ _ c.loop-value-test.true c.value-item.is bag_planned c.loop-value.invariant.continues c.serialize_bag.ensures.goes_on c.in-Err.ensures.refused)

pub serialize_each_bag-returns-in_err-resolvers-clause-goes_on : goal.serialize_each_bag-returns-in_err-resolvers-clause-goes_on
serialize_each_bag-returns-in_err-resolvers-clause-goes_on g t c = goes_nowhere _

pub serialize_each_bag-loop-value-preserved : goal.serialize_each_bag-loop-value-preserved
serialize_each_bag-loop-value-preserved g t c = record { continues = continues_step _ _ _ _ _ _ _ _ _ _ c.loop-value.value-index _ _ _ _ c.loop-value-test.true c.value-item.is (grind (arith, common_steps)) c.loop-value.invariant.continues c.in-Ok.ensures.serialized c.in-Ok.ensures.same_value c.serialize_bag.ensures.goes_on; reserved = (grind (arith, common_steps, c.loop-value.invariant.reserved.0), grind (arith, common_steps, c.loop-value.invariant.reserved.1)) }

pub serialize_each_bag-returns-clause-serialized : goal.serialize_each_bag-returns-clause-serialized
serialize_each_bag-returns-clause-serialized g t c = continues_end _ _ _ _ _ _ _ _ _ _ _ (drop_of_length-le _ c.loop-value-test.false) c.loop-value.invariant.continues

pub serialize_each_bag-returns-clause-same_values : goal.serialize_each_bag-returns-clause-same_values
serialize_each_bag-returns-clause-same_values g t c = belongs_end _ _ _ _ _ _ _ _ _ _ _ (drop_of_length-le _ c.loop-value-test.false) c.loop-value.invariant.continues

pub serialize_shared_slice_bag-returns-in-Err-clause-refused : goal.serialize_shared_slice_bag-returns-in-Err-clause-refused
serialize_shared_slice_bag-returns-in-Err-clause-refused g t c = (c.in-Err.ensures.refused.said bag_definitions rc_flavor bag_shape (each_keys bag_keys c.args.values.now) (each_meaning bag_meaning c.args.values.now) (each_planned bag_definitions bag_shape bag_keys bag_meaning bag_planned c.args.values.now))

pub serialize_shared_slice_bag-returns-in-Err-serialize_each_bag-clause-goes_on : goal.serialize_shared_slice_bag-returns-in-Err-serialize_each_bag-clause-goes_on
serialize_shared_slice_bag-returns-in-Err-serialize_each_bag-clause-goes_on g t c = (goes_both _ _ _ c.begin_shared_slice.ensures.goes_on c.serialize_each_bag.ensures.goes_on)

pub serialize_shared_slice_bag-returns-in-Err-serialize_each_bag-clause-refused : goal.serialize_shared_slice_bag-returns-in-Err-serialize_each_bag-clause-refused
serialize_shared_slice_bag-returns-in-Err-serialize_each_bag-clause-refused g t c = (region_refused bag_definitions (run bag_shape) (length c.args.values.now) c.args.key (each_keys bag_keys c.args.values.now) (list (each_meaning bag_meaning c.args.values.now)) rc_flavor _ _ _ _ (rw c.in-None.is at c.in-Ok.ensures.begun) c.serialize_each_bag.ensures.goes_on (run_owned bag_definitions bag_shape (length c.args.values.now) (each_keys bag_keys c.args.values.now) (each_meaning bag_meaning c.args.values.now) _ _ _ c.in-Err-serialize_each_bag.ensures.refused))

pub serialize_shared_slice_bag-returns-in-Err-finish_shared_slice-clause-goes_on : goal.serialize_shared_slice_bag-returns-in-Err-finish_shared_slice-clause-goes_on
serialize_shared_slice_bag-returns-in-Err-finish_shared_slice-clause-goes_on g t c = (c.finish_shared_slice.ensures.goes_on.since _ _ (rw c.in-None.is at c.in-Ok.ensures.begun) c.serialize_each_bag.ensures.goes_on)

pub serialize_shared_slice_bag-returns-in-Err-finish_shared_slice-clause-refused : goal.serialize_shared_slice_bag-returns-in-Err-finish_shared_slice-clause-refused
serialize_shared_slice_bag-returns-in-Err-finish_shared_slice-clause-refused g t c = (c.in-Err-finish_shared_slice.ensures.refused.since rc_flavor _ _ (rw c.in-None.is at c.in-Ok.ensures.begun) c.serialize_each_bag.ensures.goes_on c.in-Ok-serialize_each_bag.ensures.serialized)

pub serialize_shared_slice_bag-returns-in-Some-clause-serialized : goal.serialize_shared_slice_bag-returns-in-Some-clause-serialized
serialize_shared_slice_bag-returns-in-Some-clause-serialized g t c = ((rw c.in-Some.is at c.in-Ok.ensures.known).said bag_definitions rc_flavor (run bag_shape) (length c.args.values.now) (each_keys bag_keys c.args.values.now) (list (each_meaning bag_meaning c.args.values.now)))

pub serialize_shared_slice_bag-returns-in-Ok-finish_shared_slice-clause-serialized : goal.serialize_shared_slice_bag-returns-in-Ok-finish_shared_slice-clause-serialized
serialize_shared_slice_bag-returns-in-Ok-finish_shared_slice-clause-serialized g t c = (c.in-Ok-finish_shared_slice.ensures.shared.since rc_flavor _ _ (rw c.in-None.is at c.in-Ok.ensures.begun) c.serialize_each_bag.ensures.goes_on c.in-Ok-serialize_each_bag.ensures.serialized)

pub serialize_shared_slice_bag-returns-in-Ok-finish_shared_slice-clause-goes_on : goal.serialize_shared_slice_bag-returns-in-Ok-finish_shared_slice-clause-goes_on
serialize_shared_slice_bag-returns-in-Ok-finish_shared_slice-clause-goes_on g t c = (c.finish_shared_slice.ensures.goes_on.since _ _ (rw c.in-None.is at c.in-Ok.ensures.begun) c.serialize_each_bag.ensures.goes_on)

pub serialize_whole_bag-returns-in-Err-clause-refused : goal.serialize_whole_bag-returns-in-Err-clause-refused
serialize_whole_bag-returns-in-Err-clause-refused g t c = rw c.handed_on.ensures (refused_as (bag_has_keys c.args.value.now) (bag_means c.args.value.now) (record_refused bag_definitions bag_shape bag_part_definitions bag_parts bag_has_parts _ _ _ _ _ (first_refused bag_definitions (both bag_definitions no_definition) (option_shape (boxed (one bag_shape))) (part (shared rc_flavor (run bag_shape)) no_part) (option_keys (λ y. (bag_keys y.value)) (out-Bag c.args.value.now).top) ((rc_keys (out-Bag c.args.value.now).inside.key (run bag_shape) (length (out-Bag c.args.value.now).inside.value.items.value.items) (list (each_meaning bag_meaning (out-Bag c.args.value.now).inside.value.items.value.items)) (each_keys bag_keys (out-Bag c.args.value.now).inside.value.items.value.items)) ++ []) (option_meaning (λ y. (box (bag_meaning y.value))) (out-Bag c.args.value.now).top) (value (shared_value (out-Bag c.args.value.now).inside.key) no_value) _ _ _ (part_planned bag_definitions (shared rc_flavor (run bag_shape)) (rc_keys (out-Bag c.args.value.now).inside.key (run bag_shape) (length (out-Bag c.args.value.now).inside.value.items.value.items) (list (each_meaning bag_meaning (out-Bag c.args.value.now).inside.value.items.value.items)) (each_keys bag_keys (out-Bag c.args.value.now).inside.value.items.value.items)) (shared_value (out-Bag c.args.value.now).inside.key) (rc_planned bag_definitions (out-Bag c.args.value.now).inside.key (run bag_shape) _ _ _ (slice_planned bag_definitions bag_shape bag_keys bag_meaning bag_planned (out-Bag c.args.value.now).inside.value.items.value.items)) no_part_planned) c.in-Err.ensures.refused)))

pub serialize_whole_bag-returns-in-Err-serialize_shared_slice_bag-clause-refused : goal.serialize_whole_bag-returns-in-Err-serialize_shared_slice_bag-clause-refused
serialize_whole_bag-returns-in-Err-serialize_shared_slice_bag-clause-refused g t c = (refused_as (bag_has_keys c.args.value.now) (bag_means c.args.value.now) (record_refused bag_definitions bag_shape bag_part_definitions bag_parts bag_has_parts _ _ _ _ _ (later_refused bag_definitions (both bag_definitions no_definition) (option_shape (boxed (one bag_shape))) (part (shared rc_flavor (run bag_shape)) no_part) (option_keys (λ y. (bag_keys y.value)) (out-Bag c.args.value.now).top) ((rc_keys (out-Bag c.args.value.now).inside.key (run bag_shape) (length (out-Bag c.args.value.now).inside.value.items.value.items) (list (each_meaning bag_meaning (out-Bag c.args.value.now).inside.value.items.value.items)) (each_keys bag_keys (out-Bag c.args.value.now).inside.value.items.value.items)) ++ []) (option_meaning (λ y. (box (bag_meaning y.value))) (out-Bag c.args.value.now).top) (value (shared_value (out-Bag c.args.value.now).inside.key) no_value) _ _ _ _ _ c.in-Ok.ensures.serialized c.serialize_option_box_bag.ensures.goes_on c.serialize_shared_slice_bag.ensures.goes_on (first_refused bag_definitions no_definition (shared rc_flavor (run bag_shape)) no_part (rc_keys (out-Bag c.args.value.now).inside.key (run bag_shape) (length (out-Bag c.args.value.now).inside.value.items.value.items) (list (each_meaning bag_meaning (out-Bag c.args.value.now).inside.value.items.value.items)) (each_keys bag_keys (out-Bag c.args.value.now).inside.value.items.value.items)) [] (shared_value (out-Bag c.args.value.now).inside.key) no_value _ _ _ no_part_planned (rw c.as_slice-items.ensures.value at c.in-Err-serialize_shared_slice_bag.ensures.refused)))))

pub serialize_whole_bag-returns-in-Err-serialize_shared_slice_bag-clause-goes_on : goal.serialize_whole_bag-returns-in-Err-serialize_shared_slice_bag-clause-goes_on
serialize_whole_bag-returns-in-Err-serialize_shared_slice_bag-clause-goes_on g t c = (goes_both _ _ _ c.serialize_option_box_bag.ensures.goes_on c.serialize_shared_slice_bag.ensures.goes_on)

pub serialize_whole_bag-returns-clause-serialized : goal.serialize_whole_bag-returns-clause-serialized
serialize_whole_bag-returns-clause-serialized g t c = (written_as (bag_has_keys c.args.value.now) (bag_means c.args.value.now) refl (serialized_record bag_definitions bag_shape bag_part_definitions bag_parts bag_has_parts _ _ _ _ _ (serialized_part bag_definitions (both bag_definitions no_definition) (option_shape (boxed (one bag_shape))) (part (shared rc_flavor (run bag_shape)) no_part) (option_keys (λ y. (bag_keys y.value)) (out-Bag c.args.value.now).top) ((rc_keys (out-Bag c.args.value.now).inside.key (run bag_shape) (length (out-Bag c.args.value.now).inside.value.items.value.items) (list (each_meaning bag_meaning (out-Bag c.args.value.now).inside.value.items.value.items)) (each_keys bag_keys (out-Bag c.args.value.now).inside.value.items.value.items)) ++ []) (option_meaning (λ y. (box (bag_meaning y.value))) (out-Bag c.args.value.now).top) (value (shared_value (out-Bag c.args.value.now).inside.key) no_value) _ _ _ _ _ c.in-Ok.ensures.serialized (serialized_part bag_definitions no_definition (shared rc_flavor (run bag_shape)) no_part (rc_keys (out-Bag c.args.value.now).inside.key (run bag_shape) (length (out-Bag c.args.value.now).inside.value.items.value.items) (list (each_meaning bag_meaning (out-Bag c.args.value.now).inside.value.items.value.items)) (each_keys bag_keys (out-Bag c.args.value.now).inside.value.items.value.items)) [] (shared_value (out-Bag c.args.value.now).inside.key) no_value _ _ _ _ _ (rw c.as_slice-items.ensures.value at c.in-Ok-serialize_shared_slice_bag.ensures.serialized) (serialized_no_part no_definition _)))))

pub serialize_whole_bag-returns-clause-goes_on : goal.serialize_whole_bag-returns-clause-goes_on
serialize_whole_bag-returns-clause-goes_on g t c = (goes_both _ _ _ c.serialize_option_box_bag.ensures.goes_on c.serialize_shared_slice_bag.ensures.goes_on)
