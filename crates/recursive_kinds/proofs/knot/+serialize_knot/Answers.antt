-- Written by tools/derive: change the declaration, and run it again.
use Rattle.archive_core.proofs.Causes.{err_by, goes_both, goes_nowhere}
use Rattle.archive_core.proofs.Owners.{vec_refused}
use Rattle.archive_core.proofs.Planned.{one_owned}
use Rattle.archive_core.proofs.PlannedParts.{serialized_no_part, serialized_part, serialized_record, record_refused, first_refused, later_refused}
use Rattle.archive_core.proofs.RunRegions.{run_owned, long_run_refused}
use Rattle.archive_core.proofs.Runs.{continues_step, continues_broken, continues_end, belongs_end}
use Rattle.archive_core.proofs.recursive.KeysBegun.{region_refused}
use Rattle.archive_core.specs.Causes.{no_memory}
use Rattle.archive_core.specs.Definitions.{both, no_definition}
use Rattle.archive_core.specs.Error.TheVariants.{OutOfMemory}
use Rattle.archive_core.specs.Held.{written_as, refused_as}
use Rattle.archive_core.specs.PartsPlanned.{part_planned, no_part_planned}
use Rattle.archive_core.specs.PlannedOwners.{vec_planned, slice_planned, each_planned}
use Rattle.archive_core.specs.Runs.{each_keys, each_meaning}
use Rattle.archive_core.specs.Shape.{shared, vec, one, leaf, unsigned, part, no_part, variant, number as number_kind}
use Rattle.archive_core.specs.SharedSources.{rc_flavor, rc_keys, rc_one_planned}
use Rattle.archive_core.specs.Value.{list, number, value, no_value, shared_value}
use Rattle.recursive_kinds.proofs.knot.+serialize_knot.Goals.{serialize_each_shared_knot-in-Some+in_ok-map_err-in-Some, serialize_each_shared_knot-in-None+in-Ok-serialize_knot+in-Ok-finish_shared+in_ok-map_err-in-None}
use Rattle.recursive_kinds.specs.KnotMeaning.{knot_meaning, knot_keys, knot_planned, knot_means, knot_has_keys}
use Rattle.recursive_kinds.specs.KnotShape.{knot_shape, knot_definitions, knot_parts, knot_part_definitions, knot_has_parts}
use Rattle.recursive_kinds.specs.declared.knot.Knot.{out-Knot}
use Rattle.std.proofs.Common.{◌≡◌, ◌<◌, ◌++◌, [], length, refl, arith, pos}
use Rattle.std.proofs.Math.ListN.{drop_of_length-le}
use Rattle.std.proofs.lemmas.Grind.{common_steps}
use Rattle.std.specs.Int.{w32}
use Rattle.std.specs.Prelude.{[], ◌++◌, ◌≡◌, refl, pos, length}
use Rattle.recursive_kinds.proofs.knot.+serialize_knot.Goals as goal

pub serialize_each_shared_knot-returns-in_err-resolvers-clause-refused : goal.serialize_each_shared_knot-returns-in_err-resolvers-clause-refused
serialize_each_shared_knot-returns-in_err-resolvers-clause-refused g t c = err_by c.from_residual.result OutOfMemory _ c.from_residual.ensures.1 no_memory

pub serialize_each_shared_knot-returns-in-Err-clause-goes_on : goal.serialize_each_shared_knot-returns-in-Err-clause-goes_on
serialize_each_shared_knot-returns-in-Err-clause-goes_on g t c = goes_both _ _ _ c.loop-value.invariant.continues.goes c.begin_shared.ensures.goes_on

pub serialize_each_shared_knot-returns-in-Err-clause-refused : goal.serialize_each_shared_knot-returns-in-Err-clause-refused
serialize_each_shared_knot-returns-in-Err-clause-refused g t c = continues_broken _ _ _ _ _ _ _ _ _ _ c.loop-value.value-index _ _ _ c.loop-value-test.true c.value-item.is (λ y. (rc_one_planned knot_definitions y.key (one knot_shape) knot_shape refl _ _ (knot_planned y.value.value))) c.loop-value.invariant.continues c.begin_shared.ensures.goes_on (c.in-Err.ensures.refused.said knot_definitions rc_flavor (one knot_shape) 0 (knot_keys c.value-item.result.value.value) (knot_meaning c.value-item.result.value.value))

pub serialize_each_shared_knot-returns-in-Err-serialize_knot-clause-goes_on : goal.serialize_each_shared_knot-returns-in-Err-serialize_knot-clause-goes_on
serialize_each_shared_knot-returns-in-Err-serialize_knot-clause-goes_on g t c = goes_both _ _ _ c.loop-value.invariant.continues.goes (goes_both _ _ _ c.begin_shared.ensures.goes_on c.serialize_knot.ensures.goes_on)

pub serialize_each_shared_knot-returns-in-Err-serialize_knot-clause-refused : goal.serialize_each_shared_knot-returns-in-Err-serialize_knot-clause-refused
serialize_each_shared_knot-returns-in-Err-serialize_knot-clause-refused g t c = continues_broken _ _ _ _ _ _ _ _ _ _ c.loop-value.value-index _ _ _ c.loop-value-test.true c.value-item.is (λ y. (rc_one_planned knot_definitions y.key (one knot_shape) knot_shape refl _ _ (knot_planned y.value.value))) c.loop-value.invariant.continues (goes_both _ _ _ c.begin_shared.ensures.goes_on c.serialize_knot.ensures.goes_on) (let same : c.deref-inner.result.now ≡ c.value-item.result.value.value = grind (arith, common_steps) in rw (← same) (region_refused knot_definitions (one knot_shape) 0 c.value-item.result.key _ _ rc_flavor _ _ _ _ (rw c.in-None.is at c.in-Ok.ensures.begun) c.serialize_knot.ensures.goes_on (one_owned knot_definitions knot_shape _ _ _ _ _ c.in-Err-serialize_knot.ensures.refused)))

pub serialize_each_shared_knot-returns-in-Err-finish_shared-clause-goes_on : goal.serialize_each_shared_knot-returns-in-Err-finish_shared-clause-goes_on
serialize_each_shared_knot-returns-in-Err-finish_shared-clause-goes_on g t c = goes_both _ _ _ c.loop-value.invariant.continues.goes (c.finish_shared.ensures.goes_on.since _ _ (rw c.in-None.is at c.in-Ok.ensures.begun) c.serialize_knot.ensures.goes_on)

pub serialize_each_shared_knot-returns-in-Err-finish_shared-clause-refused : goal.serialize_each_shared_knot-returns-in-Err-finish_shared-clause-refused
serialize_each_shared_knot-returns-in-Err-finish_shared-clause-refused g t c = continues_broken _ _ _ _ _ _ _ _ _ _ c.loop-value.value-index _ _ _ c.loop-value-test.true c.value-item.is (λ y. (rc_one_planned knot_definitions y.key (one knot_shape) knot_shape refl _ _ (knot_planned y.value.value))) c.loop-value.invariant.continues (c.finish_shared.ensures.goes_on.since _ _ (rw c.in-None.is at c.in-Ok.ensures.begun) c.serialize_knot.ensures.goes_on) (let same : c.deref-inner.result.now ≡ c.value-item.result.value.value = grind (arith, common_steps) in rw (← same) (c.in-Err-finish_shared.ensures.refused.since rc_flavor _ _ (rw c.in-None.is at c.in-Ok.ensures.begun) c.serialize_knot.ensures.goes_on c.in-Ok-serialize_knot.ensures.serialized))

pub serialize_each_shared_knot-returns-in_err-resolvers-clause-goes_on : goal.serialize_each_shared_knot-returns-in_err-resolvers-clause-goes_on
serialize_each_shared_knot-returns-in_err-resolvers-clause-goes_on g t c = goes_nowhere _

pub serialize_each_shared_knot-returns-in_err-map_err-in-Some-clause-goes_on : goal.serialize_each_shared_knot-returns-in_err-map_err-in-Some-clause-goes_on
serialize_each_shared_knot-returns-in_err-map_err-in-Some-clause-goes_on g t c = goes_both _ _ _ c.loop-value.invariant.continues.goes c.begin_shared.ensures.goes_on

pub serialize_each_shared_knot-returns-in_err-map_err-in-Some-clause-refused : goal.serialize_each_shared_knot-returns-in_err-map_err-in-Some-clause-refused
serialize_each_shared_knot-returns-in_err-map_err-in-Some-clause-refused g t c = err_by c.from_residual-in_err-map_err-in-Some.result OutOfMemory _ c.from_residual-in_err-map_err-in-Some.ensures.1 no_memory

pub serialize_each_shared_knot-returns-in_err-map_err-in-None-clause-goes_on : goal.serialize_each_shared_knot-returns-in_err-map_err-in-None-clause-goes_on
serialize_each_shared_knot-returns-in_err-map_err-in-None-clause-goes_on g t c = goes_both _ _ _ c.loop-value.invariant.continues.goes (c.finish_shared.ensures.goes_on.since _ _ (rw c.in-None.is at c.in-Ok.ensures.begun) c.serialize_knot.ensures.goes_on)

pub serialize_each_shared_knot-returns-in_err-map_err-in-None-clause-refused : goal.serialize_each_shared_knot-returns-in_err-map_err-in-None-clause-refused
serialize_each_shared_knot-returns-in_err-map_err-in-None-clause-refused g t c = err_by c.from_residual-in_err-map_err-in-None.result OutOfMemory _ c.from_residual-in_err-map_err-in-None.ensures.1 no_memory

pub serialize_each_shared_knot-loop-value-preserved : goal.serialize_each_shared_knot-loop-value-preserved
serialize_each_shared_knot-loop-value-preserved g t c = record { continues = elim c.match-known.branch [ serialize_each_shared_knot-in-Some+in_ok-map_err-in-Some w ↦ rw (w.serializer-is, w.resolvers-is) (continues_step _ _ _ _ _ _ _ _ _ _ c.loop-value.value-index _ _ _ w.in-Some.resolver c.loop-value-test.true c.value-item.is (grind (arith, common_steps, w.push.ensures.items, w.map_err.ensures.variant, w.branch-map_err.ensures, w.in_ok-map_err-in-Some.is)) c.loop-value.invariant.continues ((rw w.in-Some.is at c.in-Ok.ensures.known).said knot_definitions rc_flavor (one knot_shape) 0 (knot_keys c.value-item.result.value.value) (knot_meaning c.value-item.result.value.value)) tt c.begin_shared.ensures.goes_on) | serialize_each_shared_knot-in-None+in-Ok-serialize_knot+in-Ok-finish_shared+in_ok-map_err-in-None w ↦ rw (w.serializer-is, w.resolvers-is) (continues_step _ _ _ _ _ _ _ _ _ _ c.loop-value.value-index _ _ _ w.in-Ok-finish_shared.resolver c.loop-value-test.true c.value-item.is (grind (arith, common_steps, w.push-in-None.ensures.items, w.map_err-in-None.ensures.variant, w.branch-map_err-in-None.ensures, w.in_ok-map_err-in-None.is)) c.loop-value.invariant.continues (let same : c.deref-inner.result.now ≡ c.value-item.result.value.value = grind (arith, common_steps) in rw (← same) (w.in-Ok-finish_shared.ensures.shared.since rc_flavor _ _ (rw w.in-None.is at c.in-Ok.ensures.begun) w.serialize_knot.ensures.goes_on w.in-Ok-serialize_knot.ensures.serialized)) tt (w.finish_shared.ensures.goes_on.since _ _ (rw w.in-None.is at c.in-Ok.ensures.begun) w.serialize_knot.ensures.goes_on)) ] }

pub serialize_each_shared_knot-returns-clause-serialized : goal.serialize_each_shared_knot-returns-clause-serialized
serialize_each_shared_knot-returns-clause-serialized g t c = continues_end _ _ _ _ _ _ _ _ _ _ _ (drop_of_length-le _ c.loop-value-test.false) c.loop-value.invariant.continues

pub serialize_each_shared_knot-returns-clause-same_values : goal.serialize_each_shared_knot-returns-clause-same_values
serialize_each_shared_knot-returns-clause-same_values g t c = belongs_end _ _ _ _ _ _ _ _ _ _ _ (drop_of_length-le _ c.loop-value-test.false) c.loop-value.invariant.continues

pub serialize_vec_shared_knot-returns-then-len-clause-refused : goal.serialize_vec_shared_knot-returns-then-len-clause-refused
serialize_vec_shared_knot-returns-then-len-clause-refused g t c = (let long : 4294967295 < length c.args.value.now.items = (let whole : length c.args.value.now.items ≡ c.len.result = grind (arith, common_steps, c.len.ensures) in omega (arith, c.if-len.true, whole)) in vec_refused knot_definitions (shared rc_flavor (one knot_shape)) (length c.args.value.now.items) (each_keys (λ y. (rc_keys y.key (one knot_shape) 0 (knot_meaning y.value.value) (knot_keys y.value.value))) c.args.value.now.items) (list (each_meaning (λ y. (shared_value y.key)) c.args.value.now.items)) _ _ _ (long_run_refused knot_definitions (shared rc_flavor (one knot_shape)) (length c.args.value.now.items) (each_keys (λ y. (rc_keys y.key (one knot_shape) 0 (knot_meaning y.value.value) (knot_keys y.value.value))) c.args.value.now.items) (each_meaning (λ y. (shared_value y.key)) c.args.value.now.items) _ _ (each_planned knot_definitions (shared rc_flavor (one knot_shape)) (λ y. (rc_keys y.key (one knot_shape) 0 (knot_meaning y.value.value) (knot_keys y.value.value))) (λ y. (shared_value y.key)) (λ y. (rc_one_planned knot_definitions y.key (one knot_shape) knot_shape refl _ _ (knot_planned y.value.value))) c.args.value.now.items) long))

pub serialize_vec_shared_knot-returns-in-Err-clause-refused : goal.serialize_vec_shared_knot-returns-in-Err-clause-refused
serialize_vec_shared_knot-returns-in-Err-clause-refused g t c = vec_refused knot_definitions (shared rc_flavor (one knot_shape)) (length c.args.value.now.items) (each_keys (λ y. (rc_keys y.key (one knot_shape) 0 (knot_meaning y.value.value) (knot_keys y.value.value))) c.args.value.now.items) (list (each_meaning (λ y. (shared_value y.key)) c.args.value.now.items)) _ _ _ (run_owned knot_definitions (shared rc_flavor (one knot_shape)) (length c.args.value.now.items) (each_keys (λ y. (rc_keys y.key (one knot_shape) 0 (knot_meaning y.value.value) (knot_keys y.value.value))) c.args.value.now.items) (each_meaning (λ y. (shared_value y.key)) c.args.value.now.items) _ _ _ (rw c.as_slice-items.ensures.value at c.in-Err.ensures.refused))

pub serialize_vec_shared_knot-returns-in-Ok-serialize_run-clause-serialized : goal.serialize_vec_shared_knot-returns-in-Ok-serialize_run-clause-serialized
serialize_vec_shared_knot-returns-in-Ok-serialize_run-clause-serialized g t c = (rw c.as_slice-items.ensures.value at c.in-Ok-serialize_run.ensures.listed).since _ c.serialize_each_shared_knot.ensures.goes_on (rw c.as_slice-items.ensures.value at c.in-Ok.ensures.serialized)

pub serialize_vec_shared_knot-returns-in-Ok-serialize_run-clause-goes_on : goal.serialize_vec_shared_knot-returns-in-Ok-serialize_run-clause-goes_on
serialize_vec_shared_knot-returns-in-Ok-serialize_run-clause-goes_on g t c = (goes_both _ _ _ c.serialize_each_shared_knot.ensures.goes_on c.serialize_run.ensures.goes_on)

pub serialize_vec_shared_knot-returns-in-Err-serialize_run-clause-goes_on : goal.serialize_vec_shared_knot-returns-in-Err-serialize_run-clause-goes_on
serialize_vec_shared_knot-returns-in-Err-serialize_run-clause-goes_on g t c = (goes_both _ _ _ c.serialize_each_shared_knot.ensures.goes_on c.serialize_run.ensures.goes_on)

pub serialize_vec_shared_knot-returns-in-Err-serialize_run-clause-refused : goal.serialize_vec_shared_knot-returns-in-Err-serialize_run-clause-refused
serialize_vec_shared_knot-returns-in-Err-serialize_run-clause-refused g t c = (rw c.as_slice-items.ensures.value at c.in-Err-serialize_run.ensures.refused).since _ c.serialize_each_shared_knot.ensures.goes_on (rw c.as_slice-items.ensures.value at c.in-Ok.ensures.serialized)

pub serialize_whole_knot-returns-in-Err-clause-refused : goal.serialize_whole_knot-returns-in-Err-clause-refused
serialize_whole_knot-returns-in-Err-clause-refused g t c = (refused_as (knot_has_keys c.args.value.now) (knot_means c.args.value.now) (record_refused knot_definitions knot_shape knot_part_definitions knot_parts knot_has_parts _ _ _ _ _ (first_refused no_definition (both knot_definitions no_definition) (leaf (number_kind unsigned w32)) (part (vec (shared rc_flavor (one knot_shape))) no_part) [] ((each_keys (λ y. (rc_keys y.key (one knot_shape) 0 (knot_meaning y.value.value) (knot_keys y.value.value))) (out-Knot c.args.value.now).next.items) ++ []) (number (pos (out-Knot c.args.value.now).id)) (value (list (each_meaning (λ y. (shared_value y.key)) (out-Knot c.args.value.now).next.items)) no_value) _ _ _ (part_planned knot_definitions (vec (shared rc_flavor (one knot_shape))) (each_keys (λ y. (rc_keys y.key (one knot_shape) 0 (knot_meaning y.value.value) (knot_keys y.value.value))) (out-Knot c.args.value.now).next.items) (list (each_meaning (λ y. (shared_value y.key)) (out-Knot c.args.value.now).next.items)) (vec_planned knot_definitions (shared rc_flavor (one knot_shape)) _ _ _ (slice_planned knot_definitions (shared rc_flavor (one knot_shape)) (λ y. (rc_keys y.key (one knot_shape) 0 (knot_meaning y.value.value) (knot_keys y.value.value))) (λ y. (shared_value y.key)) (λ y. (rc_one_planned knot_definitions y.key (one knot_shape) knot_shape refl _ _ (knot_planned y.value.value))) (out-Knot c.args.value.now).next.items)) no_part_planned) c.in-Err.ensures.refused)))

pub serialize_whole_knot-returns-in-Err-serialize_vec_shared_knot-clause-refused : goal.serialize_whole_knot-returns-in-Err-serialize_vec_shared_knot-clause-refused
serialize_whole_knot-returns-in-Err-serialize_vec_shared_knot-clause-refused g t c = rw c.handed_on.ensures (refused_as (knot_has_keys c.args.value.now) (knot_means c.args.value.now) (record_refused knot_definitions knot_shape knot_part_definitions knot_parts knot_has_parts _ _ _ _ _ (later_refused no_definition (both knot_definitions no_definition) (leaf (number_kind unsigned w32)) (part (vec (shared rc_flavor (one knot_shape))) no_part) [] ((each_keys (λ y. (rc_keys y.key (one knot_shape) 0 (knot_meaning y.value.value) (knot_keys y.value.value))) (out-Knot c.args.value.now).next.items) ++ []) (number (pos (out-Knot c.args.value.now).id)) (value (list (each_meaning (λ y. (shared_value y.key)) (out-Knot c.args.value.now).next.items)) no_value) _ _ _ _ _ c.in-Ok.ensures.serialized c.serialize_part.ensures.goes_on c.serialize_vec_shared_knot.ensures.goes_on (first_refused knot_definitions no_definition (vec (shared rc_flavor (one knot_shape))) no_part (each_keys (λ y. (rc_keys y.key (one knot_shape) 0 (knot_meaning y.value.value) (knot_keys y.value.value))) (out-Knot c.args.value.now).next.items) [] (list (each_meaning (λ y. (shared_value y.key)) (out-Knot c.args.value.now).next.items)) no_value _ _ _ no_part_planned c.in-Err-serialize_vec_shared_knot.ensures.refused))))

pub serialize_whole_knot-returns-in-Err-serialize_vec_shared_knot-clause-goes_on : goal.serialize_whole_knot-returns-in-Err-serialize_vec_shared_knot-clause-goes_on
serialize_whole_knot-returns-in-Err-serialize_vec_shared_knot-clause-goes_on g t c = (goes_both _ _ _ c.serialize_part.ensures.goes_on c.serialize_vec_shared_knot.ensures.goes_on)

pub serialize_whole_knot-returns-clause-serialized : goal.serialize_whole_knot-returns-clause-serialized
serialize_whole_knot-returns-clause-serialized g t c = (written_as (knot_has_keys c.args.value.now) (knot_means c.args.value.now) refl (serialized_record knot_definitions knot_shape knot_part_definitions knot_parts knot_has_parts _ _ _ _ _ (serialized_part no_definition (both knot_definitions no_definition) (leaf (number_kind unsigned w32)) (part (vec (shared rc_flavor (one knot_shape))) no_part) [] ((each_keys (λ y. (rc_keys y.key (one knot_shape) 0 (knot_meaning y.value.value) (knot_keys y.value.value))) (out-Knot c.args.value.now).next.items) ++ []) (number (pos (out-Knot c.args.value.now).id)) (value (list (each_meaning (λ y. (shared_value y.key)) (out-Knot c.args.value.now).next.items)) no_value) _ _ _ _ _ c.in-Ok.ensures.serialized (serialized_part knot_definitions no_definition (vec (shared rc_flavor (one knot_shape))) no_part (each_keys (λ y. (rc_keys y.key (one knot_shape) 0 (knot_meaning y.value.value) (knot_keys y.value.value))) (out-Knot c.args.value.now).next.items) [] (list (each_meaning (λ y. (shared_value y.key)) (out-Knot c.args.value.now).next.items)) no_value _ _ _ _ _ c.in-Ok-serialize_vec_shared_knot.ensures.serialized (serialized_no_part no_definition _)))))

pub serialize_whole_knot-returns-clause-goes_on : goal.serialize_whole_knot-returns-clause-goes_on
serialize_whole_knot-returns-clause-goes_on g t c = (goes_both _ _ _ c.serialize_part.ensures.goes_on c.serialize_vec_shared_knot.ensures.goes_on)
