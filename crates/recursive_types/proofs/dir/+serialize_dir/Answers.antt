-- Written by tools/derive: change the declaration, and run it again.
use Rattle.archive_core.proofs.Causes.{err_by, goes_both}
use Rattle.archive_core.proofs.OwnChoices.{serialized_variant, variant_refused}
use Rattle.archive_core.proofs.Owners.{box_refused, vec_refused}
use Rattle.archive_core.proofs.Planned.{one_owned}
use Rattle.archive_core.proofs.PlannedParts.{serialized_no_part, serialized_part, serialized_record, record_refused, first_refused, later_refused}
use Rattle.archive_core.proofs.RunRegions.{run_owned, long_run_refused}
use Rattle.archive_core.proofs.Runs.{continues_step, continues_broken, continues_end, belongs_end}
use Rattle.archive_core.specs.Causes.{no_memory}
use Rattle.archive_core.specs.Definitions.{both, no_definition}
use Rattle.archive_core.specs.Error.TheVariants.{OutOfMemory}
use Rattle.archive_core.specs.Held.{written_as, refused_as}
use Rattle.archive_core.specs.PartsPlanned.{part_planned, no_part_planned}
use Rattle.archive_core.specs.PlannedOwners.{vec_planned, slice_planned, each_planned}
use Rattle.archive_core.specs.Runs.{each_keys, each_meaning}
use Rattle.archive_core.specs.Shape.{boxed, vec, str, one, part, no_part}
use Rattle.archive_core.specs.Value.{list, box, value, no_value, text_value}
use Rattle.recursive_types.specs.DirMeaning.{dir_meaning, dir_keys, dir_means, dir_has_keys, entry_meaning, entry_keys, entry_planned, entry_file_means, entry_file_has_keys, entry_file_opens, entry_sub_means, entry_sub_has_keys, entry_sub_opens}
use Rattle.recursive_types.specs.DirShape.{dir_shape, dir_definitions, dir_parts, dir_part_definitions, dir_has_parts, entry_name, entry_shape, entry_definitions, entry_variants, entry_variant_definitions, entry_has_variants, entry_sub_parts, entry_sub_definitions}
use Rattle.recursive_types.specs.declared.dir.Dir.{out-Dir}
use Rattle.std.proofs.Common.{◌≡◌, ◌<◌, ◌++◌, [], length, refl, arith, string_bytes}
use Rattle.std.proofs.Math.ListN.{drop_of_length-le}
use Rattle.std.proofs.lemmas.Grind.{common_steps}
use Rattle.std.specs.Prelude.{[], ◌++◌, ◌≡◌, refl, length, string_bytes}
use Rattle.recursive_types.proofs.dir.+serialize_dir.Goals as goal

pub serialize_each_entry-returns-in_err-resolvers-clause-refused : goal.serialize_each_entry-returns-in_err-resolvers-clause-refused
serialize_each_entry-returns-in_err-resolvers-clause-refused g t c = err_by c.from_residual.result OutOfMemory _ c.from_residual.ensures.1 no_memory

pub serialize_each_entry-returns-in-Err-clause-goes_on : goal.serialize_each_entry-returns-in-Err-clause-goes_on
serialize_each_entry-returns-in-Err-clause-goes_on g t c = goes_both _ _ _ c.loop-value.invariant.continues.goes c.serialize_entry.ensures.goes_on

pub serialize_each_entry-returns-in-Err-clause-refused : goal.serialize_each_entry-returns-in-Err-clause-refused
serialize_each_entry-returns-in-Err-clause-refused g t c = rw c.handed_on.ensures (continues_broken _ _ _ _ _ _ _ _ _ _ c.loop-value.value-index _ _ _ c.loop-value-test.true c.value-item.is entry_planned c.loop-value.invariant.continues c.serialize_entry.ensures.goes_on c.in-Err.ensures.refused)

pub serialize_each_entry-loop-value-preserved : goal.serialize_each_entry-loop-value-preserved
serialize_each_entry-loop-value-preserved g t c = record { continues = continues_step _ _ _ _ _ _ _ _ _ _ c.loop-value.value-index _ _ _ _ c.loop-value-test.true c.value-item.is (grind (arith, common_steps)) c.loop-value.invariant.continues c.in-Ok.ensures.serialized c.in-Ok.ensures.same_value c.serialize_entry.ensures.goes_on; reserved = (grind (arith, common_steps, c.loop-value.invariant.reserved.0), grind (arith, common_steps, c.loop-value.invariant.reserved.1)) }

pub serialize_each_entry-returns-clause-serialized : goal.serialize_each_entry-returns-clause-serialized
serialize_each_entry-returns-clause-serialized g t c = continues_end _ _ _ _ _ _ _ _ _ _ _ (drop_of_length-le _ c.loop-value-test.false) c.loop-value.invariant.continues

pub serialize_each_entry-returns-clause-same_values : goal.serialize_each_entry-returns-clause-same_values
serialize_each_entry-returns-clause-same_values g t c = belongs_end _ _ _ _ _ _ _ _ _ _ _ (drop_of_length-le _ c.loop-value-test.false) c.loop-value.invariant.continues

pub serialize_vec_entry-returns-then-len-clause-refused : goal.serialize_vec_entry-returns-then-len-clause-refused
serialize_vec_entry-returns-then-len-clause-refused g t c = (let long : 4294967295 < length c.args.value.now.items = (let whole : length c.args.value.now.items ≡ c.len.result = grind (arith, common_steps, c.len.ensures) in omega (arith, c.if-len.true, whole)) in vec_refused dir_definitions entry_shape (length c.args.value.now.items) (each_keys entry_keys c.args.value.now.items) (list (each_meaning entry_meaning c.args.value.now.items)) _ _ _ (long_run_refused dir_definitions entry_shape (length c.args.value.now.items) (each_keys entry_keys c.args.value.now.items) (each_meaning entry_meaning c.args.value.now.items) _ _ (each_planned dir_definitions entry_shape entry_keys entry_meaning entry_planned c.args.value.now.items) long))

pub serialize_vec_entry-returns-in-Err-clause-refused : goal.serialize_vec_entry-returns-in-Err-clause-refused
serialize_vec_entry-returns-in-Err-clause-refused g t c = vec_refused dir_definitions entry_shape (length c.args.value.now.items) (each_keys entry_keys c.args.value.now.items) (list (each_meaning entry_meaning c.args.value.now.items)) _ _ _ (run_owned dir_definitions entry_shape (length c.args.value.now.items) (each_keys entry_keys c.args.value.now.items) (each_meaning entry_meaning c.args.value.now.items) _ _ _ (rw c.as_slice-items.ensures.value at c.in-Err.ensures.refused))

pub serialize_vec_entry-returns-in-Ok-serialize_inner_slice-clause-serialized : goal.serialize_vec_entry-returns-in-Ok-serialize_inner_slice-clause-serialized
serialize_vec_entry-returns-in-Ok-serialize_inner_slice-clause-serialized g t c = (rw c.as_slice-items.ensures.value at c.in-Ok-serialize_inner_slice.ensures.listed).since _ c.serialize_each_entry.ensures.goes_on (rw c.as_slice-items.ensures.value at c.in-Ok.ensures.serialized)

pub serialize_vec_entry-returns-in-Ok-serialize_inner_slice-clause-goes_on : goal.serialize_vec_entry-returns-in-Ok-serialize_inner_slice-clause-goes_on
serialize_vec_entry-returns-in-Ok-serialize_inner_slice-clause-goes_on g t c = (goes_both _ _ _ c.serialize_each_entry.ensures.goes_on c.serialize_inner_slice.ensures.goes_on)

pub serialize_vec_entry-returns-in-Err-serialize_inner_slice-clause-goes_on : goal.serialize_vec_entry-returns-in-Err-serialize_inner_slice-clause-goes_on
serialize_vec_entry-returns-in-Err-serialize_inner_slice-clause-goes_on g t c = (goes_both _ _ _ c.serialize_each_entry.ensures.goes_on c.serialize_inner_slice.ensures.goes_on)

pub serialize_vec_entry-returns-in-Err-serialize_inner_slice-clause-refused : goal.serialize_vec_entry-returns-in-Err-serialize_inner_slice-clause-refused
serialize_vec_entry-returns-in-Err-serialize_inner_slice-clause-refused g t c = (rw c.as_slice-items.ensures.value at c.in-Err-serialize_inner_slice.ensures.refused).since _ c.serialize_each_entry.ensures.goes_on (rw c.as_slice-items.ensures.value at c.in-Ok.ensures.serialized)

pub serialize_whole_dir-returns-in-Err-clause-refused : goal.serialize_whole_dir-returns-in-Err-clause-refused
serialize_whole_dir-returns-in-Err-clause-refused g t c = (refused_as (dir_has_keys c.args.value.now) (dir_means c.args.value.now) (record_refused dir_definitions dir_shape dir_part_definitions dir_parts dir_has_parts _ _ _ _ _ (first_refused no_definition (both dir_definitions no_definition) str (part (vec entry_shape) no_part) [] ((each_keys entry_keys (out-Dir c.args.value.now).entries.items) ++ []) (text_value (string_bytes (out-Dir c.args.value.now).name)) (value (list (each_meaning entry_meaning (out-Dir c.args.value.now).entries.items)) no_value) _ _ _ (part_planned dir_definitions (vec entry_shape) (each_keys entry_keys (out-Dir c.args.value.now).entries.items) (list (each_meaning entry_meaning (out-Dir c.args.value.now).entries.items)) (vec_planned dir_definitions entry_shape _ _ _ (slice_planned dir_definitions entry_shape entry_keys entry_meaning entry_planned (out-Dir c.args.value.now).entries.items)) no_part_planned) c.in-Err.ensures.refused)))

pub serialize_whole_dir-returns-in-Err-serialize_vec_entry-clause-refused : goal.serialize_whole_dir-returns-in-Err-serialize_vec_entry-clause-refused
serialize_whole_dir-returns-in-Err-serialize_vec_entry-clause-refused g t c = rw c.handed_on.ensures (refused_as (dir_has_keys c.args.value.now) (dir_means c.args.value.now) (record_refused dir_definitions dir_shape dir_part_definitions dir_parts dir_has_parts _ _ _ _ _ (later_refused no_definition (both dir_definitions no_definition) str (part (vec entry_shape) no_part) [] ((each_keys entry_keys (out-Dir c.args.value.now).entries.items) ++ []) (text_value (string_bytes (out-Dir c.args.value.now).name)) (value (list (each_meaning entry_meaning (out-Dir c.args.value.now).entries.items)) no_value) _ _ _ _ _ c.in-Ok.ensures.serialized c.serialize_part.ensures.goes_on c.serialize_vec_entry.ensures.goes_on (first_refused dir_definitions no_definition (vec entry_shape) no_part (each_keys entry_keys (out-Dir c.args.value.now).entries.items) [] (list (each_meaning entry_meaning (out-Dir c.args.value.now).entries.items)) no_value _ _ _ no_part_planned c.in-Err-serialize_vec_entry.ensures.refused))))

pub serialize_whole_dir-returns-in-Err-serialize_vec_entry-clause-goes_on : goal.serialize_whole_dir-returns-in-Err-serialize_vec_entry-clause-goes_on
serialize_whole_dir-returns-in-Err-serialize_vec_entry-clause-goes_on g t c = (goes_both _ _ _ c.serialize_part.ensures.goes_on c.serialize_vec_entry.ensures.goes_on)

pub serialize_whole_dir-returns-clause-serialized : goal.serialize_whole_dir-returns-clause-serialized
serialize_whole_dir-returns-clause-serialized g t c = (written_as (dir_has_keys c.args.value.now) (dir_means c.args.value.now) refl (serialized_record dir_definitions dir_shape dir_part_definitions dir_parts dir_has_parts _ _ _ _ _ (serialized_part no_definition (both dir_definitions no_definition) str (part (vec entry_shape) no_part) [] ((each_keys entry_keys (out-Dir c.args.value.now).entries.items) ++ []) (text_value (string_bytes (out-Dir c.args.value.now).name)) (value (list (each_meaning entry_meaning (out-Dir c.args.value.now).entries.items)) no_value) _ _ _ _ _ c.in-Ok.ensures.serialized (serialized_part dir_definitions no_definition (vec entry_shape) no_part (each_keys entry_keys (out-Dir c.args.value.now).entries.items) [] (list (each_meaning entry_meaning (out-Dir c.args.value.now).entries.items)) no_value _ _ _ _ _ c.in-Ok-serialize_vec_entry.ensures.serialized (serialized_no_part no_definition _)))))

pub serialize_whole_dir-returns-clause-goes_on : goal.serialize_whole_dir-returns-clause-goes_on
serialize_whole_dir-returns-clause-goes_on g t c = (goes_both _ _ _ c.serialize_part.ensures.goes_on c.serialize_vec_entry.ensures.goes_on)

pub serialize_box_dir-returns-in-Err-clause-refused : goal.serialize_box_dir-returns-in-Err-clause-refused
serialize_box_dir-returns-in-Err-clause-refused g t c = rw c.handed_on.ensures (let same : c.deref-inner.result.now ≡ c.args.value.now.value = grind (arith, common_steps) in rw (← same) (box_refused entry_definitions (one dir_shape) 0 _ _ _ _ _ (one_owned entry_definitions dir_shape _ _ _ _ _ c.in-Err.ensures.refused)))

pub serialize_box_dir-returns-in-Ok-serialize_inner-clause-serialized : goal.serialize_box_dir-returns-in-Ok-serialize_inner-clause-serialized
serialize_box_dir-returns-in-Ok-serialize_inner-clause-serialized g t c = (let same : c.deref-inner.result.now ≡ c.args.value.now.value = grind (arith, common_steps) in rw (← same) (c.in-Ok-serialize_inner.ensures.boxed.since _ c.serialize_dir.ensures.goes_on c.in-Ok.ensures.serialized))

pub serialize_box_dir-returns-in-Ok-serialize_inner-clause-goes_on : goal.serialize_box_dir-returns-in-Ok-serialize_inner-clause-goes_on
serialize_box_dir-returns-in-Ok-serialize_inner-clause-goes_on g t c = (goes_both _ _ _ c.serialize_dir.ensures.goes_on c.serialize_inner.ensures.goes_on)

pub serialize_box_dir-returns-in-Err-serialize_inner-clause-goes_on : goal.serialize_box_dir-returns-in-Err-serialize_inner-clause-goes_on
serialize_box_dir-returns-in-Err-serialize_inner-clause-goes_on g t c = (goes_both _ _ _ c.serialize_dir.ensures.goes_on c.serialize_inner.ensures.goes_on)

pub serialize_box_dir-returns-in-Err-serialize_inner-clause-refused : goal.serialize_box_dir-returns-in-Err-serialize_inner-clause-refused
serialize_box_dir-returns-in-Err-serialize_inner-clause-refused g t c = (let same : c.deref-inner.result.now ≡ c.args.value.now.value = grind (arith, common_steps) in rw (← same) (c.in-Err-serialize_inner.ensures.refused.since _ c.serialize_dir.ensures.goes_on c.in-Ok.ensures.serialized))

pub serialize_entry_sub-returns-in-Err-clause-refused : goal.serialize_entry_sub-returns-in-Err-clause-refused
serialize_entry_sub-returns-in-Err-clause-refused g t c = (variant_refused entry_definitions entry_shape entry_name entry_variant_definitions entry_variants entry_has_variants 1 entry_sub_parts refl entry_sub_definitions refl _ _ _ _ _ (first_refused entry_definitions no_definition (boxed (one dir_shape)) no_part (dir_keys c.args.a0.now.value) [] (box (dir_meaning c.args.a0.now.value)) no_value _ _ _ no_part_planned c.in-Err.ensures.refused))

pub serialize_entry_sub-returns-clause-serialized : goal.serialize_entry_sub-returns-clause-serialized
serialize_entry_sub-returns-clause-serialized g t c = (serialized_variant entry_definitions entry_shape entry_name entry_variant_definitions entry_variants entry_has_variants 1 entry_sub_parts refl entry_sub_definitions refl _ _ _ _ _ (serialized_part entry_definitions no_definition (boxed (one dir_shape)) no_part (dir_keys c.args.a0.now.value) [] (box (dir_meaning c.args.a0.now.value)) no_value _ _ _ _ _ c.in-Ok.ensures.serialized (serialized_no_part no_definition _)))

pub serialize_whole_entry-returns-in-Ok-clause-serialized : goal.serialize_whole_entry-returns-in-Ok-clause-serialized
serialize_whole_entry-returns-in-Ok-clause-serialized g t c = rw c.in-File.is (written_as (entry_file_has_keys c.in-File.a0) (entry_file_means c.in-File.a0) (rw (entry_file_opens c.in-File.a0) refl) c.in-Ok.ensures.serialized)

pub serialize_whole_entry-returns-in-Ok-clause-same_value : goal.serialize_whole_entry-returns-in-Ok-clause-same_value
serialize_whole_entry-returns-in-Ok-clause-same_value g t c = rw (c.in-File.is, entry_file_opens c.in-File.a0) c.in-Ok.ensures.same_values

pub serialize_whole_entry-returns-in-Err-clause-refused : goal.serialize_whole_entry-returns-in-Err-clause-refused
serialize_whole_entry-returns-in-Err-clause-refused g t c = rw c.in-File.is (refused_as (entry_file_has_keys c.in-File.a0) (entry_file_means c.in-File.a0) c.in-Err.ensures.refused)

pub serialize_whole_entry-returns-in-Ok-serialize_entry_sub-clause-serialized : goal.serialize_whole_entry-returns-in-Ok-serialize_entry_sub-clause-serialized
serialize_whole_entry-returns-in-Ok-serialize_entry_sub-clause-serialized g t c = rw c.in-Sub.is (written_as (entry_sub_has_keys c.in-Sub.a0) (entry_sub_means c.in-Sub.a0) (rw (entry_sub_opens c.in-Sub.a0) refl) c.in-Ok-serialize_entry_sub.ensures.serialized)

pub serialize_whole_entry-returns-in-Ok-serialize_entry_sub-clause-same_value : goal.serialize_whole_entry-returns-in-Ok-serialize_entry_sub-clause-same_value
serialize_whole_entry-returns-in-Ok-serialize_entry_sub-clause-same_value g t c = rw (c.in-Sub.is, entry_sub_opens c.in-Sub.a0) c.in-Ok-serialize_entry_sub.ensures.same_values

pub serialize_whole_entry-returns-in-Err-serialize_entry_sub-clause-refused : goal.serialize_whole_entry-returns-in-Err-serialize_entry_sub-clause-refused
serialize_whole_entry-returns-in-Err-serialize_entry_sub-clause-refused g t c = rw c.in-Sub.is (refused_as (entry_sub_has_keys c.in-Sub.a0) (entry_sub_means c.in-Sub.a0) c.in-Err-serialize_entry_sub.ensures.refused)
