-- Written by tools/derive: change the declaration, and run it again.
use Rattle.archive_core.proofs.Causes.{err_by, goes_both, goes_nowhere}
use Rattle.archive_core.proofs.OwnChoices.{serialized_variant, variant_refused}
use Rattle.archive_core.proofs.Owners.{vec_refused}
use Rattle.archive_core.proofs.PlannedParts.{serialized_no_part, serialized_part, serialized_record, record_refused, first_refused, later_refused}
use Rattle.archive_core.proofs.RunRegions.{run_owned, long_run_refused}
use Rattle.archive_core.proofs.Runs.{continues_step, continues_broken, continues_end, belongs_end}
use Rattle.archive_core.specs.Causes.{no_memory}
use Rattle.archive_core.specs.Definitions.{both, no_definition}
use Rattle.archive_core.specs.Error.TheVariants.{OutOfMemory}
use Rattle.archive_core.specs.Held.{written_as, refused_as}
use Rattle.archive_core.specs.PartsPlanned.{part_planned, no_part_planned}
use Rattle.archive_core.specs.PlannedOwners.{each_planned}
use Rattle.archive_core.specs.Runs.{each_keys, each_meaning}
use Rattle.archive_core.specs.Shape.{vec, str, part, no_part}
use Rattle.archive_core.specs.Value.{list, value, no_value, text_value}
use Rattle.recursive_fields.specs.JsonMeaning.{json_meaning, json_keys, json_planned, json_null_means, json_null_has_keys, json_null_opens, json_number_means, json_number_has_keys, json_number_opens, json_text_means, json_text_has_keys, json_text_opens, json_list_means, json_list_has_keys, json_list_opens, json_object_means, json_object_has_keys, json_object_opens, member_type_meaning, member_type_keys, member_type_planned, member_type_means, member_type_has_keys}
use Rattle.recursive_fields.specs.JsonShape.{json_name, json_shape, json_definitions, json_variants, json_variant_definitions, json_has_variants, json_null_parts, json_null_definitions, json_list_parts, json_list_definitions, json_object_parts, json_object_definitions, member_type_shape, member_type_definitions, member_type_parts, member_type_part_definitions, member_type_has_parts}
use Rattle.recursive_fields.specs.declared.json.Member.{out-Member}
use Rattle.std.proofs.Common.{◌≡◌, ◌<◌, ◌++◌, [], length, refl, arith, string_bytes}
use Rattle.std.proofs.Math.ListN.{drop_of_length-le}
use Rattle.std.proofs.lemmas.Grind.{common_steps}
use Rattle.std.specs.Prelude.{[], ◌++◌, ◌≡◌, refl, length, string_bytes}
use Rattle.recursive_fields.proofs.json.+serialize_json.Goals as goal

pub serialize_each_json-returns-in_err-resolvers-clause-refused : goal.serialize_each_json-returns-in_err-resolvers-clause-refused
serialize_each_json-returns-in_err-resolvers-clause-refused g t c = err_by c.from_residual.result OutOfMemory _ c.from_residual.ensures.1 no_memory

pub serialize_each_json-returns-in-Err-clause-goes_on : goal.serialize_each_json-returns-in-Err-clause-goes_on
serialize_each_json-returns-in-Err-clause-goes_on g t c = goes_both _ _ _ c.loop-value.invariant.continues.goes c.serialize_json.ensures.goes_on

pub serialize_each_json-returns-in-Err-clause-refused : goal.serialize_each_json-returns-in-Err-clause-refused
serialize_each_json-returns-in-Err-clause-refused g t c = rw c.handed_on.ensures (continues_broken _ _ _ _ _ _ _ _ _ _ c.loop-value.value-index _ _ _ c.loop-value-test.true c.value-item.is json_planned c.loop-value.invariant.continues c.serialize_json.ensures.goes_on c.in-Err.ensures.refused)

pub serialize_each_json-loop-value-preserved : goal.serialize_each_json-loop-value-preserved
serialize_each_json-loop-value-preserved g t c = record { continues = continues_step _ _ _ _ _ _ _ _ _ _ c.loop-value.value-index _ _ _ _ c.loop-value-test.true c.value-item.is (grind (arith, common_steps)) c.loop-value.invariant.continues c.in-Ok.ensures.serialized c.in-Ok.ensures.same_value c.serialize_json.ensures.goes_on; reserved = (grind (arith, common_steps, c.loop-value.invariant.reserved.0), grind (arith, common_steps, c.loop-value.invariant.reserved.1)) }

pub serialize_each_json-returns-clause-serialized : goal.serialize_each_json-returns-clause-serialized
serialize_each_json-returns-clause-serialized g t c = continues_end _ _ _ _ _ _ _ _ _ _ _ (drop_of_length-le _ c.loop-value-test.false) c.loop-value.invariant.continues

pub serialize_each_json-returns-clause-same_values : goal.serialize_each_json-returns-clause-same_values
serialize_each_json-returns-clause-same_values g t c = belongs_end _ _ _ _ _ _ _ _ _ _ _ (drop_of_length-le _ c.loop-value-test.false) c.loop-value.invariant.continues

pub serialize_vec_json-returns-then-len-clause-refused : goal.serialize_vec_json-returns-then-len-clause-refused
serialize_vec_json-returns-then-len-clause-refused g t c = (let long : 4294967295 < length c.args.value.now.items = (let whole : length c.args.value.now.items ≡ c.len.result = grind (arith, common_steps, c.len.ensures) in omega (arith, c.if-len.true, whole)) in vec_refused json_definitions json_shape (length c.args.value.now.items) (each_keys json_keys c.args.value.now.items) (list (each_meaning json_meaning c.args.value.now.items)) _ _ _ (long_run_refused json_definitions json_shape (length c.args.value.now.items) (each_keys json_keys c.args.value.now.items) (each_meaning json_meaning c.args.value.now.items) _ _ (each_planned json_definitions json_shape json_keys json_meaning json_planned c.args.value.now.items) long))

pub serialize_vec_json-returns-in-Err-clause-refused : goal.serialize_vec_json-returns-in-Err-clause-refused
serialize_vec_json-returns-in-Err-clause-refused g t c = vec_refused json_definitions json_shape (length c.args.value.now.items) (each_keys json_keys c.args.value.now.items) (list (each_meaning json_meaning c.args.value.now.items)) _ _ _ (run_owned json_definitions json_shape (length c.args.value.now.items) (each_keys json_keys c.args.value.now.items) (each_meaning json_meaning c.args.value.now.items) _ _ _ (rw c.as_slice-items.ensures.value at c.in-Err.ensures.refused))

pub serialize_vec_json-returns-in-Ok-serialize_run-clause-serialized : goal.serialize_vec_json-returns-in-Ok-serialize_run-clause-serialized
serialize_vec_json-returns-in-Ok-serialize_run-clause-serialized g t c = (rw c.as_slice-items.ensures.value at c.in-Ok-serialize_run.ensures.listed).since _ c.serialize_each_json.ensures.goes_on (rw c.as_slice-items.ensures.value at c.in-Ok.ensures.serialized)

pub serialize_vec_json-returns-in-Ok-serialize_run-clause-goes_on : goal.serialize_vec_json-returns-in-Ok-serialize_run-clause-goes_on
serialize_vec_json-returns-in-Ok-serialize_run-clause-goes_on g t c = (goes_both _ _ _ c.serialize_each_json.ensures.goes_on c.serialize_run.ensures.goes_on)

pub serialize_vec_json-returns-in-Err-serialize_run-clause-goes_on : goal.serialize_vec_json-returns-in-Err-serialize_run-clause-goes_on
serialize_vec_json-returns-in-Err-serialize_run-clause-goes_on g t c = (goes_both _ _ _ c.serialize_each_json.ensures.goes_on c.serialize_run.ensures.goes_on)

pub serialize_vec_json-returns-in-Err-serialize_run-clause-refused : goal.serialize_vec_json-returns-in-Err-serialize_run-clause-refused
serialize_vec_json-returns-in-Err-serialize_run-clause-refused g t c = (rw c.as_slice-items.ensures.value at c.in-Err-serialize_run.ensures.refused).since _ c.serialize_each_json.ensures.goes_on (rw c.as_slice-items.ensures.value at c.in-Ok.ensures.serialized)

pub serialize_each_member_type-returns-in_err-resolvers-clause-refused : goal.serialize_each_member_type-returns-in_err-resolvers-clause-refused
serialize_each_member_type-returns-in_err-resolvers-clause-refused g t c = err_by c.from_residual.result OutOfMemory _ c.from_residual.ensures.1 no_memory

pub serialize_each_member_type-returns-in-Err-clause-goes_on : goal.serialize_each_member_type-returns-in-Err-clause-goes_on
serialize_each_member_type-returns-in-Err-clause-goes_on g t c = goes_both _ _ _ c.loop-value.invariant.continues.goes c.serialize_member_type.ensures.goes_on

pub serialize_each_member_type-returns-in-Err-clause-refused : goal.serialize_each_member_type-returns-in-Err-clause-refused
serialize_each_member_type-returns-in-Err-clause-refused g t c = rw c.handed_on.ensures (continues_broken _ _ _ _ _ _ _ _ _ _ c.loop-value.value-index _ _ _ c.loop-value-test.true c.value-item.is member_type_planned c.loop-value.invariant.continues c.serialize_member_type.ensures.goes_on c.in-Err.ensures.refused)

pub serialize_each_member_type-loop-value-preserved : goal.serialize_each_member_type-loop-value-preserved
serialize_each_member_type-loop-value-preserved g t c = record { continues = continues_step _ _ _ _ _ _ _ _ _ _ c.loop-value.value-index _ _ _ _ c.loop-value-test.true c.value-item.is (grind (arith, common_steps)) c.loop-value.invariant.continues c.in-Ok.ensures.serialized c.in-Ok.ensures.same_value c.serialize_member_type.ensures.goes_on; reserved = (grind (arith, common_steps, c.loop-value.invariant.reserved.0), grind (arith, common_steps, c.loop-value.invariant.reserved.1)) }

pub serialize_each_member_type-returns-clause-serialized : goal.serialize_each_member_type-returns-clause-serialized
serialize_each_member_type-returns-clause-serialized g t c = continues_end _ _ _ _ _ _ _ _ _ _ _ (drop_of_length-le _ c.loop-value-test.false) c.loop-value.invariant.continues

pub serialize_each_member_type-returns-clause-same_values : goal.serialize_each_member_type-returns-clause-same_values
serialize_each_member_type-returns-clause-same_values g t c = belongs_end _ _ _ _ _ _ _ _ _ _ _ (drop_of_length-le _ c.loop-value-test.false) c.loop-value.invariant.continues

pub serialize_vec_member_type-returns-then-len-clause-refused : goal.serialize_vec_member_type-returns-then-len-clause-refused
serialize_vec_member_type-returns-then-len-clause-refused g t c = (let long : 4294967295 < length c.args.value.now.items = (let whole : length c.args.value.now.items ≡ c.len.result = grind (arith, common_steps, c.len.ensures) in omega (arith, c.if-len.true, whole)) in vec_refused json_definitions member_type_shape (length c.args.value.now.items) (each_keys member_type_keys c.args.value.now.items) (list (each_meaning member_type_meaning c.args.value.now.items)) _ _ _ (long_run_refused json_definitions member_type_shape (length c.args.value.now.items) (each_keys member_type_keys c.args.value.now.items) (each_meaning member_type_meaning c.args.value.now.items) _ _ (each_planned json_definitions member_type_shape member_type_keys member_type_meaning member_type_planned c.args.value.now.items) long))

pub serialize_vec_member_type-returns-in-Err-clause-refused : goal.serialize_vec_member_type-returns-in-Err-clause-refused
serialize_vec_member_type-returns-in-Err-clause-refused g t c = vec_refused json_definitions member_type_shape (length c.args.value.now.items) (each_keys member_type_keys c.args.value.now.items) (list (each_meaning member_type_meaning c.args.value.now.items)) _ _ _ (run_owned json_definitions member_type_shape (length c.args.value.now.items) (each_keys member_type_keys c.args.value.now.items) (each_meaning member_type_meaning c.args.value.now.items) _ _ _ (rw c.as_slice-items.ensures.value at c.in-Err.ensures.refused))

pub serialize_vec_member_type-returns-in-Ok-serialize_run-clause-serialized : goal.serialize_vec_member_type-returns-in-Ok-serialize_run-clause-serialized
serialize_vec_member_type-returns-in-Ok-serialize_run-clause-serialized g t c = (rw c.as_slice-items.ensures.value at c.in-Ok-serialize_run.ensures.listed).since _ c.serialize_each_member_type.ensures.goes_on (rw c.as_slice-items.ensures.value at c.in-Ok.ensures.serialized)

pub serialize_vec_member_type-returns-in-Ok-serialize_run-clause-goes_on : goal.serialize_vec_member_type-returns-in-Ok-serialize_run-clause-goes_on
serialize_vec_member_type-returns-in-Ok-serialize_run-clause-goes_on g t c = (goes_both _ _ _ c.serialize_each_member_type.ensures.goes_on c.serialize_run.ensures.goes_on)

pub serialize_vec_member_type-returns-in-Err-serialize_run-clause-goes_on : goal.serialize_vec_member_type-returns-in-Err-serialize_run-clause-goes_on
serialize_vec_member_type-returns-in-Err-serialize_run-clause-goes_on g t c = (goes_both _ _ _ c.serialize_each_member_type.ensures.goes_on c.serialize_run.ensures.goes_on)

pub serialize_vec_member_type-returns-in-Err-serialize_run-clause-refused : goal.serialize_vec_member_type-returns-in-Err-serialize_run-clause-refused
serialize_vec_member_type-returns-in-Err-serialize_run-clause-refused g t c = (rw c.as_slice-items.ensures.value at c.in-Err-serialize_run.ensures.refused).since _ c.serialize_each_member_type.ensures.goes_on (rw c.as_slice-items.ensures.value at c.in-Ok.ensures.serialized)

pub serialize_json_list-returns-in-Err-clause-refused : goal.serialize_json_list-returns-in-Err-clause-refused
serialize_json_list-returns-in-Err-clause-refused g t c = (variant_refused json_definitions json_shape json_name json_variant_definitions json_variants json_has_variants 3 json_list_parts refl json_list_definitions refl _ _ _ _ _ (first_refused json_definitions no_definition (vec json_shape) no_part (each_keys json_keys c.args.a0.now.items) [] (list (each_meaning json_meaning c.args.a0.now.items)) no_value _ _ _ no_part_planned c.in-Err.ensures.refused))

pub serialize_json_list-returns-clause-serialized : goal.serialize_json_list-returns-clause-serialized
serialize_json_list-returns-clause-serialized g t c = (serialized_variant json_definitions json_shape json_name json_variant_definitions json_variants json_has_variants 3 json_list_parts refl json_list_definitions refl _ _ _ _ _ (serialized_part json_definitions no_definition (vec json_shape) no_part (each_keys json_keys c.args.a0.now.items) [] (list (each_meaning json_meaning c.args.a0.now.items)) no_value _ _ _ _ _ c.in-Ok.ensures.serialized (serialized_no_part no_definition _)))

pub serialize_json_object-returns-in-Err-clause-refused : goal.serialize_json_object-returns-in-Err-clause-refused
serialize_json_object-returns-in-Err-clause-refused g t c = (variant_refused json_definitions json_shape json_name json_variant_definitions json_variants json_has_variants 4 json_object_parts refl json_object_definitions refl _ _ _ _ _ (first_refused json_definitions no_definition (vec member_type_shape) no_part (each_keys member_type_keys c.args.a0.now.items) [] (list (each_meaning member_type_meaning c.args.a0.now.items)) no_value _ _ _ no_part_planned c.in-Err.ensures.refused))

pub serialize_json_object-returns-clause-serialized : goal.serialize_json_object-returns-clause-serialized
serialize_json_object-returns-clause-serialized g t c = (serialized_variant json_definitions json_shape json_name json_variant_definitions json_variants json_has_variants 4 json_object_parts refl json_object_definitions refl _ _ _ _ _ (serialized_part json_definitions no_definition (vec member_type_shape) no_part (each_keys member_type_keys c.args.a0.now.items) [] (list (each_meaning member_type_meaning c.args.a0.now.items)) no_value _ _ _ _ _ c.in-Ok.ensures.serialized (serialized_no_part no_definition _)))

pub serialize_whole_json-returns-in-Null-clause-serialized : goal.serialize_whole_json-returns-in-Null-clause-serialized
serialize_whole_json-returns-in-Null-clause-serialized g t c = rw c.in-Null.is (written_as json_null_has_keys json_null_means (rw json_null_opens refl) (serialized_variant json_definitions json_shape json_name json_variant_definitions json_variants json_has_variants 0 json_null_parts refl json_null_definitions refl _ _ _ _ _ (serialized_no_part no_definition _)))

pub serialize_whole_json-returns-in-Null-clause-goes_on : goal.serialize_whole_json-returns-in-Null-clause-goes_on
serialize_whole_json-returns-in-Null-clause-goes_on g t c = goes_nowhere _

pub serialize_whole_json-returns-in-Ok-clause-serialized : goal.serialize_whole_json-returns-in-Ok-clause-serialized
serialize_whole_json-returns-in-Ok-clause-serialized g t c = rw c.in-Number.is (written_as (json_number_has_keys c.in-Number.a0) (json_number_means c.in-Number.a0) (rw (json_number_opens c.in-Number.a0) refl) c.in-Ok.ensures.serialized)

pub serialize_whole_json-returns-in-Ok-clause-same_value : goal.serialize_whole_json-returns-in-Ok-clause-same_value
serialize_whole_json-returns-in-Ok-clause-same_value g t c = rw (c.in-Number.is, json_number_opens c.in-Number.a0) c.in-Ok.ensures.same_values

pub serialize_whole_json-returns-in-Err-clause-refused : goal.serialize_whole_json-returns-in-Err-clause-refused
serialize_whole_json-returns-in-Err-clause-refused g t c = rw c.in-Number.is (refused_as (json_number_has_keys c.in-Number.a0) (json_number_means c.in-Number.a0) c.in-Err.ensures.refused)

pub serialize_whole_json-returns-in-Ok-serialize_json_text-clause-serialized : goal.serialize_whole_json-returns-in-Ok-serialize_json_text-clause-serialized
serialize_whole_json-returns-in-Ok-serialize_json_text-clause-serialized g t c = rw c.in-Text.is (written_as (json_text_has_keys c.in-Text.a0) (json_text_means c.in-Text.a0) (rw (json_text_opens c.in-Text.a0) refl) c.in-Ok-serialize_json_text.ensures.serialized)

pub serialize_whole_json-returns-in-Ok-serialize_json_text-clause-same_value : goal.serialize_whole_json-returns-in-Ok-serialize_json_text-clause-same_value
serialize_whole_json-returns-in-Ok-serialize_json_text-clause-same_value g t c = rw (c.in-Text.is, json_text_opens c.in-Text.a0) c.in-Ok-serialize_json_text.ensures.same_values

pub serialize_whole_json-returns-in-Err-serialize_json_text-clause-refused : goal.serialize_whole_json-returns-in-Err-serialize_json_text-clause-refused
serialize_whole_json-returns-in-Err-serialize_json_text-clause-refused g t c = rw c.in-Text.is (refused_as (json_text_has_keys c.in-Text.a0) (json_text_means c.in-Text.a0) c.in-Err-serialize_json_text.ensures.refused)

pub serialize_whole_json-returns-in-Ok-serialize_json_list-clause-serialized : goal.serialize_whole_json-returns-in-Ok-serialize_json_list-clause-serialized
serialize_whole_json-returns-in-Ok-serialize_json_list-clause-serialized g t c = rw c.in-List.is (written_as (json_list_has_keys c.in-List.a0) (json_list_means c.in-List.a0) (rw (json_list_opens c.in-List.a0) refl) c.in-Ok-serialize_json_list.ensures.serialized)

pub serialize_whole_json-returns-in-Ok-serialize_json_list-clause-same_value : goal.serialize_whole_json-returns-in-Ok-serialize_json_list-clause-same_value
serialize_whole_json-returns-in-Ok-serialize_json_list-clause-same_value g t c = rw (c.in-List.is, json_list_opens c.in-List.a0) c.in-Ok-serialize_json_list.ensures.same_values

pub serialize_whole_json-returns-in-Err-serialize_json_list-clause-refused : goal.serialize_whole_json-returns-in-Err-serialize_json_list-clause-refused
serialize_whole_json-returns-in-Err-serialize_json_list-clause-refused g t c = rw c.in-List.is (refused_as (json_list_has_keys c.in-List.a0) (json_list_means c.in-List.a0) c.in-Err-serialize_json_list.ensures.refused)

pub serialize_whole_json-returns-in-Ok-serialize_json_object-clause-serialized : goal.serialize_whole_json-returns-in-Ok-serialize_json_object-clause-serialized
serialize_whole_json-returns-in-Ok-serialize_json_object-clause-serialized g t c = rw c.in-Object.is (written_as (json_object_has_keys c.in-Object.a0) (json_object_means c.in-Object.a0) (rw (json_object_opens c.in-Object.a0) refl) c.in-Ok-serialize_json_object.ensures.serialized)

pub serialize_whole_json-returns-in-Ok-serialize_json_object-clause-same_value : goal.serialize_whole_json-returns-in-Ok-serialize_json_object-clause-same_value
serialize_whole_json-returns-in-Ok-serialize_json_object-clause-same_value g t c = rw (c.in-Object.is, json_object_opens c.in-Object.a0) c.in-Ok-serialize_json_object.ensures.same_values

pub serialize_whole_json-returns-in-Err-serialize_json_object-clause-refused : goal.serialize_whole_json-returns-in-Err-serialize_json_object-clause-refused
serialize_whole_json-returns-in-Err-serialize_json_object-clause-refused g t c = rw c.in-Object.is (refused_as (json_object_has_keys c.in-Object.a0) (json_object_means c.in-Object.a0) c.in-Err-serialize_json_object.ensures.refused)

pub serialize_whole_member_type-returns-in-Err-clause-refused : goal.serialize_whole_member_type-returns-in-Err-clause-refused
serialize_whole_member_type-returns-in-Err-clause-refused g t c = (refused_as (member_type_has_keys c.args.value.now) (member_type_means c.args.value.now) (record_refused member_type_definitions member_type_shape member_type_part_definitions member_type_parts member_type_has_parts _ _ _ _ _ (first_refused no_definition (both member_type_definitions no_definition) str (part json_shape no_part) [] ((json_keys (out-Member c.args.value.now).value) ++ []) (text_value (string_bytes (out-Member c.args.value.now).name)) (value (json_meaning (out-Member c.args.value.now).value) no_value) _ _ _ (part_planned member_type_definitions json_shape (json_keys (out-Member c.args.value.now).value) (json_meaning (out-Member c.args.value.now).value) (json_planned (out-Member c.args.value.now).value) no_part_planned) c.in-Err.ensures.refused)))

pub serialize_whole_member_type-returns-in-Err-serialize_json-clause-refused : goal.serialize_whole_member_type-returns-in-Err-serialize_json-clause-refused
serialize_whole_member_type-returns-in-Err-serialize_json-clause-refused g t c = rw c.handed_on.ensures (refused_as (member_type_has_keys c.args.value.now) (member_type_means c.args.value.now) (record_refused member_type_definitions member_type_shape member_type_part_definitions member_type_parts member_type_has_parts _ _ _ _ _ (later_refused no_definition (both member_type_definitions no_definition) str (part json_shape no_part) [] ((json_keys (out-Member c.args.value.now).value) ++ []) (text_value (string_bytes (out-Member c.args.value.now).name)) (value (json_meaning (out-Member c.args.value.now).value) no_value) _ _ _ _ _ c.in-Ok.ensures.serialized c.serialize_part.ensures.goes_on c.serialize_json.ensures.goes_on (first_refused member_type_definitions no_definition json_shape no_part (json_keys (out-Member c.args.value.now).value) [] (json_meaning (out-Member c.args.value.now).value) no_value _ _ _ no_part_planned c.in-Err-serialize_json.ensures.refused))))

pub serialize_whole_member_type-returns-in-Err-serialize_json-clause-goes_on : goal.serialize_whole_member_type-returns-in-Err-serialize_json-clause-goes_on
serialize_whole_member_type-returns-in-Err-serialize_json-clause-goes_on g t c = (goes_both _ _ _ c.serialize_part.ensures.goes_on c.serialize_json.ensures.goes_on)

pub serialize_whole_member_type-returns-clause-serialized : goal.serialize_whole_member_type-returns-clause-serialized
serialize_whole_member_type-returns-clause-serialized g t c = (written_as (member_type_has_keys c.args.value.now) (member_type_means c.args.value.now) refl (serialized_record member_type_definitions member_type_shape member_type_part_definitions member_type_parts member_type_has_parts _ _ _ _ _ (serialized_part no_definition (both member_type_definitions no_definition) str (part json_shape no_part) [] ((json_keys (out-Member c.args.value.now).value) ++ []) (text_value (string_bytes (out-Member c.args.value.now).name)) (value (json_meaning (out-Member c.args.value.now).value) no_value) _ _ _ _ _ c.in-Ok.ensures.serialized (serialized_part member_type_definitions no_definition json_shape no_part (json_keys (out-Member c.args.value.now).value) [] (json_meaning (out-Member c.args.value.now).value) no_value _ _ _ _ _ c.in-Ok-serialize_json.ensures.serialized (serialized_no_part no_definition _)))))

pub serialize_whole_member_type-returns-clause-goes_on : goal.serialize_whole_member_type-returns-clause-goes_on
serialize_whole_member_type-returns-clause-goes_on g t c = (goes_both _ _ _ c.serialize_part.ensures.goes_on c.serialize_json.ensures.goes_on)
