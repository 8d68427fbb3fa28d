-- Written by tools/derive: change the declaration, and run it again.
use Rattle.archive_core.proofs.Causes.{err_by, goes_both, goes_nowhere}
use Rattle.archive_core.proofs.PlannedMaps.{long_map_refused, map_refused}
use Rattle.archive_core.proofs.PlannedParts.{serialized_no_part, serialized_part, serialized_record, record_refused, first_refused, later_refused}
use Rattle.archive_core.proofs.RunRegions.{run_owned}
use Rattle.archive_core.proofs.Runs.{continues_start, continues_end, belongs_end}
use Rattle.archive_core.proofs.recursive.MapsHeld.{taken_written, taken_refused}
use Rattle.archive_core.specs.Causes.{no_memory}
use Rattle.archive_core.specs.Definitions.{both, no_definition}
use Rattle.archive_core.specs.Error.TheVariants.{OutOfMemory}
use Rattle.archive_core.specs.Held.{written_as, refused_as}
use Rattle.archive_core.specs.PartsPlanned.{part_planned, no_part_planned, product_planned}
use Rattle.archive_core.specs.Planned.{string_planned}
use Rattle.archive_core.specs.PlannedMaps.{map_planned}
use Rattle.archive_core.specs.PlannedOwners.{slice_planned, each_planned}
use Rattle.archive_core.specs.Runs.{each_keys, each_meaning}
use Rattle.archive_core.specs.Shape.{sorted_map, str, leaf, unsigned, str_key, part, no_part, number as number_kind}
use Rattle.archive_core.specs.Value.{product, list, number, value, no_value, text_value}
use Rattle.recursive_fields.specs.FolderMeaning.{folder_meaning, folder_keys, folder_planned, folder_means, folder_has_keys}
use Rattle.recursive_fields.specs.FolderShape.{folder_shape, folder_definitions, pair_string_folder_shape, pair_string_folder_parts, pair_string_folder_definitions, pair_string_folder_has_parts, folder_parts, folder_part_definitions, folder_has_parts}
use Rattle.recursive_fields.specs.declared.folder.Folder.{out-Folder}
use Rattle.std.proofs.Common.{◌≡◌, ◌<◌, ◌++◌, ◌∷◌, [], length, refl, arith, pos, string_bytes}
use Rattle.std.proofs.lemmas.Grind.{common_steps}
use Rattle.std.specs.Int.{w8}
use Rattle.std.specs.Prelude.{[], ◌++◌, ◌≡◌, refl, pos, length, string_bytes}
use Rattle.recursive_fields.proofs.folder.+serialize_folder.Goals as goal

pub serialize_entries_map_string_folder-returns-in_err-resolvers-clause-goes_on : goal.serialize_entries_map_string_folder-returns-in_err-resolvers-clause-goes_on
serialize_entries_map_string_folder-returns-in_err-resolvers-clause-goes_on g t c = goes_nowhere _

pub serialize_entries_map_string_folder-returns-in_err-resolvers-clause-refused : goal.serialize_entries_map_string_folder-returns-in_err-resolvers-clause-refused
serialize_entries_map_string_folder-returns-in_err-resolvers-clause-refused g t c = err_by c.from_residual.result OutOfMemory _ c.from_residual.ensures.1 no_memory

pub serialize_entries_map_string_folder-loop-key-init : goal.serialize_entries_map_string_folder-loop-key-init
serialize_entries_map_string_folder-loop-key-init g t c = (let gives : c.into_iter-key-iterator.result ≡ c.args.values.now.entries = grind (arith, common_steps, c.into_iter-key-iterator.ensures) in let none : c.in_ok-resolvers.resolvers.items ≡ [] = grind (arith, common_steps) in record { continues = rw (gives, none) (continues_start _ _ _ _ _ _ _ _) })

pub serialize_entries_map_string_folder-returns-in-Err-clause-goes_on : goal.serialize_entries_map_string_folder-returns-in-Err-clause-goes_on
serialize_entries_map_string_folder-returns-in-Err-clause-goes_on g t c = goes_both _ _ _ c.loop-key.invariant.continues.goes c.serialize_part.ensures.goes_on

pub serialize_entries_map_string_folder-returns-in-Err-clause-refused : goal.serialize_entries_map_string_folder-returns-in-Err-clause-refused
serialize_entries_map_string_folder-returns-in-Err-clause-refused g t c = (let taken = c.in-Some.ensures.steps in taken_refused _ _ _ _ _ _ _ _ _ _ _ _ _ _ (λ y. (product_planned _ _ _ _ (part_planned no_definition str [] (text_value (string_bytes y.0)) (string_planned no_definition [] (string_bytes y.0)) (part_planned folder_definitions folder_shape (folder_keys y.1) (folder_meaning y.1) (folder_planned y.1) no_part_planned)))) (rw taken at c.loop-key.invariant.continues) c.serialize_part.ensures.goes_on (record_refused pair_string_folder_definitions pair_string_folder_shape pair_string_folder_definitions pair_string_folder_parts pair_string_folder_has_parts _ _ _ _ _ (first_refused no_definition (both folder_definitions no_definition) str (part folder_shape no_part) [] ((folder_keys c.in-Some.value.now) ++ []) (text_value (string_bytes c.in-Some.key.now)) (value (folder_meaning c.in-Some.value.now) no_value) _ _ _ (part_planned folder_definitions folder_shape (folder_keys c.in-Some.value.now) (folder_meaning c.in-Some.value.now) (folder_planned c.in-Some.value.now) no_part_planned) c.in-Err.ensures.refused)))

pub serialize_entries_map_string_folder-returns-in-Err-serialize_folder-clause-goes_on : goal.serialize_entries_map_string_folder-returns-in-Err-serialize_folder-clause-goes_on
serialize_entries_map_string_folder-returns-in-Err-serialize_folder-clause-goes_on g t c = goes_both _ _ _ c.loop-key.invariant.continues.goes (goes_both _ _ _ c.serialize_part.ensures.goes_on c.serialize_folder.ensures.goes_on)

pub serialize_entries_map_string_folder-returns-in-Err-serialize_folder-clause-refused : goal.serialize_entries_map_string_folder-returns-in-Err-serialize_folder-clause-refused
serialize_entries_map_string_folder-returns-in-Err-serialize_folder-clause-refused g t c = rw c.handed_on.ensures (let taken = c.in-Some.ensures.steps in taken_refused _ _ _ _ _ _ _ _ _ _ _ _ _ _ (λ y. (product_planned _ _ _ _ (part_planned no_definition str [] (text_value (string_bytes y.0)) (string_planned no_definition [] (string_bytes y.0)) (part_planned folder_definitions folder_shape (folder_keys y.1) (folder_meaning y.1) (folder_planned y.1) no_part_planned)))) (rw taken at c.loop-key.invariant.continues) (goes_both _ _ _ c.serialize_part.ensures.goes_on c.serialize_folder.ensures.goes_on) (record_refused pair_string_folder_definitions pair_string_folder_shape pair_string_folder_definitions pair_string_folder_parts pair_string_folder_has_parts _ _ _ _ _ (later_refused no_definition (both folder_definitions no_definition) str (part folder_shape no_part) [] ((folder_keys c.in-Some.value.now) ++ []) (text_value (string_bytes c.in-Some.key.now)) (value (folder_meaning c.in-Some.value.now) no_value) _ _ _ _ _ c.in-Ok.ensures.serialized c.serialize_part.ensures.goes_on c.serialize_folder.ensures.goes_on (first_refused folder_definitions no_definition folder_shape no_part (folder_keys c.in-Some.value.now) [] (folder_meaning c.in-Some.value.now) no_value _ _ _ no_part_planned c.in-Err-serialize_folder.ensures.refused))))

pub serialize_entries_map_string_folder-returns-in_err-map_err-clause-goes_on : goal.serialize_entries_map_string_folder-returns-in_err-map_err-clause-goes_on
serialize_entries_map_string_folder-returns-in_err-map_err-clause-goes_on g t c = goes_both _ _ _ c.loop-key.invariant.continues.goes (goes_both _ _ _ c.serialize_part.ensures.goes_on c.serialize_folder.ensures.goes_on)

pub serialize_entries_map_string_folder-returns-in_err-map_err-clause-refused : goal.serialize_entries_map_string_folder-returns-in_err-map_err-clause-refused
serialize_entries_map_string_folder-returns-in_err-map_err-clause-refused g t c = err_by c.from_residual-in_err-map_err.result OutOfMemory _ c.from_residual-in_err-map_err.ensures.1 no_memory

pub serialize_entries_map_string_folder-loop-key-preserved : goal.serialize_entries_map_string_folder-loop-key-preserved
serialize_entries_map_string_folder-loop-key-preserved g t c = (let taken = c.in-Some.ensures.steps in let pushed : c.push.new.self.items ≡ c.loop-key.resolvers.items ++ (c.in-Ok.a0, (c.in-Ok-serialize_folder.a1, tt)) ∷ [] = grind (arith, common_steps) in record { continues = rw pushed (taken_written _ _ _ _ _ _ _ _ _ _ _ _ _ (c.in-Ok.a0, (c.in-Ok-serialize_folder.a1, tt)) (rw taken at c.loop-key.invariant.continues) (serialized_record pair_string_folder_definitions pair_string_folder_shape pair_string_folder_definitions pair_string_folder_parts pair_string_folder_has_parts _ _ _ _ _ (serialized_part no_definition (both folder_definitions no_definition) str (part folder_shape no_part) [] ((folder_keys c.in-Some.value.now) ++ []) (text_value (string_bytes c.in-Some.key.now)) (value (folder_meaning c.in-Some.value.now) no_value) _ _ _ _ _ c.in-Ok.ensures.serialized (serialized_part folder_definitions no_definition folder_shape no_part (folder_keys c.in-Some.value.now) [] (folder_meaning c.in-Some.value.now) no_value _ _ _ _ _ c.in-Ok-serialize_folder.ensures.serialized (serialized_no_part no_definition _)))) (c.in-Ok.ensures.same_value, (c.in-Ok-serialize_folder.ensures.same_value, tt)) (goes_both _ _ _ c.serialize_part.ensures.goes_on c.serialize_folder.ensures.goes_on)) })

pub serialize_entries_map_string_folder-returns-clause-serialized : goal.serialize_entries_map_string_folder-returns-clause-serialized
serialize_entries_map_string_folder-returns-clause-serialized g t c = continues_end _ _ _ _ _ _ _ _ _ _ _ c.in-None.ensures.steps.0 c.loop-key.invariant.continues

pub serialize_entries_map_string_folder-returns-clause-same_values : goal.serialize_entries_map_string_folder-returns-clause-same_values
serialize_entries_map_string_folder-returns-clause-same_values g t c = belongs_end _ _ _ _ _ _ _ _ _ _ _ c.in-None.ensures.steps.0 c.loop-key.invariant.continues

pub serialize_map_string_folder-returns-then-len-clause-refused : goal.serialize_map_string_folder-returns-then-len-clause-refused
serialize_map_string_folder-returns-then-len-clause-refused g t c = (let long : 4294967295 < length c.args.value.now.entries = (let whole : length c.args.value.now.entries ≡ c.len.result = grind (arith, common_steps, c.len.ensures) in omega (arith, c.if-len.true, whole)) in long_map_refused pair_string_folder_definitions str_key folder_shape pair_string_folder_shape refl (length c.args.value.now.entries) (each_keys (λ y. ([] ++ ((folder_keys y.1) ++ []))) c.args.value.now.entries) (each_meaning (λ y. (product (value (text_value (string_bytes y.0)) (value (folder_meaning y.1) no_value)))) c.args.value.now.entries) _ _ (each_planned pair_string_folder_definitions pair_string_folder_shape (λ y. ([] ++ ((folder_keys y.1) ++ []))) (λ y. (product (value (text_value (string_bytes y.0)) (value (folder_meaning y.1) no_value)))) (λ y. (product_planned _ _ _ _ (part_planned no_definition str [] (text_value (string_bytes y.0)) (string_planned no_definition [] (string_bytes y.0)) (part_planned folder_definitions folder_shape (folder_keys y.1) (folder_meaning y.1) (folder_planned y.1) no_part_planned)))) c.args.value.now.entries) long)

pub serialize_map_string_folder-returns-in-Err-clause-refused : goal.serialize_map_string_folder-returns-in-Err-clause-refused
serialize_map_string_folder-returns-in-Err-clause-refused g t c = map_refused pair_string_folder_definitions str_key folder_shape pair_string_folder_shape refl (length c.args.value.now.entries) (each_keys (λ y. ([] ++ ((folder_keys y.1) ++ []))) c.args.value.now.entries) (each_meaning (λ y. (product (value (text_value (string_bytes y.0)) (value (folder_meaning y.1) no_value)))) c.args.value.now.entries) _ _ _ (run_owned pair_string_folder_definitions pair_string_folder_shape (length c.args.value.now.entries) (each_keys (λ y. ([] ++ ((folder_keys y.1) ++ []))) c.args.value.now.entries) (each_meaning (λ y. (product (value (text_value (string_bytes y.0)) (value (folder_meaning y.1) no_value)))) c.args.value.now.entries) _ _ _ c.in-Err.ensures.refused)

pub serialize_map_string_folder-returns-in-Ok-serialize_inner_map-clause-serialized : goal.serialize_map_string_folder-returns-in-Ok-serialize_inner_map-clause-serialized
serialize_map_string_folder-returns-in-Ok-serialize_inner_map-clause-serialized g t c = c.in-Ok-serialize_inner_map.ensures.mapped.since _ c.serialize_entries_map_string_folder.ensures.goes_on c.in-Ok.ensures.serialized

pub serialize_map_string_folder-returns-in-Ok-serialize_inner_map-clause-goes_on : goal.serialize_map_string_folder-returns-in-Ok-serialize_inner_map-clause-goes_on
serialize_map_string_folder-returns-in-Ok-serialize_inner_map-clause-goes_on g t c = (goes_both _ _ _ c.serialize_entries_map_string_folder.ensures.goes_on c.serialize_inner_map.ensures.goes_on)

pub serialize_map_string_folder-returns-in-Err-serialize_inner_map-clause-goes_on : goal.serialize_map_string_folder-returns-in-Err-serialize_inner_map-clause-goes_on
serialize_map_string_folder-returns-in-Err-serialize_inner_map-clause-goes_on g t c = (goes_both _ _ _ c.serialize_entries_map_string_folder.ensures.goes_on c.serialize_inner_map.ensures.goes_on)

pub serialize_map_string_folder-returns-in-Err-serialize_inner_map-clause-refused : goal.serialize_map_string_folder-returns-in-Err-serialize_inner_map-clause-refused
serialize_map_string_folder-returns-in-Err-serialize_inner_map-clause-refused g t c = c.in-Err-serialize_inner_map.ensures.refused.since _ c.serialize_entries_map_string_folder.ensures.goes_on c.in-Ok.ensures.serialized

pub serialize_whole_folder-returns-in-Err-clause-refused : goal.serialize_whole_folder-returns-in-Err-clause-refused
serialize_whole_folder-returns-in-Err-clause-refused g t c = (refused_as (folder_has_keys c.args.value.now) (folder_means c.args.value.now) (record_refused folder_definitions folder_shape folder_part_definitions folder_parts folder_has_parts _ _ _ _ _ (first_refused no_definition (both pair_string_folder_definitions no_definition) (leaf (number_kind unsigned w8)) (part (sorted_map str_key folder_shape) no_part) [] ((each_keys (λ y. ([] ++ ((folder_keys y.1) ++ []))) (out-Folder c.args.value.now).entries.entries) ++ []) (number (pos (out-Folder c.args.value.now).id)) (value (list (each_meaning (λ y. (product (value (text_value (string_bytes y.0)) (value (folder_meaning y.1) no_value)))) (out-Folder c.args.value.now).entries.entries)) no_value) _ _ _ (part_planned pair_string_folder_definitions (sorted_map str_key folder_shape) (each_keys (λ y. ([] ++ ((folder_keys y.1) ++ []))) (out-Folder c.args.value.now).entries.entries) (list (each_meaning (λ y. (product (value (text_value (string_bytes y.0)) (value (folder_meaning y.1) no_value)))) (out-Folder c.args.value.now).entries.entries)) (map_planned pair_string_folder_definitions str_key folder_shape _ _ _ (slice_planned pair_string_folder_definitions pair_string_folder_shape (λ y. ([] ++ ((folder_keys y.1) ++ []))) (λ y. (product (value (text_value (string_bytes y.0)) (value (folder_meaning y.1) no_value)))) (λ y. (product_planned _ _ _ _ (part_planned no_definition str [] (text_value (string_bytes y.0)) (string_planned no_definition [] (string_bytes y.0)) (part_planned folder_definitions folder_shape (folder_keys y.1) (folder_meaning y.1) (folder_planned y.1) no_part_planned)))) (out-Folder c.args.value.now).entries.entries)) no_part_planned) c.in-Err.ensures.refused)))

pub serialize_whole_folder-returns-in-Err-serialize_map_string_folder-clause-refused : goal.serialize_whole_folder-returns-in-Err-serialize_map_string_folder-clause-refused
serialize_whole_folder-returns-in-Err-serialize_map_string_folder-clause-refused g t c = rw c.handed_on.ensures (refused_as (folder_has_keys c.args.value.now) (folder_means c.args.value.now) (record_refused folder_definitions folder_shape folder_part_definitions folder_parts folder_has_parts _ _ _ _ _ (later_refused no_definition (both pair_string_folder_definitions no_definition) (leaf (number_kind unsigned w8)) (part (sorted_map str_key folder_shape) no_part) [] ((each_keys (λ y. ([] ++ ((folder_keys y.1) ++ []))) (out-Folder c.args.value.now).entries.entries) ++ []) (number (pos (out-Folder c.args.value.now).id)) (value (list (each_meaning (λ y. (product (value (text_value (string_bytes y.0)) (value (folder_meaning y.1) no_value)))) (out-Folder c.args.value.now).entries.entries)) no_value) _ _ _ _ _ c.in-Ok.ensures.serialized c.serialize_part.ensures.goes_on c.serialize_map_string_folder.ensures.goes_on (first_refused pair_string_folder_definitions no_definition (sorted_map str_key folder_shape) no_part (each_keys (λ y. ([] ++ ((folder_keys y.1) ++ []))) (out-Folder c.args.value.now).entries.entries) [] (list (each_meaning (λ y. (product (value (text_value (string_bytes y.0)) (value (folder_meaning y.1) no_value)))) (out-Folder c.args.value.now).entries.entries)) no_value _ _ _ no_part_planned c.in-Err-serialize_map_string_folder.ensures.refused))))

pub serialize_whole_folder-returns-in-Err-serialize_map_string_folder-clause-goes_on : goal.serialize_whole_folder-returns-in-Err-serialize_map_string_folder-clause-goes_on
serialize_whole_folder-returns-in-Err-serialize_map_string_folder-clause-goes_on g t c = (goes_both _ _ _ c.serialize_part.ensures.goes_on c.serialize_map_string_folder.ensures.goes_on)

pub serialize_whole_folder-returns-clause-serialized : goal.serialize_whole_folder-returns-clause-serialized
serialize_whole_folder-returns-clause-serialized g t c = (written_as (folder_has_keys c.args.value.now) (folder_means c.args.value.now) refl (serialized_record folder_definitions folder_shape folder_part_definitions folder_parts folder_has_parts _ _ _ _ _ (serialized_part no_definition (both pair_string_folder_definitions no_definition) (leaf (number_kind unsigned w8)) (part (sorted_map str_key folder_shape) no_part) [] ((each_keys (λ y. ([] ++ ((folder_keys y.1) ++ []))) (out-Folder c.args.value.now).entries.entries) ++ []) (number (pos (out-Folder c.args.value.now).id)) (value (list (each_meaning (λ y. (product (value (text_value (string_bytes y.0)) (value (folder_meaning y.1) no_value)))) (out-Folder c.args.value.now).entries.entries)) no_value) _ _ _ _ _ c.in-Ok.ensures.serialized (serialized_part pair_string_folder_definitions no_definition (sorted_map str_key folder_shape) no_part (each_keys (λ y. ([] ++ ((folder_keys y.1) ++ []))) (out-Folder c.args.value.now).entries.entries) [] (list (each_meaning (λ y. (product (value (text_value (string_bytes y.0)) (value (folder_meaning y.1) no_value)))) (out-Folder c.args.value.now).entries.entries)) no_value _ _ _ _ _ c.in-Ok-serialize_map_string_folder.ensures.serialized (serialized_no_part no_definition _)))))

pub serialize_whole_folder-returns-clause-goes_on : goal.serialize_whole_folder-returns-clause-goes_on
serialize_whole_folder-returns-clause-goes_on g t c = (goes_both _ _ _ c.serialize_part.ensures.goes_on c.serialize_map_string_folder.ensures.goes_on)
