-- Written by tools/derive: change the declaration, and run it again.
use Rattle.archive_core.proofs.Causes.{err_by, goes_both, goes_nowhere}
use Rattle.archive_core.proofs.OwnChoices.{serialized_variant, variant_refused}
use Rattle.archive_core.proofs.Owners.{box_refused, vec_refused}
use Rattle.archive_core.proofs.Planned.{one_owned}
use Rattle.archive_core.proofs.PlannedParts.{serialized_no_part, serialized_part, serialized_record, record_refused, first_refused, later_refused}
use Rattle.archive_core.proofs.RunRegions.{run_owned, long_run_refused}
use Rattle.archive_core.proofs.Runs.{continues_step, continues_broken, continues_end, belongs_end}
use Rattle.archive_core.specs.Causes.{no_memory}
use Rattle.archive_core.specs.Choices.{option_shape}
use Rattle.archive_core.specs.Definitions.{both, no_definition}
use Rattle.archive_core.specs.Error.TheVariants.{OutOfMemory}
use Rattle.archive_core.specs.Held.{written_as, refused_as}
use Rattle.archive_core.specs.Options.{option_keys, option_meaning, option_planned}
use Rattle.archive_core.specs.PartsPlanned.{part_planned, no_part_planned, product_planned}
use Rattle.archive_core.specs.Planned.{string_planned}
use Rattle.archive_core.specs.PlannedOwners.{boxed_one_planned, each_planned}
use Rattle.archive_core.specs.Runs.{each_keys, each_meaning}
use Rattle.archive_core.specs.Shape.{boxed, vec, str, one, part, no_part}
use Rattle.archive_core.specs.Value.{product, list, box, value, no_value, text_value}
use Rattle.recursive_fields.specs.NoteMeaning.{note_meaning, note_keys, note_planned, note_text_means, note_text_has_keys, note_text_opens, note_work_means, note_work_has_keys, note_work_opens, note_table_means, note_table_has_keys, note_table_opens, note_done_means, note_done_has_keys, note_done_opens, note_days_means, note_days_has_keys, note_days_opens, note_about_means, note_about_has_keys, note_about_opens, note_either_means, note_either_has_keys, note_either_opens, note_several_means, note_several_has_keys, note_several_opens}
use Rattle.recursive_fields.specs.NoteShape.{note_name, note_shape, note_definitions, tuple3_string_note_option_string_shape, tuple3_string_note_option_string_parts, tuple3_string_note_option_string_definitions, tuple3_string_note_option_string_has_parts, note_variants, note_variant_definitions, note_has_variants, note_table_parts, note_table_definitions, note_about_parts, note_about_definitions, note_either_parts, note_either_definitions, note_several_parts, note_several_definitions}
use Rattle.std.proofs.Common.{subst, sym, ◌≡◌, ◌<◌, ◌≤◌, ◌+◌, ◌*◌, ◌++◌, [], ℕ, List, get_or, length, refl, arith, string_bytes}
use Rattle.std.proofs.Math.ListN.{drop_of_length-le}
use Rattle.std.proofs.lemmas.Grind.{common_steps}
use Rattle.std.specs.Prelude.{ℕ, List, [], ◌++◌, ◌≡◌, ◌≤◌, refl, length, string_bytes}
use denote.Param.Weighed.{at_most, most}
use Rattle.recursive_fields.proofs.note.+serialize_note.Goals as goal

pub serialize_each_tuple3_string_note_option_string-returns-in_err-resolvers-clause-refused : goal.serialize_each_tuple3_string_note_option_string-returns-in_err-resolvers-clause-refused
serialize_each_tuple3_string_note_option_string-returns-in_err-resolvers-clause-refused g t c = err_by c.from_residual.result OutOfMemory _ c.from_residual.ensures.1 no_memory

pub serialize_each_tuple3_string_note_option_string-returns-in-Err-clause-goes_on : goal.serialize_each_tuple3_string_note_option_string-returns-in-Err-clause-goes_on
serialize_each_tuple3_string_note_option_string-returns-in-Err-clause-goes_on g t c = goes_both _ _ _ c.loop-value.invariant.continues.goes c.serialize_part.ensures.goes_on

pub serialize_each_tuple3_string_note_option_string-returns-in-Err-clause-refused : goal.serialize_each_tuple3_string_note_option_string-returns-in-Err-clause-refused
serialize_each_tuple3_string_note_option_string-returns-in-Err-clause-refused g t c = continues_broken _ _ _ _ _ _ _ _ _ _ c.loop-value.value-index _ _ _ c.loop-value-test.true c.value-item.is (λ y. (product_planned _ _ _ _ (part_planned no_definition str [] (text_value (string_bytes y.0)) (string_planned no_definition [] (string_bytes y.0)) (part_planned note_definitions note_shape (note_keys y.1) (note_meaning y.1) (note_planned y.1) (part_planned no_definition (option_shape str) (option_keys (λ y. []) y.2) (option_meaning (λ y. (text_value (string_bytes y))) y.2) (option_planned no_definition str (λ y. []) (λ y. (text_value (string_bytes y))) (λ y. (string_planned no_definition [] (string_bytes y))) y.2) no_part_planned))))) c.loop-value.invariant.continues c.serialize_part.ensures.goes_on (record_refused tuple3_string_note_option_string_definitions tuple3_string_note_option_string_shape tuple3_string_note_option_string_definitions tuple3_string_note_option_string_parts tuple3_string_note_option_string_has_parts _ _ _ _ _ (first_refused no_definition (both note_definitions (both no_definition no_definition)) str (part note_shape (part (option_shape str) no_part)) [] ((note_keys c.value-item.result.1) ++ ((option_keys (λ y. []) c.value-item.result.2) ++ [])) (text_value (string_bytes c.value-item.result.0)) (value (note_meaning c.value-item.result.1) (value (option_meaning (λ y. (text_value (string_bytes y))) c.value-item.result.2) no_value)) _ _ _ (part_planned note_definitions note_shape (note_keys c.value-item.result.1) (note_meaning c.value-item.result.1) (note_planned c.value-item.result.1) (part_planned no_definition (option_shape str) (option_keys (λ y. []) c.value-item.result.2) (option_meaning (λ y. (text_value (string_bytes y))) c.value-item.result.2) (option_planned no_definition str (λ y. []) (λ y. (text_value (string_bytes y))) (λ y. (string_planned no_definition [] (string_bytes y))) c.value-item.result.2) no_part_planned)) c.in-Err.ensures.refused))

pub serialize_each_tuple3_string_note_option_string-returns-in-Err-serialize_note-clause-goes_on : goal.serialize_each_tuple3_string_note_option_string-returns-in-Err-serialize_note-clause-goes_on
serialize_each_tuple3_string_note_option_string-returns-in-Err-serialize_note-clause-goes_on g t c = goes_both _ _ _ c.loop-value.invariant.continues.goes (goes_both _ _ _ c.serialize_part.ensures.goes_on c.serialize_note.ensures.goes_on)

pub serialize_each_tuple3_string_note_option_string-returns-in-Err-serialize_note-clause-refused : goal.serialize_each_tuple3_string_note_option_string-returns-in-Err-serialize_note-clause-refused
serialize_each_tuple3_string_note_option_string-returns-in-Err-serialize_note-clause-refused g t c = rw c.handed_on.ensures (continues_broken _ _ _ _ _ _ _ _ _ _ c.loop-value.value-index _ _ _ c.loop-value-test.true c.value-item.is (λ y. (product_planned _ _ _ _ (part_planned no_definition str [] (text_value (string_bytes y.0)) (string_planned no_definition [] (string_bytes y.0)) (part_planned note_definitions note_shape (note_keys y.1) (note_meaning y.1) (note_planned y.1) (part_planned no_definition (option_shape str) (option_keys (λ y. []) y.2) (option_meaning (λ y. (text_value (string_bytes y))) y.2) (option_planned no_definition str (λ y. []) (λ y. (text_value (string_bytes y))) (λ y. (string_planned no_definition [] (string_bytes y))) y.2) no_part_planned))))) c.loop-value.invariant.continues (goes_both _ _ _ c.serialize_part.ensures.goes_on c.serialize_note.ensures.goes_on) (record_refused tuple3_string_note_option_string_definitions tuple3_string_note_option_string_shape tuple3_string_note_option_string_definitions tuple3_string_note_option_string_parts tuple3_string_note_option_string_has_parts _ _ _ _ _ (later_refused no_definition (both note_definitions (both no_definition no_definition)) str (part note_shape (part (option_shape str) no_part)) [] ((note_keys c.value-item.result.1) ++ ((option_keys (λ y. []) c.value-item.result.2) ++ [])) (text_value (string_bytes c.value-item.result.0)) (value (note_meaning c.value-item.result.1) (value (option_meaning (λ y. (text_value (string_bytes y))) c.value-item.result.2) no_value)) _ _ _ _ _ c.in-Ok.ensures.serialized c.serialize_part.ensures.goes_on c.serialize_note.ensures.goes_on (first_refused note_definitions (both no_definition no_definition) note_shape (part (option_shape str) no_part) (note_keys c.value-item.result.1) ((option_keys (λ y. []) c.value-item.result.2) ++ []) (note_meaning c.value-item.result.1) (value (option_meaning (λ y. (text_value (string_bytes y))) c.value-item.result.2) no_value) _ _ _ (part_planned no_definition (option_shape str) (option_keys (λ y. []) c.value-item.result.2) (option_meaning (λ y. (text_value (string_bytes y))) c.value-item.result.2) (option_planned no_definition str (λ y. []) (λ y. (text_value (string_bytes y))) (λ y. (string_planned no_definition [] (string_bytes y))) c.value-item.result.2) no_part_planned) c.in-Err-serialize_note.ensures.refused))))

pub serialize_each_tuple3_string_note_option_string-returns-in-Err-serialize_part-clause-goes_on : goal.serialize_each_tuple3_string_note_option_string-returns-in-Err-serialize_part-clause-goes_on
serialize_each_tuple3_string_note_option_string-returns-in-Err-serialize_part-clause-goes_on g t c = goes_both _ _ _ c.loop-value.invariant.continues.goes (goes_both _ _ _ (goes_both _ _ _ c.serialize_part.ensures.goes_on c.serialize_note.ensures.goes_on) c.serialize_part-in-loop-value.ensures.goes_on)

pub serialize_each_tuple3_string_note_option_string-returns-in-Err-serialize_part-clause-refused : goal.serialize_each_tuple3_string_note_option_string-returns-in-Err-serialize_part-clause-refused
serialize_each_tuple3_string_note_option_string-returns-in-Err-serialize_part-clause-refused g t c = continues_broken _ _ _ _ _ _ _ _ _ _ c.loop-value.value-index _ _ _ c.loop-value-test.true c.value-item.is (λ y. (product_planned _ _ _ _ (part_planned no_definition str [] (text_value (string_bytes y.0)) (string_planned no_definition [] (string_bytes y.0)) (part_planned note_definitions note_shape (note_keys y.1) (note_meaning y.1) (note_planned y.1) (part_planned no_definition (option_shape str) (option_keys (λ y. []) y.2) (option_meaning (λ y. (text_value (string_bytes y))) y.2) (option_planned no_definition str (λ y. []) (λ y. (text_value (string_bytes y))) (λ y. (string_planned no_definition [] (string_bytes y))) y.2) no_part_planned))))) c.loop-value.invariant.continues (goes_both _ _ _ (goes_both _ _ _ c.serialize_part.ensures.goes_on c.serialize_note.ensures.goes_on) c.serialize_part-in-loop-value.ensures.goes_on) (record_refused tuple3_string_note_option_string_definitions tuple3_string_note_option_string_shape tuple3_string_note_option_string_definitions tuple3_string_note_option_string_parts tuple3_string_note_option_string_has_parts _ _ _ _ _ (later_refused no_definition (both note_definitions (both no_definition no_definition)) str (part note_shape (part (option_shape str) no_part)) [] ((note_keys c.value-item.result.1) ++ ((option_keys (λ y. []) c.value-item.result.2) ++ [])) (text_value (string_bytes c.value-item.result.0)) (value (note_meaning c.value-item.result.1) (value (option_meaning (λ y. (text_value (string_bytes y))) c.value-item.result.2) no_value)) _ _ _ _ _ c.in-Ok.ensures.serialized c.serialize_part.ensures.goes_on (goes_both _ _ _ c.serialize_note.ensures.goes_on c.serialize_part-in-loop-value.ensures.goes_on) (later_refused note_definitions (both no_definition no_definition) note_shape (part (option_shape str) no_part) (note_keys c.value-item.result.1) ((option_keys (λ y. []) c.value-item.result.2) ++ []) (note_meaning c.value-item.result.1) (value (option_meaning (λ y. (text_value (string_bytes y))) c.value-item.result.2) no_value) _ _ _ _ _ c.in-Ok-serialize_note.ensures.serialized c.serialize_note.ensures.goes_on c.serialize_part-in-loop-value.ensures.goes_on (first_refused no_definition no_definition (option_shape str) no_part (option_keys (λ y. []) c.value-item.result.2) [] (option_meaning (λ y. (text_value (string_bytes y))) c.value-item.result.2) no_value _ _ _ no_part_planned c.in-Err-serialize_part.ensures.refused))))

no_deeper : {X : Type 0} (depth : X → ℕ) (n k t : ℕ) (xs : List X) (i : ℕ) (x : X) → n * most depth xs + k ≡ t → i < length xs → x ≡ get_or xs i x → depth x ≤ most depth xs
no_deeper depth n k t xs i x measure below is = subst (λ y. depth y ≤ most depth xs) (sym is) (at_most depth xs i x below)

pub serialize_each_tuple3_string_note_option_string-returns-in_err-resolvers-clause-goes_on : goal.serialize_each_tuple3_string_note_option_string-returns-in_err-resolvers-clause-goes_on
serialize_each_tuple3_string_note_option_string-returns-in_err-resolvers-clause-goes_on g t c = goes_nowhere _

pub serialize_each_tuple3_string_note_option_string-serialize_note-requires : goal.serialize_each_tuple3_string_note_option_string-serialize_note-requires
serialize_each_tuple3_string_note_option_string-serialize_note-requires g t c κs within = (omega (arith, c.decreases, no_deeper _ _ _ _ c.args.values.now c.loop-value.value-index c.value-item.result c.decreases c.loop-value-test.true c.value-item.is), within)

pub serialize_each_tuple3_string_note_option_string-loop-value-preserved : goal.serialize_each_tuple3_string_note_option_string-loop-value-preserved
serialize_each_tuple3_string_note_option_string-loop-value-preserved g t c = record { continues = continues_step _ _ _ _ _ _ _ _ _ _ c.loop-value.value-index _ _ _ (c.in-Ok.a0, (c.in-Ok-serialize_note.a1, (c.in-Ok-serialize_part.a2, tt))) c.loop-value-test.true c.value-item.is (grind (arith, common_steps)) c.loop-value.invariant.continues (serialized_record tuple3_string_note_option_string_definitions tuple3_string_note_option_string_shape tuple3_string_note_option_string_definitions tuple3_string_note_option_string_parts tuple3_string_note_option_string_has_parts _ _ _ _ _ (serialized_part no_definition (both note_definitions (both no_definition no_definition)) str (part note_shape (part (option_shape str) no_part)) [] ((note_keys c.value-item.result.1) ++ ((option_keys (λ y. []) c.value-item.result.2) ++ [])) (text_value (string_bytes c.value-item.result.0)) (value (note_meaning c.value-item.result.1) (value (option_meaning (λ y. (text_value (string_bytes y))) c.value-item.result.2) no_value)) _ _ _ _ _ c.in-Ok.ensures.serialized (serialized_part note_definitions (both no_definition no_definition) note_shape (part (option_shape str) no_part) (note_keys c.value-item.result.1) ((option_keys (λ y. []) c.value-item.result.2) ++ []) (note_meaning c.value-item.result.1) (value (option_meaning (λ y. (text_value (string_bytes y))) c.value-item.result.2) no_value) _ _ _ _ _ c.in-Ok-serialize_note.ensures.serialized (serialized_part no_definition no_definition (option_shape str) no_part (option_keys (λ y. []) c.value-item.result.2) [] (option_meaning (λ y. (text_value (string_bytes y))) c.value-item.result.2) no_value _ _ _ _ _ c.in-Ok-serialize_part.ensures.serialized (serialized_no_part no_definition _))))) (c.in-Ok.ensures.same_value, (c.in-Ok-serialize_note.ensures.same_value, (c.in-Ok-serialize_part.ensures.same_value, tt))) (goes_both _ _ _ (goes_both _ _ _ c.serialize_part.ensures.goes_on c.serialize_note.ensures.goes_on) c.serialize_part-in-loop-value.ensures.goes_on); reserved = (grind (arith, common_steps, c.loop-value.invariant.reserved.0), grind (arith, common_steps, c.loop-value.invariant.reserved.1)) }

pub serialize_each_tuple3_string_note_option_string-returns-clause-serialized : goal.serialize_each_tuple3_string_note_option_string-returns-clause-serialized
serialize_each_tuple3_string_note_option_string-returns-clause-serialized g t c = continues_end _ _ _ _ _ _ _ _ _ _ _ (drop_of_length-le _ c.loop-value-test.false) c.loop-value.invariant.continues

pub serialize_each_tuple3_string_note_option_string-returns-clause-same_values : goal.serialize_each_tuple3_string_note_option_string-returns-clause-same_values
serialize_each_tuple3_string_note_option_string-returns-clause-same_values g t c = belongs_end _ _ _ _ _ _ _ _ _ _ _ (drop_of_length-le _ c.loop-value-test.false) c.loop-value.invariant.continues

pub serialize_vec_tuple3_string_note_option_string-returns-then-len-clause-refused : goal.serialize_vec_tuple3_string_note_option_string-returns-then-len-clause-refused
serialize_vec_tuple3_string_note_option_string-returns-then-len-clause-refused g t c = (let long : 4294967295 < length c.args.value.now.items = (let whole : length c.args.value.now.items ≡ c.len.result = grind (arith, common_steps, c.len.ensures) in omega (arith, c.if-len.true, whole)) in vec_refused tuple3_string_note_option_string_definitions tuple3_string_note_option_string_shape (length c.args.value.now.items) (each_keys (λ y. ([] ++ ((note_keys y.1) ++ ((option_keys (λ y. []) y.2) ++ [])))) c.args.value.now.items) (list (each_meaning (λ y. (product (value (text_value (string_bytes y.0)) (value (note_meaning y.1) (value (option_meaning (λ y. (text_value (string_bytes y))) y.2) no_value))))) c.args.value.now.items)) _ _ _ (long_run_refused tuple3_string_note_option_string_definitions tuple3_string_note_option_string_shape (length c.args.value.now.items) (each_keys (λ y. ([] ++ ((note_keys y.1) ++ ((option_keys (λ y. []) y.2) ++ [])))) c.args.value.now.items) (each_meaning (λ y. (product (value (text_value (string_bytes y.0)) (value (note_meaning y.1) (value (option_meaning (λ y. (text_value (string_bytes y))) y.2) no_value))))) c.args.value.now.items) _ _ (each_planned tuple3_string_note_option_string_definitions tuple3_string_note_option_string_shape (λ y. ([] ++ ((note_keys y.1) ++ ((option_keys (λ y. []) y.2) ++ [])))) (λ y. (product (value (text_value (string_bytes y.0)) (value (note_meaning y.1) (value (option_meaning (λ y. (text_value (string_bytes y))) y.2) no_value))))) (λ y. (product_planned _ _ _ _ (part_planned no_definition str [] (text_value (string_bytes y.0)) (string_planned no_definition [] (string_bytes y.0)) (part_planned note_definitions note_shape (note_keys y.1) (note_meaning y.1) (note_planned y.1) (part_planned no_definition (option_shape str) (option_keys (λ y. []) y.2) (option_meaning (λ y. (text_value (string_bytes y))) y.2) (option_planned no_definition str (λ y. []) (λ y. (text_value (string_bytes y))) (λ y. (string_planned no_definition [] (string_bytes y))) y.2) no_part_planned))))) c.args.value.now.items) long))

pub serialize_vec_tuple3_string_note_option_string-returns-in-Err-clause-refused : goal.serialize_vec_tuple3_string_note_option_string-returns-in-Err-clause-refused
serialize_vec_tuple3_string_note_option_string-returns-in-Err-clause-refused g t c = vec_refused tuple3_string_note_option_string_definitions tuple3_string_note_option_string_shape (length c.args.value.now.items) (each_keys (λ y. ([] ++ ((note_keys y.1) ++ ((option_keys (λ y. []) y.2) ++ [])))) c.args.value.now.items) (list (each_meaning (λ y. (product (value (text_value (string_bytes y.0)) (value (note_meaning y.1) (value (option_meaning (λ y. (text_value (string_bytes y))) y.2) no_value))))) c.args.value.now.items)) _ _ _ (run_owned tuple3_string_note_option_string_definitions tuple3_string_note_option_string_shape (length c.args.value.now.items) (each_keys (λ y. ([] ++ ((note_keys y.1) ++ ((option_keys (λ y. []) y.2) ++ [])))) c.args.value.now.items) (each_meaning (λ y. (product (value (text_value (string_bytes y.0)) (value (note_meaning y.1) (value (option_meaning (λ y. (text_value (string_bytes y))) y.2) no_value))))) c.args.value.now.items) _ _ _ (rw c.as_slice-items.ensures.value at c.in-Err.ensures.refused))

pub serialize_vec_tuple3_string_note_option_string-returns-in-Ok-serialize_run-clause-serialized : goal.serialize_vec_tuple3_string_note_option_string-returns-in-Ok-serialize_run-clause-serialized
serialize_vec_tuple3_string_note_option_string-returns-in-Ok-serialize_run-clause-serialized g t c = (rw c.as_slice-items.ensures.value at c.in-Ok-serialize_run.ensures.listed).since _ c.serialize_each_tuple3_string_note_option_string.ensures.goes_on (rw c.as_slice-items.ensures.value at c.in-Ok.ensures.serialized)

pub serialize_vec_tuple3_string_note_option_string-returns-in-Ok-serialize_run-clause-goes_on : goal.serialize_vec_tuple3_string_note_option_string-returns-in-Ok-serialize_run-clause-goes_on
serialize_vec_tuple3_string_note_option_string-returns-in-Ok-serialize_run-clause-goes_on g t c = (goes_both _ _ _ c.serialize_each_tuple3_string_note_option_string.ensures.goes_on c.serialize_run.ensures.goes_on)

pub serialize_vec_tuple3_string_note_option_string-returns-in-Err-serialize_run-clause-goes_on : goal.serialize_vec_tuple3_string_note_option_string-returns-in-Err-serialize_run-clause-goes_on
serialize_vec_tuple3_string_note_option_string-returns-in-Err-serialize_run-clause-goes_on g t c = (goes_both _ _ _ c.serialize_each_tuple3_string_note_option_string.ensures.goes_on c.serialize_run.ensures.goes_on)

pub serialize_vec_tuple3_string_note_option_string-returns-in-Err-serialize_run-clause-refused : goal.serialize_vec_tuple3_string_note_option_string-returns-in-Err-serialize_run-clause-refused
serialize_vec_tuple3_string_note_option_string-returns-in-Err-serialize_run-clause-refused g t c = (rw c.as_slice-items.ensures.value at c.in-Err-serialize_run.ensures.refused).since _ c.serialize_each_tuple3_string_note_option_string.ensures.goes_on (rw c.as_slice-items.ensures.value at c.in-Ok.ensures.serialized)

pub serialize_box_note-returns-in-Err-clause-refused : goal.serialize_box_note-returns-in-Err-clause-refused
serialize_box_note-returns-in-Err-clause-refused g t c = rw c.handed_on.ensures (let same : c.deref-inner.result.now ≡ c.args.value.now.value = grind (arith, common_steps) in rw (← same) (box_refused note_definitions (one note_shape) 0 _ _ _ _ _ (one_owned note_definitions note_shape _ _ _ _ _ c.in-Err.ensures.refused)))

pub serialize_box_note-returns-in-Ok-serialize_inner-clause-serialized : goal.serialize_box_note-returns-in-Ok-serialize_inner-clause-serialized
serialize_box_note-returns-in-Ok-serialize_inner-clause-serialized g t c = (let same : c.deref-inner.result.now ≡ c.args.value.now.value = grind (arith, common_steps) in rw (← same) (c.in-Ok-serialize_inner.ensures.boxed.since _ c.serialize_note.ensures.goes_on c.in-Ok.ensures.serialized))

pub serialize_box_note-returns-in-Ok-serialize_inner-clause-goes_on : goal.serialize_box_note-returns-in-Ok-serialize_inner-clause-goes_on
serialize_box_note-returns-in-Ok-serialize_inner-clause-goes_on g t c = (goes_both _ _ _ c.serialize_note.ensures.goes_on c.serialize_inner.ensures.goes_on)

pub serialize_box_note-returns-in-Err-serialize_inner-clause-goes_on : goal.serialize_box_note-returns-in-Err-serialize_inner-clause-goes_on
serialize_box_note-returns-in-Err-serialize_inner-clause-goes_on g t c = (goes_both _ _ _ c.serialize_note.ensures.goes_on c.serialize_inner.ensures.goes_on)

pub serialize_box_note-returns-in-Err-serialize_inner-clause-refused : goal.serialize_box_note-returns-in-Err-serialize_inner-clause-refused
serialize_box_note-returns-in-Err-serialize_inner-clause-refused g t c = (let same : c.deref-inner.result.now ≡ c.args.value.now.value = grind (arith, common_steps) in rw (← same) (c.in-Err-serialize_inner.ensures.refused.since _ c.serialize_note.ensures.goes_on c.in-Ok.ensures.serialized))

pub serialize_each_note-returns-in_err-resolvers-clause-refused : goal.serialize_each_note-returns-in_err-resolvers-clause-refused
serialize_each_note-returns-in_err-resolvers-clause-refused g t c = err_by c.from_residual.result OutOfMemory _ c.from_residual.ensures.1 no_memory

pub serialize_each_note-returns-in-Err-clause-goes_on : goal.serialize_each_note-returns-in-Err-clause-goes_on
serialize_each_note-returns-in-Err-clause-goes_on g t c = goes_both _ _ _ c.loop-value.invariant.continues.goes c.serialize_note.ensures.goes_on

pub serialize_each_note-returns-in-Err-clause-refused : goal.serialize_each_note-returns-in-Err-clause-refused
serialize_each_note-returns-in-Err-clause-refused g t c = rw c.handed_on.ensures (continues_broken _ _ _ _ _ _ _ _ _ _ c.loop-value.value-index _ _ _ c.loop-value-test.true c.value-item.is note_planned c.loop-value.invariant.continues c.serialize_note.ensures.goes_on c.in-Err.ensures.refused)

pub serialize_each_note-loop-value-preserved : goal.serialize_each_note-loop-value-preserved
serialize_each_note-loop-value-preserved g t c = record { continues = continues_step _ _ _ _ _ _ _ _ _ _ c.loop-value.value-index _ _ _ c.in-Ok.resolver c.loop-value-test.true c.value-item.is (grind (arith, common_steps)) c.loop-value.invariant.continues c.in-Ok.ensures.serialized c.in-Ok.ensures.same_value c.serialize_note.ensures.goes_on; reserved = (grind (arith, common_steps, c.loop-value.invariant.reserved.0), grind (arith, common_steps, c.loop-value.invariant.reserved.1)) }

pub serialize_each_note-returns-clause-serialized : goal.serialize_each_note-returns-clause-serialized
serialize_each_note-returns-clause-serialized g t c = continues_end _ _ _ _ _ _ _ _ _ _ _ (drop_of_length-le _ c.loop-value-test.false) c.loop-value.invariant.continues

pub serialize_each_note-returns-clause-same_values : goal.serialize_each_note-returns-clause-same_values
serialize_each_note-returns-clause-same_values g t c = belongs_end _ _ _ _ _ _ _ _ _ _ _ (drop_of_length-le _ c.loop-value-test.false) c.loop-value.invariant.continues

pub serialize_vec_note-returns-then-len-clause-refused : goal.serialize_vec_note-returns-then-len-clause-refused
serialize_vec_note-returns-then-len-clause-refused g t c = (let long : 4294967295 < length c.args.value.now.items = (let whole : length c.args.value.now.items ≡ c.len.result = grind (arith, common_steps, c.len.ensures) in omega (arith, c.if-len.true, whole)) in vec_refused note_definitions note_shape (length c.args.value.now.items) (each_keys note_keys c.args.value.now.items) (list (each_meaning note_meaning c.args.value.now.items)) _ _ _ (long_run_refused note_definitions note_shape (length c.args.value.now.items) (each_keys note_keys c.args.value.now.items) (each_meaning note_meaning c.args.value.now.items) _ _ (each_planned note_definitions note_shape note_keys note_meaning note_planned c.args.value.now.items) long))

pub serialize_vec_note-returns-in-Err-clause-refused : goal.serialize_vec_note-returns-in-Err-clause-refused
serialize_vec_note-returns-in-Err-clause-refused g t c = vec_refused note_definitions note_shape (length c.args.value.now.items) (each_keys note_keys c.args.value.now.items) (list (each_meaning note_meaning c.args.value.now.items)) _ _ _ (run_owned note_definitions note_shape (length c.args.value.now.items) (each_keys note_keys c.args.value.now.items) (each_meaning note_meaning c.args.value.now.items) _ _ _ (rw c.as_slice-items.ensures.value at c.in-Err.ensures.refused))

pub serialize_vec_note-returns-in-Ok-serialize_run-clause-serialized : goal.serialize_vec_note-returns-in-Ok-serialize_run-clause-serialized
serialize_vec_note-returns-in-Ok-serialize_run-clause-serialized g t c = (rw c.as_slice-items.ensures.value at c.in-Ok-serialize_run.ensures.listed).since _ c.serialize_each_note.ensures.goes_on (rw c.as_slice-items.ensures.value at c.in-Ok.ensures.serialized)

pub serialize_vec_note-returns-in-Ok-serialize_run-clause-goes_on : goal.serialize_vec_note-returns-in-Ok-serialize_run-clause-goes_on
serialize_vec_note-returns-in-Ok-serialize_run-clause-goes_on g t c = (goes_both _ _ _ c.serialize_each_note.ensures.goes_on c.serialize_run.ensures.goes_on)

pub serialize_vec_note-returns-in-Err-serialize_run-clause-goes_on : goal.serialize_vec_note-returns-in-Err-serialize_run-clause-goes_on
serialize_vec_note-returns-in-Err-serialize_run-clause-goes_on g t c = (goes_both _ _ _ c.serialize_each_note.ensures.goes_on c.serialize_run.ensures.goes_on)

pub serialize_vec_note-returns-in-Err-serialize_run-clause-refused : goal.serialize_vec_note-returns-in-Err-serialize_run-clause-refused
serialize_vec_note-returns-in-Err-serialize_run-clause-refused g t c = (rw c.as_slice-items.ensures.value at c.in-Err-serialize_run.ensures.refused).since _ c.serialize_each_note.ensures.goes_on (rw c.as_slice-items.ensures.value at c.in-Ok.ensures.serialized)

pub serialize_note_table-returns-in-Err-clause-refused : goal.serialize_note_table-returns-in-Err-clause-refused
serialize_note_table-returns-in-Err-clause-refused g t c = (variant_refused note_definitions note_shape note_name note_variant_definitions note_variants note_has_variants 2 note_table_parts refl note_table_definitions refl _ _ _ _ _ (first_refused tuple3_string_note_option_string_definitions no_definition (vec tuple3_string_note_option_string_shape) no_part (each_keys (λ y. ([] ++ ((note_keys y.1) ++ ((option_keys (λ y. []) y.2) ++ [])))) c.args.a0.now.items) [] (list (each_meaning (λ y. (product (value (text_value (string_bytes y.0)) (value (note_meaning y.1) (value (option_meaning (λ y. (text_value (string_bytes y))) y.2) no_value))))) c.args.a0.now.items)) no_value _ _ _ no_part_planned c.in-Err.ensures.refused))

pub serialize_note_table-returns-clause-serialized : goal.serialize_note_table-returns-clause-serialized
serialize_note_table-returns-clause-serialized g t c = (serialized_variant note_definitions note_shape note_name note_variant_definitions note_variants note_has_variants 2 note_table_parts refl note_table_definitions refl _ _ _ _ _ (serialized_part tuple3_string_note_option_string_definitions no_definition (vec tuple3_string_note_option_string_shape) no_part (each_keys (λ y. ([] ++ ((note_keys y.1) ++ ((option_keys (λ y. []) y.2) ++ [])))) c.args.a0.now.items) [] (list (each_meaning (λ y. (product (value (text_value (string_bytes y.0)) (value (note_meaning y.1) (value (option_meaning (λ y. (text_value (string_bytes y))) y.2) no_value))))) c.args.a0.now.items)) no_value _ _ _ _ _ c.in-Ok.ensures.serialized (serialized_no_part no_definition _)))

pub serialize_note_about-returns-in-Err-clause-refused : goal.serialize_note_about-returns-in-Err-clause-refused
serialize_note_about-returns-in-Err-clause-refused g t c = (variant_refused note_definitions note_shape note_name note_variant_definitions note_variants note_has_variants 5 note_about_parts refl note_about_definitions refl _ _ _ _ _ (first_refused note_definitions no_definition (boxed (one note_shape)) no_part (note_keys c.args.a0.now.value) [] (box (note_meaning c.args.a0.now.value)) no_value _ _ _ no_part_planned c.in-Err.ensures.refused))

pub serialize_note_about-returns-clause-serialized : goal.serialize_note_about-returns-clause-serialized
serialize_note_about-returns-clause-serialized g t c = (serialized_variant note_definitions note_shape note_name note_variant_definitions note_variants note_has_variants 5 note_about_parts refl note_about_definitions refl _ _ _ _ _ (serialized_part note_definitions no_definition (boxed (one note_shape)) no_part (note_keys c.args.a0.now.value) [] (box (note_meaning c.args.a0.now.value)) no_value _ _ _ _ _ c.in-Ok.ensures.serialized (serialized_no_part no_definition _)))

pub serialize_note_several-returns-in-Err-clause-refused : goal.serialize_note_several-returns-in-Err-clause-refused
serialize_note_several-returns-in-Err-clause-refused g t c = (variant_refused note_definitions note_shape note_name note_variant_definitions note_variants note_has_variants 7 note_several_parts refl note_several_definitions refl _ _ _ _ _ (first_refused note_definitions no_definition (vec note_shape) no_part (each_keys note_keys c.args.a0.now.items) [] (list (each_meaning note_meaning c.args.a0.now.items)) no_value _ _ _ no_part_planned c.in-Err.ensures.refused))

pub serialize_note_several-returns-clause-serialized : goal.serialize_note_several-returns-clause-serialized
serialize_note_several-returns-clause-serialized g t c = (serialized_variant note_definitions note_shape note_name note_variant_definitions note_variants note_has_variants 7 note_several_parts refl note_several_definitions refl _ _ _ _ _ (serialized_part note_definitions no_definition (vec note_shape) no_part (each_keys note_keys c.args.a0.now.items) [] (list (each_meaning note_meaning c.args.a0.now.items)) no_value _ _ _ _ _ c.in-Ok.ensures.serialized (serialized_no_part no_definition _)))

pub serialize_whole_note-returns-in-Ok-clause-serialized : goal.serialize_whole_note-returns-in-Ok-clause-serialized
serialize_whole_note-returns-in-Ok-clause-serialized g t c = rw c.in-Text.is (written_as (note_text_has_keys c.in-Text.a0) (note_text_means c.in-Text.a0) (rw (note_text_opens c.in-Text.a0) refl) c.in-Ok.ensures.serialized)

pub serialize_whole_note-returns-in-Ok-clause-same_value : goal.serialize_whole_note-returns-in-Ok-clause-same_value
serialize_whole_note-returns-in-Ok-clause-same_value g t c = rw (c.in-Text.is, note_text_opens c.in-Text.a0) c.in-Ok.ensures.same_values

pub serialize_whole_note-returns-in-Err-clause-refused : goal.serialize_whole_note-returns-in-Err-clause-refused
serialize_whole_note-returns-in-Err-clause-refused g t c = rw c.in-Text.is (refused_as (note_text_has_keys c.in-Text.a0) (note_text_means c.in-Text.a0) c.in-Err.ensures.refused)

pub serialize_whole_note-returns-in-Ok-serialize_note_work-clause-serialized : goal.serialize_whole_note-returns-in-Ok-serialize_note_work-clause-serialized
serialize_whole_note-returns-in-Ok-serialize_note_work-clause-serialized g t c = rw c.in-Work.is (written_as (note_work_has_keys c.in-Work.a0) (note_work_means c.in-Work.a0) (rw (note_work_opens c.in-Work.a0) refl) c.in-Ok-serialize_note_work.ensures.serialized)

pub serialize_whole_note-returns-in-Ok-serialize_note_work-clause-same_value : goal.serialize_whole_note-returns-in-Ok-serialize_note_work-clause-same_value
serialize_whole_note-returns-in-Ok-serialize_note_work-clause-same_value g t c = rw (c.in-Work.is, note_work_opens c.in-Work.a0) c.in-Ok-serialize_note_work.ensures.same_values

pub serialize_whole_note-returns-in-Err-serialize_note_work-clause-refused : goal.serialize_whole_note-returns-in-Err-serialize_note_work-clause-refused
serialize_whole_note-returns-in-Err-serialize_note_work-clause-refused g t c = rw c.in-Work.is (refused_as (note_work_has_keys c.in-Work.a0) (note_work_means c.in-Work.a0) c.in-Err-serialize_note_work.ensures.refused)

pub serialize_whole_note-returns-in-Ok-serialize_note_table-clause-serialized : goal.serialize_whole_note-returns-in-Ok-serialize_note_table-clause-serialized
serialize_whole_note-returns-in-Ok-serialize_note_table-clause-serialized g t c = rw c.in-Table.is (written_as (note_table_has_keys c.in-Table.a0) (note_table_means c.in-Table.a0) (rw (note_table_opens c.in-Table.a0) refl) c.in-Ok-serialize_note_table.ensures.serialized)

pub serialize_whole_note-returns-in-Ok-serialize_note_table-clause-same_value : goal.serialize_whole_note-returns-in-Ok-serialize_note_table-clause-same_value
serialize_whole_note-returns-in-Ok-serialize_note_table-clause-same_value g t c = rw (c.in-Table.is, note_table_opens c.in-Table.a0) c.in-Ok-serialize_note_table.ensures.same_values

pub serialize_whole_note-returns-in-Err-serialize_note_table-clause-refused : goal.serialize_whole_note-returns-in-Err-serialize_note_table-clause-refused
serialize_whole_note-returns-in-Err-serialize_note_table-clause-refused g t c = rw c.in-Table.is (refused_as (note_table_has_keys c.in-Table.a0) (note_table_means c.in-Table.a0) c.in-Err-serialize_note_table.ensures.refused)

pub serialize_whole_note-returns-in-Ok-serialize_note_done-clause-serialized : goal.serialize_whole_note-returns-in-Ok-serialize_note_done-clause-serialized
serialize_whole_note-returns-in-Ok-serialize_note_done-clause-serialized g t c = rw c.in-Done.is (written_as (note_done_has_keys c.in-Done.a0) (note_done_means c.in-Done.a0) (rw (note_done_opens c.in-Done.a0) refl) c.in-Ok-serialize_note_done.ensures.serialized)

pub serialize_whole_note-returns-in-Ok-serialize_note_done-clause-same_value : goal.serialize_whole_note-returns-in-Ok-serialize_note_done-clause-same_value
serialize_whole_note-returns-in-Ok-serialize_note_done-clause-same_value g t c = rw (c.in-Done.is, note_done_opens c.in-Done.a0) c.in-Ok-serialize_note_done.ensures.same_values

pub serialize_whole_note-returns-in-Err-serialize_note_done-clause-refused : goal.serialize_whole_note-returns-in-Err-serialize_note_done-clause-refused
serialize_whole_note-returns-in-Err-serialize_note_done-clause-refused g t c = rw c.in-Done.is (refused_as (note_done_has_keys c.in-Done.a0) (note_done_means c.in-Done.a0) c.in-Err-serialize_note_done.ensures.refused)

pub serialize_whole_note-returns-in-Ok-serialize_note_days-clause-serialized : goal.serialize_whole_note-returns-in-Ok-serialize_note_days-clause-serialized
serialize_whole_note-returns-in-Ok-serialize_note_days-clause-serialized g t c = rw c.in-Days.is (written_as (note_days_has_keys c.in-Days.a0) (note_days_means c.in-Days.a0) (rw (note_days_opens c.in-Days.a0) refl) c.in-Ok-serialize_note_days.ensures.serialized)

pub serialize_whole_note-returns-in-Ok-serialize_note_days-clause-same_value : goal.serialize_whole_note-returns-in-Ok-serialize_note_days-clause-same_value
serialize_whole_note-returns-in-Ok-serialize_note_days-clause-same_value g t c = rw (c.in-Days.is, note_days_opens c.in-Days.a0) c.in-Ok-serialize_note_days.ensures.same_values

pub serialize_whole_note-returns-in-Err-serialize_note_days-clause-refused : goal.serialize_whole_note-returns-in-Err-serialize_note_days-clause-refused
serialize_whole_note-returns-in-Err-serialize_note_days-clause-refused g t c = rw c.in-Days.is (refused_as (note_days_has_keys c.in-Days.a0) (note_days_means c.in-Days.a0) c.in-Err-serialize_note_days.ensures.refused)

pub serialize_whole_note-returns-in-Ok-serialize_note_about-clause-serialized : goal.serialize_whole_note-returns-in-Ok-serialize_note_about-clause-serialized
serialize_whole_note-returns-in-Ok-serialize_note_about-clause-serialized g t c = rw c.in-About.is (written_as (note_about_has_keys c.in-About.a0) (note_about_means c.in-About.a0) (rw (note_about_opens c.in-About.a0) refl) c.in-Ok-serialize_note_about.ensures.serialized)

pub serialize_whole_note-returns-in-Ok-serialize_note_about-clause-same_value : goal.serialize_whole_note-returns-in-Ok-serialize_note_about-clause-same_value
serialize_whole_note-returns-in-Ok-serialize_note_about-clause-same_value g t c = rw (c.in-About.is, note_about_opens c.in-About.a0) c.in-Ok-serialize_note_about.ensures.same_values

pub serialize_whole_note-returns-in-Err-serialize_note_about-clause-refused : goal.serialize_whole_note-returns-in-Err-serialize_note_about-clause-refused
serialize_whole_note-returns-in-Err-serialize_note_about-clause-refused g t c = rw c.in-About.is (refused_as (note_about_has_keys c.in-About.a0) (note_about_means c.in-About.a0) c.in-Err-serialize_note_about.ensures.refused)

pub serialize_whole_note-returns-in-Err-serialize_box_note-clause-refused : goal.serialize_whole_note-returns-in-Err-serialize_box_note-clause-refused
serialize_whole_note-returns-in-Err-serialize_box_note-clause-refused g t c = rw c.in-Either.is (refused_as (note_either_has_keys c.in-Either.a0 c.in-Either.a1) (note_either_means c.in-Either.a0 c.in-Either.a1) (variant_refused note_definitions note_shape note_name note_variant_definitions note_variants note_has_variants 6 note_either_parts refl note_either_definitions refl _ _ _ _ _ (first_refused note_definitions (both note_definitions no_definition) (boxed (one note_shape)) (part (boxed (one note_shape)) no_part) (note_keys c.in-Either.a0.value) ((note_keys c.in-Either.a1.value) ++ []) (box (note_meaning c.in-Either.a0.value)) (value (box (note_meaning c.in-Either.a1.value)) no_value) _ _ _ (part_planned note_definitions (boxed (one note_shape)) (note_keys c.in-Either.a1.value) (box (note_meaning c.in-Either.a1.value)) (boxed_one_planned note_definitions (one note_shape) note_shape refl _ _ (note_planned c.in-Either.a1.value)) no_part_planned) c.in-Err-serialize_box_note.ensures.refused)))

pub serialize_whole_note-returns-in-Err-serialize_box_note-2-clause-refused : goal.serialize_whole_note-returns-in-Err-serialize_box_note-2-clause-refused
serialize_whole_note-returns-in-Err-serialize_box_note-2-clause-refused g t c = rw c.in-Either.is (refused_as (note_either_has_keys c.in-Either.a0 c.in-Either.a1) (note_either_means c.in-Either.a0 c.in-Either.a1) (variant_refused note_definitions note_shape note_name note_variant_definitions note_variants note_has_variants 6 note_either_parts refl note_either_definitions refl _ _ _ _ _ (later_refused note_definitions (both note_definitions no_definition) (boxed (one note_shape)) (part (boxed (one note_shape)) no_part) (note_keys c.in-Either.a0.value) ((note_keys c.in-Either.a1.value) ++ []) (box (note_meaning c.in-Either.a0.value)) (value (box (note_meaning c.in-Either.a1.value)) no_value) _ _ _ _ _ c.in-Ok-serialize_box_note.ensures.serialized c.serialize_box_note.ensures.goes_on c.serialize_box_note-in-Either.ensures.goes_on (first_refused note_definitions no_definition (boxed (one note_shape)) no_part (note_keys c.in-Either.a1.value) [] (box (note_meaning c.in-Either.a1.value)) no_value _ _ _ no_part_planned c.in-Err-serialize_box_note-2.ensures.refused))))

pub serialize_whole_note-returns-in-Err-serialize_box_note-2-clause-goes_on : goal.serialize_whole_note-returns-in-Err-serialize_box_note-2-clause-goes_on
serialize_whole_note-returns-in-Err-serialize_box_note-2-clause-goes_on g t c = (goes_both _ _ _ c.serialize_box_note.ensures.goes_on c.serialize_box_note-in-Either.ensures.goes_on)

pub serialize_whole_note-returns-in-Ok-serialize_box_note-2-clause-serialized : goal.serialize_whole_note-returns-in-Ok-serialize_box_note-2-clause-serialized
serialize_whole_note-returns-in-Ok-serialize_box_note-2-clause-serialized g t c = rw c.in-Either.is (written_as (note_either_has_keys c.in-Either.a0 c.in-Either.a1) (note_either_means c.in-Either.a0 c.in-Either.a1) (rw (note_either_opens c.in-Either.a0 c.in-Either.a1) refl) (serialized_variant note_definitions note_shape note_name note_variant_definitions note_variants note_has_variants 6 note_either_parts refl note_either_definitions refl _ _ _ _ _ (serialized_part note_definitions (both note_definitions no_definition) (boxed (one note_shape)) (part (boxed (one note_shape)) no_part) (note_keys c.in-Either.a0.value) ((note_keys c.in-Either.a1.value) ++ []) (box (note_meaning c.in-Either.a0.value)) (value (box (note_meaning c.in-Either.a1.value)) no_value) _ _ _ _ _ c.in-Ok-serialize_box_note.ensures.serialized (serialized_part note_definitions no_definition (boxed (one note_shape)) no_part (note_keys c.in-Either.a1.value) [] (box (note_meaning c.in-Either.a1.value)) no_value _ _ _ _ _ c.in-Ok-serialize_box_note-2.ensures.serialized (serialized_no_part no_definition _)))))

pub serialize_whole_note-returns-in-Ok-serialize_box_note-2-clause-goes_on : goal.serialize_whole_note-returns-in-Ok-serialize_box_note-2-clause-goes_on
serialize_whole_note-returns-in-Ok-serialize_box_note-2-clause-goes_on g t c = (goes_both _ _ _ c.serialize_box_note.ensures.goes_on c.serialize_box_note-in-Either.ensures.goes_on)

pub serialize_whole_note-returns-in-Ok-serialize_box_note-2-clause-same_value : goal.serialize_whole_note-returns-in-Ok-serialize_box_note-2-clause-same_value
serialize_whole_note-returns-in-Ok-serialize_box_note-2-clause-same_value g t c = rw (c.in-Either.is, note_either_opens c.in-Either.a0 c.in-Either.a1) (c.in-Ok-serialize_box_note.ensures.same_value, (c.in-Ok-serialize_box_note-2.ensures.same_value, tt))

pub serialize_whole_note-returns-in-Ok-serialize_note_several-clause-serialized : goal.serialize_whole_note-returns-in-Ok-serialize_note_several-clause-serialized
serialize_whole_note-returns-in-Ok-serialize_note_several-clause-serialized g t c = rw c.in-Several.is (written_as (note_several_has_keys c.in-Several.a0) (note_several_means c.in-Several.a0) (rw (note_several_opens c.in-Several.a0) refl) c.in-Ok-serialize_note_several.ensures.serialized)

pub serialize_whole_note-returns-in-Ok-serialize_note_several-clause-same_value : goal.serialize_whole_note-returns-in-Ok-serialize_note_several-clause-same_value
serialize_whole_note-returns-in-Ok-serialize_note_several-clause-same_value g t c = rw (c.in-Several.is, note_several_opens c.in-Several.a0) c.in-Ok-serialize_note_several.ensures.same_values

pub serialize_whole_note-returns-in-Err-serialize_note_several-clause-refused : goal.serialize_whole_note-returns-in-Err-serialize_note_several-clause-refused
serialize_whole_note-returns-in-Err-serialize_note_several-clause-refused g t c = rw c.in-Several.is (refused_as (note_several_has_keys c.in-Several.a0) (note_several_means c.in-Several.a0) c.in-Err-serialize_note_several.ensures.refused)
