-- Written by tools/derive: change the declaration, and run it again.
use Rattle.archive_core.proofs.Causes.{goes_both}
use Rattle.archive_core.proofs.Owners.{box_refused}
use Rattle.archive_core.proofs.Planned.{one_owned}
use Rattle.archive_core.proofs.PlannedParts.{serialized_no_part, serialized_part, serialized_record, record_refused, first_refused, later_refused}
use Rattle.archive_core.proofs.WrittenVariants.{serialized_case, serialized_empty_case, case_refused}
use Rattle.archive_core.specs.Choices.{option_shape}
use Rattle.archive_core.specs.Definitions.{both, no_definition}
use Rattle.archive_core.specs.Held.{written_as, refused_as}
use Rattle.archive_core.specs.Options.{option_keys, option_meaning, option_planned}
use Rattle.archive_core.specs.PartsPlanned.{part_planned, no_part_planned}
use Rattle.archive_core.specs.Planned.{leaf_planned}
use Rattle.archive_core.specs.PlannedOwners.{boxed_one_planned}
use Rattle.archive_core.specs.Shape.{boxed, one, leaf, unsigned, part, no_part, number as number_kind}
use Rattle.archive_core.specs.Value.{box, number, value, no_value}
use Rattle.recursive_types.specs.SearchMeaning.{search_meaning, search_keys, search_planned, search_means, search_has_keys}
use Rattle.recursive_types.specs.SearchShape.{search_shape, search_definitions, search_parts, search_part_definitions, search_has_parts}
use Rattle.recursive_types.specs.declared.search.Search.{out-Search}
use Rattle.std.proofs.Common.{◌≡◌, ◌++◌, [], refl, arith, pos}
use Rattle.std.proofs.lemmas.Grind.{common_steps}
use Rattle.std.specs.Int.{w32}
use Rattle.std.specs.Prelude.{[], ◌++◌, ◌≡◌, refl, pos}
use Rattle.recursive_types.proofs.search.+serialize_search.Goals as goal

pub serialize_option_box_search-returns-in-None-clause-serialized : goal.serialize_option_box_search-returns-in-None-clause-serialized
serialize_option_box_search-returns-in-None-clause-serialized g t c = rw c.in-None.is (serialized_empty_case search_definitions _ _ 0 refl _)

pub serialize_option_box_search-returns-in-Err-clause-refused : goal.serialize_option_box_search-returns-in-Err-clause-refused
serialize_option_box_search-returns-in-Err-clause-refused g t c = rw c.handed_on.ensures (let same : c.deref-inner.result.now ≡ c.in-Some.whole.value = grind (arith, common_steps) in rw (c.in-Some.is, ← same) (case_refused search_definitions search_definitions (λ s k. k) _ _ 1 (boxed (one search_shape)) refl _ _ _ _ _ (box_refused search_definitions (one search_shape) 0 _ _ _ _ _ (one_owned search_definitions search_shape _ _ _ _ _ c.in-Err.ensures.refused))))

pub serialize_option_box_search-returns-in-Ok-serialize_inner-clause-serialized : goal.serialize_option_box_search-returns-in-Ok-serialize_inner-clause-serialized
serialize_option_box_search-returns-in-Ok-serialize_inner-clause-serialized g t c = (let same : c.deref-inner.result.now ≡ c.in-Some.whole.value = grind (arith, common_steps) in rw (c.in-Some.is, ← same) (serialized_case search_definitions search_definitions (λ s k. k) _ _ 1 (boxed (one search_shape)) refl _ _ _ _ _ (c.in-Ok-serialize_inner.ensures.boxed.since _ c.serialize_search.ensures.goes_on c.in-Ok.ensures.serialized)))

pub serialize_option_box_search-returns-in-Ok-serialize_inner-clause-goes_on : goal.serialize_option_box_search-returns-in-Ok-serialize_inner-clause-goes_on
serialize_option_box_search-returns-in-Ok-serialize_inner-clause-goes_on g t c = (goes_both _ _ _ c.serialize_search.ensures.goes_on c.serialize_inner.ensures.goes_on)

pub serialize_option_box_search-returns-in-Err-serialize_inner-clause-goes_on : goal.serialize_option_box_search-returns-in-Err-serialize_inner-clause-goes_on
serialize_option_box_search-returns-in-Err-serialize_inner-clause-goes_on g t c = (goes_both _ _ _ c.serialize_search.ensures.goes_on c.serialize_inner.ensures.goes_on)

pub serialize_option_box_search-returns-in-Err-serialize_inner-clause-refused : goal.serialize_option_box_search-returns-in-Err-serialize_inner-clause-refused
serialize_option_box_search-returns-in-Err-serialize_inner-clause-refused g t c = (let same : c.deref-inner.result.now ≡ c.in-Some.whole.value = grind (arith, common_steps) in rw (c.in-Some.is, ← same) (case_refused search_definitions search_definitions (λ s k. k) _ _ 1 (boxed (one search_shape)) refl _ _ _ _ _ (c.in-Err-serialize_inner.ensures.refused.since _ c.serialize_search.ensures.goes_on c.in-Ok.ensures.serialized)))

pub serialize_whole_search-returns-in-Err-clause-refused : goal.serialize_whole_search-returns-in-Err-clause-refused
serialize_whole_search-returns-in-Err-clause-refused g t c = rw c.handed_on.ensures (refused_as (search_has_keys c.args.value.now) (search_means c.args.value.now) (record_refused search_definitions search_shape search_part_definitions search_parts search_has_parts _ _ _ _ _ (first_refused search_definitions (both no_definition (both search_definitions no_definition)) (option_shape (boxed (one search_shape))) (part (leaf (number_kind unsigned w32)) (part (option_shape (boxed (one search_shape))) no_part)) (option_keys (λ y. (search_keys y.value)) (out-Search c.args.value.now).left) ([] ++ ((option_keys (λ y. (search_keys y.value)) (out-Search c.args.value.now).right) ++ [])) (option_meaning (λ y. (box (search_meaning y.value))) (out-Search c.args.value.now).left) (value (number (pos (out-Search c.args.value.now).value)) (value (option_meaning (λ y. (box (search_meaning y.value))) (out-Search c.args.value.now).right) no_value)) _ _ _ (part_planned no_definition (leaf (number_kind unsigned w32)) [] (number (pos (out-Search c.args.value.now).value)) (leaf_planned no_definition _ _ [] _ refl) (part_planned search_definitions (option_shape (boxed (one search_shape))) (option_keys (λ y. (search_keys y.value)) (out-Search c.args.value.now).right) (option_meaning (λ y. (box (search_meaning y.value))) (out-Search c.args.value.now).right) (option_planned search_definitions (boxed (one search_shape)) (λ y. (search_keys y.value)) (λ y. (box (search_meaning y.value))) (λ y. (boxed_one_planned search_definitions (one search_shape) search_shape refl _ _ (search_planned y.value))) (out-Search c.args.value.now).right) no_part_planned)) c.in-Err.ensures.refused)))

pub serialize_whole_search-returns-in-Err-serialize_part-clause-refused : goal.serialize_whole_search-returns-in-Err-serialize_part-clause-refused
serialize_whole_search-returns-in-Err-serialize_part-clause-refused g t c = (refused_as (search_has_keys c.args.value.now) (search_means c.args.value.now) (record_refused search_definitions search_shape search_part_definitions search_parts search_has_parts _ _ _ _ _ (later_refused search_definitions (both no_definition (both search_definitions no_definition)) (option_shape (boxed (one search_shape))) (part (leaf (number_kind unsigned w32)) (part (option_shape (boxed (one search_shape))) no_part)) (option_keys (λ y. (search_keys y.value)) (out-Search c.args.value.now).left) ([] ++ ((option_keys (λ y. (search_keys y.value)) (out-Search c.args.value.now).right) ++ [])) (option_meaning (λ y. (box (search_meaning y.value))) (out-Search c.args.value.now).left) (value (number (pos (out-Search c.args.value.now).value)) (value (option_meaning (λ y. (box (search_meaning y.value))) (out-Search c.args.value.now).right) no_value)) _ _ _ _ _ c.in-Ok.ensures.serialized c.serialize_option_box_search.ensures.goes_on c.serialize_part.ensures.goes_on (first_refused no_definition (both search_definitions no_definition) (leaf (number_kind unsigned w32)) (part (option_shape (boxed (one search_shape))) no_part) [] ((option_keys (λ y. (search_keys y.value)) (out-Search c.args.value.now).right) ++ []) (number (pos (out-Search c.args.value.now).value)) (value (option_meaning (λ y. (box (search_meaning y.value))) (out-Search c.args.value.now).right) no_value) _ _ _ (part_planned search_definitions (option_shape (boxed (one search_shape))) (option_keys (λ y. (search_keys y.value)) (out-Search c.args.value.now).right) (option_meaning (λ y. (box (search_meaning y.value))) (out-Search c.args.value.now).right) (option_planned search_definitions (boxed (one search_shape)) (λ y. (search_keys y.value)) (λ y. (box (search_meaning y.value))) (λ y. (boxed_one_planned search_definitions (one search_shape) search_shape refl _ _ (search_planned y.value))) (out-Search c.args.value.now).right) no_part_planned) c.in-Err-serialize_part.ensures.refused))))

pub serialize_whole_search-returns-in-Err-serialize_part-clause-goes_on : goal.serialize_whole_search-returns-in-Err-serialize_part-clause-goes_on
serialize_whole_search-returns-in-Err-serialize_part-clause-goes_on g t c = (goes_both _ _ _ c.serialize_option_box_search.ensures.goes_on c.serialize_part.ensures.goes_on)

pub serialize_whole_search-returns-in-Err-serialize_option_box_search-clause-refused : goal.serialize_whole_search-returns-in-Err-serialize_option_box_search-clause-refused
serialize_whole_search-returns-in-Err-serialize_option_box_search-clause-refused g t c = (refused_as (search_has_keys c.args.value.now) (search_means c.args.value.now) (record_refused search_definitions search_shape search_part_definitions search_parts search_has_parts _ _ _ _ _ (later_refused search_definitions (both no_definition (both search_definitions no_definition)) (option_shape (boxed (one search_shape))) (part (leaf (number_kind unsigned w32)) (part (option_shape (boxed (one search_shape))) no_part)) (option_keys (λ y. (search_keys y.value)) (out-Search c.args.value.now).left) ([] ++ ((option_keys (λ y. (search_keys y.value)) (out-Search c.args.value.now).right) ++ [])) (option_meaning (λ y. (box (search_meaning y.value))) (out-Search c.args.value.now).left) (value (number (pos (out-Search c.args.value.now).value)) (value (option_meaning (λ y. (box (search_meaning y.value))) (out-Search c.args.value.now).right) no_value)) _ _ _ _ _ c.in-Ok.ensures.serialized c.serialize_option_box_search.ensures.goes_on (goes_both _ _ _ c.serialize_part.ensures.goes_on c.serialize_option_box_search-2.ensures.goes_on) (later_refused no_definition (both search_definitions no_definition) (leaf (number_kind unsigned w32)) (part (option_shape (boxed (one search_shape))) no_part) [] ((option_keys (λ y. (search_keys y.value)) (out-Search c.args.value.now).right) ++ []) (number (pos (out-Search c.args.value.now).value)) (value (option_meaning (λ y. (box (search_meaning y.value))) (out-Search c.args.value.now).right) no_value) _ _ _ _ _ c.in-Ok-serialize_part.ensures.serialized c.serialize_part.ensures.goes_on c.serialize_option_box_search-2.ensures.goes_on (first_refused search_definitions no_definition (option_shape (boxed (one search_shape))) no_part (option_keys (λ y. (search_keys y.value)) (out-Search c.args.value.now).right) [] (option_meaning (λ y. (box (search_meaning y.value))) (out-Search c.args.value.now).right) no_value _ _ _ no_part_planned c.in-Err-serialize_option_box_search.ensures.refused)))))

pub serialize_whole_search-returns-in-Err-serialize_option_box_search-clause-goes_on : goal.serialize_whole_search-returns-in-Err-serialize_option_box_search-clause-goes_on
serialize_whole_search-returns-in-Err-serialize_option_box_search-clause-goes_on g t c = (goes_both _ _ _ (goes_both _ _ _ c.serialize_option_box_search.ensures.goes_on c.serialize_part.ensures.goes_on) c.serialize_option_box_search-2.ensures.goes_on)

pub serialize_whole_search-returns-clause-serialized : goal.serialize_whole_search-returns-clause-serialized
serialize_whole_search-returns-clause-serialized g t c = (written_as (search_has_keys c.args.value.now) (search_means c.args.value.now) refl (serialized_record search_definitions search_shape search_part_definitions search_parts search_has_parts _ _ _ _ _ (serialized_part search_definitions (both no_definition (both search_definitions no_definition)) (option_shape (boxed (one search_shape))) (part (leaf (number_kind unsigned w32)) (part (option_shape (boxed (one search_shape))) no_part)) (option_keys (λ y. (search_keys y.value)) (out-Search c.args.value.now).left) ([] ++ ((option_keys (λ y. (search_keys y.value)) (out-Search c.args.value.now).right) ++ [])) (option_meaning (λ y. (box (search_meaning y.value))) (out-Search c.args.value.now).left) (value (number (pos (out-Search c.args.value.now).value)) (value (option_meaning (λ y. (box (search_meaning y.value))) (out-Search c.args.value.now).right) no_value)) _ _ _ _ _ c.in-Ok.ensures.serialized (serialized_part no_definition (both search_definitions no_definition) (leaf (number_kind unsigned w32)) (part (option_shape (boxed (one search_shape))) no_part) [] ((option_keys (λ y. (search_keys y.value)) (out-Search c.args.value.now).right) ++ []) (number (pos (out-Search c.args.value.now).value)) (value (option_meaning (λ y. (box (search_meaning y.value))) (out-Search c.args.value.now).right) no_value) _ _ _ _ _ c.in-Ok-serialize_part.ensures.serialized (serialized_part search_definitions no_definition (option_shape (boxed (one search_shape))) no_part (option_keys (λ y. (search_keys y.value)) (out-Search c.args.value.now).right) [] (option_meaning (λ y. (box (search_meaning y.value))) (out-Search c.args.value.now).right) no_value _ _ _ _ _ c.in-Ok-serialize_option_box_search.ensures.serialized (serialized_no_part no_definition _))))))

pub serialize_whole_search-returns-clause-goes_on : goal.serialize_whole_search-returns-clause-goes_on
serialize_whole_search-returns-clause-goes_on g t c = (goes_both _ _ _ (goes_both _ _ _ c.serialize_option_box_search.ensures.goes_on c.serialize_part.ensures.goes_on) c.serialize_option_box_search-2.ensures.goes_on)
