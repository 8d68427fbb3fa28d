-- Written by tools/derive: change the declaration, and run it again.
use Rattle.archive_core.proofs.OwnersRead.{box_read, box_unread}
use Rattle.archive_core.proofs.ReadRecords.{record_read_back, record_refuses, first_refuses, later_refuses}
use Rattle.archive_core.proofs.ReadVariants.{case_read_back, case_refuses, empty_case_read_back}
use Rattle.archive_core.specs.Choices.{option_shape}
use Rattle.archive_core.specs.Definitions.{both, no_definition}
use Rattle.archive_core.specs.Held.{read_as}
use Rattle.archive_core.specs.Options.{option_keys}
use Rattle.archive_core.specs.PartsReading.{part_read_back, no_part_read_back}
use Rattle.archive_core.specs.Shape.{boxed, one, leaf, unsigned, part, no_part, number as number_kind}
use Rattle.archive_core.specs.Value.{value}
use Rattle.recursive_types.specs.SearchMeaning.{search_keys, search_means_roll, search_has_keys_roll}
use Rattle.recursive_types.specs.SearchShape.{search_shape, search_definitions, search_parts, search_part_definitions, search_has_parts}
use Rattle.std.proofs.Common.{◌≡◌, ◌++◌, [], length, refl, arith, pos}
use Rattle.std.proofs.lemmas.Grind.{common_steps}
use Rattle.std.specs.Int.{w32}
use Rattle.std.specs.Prelude.{[], ◌++◌, ◌≡◌, refl, pos, length}
use Rattle.recursive_types.proofs.search.+read_search.Goals as goal

pub read_box_search-returns-in-Err-clause-refused : goal.read_box_search-returns-in-Err-clause-refused
read_box_search-returns-in-Err-clause-refused g t c = box_unread search_definitions c.args.part.bytes.now c.args.part.pos c.args.part.len (one search_shape) (g.D.Entries.entry_of c.args.deserializer.now) c.in-Err.error c.requires (rw (c.part.ensures.buffer, c.part.ensures.position, c.part.ensures.length, c.before_box.ensures.buffer, c.before_box.ensures.position, c.before_box.ensures.length, c.at-view.ensures.buffer, c.at-view.ensures.position) at c.in-Err.ensures.refused)

pub read_box_search-returns-clause-read : goal.read_box_search-returns-clause-read
read_box_search-returns-clause-read g t c = (let same : c.in_ok-whole.whole.value ≡ c.in-Ok.value = grind (arith, common_steps) in rw same (box_read search_definitions c.args.part.bytes.now c.args.part.pos c.args.part.len (one search_shape) _ _ _ _ c.requires (rw (c.part.ensures.buffer, c.part.ensures.position, c.part.ensures.length, c.before_box.ensures.buffer, c.before_box.ensures.position, c.before_box.ensures.length, c.at-view.ensures.buffer, c.at-view.ensures.position) at c.in-Ok.ensures.read)))

pub read_option_box_search-returns-in-None-clause-read : goal.read_option_box_search-returns-in-None-clause-read
read_option_box_search-returns-in-None-clause-read g t c = empty_case_read_back search_definitions _ _ 0 refl c.args.part.bytes.now c.args.part.pos c.args.part.len (rw (c.at-view.ensures.buffer, c.at-view.ensures.position) at c.in-None.ensures.tag) _ _ refl

pub read_option_box_search-returns-in-Err-clause-refused : goal.read_option_box_search-returns-in-Err-clause-refused
read_option_box_search-returns-in-Err-clause-refused g t c = case_refuses search_definitions search_definitions (λ s k. k) _ _ 1 (boxed (one search_shape)) refl (record { size = 4; align = 4 }) (record { solved = λ s k. refl }) c.args.part.bytes.now c.args.part.pos c.args.part.len 4 refl (rw (c.at-view.ensures.buffer, c.at-view.ensures.position) at c.in-Some.ensures.tag) _ _ (rw (c.part.ensures.buffer, c.part.ensures.position, c.part.ensures.length, c.in-Some.ensures.buffer, c.in-Some.ensures.position, c.in-Some.ensures.length, c.at-view.ensures.buffer, c.at-view.ensures.position) at c.in-Err.ensures.refused)

pub read_option_box_search-returns-in-Ok-clause-read : goal.read_option_box_search-returns-in-Ok-clause-read
read_option_box_search-returns-in-Ok-clause-read g t c = case_read_back search_definitions search_definitions (λ s k. k) _ _ 1 (boxed (one search_shape)) refl (record { size = 4; align = 4 }) (record { solved = λ s k. refl }) c.args.part.bytes.now c.args.part.pos c.args.part.len 4 refl (rw (c.at-view.ensures.buffer, c.at-view.ensures.position) at c.in-Some.ensures.tag) _ _ _ _ (rw (c.part.ensures.buffer, c.part.ensures.position, c.part.ensures.length, c.in-Some.ensures.buffer, c.in-Some.ensures.position, c.in-Some.ensures.length, c.at-view.ensures.buffer, c.at-view.ensures.position) at c.in-Ok.ensures.read)

pub read_search-returns-in-Err-clause-refused : goal.read_search-returns-in-Err-clause-refused
read_search-returns-in-Err-clause-refused g t c = (record_refuses search_definitions search_shape search_part_definitions search_parts search_has_parts _ _ _ _ _ (first_refuses search_definitions (both no_definition (both search_definitions no_definition)) (option_shape (boxed (one search_shape))) (record { size = 8; align = 4 }) (record { solved = λ s k. refl }) (part (leaf (number_kind unsigned w32)) (part (option_shape (boxed (one search_shape))) no_part)) _ _ 0 _ _ (rw (c.part_of_record-p0.ensures.buffer, c.part_of_record-p0.ensures.position, c.part_of_record-p0.ensures.length) at c.in-Err.ensures.refused)))

pub read_search-returns-in-Err-read_part-clause-refused : goal.read_search-returns-in-Err-read_part-clause-refused
read_search-returns-in-Err-read_part-clause-refused g t c = (record_refuses search_definitions search_shape search_part_definitions search_parts search_has_parts _ _ _ _ _ (later_refuses search_definitions (both no_definition (both search_definitions no_definition)) (option_shape (boxed (one search_shape))) (record { size = 8; align = 4 }) (record { solved = λ s k. refl }) (part (leaf (number_kind unsigned w32)) (part (option_shape (boxed (one search_shape))) no_part)) _ _ 0 _ _ _ c.in-Ok.ensures.read.kept (first_refuses no_definition (both search_definitions no_definition) (leaf (number_kind unsigned w32)) (record { size = 4; align = 4 }) (record { solved = λ s k. refl }) (part (option_shape (boxed (one search_shape))) no_part) _ _ 8 _ _ (rw (c.part_of_record-p1.ensures.buffer, c.part_of_record-p1.ensures.position, c.part_of_record-p1.ensures.length) at c.in-Err-read_part.ensures.refused))))

pub read_search-returns-in-Err-read_option_box_search-clause-refused : goal.read_search-returns-in-Err-read_option_box_search-clause-refused
read_search-returns-in-Err-read_option_box_search-clause-refused g t c = (record_refuses search_definitions search_shape search_part_definitions search_parts search_has_parts _ _ _ _ _ (later_refuses search_definitions (both no_definition (both search_definitions no_definition)) (option_shape (boxed (one search_shape))) (record { size = 8; align = 4 }) (record { solved = λ s k. refl }) (part (leaf (number_kind unsigned w32)) (part (option_shape (boxed (one search_shape))) no_part)) _ _ 0 _ _ _ c.in-Ok.ensures.read.kept (later_refuses no_definition (both search_definitions no_definition) (leaf (number_kind unsigned w32)) (record { size = 4; align = 4 }) (record { solved = λ s k. refl }) (part (option_shape (boxed (one search_shape))) no_part) _ _ 8 _ _ _ c.in-Ok-read_part.ensures.read.kept (first_refuses search_definitions no_definition (option_shape (boxed (one search_shape))) (record { size = 8; align = 4 }) (record { solved = λ s k. refl }) no_part _ _ 12 _ _ (rw (c.part_of_record-p2.ensures.buffer, c.part_of_record-p2.ensures.position, c.part_of_record-p2.ensures.length) at c.in-Err-read_option_box_search.ensures.refused)))))

pub read_search-returns-clause-read : goal.read_search-returns-clause-read
read_search-returns-clause-read g t c = read_as (search_has_keys_roll (record { left = c.in-Ok.a0; value = c.in-Ok-read_part.a1; right = c.in-Ok-read_option_box_search.a2 })) (search_means_roll (record { left = c.in-Ok.a0; value = c.in-Ok-read_part.a1; right = c.in-Ok-read_option_box_search.a2 })) (record_read_back search_definitions search_shape search_part_definitions search_parts search_has_parts _ _ _ _ _ _ _ (part_read_back {L = (record { size = 8; align = 4 })} {ks = (option_keys (λ y. (search_keys y.value)) c.in-Ok.a0)} {ls = ([] ++ ((option_keys (λ y. (search_keys y.value)) c.in-Ok-read_option_box_search.a2) ++ []))} (record { solved = λ s k. refl }) (rw (c.part_of_record-p0.ensures.buffer, c.part_of_record-p0.ensures.position, c.part_of_record-p0.ensures.length) at c.in-Ok.ensures.read) (part_read_back {L = (record { size = 4; align = 4 })} {ks = []} {ls = ((option_keys (λ y. (search_keys y.value)) c.in-Ok-read_option_box_search.a2) ++ [])} (record { solved = λ s k. refl }) (rw (c.part_of_record-p1.ensures.buffer, c.part_of_record-p1.ensures.position, c.part_of_record-p1.ensures.length) at c.in-Ok-read_part.ensures.read) (part_read_back {L = (record { size = 8; align = 4 })} {ks = (option_keys (λ y. (search_keys y.value)) c.in-Ok-read_option_box_search.a2)} {ls = []} (record { solved = λ s k. refl }) (rw (c.part_of_record-p2.ensures.buffer, c.part_of_record-p2.ensures.position, c.part_of_record-p2.ensures.length) at c.in-Ok-read_option_box_search.ensures.read) no_part_read_back))))
