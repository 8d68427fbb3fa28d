-- What Page means. Written by tools/derive: change the declaration, and run it again.
use Rattle.archive_core.specs.Denotes.{Naming}
use Rattle.archive_core.specs.Keyed.{each_keyed, record_keyed, nothing_keyed, part_keyed}
use Rattle.archive_core.specs.PartsPlanned.{part_planned, no_part_planned, record_planned}
use Rattle.archive_core.specs.PlannedOwners.{vec_planned, slice_planned}
use Rattle.archive_core.specs.Plans.{HasPlan}
use Rattle.archive_core.specs.Runs.{each_keys, each_meaning}
use Rattle.archive_core.specs.Shape.{vec, run}
use Rattle.archive_core.specs.Value.{Value, product, list, hole, value, no_value}
use Rattle.archive_core.specs.Writing.{IsKeyed, to_pointee}
use Rattle.recursive_fields.specs.declared.page.PageResolver.{PageResolver}
use Rattle.std.specs.Prelude.{List, [], ◌++◌, ◌≤◌, length}
use Rattle.recursive_fields.specs.PageShape.{page_shape, page_definitions, page_parts, page_part_definitions, page_has_parts}
use Rattle.recursive_fields.specs.declared.page.Page.{Page as Page-Source}
use Rattle.recursive_fields.specs.JsonShape.{json_shape as shape_of_json, json_definitions as definitions_of_json}
use Rattle.recursive_fields.specs.MessageShape.{message_shape as shape_of_message, message_definitions as definitions_of_message}
use Rattle.recursive_fields.specs.contracts.json.JsonArchive.TheImpl as source_of_json
use Rattle.recursive_fields.specs.contracts.json.JsonArchive.TheImpl.Laws.{keyed-law as keyed_of_json, planned-law as planned_of_json}
use Rattle.recursive_fields.specs.contracts.json.MessageArchive.TheImpl as source_of_message
use Rattle.recursive_fields.specs.contracts.json.MessageArchive.TheImpl.Laws.{keyed-law as keyed_of_message, planned-law as planned_of_message}

abbrev pub page_meaning : Page-Source → Value
page_meaning t = product (value ((source_of_json.ghosts).meaning t.subject) (value (list (each_meaning (λ y. ((source_of_message.ghosts).meaning y)) t.messages.items)) no_value))

abbrev pub page_keys : Page-Source → (List Naming)
page_keys t = (((source_of_json.ghosts).keys t.subject) ++ ((each_keys (λ y. ((source_of_message.ghosts).keys y)) t.messages.items) ++ []))

-- what is read in its place
abbrev pub page_flat : Page-Source → PageResolver → Value
page_flat t r = product (value ((source_of_json.ghosts).flat t.subject r.kept.0) (value (hole (to_pointee r.kept.1.0 (run shape_of_message) (length t.messages.items))) no_value))

abbrev pub page_belongs : Page-Source → PageResolver → Type 0
page_belongs t r = (((source_of_json.ghosts).belongs t.subject r.kept.0) × ((length t.messages.items ≤ 4294967295) × Unit {0}))

pub page_keyed : (t : Page-Source) → IsKeyed (page_keys t) (page_meaning t)
page_keyed t = record_keyed (part_keyed (keyed_of_json t.subject) (part_keyed (each_keyed (λ y. ((source_of_message.ghosts).keys y)) (λ y. ((source_of_message.ghosts).meaning y)) (λ y. (keyed_of_message y)) t.messages.items) nothing_keyed))

pub page_planned : (t : Page-Source) → HasPlan page_definitions page_shape (page_keys t) (page_meaning t)
page_planned t = record_planned page_definitions page_shape page_part_definitions page_parts _ _ page_has_parts (part_planned definitions_of_json shape_of_json ((source_of_json.ghosts).keys t.subject) ((source_of_json.ghosts).meaning t.subject) (planned_of_json t.subject) (part_planned definitions_of_message (vec shape_of_message) (each_keys (λ y. ((source_of_message.ghosts).keys y)) t.messages.items) (list (each_meaning (λ y. ((source_of_message.ghosts).meaning y)) t.messages.items)) (vec_planned definitions_of_message shape_of_message _ _ _ (slice_planned definitions_of_message shape_of_message (λ y. ((source_of_message.ghosts).keys y)) (λ y. ((source_of_message.ghosts).meaning y)) (λ y. (planned_of_message y)) t.messages.items)) no_part_planned))
