-- What an archived Page looks like. Written by tools/derive: change the declaration, and run it again.
use Rattle.archive_core.specs.Definitions.{Definitions, both, no_definition, HasLayout, IsAlign, NoOthers}
use Rattle.archive_core.specs.Layout.{Layout}
use Rattle.archive_core.specs.NoOthers.{no_parts_reached, part_reached}
use Rattle.archive_core.specs.PartsLayout.{IsRecord, is_record, no_part_laid_out, part_laid_out, record_has_layout}
use Rattle.archive_core.specs.SelfCheck.Owners.{vec_reaches}
use Rattle.archive_core.specs.Shape.{Shape, Parts, parts, vec, part, no_part}
use Rattle.std.proofs.Common.{inl, inr}
use Rattle.std.specs.Prelude.{refl}
use Rattle.recursive_fields.specs.JsonShape.{json_shape as shape_of_json, json_definitions as definitions_of_json, json_has_layout as has_layout_of_json, json_no_others as no_others_of_json}
use Rattle.recursive_fields.specs.MessageShape.{message_shape as shape_of_message, message_definitions as definitions_of_message, message_no_others as no_others_of_message}

abbrev pub page_parts : Parts
page_parts = (part shape_of_json (part (vec shape_of_message) no_part))

abbrev pub page_definitions : Definitions
page_definitions = (both definitions_of_json (both definitions_of_message no_definition))

abbrev pub page_part_definitions : Definitions
page_part_definitions = page_definitions

abbrev pub page_shape : Shape
page_shape = parts page_parts

abbrev pub page_layout : Layout
page_layout = record { size = 24; align = 8 }

pub page_is_align : IsAlign 8
page_is_align = inr (inr (inr (inl refl)))

pub page_has_layout : HasLayout page_definitions page_shape page_layout
page_has_layout = record_has_layout page_definitions page_parts _ _ _ (part_laid_out definitions_of_json (both definitions_of_message no_definition) shape_of_json (record { size = 16; align = 8 }) has_layout_of_json (part (vec shape_of_message) no_part) _ _ _ (part_laid_out definitions_of_message no_definition (vec shape_of_message) (record { size = 8; align = 4 }) (record { solved = λ s k. refl }) no_part _ _ _ no_part_laid_out))

pub page_no_others : NoOthers page_definitions page_shape
page_no_others = (part_reached definitions_of_json (both definitions_of_message no_definition) shape_of_json (part (vec shape_of_message) no_part) no_others_of_json (part_reached definitions_of_message no_definition (vec shape_of_message) no_part (vec_reaches definitions_of_message shape_of_message no_others_of_message) no_parts_reached))

pub page_has_parts : IsRecord page_definitions page_shape page_part_definitions page_parts
page_has_parts = is_record page_definitions page_parts
