-- What an archived Message looks like. Written by tools/derive: change the declaration, and run it again.
use Rattle.archive_core.specs.Choices.{option_has_layout, option_reached, option_shape}
use Rattle.archive_core.specs.Definitions.{Definitions, both, no_definition, HasLayout, IsAlign, NoOthers}
use Rattle.archive_core.specs.Layout.{Layout}
use Rattle.archive_core.specs.LeafLayout.{no_definition_reached}
use Rattle.archive_core.specs.NoOthers.{no_parts_reached, part_reached}
use Rattle.archive_core.specs.PartsLayout.{for_itself, no_part_laid_out, part_laid_out}
use Rattle.archive_core.specs.SelfCheck.Owners.{vec_reaches}
use Rattle.archive_core.specs.Shape.{Name, Shape, Parts, Variants, choice, vec, leaf, unsigned, part, no_part, variant, no_variant, number as number_kind}
use Rattle.archive_core.specs.VariantsLayout.{IsChoice, no_variant_laid_out, no_variants_reached, variant_laid_out, variant_reached}
use Rattle.std.proofs.Common.{inl, inr}
use Rattle.std.specs.Int.{w8}
use Rattle.std.specs.Prelude.{refl, codes}
use Rattle.recursive_fields.specs.JsonShape.{json_shape as shape_of_json, json_definitions as definitions_of_json, json_has_layout as has_layout_of_json, json_no_others as no_others_of_json}

abbrev pub message_name : Name
message_name = codes "ArchivedMessage"

abbrev pub message_nothing_parts : Parts
message_nothing_parts = no_part

abbrev pub message_nothing_definitions : Definitions
message_nothing_definitions = no_definition

abbrev pub message_sent_parts : Parts
message_sent_parts = (part shape_of_json (part (option_shape shape_of_json) no_part))

abbrev pub message_sent_definitions : Definitions
message_sent_definitions = (both definitions_of_json (both definitions_of_json no_definition))

abbrev pub message_listed_parts : Parts
message_listed_parts = (part (leaf (number_kind unsigned w8)) (part (vec shape_of_json) no_part))

abbrev pub message_listed_definitions : Definitions
message_listed_definitions = (both no_definition (both definitions_of_json no_definition))

abbrev pub message_variants : Variants
message_variants = (variant message_nothing_parts (variant message_sent_parts (variant message_listed_parts no_variant)))

abbrev pub message_definitions : Definitions
message_definitions = (both message_nothing_definitions (both message_sent_definitions (both message_listed_definitions no_definition)))

abbrev pub message_variant_definitions : Definitions
message_variant_definitions = message_definitions

abbrev pub message_shape : Shape
message_shape = choice message_name message_variants

abbrev pub message_layout : Layout
message_layout = record { size = 48; align = 8 }

pub message_is_align : IsAlign 8
message_is_align = inr (inr (inr (inl refl)))

pub message_has_layout : HasLayout message_definitions message_shape message_layout
message_has_layout = (let its = (variant_laid_out message_nothing_definitions (both message_sent_definitions (both message_listed_definitions no_definition)) message_nothing_parts _ _ _ no_part_laid_out (variant message_sent_parts (variant message_listed_parts no_variant)) _ _ _ (variant_laid_out message_sent_definitions (both message_listed_definitions no_definition) message_sent_parts _ _ _ (part_laid_out definitions_of_json (both definitions_of_json no_definition) shape_of_json (record { size = 16; align = 8 }) has_layout_of_json (part (option_shape shape_of_json) no_part) _ _ _ (part_laid_out definitions_of_json no_definition (option_shape shape_of_json) (record { size = 24; align = 8 }) (option_has_layout definitions_of_json shape_of_json (record { size = 16; align = 8 }) (inr (inr (inr (inl refl)))) has_layout_of_json) no_part _ _ _ no_part_laid_out)) (variant message_listed_parts no_variant) _ _ _ (variant_laid_out message_listed_definitions no_definition message_listed_parts _ _ _ (part_laid_out no_definition (both definitions_of_json no_definition) (leaf (number_kind unsigned w8)) (record { size = 1; align = 1 }) (record { solved = λ s k. refl }) (part (vec shape_of_json) no_part) _ _ _ (part_laid_out definitions_of_json no_definition (vec shape_of_json) (record { size = 8; align = 4 }) (record { solved = λ s k. refl }) no_part _ _ _ no_part_laid_out)) no_variant _ _ _ no_variant_laid_out))) in record { solved = λ s k. rw (its.aligned s k, its.ends s k) refl })

pub message_no_others : NoOthers message_definitions message_shape
message_no_others = (variant_reached message_nothing_definitions (both message_sent_definitions (both message_listed_definitions no_definition)) message_nothing_parts (variant message_sent_parts (variant message_listed_parts no_variant)) no_parts_reached (variant_reached message_sent_definitions (both message_listed_definitions no_definition) message_sent_parts (variant message_listed_parts no_variant) (part_reached definitions_of_json (both definitions_of_json no_definition) shape_of_json (part (option_shape shape_of_json) no_part) no_others_of_json (part_reached definitions_of_json no_definition (option_shape shape_of_json) no_part (option_reached definitions_of_json shape_of_json no_others_of_json) no_parts_reached)) (variant_reached message_listed_definitions no_definition message_listed_parts no_variant (part_reached no_definition (both definitions_of_json no_definition) (leaf (number_kind unsigned w8)) (part (vec shape_of_json) no_part) (no_definition_reached (leaf (number_kind unsigned w8))) (part_reached definitions_of_json no_definition (vec shape_of_json) no_part (vec_reaches definitions_of_json shape_of_json no_others_of_json) no_parts_reached)) no_variants_reached))) message_name

pub message_has_variants : IsChoice message_definitions message_shape message_name message_variant_definitions message_variants
message_has_variants = record { stands = λ s k. for_itself; known = λ s k. k }
