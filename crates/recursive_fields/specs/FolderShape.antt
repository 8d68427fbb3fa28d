-- What an archived Folder looks like. Written by tools/derive: change the declaration, and run it again.
use Rattle.archive_core.specs.Definitions.{Definitions, defines, both, no_definition, HasLayout, IsAlign, NoOthers}
use Rattle.archive_core.specs.Held.{knows_both}
use Rattle.archive_core.specs.Layout.{Layout}
use Rattle.archive_core.specs.LeafLayout.{no_definition_reached}
use Rattle.archive_core.specs.NamedLayout.{name_has_layout, name_reached}
use Rattle.archive_core.specs.NoOthers.{no_parts_reached, part_reached}
use Rattle.archive_core.specs.PartsLayout.{IsRecord, by_name, knows_none, is_record, no_part_laid_out, part_laid_out, record_has_layout}
use Rattle.archive_core.specs.Shape.{Name, Shape, Parts, named, parts, sorted_map, str, leaf, unsigned, str_key, part, no_part, number as number_kind}
use Rattle.std.proofs.Common.{inl, inr}
use Rattle.std.specs.Int.{w8}
use Rattle.std.specs.Prelude.{refl, codes}

abbrev pub folder_name : Name
folder_name = codes "ArchivedFolder"

abbrev pub folder_shape : Shape
folder_shape = named folder_name

abbrev pub pair_string_folder_parts : Parts
pair_string_folder_parts = (part str (part folder_shape no_part))

abbrev pub pair_string_folder_shape : Shape
pair_string_folder_shape = parts pair_string_folder_parts

abbrev pub map_string_folder_shape : Shape
map_string_folder_shape = sorted_map str_key folder_shape

abbrev pub folder_parts : Parts
folder_parts = (part (leaf (number_kind unsigned w8)) (part (sorted_map str_key folder_shape) no_part))

abbrev pub folder_stands_for : Shape
folder_stands_for = parts folder_parts

abbrev pub folder_definitions : Definitions
folder_definitions = defines folder_name folder_stands_for

abbrev pub folder_layout : Layout
folder_layout = record { size = 12; align = 4 }

pub folder_is_align : IsAlign 4
folder_is_align = inr (inr (inl refl))

pub folder_has_layout : HasLayout folder_definitions folder_shape folder_layout
folder_has_layout = name_has_layout folder_name folder_stands_for folder_layout (λ s k. refl)

pub folder_no_others : NoOthers folder_definitions folder_shape
folder_no_others = name_reached folder_name folder_stands_for

abbrev pub pair_string_folder_definitions : Definitions
pair_string_folder_definitions = (both no_definition (both folder_definitions no_definition))

abbrev pub folder_part_definitions : Definitions
folder_part_definitions = (both no_definition (both pair_string_folder_definitions no_definition))

abbrev pub pair_string_folder_layout : Layout
pair_string_folder_layout = record { size = 20; align = 4 }

pub pair_string_folder_is_align : IsAlign 4
pair_string_folder_is_align = inr (inr (inl refl))

pub pair_string_folder_has_layout : HasLayout pair_string_folder_definitions pair_string_folder_shape pair_string_folder_layout
pair_string_folder_has_layout = record_has_layout pair_string_folder_definitions pair_string_folder_parts _ _ _ (part_laid_out no_definition (both folder_definitions no_definition) str (record { size = 8; align = 4 }) (record { solved = λ s k. refl }) (part folder_shape no_part) _ _ _ (part_laid_out folder_definitions no_definition folder_shape (record { size = 12; align = 4 }) folder_has_layout no_part _ _ _ no_part_laid_out))

pub pair_string_folder_no_others : NoOthers pair_string_folder_definitions pair_string_folder_shape
pair_string_folder_no_others = (part_reached no_definition (both folder_definitions no_definition) str (part folder_shape no_part) (no_definition_reached str) (part_reached folder_definitions no_definition folder_shape no_part folder_no_others no_parts_reached))

pub pair_string_folder_has_parts : IsRecord pair_string_folder_definitions pair_string_folder_shape pair_string_folder_definitions pair_string_folder_parts
pair_string_folder_has_parts = is_record pair_string_folder_definitions pair_string_folder_parts

pub folder_has_parts : IsRecord folder_definitions folder_shape folder_part_definitions folder_parts
folder_has_parts = record { stands = λ s k. by_name k.has; known = λ s k. (knows_both s _ _ (knows_none s k.laid_out) (knows_both s _ _ (knows_both s _ _ (knows_none s k.laid_out) (knows_both s _ _ k (knows_none s k.laid_out))) (knows_none s k.laid_out))) }
