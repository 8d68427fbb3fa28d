-- What an archived Note looks like. Written by tools/derive: change the declaration, and run it again.
use Rattle.archive_core.specs.Choices.{option_shape}
use Rattle.archive_core.specs.Definitions.{Definitions, defines, both, no_definition, HasLayout, IsAlign, NoOthers}
use Rattle.archive_core.specs.Held.{knows_both}
use Rattle.archive_core.specs.Layout.{Layout}
use Rattle.archive_core.specs.LeafLayout.{no_definition_reached}
use Rattle.archive_core.specs.NamedLayout.{name_has_layout, name_reached}
use Rattle.archive_core.specs.NoOthers.{no_parts_reached, part_reached}
use Rattle.archive_core.specs.PartsLayout.{IsRecord, knows_none, is_record, no_part_laid_out, part_laid_out, record_has_layout}
use Rattle.archive_core.specs.Shape.{Name, Shape, Parts, Variants, named, choice, parts, boxed, vec, sorted_map, str, one, leaf, bool, unsigned, signed, leaf_key, part, no_part, variant, no_variant, number as number_kind}
use Rattle.archive_core.specs.VariantsLayout.{IsChoice, is_recursive_choice}
use Rattle.std.proofs.Common.{inl, inr}
use Rattle.std.specs.Int.{w8, w16}
use Rattle.std.specs.Prelude.{refl, codes}

abbrev pub note_name : Name
note_name = codes "ArchivedNote"

abbrev pub note_shape : Shape
note_shape = named note_name

abbrev pub tuple3_string_note_option_string_parts : Parts
tuple3_string_note_option_string_parts = (part str (part note_shape (part (option_shape str) no_part)))

abbrev pub tuple3_string_note_option_string_shape : Shape
tuple3_string_note_option_string_shape = parts tuple3_string_note_option_string_parts

abbrev pub note_text_parts : Parts
note_text_parts = (part str no_part)

abbrev pub note_work_parts : Parts
note_work_parts = (part (sorted_map (leaf_key (number_kind unsigned w16)) (leaf (number_kind signed w8))) no_part)

abbrev pub note_table_parts : Parts
note_table_parts = (part (vec tuple3_string_note_option_string_shape) no_part)

abbrev pub note_done_parts : Parts
note_done_parts = (part (leaf bool) no_part)

abbrev pub note_days_parts : Parts
note_days_parts = (part (vec (leaf (number_kind unsigned w16))) no_part)

abbrev pub note_about_parts : Parts
note_about_parts = (part (boxed (one note_shape)) no_part)

abbrev pub note_either_parts : Parts
note_either_parts = (part (boxed (one note_shape)) (part (boxed (one note_shape)) no_part))

abbrev pub note_several_parts : Parts
note_several_parts = (part (vec note_shape) no_part)

abbrev pub note_variants : Variants
note_variants = (variant note_text_parts (variant note_work_parts (variant note_table_parts (variant note_done_parts (variant note_days_parts (variant note_about_parts (variant note_either_parts (variant note_several_parts no_variant))))))))

abbrev pub note_stands_for : Shape
note_stands_for = choice note_name note_variants

abbrev pub note_definitions : Definitions
note_definitions = defines note_name note_stands_for

abbrev pub note_layout : Layout
note_layout = record { size = 12; align = 4 }

pub note_is_align : IsAlign 4
note_is_align = inr (inr (inl refl))

pub note_has_layout : HasLayout note_definitions note_shape note_layout
note_has_layout = name_has_layout note_name note_stands_for note_layout (λ s k. refl)

pub note_no_others : NoOthers note_definitions note_shape
note_no_others = name_reached note_name note_stands_for

abbrev pub tuple3_string_note_option_string_definitions : Definitions
tuple3_string_note_option_string_definitions = (both no_definition (both note_definitions (both no_definition no_definition)))

abbrev pub note_text_definitions : Definitions
note_text_definitions = (both no_definition no_definition)

abbrev pub note_work_definitions : Definitions
note_work_definitions = (both (both no_definition (both no_definition no_definition)) no_definition)

abbrev pub note_table_definitions : Definitions
note_table_definitions = (both tuple3_string_note_option_string_definitions no_definition)

abbrev pub note_done_definitions : Definitions
note_done_definitions = (both no_definition no_definition)

abbrev pub note_days_definitions : Definitions
note_days_definitions = (both no_definition no_definition)

abbrev pub note_about_definitions : Definitions
note_about_definitions = (both note_definitions no_definition)

abbrev pub note_either_definitions : Definitions
note_either_definitions = (both note_definitions (both note_definitions no_definition))

abbrev pub note_several_definitions : Definitions
note_several_definitions = (both note_definitions no_definition)

abbrev pub note_variant_definitions : Definitions
note_variant_definitions = (both note_text_definitions (both note_work_definitions (both note_table_definitions (both note_done_definitions (both note_days_definitions (both note_about_definitions (both note_either_definitions (both note_several_definitions no_definition))))))))

abbrev pub tuple3_string_note_option_string_layout : Layout
tuple3_string_note_option_string_layout = record { size = 32; align = 4 }

pub tuple3_string_note_option_string_is_align : IsAlign 4
tuple3_string_note_option_string_is_align = inr (inr (inl refl))

pub tuple3_string_note_option_string_has_layout : HasLayout tuple3_string_note_option_string_definitions tuple3_string_note_option_string_shape tuple3_string_note_option_string_layout
tuple3_string_note_option_string_has_layout = record_has_layout tuple3_string_note_option_string_definitions tuple3_string_note_option_string_parts _ _ _ (part_laid_out no_definition (both note_definitions (both no_definition no_definition)) str (record { size = 8; align = 4 }) (record { solved = λ s k. refl }) (part note_shape (part (option_shape str) no_part)) _ _ _ (part_laid_out note_definitions (both no_definition no_definition) note_shape (record { size = 12; align = 4 }) note_has_layout (part (option_shape str) no_part) _ _ _ (part_laid_out no_definition no_definition (option_shape str) (record { size = 12; align = 4 }) (record { solved = λ s k. refl }) no_part _ _ _ no_part_laid_out)))

pub tuple3_string_note_option_string_no_others : NoOthers tuple3_string_note_option_string_definitions tuple3_string_note_option_string_shape
tuple3_string_note_option_string_no_others = (part_reached no_definition (both note_definitions (both no_definition no_definition)) str (part note_shape (part (option_shape str) no_part)) (no_definition_reached str) (part_reached note_definitions (both no_definition no_definition) note_shape (part (option_shape str) no_part) note_no_others (part_reached no_definition no_definition (option_shape str) no_part (no_definition_reached (option_shape str)) no_parts_reached)))

pub tuple3_string_note_option_string_has_parts : IsRecord tuple3_string_note_option_string_definitions tuple3_string_note_option_string_shape tuple3_string_note_option_string_definitions tuple3_string_note_option_string_parts
tuple3_string_note_option_string_has_parts = is_record tuple3_string_note_option_string_definitions tuple3_string_note_option_string_parts

pub note_has_variants : IsChoice note_definitions note_shape note_name note_variant_definitions note_variants
note_has_variants = is_recursive_choice note_name note_variant_definitions note_variants (λ s k. (knows_both s _ _ (knows_both s _ _ (knows_none s k.laid_out) (knows_none s k.laid_out)) (knows_both s _ _ (knows_both s _ _ (knows_both s _ _ (knows_none s k.laid_out) (knows_both s _ _ (knows_none s k.laid_out) (knows_none s k.laid_out))) (knows_none s k.laid_out)) (knows_both s _ _ (knows_both s _ _ (knows_both s _ _ (knows_none s k.laid_out) (knows_both s _ _ k (knows_both s _ _ (knows_none s k.laid_out) (knows_none s k.laid_out)))) (knows_none s k.laid_out)) (knows_both s _ _ (knows_both s _ _ (knows_none s k.laid_out) (knows_none s k.laid_out)) (knows_both s _ _ (knows_both s _ _ (knows_none s k.laid_out) (knows_none s k.laid_out)) (knows_both s _ _ (knows_both s _ _ k (knows_none s k.laid_out)) (knows_both s _ _ (knows_both s _ _ k (knows_both s _ _ k (knows_none s k.laid_out))) (knows_both s _ _ (knows_both s _ _ k (knows_none s k.laid_out)) (knows_none s k.laid_out))))))))))
