-- What an archived Json and an archived Member looks like. Written by tools/derive: change the declaration, and run it again.
use Rattle.archive_core.specs.Defined.{Involves, involves, involves_through, mentions_held, mentions_first, mentions_later, mentions_parts, mentions_variant, mentions_other, mentions_choice, mentions_vec, holds_name}
use Rattle.archive_core.specs.Definitions.{Definitions, defines, both, no_definition, HasLayout, IsAlign, NoOthers, listed}
use Rattle.archive_core.specs.Held.{member_has_layout, knows_both}
use Rattle.archive_core.specs.Layout.{Layout}
use Rattle.archive_core.specs.PartsLayout.{IsRecord, by_name, knows_none, no_part_laid_out, part_laid_out, record_has_layout}
use Rattle.archive_core.specs.Shape.{Name, Shape, Parts, Variants, named, choice, parts, vec, str, leaf, signed, part, no_part, variant, no_variant, number as number_kind}
use Rattle.archive_core.specs.VariantsLayout.{IsChoice}
use Rattle.std.proofs.Common.{ap, subst, inl, inr, zero, suc, arith}
use Rattle.std.specs.Int.{w64}
use Rattle.std.specs.Prelude.{refl, codes}

abbrev pub json_name : Name
json_name = codes "ArchivedJson"

abbrev pub json_shape : Shape
json_shape = named json_name

abbrev pub member_type_name : Name
member_type_name = codes "ArchivedMember"

abbrev pub member_type_shape : Shape
member_type_shape = named member_type_name

abbrev pub json_null_parts : Parts
json_null_parts = no_part

abbrev pub json_number_parts : Parts
json_number_parts = (part (parts (part (leaf (number_kind signed w64)) no_part)) no_part)

abbrev pub json_text_parts : Parts
json_text_parts = (part str no_part)

abbrev pub json_list_parts : Parts
json_list_parts = (part (vec json_shape) no_part)

abbrev pub json_object_parts : Parts
json_object_parts = (part (vec member_type_shape) no_part)

abbrev pub json_variants : Variants
json_variants = (variant json_null_parts (variant json_number_parts (variant json_text_parts (variant json_list_parts (variant json_object_parts no_variant)))))

abbrev pub json_stands_for : Shape
json_stands_for = choice json_name json_variants

abbrev pub member_type_parts : Parts
member_type_parts = (part str (part json_shape no_part))

abbrev pub member_type_stands_for : Shape
member_type_stands_for = parts member_type_parts

abbrev pub json_definitions : Definitions
json_definitions = both (defines json_name json_stands_for) (defines member_type_name member_type_stands_for)

abbrev pub json_null_definitions : Definitions
json_null_definitions = no_definition

abbrev pub json_number_definitions : Definitions
json_number_definitions = (both no_definition no_definition)

abbrev pub json_text_definitions : Definitions
json_text_definitions = (both no_definition no_definition)

abbrev pub json_list_definitions : Definitions
json_list_definitions = (both json_definitions no_definition)

abbrev pub json_object_definitions : Definitions
json_object_definitions = (both json_definitions no_definition)

abbrev pub json_variant_definitions : Definitions
json_variant_definitions = (both json_null_definitions (both json_number_definitions (both json_text_definitions (both json_list_definitions (both json_object_definitions no_definition)))))

abbrev pub member_type_definitions : Definitions
member_type_definitions = both (defines json_name json_stands_for) (defines member_type_name member_type_stands_for)

abbrev pub member_type_part_definitions : Definitions
member_type_part_definitions = (both no_definition (both member_type_definitions no_definition))

abbrev pub json_layout : Layout
json_layout = record { size = 16; align = 8 }

pub json_is_align : IsAlign 8
json_is_align = inr (inr (inr (inl refl)))

pub json_has_layout : HasLayout json_definitions json_shape json_layout
json_has_layout = member_has_layout json_definitions json_name json_stands_for json_layout (λ s k. k.has.0) (λ s k. refl)

pub json_no_others : NoOthers json_definitions json_shape
json_no_others m Y (zero, l, e) = subst (λ q. Involves (listed json_definitions) q json_shape) (ap (λ (p : Name × Shape). p.0) e) (involves (mentions_held holds_name))
json_no_others m Y (suc zero, l, e) = subst (λ q. Involves (listed json_definitions) q json_shape) (ap (λ (p : Name × Shape). p.0) e) (involves_through (mentions_held holds_name) (zero, omega arith, refl) (involves (mentions_choice (mentions_other (mentions_other (mentions_other (mentions_other (mentions_variant (mentions_first (mentions_vec (mentions_held holds_name)))))))))))
json_no_others m Y (suc (suc i), l, e) = absurd (omega (arith, l))

abbrev pub member_type_layout : Layout
member_type_layout = record { size = 24; align = 8 }

pub member_type_is_align : IsAlign 8
member_type_is_align = inr (inr (inr (inl refl)))

pub member_type_has_layout : HasLayout member_type_definitions member_type_shape member_type_layout
member_type_has_layout = member_has_layout member_type_definitions member_type_name member_type_stands_for member_type_layout (λ s k. k.has.1) (λ s k. (record_has_layout member_type_part_definitions member_type_parts _ _ _ (part_laid_out no_definition (both member_type_definitions no_definition) str (record { size = 8; align = 4 }) (record { solved = λ s k. refl }) (part json_shape no_part) _ _ _ (part_laid_out member_type_definitions no_definition json_shape (record { size = 16; align = 8 }) json_has_layout no_part _ _ _ no_part_laid_out))).solved s (knows_both s _ _ (knows_none s k.laid_out) (knows_both s _ _ k (knows_none s k.laid_out))))

pub member_type_no_others : NoOthers member_type_definitions member_type_shape
member_type_no_others m Y (zero, l, e) = subst (λ q. Involves (listed member_type_definitions) q member_type_shape) (ap (λ (p : Name × Shape). p.0) e) (involves_through (mentions_held holds_name) (suc zero, omega arith, refl) (involves (mentions_parts (mentions_later (mentions_first (mentions_held holds_name))))))
member_type_no_others m Y (suc zero, l, e) = subst (λ q. Involves (listed member_type_definitions) q member_type_shape) (ap (λ (p : Name × Shape). p.0) e) (involves (mentions_held holds_name))
member_type_no_others m Y (suc (suc i), l, e) = absurd (omega (arith, l))

pub json_has_variants : IsChoice json_definitions json_shape json_name json_variant_definitions json_variants
json_has_variants = record { stands = λ s k. by_name k.has.0; known = λ s k. (knows_both s _ _ (knows_none s k.laid_out) (knows_both s _ _ (knows_both s _ _ (knows_none s k.laid_out) (knows_none s k.laid_out)) (knows_both s _ _ (knows_both s _ _ (knows_none s k.laid_out) (knows_none s k.laid_out)) (knows_both s _ _ (knows_both s _ _ k (knows_none s k.laid_out)) (knows_both s _ _ (knows_both s _ _ k (knows_none s k.laid_out)) (knows_none s k.laid_out)))))) }

pub member_type_has_parts : IsRecord member_type_definitions member_type_shape member_type_part_definitions member_type_parts
member_type_has_parts = record { stands = λ s k. by_name k.has.1; known = λ s k. (knows_both s _ _ (knows_none s k.laid_out) (knows_both s _ _ k (knows_none s k.laid_out))) }
