-- What an archived Dir and an archived Entry looks like. Written by tools/derive: change the declaration, and run it again.
use Rattle.archive_core.specs.Defined.{Involves, involves, involves_through, mentions_held, mentions_first, mentions_later, mentions_parts, mentions_variant, mentions_other, mentions_choice, mentions_boxed, mentions_one, mentions_vec, holds_name}
use Rattle.archive_core.specs.Definitions.{Definitions, defines, both, no_definition, HasLayout, IsAlign, NoOthers, listed}
use Rattle.archive_core.specs.Held.{member_has_layout, knows_both}
use Rattle.archive_core.specs.Layout.{Layout}
use Rattle.archive_core.specs.PartsLayout.{IsRecord, by_name, knows_none}
use Rattle.archive_core.specs.Shape.{Name, Shape, Parts, Variants, named, choice, parts, boxed, vec, str, one, leaf, unsigned, part, no_part, variant, no_variant, number as number_kind}
use Rattle.archive_core.specs.VariantsLayout.{IsChoice}
use Rattle.std.proofs.Common.{ap, subst, inl, inr, zero, suc, arith}
use Rattle.std.specs.Int.{w64}
use Rattle.std.specs.Prelude.{refl, codes}

abbrev pub dir_name : Name
dir_name = codes "ArchivedDir"

abbrev pub dir_shape : Shape
dir_shape = named dir_name

abbrev pub entry_name : Name
entry_name = codes "ArchivedEntry"

abbrev pub entry_shape : Shape
entry_shape = named entry_name

abbrev pub dir_parts : Parts
dir_parts = (part str (part (vec entry_shape) no_part))

abbrev pub dir_stands_for : Shape
dir_stands_for = parts dir_parts

abbrev pub entry_file_parts : Parts
entry_file_parts = (part (leaf (number_kind unsigned w64)) no_part)

abbrev pub entry_sub_parts : Parts
entry_sub_parts = (part (boxed (one dir_shape)) no_part)

abbrev pub entry_variants : Variants
entry_variants = (variant entry_file_parts (variant entry_sub_parts no_variant))

abbrev pub entry_stands_for : Shape
entry_stands_for = choice entry_name entry_variants

abbrev pub dir_definitions : Definitions
dir_definitions = both (defines dir_name dir_stands_for) (defines entry_name entry_stands_for)

abbrev pub dir_layout : Layout
dir_layout = record { size = 16; align = 4 }

pub dir_is_align : IsAlign 4
dir_is_align = inr (inr (inl refl))

pub dir_has_layout : HasLayout dir_definitions dir_shape dir_layout
dir_has_layout = member_has_layout dir_definitions dir_name dir_stands_for dir_layout (λ s k. k.has.0) (λ s k. refl)

pub dir_no_others : NoOthers dir_definitions dir_shape
dir_no_others m Y (zero, l, e) = subst (λ q. Involves (listed dir_definitions) q dir_shape) (ap (λ (p : Name × Shape). p.0) e) (involves (mentions_held holds_name))
dir_no_others m Y (suc zero, l, e) = subst (λ q. Involves (listed dir_definitions) q dir_shape) (ap (λ (p : Name × Shape). p.0) e) (involves_through (mentions_held holds_name) (zero, omega arith, refl) (involves (mentions_parts (mentions_later (mentions_first (mentions_vec (mentions_held holds_name)))))))
dir_no_others m Y (suc (suc i), l, e) = absurd (omega (arith, l))

abbrev pub entry_definitions : Definitions
entry_definitions = both (defines dir_name dir_stands_for) (defines entry_name entry_stands_for)

abbrev pub entry_layout : Layout
entry_layout = record { size = 16; align = 8 }

pub entry_is_align : IsAlign 8
entry_is_align = inr (inr (inr (inl refl)))

pub entry_has_layout : HasLayout entry_definitions entry_shape entry_layout
entry_has_layout = member_has_layout entry_definitions entry_name entry_stands_for entry_layout (λ s k. k.has.1) (λ s k. refl)

pub entry_no_others : NoOthers entry_definitions entry_shape
entry_no_others m Y (zero, l, e) = subst (λ q. Involves (listed entry_definitions) q entry_shape) (ap (λ (p : Name × Shape). p.0) e) (involves_through (mentions_held holds_name) (suc zero, omega arith, refl) (involves (mentions_choice (mentions_other (mentions_variant (mentions_first (mentions_boxed (mentions_one (mentions_held holds_name)))))))))
entry_no_others m Y (suc zero, l, e) = subst (λ q. Involves (listed entry_definitions) q entry_shape) (ap (λ (p : Name × Shape). p.0) e) (involves (mentions_held holds_name))
entry_no_others m Y (suc (suc i), l, e) = absurd (omega (arith, l))

abbrev pub dir_part_definitions : Definitions
dir_part_definitions = (both no_definition (both dir_definitions no_definition))

pub dir_has_parts : IsRecord dir_definitions dir_shape dir_part_definitions dir_parts
dir_has_parts = record { stands = λ s k. by_name k.has.0; known = λ s k. (knows_both s _ _ (knows_none s k.laid_out) (knows_both s _ _ k (knows_none s k.laid_out))) }

abbrev pub entry_file_definitions : Definitions
entry_file_definitions = (both no_definition no_definition)

abbrev pub entry_sub_definitions : Definitions
entry_sub_definitions = (both entry_definitions no_definition)

abbrev pub entry_variant_definitions : Definitions
entry_variant_definitions = (both entry_file_definitions (both entry_sub_definitions no_definition))

pub entry_has_variants : IsChoice entry_definitions entry_shape entry_name entry_variant_definitions entry_variants
entry_has_variants = record { stands = λ s k. by_name k.has.1; known = λ s k. (knows_both s _ _ (knows_both s _ _ (knows_none s k.laid_out) (knows_none s k.laid_out)) (knows_both s _ _ (knows_both s _ _ k (knows_none s k.laid_out)) (knows_none s k.laid_out))) }
