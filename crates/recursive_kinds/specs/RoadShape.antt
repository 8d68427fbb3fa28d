-- What an archived Road looks like. Written by tools/derive: change the declaration, and run it again.
use Rattle.archive_core.specs.Choices.{option_shape}
use Rattle.archive_core.specs.Definitions.{Definitions, defines, both, no_definition, HasLayout, IsAlign, NoOthers}
use Rattle.archive_core.specs.Held.{knows_both}
use Rattle.archive_core.specs.Layout.{Layout}
use Rattle.archive_core.specs.NamedLayout.{name_has_layout, name_reached}
use Rattle.archive_core.specs.PartsLayout.{knows_none}
use Rattle.archive_core.specs.Shape.{Name, Shape, Parts, Variants, named, choice, shared, weak, one, leaf, unsigned, part, no_part, variant, no_variant, number as number_kind}
use Rattle.archive_core.specs.SharedSources.{rc_flavor}
use Rattle.archive_core.specs.VariantsLayout.{IsChoice, is_recursive_choice}
use Rattle.std.proofs.Common.{inl, inr}
use Rattle.std.specs.Int.{w8}
use Rattle.std.specs.Prelude.{refl, codes}

abbrev pub road_name : Name
road_name = codes "ArchivedRoad"

abbrev pub road_shape : Shape
road_shape = named road_name

abbrev pub road_way_parts : Parts
road_way_parts = (part (leaf (number_kind unsigned w8)) (part (option_shape (shared rc_flavor (one road_shape))) no_part))

abbrev pub road_detour_parts : Parts
road_detour_parts = (part (shared rc_flavor (one road_shape)) (part (weak rc_flavor (one road_shape)) no_part))

abbrev pub road_variants : Variants
road_variants = (variant road_way_parts (variant road_detour_parts no_variant))

abbrev pub road_stands_for : Shape
road_stands_for = choice road_name road_variants

abbrev pub road_definitions : Definitions
road_definitions = defines road_name road_stands_for

abbrev pub road_layout : Layout
road_layout = record { size = 12; align = 4 }

pub road_is_align : IsAlign 4
road_is_align = inr (inr (inl refl))

pub road_has_layout : HasLayout road_definitions road_shape road_layout
road_has_layout = name_has_layout road_name road_stands_for road_layout (λ s k. refl)

pub road_no_others : NoOthers road_definitions road_shape
road_no_others = name_reached road_name road_stands_for

abbrev pub road_way_definitions : Definitions
road_way_definitions = (both no_definition (both road_definitions no_definition))

abbrev pub road_detour_definitions : Definitions
road_detour_definitions = (both road_definitions (both road_definitions no_definition))

abbrev pub road_variant_definitions : Definitions
road_variant_definitions = (both road_way_definitions (both road_detour_definitions no_definition))

pub road_has_variants : IsChoice road_definitions road_shape road_name road_variant_definitions road_variants
road_has_variants = is_recursive_choice road_name road_variant_definitions road_variants (λ s k. (knows_both s _ _ (knows_both s _ _ (knows_none s k.laid_out) (knows_both s _ _ k (knows_none s k.laid_out))) (knows_both s _ _ (knows_both s _ _ k (knows_both s _ _ k (knows_none s k.laid_out))) (knows_none s k.laid_out))))
