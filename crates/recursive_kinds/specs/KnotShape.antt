-- What an archived Knot looks like. Written by tools/derive: change the declaration, and run it again.
use Rattle.archive_core.specs.Definitions.{Definitions, defines, both, no_definition, HasLayout, IsAlign, NoOthers}
use Rattle.archive_core.specs.Held.{knows_both}
use Rattle.archive_core.specs.Layout.{Layout}
use Rattle.archive_core.specs.NamedLayout.{name_has_layout, name_reached}
use Rattle.archive_core.specs.PartsLayout.{IsRecord, by_name, knows_none}
use Rattle.archive_core.specs.Shape.{Name, Shape, Parts, named, parts, shared, vec, one, leaf, unsigned, part, no_part, number as number_kind}
use Rattle.archive_core.specs.SharedSources.{rc_flavor}
use Rattle.std.proofs.Common.{inl, inr}
use Rattle.std.specs.Int.{w32}
use Rattle.std.specs.Prelude.{refl, codes}

abbrev pub knot_name : Name
knot_name = codes "ArchivedKnot"

abbrev pub knot_shape : Shape
knot_shape = named knot_name

abbrev pub knot_parts : Parts
knot_parts = (part (leaf (number_kind unsigned w32)) (part (vec (shared rc_flavor (one knot_shape))) no_part))

abbrev pub knot_stands_for : Shape
knot_stands_for = parts knot_parts

abbrev pub knot_definitions : Definitions
knot_definitions = defines knot_name knot_stands_for

abbrev pub knot_layout : Layout
knot_layout = record { size = 12; align = 4 }

pub knot_is_align : IsAlign 4
knot_is_align = inr (inr (inl refl))

pub knot_has_layout : HasLayout knot_definitions knot_shape knot_layout
knot_has_layout = name_has_layout knot_name knot_stands_for knot_layout (λ s k. refl)

pub knot_no_others : NoOthers knot_definitions knot_shape
knot_no_others = name_reached knot_name knot_stands_for

abbrev pub knot_part_definitions : Definitions
knot_part_definitions = (both no_definition (both knot_definitions no_definition))

pub knot_has_parts : IsRecord knot_definitions knot_shape knot_part_definitions knot_parts
knot_has_parts = record { stands = λ s k. by_name k.has; known = λ s k. (knows_both s _ _ (knows_none s k.laid_out) (knows_both s _ _ k (knows_none s k.laid_out))) }
