-- What an archived Bush looks like. Written by tools/derive: change the declaration, and run it again.
use Rattle.archive_core.specs.Choices.{option_shape}
use Rattle.archive_core.specs.Definitions.{Definitions, defines, both, no_definition, HasLayout, IsAlign, NoOthers}
use Rattle.archive_core.specs.Held.{knows_both}
use Rattle.archive_core.specs.Layout.{Layout}
use Rattle.archive_core.specs.NamedLayout.{name_has_layout, name_reached}
use Rattle.archive_core.specs.PartsLayout.{IsRecord, by_name, knows_none}
use Rattle.archive_core.specs.Shape.{Name, Shape, Parts, named, parts, boxed, vec, one, leaf, unsigned, part, no_part, number as number_kind}
use Rattle.std.proofs.Common.{inl, inr}
use Rattle.std.specs.Int.{w32}
use Rattle.std.specs.Prelude.{refl, codes}

abbrev pub bush_name : Name
bush_name = codes "ArchivedBush"

abbrev pub bush_shape : Shape
bush_shape = named bush_name

abbrev pub bush_parts : Parts
bush_parts = (part (leaf (number_kind unsigned w32)) (part (vec (option_shape (boxed (one bush_shape)))) (part (vec (boxed (one bush_shape))) no_part)))

abbrev pub bush_stands_for : Shape
bush_stands_for = parts bush_parts

abbrev pub bush_definitions : Definitions
bush_definitions = defines bush_name bush_stands_for

abbrev pub bush_layout : Layout
bush_layout = record { size = 20; align = 4 }

pub bush_is_align : IsAlign 4
bush_is_align = inr (inr (inl refl))

pub bush_has_layout : HasLayout bush_definitions bush_shape bush_layout
bush_has_layout = name_has_layout bush_name bush_stands_for bush_layout (λ s k. refl)

pub bush_no_others : NoOthers bush_definitions bush_shape
bush_no_others = name_reached bush_name bush_stands_for

abbrev pub bush_part_definitions : Definitions
bush_part_definitions = (both no_definition (both bush_definitions (both bush_definitions no_definition)))

pub bush_has_parts : IsRecord bush_definitions bush_shape bush_part_definitions bush_parts
bush_has_parts = record { stands = λ s k. by_name k.has; known = λ s k. (knows_both s _ _ (knows_none s k.laid_out) (knows_both s _ _ k (knows_both s _ _ k (knows_none s k.laid_out)))) }
