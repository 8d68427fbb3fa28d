-- What an archived Search looks like. Written by tools/derive: change the declaration, and run it again.
use Rattle.archive_core.specs.Choices.{option_shape}
use Rattle.archive_core.specs.Definitions.{Definitions, defines, both, no_definition, HasLayout, IsAlign, NoOthers}
use Rattle.archive_core.specs.Held.{knows_both}
use Rattle.archive_core.specs.Layout.{Layout}
use Rattle.archive_core.specs.NamedLayout.{name_has_layout, name_reached}
use Rattle.archive_core.specs.PartsLayout.{IsRecord, by_name, knows_none}
use Rattle.archive_core.specs.Shape.{Name, Shape, Parts, named, parts, boxed, one, leaf, unsigned, part, no_part, number as number_kind}
use Rattle.std.proofs.Common.{inl, inr}
use Rattle.std.specs.Int.{w32}
use Rattle.std.specs.Prelude.{refl, codes}

abbrev pub search_name : Name
search_name = codes "ArchivedSearch"

abbrev pub search_shape : Shape
search_shape = named search_name

abbrev pub search_parts : Parts
search_parts = (part (option_shape (boxed (one search_shape))) (part (leaf (number_kind unsigned w32)) (part (option_shape (boxed (one search_shape))) no_part)))

abbrev pub search_stands_for : Shape
search_stands_for = parts search_parts

abbrev pub search_definitions : Definitions
search_definitions = defines search_name search_stands_for

abbrev pub search_layout : Layout
search_layout = record { size = 20; align = 4 }

pub search_is_align : IsAlign 4
search_is_align = inr (inr (inl refl))

pub search_has_layout : HasLayout search_definitions search_shape search_layout
search_has_layout = name_has_layout search_name search_stands_for search_layout (λ s k. refl)

pub search_no_others : NoOthers search_definitions search_shape
search_no_others = name_reached search_name search_stands_for

abbrev pub search_part_definitions : Definitions
search_part_definitions = (both search_definitions (both no_definition (both search_definitions no_definition)))

pub search_has_parts : IsRecord search_definitions search_shape search_part_definitions search_parts
search_has_parts = record { stands = λ s k. by_name k.has; known = λ s k. (knows_both s _ _ k (knows_both s _ _ (knows_none s k.laid_out) (knows_both s _ _ k (knows_none s k.laid_out)))) }
