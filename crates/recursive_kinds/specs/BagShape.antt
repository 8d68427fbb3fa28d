-- What an archived Bag looks like. Written by tools/derive: change the declaration, and run it again.
use Rattle.archive_core.specs.Choices.{option_shape}
use Rattle.archive_core.specs.Definitions.{Definitions, defines, both, no_definition, HasLayout, IsAlign, NoOthers}
use Rattle.archive_core.specs.Held.{knows_both}
use Rattle.archive_core.specs.Layout.{Layout}
use Rattle.archive_core.specs.NamedLayout.{name_has_layout, name_reached}
use Rattle.archive_core.specs.PartsLayout.{IsRecord, by_name, knows_none}
use Rattle.archive_core.specs.Shape.{Name, Shape, Parts, named, parts, boxed, shared, one, run, part, no_part}
use Rattle.archive_core.specs.SharedSources.{rc_flavor}
use Rattle.std.proofs.Common.{inl, inr}
use Rattle.std.specs.Prelude.{refl, codes}

abbrev pub bag_name : Name
bag_name = codes "ArchivedBag"

abbrev pub bag_shape : Shape
bag_shape = named bag_name

abbrev pub bag_parts : Parts
bag_parts = (part (option_shape (boxed (one bag_shape))) (part (shared rc_flavor (run bag_shape)) no_part))

abbrev pub bag_stands_for : Shape
bag_stands_for = parts bag_parts

abbrev pub bag_definitions : Definitions
bag_definitions = defines bag_name bag_stands_for

abbrev pub bag_layout : Layout
bag_layout = record { size = 16; align = 4 }

pub bag_is_align : IsAlign 4
bag_is_align = inr (inr (inl refl))

pub bag_has_layout : HasLayout bag_definitions bag_shape bag_layout
bag_has_layout = name_has_layout bag_name bag_stands_for bag_layout (λ s k. refl)

pub bag_no_others : NoOthers bag_definitions bag_shape
bag_no_others = name_reached bag_name bag_stands_for

abbrev pub bag_part_definitions : Definitions
bag_part_definitions = (both bag_definitions (both bag_definitions no_definition))

pub bag_has_parts : IsRecord bag_definitions bag_shape bag_part_definitions bag_parts
bag_has_parts = record { stands = λ s k. by_name k.has; known = λ s k. (knows_both s _ _ k (knows_both s _ _ k (knows_none s k.laid_out))) }
