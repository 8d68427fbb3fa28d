-- What an archived Rule looks like. Written by tools/derive: change the declaration, and run it again.
use Rattle.archive_core.specs.Definitions.{Definitions, defines, both, no_definition, HasLayout, IsAlign, NoOthers}
use Rattle.archive_core.specs.Held.{knows_both}
use Rattle.archive_core.specs.Layout.{Layout}
use Rattle.archive_core.specs.NamedLayout.{name_has_layout, name_reached}
use Rattle.archive_core.specs.PartsLayout.{IsRecord, by_name, knows_none}
use Rattle.archive_core.specs.Shape.{Name, Shape, Parts, named, parts, boxed, array, run, text, leaf, unsigned, part, no_part, number as number_kind}
use Rattle.std.proofs.Common.{inl, inr}
use Rattle.std.specs.Int.{w8, w16, w32}
use Rattle.std.specs.Prelude.{refl, codes}

abbrev pub rule_name : Name
rule_name = codes "ArchivedRule"

abbrev pub rule_shape : Shape
rule_shape = named rule_name

abbrev pub rule_parts : Parts
rule_parts = (part (boxed text) (part (array 4 (leaf (number_kind unsigned w8))) (part (boxed (run (leaf (number_kind unsigned w16)))) (part (leaf (number_kind unsigned w32)) (part (boxed (run rule_shape)) no_part)))))

abbrev pub rule_stands_for : Shape
rule_stands_for = parts rule_parts

abbrev pub rule_definitions : Definitions
rule_definitions = defines rule_name rule_stands_for

abbrev pub rule_layout : Layout
rule_layout = record { size = 32; align = 4 }

pub rule_is_align : IsAlign 4
rule_is_align = inr (inr (inl refl))

pub rule_has_layout : HasLayout rule_definitions rule_shape rule_layout
rule_has_layout = name_has_layout rule_name rule_stands_for rule_layout (λ s k. refl)

pub rule_no_others : NoOthers rule_definitions rule_shape
rule_no_others = name_reached rule_name rule_stands_for

abbrev pub rule_part_definitions : Definitions
rule_part_definitions = (both no_definition (both no_definition (both no_definition (both no_definition (both rule_definitions no_definition)))))

pub rule_has_parts : IsRecord rule_definitions rule_shape rule_part_definitions rule_parts
rule_has_parts = record { stands = λ s k. by_name k.has; known = λ s k. (knows_both s _ _ (knows_none s k.laid_out) (knows_both s _ _ (knows_none s k.laid_out) (knows_both s _ _ (knows_none s k.laid_out) (knows_both s _ _ (knows_none s k.laid_out) (knows_both s _ _ k (knows_none s k.laid_out)))))) }
