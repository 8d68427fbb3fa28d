-- What an archived Node looks like. Written by tools/derive: change the declaration, and run it again.
use Rattle.archive_core.specs.Definitions.{Definitions, defines, both, no_definition, HasLayout, IsAlign, Knows, NoOthers}
use Rattle.archive_core.specs.Held.{knows_both}
use Rattle.archive_core.specs.Layout.{Layout}
use Rattle.archive_core.specs.NamedLayout.{name_has_layout, name_reached}
use Rattle.archive_core.specs.PartsLayout.{knows_none}
use Rattle.archive_core.specs.Reads.{SchemaTable}
use Rattle.archive_core.specs.SelfCheck.Laws.{IsCheckOf, by_schema, own_check}
use Rattle.archive_core.specs.Shape.{Name, Shape, Parts, Variants, named, choice, boxed, one, part, no_part, variant, no_variant}
use Rattle.archive_core.specs.VariantsLayout.{IsChoice, is_recursive_choice}
use Rattle.std.proofs.Common.{inl, inr}
use Rattle.std.specs.Prelude.{[], refl, codes, false, ◌∷◌}

abbrev pub node_name : Name
node_name = codes "ArchivedNode"

abbrev pub node_shape : Shape
node_shape = named node_name

abbrev pub node_nil_parts : Parts
node_nil_parts = no_part

abbrev pub node_cons_parts : Parts
node_cons_parts = (part (boxed (one node_shape)) no_part)

abbrev pub node_variants : Variants
node_variants = (variant node_nil_parts (variant node_cons_parts no_variant))

abbrev pub node_stands_for : Shape
node_stands_for = choice node_name node_variants

abbrev pub node_definitions : Definitions
node_definitions = defines node_name node_stands_for

abbrev pub node_layout : Layout
node_layout = record { size = 8; align = 4 }

pub node_is_align : IsAlign 4
node_is_align = inr (inr (inl refl))

pub node_has_layout : HasLayout node_definitions node_shape node_layout
node_has_layout = name_has_layout node_name node_stands_for node_layout (λ s k. refl)

pub node_no_others : NoOthers node_definitions node_shape
node_no_others = name_reached node_name node_stands_for

abbrev pub node_nil_definitions : Definitions
node_nil_definitions = no_definition

abbrev pub node_cons_definitions : Definitions
node_cons_definitions = (both node_definitions no_definition)

abbrev pub node_variant_definitions : Definitions
node_variant_definitions = (both node_nil_definitions (both node_cons_definitions no_definition))

pub node_has_variants : IsChoice node_definitions node_shape node_name node_variant_definitions node_variants
node_has_variants = is_recursive_choice node_name node_variant_definitions node_variants (λ s k. (knows_both s _ _ (knows_none s k.laid_out) (knows_both s _ _ (knows_both s _ _ k (knows_none s k.laid_out)) (knows_none s k.laid_out))))

-- who knows the name knows what is brought before boxes
pub node_chain_known : (s : SchemaTable) → Knows s node_definitions → Knows s (both no_definition (both no_definition no_definition))
node_chain_known s k = (knows_both s _ _ (knows_none s k.laid_out) (knows_both s _ _ (knows_none s k.laid_out) (knows_none s k.laid_out)))

-- the loop is a check of the type
pub node_checked : IsCheckOf node_definitions node_shape 8 node_definitions node_shape 8 false
node_checked = own_check node_definitions node_shape 8 ((node_name, node_stands_for) ∷ []) false refl (record { has = (refl, tt); only = (refl, tt); once = (refl, tt); root = refl; closed = (refl, tt); placed = (refl, tt) }) (λ says. by_schema says)
