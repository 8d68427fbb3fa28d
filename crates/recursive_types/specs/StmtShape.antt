-- What an archived Stmt looks like. Written by tools/derive: change the declaration, and run it again.
use Rattle.archive_core.specs.Choices.{option_has_layout, option_shape}
use Rattle.archive_core.specs.Defined.{Involves, involves, involves_through, mentions_held, mentions_first, mentions_variant, mentions_choice, holds_name}
use Rattle.archive_core.specs.Definitions.{Definitions, defines, both, no_definition, HasLayout, IsAlign, NoOthers, listed}
use Rattle.archive_core.specs.Held.{member_has_layout, knows_both}
use Rattle.archive_core.specs.Layout.{Layout}
use Rattle.archive_core.specs.NoOthers.{around_reached}
use Rattle.archive_core.specs.PartsLayout.{by_name, knows_none, no_part_laid_out, part_laid_out, knows_right}
use Rattle.archive_core.specs.Shape.{Name, Shape, Parts, Variants, named, choice, vec, part, no_part, variant, no_variant, Table}
use Rattle.archive_core.specs.VariantsLayout.{IsChoice, no_variant_laid_out, variant_laid_out}
use Rattle.std.proofs.Common.{ap, subst, inl, inr, zero, suc, arith, Contains}
use Rattle.std.proofs.lemmas.List.Elements.{Contains-append_right}
use Rattle.std.specs.Prelude.{refl, codes}
use Rattle.recursive_types.specs.ExprShape.{expr_shape as shape_of_expr, expr_definitions as definitions_of_expr, expr_has_layout as has_layout_of_expr, expr_no_others as no_others_of_expr}

abbrev pub stmt_name : Name
stmt_name = codes "ArchivedStmt"

abbrev pub stmt_shape : Shape
stmt_shape = named stmt_name

abbrev pub stmt_set_parts : Parts
stmt_set_parts = (part shape_of_expr (part (option_shape shape_of_expr) no_part))

abbrev pub stmt_block_parts : Parts
stmt_block_parts = (part (vec stmt_shape) no_part)

abbrev pub stmt_variants : Variants
stmt_variants = (variant stmt_set_parts (variant stmt_block_parts no_variant))

abbrev pub stmt_stands_for : Shape
stmt_stands_for = choice stmt_name stmt_variants

abbrev pub stmt_definitions : Definitions
stmt_definitions = both (defines stmt_name stmt_stands_for) definitions_of_expr

abbrev pub stmt_set_definitions : Definitions
stmt_set_definitions = (both definitions_of_expr (both definitions_of_expr no_definition))

abbrev pub stmt_block_definitions : Definitions
stmt_block_definitions = (both stmt_definitions no_definition)

abbrev pub stmt_variant_definitions : Definitions
stmt_variant_definitions = (both stmt_set_definitions (both stmt_block_definitions no_definition))

stmt_more : {old new : Table} {m : Name} {X : Shape} → ((o : Name) (Y : Shape) → Contains old (o, Y) → Contains new (o, Y)) → Involves old m X → Involves new m X
stmt_more more (involves m) = involves m
stmt_more more (involves_through m c i) = involves_through m (more _ _ c) (stmt_more more i)

stmt_reaches_expr : NoOthers definitions_of_expr stmt_stands_for
stmt_reaches_expr = around_reached definitions_of_expr shape_of_expr stmt_stands_for (λ _ m. mentions_choice (mentions_variant (mentions_first m))) no_others_of_expr

abbrev pub stmt_layout : Layout
stmt_layout = record { size = 64; align = 8 }

pub stmt_is_align : IsAlign 8
stmt_is_align = inr (inr (inr (inl refl)))

pub stmt_has_layout : HasLayout stmt_definitions stmt_shape stmt_layout
stmt_has_layout = member_has_layout stmt_definitions stmt_name stmt_stands_for stmt_layout (λ s k. k.has.0) (λ s k. (let its = (variant_laid_out stmt_set_definitions (both stmt_block_definitions no_definition) stmt_set_parts _ _ _ (part_laid_out definitions_of_expr (both definitions_of_expr no_definition) shape_of_expr (record { size = 24; align = 8 }) has_layout_of_expr (part (option_shape shape_of_expr) no_part) _ _ _ (part_laid_out definitions_of_expr no_definition (option_shape shape_of_expr) (record { size = 32; align = 8 }) (option_has_layout definitions_of_expr shape_of_expr (record { size = 24; align = 8 }) (inr (inr (inr (inl refl)))) has_layout_of_expr) no_part _ _ _ no_part_laid_out)) (variant stmt_block_parts no_variant) _ _ _ (variant_laid_out stmt_block_definitions no_definition stmt_block_parts _ _ _ (part_laid_out stmt_definitions no_definition (vec stmt_shape) (record { size = 8; align = 4 }) (record { solved = λ s k. refl }) no_part _ _ _ no_part_laid_out) no_variant _ _ _ no_variant_laid_out)) in let known = (knows_both s _ _ (knows_both s _ _ (knows_right s _ _ k) (knows_both s _ _ (knows_right s _ _ k) (knows_none s k.laid_out))) (knows_both s _ _ (knows_both s _ _ k (knows_none s k.laid_out)) (knows_none s k.laid_out))) in rw (its.aligned s known, its.ends s known) refl))

pub stmt_no_others : NoOthers stmt_definitions stmt_shape
stmt_no_others m Y (zero, l, e) = subst (λ q. Involves (listed stmt_definitions) q stmt_shape) (ap (λ (p : Name × Shape). p.0) e) (involves (mentions_held holds_name))
stmt_no_others m Y (suc i, l, e) = (involves_through (mentions_held holds_name) (zero, omega arith, refl) (stmt_more (λ o Z i. (Contains-append_right (listed (defines stmt_name stmt_stands_for)) (listed definitions_of_expr) (o, Z) i)) (stmt_reaches_expr m Y (i, omega (arith, l), e))))

pub stmt_has_variants : IsChoice stmt_definitions stmt_shape stmt_name stmt_variant_definitions stmt_variants
stmt_has_variants = record { stands = λ s k. by_name k.has.0; known = λ s k. (knows_both s _ _ (knows_both s _ _ (knows_right s _ _ k) (knows_both s _ _ (knows_right s _ _ k) (knows_none s k.laid_out))) (knows_both s _ _ (knows_both s _ _ k (knows_none s k.laid_out)) (knows_none s k.laid_out))) }
