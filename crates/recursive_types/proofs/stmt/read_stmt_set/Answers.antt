-- Written by tools/derive: change the declaration, and run it again.
use Rattle.archive_core.proofs.ReadChoices.{variant_read_back, variant_refuses}
use Rattle.archive_core.proofs.ReadRecords.{first_refuses, later_refuses}
use Rattle.archive_core.specs.Choices.{option_has_layout, option_shape}
use Rattle.archive_core.specs.Definitions.{both, no_definition}
use Rattle.archive_core.specs.Held.{read_as}
use Rattle.archive_core.specs.Options.{option_keys}
use Rattle.archive_core.specs.PartsReading.{part_read_back, no_part_read_back}
use Rattle.archive_core.specs.Shape.{part, no_part}
use Rattle.recursive_types.specs.StmtMeaning.{stmt_set_means, stmt_set_has_keys}
use Rattle.recursive_types.specs.StmtShape.{stmt_name, stmt_shape, stmt_definitions, stmt_variants, stmt_variant_definitions, stmt_has_variants, stmt_set_parts, stmt_set_definitions}
use Rattle.std.proofs.Common.{inl, inr, ◌++◌, [], length, refl}
use Rattle.std.specs.Prelude.{[], ◌++◌, refl, length}
use Rattle.recursive_types.specs.ExprShape.{expr_shape as shape_of_expr, expr_definitions as definitions_of_expr, expr_has_layout as has_layout_of_expr}
use Rattle.recursive_types.specs.contracts.expr.ExprArchive.TheImpl as source_of_expr
use Rattle.recursive_types.proofs.stmt.read_stmt_set.Goals as goal

pub returns-in-Err-clause-refused : goal.returns-in-Err-clause-refused
returns-in-Err-clause-refused g c = (variant_refuses stmt_definitions stmt_shape stmt_name stmt_variant_definitions stmt_variants stmt_has_variants 0 stmt_set_parts refl stmt_set_definitions refl _ _ _ c.requires.tag _ _ (first_refuses definitions_of_expr (both definitions_of_expr no_definition) shape_of_expr (record { size = 24; align = 8 }) has_layout_of_expr (part (option_shape shape_of_expr) no_part) _ _ 1 _ _ (rw (c.part_of_variant-p0.ensures.buffer, c.part_of_variant-p0.ensures.position, c.part_of_variant-p0.ensures.length) at c.in-Err.ensures.refused)))

pub returns-in-Err-read_part-clause-refused : goal.returns-in-Err-read_part-clause-refused
returns-in-Err-read_part-clause-refused g c = (variant_refuses stmt_definitions stmt_shape stmt_name stmt_variant_definitions stmt_variants stmt_has_variants 0 stmt_set_parts refl stmt_set_definitions refl _ _ _ c.requires.tag _ _ (later_refuses definitions_of_expr (both definitions_of_expr no_definition) shape_of_expr (record { size = 24; align = 8 }) has_layout_of_expr (part (option_shape shape_of_expr) no_part) _ _ 1 _ _ _ c.in-Ok.ensures.read.kept (first_refuses definitions_of_expr no_definition (option_shape shape_of_expr) (record { size = 32; align = 8 }) (option_has_layout definitions_of_expr shape_of_expr (record { size = 24; align = 8 }) (inr (inr (inr (inl refl)))) has_layout_of_expr) no_part _ _ 32 _ _ (rw (c.part_of_variant-p1.ensures.buffer, c.part_of_variant-p1.ensures.position, c.part_of_variant-p1.ensures.length) at c.in-Err-read_part.ensures.refused))))

pub returns-clause-read : goal.returns-clause-read
returns-clause-read g c = read_as (stmt_set_has_keys c.in-Ok.a0 c.in-Ok-read_part.a1) (stmt_set_means c.in-Ok.a0 c.in-Ok-read_part.a1) (variant_read_back stmt_definitions stmt_shape stmt_name stmt_variant_definitions stmt_variants stmt_has_variants 0 stmt_set_parts refl stmt_set_definitions refl _ _ _ c.requires.tag _ _ _ _ (part_read_back {L = (record { size = 24; align = 8 })} {ks = ((source_of_expr.ghosts).keys c.in-Ok.a0)} {ls = ((option_keys (λ y. ((source_of_expr.ghosts).keys y)) c.in-Ok-read_part.a1) ++ [])} has_layout_of_expr (rw (c.part_of_variant-p0.ensures.buffer, c.part_of_variant-p0.ensures.position, c.part_of_variant-p0.ensures.length) at c.in-Ok.ensures.read) (part_read_back {L = (record { size = 32; align = 8 })} {ks = (option_keys (λ y. ((source_of_expr.ghosts).keys y)) c.in-Ok-read_part.a1)} {ls = []} (option_has_layout definitions_of_expr shape_of_expr (record { size = 24; align = 8 }) (inr (inr (inr (inl refl)))) has_layout_of_expr) (rw (c.part_of_variant-p1.ensures.buffer, c.part_of_variant-p1.ensures.position, c.part_of_variant-p1.ensures.length) at c.in-Ok-read_part.ensures.read) no_part_read_back)))
