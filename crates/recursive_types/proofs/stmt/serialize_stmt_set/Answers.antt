-- Written by tools/derive: change the declaration, and run it again.
use Rattle.archive_core.proofs.Causes.{goes_both}
use Rattle.archive_core.proofs.OwnChoices.{serialized_variant, variant_refused}
use Rattle.archive_core.proofs.PlannedParts.{serialized_no_part, serialized_part, first_refused, later_refused}
use Rattle.archive_core.specs.Choices.{option_shape}
use Rattle.archive_core.specs.Definitions.{both, no_definition}
use Rattle.archive_core.specs.Options.{option_keys, option_meaning, option_planned}
use Rattle.archive_core.specs.PartsPlanned.{part_planned, no_part_planned}
use Rattle.archive_core.specs.Shape.{part, no_part}
use Rattle.archive_core.specs.Value.{value, no_value}
use Rattle.recursive_types.specs.StmtShape.{stmt_name, stmt_shape, stmt_definitions, stmt_variants, stmt_variant_definitions, stmt_has_variants, stmt_set_parts, stmt_set_definitions}
use Rattle.std.proofs.Common.{◌++◌, [], refl}
use Rattle.std.specs.Prelude.{[], ◌++◌, refl}
use Rattle.recursive_types.specs.ExprShape.{expr_shape as shape_of_expr, expr_definitions as definitions_of_expr}
use Rattle.recursive_types.specs.contracts.expr.ExprArchive.TheImpl as source_of_expr
use Rattle.recursive_types.specs.contracts.expr.ExprArchive.TheImpl.Laws.{planned-law as planned_of_expr}
use Rattle.recursive_types.proofs.stmt.serialize_stmt_set.Goals as goal

pub returns-in-Err-clause-refused : goal.returns-in-Err-clause-refused
returns-in-Err-clause-refused g c = (variant_refused stmt_definitions stmt_shape stmt_name stmt_variant_definitions stmt_variants stmt_has_variants 0 stmt_set_parts refl stmt_set_definitions refl _ _ _ _ _ (first_refused definitions_of_expr (both definitions_of_expr no_definition) shape_of_expr (part (option_shape shape_of_expr) no_part) ((source_of_expr.ghosts).keys c.args.a0.now) ((option_keys (λ y. ((source_of_expr.ghosts).keys y)) c.args.a1.now) ++ []) ((source_of_expr.ghosts).meaning c.args.a0.now) (value (option_meaning (λ y. ((source_of_expr.ghosts).meaning y)) c.args.a1.now) no_value) _ _ _ (part_planned definitions_of_expr (option_shape shape_of_expr) (option_keys (λ y. ((source_of_expr.ghosts).keys y)) c.args.a1.now) (option_meaning (λ y. ((source_of_expr.ghosts).meaning y)) c.args.a1.now) (option_planned definitions_of_expr shape_of_expr (λ y. ((source_of_expr.ghosts).keys y)) (λ y. ((source_of_expr.ghosts).meaning y)) (λ y. (planned_of_expr y)) c.args.a1.now) no_part_planned) c.in-Err.ensures.refused))

pub returns-in-Err-serialize_part-clause-refused : goal.returns-in-Err-serialize_part-clause-refused
returns-in-Err-serialize_part-clause-refused g c = (variant_refused stmt_definitions stmt_shape stmt_name stmt_variant_definitions stmt_variants stmt_has_variants 0 stmt_set_parts refl stmt_set_definitions refl _ _ _ _ _ (later_refused definitions_of_expr (both definitions_of_expr no_definition) shape_of_expr (part (option_shape shape_of_expr) no_part) ((source_of_expr.ghosts).keys c.args.a0.now) ((option_keys (λ y. ((source_of_expr.ghosts).keys y)) c.args.a1.now) ++ []) ((source_of_expr.ghosts).meaning c.args.a0.now) (value (option_meaning (λ y. ((source_of_expr.ghosts).meaning y)) c.args.a1.now) no_value) _ _ _ _ _ c.in-Ok.ensures.serialized c.serialize_part.ensures.goes_on c.serialize_part-2.ensures.goes_on (first_refused definitions_of_expr no_definition (option_shape shape_of_expr) no_part (option_keys (λ y. ((source_of_expr.ghosts).keys y)) c.args.a1.now) [] (option_meaning (λ y. ((source_of_expr.ghosts).meaning y)) c.args.a1.now) no_value _ _ _ no_part_planned c.in-Err-serialize_part.ensures.refused)))

pub returns-in-Err-serialize_part-clause-goes_on : goal.returns-in-Err-serialize_part-clause-goes_on
returns-in-Err-serialize_part-clause-goes_on g c = (goes_both _ _ _ c.serialize_part.ensures.goes_on c.serialize_part-2.ensures.goes_on)

pub returns-clause-serialized : goal.returns-clause-serialized
returns-clause-serialized g c = (serialized_variant stmt_definitions stmt_shape stmt_name stmt_variant_definitions stmt_variants stmt_has_variants 0 stmt_set_parts refl stmt_set_definitions refl _ _ _ _ _ (serialized_part definitions_of_expr (both definitions_of_expr no_definition) shape_of_expr (part (option_shape shape_of_expr) no_part) ((source_of_expr.ghosts).keys c.args.a0.now) ((option_keys (λ y. ((source_of_expr.ghosts).keys y)) c.args.a1.now) ++ []) ((source_of_expr.ghosts).meaning c.args.a0.now) (value (option_meaning (λ y. ((source_of_expr.ghosts).meaning y)) c.args.a1.now) no_value) _ _ _ _ _ c.in-Ok.ensures.serialized (serialized_part definitions_of_expr no_definition (option_shape shape_of_expr) no_part (option_keys (λ y. ((source_of_expr.ghosts).keys y)) c.args.a1.now) [] (option_meaning (λ y. ((source_of_expr.ghosts).meaning y)) c.args.a1.now) no_value _ _ _ _ _ c.in-Ok-serialize_part.ensures.serialized (serialized_no_part no_definition _))))

pub returns-clause-goes_on : goal.returns-clause-goes_on
returns-clause-goes_on g c = (goes_both _ _ _ c.serialize_part.ensures.goes_on c.serialize_part-2.ensures.goes_on)
