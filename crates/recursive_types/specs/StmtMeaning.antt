-- What Stmt means. Written by tools/derive: change the declaration, and run it again.
use Rattle.archive_core.specs.Choices.{option_shape}
use Rattle.archive_core.specs.Denotes.{Naming}
use Rattle.archive_core.specs.Held.{each_mapped, each_mapped_keys, held_keyed, held_planned, variant_planned, keyed_as, planned_as}
use Rattle.archive_core.specs.Keyed.{case_keyed, nothing_keyed, part_keyed}
use Rattle.archive_core.specs.Options.{option_keys, option_meaning, option_flat, OptionBelongs, option_keyed, option_planned}
use Rattle.archive_core.specs.PartsPlanned.{part_planned, no_part_planned}
use Rattle.archive_core.specs.PlannedOwners.{vec_planned, run_region_planned}
use Rattle.archive_core.specs.Plans.{HasPlan}
use Rattle.archive_core.specs.Runs.{each_keys, each_meaning}
use Rattle.archive_core.specs.Shape.{vec, run, variant}
use Rattle.archive_core.specs.Value.{Value, case, list, hole, value, no_value}
use Rattle.archive_core.specs.Writing.{IsKeyed, to_pointee}
use Rattle.recursive_types.specs.declared.stmt.Stmt.{Stmt-F, out-Stmt, roll-Stmt, fold-Stmt, fold-roll-Stmt, ind-Stmt, out-roll-Stmt}
use Rattle.recursive_types.specs.declared.stmt.Stmt.TheFolds.{map-Stmt}
use Rattle.recursive_types.specs.declared.stmt.StmtResolver.{StmtResolver}
use Rattle.std.proofs.Common.{ap, subst, sym, ◌∙◌, Global, Vec}
use Rattle.std.specs.Prelude.{List, [], ◌++◌, ◌≡◌, ◌≤◌, refl, length, map, Option}
use Rattle.recursive_types.specs.StmtShape.{stmt_name, stmt_shape, stmt_definitions, stmt_variants, stmt_variant_definitions, stmt_has_variants, stmt_set_parts, stmt_set_definitions, stmt_block_parts, stmt_block_definitions}
use Rattle.recursive_types.specs.declared.stmt.Stmt.{Stmt as Stmt-Source}
use Rattle.recursive_types.specs.declared.expr.Expr.{Expr as Expr-Source}
use Rattle.recursive_types.specs.declared.stmt.Stmt.TheOpen as Layer
use Rattle.recursive_types.specs.declared.stmt.Stmt.TheVariants as Its
use Rattle.recursive_types.specs.declared.stmt.StmtResolver.TheVariants as Kept
use Rattle.recursive_types.specs.ExprShape.{expr_shape as shape_of_expr, expr_definitions as definitions_of_expr}
use Rattle.recursive_types.specs.contracts.expr.ExprArchive.TheImpl as source_of_expr
use Rattle.recursive_types.specs.contracts.expr.ExprArchive.TheImpl.Laws.{keyed-law as keyed_of_expr, planned-law as planned_of_expr}

abbrev pub stmt_meaning_layer : {A : Type 0} → (A → Value) → Stmt-F A → Value
stmt_meaning_layer m (Layer.Set a0 a1) = case 0 (value ((source_of_expr.ghosts).meaning a0) (value (option_meaning (λ y. ((source_of_expr.ghosts).meaning y)) a1) no_value))
stmt_meaning_layer m (Layer.Block a0) = case 1 (value (list (each_meaning m a0.items)) no_value)

pub stmt_meaning : Stmt-Source → Value
stmt_meaning = fold-Stmt Value (stmt_meaning_layer (λ v. v))

pub stmt_means_roll : (x : Stmt-F Stmt-Source) → stmt_meaning (roll-Stmt x) ≡ stmt_meaning_layer stmt_meaning x
unfolding stmt_meaning
stmt_means_roll (Layer.Set a0 a1) = fold-roll-Stmt Value (stmt_meaning_layer (λ v. v)) (Layer.Set a0 a1)
stmt_means_roll (Layer.Block a0) = fold-roll-Stmt Value (stmt_meaning_layer (λ v. v)) (Layer.Block a0) ∙ ap (λ vs. case 1 (value (list vs) no_value)) (each_mapped stmt_meaning a0.items)

pub stmt_set_means : (a0 : Expr-Source) (a1 : (Option Expr-Source)) → stmt_meaning (Its.Set a0 a1) ≡ stmt_meaning_layer stmt_meaning (Layer.Set a0 a1)
stmt_set_means a0 a1 = ap stmt_meaning (sym (Its.rolls-Set a0 a1)) ∙ stmt_means_roll (Layer.Set a0 a1)

pub stmt_block_means : (a0 : (Vec Stmt-Source Global)) → stmt_meaning (Its.Block a0) ≡ stmt_meaning_layer stmt_meaning (Layer.Block a0)
stmt_block_means a0 = ap stmt_meaning (sym (Its.rolls-Block a0)) ∙ stmt_means_roll (Layer.Block a0)

abbrev pub stmt_keys_layer : {A : Type 0} → (A → (List Naming)) → Stmt-F A → (List Naming)
stmt_keys_layer m (Layer.Set a0 a1) = (((source_of_expr.ghosts).keys a0) ++ ((option_keys (λ y. ((source_of_expr.ghosts).keys y)) a1) ++ []))
stmt_keys_layer m (Layer.Block a0) = ((each_keys m a0.items) ++ [])

pub stmt_keys : Stmt-Source → (List Naming)
stmt_keys = fold-Stmt (List Naming) (stmt_keys_layer (λ v. v))

pub stmt_has_keys_roll : (x : Stmt-F Stmt-Source) → stmt_keys (roll-Stmt x) ≡ stmt_keys_layer stmt_keys x
unfolding stmt_keys
stmt_has_keys_roll (Layer.Set a0 a1) = fold-roll-Stmt (List Naming) (stmt_keys_layer (λ v. v)) (Layer.Set a0 a1)
stmt_has_keys_roll (Layer.Block a0) = fold-roll-Stmt (List Naming) (stmt_keys_layer (λ v. v)) (Layer.Block a0) ∙ ap (λ vs. (vs ++ [])) (each_mapped_keys stmt_keys a0.items)

pub stmt_set_has_keys : (a0 : Expr-Source) (a1 : (Option Expr-Source)) → stmt_keys (Its.Set a0 a1) ≡ stmt_keys_layer stmt_keys (Layer.Set a0 a1)
stmt_set_has_keys a0 a1 = ap stmt_keys (sym (Its.rolls-Set a0 a1)) ∙ stmt_has_keys_roll (Layer.Set a0 a1)

pub stmt_block_has_keys : (a0 : (Vec Stmt-Source Global)) → stmt_keys (Its.Block a0) ≡ stmt_keys_layer stmt_keys (Layer.Block a0)
stmt_block_has_keys a0 = ap stmt_keys (sym (Its.rolls-Block a0)) ∙ stmt_has_keys_roll (Layer.Block a0)

-- what is read in its place, by the resolver of the same variant
abbrev pub stmt_flat_layer : Stmt-F Stmt-Source → StmtResolver → Value
stmt_flat_layer (Layer.Set a0 a1) r = elim r [ Kept.Set s ↦ case 0 (value ((source_of_expr.ghosts).flat a0 s.0) (value (option_flat (λ y s. ((source_of_expr.ghosts).flat y s)) a1 s.1.0) no_value)) | _ ↦ case 0 no_value ]
stmt_flat_layer (Layer.Block a0) r = elim r [ Kept.Block s ↦ case 1 (value (hole (to_pointee s.0 (run stmt_shape) (length a0.items))) no_value) | _ ↦ case 1 no_value ]

abbrev pub stmt_flat : Stmt-Source → StmtResolver → Value
stmt_flat v r = stmt_flat_layer (out-Stmt v) r

abbrev pub stmt_belongs_layer : Stmt-F Stmt-Source → StmtResolver → Type 0
stmt_belongs_layer (Layer.Set a0 a1) r = elim r [ Kept.Set s ↦ (((source_of_expr.ghosts).belongs a0 s.0) × ((OptionBelongs (λ y s. ((source_of_expr.ghosts).belongs y s)) a1 s.1.0) × Unit {0})) | _ ↦ ⊥ ]
stmt_belongs_layer (Layer.Block a0) r = elim r [ Kept.Block s ↦ ((length a0.items ≤ 4294967295) × Unit {0}) | _ ↦ ⊥ ]

abbrev pub stmt_belongs : Stmt-Source → StmtResolver → Type 0
stmt_belongs v r = stmt_belongs_layer (out-Stmt v) r

pub stmt_set_opens : (a0 : Expr-Source) (a1 : (Option Expr-Source)) → out-Stmt (Its.Set a0 a1) ≡ (Layer.Set a0 a1)
stmt_set_opens a0 a1 = ap out-Stmt (sym (Its.rolls-Set a0 a1)) ∙ out-roll-Stmt (Layer.Set a0 a1)

pub stmt_block_opens : (a0 : (Vec Stmt-Source Global)) → out-Stmt (Its.Block a0) ≡ (Layer.Block a0)
stmt_block_opens a0 = ap out-Stmt (sym (Its.rolls-Block a0)) ∙ out-roll-Stmt (Layer.Block a0)

stmt_keyed_layer : (y : Stmt-F ((t : Stmt-Source) × IsKeyed (stmt_keys t) (stmt_meaning t))) → IsKeyed (stmt_keys (roll-Stmt (map-Stmt ((t : Stmt-Source) × IsKeyed (stmt_keys t) (stmt_meaning t)) Stmt-Source (λ e. e.0) y))) (stmt_meaning (roll-Stmt (map-Stmt ((t : Stmt-Source) × IsKeyed (stmt_keys t) (stmt_meaning t)) Stmt-Source (λ e. e.0) y)))
stmt_keyed_layer (Layer.Set a0 a1) = keyed_as (stmt_has_keys_roll _) (stmt_means_roll _) (case_keyed _ 0 _ (part_keyed (keyed_of_expr a0) (part_keyed (option_keyed (λ y. ((source_of_expr.ghosts).keys y)) (λ y. ((source_of_expr.ghosts).meaning y)) (λ y. (keyed_of_expr y)) a1) nothing_keyed)))
stmt_keyed_layer (Layer.Block a0) = keyed_as (stmt_has_keys_roll _) (stmt_means_roll _) (case_keyed _ 1 _ (part_keyed (held_keyed stmt_keys stmt_meaning a0.items) nothing_keyed))

pub stmt_keyed : (t : Stmt-Source) → IsKeyed (stmt_keys t) (stmt_meaning t)
stmt_keyed = ind-Stmt (λ t. IsKeyed (stmt_keys t) (stmt_meaning t)) (λ x y is. subst (λ z. IsKeyed (stmt_keys (roll-Stmt z)) (stmt_meaning (roll-Stmt z))) is (stmt_keyed_layer y))

stmt_planned_layer : (y : Stmt-F ((t : Stmt-Source) × HasPlan stmt_definitions stmt_shape (stmt_keys t) (stmt_meaning t))) → HasPlan stmt_definitions stmt_shape (stmt_keys (roll-Stmt (map-Stmt ((t : Stmt-Source) × HasPlan stmt_definitions stmt_shape (stmt_keys t) (stmt_meaning t)) Stmt-Source (λ e. e.0) y))) (stmt_meaning (roll-Stmt (map-Stmt ((t : Stmt-Source) × HasPlan stmt_definitions stmt_shape (stmt_keys t) (stmt_meaning t)) Stmt-Source (λ e. e.0) y)))
stmt_planned_layer (Layer.Set a0 a1) = planned_as (stmt_has_keys_roll _) (stmt_means_roll _) (variant_planned stmt_definitions stmt_shape stmt_name stmt_variant_definitions stmt_variants stmt_has_variants 0 stmt_set_parts refl stmt_set_definitions refl _ _ (part_planned definitions_of_expr shape_of_expr ((source_of_expr.ghosts).keys a0) ((source_of_expr.ghosts).meaning a0) (planned_of_expr a0) (part_planned definitions_of_expr (option_shape shape_of_expr) (option_keys (λ y. ((source_of_expr.ghosts).keys y)) a1) (option_meaning (λ y. ((source_of_expr.ghosts).meaning y)) a1) (option_planned definitions_of_expr shape_of_expr (λ y. ((source_of_expr.ghosts).keys y)) (λ y. ((source_of_expr.ghosts).meaning y)) (λ y. (planned_of_expr y)) a1) no_part_planned)))
stmt_planned_layer (Layer.Block a0) = planned_as (stmt_has_keys_roll _) (stmt_means_roll _) (variant_planned stmt_definitions stmt_shape stmt_name stmt_variant_definitions stmt_variants stmt_has_variants 1 stmt_block_parts refl stmt_block_definitions refl _ _ (part_planned stmt_definitions (vec stmt_shape) (each_keys stmt_keys (map (λ e. e.0) a0.items)) (list (each_meaning stmt_meaning (map (λ e. e.0) a0.items))) (vec_planned stmt_definitions stmt_shape _ _ _ (run_region_planned stmt_definitions stmt_shape _ _ _ (held_planned stmt_keys stmt_meaning stmt_definitions stmt_shape a0.items))) no_part_planned))

pub stmt_planned : (t : Stmt-Source) → HasPlan stmt_definitions stmt_shape (stmt_keys t) (stmt_meaning t)
stmt_planned = ind-Stmt (λ t. HasPlan stmt_definitions stmt_shape (stmt_keys t) (stmt_meaning t)) (λ x y is. subst (λ z. HasPlan stmt_definitions stmt_shape (stmt_keys (roll-Stmt z)) (stmt_meaning (roll-Stmt z))) is (stmt_planned_layer y))
