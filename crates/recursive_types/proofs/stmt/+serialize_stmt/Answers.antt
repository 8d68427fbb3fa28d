-- Written by tools/derive: change the declaration, and run it again.
use Rattle.archive_core.proofs.Causes.{err_by, goes_both}
use Rattle.archive_core.proofs.OwnChoices.{serialized_variant, variant_refused}
use Rattle.archive_core.proofs.Owners.{vec_refused}
use Rattle.archive_core.proofs.PlannedParts.{serialized_no_part, serialized_part, first_refused}
use Rattle.archive_core.proofs.RunRegions.{run_owned, long_run_refused}
use Rattle.archive_core.proofs.Runs.{continues_step, continues_broken, continues_end, belongs_end}
use Rattle.archive_core.specs.Causes.{no_memory}
use Rattle.archive_core.specs.Definitions.{no_definition}
use Rattle.archive_core.specs.Error.TheVariants.{OutOfMemory}
use Rattle.archive_core.specs.Held.{written_as, refused_as}
use Rattle.archive_core.specs.PartsPlanned.{no_part_planned}
use Rattle.archive_core.specs.PlannedOwners.{each_planned}
use Rattle.archive_core.specs.Runs.{each_keys, each_meaning}
use Rattle.archive_core.specs.Shape.{vec, no_part}
use Rattle.archive_core.specs.Value.{list, value, no_value}
use Rattle.recursive_types.specs.StmtMeaning.{stmt_meaning, stmt_keys, stmt_planned, stmt_set_means, stmt_set_has_keys, stmt_set_opens, stmt_block_means, stmt_block_has_keys, stmt_block_opens}
use Rattle.recursive_types.specs.StmtShape.{stmt_name, stmt_shape, stmt_definitions, stmt_variants, stmt_variant_definitions, stmt_has_variants, stmt_block_parts, stmt_block_definitions}
use Rattle.std.proofs.Common.{◌≡◌, ◌<◌, [], length, refl, arith}
use Rattle.std.proofs.Math.ListN.{drop_of_length-le}
use Rattle.std.proofs.lemmas.Grind.{common_steps}
use Rattle.std.specs.Prelude.{[], ◌≡◌, refl, length}
use Rattle.recursive_types.proofs.stmt.+serialize_stmt.Goals as goal

pub serialize_each_stmt-returns-in_err-resolvers-clause-refused : goal.serialize_each_stmt-returns-in_err-resolvers-clause-refused
serialize_each_stmt-returns-in_err-resolvers-clause-refused g t c = err_by c.from_residual.result OutOfMemory _ c.from_residual.ensures.1 no_memory

pub serialize_each_stmt-returns-in-Err-clause-goes_on : goal.serialize_each_stmt-returns-in-Err-clause-goes_on
serialize_each_stmt-returns-in-Err-clause-goes_on g t c = goes_both _ _ _ c.loop-value.invariant.continues.goes c.serialize_stmt.ensures.goes_on

pub serialize_each_stmt-returns-in-Err-clause-refused : goal.serialize_each_stmt-returns-in-Err-clause-refused
serialize_each_stmt-returns-in-Err-clause-refused g t c = rw c.handed_on.ensures (continues_broken _ _ _ _ _ _ _ _ _ _ c.loop-value.value-index _ _ _ c.loop-value-test.true c.value-item.is stmt_planned c.loop-value.invariant.continues c.serialize_stmt.ensures.goes_on c.in-Err.ensures.refused)

pub serialize_each_stmt-loop-value-preserved : goal.serialize_each_stmt-loop-value-preserved
serialize_each_stmt-loop-value-preserved g t c = record { continues = continues_step _ _ _ _ _ _ _ _ _ _ c.loop-value.value-index _ _ _ c.in-Ok.resolver c.loop-value-test.true c.value-item.is (grind (arith, common_steps)) c.loop-value.invariant.continues c.in-Ok.ensures.serialized c.in-Ok.ensures.same_value c.serialize_stmt.ensures.goes_on; reserved = (grind (arith, common_steps, c.loop-value.invariant.reserved.0), grind (arith, common_steps, c.loop-value.invariant.reserved.1)) }

pub serialize_each_stmt-returns-clause-serialized : goal.serialize_each_stmt-returns-clause-serialized
serialize_each_stmt-returns-clause-serialized g t c = continues_end _ _ _ _ _ _ _ _ _ _ _ (drop_of_length-le _ c.loop-value-test.false) c.loop-value.invariant.continues

pub serialize_each_stmt-returns-clause-same_values : goal.serialize_each_stmt-returns-clause-same_values
serialize_each_stmt-returns-clause-same_values g t c = belongs_end _ _ _ _ _ _ _ _ _ _ _ (drop_of_length-le _ c.loop-value-test.false) c.loop-value.invariant.continues

pub serialize_vec_stmt-returns-then-len-clause-refused : goal.serialize_vec_stmt-returns-then-len-clause-refused
serialize_vec_stmt-returns-then-len-clause-refused g t c = (let long : 4294967295 < length c.args.value.now.items = (let whole : length c.args.value.now.items ≡ c.len.result = grind (arith, common_steps, c.len.ensures) in omega (arith, c.if-len.true, whole)) in vec_refused stmt_definitions stmt_shape (length c.args.value.now.items) (each_keys stmt_keys c.args.value.now.items) (list (each_meaning stmt_meaning c.args.value.now.items)) _ _ _ (long_run_refused stmt_definitions stmt_shape (length c.args.value.now.items) (each_keys stmt_keys c.args.value.now.items) (each_meaning stmt_meaning c.args.value.now.items) _ _ (each_planned stmt_definitions stmt_shape stmt_keys stmt_meaning stmt_planned c.args.value.now.items) long))

pub serialize_vec_stmt-returns-in-Err-clause-refused : goal.serialize_vec_stmt-returns-in-Err-clause-refused
serialize_vec_stmt-returns-in-Err-clause-refused g t c = vec_refused stmt_definitions stmt_shape (length c.args.value.now.items) (each_keys stmt_keys c.args.value.now.items) (list (each_meaning stmt_meaning c.args.value.now.items)) _ _ _ (run_owned stmt_definitions stmt_shape (length c.args.value.now.items) (each_keys stmt_keys c.args.value.now.items) (each_meaning stmt_meaning c.args.value.now.items) _ _ _ (rw c.as_slice-items.ensures.value at c.in-Err.ensures.refused))

pub serialize_vec_stmt-returns-in-Ok-serialize_run-clause-serialized : goal.serialize_vec_stmt-returns-in-Ok-serialize_run-clause-serialized
serialize_vec_stmt-returns-in-Ok-serialize_run-clause-serialized g t c = (rw c.as_slice-items.ensures.value at c.in-Ok-serialize_run.ensures.listed).since _ c.serialize_each_stmt.ensures.goes_on (rw c.as_slice-items.ensures.value at c.in-Ok.ensures.serialized)

pub serialize_vec_stmt-returns-in-Ok-serialize_run-clause-goes_on : goal.serialize_vec_stmt-returns-in-Ok-serialize_run-clause-goes_on
serialize_vec_stmt-returns-in-Ok-serialize_run-clause-goes_on g t c = (goes_both _ _ _ c.serialize_each_stmt.ensures.goes_on c.serialize_run.ensures.goes_on)

pub serialize_vec_stmt-returns-in-Err-serialize_run-clause-goes_on : goal.serialize_vec_stmt-returns-in-Err-serialize_run-clause-goes_on
serialize_vec_stmt-returns-in-Err-serialize_run-clause-goes_on g t c = (goes_both _ _ _ c.serialize_each_stmt.ensures.goes_on c.serialize_run.ensures.goes_on)

pub serialize_vec_stmt-returns-in-Err-serialize_run-clause-refused : goal.serialize_vec_stmt-returns-in-Err-serialize_run-clause-refused
serialize_vec_stmt-returns-in-Err-serialize_run-clause-refused g t c = (rw c.as_slice-items.ensures.value at c.in-Err-serialize_run.ensures.refused).since _ c.serialize_each_stmt.ensures.goes_on (rw c.as_slice-items.ensures.value at c.in-Ok.ensures.serialized)

pub serialize_stmt_block-returns-in-Err-clause-refused : goal.serialize_stmt_block-returns-in-Err-clause-refused
serialize_stmt_block-returns-in-Err-clause-refused g t c = (variant_refused stmt_definitions stmt_shape stmt_name stmt_variant_definitions stmt_variants stmt_has_variants 1 stmt_block_parts refl stmt_block_definitions refl _ _ _ _ _ (first_refused stmt_definitions no_definition (vec stmt_shape) no_part (each_keys stmt_keys c.args.a0.now.items) [] (list (each_meaning stmt_meaning c.args.a0.now.items)) no_value _ _ _ no_part_planned c.in-Err.ensures.refused))

pub serialize_stmt_block-returns-clause-serialized : goal.serialize_stmt_block-returns-clause-serialized
serialize_stmt_block-returns-clause-serialized g t c = (serialized_variant stmt_definitions stmt_shape stmt_name stmt_variant_definitions stmt_variants stmt_has_variants 1 stmt_block_parts refl stmt_block_definitions refl _ _ _ _ _ (serialized_part stmt_definitions no_definition (vec stmt_shape) no_part (each_keys stmt_keys c.args.a0.now.items) [] (list (each_meaning stmt_meaning c.args.a0.now.items)) no_value _ _ _ _ _ c.in-Ok.ensures.serialized (serialized_no_part no_definition _)))

pub serialize_whole_stmt-returns-in-Ok-clause-serialized : goal.serialize_whole_stmt-returns-in-Ok-clause-serialized
serialize_whole_stmt-returns-in-Ok-clause-serialized g t c = rw c.in-Set.is (written_as (stmt_set_has_keys c.in-Set.a0 c.in-Set.a1) (stmt_set_means c.in-Set.a0 c.in-Set.a1) (rw (stmt_set_opens c.in-Set.a0 c.in-Set.a1) refl) c.in-Ok.ensures.serialized)

pub serialize_whole_stmt-returns-in-Ok-clause-same_value : goal.serialize_whole_stmt-returns-in-Ok-clause-same_value
serialize_whole_stmt-returns-in-Ok-clause-same_value g t c = rw (c.in-Set.is, stmt_set_opens c.in-Set.a0 c.in-Set.a1) c.in-Ok.ensures.same_values

pub serialize_whole_stmt-returns-in-Err-clause-refused : goal.serialize_whole_stmt-returns-in-Err-clause-refused
serialize_whole_stmt-returns-in-Err-clause-refused g t c = rw c.in-Set.is (refused_as (stmt_set_has_keys c.in-Set.a0 c.in-Set.a1) (stmt_set_means c.in-Set.a0 c.in-Set.a1) c.in-Err.ensures.refused)

pub serialize_whole_stmt-returns-in-Ok-serialize_stmt_block-clause-serialized : goal.serialize_whole_stmt-returns-in-Ok-serialize_stmt_block-clause-serialized
serialize_whole_stmt-returns-in-Ok-serialize_stmt_block-clause-serialized g t c = rw c.in-Block.is (written_as (stmt_block_has_keys c.in-Block.a0) (stmt_block_means c.in-Block.a0) (rw (stmt_block_opens c.in-Block.a0) refl) c.in-Ok-serialize_stmt_block.ensures.serialized)

pub serialize_whole_stmt-returns-in-Ok-serialize_stmt_block-clause-same_value : goal.serialize_whole_stmt-returns-in-Ok-serialize_stmt_block-clause-same_value
serialize_whole_stmt-returns-in-Ok-serialize_stmt_block-clause-same_value g t c = rw (c.in-Block.is, stmt_block_opens c.in-Block.a0) c.in-Ok-serialize_stmt_block.ensures.same_values

pub serialize_whole_stmt-returns-in-Err-serialize_stmt_block-clause-refused : goal.serialize_whole_stmt-returns-in-Err-serialize_stmt_block-clause-refused
serialize_whole_stmt-returns-in-Err-serialize_stmt_block-clause-refused g t c = rw c.in-Block.is (refused_as (stmt_block_has_keys c.in-Block.a0) (stmt_block_means c.in-Block.a0) c.in-Err-serialize_stmt_block.ensures.refused)
