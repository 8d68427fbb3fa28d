-- Written by tools/derive: change the declaration, and run it again.
use Rattle.archive_core.proofs.Runs.{Continues}
use Rattle.recursive_types.specs.StmtMeaning.{stmt_meaning, stmt_keys, stmt_flat, stmt_belongs}
use Rattle.recursive_types.specs.StmtShape.{stmt_shape, stmt_definitions}
use Rattle.std.proofs.Common.{◌≡◌, ◌≤◌, length, drop}
use Rattle.std.specs.Prelude.{◌≡◌, ◌≤◌, length}
use Rattle.std.specs.Vec.{vec_len, vec_capacity}
use Rattle.recursive_types.proofs.stmt.+serialize_stmt.Given as goal

abbrev pub invariant-serialize_each_stmt-loop-value : goal.invariant-serialize_each_stmt-loop-value
invariant-serialize_each_stmt-loop-value g l = record { continues : Continues stmt_definitions stmt_shape stmt_keys stmt_meaning stmt_flat stmt_belongs (g.S.Keys.state l.initial.serializer) (g.S.Keys.state l.serializer) l.values (drop l.value-index l.values) l.resolvers.items; reserved : (vec_len l.resolvers ≡ l.value-index) × (length l.values ≤ vec_capacity l.resolvers) }
