-- Written by tools/derive: change the declaration, and run it again.
use Rattle.archive_core.proofs.ReadElements.{FirstElements}
use Rattle.archive_core.specs.Shape.{run, part}
use Rattle.archive_core.specs.Value.{list}
use Rattle.recursive_types.specs.StmtMeaning.{stmt_meaning, stmt_keys}
use Rattle.recursive_types.specs.StmtShape.{stmt_layout, stmt_shape, stmt_definitions}
use Rattle.std.proofs.Common.{◌≡◌, ◌≤◌, ◌+◌, ◌*◌, length, pos}
use Rattle.std.specs.Prelude.{◌≡◌, ◌≤◌, pos, length}
use Rattle.std.specs.Vec.{vec_len, vec_capacity}
use Rattle.recursive_types.proofs.stmt.+read_stmt.Given as goal

abbrev pub decreases-read_vec_stmt : goal.decreases-read_vec_stmt
decreases-read_vec_stmt g l = (l.part.pos + 8) * 4 + 1

abbrev pub decreases-read_each_stmt : goal.decreases-read_each_stmt
decreases-read_each_stmt g l = (l.part.pos + 8) * 4 + 0

abbrev pub decreases-read_stmt_block : goal.decreases-read_stmt_block
decreases-read_stmt_block g l = (l.part.pos + 64) * 4 + 2

abbrev pub decreases-read_stmt : goal.decreases-read_stmt
decreases-read_stmt g l = (l.part.pos + 64) * 4 + 3

abbrev pub invariant-read_each_stmt-loop-index : goal.invariant-read_each_stmt-loop-index
invariant-read_each_stmt-loop-index g l = (length l.items.items ≡ l.index) × (vec_len l.items ≡ l.index) × (l.list.len ≤ vec_capacity l.items) × FirstElements g.D.Entries.keeps stmt_definitions stmt_shape stmt_layout l.list.bytes.now l.list.pos (run stmt_shape) l.list.len stmt_meaning stmt_keys (g.D.Entries.entry_of l.initial.deserializer) (g.D.Entries.entry_of l.deserializer) l.items.items
