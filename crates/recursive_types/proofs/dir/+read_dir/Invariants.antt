-- Written by tools/derive: change the declaration, and run it again.
use Rattle.archive_core.proofs.ReadElements.{FirstElements}
use Rattle.archive_core.specs.Shape.{run, part}
use Rattle.archive_core.specs.Value.{list}
use Rattle.recursive_types.specs.DirMeaning.{entry_meaning, entry_keys}
use Rattle.recursive_types.specs.DirShape.{dir_definitions, entry_layout, entry_shape}
use Rattle.std.proofs.Common.{◌≡◌, ◌≤◌, ◌+◌, ◌*◌, length, pos}
use Rattle.std.specs.Prelude.{◌≡◌, ◌≤◌, pos, length}
use Rattle.std.specs.Vec.{vec_len, vec_capacity}
use Rattle.recursive_types.proofs.dir.+read_dir.Given as goal

abbrev pub decreases-read_vec_entry : goal.decreases-read_vec_entry
decreases-read_vec_entry g l = (l.part.pos + 8) * 4 + 1

abbrev pub decreases-read_each_entry : goal.decreases-read_each_entry
decreases-read_each_entry g l = (l.part.pos + 8) * 4 + 0

abbrev pub decreases-read_dir : goal.decreases-read_dir
decreases-read_dir g l = (l.part.pos + 16) * 4 + 3

abbrev pub invariant-read_each_entry-loop-index : goal.invariant-read_each_entry-loop-index
invariant-read_each_entry-loop-index g l = (length l.items.items ≡ l.index) × (vec_len l.items ≡ l.index) × (l.list.len ≤ vec_capacity l.items) × FirstElements g.D.Entries.keeps dir_definitions entry_shape entry_layout l.list.bytes.now l.list.pos (run entry_shape) l.list.len entry_meaning entry_keys (g.D.Entries.entry_of l.initial.deserializer) (g.D.Entries.entry_of l.deserializer) l.items.items

abbrev pub decreases-read_box_dir : goal.decreases-read_box_dir
decreases-read_box_dir g l = (l.part.pos + 4) * 4 + 1

abbrev pub decreases-read_entry_sub : goal.decreases-read_entry_sub
decreases-read_entry_sub g l = (l.part.pos + 16) * 4 + 2

abbrev pub decreases-read_entry : goal.decreases-read_entry
decreases-read_entry g l = (l.part.pos + 16) * 4 + 3
