-- Written by tools/derive: change the declaration, and run it again.
use Rattle.archive_core.proofs.ReadElements.{FirstElements}
use Rattle.archive_core.specs.Shape.{run, part}
use Rattle.archive_core.specs.Value.{list}
use Rattle.recursive_fields.specs.FolderMeaning.{pair_string_folder_meaning, pair_string_folder_keys}
use Rattle.recursive_fields.specs.FolderShape.{pair_string_folder_layout, pair_string_folder_shape, pair_string_folder_definitions}
use Rattle.std.proofs.Common.{◌≡◌, ◌≤◌, ◌+◌, ◌*◌, length, pos}
use Rattle.std.specs.Prelude.{◌≡◌, ◌≤◌, pos, length}
use Rattle.std.specs.Vec.{vec_len, vec_capacity}
use Rattle.recursive_fields.proofs.folder.+read_folder.Given as goal

abbrev pub decreases-read_pair_string_folder : goal.decreases-read_pair_string_folder
decreases-read_pair_string_folder g l = (l.part.pos + 20) * 5 + 4

abbrev pub decreases-read_map_string_folder : goal.decreases-read_map_string_folder
decreases-read_map_string_folder g l = (l.part.pos + 8) * 5 + 1

abbrev pub decreases-read_folder : goal.decreases-read_folder
decreases-read_folder g l = (l.part.pos + 12) * 5 + 3

abbrev pub invariant-read_map_string_folder-loop-index : goal.invariant-read_map_string_folder-loop-index
invariant-read_map_string_folder-loop-index g l = (length l.items.items ≡ l.index) × (vec_len l.items ≡ l.index) × (l.list.len ≤ vec_capacity l.items) × FirstElements g.D.Entries.keeps pair_string_folder_definitions pair_string_folder_shape pair_string_folder_layout l.list.bytes.now l.list.pos (run pair_string_folder_shape) l.list.len pair_string_folder_meaning pair_string_folder_keys (g.D.Entries.entry_of l.initial.deserializer) (g.D.Entries.entry_of l.deserializer) l.items.items
