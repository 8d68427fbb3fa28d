-- Written by tools/derive: change the declaration, and run it again.
use Rattle.archive_core.proofs.ReadElements.{FirstElements}
use Rattle.archive_core.specs.Shape.{run, part}
use Rattle.archive_core.specs.Value.{list}
use Rattle.recursive_fields.specs.NoteMeaning.{note_meaning, note_keys, tuple3_string_note_option_string_meaning, tuple3_string_note_option_string_keys}
use Rattle.recursive_fields.specs.NoteShape.{note_layout, tuple3_string_note_option_string_layout, note_shape, note_definitions, tuple3_string_note_option_string_shape, tuple3_string_note_option_string_definitions}
use Rattle.std.proofs.Common.{◌≡◌, ◌≤◌, ◌+◌, ◌*◌, length, pos}
use Rattle.std.specs.Prelude.{◌≡◌, ◌≤◌, pos, length}
use Rattle.std.specs.Vec.{vec_len, vec_capacity}
use Rattle.recursive_fields.proofs.note.+read_note.Given as goal

abbrev pub decreases-read_tuple3_string_note_option_string : goal.decreases-read_tuple3_string_note_option_string
decreases-read_tuple3_string_note_option_string g l = (l.part.pos + 32) * 6 + 5

abbrev pub decreases-read_vec_tuple3_string_note_option_string : goal.decreases-read_vec_tuple3_string_note_option_string
decreases-read_vec_tuple3_string_note_option_string g l = (l.part.pos + 8) * 6 + 2

abbrev pub decreases-read_box_note : goal.decreases-read_box_note
decreases-read_box_note g l = (l.part.pos + 4) * 6 + 1

abbrev pub decreases-read_vec_note : goal.decreases-read_vec_note
decreases-read_vec_note g l = (l.part.pos + 8) * 6 + 1

abbrev pub decreases-read_each_note : goal.decreases-read_each_note
decreases-read_each_note g l = (l.part.pos + 8) * 6 + 0

abbrev pub decreases-read_note_table : goal.decreases-read_note_table
decreases-read_note_table g l = (l.part.pos + 12) * 6 + 3

abbrev pub decreases-read_note_about : goal.decreases-read_note_about
decreases-read_note_about g l = (l.part.pos + 12) * 6 + 3

abbrev pub decreases-read_note_either : goal.decreases-read_note_either
decreases-read_note_either g l = (l.part.pos + 12) * 6 + 3

abbrev pub decreases-read_note_several : goal.decreases-read_note_several
decreases-read_note_several g l = (l.part.pos + 12) * 6 + 3

abbrev pub decreases-read_note : goal.decreases-read_note
decreases-read_note g l = (l.part.pos + 12) * 6 + 4

abbrev pub invariant-read_vec_tuple3_string_note_option_string-loop-index : goal.invariant-read_vec_tuple3_string_note_option_string-loop-index
invariant-read_vec_tuple3_string_note_option_string-loop-index g l = (length l.items.items ≡ l.index) × (vec_len l.items ≡ l.index) × (l.list.len ≤ vec_capacity l.items) × FirstElements g.D.Entries.keeps tuple3_string_note_option_string_definitions tuple3_string_note_option_string_shape tuple3_string_note_option_string_layout l.list.bytes.now l.list.pos (run tuple3_string_note_option_string_shape) l.list.len tuple3_string_note_option_string_meaning tuple3_string_note_option_string_keys (g.D.Entries.entry_of l.initial.deserializer) (g.D.Entries.entry_of l.deserializer) l.items.items

abbrev pub invariant-read_each_note-loop-index : goal.invariant-read_each_note-loop-index
invariant-read_each_note-loop-index g l = (length l.items.items ≡ l.index) × (vec_len l.items ≡ l.index) × (l.list.len ≤ vec_capacity l.items) × FirstElements g.D.Entries.keeps note_definitions note_shape note_layout l.list.bytes.now l.list.pos (run note_shape) l.list.len note_meaning note_keys (g.D.Entries.entry_of l.initial.deserializer) (g.D.Entries.entry_of l.deserializer) l.items.items
