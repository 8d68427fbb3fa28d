-- Written by tools/derive: change the declaration, and run it again.
use Rattle.archive_core.proofs.ReadElements.{FirstElements}
use Rattle.archive_core.specs.Shape.{run, part}
use Rattle.archive_core.specs.Value.{list}
use Rattle.recursive_fields.specs.JsonMeaning.{json_meaning, json_keys, member_type_meaning, member_type_keys}
use Rattle.recursive_fields.specs.JsonShape.{json_layout, json_shape, json_definitions, member_type_layout, member_type_shape}
use Rattle.std.proofs.Common.{◌≡◌, ◌≤◌, ◌+◌, ◌*◌, length, pos}
use Rattle.std.specs.Prelude.{◌≡◌, ◌≤◌, pos, length}
use Rattle.std.specs.Vec.{vec_len, vec_capacity}
use Rattle.recursive_fields.proofs.json.+read_json.Given as goal

abbrev pub decreases-read_vec_json : goal.decreases-read_vec_json
decreases-read_vec_json g l = (l.part.pos + 8) * 6 + 1

abbrev pub decreases-read_each_json : goal.decreases-read_each_json
decreases-read_each_json g l = (l.part.pos + 8) * 6 + 0

abbrev pub decreases-read_vec_member_type : goal.decreases-read_vec_member_type
decreases-read_vec_member_type g l = (l.part.pos + 8) * 6 + 1

abbrev pub decreases-read_each_member_type : goal.decreases-read_each_member_type
decreases-read_each_member_type g l = (l.part.pos + 8) * 6 + 0

abbrev pub decreases-read_json_list : goal.decreases-read_json_list
decreases-read_json_list g l = (l.part.pos + 16) * 6 + 2

abbrev pub decreases-read_json_object : goal.decreases-read_json_object
decreases-read_json_object g l = (l.part.pos + 16) * 6 + 2

abbrev pub decreases-read_json : goal.decreases-read_json
decreases-read_json g l = (l.part.pos + 16) * 6 + 3

abbrev pub invariant-read_each_json-loop-index : goal.invariant-read_each_json-loop-index
invariant-read_each_json-loop-index g l = (length l.items.items ≡ l.index) × (vec_len l.items ≡ l.index) × (l.list.len ≤ vec_capacity l.items) × FirstElements g.D.Entries.keeps json_definitions json_shape json_layout l.list.bytes.now l.list.pos (run json_shape) l.list.len json_meaning json_keys (g.D.Entries.entry_of l.initial.deserializer) (g.D.Entries.entry_of l.deserializer) l.items.items

abbrev pub invariant-read_each_member_type-loop-index : goal.invariant-read_each_member_type-loop-index
invariant-read_each_member_type-loop-index g l = (length l.items.items ≡ l.index) × (vec_len l.items ≡ l.index) × (l.list.len ≤ vec_capacity l.items) × FirstElements g.D.Entries.keeps json_definitions member_type_shape member_type_layout l.list.bytes.now l.list.pos (run member_type_shape) l.list.len member_type_meaning member_type_keys (g.D.Entries.entry_of l.initial.deserializer) (g.D.Entries.entry_of l.deserializer) l.items.items

abbrev pub decreases-read_member_type : goal.decreases-read_member_type
decreases-read_member_type g l = (l.part.pos + 24) * 6 + 5
