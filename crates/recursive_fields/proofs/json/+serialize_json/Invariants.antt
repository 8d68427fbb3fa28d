-- Written by tools/derive: change the declaration, and run it again.
use Rattle.archive_core.proofs.Runs.{Continues}
use Rattle.recursive_fields.specs.JsonMeaning.{json_meaning, json_keys, json_flat, json_belongs, member_type_meaning, member_type_keys, member_type_flat, member_type_belongs}
use Rattle.recursive_fields.specs.JsonShape.{json_shape, json_definitions, member_type_shape}
use Rattle.std.proofs.Common.{◌≡◌, ◌≤◌, length, drop}
use Rattle.std.specs.Prelude.{◌≡◌, ◌≤◌, length}
use Rattle.std.specs.Vec.{vec_len, vec_capacity}
use Rattle.recursive_fields.proofs.json.+serialize_json.Given as goal

abbrev pub invariant-serialize_each_json-loop-value : goal.invariant-serialize_each_json-loop-value
invariant-serialize_each_json-loop-value g l = record { continues : Continues json_definitions json_shape json_keys json_meaning json_flat json_belongs (g.S.Keys.state l.initial.serializer) (g.S.Keys.state l.serializer) l.values (drop l.value-index l.values) l.resolvers.items; reserved : (vec_len l.resolvers ≡ l.value-index) × (length l.values ≤ vec_capacity l.resolvers) }

abbrev pub invariant-serialize_each_member_type-loop-value : goal.invariant-serialize_each_member_type-loop-value
invariant-serialize_each_member_type-loop-value g l = record { continues : Continues json_definitions member_type_shape member_type_keys member_type_meaning member_type_flat member_type_belongs (g.S.Keys.state l.initial.serializer) (g.S.Keys.state l.serializer) l.values (drop l.value-index l.values) l.resolvers.items; reserved : (vec_len l.resolvers ≡ l.value-index) × (length l.values ≤ vec_capacity l.resolvers) }
