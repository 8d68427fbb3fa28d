-- Written by tools/derive: change the declaration, and run it again.
use Rattle.archive_core.proofs.Runs.{Continues}
use Rattle.recursive_types.specs.DirMeaning.{entry_meaning, entry_keys, entry_flat, entry_belongs}
use Rattle.recursive_types.specs.DirShape.{dir_definitions, entry_shape}
use Rattle.std.proofs.Common.{◌≡◌, ◌≤◌, length, drop}
use Rattle.std.specs.Prelude.{◌≡◌, ◌≤◌, length}
use Rattle.std.specs.Vec.{vec_len, vec_capacity}
use Rattle.recursive_types.proofs.dir.+serialize_dir.Given as goal

abbrev pub invariant-serialize_each_entry-loop-value : goal.invariant-serialize_each_entry-loop-value
invariant-serialize_each_entry-loop-value g l = record { continues : Continues dir_definitions entry_shape entry_keys entry_meaning entry_flat entry_belongs (g.S.Keys.state l.initial.serializer) (g.S.Keys.state l.serializer) l.values (drop l.value-index l.values) l.resolvers.items; reserved : (vec_len l.resolvers ≡ l.value-index) × (length l.values ≤ vec_capacity l.resolvers) }
