-- Written by tools/derive: change the declaration, and run it again.
use Rattle.archive_core.proofs.Runs.{Continues}
use Rattle.recursive_kinds.specs.BagMeaning.{bag_meaning, bag_keys, bag_flat, bag_belongs}
use Rattle.recursive_kinds.specs.BagShape.{bag_shape, bag_definitions}
use Rattle.std.proofs.Common.{◌≡◌, ◌≤◌, length, drop}
use Rattle.std.specs.Prelude.{◌≡◌, ◌≤◌, length}
use Rattle.std.specs.Vec.{vec_len, vec_capacity}
use Rattle.recursive_kinds.proofs.bag.+serialize_bag.Given as goal

abbrev pub invariant-serialize_each_bag-loop-value : goal.invariant-serialize_each_bag-loop-value
invariant-serialize_each_bag-loop-value g l = record { continues : Continues bag_definitions bag_shape bag_keys bag_meaning bag_flat bag_belongs (g.S.Keys.state l.initial.serializer) (g.S.Keys.state l.serializer) l.values (drop l.value-index l.values) l.resolvers.items; reserved : (vec_len l.resolvers ≡ l.value-index) × (length l.values ≤ vec_capacity l.resolvers) }
