-- Written by tools/derive: change the declaration, and run it again.
use Rattle.archive_core.proofs.ReadElements.{FirstElements}
use Rattle.archive_core.specs.Shape.{shared, one, run}
use Rattle.archive_core.specs.SharedSources.{rc_flavor, rc_keys}
use Rattle.archive_core.specs.Value.{list, value, shared_value}
use Rattle.recursive_kinds.specs.KnotMeaning.{knot_meaning, knot_keys}
use Rattle.recursive_kinds.specs.KnotShape.{knot_shape, knot_definitions}
use Rattle.std.proofs.Common.{◌≡◌, ◌≤◌, ◌+◌, ◌*◌, length, pos}
use Rattle.std.specs.Prelude.{◌≡◌, ◌≤◌, pos, length}
use Rattle.std.specs.Vec.{vec_len, vec_capacity}
use Rattle.recursive_kinds.proofs.knot.+read_knot.Given as goal

abbrev pub decreases-read_shared_knot : goal.decreases-read_shared_knot
decreases-read_shared_knot g l = l.levels * 5 + 1

abbrev pub decreases-read_vec_shared_knot : goal.decreases-read_vec_shared_knot
decreases-read_vec_shared_knot g l = l.levels * 5 + 2

abbrev pub decreases-read_knot : goal.decreases-read_knot
decreases-read_knot g l = l.levels * 5 + 0

abbrev pub invariant-read_vec_shared_knot-loop-index : goal.invariant-read_vec_shared_knot-loop-index
invariant-read_vec_shared_knot-loop-index g l = (length l.items.items ≡ l.index) × (vec_len l.items ≡ l.index) × (l.list.len ≤ vec_capacity l.items) × FirstElements g.D.Entries.keeps knot_definitions (shared rc_flavor (one knot_shape)) (record { size = 4; align = 4 }) l.list.bytes.now l.list.pos (run (shared rc_flavor (one knot_shape))) l.list.len (λ y. (shared_value y.key)) (λ y. (rc_keys y.key (one knot_shape) 0 (knot_meaning y.value.value) (knot_keys y.value.value))) (g.D.Entries.entry_of l.initial.deserializer) (g.D.Entries.entry_of l.deserializer) l.items.items
