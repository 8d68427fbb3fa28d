-- Written by tools/derive: change the declaration, and run it again.
use Rattle.archive_core.proofs.Runs.{Continues}
use Rattle.archive_core.specs.Shape.{shared, one}
use Rattle.archive_core.specs.SharedSources.{rc_flavor, rc_flat, rc_keys}
use Rattle.archive_core.specs.Value.{value, shared_value}
use Rattle.recursive_kinds.specs.KnotMeaning.{knot_meaning, knot_keys}
use Rattle.recursive_kinds.specs.KnotShape.{knot_shape, knot_definitions}
use Rattle.std.proofs.Common.{drop}
use Rattle.std.specs.Prelude.{⊤}
use Rattle.recursive_kinds.proofs.knot.+serialize_knot.Given as goal

abbrev pub invariant-serialize_each_shared_knot-loop-value : goal.invariant-serialize_each_shared_knot-loop-value
invariant-serialize_each_shared_knot-loop-value g l = record { continues : Continues knot_definitions (shared rc_flavor (one knot_shape)) (λ y. (rc_keys y.key (one knot_shape) 0 (knot_meaning y.value.value) (knot_keys y.value.value))) (λ y. (shared_value y.key)) (λ y r. (rc_flat r (one knot_shape) 0)) (λ y r. ⊤) (g.S.Keys.state l.initial.serializer) (g.S.Keys.state l.serializer) l.values (drop l.value-index l.values) l.resolvers.items }
