-- Written by tools/derive: change the declaration, and run it again.
use Rattle.archive_core.proofs.Runs.{Continues}
use Rattle.archive_core.specs.Choices.{option_shape}
use Rattle.archive_core.specs.Options.{option_keys, option_meaning, option_flat, OptionBelongs}
use Rattle.archive_core.specs.Shape.{boxed, one}
use Rattle.archive_core.specs.Value.{box, hole, value}
use Rattle.archive_core.specs.Writing.{to_pointee}
use Rattle.recursive_kinds.specs.BushMeaning.{bush_meaning, bush_keys}
use Rattle.recursive_kinds.specs.BushShape.{bush_shape, bush_definitions}
use Rattle.std.proofs.Common.{◌≡◌, ◌≤◌, length, drop}
use Rattle.std.specs.Prelude.{◌≡◌, ◌≤◌, length, ⊤}
use Rattle.std.specs.Vec.{vec_len, vec_capacity}
use Rattle.recursive_kinds.proofs.bush.+serialize_bush.Given as goal

abbrev pub invariant-serialize_each_option_box_bush-loop-value : goal.invariant-serialize_each_option_box_bush-loop-value
invariant-serialize_each_option_box_bush-loop-value g l = record { continues : Continues bush_definitions (option_shape (boxed (one bush_shape))) (λ y. (option_keys (λ y. (bush_keys y.value)) y)) (λ y. (option_meaning (λ y. (box (bush_meaning y.value))) y)) (λ y r. (option_flat (λ y r. (box (hole (to_pointee r (one bush_shape) 0)))) y r)) (λ y r. (OptionBelongs (λ y r. ⊤) y r)) (g.S.Keys.state l.initial.serializer) (g.S.Keys.state l.serializer) l.values (drop l.value-index l.values) l.resolvers.items }

abbrev pub invariant-serialize_each_box_bush-loop-value : goal.invariant-serialize_each_box_bush-loop-value
invariant-serialize_each_box_bush-loop-value g l = record { continues : Continues bush_definitions (boxed (one bush_shape)) (λ y. (bush_keys y.value)) (λ y. (box (bush_meaning y.value))) (λ y r. (box (hole (to_pointee r (one bush_shape) 0)))) (λ y r. ⊤) (g.S.Keys.state l.initial.serializer) (g.S.Keys.state l.serializer) l.values (drop l.value-index l.values) l.resolvers.items; reserved : (vec_len l.resolvers ≡ l.value-index) × (length l.values ≤ vec_capacity l.resolvers) }
