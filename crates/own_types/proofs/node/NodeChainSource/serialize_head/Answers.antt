-- Written by tools/derive: change the declaration, and run it again.
use Rattle.archive_core.proofs.OwnChoices.{serialized_variant, variant_refused}
use Rattle.archive_core.proofs.PlannedParts.{serialized_no_part, serialized_part, first_refused}
use Rattle.archive_core.specs.Definitions.{no_definition}
use Rattle.archive_core.specs.Held.{written_as}
use Rattle.archive_core.specs.PartsPlanned.{no_part_planned}
use Rattle.archive_core.specs.Shape.{boxed, one, no_part}
use Rattle.archive_core.specs.Value.{box, value, no_value}
use Rattle.own_types.specs.NodeMeaning.{node_meaning, node_keys, node_nil_means, node_nil_has_keys, node_nil_opens, node_cons_means, node_cons_has_keys, node_cons_opens}
use Rattle.own_types.specs.NodeShape.{node_name, node_shape, node_definitions, node_variants, node_variant_definitions, node_has_variants, node_nil_parts, node_nil_definitions, node_cons_parts, node_cons_definitions}
use Rattle.std.proofs.Common.{[], refl, arith}
use Rattle.std.specs.Prelude.{[], refl}
use Rattle.own_types.proofs.node.NodeChainSource.serialize_head.Goals as goal

pub returns-in-Nil-clause-serialized : goal.returns-in-Nil-clause-serialized
returns-in-Nil-clause-serialized g c = rw c.in-Nil.is (written_as node_nil_has_keys node_nil_means (rw node_nil_opens refl) (serialized_variant node_definitions node_shape node_name node_variant_definitions node_variants node_has_variants 0 node_nil_parts refl node_nil_definitions refl _ _ _ _ _ (serialized_no_part no_definition _)), rw node_nil_opens tt)

pub returns-in-Cons-clause-serialized : goal.returns-in-Cons-clause-serialized
returns-in-Cons-clause-serialized g c = rw c.in-Cons.is (c.in-Cons._a0.value, rw (node_cons_opens c.in-Cons._a0) refl, record { written = λ t new go h. rw (node_cons_has_keys c.in-Cons._a0, node_cons_means c.in-Cons._a0, (node_cons_opens c.in-Cons._a0)) (serialized_variant node_definitions node_shape node_name node_variant_definitions node_variants node_has_variants 1 node_cons_parts refl node_cons_definitions refl _ _ _ _ _ (serialized_part node_definitions no_definition (boxed (one node_shape)) no_part (node_keys c.in-Cons._a0.value) [] (box (node_meaning c.in-Cons._a0.value)) no_value _ _ _ _ _ h (serialized_no_part no_definition _))); same_value = λ t. rw (node_cons_opens c.in-Cons._a0) ((tt, tt)); unwritten = λ new e go r. rw (node_cons_has_keys c.in-Cons._a0, node_cons_means c.in-Cons._a0) (variant_refused node_definitions node_shape node_name node_variant_definitions node_variants node_has_variants 1 node_cons_parts refl node_cons_definitions refl _ _ _ _ _ (first_refused node_definitions no_definition (boxed (one node_shape)) no_part (node_keys c.in-Cons._a0.value) [] (box (node_meaning c.in-Cons._a0.value)) no_value _ _ _ no_part_planned r)); lighter = rw (node_cons_means c.in-Cons._a0) (omega arith) })
