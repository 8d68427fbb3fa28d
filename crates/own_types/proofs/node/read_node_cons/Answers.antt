-- Written by tools/derive: change the declaration, and run it again.
use Rattle.archive_core.proofs.OwnersRead.{box_read, box_unread}
use Rattle.archive_core.proofs.ReadChoices.{variant_read_back, variant_refuses}
use Rattle.archive_core.proofs.ReadRecords.{first_refuses}
use Rattle.archive_core.specs.Definitions.{no_definition}
use Rattle.archive_core.specs.PartsReading.{part_read_back, no_part_read_back}
use Rattle.archive_core.specs.Shape.{boxed, one, part, no_part}
use Rattle.own_types.specs.NodeShape.{node_name, node_shape, node_definitions, node_variants, node_variant_definitions, node_has_variants, node_cons_parts, node_cons_definitions}
use Rattle.std.proofs.Common.{◌+◌, [], length, refl, arith, pos}
use Rattle.std.specs.Prelude.{[], refl, pos, length}
use Rattle.own_types.proofs.node.read_node_cons.Goals as goal

pub returns-clause-read : goal.returns-clause-read
returns-clause-read g c = rw c.part_of_variant-p0.ensures.position (record { viewed = (rw (c.part_of_variant-p0.ensures.buffer, c.part_of_variant-p0.ensures.position, c.part_of_variant-p0.ensures.length) at c.part_of_variant-p0.ensures.viewed); inside = omega arith; done = λ new m ks h. variant_read_back node_definitions node_shape node_name node_variant_definitions node_variants node_has_variants 1 node_cons_parts refl node_cons_definitions refl _ _ _ c.requires.tag _ _ _ _ (part_read_back {L = (record { size = 4; align = 4 })} {ks = ks} {ls = []} (record { solved = λ s k. refl }) (box_read node_definitions c.args.part.bytes.now (c.args.part.pos + 4) 0 (one node_shape) _ _ _ _ (rw (c.part_of_variant-p0.ensures.buffer, c.part_of_variant-p0.ensures.position, c.part_of_variant-p0.ensures.length) at c.part_of_variant-p0.ensures.viewed) h) no_part_read_back); broken = λ e r. variant_refuses node_definitions node_shape node_name node_variant_definitions node_variants node_has_variants 1 node_cons_parts refl node_cons_definitions refl _ _ _ c.requires.tag _ _ (first_refuses node_definitions no_definition (boxed (one node_shape)) (record { size = 4; align = 4 }) (record { solved = λ s k. refl }) no_part _ _ 1 _ _ (box_unread node_definitions c.args.part.bytes.now (c.args.part.pos + 4) 0 (one node_shape) _ e (rw (c.part_of_variant-p0.ensures.buffer, c.part_of_variant-p0.ensures.position, c.part_of_variant-p0.ensures.length) at c.part_of_variant-p0.ensures.viewed) r)) })
