-- Written by tools/derive: change the declaration, and run it again.
use Rattle.archive_core.proofs.ReadChoices.{variant_read_back}
use Rattle.archive_core.specs.Held.{read_as}
use Rattle.archive_core.specs.PartsReading.{no_part_read_back}
use Rattle.own_types.specs.NodeMeaning.{node_nil_means, node_nil_has_keys}
use Rattle.own_types.specs.NodeShape.{node_name, node_shape, node_definitions, node_variants, node_variant_definitions, node_has_variants, node_nil_parts, node_nil_definitions}
use Rattle.std.proofs.Common.{refl}
use Rattle.std.specs.Prelude.{refl}
use Rattle.own_types.proofs.node.read_node_nil.Goals as goal

pub returns-clause-read : goal.returns-clause-read
returns-clause-read g c = read_as (node_nil_has_keys) (node_nil_means) (variant_read_back node_definitions node_shape node_name node_variant_definitions node_variants node_has_variants 0 node_nil_parts refl node_nil_definitions refl _ _ _ c.requires.tag _ _ _ _ no_part_read_back)
