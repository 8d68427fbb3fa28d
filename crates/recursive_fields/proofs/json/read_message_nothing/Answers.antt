-- Written by tools/derive: change the declaration, and run it again.
use Rattle.archive_core.proofs.ReadChoices.{variant_read_back}
use Rattle.archive_core.specs.PartsReading.{no_part_read_back}
use Rattle.recursive_fields.specs.MessageShape.{message_name, message_shape, message_definitions, message_variants, message_variant_definitions, message_has_variants, message_nothing_parts, message_nothing_definitions}
use Rattle.std.proofs.Common.{refl}
use Rattle.std.specs.Prelude.{refl}
use Rattle.recursive_fields.proofs.json.read_message_nothing.Goals as goal

pub returns-clause-read : goal.returns-clause-read
returns-clause-read g c = (variant_read_back message_definitions message_shape message_name message_variant_definitions message_variants message_has_variants 0 message_nothing_parts refl message_nothing_definitions refl _ _ _ c.requires.tag _ _ _ _ no_part_read_back)
