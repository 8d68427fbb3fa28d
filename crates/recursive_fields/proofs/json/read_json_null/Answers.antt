-- Written by tools/derive: change the declaration, and run it again.
use Rattle.archive_core.proofs.ReadChoices.{variant_read_back}
use Rattle.archive_core.specs.Held.{read_as}
use Rattle.archive_core.specs.PartsReading.{no_part_read_back}
use Rattle.recursive_fields.specs.JsonMeaning.{json_null_means, json_null_has_keys}
use Rattle.recursive_fields.specs.JsonShape.{json_name, json_shape, json_definitions, json_variants, json_variant_definitions, json_has_variants, json_null_parts, json_null_definitions}
use Rattle.std.proofs.Common.{refl}
use Rattle.std.specs.Prelude.{refl}
use Rattle.recursive_fields.proofs.json.read_json_null.Goals as goal

pub returns-clause-read : goal.returns-clause-read
returns-clause-read g c = read_as (json_null_has_keys) (json_null_means) (variant_read_back json_definitions json_shape json_name json_variant_definitions json_variants json_has_variants 0 json_null_parts refl json_null_definitions refl _ _ _ c.requires.tag _ _ _ _ no_part_read_back)
