-- Written by tools/derive: change the declaration, and run it again.
use Rattle.archive_core.proofs.OwnChoices.{serialized_variant, variant_refused}
use Rattle.archive_core.proofs.PlannedParts.{serialized_no_part, serialized_part, first_refused}
use Rattle.archive_core.specs.Definitions.{no_definition}
use Rattle.archive_core.specs.PartsPlanned.{no_part_planned}
use Rattle.archive_core.specs.Shape.{str, no_part}
use Rattle.archive_core.specs.Value.{no_value, text_value}
use Rattle.recursive_fields.specs.JsonShape.{json_name, json_shape, json_definitions, json_variants, json_variant_definitions, json_has_variants, json_text_parts, json_text_definitions}
use Rattle.std.proofs.Common.{[], refl, string_bytes}
use Rattle.std.specs.Prelude.{[], refl, string_bytes}
use Rattle.recursive_fields.proofs.json.serialize_json_text.Goals as goal

pub returns-in-Err-clause-refused : goal.returns-in-Err-clause-refused
returns-in-Err-clause-refused g c = (variant_refused json_definitions json_shape json_name json_variant_definitions json_variants json_has_variants 2 json_text_parts refl json_text_definitions refl _ _ _ _ _ (first_refused no_definition no_definition str no_part [] [] (text_value (string_bytes c.args.a0.now)) no_value _ _ _ no_part_planned c.in-Err.ensures.refused))

pub returns-clause-serialized : goal.returns-clause-serialized
returns-clause-serialized g c = (serialized_variant json_definitions json_shape json_name json_variant_definitions json_variants json_has_variants 2 json_text_parts refl json_text_definitions refl _ _ _ _ _ (serialized_part no_definition no_definition str no_part [] [] (text_value (string_bytes c.args.a0.now)) no_value _ _ _ _ _ c.in-Ok.ensures.serialized (serialized_no_part no_definition _)))
