-- Written by tools/derive: change the declaration, and run it again.
use Rattle.archive_core.proofs.Causes.{goes_nowhere}
use Rattle.archive_core.proofs.OwnChoices.{serialized_variant}
use Rattle.archive_core.proofs.PlannedParts.{serialized_no_part}
use Rattle.archive_core.specs.Definitions.{no_definition}
use Rattle.recursive_fields.specs.MessageShape.{message_name, message_shape, message_definitions, message_variants, message_variant_definitions, message_has_variants, message_nothing_parts, message_nothing_definitions}
use Rattle.std.proofs.Common.{refl}
use Rattle.std.specs.Prelude.{refl}
use Rattle.recursive_fields.proofs.json.serialize_message.Goals as goal

pub returns-in-Nothing-clause-serialized : goal.returns-in-Nothing-clause-serialized
returns-in-Nothing-clause-serialized g c = rw c.in-Nothing.is (serialized_variant message_definitions message_shape message_name message_variant_definitions message_variants message_has_variants 0 message_nothing_parts refl message_nothing_definitions refl _ _ _ _ _ (serialized_no_part no_definition _))

pub returns-in-Nothing-clause-goes_on : goal.returns-in-Nothing-clause-goes_on
returns-in-Nothing-clause-goes_on g c = goes_nowhere _

pub returns-in-Ok-clause-serialized : goal.returns-in-Ok-clause-serialized
returns-in-Ok-clause-serialized g c = rw c.in-Sent.is c.in-Ok.ensures.serialized

pub returns-in-Ok-clause-same_value : goal.returns-in-Ok-clause-same_value
returns-in-Ok-clause-same_value g c = rw c.in-Sent.is c.in-Ok.ensures.same_values

pub returns-in-Err-clause-refused : goal.returns-in-Err-clause-refused
returns-in-Err-clause-refused g c = rw c.in-Sent.is c.in-Err.ensures.refused

pub returns-in-Ok-serialize_message_listed-clause-serialized : goal.returns-in-Ok-serialize_message_listed-clause-serialized
returns-in-Ok-serialize_message_listed-clause-serialized g c = rw c.in-Listed.is c.in-Ok-serialize_message_listed.ensures.serialized

pub returns-in-Ok-serialize_message_listed-clause-same_value : goal.returns-in-Ok-serialize_message_listed-clause-same_value
returns-in-Ok-serialize_message_listed-clause-same_value g c = rw c.in-Listed.is c.in-Ok-serialize_message_listed.ensures.same_values

pub returns-in-Err-serialize_message_listed-clause-refused : goal.returns-in-Err-serialize_message_listed-clause-refused
returns-in-Err-serialize_message_listed-clause-refused g c = rw c.in-Listed.is c.in-Err-serialize_message_listed.ensures.refused
