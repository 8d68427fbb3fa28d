use Rattle.archive_types.proofs.Planning.Causes.{goes_nowhere}
use Rattle.archive_types.proofs.Planning.PlannedParts.{serialized_no_part}
use Rattle.archive_types.proofs.parts.serializing.UnitSerializeParts.serialize_parts.Goals as goal

pub returns : goal.returns
returns g c = record { serialized = serialized_no_part _ _; same_values = tt; goes_on = goes_nowhere _; refused = tt }
