use Rattle.archive_types.specs.PartsReading.{no_part_read_back}
use Rattle.archive_types.proofs.parts.UnitDeserializeParts.deserialize_parts.Goals as goal

pub returns-clause-read : goal.returns-clause-read
returns-clause-read g c = no_part_read_back
