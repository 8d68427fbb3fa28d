-- Definitions of which one brings the other.
use Rattle.archive_check.specs.Definitions.{Definitions, Knows}
use Rattle.archive_check.specs.Reads.{SchemaTable}

-- Each schema that knows the definitions D knows F, too.
abbrev pub KnowsAlso : Definitions → Definitions → Type 0
KnowsAlso D F = (s : SchemaTable) → Knows s D → Knows s F
