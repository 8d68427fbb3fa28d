-- What a pointer that may lead to itself looks like.
use Rattle.std.specs.Prelude.{true, codes}
use Rattle.archive_core.specs.Shape.{Name, Shape, named, one, shared}
use Rattle.archive_core.specs.SharedLaws.{flavor_as}

abbrev pub circle_name : Name
circle_name = codes "ArchivedCircle"

-- a shared pointer to one of it, of a flavor that allows cycles
abbrev pub circle_pointer : Shape
circle_pointer = shared (flavor_as (codes "Looping") true) (one (named circle_name))
