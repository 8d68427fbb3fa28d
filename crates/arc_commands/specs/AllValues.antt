-- What a value that is a shared value of its own type looks like.
use Rattle.std.specs.Prelude.{codes}
use Rattle.archive_core.specs.Shape.{Name, Shape, choice, named, one, shared, no_variant, variant, no_part, part}
use Rattle.archive_core.specs.SharedSources.{rc_flavor}

abbrev pub all_name : Name
all_name = codes "ArchivedAllValues"

-- its one variant is a shared one of it
abbrev pub all_choice : Shape
all_choice = choice all_name (variant (part (shared rc_flavor (one (named all_name))) no_part) no_variant)
