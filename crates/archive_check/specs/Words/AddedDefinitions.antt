-- What is left where definitions are added to others. `Both` is a parameter as a clause names it: what it was as the call began, and what it is at the
-- return.
use denote.Triple.Both.{Both}
use denote.Ref.{MutBor}
use Rattle.std.specs.Prelude.{Bool, if◌then◌else◌, ◌++◌, ◌∷◌, []}
use Rattle.archive_check.specs.declared.format.defs.Defs.{Defs}
use Rattle.archive_check.specs.Shape.{Name, Shape, Table}
use Rattle.archive_check.specs.Definitions.{Definitions, Extended}
use Rattle.archive_check.specs.Expressions.{table_of}

-- The table has this definition at its end where the name is new, and else is as it was.
abbrev pub table_after : Table → Name → Shape → Bool → Table
table_after old name X is_new = if is_new then old ++ (name, X) ∷ [] else old

-- These definitions were added.
abbrev pub AreAdded : Both (MutBor Defs) (MutBor Defs) → Definitions → Type 0
AreAdded defs D = Extended (table_of defs.entry.now) D (table_of defs.exit.now)
