-- Definitions in an order: each holds only names before it. Each field is shown by computing, where the definitions are known.
use Rattle.std.specs.Prelude.{◌≡◌, [], ◌∷◌, ◌++◌, Some, None, true, false}
use Rattle.archive_check.specs.Shape.{Shape, Table, definition}
use Rattle.archive_check.specs.Definitions.{Definitions, listed}
use Rattle.archive_check.specs.MissingNames.{missing}

-- Each of these is the definition of its name in the table.
abbrev pub AllIn : Table → Table → Type 0
AllIn table [] = Unit {0}
AllIn table (d ∷ ds) = (definition table d.0 ≡ Some d.1) × AllIn table ds

-- Each mentions only names that the table defines.
abbrev pub AllClosed : Table → Table → Type 0
AllClosed table [] = Unit {0}
AllClosed table (d ∷ ds) = (missing true table d.1 ≡ None) × AllClosed table ds

-- Each holds only names that are defined before it.
abbrev pub Placed : Table → Table → Type 0
Placed before [] = Unit {0}
Placed before (d ∷ ds) = (missing false before d.1 ≡ None) × Placed (before ++ d ∷ []) ds

-- The table has a type's definitions in such an order.
pub record IsOrder (D : Definitions) (X : Shape) (table : Table) : Type 0 where
  pub has : AllIn table (listed D)
  pub only : AllIn (listed D) table
  pub once : AllIn table table
  pub root : missing true table X ≡ None
  pub closed : AllClosed table table
  pub placed : Placed [] table
