-- The names in expressions, and the definitions that they need.
use Rattle.std.specs.Prelude.{◌≡◌, ◌≢◌, ◌⊎◌, ℕ, suc, ◌<◌, true, false, Option, Some, None, List, [], ◌∷◌, length, get_or, Contains, ◌++◌}
use Rattle.std.specs.List.{remove}
use Rattle.archive_check.specs.declared.format.defs.Def.{Def}
use Rattle.archive_check.specs.declared.format.error.Error.{Error}
use Rattle.archive_check.specs.declared.format.error.Error.TheVariants.{OutOfMemory, ShapeConflict, RecursiveLayout}
use Rattle.archive_check.specs.Expressions.{shape_of, entries_of}
use Rattle.archive_check.specs.Defined.{Reaches, HeldIn, WellFormed}
use Rattle.archive_check.specs.Definitions.{Definitions, listed}
use Rattle.archive_schema.specs.plan.NodeNumbers.{def_shapes}
use Rattle.archive_check.specs.Shape.{Name, Shape, Table, definition}
use Rattle.archive_check.specs.MissingNames.{Arranged, missing}

-- What is left where the definition of a name was looked up.
abbrev pub Taken : List Def → Name → Option Def → List Def → Type 0
Taken old name None new = (definition (entries_of old) name ≡ None) × (new ≡ old)
Taken old name (Some d) new =
    (d.name.now ≡ name)
    × (definition (entries_of old) name ≡ Some (shape_of d.expr))
    × (suc (length new) ≡ length old)
    × ((n : Name) → n ≢ name → definition (entries_of new) n ≡ definition (entries_of old) n)

-- The definition of a name is taken out of a list, and added to those that were found.
pub record IsGathered (name : Name) (old found new next : List Def) : Type 0 where
  pub def : Def
  pub taken : Taken old name (Some def) new
  pub added : next ≡ found ++ def ∷ []

-- Each of the first i holds a name that isn't defined.
abbrev pub NotReady : Table → List Def → ℕ → Type 0
NotReady placed rest i = (k : ℕ) (d : Def) → k < i → d ≡ get_or rest k d → (name : Name) × (missing false placed (shape_of d.expr) ≡ Some name)

-- The first of these that holds only defined names, if there is one.
abbrev pub NextReady : Table → List Def → Option ℕ → Type 0
NextReady placed rest (Some i) = (i < length rest) × ((d : Def) → d ≡ get_or rest i d → missing false placed (shape_of d.expr) ≡ None) × NotReady placed rest i
NextReady placed rest None = NotReady placed rest (length rest)

-- That one is taken out of a list, and placed behind the others.
pub record IsOrderedNext (placed old next new : List Def) : Type 0 where
  pub at : ℕ
  pub def : Def
  pub ready : NextReady (entries_of placed) old (Some at)
  pub is : def ≡ get_or old at def
  pub added : next ≡ placed ++ def ∷ []
  pub left : new ≡ remove old at

-- Each definition is the one of its name, and what it holds is defined.
pub record Complete (table : Table) : Type 0 where
  pub once : (name : Name) (Y : Shape) → Contains table (name, Y) → definition table name ≡ Some Y
  pub closed : (name : Name) (Y : Shape) → definition table name ≡ Some Y → missing false table Y ≡ None

-- The root's shape, and those of the definitions.
abbrev pub shapes_from : Shape → List Def → List Shape
shapes_from X ds = X ∷ def_shapes ds

-- Each name that the expression or a definition mentions is defined.
pub record HasAll (table : Table) (X : Shape) : Type 0 where
  pub root : missing true table X ≡ None
  pub closed : (name : Name) (Y : Shape) → definition table name ≡ Some Y → missing true table Y ≡ None

-- The definitions that a shape reaches, of those that come with it, in order; and the shape is well formed.
pub record Prepared (D : Definitions) (X : Shape) (table : Table) : Type 0 where
  pub known : (name : Name) (Y : Shape) → definition table name ≡ Some Y → definition (listed D) name ≡ Some Y
  pub has : (name : Name) (Y : Shape) → Reaches (listed D) name X → definition (listed D) name ≡ Some Y → definition table name ≡ Some Y
  pub complete : HasAll table X
  pub ordered : Arranged table table
  pub well_formed : WellFormed (listed D) X

-- Why names have no definitions, or no order: memory was refused, this name has none, one that X reaches has none, no definition is ready, or one is
-- held in itself.
abbrev pub ExplainsUndefined : Table → Name → Error → Type 0
ExplainsUndefined table name e = (e ≡ OutOfMemory) ⊎ ((e ≡ ShapeConflict) × (definition table name ≡ None))

abbrev pub ExplainsMissing : Table → Shape → Error → Type 0
ExplainsMissing table X e = (e ≡ OutOfMemory) ⊎ ((e ≡ ShapeConflict) × (name : Name) × Reaches table name X × (definition table name ≡ None))

abbrev pub ExplainsNoneReady : Table → List Def → Error → Type 0
ExplainsNoneReady placed rest e = (e ≡ OutOfMemory) ⊎ ((e ≡ RecursiveLayout) × NextReady placed rest None)

abbrev pub ExplainsHeld : Table → Error → Type 0
ExplainsHeld table e = (e ≡ OutOfMemory) ⊎ ((e ≡ RecursiveLayout) × (name : Name) × (Y : Shape) × (definition table name ≡ Some Y) × HeldIn table name Y)

-- Of the root, at 0, and the definitions, the first name in that at i that has no definition.
abbrev pub IsMissingAt : Shape → List Def → ℕ → Option Name → Type 0
IsMissingAt root defs i name = (X : Shape) → X ≡ get_or (shapes_from root defs) i X → name ≡ missing true (entries_of defs) X
