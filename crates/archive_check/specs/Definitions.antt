-- The definitions that a type brings with it, and its layout wherever they hold.
use Rattle.std.specs.Prelude.{◌≡◌, ◌≢◌, ◌⊎◌, ℕ, [], ◌∷◌, ◌++◌, Some, Contains}
use Rattle.archive_check.specs.declared.format.error.Error.{Error}
use Rattle.archive_check.specs.declared.format.error.Error.TheVariants.{OutOfMemory, ShapeConflict}
use Rattle.archive_check.specs.Shape.{Name, Shape, Table, definition}
use Rattle.archive_check.specs.Layout.{Layout, layout}
use Rattle.archive_check.specs.Defined.{HeldIn, Involves}
use Rattle.archive_check.specs.Reads.{SchemaTable, LaidOut}

-- The definitions that a type brings: none, one under a name, or two such groups.
pub data Definitions : Type 0 where
  no_definition : Definitions
  defines : Name → Shape → Definitions
  both : Definitions → Definitions → Definitions

-- Each name with its definition.
abbrev pub listed : Definitions → Table
listed no_definition = []
listed (defines name X) = (name, X) ∷ []
listed (both D E) = listed D ++ listed E

-- None of them is the definition of a name that X doesn't reach.
abbrev pub NoOthers : Definitions → Shape → Type 0
NoOthers D X = (name : Name) (Y : Shape) → Contains (listed D) (name, Y) → Involves (listed D) name X

-- A table, and the same with these definitions added.
pub record Extended (old : Table) (D : Definitions) (new : Table) : Type 0 where
  pub has : (name : Name) (X : Shape) → Contains (listed D) (name, X) → definition new name ≡ Some X
  pub kept : (name : Name) (X : Shape) → definition old name ≡ Some X → definition new name ≡ Some X
  pub only : (name : Name) (X : Shape) → definition new name ≡ Some X → (definition old name ≡ Some X) ⊎ Contains (listed D) (name, X)

-- One of them is the definition of a name that has another one.
pub record Conflicts (old : Table) (D : Definitions) : Type 0 where
  pub name : Name
  pub shape : Shape
  pub other : Shape
  pub here : Contains (listed D) (name, shape)
  pub there : (definition old name ≡ Some other) ⊎ Contains (listed D) (name, other)
  pub differ : shape ≢ other

-- Why definitions aren't added to a table: memory was refused, or they conflict.
abbrev pub ExplainsConflict : Table → Definitions → Error → Type 0
ExplainsConflict old D e = (e ≡ OutOfMemory) ⊎ ((e ≡ ShapeConflict) × Conflicts old D)

-- The schema has each of these definitions.
abbrev pub Has : SchemaTable → Definitions → Type 0
Has s no_definition = Unit {0}
Has s (defines name X) = definition s.table name ≡ Some X
Has s (both D E) = Has s D × Has s E

-- The schema has these definitions with their layouts, and none contains itself other than behind a
-- pointer.
pub record Knows (s : SchemaTable) (D : Definitions) : Type 0 where
  pub has : Has s D
  pub finite : (name : Name) (X : Shape) → Contains (listed D) (name, X) → HeldIn s.table name X → ⊥
  pub laid_out : LaidOut s

-- Under each schema that knows D, X has this layout.
pub record HasLayout (D : Definitions) (X : Shape) (L : Layout) : Type 0 where
  pub solved : (s : SchemaTable) → Knows s D → layout s.layouts X ≡ L

-- Some layouts are those of a table's definitions.
abbrev pub HasLayouts : Table → Type 0
HasLayouts table = ∥ ((t : SchemaTable) × (t.table ≡ table) × LaidOut t) ∥₁

-- A power of two, at most 32.
abbrev pub IsAlign : ℕ → Type 0
IsAlign a = (a ≡ 1) ⊎ (a ≡ 2) ⊎ (a ≡ 4) ⊎ (a ≡ 8) ⊎ (a ≡ 16) ⊎ (a ≡ 32)
