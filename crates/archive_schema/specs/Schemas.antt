-- What a schema of the program stands for: a shape, and definitions that give it a meaning.
use Rattle.std.specs.Prelude.{◌≡◌, [], ◌∷◌, Some, Contains}
use Rattle.archive_check.specs.declared.format.layout.Layout.{Layout as RustLayout}
use Rattle.archive_schema.specs.declared.shape.Schema.{Schema as RustSchema}
use Rattle.archive_check.specs.Shape.{Name, Shape, Table, definition}
use Rattle.archive_check.specs.Expressions.{shape_of, entries_of}
use Rattle.archive_check.specs.Layout.{Layout}
use Rattle.archive_check.specs.Defined.{Reaches, WellFormed}
use Rattle.archive_check.specs.Definitions.{Definitions, no_definition, defines, both, listed, Knows}
use Rattle.archive_check.specs.Reads.{SchemaTable}

-- The shape of its root.
abbrev pub root_of : RustSchema → Shape
root_of s = shape_of s.root

-- The definitions that a table lists.
abbrev pub defined_by : Table → Definitions
defined_by [] = no_definition
defined_by (d ∷ ds) = both (defines d.0 d.1) (defined_by ds)

-- Those that the schema keeps.
abbrev pub definitions_in : RustSchema → Definitions
definitions_in s = defined_by (entries_of s.definitions.items)

-- They give the root a meaning, and some schema knows them.
pub record HasMeaning (s : RustSchema) : Type 0 where
  pub well_formed : WellFormed (listed (definitions_in s)) (root_of s)
  pub known : ∥ ((t : SchemaTable) × Knows t (definitions_in s)) ∥₁

-- The schema is that of a shape and the definitions that come with it: it has those that the shape reaches, and they are well formed.
pub record IsSchemaOf (s : RustSchema) (X : Shape) (D : Definitions) : Type 0 where
  pub root : root_of s ≡ X
  pub known : (name : Name) (Y : Shape) → Contains (listed (definitions_in s)) (name, Y) → definition (listed D) name ≡ Some Y
  pub has : (name : Name) (Y : Shape) → Reaches (listed D) name X → definition (listed D) name ≡ Some Y → definition (listed (definitions_in s)) name ≡ Some Y
  pub well_formed : WellFormed (listed D) X

-- A layout of the program, as one of the definitions.
abbrev pub layout_of : RustLayout → Layout
layout_of l = record { size = l.size; align = l.align }
