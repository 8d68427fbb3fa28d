-- What expressions take under the definitions of a schema.
use Rattle.std.specs.Prelude.{◌≡◌, ℕ, ◌≤◌, max}
use Rattle.archive_schema.specs.declared.plan.extents.Extent.{Extent}
use Rattle.archive_schema.specs.declared.shape.Schema.{Schema as RustSchema}
use Rattle.archive_check.specs.Shape.{Shape, Parts, Variants}
use Rattle.archive_check.specs.Layout.{Layouts, size_of, align_of, parts_end, parts_align, variants_end, variants_align}
use Rattle.archive_check.specs.Reads.{SchemaTable}
use Rattle.archive_check.specs.Definitions.{Knows}
use Rattle.archive_schema.specs.Schemas.{definitions_in}
use Rattle.archive_check.specs.Words.BoundedSizes.{fits}

-- It ends there, or nowhere up to usize::MAX, and is aligned so.
pub record Ends (e : Extent) (end align : ℕ) : Type 0 where
  pub end_is : e.end ≡ fits end
  pub align_is : e.align ≡ align

-- Under whatever knows the schema's definitions, X takes so much.
abbrev pub HasExtent : RustSchema → Shape → Extent → Type 0
HasExtent s X e = (t : SchemaTable) → Knows t (definitions_in s) → Ends e (size_of t.layouts X) (align_of t.layouts X)

-- So do parts, from an offset on.
abbrev pub PartsHaveExtent : RustSchema → ℕ → Parts → Extent → Type 0
PartsHaveExtent s start ps e = (t : SchemaTable) → Knows t (definitions_in s) → Ends e (parts_end t.layouts start ps) (parts_align t.layouts ps)

-- And variants, behind their tag.
abbrev pub VariantsHaveExtent : RustSchema → Variants → Extent → Type 0
VariantsHaveExtent s vs e = (t : SchemaTable) → Knows t (definitions_in s) → Ends e (variants_end t.layouts vs) (variants_align t.layouts vs)

-- Parts laid out so far, from an offset on, and those that are left.
pub record PartsSoFar (l : Layouts) (start : ℕ) (all rest : Parts) (e : Extent) : Type 0 where
  pub at : ℕ
  pub ends : e.end ≡ fits at
  pub same_end : parts_end l start all ≡ parts_end l at rest
  pub same_align : parts_align l all ≡ max e.align (parts_align l rest)

-- Variants laid out so far, and those that are left.
pub record VariantsSoFar (l : Layouts) (all rest : Variants) (e : Extent) : Type 0 where
  pub at : ℕ
  pub tag : 1 ≤ at
  pub ends : e.end ≡ fits at
  pub same_end : variants_end l all ≡ max at (variants_end l rest)
  pub same_align : variants_align l all ≡ max e.align (variants_align l rest)
