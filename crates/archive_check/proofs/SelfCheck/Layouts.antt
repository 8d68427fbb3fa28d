-- The layout of a type, and the size of a run, under each schema.
use Rattle.std.proofs.Common.{◌≡◌, ℕ, sym, ap, ◌∙◌, ◌*◌, Option}
use Rattle.archive_check.specs.Shape.{Shape}
use Rattle.archive_check.specs.Reads.{SchemaTable}
use Rattle.archive_check.specs.Layout.{Layout, size_of, align_of}
use Rattle.archive_check.specs.Definitions.{Definitions, Knows, HasLayout}
use Rattle.archive_check.specs.Words.BoundedSizes.{fits, times}
use Rattle.archive_check.proofs.BoundedSizes.{times_fits}

-- the layout of a type, as a schema has it
module _ (D : Definitions) (X : Shape) (L : Layout) (laid : HasLayout D X L) where
  pub its_size : (t : SchemaTable) → Knows t D → size_of t.layouts X ≡ L.size
  its_size t k = ap (λ l. l.size) (laid.solved t k)

  pub its_align : (a : ℕ) → a ≡ L.align → (t : SchemaTable) → Knows t D → align_of t.layouts X ≡ a
  its_align a is t k = ap (λ l. l.align) (laid.solved t k) ∙ sym is

-- the size of a run
pub times_is : (whole : Option ℕ) (n z : ℕ) (r : Option ℕ) → r ≡ times whole n → whole ≡ fits z → r ≡ fits (n * z)
times_is whole n z r e w = e ∙ ap (λ o. times o n) w ∙ times_fits z n
