-- What the region of a pointer takes, under all definitions that come with its pointee.
use Rattle.std.specs.Prelude.{◌≡◌, ◌⊎◌, ℕ, ◌<◌, ◌≤◌, ◌^◌, min}
use Rattle.archive_check.specs.declared.format.layout.Layout.{Layout as RustLayout}
use Rattle.archive_check.specs.Shape.{Pointee, one, run, text}
use Rattle.archive_check.specs.Reads.{SchemaTable}
use Rattle.archive_check.specs.Definitions.{Definitions, Knows}
use Rattle.archive_check.specs.Tour.{pointee_size, pointee_align}

-- One value, or a run of one.
abbrev pub IsSingle : Pointee → ℕ → Type 0
IsSingle (one X) n = Unit {0}
IsSingle (run X) n = n ≡ 1
IsSingle text n = ⊥

-- The layout of a region; a size of usize::MAX stands for all that are greater, too, which only a single value's can be.
pub record IsRegionLayout (D : Definitions) (P : Pointee) (n : ℕ) (l : RustLayout) : Type 0 where
  pub size : (s : SchemaTable) → Knows s D → l.size ≡ min (pointee_size s P n) 18446744073709551615
  pub align : (s : SchemaTable) → Knows s D → l.align ≡ pointee_align s P
  pub few : (s : SchemaTable) → Knows s D → (pointee_size s P n < 2 ^ 64) ⊎ IsSingle P n

-- The region takes more than usize::MAX.
abbrev pub IsLargeRegion : Definitions → Pointee → ℕ → Type 0
IsLargeRegion D P n = (s : SchemaTable) → Knows s D → 2 ^ 64 ≤ pointee_size s P n

-- And has no layout: it is no single value's.
abbrev pub HasNoLayout : Definitions → Pointee → ℕ → Type 0
HasNoLayout D P n = IsLargeRegion D P n × (IsSingle P n → ⊥)
