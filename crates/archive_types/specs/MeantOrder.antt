-- The order of two views that mean something: where no flavor allows cycles, each means one value.
use Rattle.std.specs.Prelude.{◌≡◌}
use Rattle.std.specs.declared.cmp.Ordering.{Ordering}
use Rattle.archive_check.specs.Shape.{Pointee, boxed}
use Rattle.archive_check.specs.Definitions.{Definitions}
use Rattle.archive_check.specs.Unshared.{IsAcyclic}
use Rattle.archive_check.specs.Value.{Value}
use Rattle.archive_check.specs.declared.format.traits.ArchivePointee as ArchivePointee
use Rattle.archive_types.specs.Compared.{Standing}
use Rattle.archive_types.specs.Words.Seen.{shown}
use Rattle.archive_types.specs.ValueOrder.{value_cmp, Means}
use Rattle.archive_types.specs.declared.view.Ref.{Ref}

-- No flavor of what a pointer to a P leads to allows cycles.
abbrev pub IsAcyclicPointee : Definitions → Pointee → Type 0
IsAcyclicPointee D P = IsAcyclic D (boxed P)

-- P there means this value, and no other.
pub record MeansOne (D : Definitions) (P : Pointee) (a : Standing) (w : Value) : Type 0 where
  pub means : Means D P a w
  pub only : (v : Value) → Means D P a v → v ≡ w

-- Two parts mean one value each, and r is the order of these.
pub record HaveOrder (D : Definitions) (P : Pointee) (a b : Standing) (r : Ordering) : Type 0 where
  pub left : Value
  pub right : Value
  pub left_meant : MeansOne D P a left
  pub right_meant : MeansOne D P b right
  pub order : r ≡ value_cmp left right

-- So do two views, where no flavor of what they show allows cycles.
abbrev pub OrdersMeant : {T M : Type 0} {g : ArchivePointee.Ghosts T M} → Ref T M g → Ref T M g → Ordering → Type 0
OrdersMeant {g = g} a b r = IsAcyclicPointee g.definitions g.pointee → ∥ HaveOrder g.definitions g.pointee (shown a) (shown b) r ∥₁
