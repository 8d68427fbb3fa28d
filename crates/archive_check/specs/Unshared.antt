-- Types whose flavors are as they should: in which nothing is shared, or nothing may hold itself.
use Rattle.std.specs.Prelude.{◌≡◌, ◌⊎◌, ℕ, Bool, true, false, not, ◌&&◌, is_some, IsTrue, Some, None, Contains}
use Rattle.archive_check.specs.Shape.{Name, Flavor, Shape, leaf, parts, choice, array, boxed, vec, sorted_map, str, shared, weak, named, Pointee, one, run, text, Parts, no_part, part, Variants, no_variant, variant, Table, definition}
use Rattle.archive_check.specs.Definitions.{Definitions, listed}
use Rattle.archive_check.specs.Pooled.{Entries}

-- Each shared or weak pointer in the shape has one of these flavors, and each name in it is
-- defined.
abbrev mutual
  pub has_flavors : (Flavor → Bool) → Table → Shape → Bool
  has_flavors right table (leaf kind) = true
  has_flavors right table (parts ps) = parts_have_flavors right table ps
  has_flavors right table (choice name vs) = variants_have_flavors right table vs
  has_flavors right table (array n X) = has_flavors right table X
  has_flavors right table (boxed P) = pointee_has_flavors right table P
  has_flavors right table (vec X) = has_flavors right table X
  has_flavors right table (sorted_map K V) = has_flavors right table V
  has_flavors right table str = true
  has_flavors right table (shared flavor P) = right flavor && pointee_has_flavors right table P
  has_flavors right table (weak flavor P) = right flavor && pointee_has_flavors right table P
  has_flavors right table (named name) = is_some (definition table name)

  -- The same of what a pointer leads to.
  pub pointee_has_flavors : (Flavor → Bool) → Table → Pointee → Bool
  pointee_has_flavors right table (one X) = has_flavors right table X
  pointee_has_flavors right table (run X) = has_flavors right table X
  pointee_has_flavors right table text = true

  -- The same of parts.
  pub parts_have_flavors : (Flavor → Bool) → Table → Parts → Bool
  parts_have_flavors right table no_part = true
  parts_have_flavors right table (part X ps) = has_flavors right table X && parts_have_flavors right table ps

  -- The same of variants.
  pub variants_have_flavors : (Flavor → Bool) → Table → Variants → Bool
  variants_have_flavors right table no_variant = true
  variants_have_flavors right table (variant ps vs) = parts_have_flavors right table ps && variants_have_flavors right table vs

-- Each shared or weak pointer in X and in the definitions has one of these flavors.
pub record HasFlavors (right : Flavor → Bool) (D : Definitions) (X : Shape) : Type 0 where
  pub shape : IsTrue (has_flavors right (listed D) X)
  pub definitions : (name : Name) (Y : Shape) → Contains (listed D) (name, Y) → IsTrue (has_flavors right (listed D) Y)

-- Nothing is shared.
abbrev pub IsUnshared : Definitions → Shape → Type 0
IsUnshared D X = HasFlavors (λ flavor. false) D X

-- No flavor allows cycles.
abbrev pub IsAcyclic : Definitions → Shape → Type 0
IsAcyclic D X = HasFlavors (λ flavor. not flavor.cycles) D X

-- No reading of an X can meet an open position: nothing is shared, or no flavor allows cycles and
-- no position is pending.
abbrev pub IsNeverOpen : Definitions → Shape → Entries → Type 0
IsNeverOpen D X told = IsUnshared D X ⊎ (IsAcyclic D X × ((t : ℕ) → told t ≡ Some None → ⊥))
