-- Shared values as sources: what they mean, their keys, and what is read in their place.
use Rattle.std.specs.Prelude.{◌≡◌, ℕ, List, ◌∷◌, false, codes}
use Rattle.archive_check.specs.Shape.{Flavor, Shape, Pointee, one, shared}
use Rattle.archive_check.specs.Definitions.{Definitions}
use Rattle.archive_check.specs.Value.{Value, shared_value, hole}
use Rattle.archive_check.specs.Denotes.{Naming}
use Rattle.archive_types.specs.Writing.{IsKeyed, to_shared}
use Rattle.archive_types.specs.Members.PlannedOwners.{pointee_planned}
use Rattle.archive_types.specs.Plans.{HasPlan, HasRegionPlan}
use Rattle.archive_types.specs.Members.SharedLaws.{flavor_as, naming_of, shared_keyed, shared_planned}

-- The flavor of `Rc`.
abbrev pub rc_flavor : Flavor
rc_flavor = flavor_as (codes "RcFlavor") false

-- Its own key, with what it names, and the keys in its value.
abbrev pub rc_keys : ℕ → Pointee → ℕ → Value → List Naming → List Naming
rc_keys key P n v ks = naming_of key rc_flavor P n v ∷ ks

-- What is read in its place, by where its value stands.
abbrev pub rc_flat : ℕ → Pointee → ℕ → Value
rc_flat t P n = hole (to_shared t rc_flavor P n)

pub rc_keyed : (key : ℕ) (P : Pointee) (n : ℕ) (v : Value) (ks : List Naming) → IsKeyed ks v → IsKeyed (rc_keys key P n v ks) (shared_value key)
rc_keyed key P n v ks h = shared_keyed key rc_flavor P n ks v h

pub rc_planned : (D : Definitions) (key : ℕ) (P : Pointee) (n : ℕ) (v : Value) (ks : List Naming) → HasRegionPlan D P n ks v → HasPlan D (shared rc_flavor P) (rc_keys key P n v ks) (shared_value key)
rc_planned D key P n v ks h = shared_planned D P n ks v rc_flavor key h

-- One value, shared.
pub rc_one_planned : (D : Definitions) (key : ℕ) (P : Pointee) (X : Shape) → P ≡ one X → (v : Value) (ks : List Naming) → HasPlan D X ks v → HasPlan D (shared rc_flavor P) (rc_keys key P 0 v ks) (shared_value key)
rc_one_planned D key P X is v ks h = rc_planned D key P 0 v ks (pointee_planned D P X is ks v h)
