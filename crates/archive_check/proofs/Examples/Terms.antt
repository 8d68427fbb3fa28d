-- The words that the examples share.
use Rattle.std.proofs.Common.{◌≡◌, Bool, true, bytes_eq, ℕ, pos, ◌<◌, ◌^◌, List, [], ◌∷◌, length, codes, Some, None, false, refl, w8, w32, arith}
use Rattle.std.specs.Ordering.{nat_cmp}
use Rattle.std.specs.FinMap.{empty, get, get-empty}
use Rattle.archive_check.specs.Shape.{Name, definition, unit, unsigned, signed, number as number_kind, Flavor, Shape, leaf, parts, choice, no_part, part, no_variant, variant}
use Rattle.archive_check.specs.Layout.{Layout, layout}
use Rattle.archive_check.specs.Value.{Value, number, product, Values, no_value, value}
use Rattle.archive_check.specs.Reads.{SchemaTable, LaidOut}
use Rattle.archive_check.specs.Tour.{Entry, Accepted}
use Rattle.archive_check.specs.Trail.{Fault, RootTrips}
use Rattle.archive_check.specs.Denotes.{IsSharedValue, Denotes}
use Rattle.archive_check.proofs.Checks.AcceptedWalks.{walks}
use Rattle.archive_check.proofs.Checks.FaultyNotWalked.{root_no_walk}

abbrev pub u8 : Shape
u8 = leaf (number_kind unsigned w8)

abbrev pub u32 : Shape
u32 = leaf (number_kind unsigned w32)

abbrev pub i32 : Shape
i32 = leaf (number_kind signed w32)

abbrev pub nothing : Shape
nothing = leaf unit

-- a record of two parts, and what it says
abbrev pub pair : Shape → Shape → Shape
pair X Y = parts (part X (part Y no_part))

abbrev pub both : Value → Value → Value
both v w = product (value v (value w no_value))

abbrev pub numbers : List ℕ → Values
numbers [] = no_value
numbers (n ∷ ns) = value (number (pos n)) (numbers ns)

abbrev pub option : Shape → Shape
option X = choice (codes "ArchivedOption") (variant no_part (variant (part X no_part) no_variant))

abbrev pub rc : Flavor
rc = record { name = codes "RcFlavor"; cycles = false }

abbrev pub no_names : SchemaTable
no_names = record { table = []; layouts = λ name. record { size = 0; align = 1 } }

-- The buffer is an archive. It says v, and shares nothing.
abbrev pub Says : SchemaTable → List ℕ → ℕ → Shape → Value → Type 0
Says s bytes root X v = Denotes s bytes root X (record { value = v; shared = empty })

-- The buffer is no archive, and the fault is the first thing that a check without a limit finds.
abbrev pub Refused : SchemaTable → List ℕ → ℕ → Shape → Fault → Type 0
Refused s bytes root X fault = RootTrips s bytes None root X fault × (Accepted s bytes root X → ⊥)

pub refused : {s : SchemaTable} {bytes : List ℕ} {root : ℕ} {X : Shape} {fault : Fault} → length bytes < 2 ^ 64 → RootTrips s bytes None root X fault → Refused s bytes root X fault
refused {s} {bytes} {root} {X} small t = (t, λ a. root_no_walk s bytes small t (walks s bytes None root X (a, tt)))

pub shares_nothing : (s : SchemaTable) (bytes : List ℕ) (t : ℕ) → IsSharedValue s bytes t (get {R = nat_cmp} empty t) (get {R = nat_cmp} empty t)
shares_nothing s bytes t = rw (get-empty {X = Entry} nat_cmp t) (rw (get-empty {X = Entry × Value} nat_cmp t) refl)

pub laid_out : LaidOut no_names
laid_out = record { solves = λ name X e. cc; aligned = λ name. omega arith }

-- where one name is defined, the layout of its definition is that of each name that has one
pub one_definition : (defined name : Name) (Y X : Shape) (L : Layout) → definition ((defined, Y) ∷ []) name ≡ Some X → L ≡ layout (λ n. L) Y → L ≡ layout (λ n. L) X
one_definition defined name Y X L d is = by_name (bytes_eq defined name) refl
  where
    by_name : (b : Bool) → bytes_eq defined name ≡ b → L ≡ layout (λ n. L) X
    by_name true e = let same : X ≡ Y = cc in rw same is
    by_name false e = let never : ⊥ = cc in absurd never
