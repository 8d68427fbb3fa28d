-- When a check of one shape is a check of a type, and the laws of those that stand here.
use Rattle.std.specs.Prelude.{◌≡◌, ℕ, List, [], Option, Some, None, Bool, true, false, IsTrue, nat_le}
use mathlib.Core.Bool.{true≢false}
use Rattle.std.proofs.Common.{refl, sym, arith}
use Rattle.std.proofs.lemmas.Bool.Decides.{nat_tests}
use Rattle.std.specs.Int.{w8, w16, w32, w64, w128}
use Rattle.archive_check.specs.Shape.{Kind, unit, bool, char, number, non_zero, raw_rel, Shape, leaf, Table}
use Rattle.archive_check.specs.Layout.{kind_size}
use Rattle.archive_check.specs.Reads.{SchemaTable}
use Rattle.archive_check.specs.Tour.{Seen}
use Rattle.archive_check.specs.Outcomes.{Outcome}
use Rattle.archive_check.specs.Words.BoundedSizes.{fits}
use Rattle.archive_check.specs.Definitions.{Definitions, no_definition, listed, Knows}
use Rattle.archive_check.specs.SelfCheck.Ways.{shape_way}
use Rattle.archive_check.specs.MissingNames.{missing}
use Rattle.archive_check.specs.SelfCheck.Orders.{IsOrder}

-- Under the schema, what comes of a Y comes of the X in its place.
abbrev pub ChecksAs : SchemaTable → Shape → Shape → Type 0
ChecksAs t Y X = (bytes : List ℕ) (p : ℕ) (pending : List ℕ) (depth : Option ℕ) (stop start : ℕ) (seen : Seen) (o : Outcome) → shape_way bytes p Y t pending depth stop start seen o → shape_way bytes p X t pending depth stop start seen o

-- A check of a Y, in n bytes and with the definitions E, is one of an X of `size` bytes, whose definitions D give it a meaning; they are none where the
-- check says that it is nameless.
pub record IsCheckOf (D : Definitions) (X : Shape) (size : ℕ) (E : Definitions) (Y : Shape) (n : ℕ) (nameless : Bool) : Type 0 where
  pub within : nat_le n size ≡ true
  pub small : fits size ≡ Some size
  pub order : Table
  pub ordered : IsOrder D X order
  pub known : (t : SchemaTable) → Knows t D → Knows t E
  pub leads : (t : SchemaTable) → Knows t D → ChecksAs t Y X
  pub plain : IsTrue nameless → listed D ≡ []

-- A type that says no has no law to show.
pub by_schema : {A : Type 0} → IsTrue false → A
by_schema says = absurd (true≢false (sym says))

pub no_more : (n : ℕ) → nat_le n n ≡ true
no_more n = grind (arith, nat_tests)

-- The check of a type's own shape.
pub own_check : (D : Definitions) (X : Shape) (size : ℕ) (order : Table) (nameless : Bool) → fits size ≡ Some size → IsOrder D X order → (IsTrue nameless → listed D ≡ []) → IsCheckOf D X size D X size nameless
own_check D X size order nameless small ordered plain = record {
  within = no_more size;
  small = small;
  order = order;
  ordered = ordered;
  known = λ t k. k;
  leads = λ t k bytes p pending depth stop start seen o w. w;
  plain = plain;
}

-- So is that of a type which holds no name.
pub plain_check : {nameless : Bool} (X : Shape) (size : ℕ) → fits size ≡ Some size → missing true [] X ≡ None → IsCheckOf no_definition X size no_definition X size nameless
plain_check {nameless = nameless} X size small none = own_check no_definition X size [] nameless small (record { has = tt; only = tt; once = tt; root = none; closed = tt; placed = tt }) (λ says. refl)

leaf_fits : (kind : Kind) → fits (kind_size kind) ≡ Some (kind_size kind)
leaf_fits unit = refl
leaf_fits bool = refl
leaf_fits char = refl
leaf_fits (number sign w8) = refl
leaf_fits (number sign w16) = refl
leaf_fits (number sign w32) = refl
leaf_fits (number sign w64) = refl
leaf_fits (number sign w128) = refl
leaf_fits (non_zero sign w8) = refl
leaf_fits (non_zero sign w16) = refl
leaf_fits (non_zero sign w32) = refl
leaf_fits (non_zero sign w64) = refl
leaf_fits (non_zero sign w128) = refl
leaf_fits (raw_rel sign w8) = refl
leaf_fits (raw_rel sign w16) = refl
leaf_fits (raw_rel sign w32) = refl
leaf_fits (raw_rel sign w64) = refl
leaf_fits (raw_rel sign w128) = refl

-- The check of a leaf.
pub leaf_check : {nameless : Bool} (kind : Kind) → IsCheckOf no_definition (leaf kind) (kind_size kind) no_definition (leaf kind) (kind_size kind) nameless
leaf_check kind = plain_check (leaf kind) (kind_size kind) (leaf_fits kind) refl
