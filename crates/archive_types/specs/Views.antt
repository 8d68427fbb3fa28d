-- What a view shows that was made of another one.
use Rattle.std.specs.Prelude.{◌≡◌, ℕ, zero, suc, ◌+◌, ◌*◌, ◌<◌, ◌≤◌, List, Option, Some, None}
use Rattle.archive_check.specs.Shape.{Shape, Pointee, one, run, text}
use Rattle.archive_check.specs.Layout.{Layout}
use Rattle.archive_check.specs.Value.{Value, box, list, Values, no_value, value}
use Rattle.archive_check.specs.Reads.{SchemaTable}
use Rattle.archive_check.specs.Definitions.{Definitions, HasLayout, Knows}
use Rattle.archive_check.specs.Reached.{Reached}
use Rattle.archive_check.specs.Viewed.{Viewed}

-- What stands in a box.
abbrev pub boxed_in : Value → Option Value
boxed_in (box v) = Some v
boxed_in _ = None

-- The value itself, as of a vector and its slice.
abbrev pub itself : Value → Option Value
itself v = Some v

abbrev pub value_at : ℕ → Values → Option Value
value_at k no_value = None
value_at zero (value v vs) = Some v
value_at (suc k) (value v vs) = value_at k vs

-- The element k of a list.
abbrev pub element_in : ℕ → Value → Option Value
element_in k (list vs) = value_at k vs
element_in k _ = None

-- Whatever an archive says of P at q, Q at r is a part of the archive, and it says of it what stands there in that.
pub record ShowsPart (D : Definitions) (bytes : List ℕ) (q : ℕ) (P : Pointee) (n : ℕ) (r : ℕ) (Q : Pointee) (m : ℕ) (taken : Value → Option Value) : Type 0 where
  pub shown : (s : SchemaTable) (root : ℕ) (X : Shape) (w : Value) → Knows s D → Reached s bytes root X q P n w → (u : Value) × (taken w ≡ Some u) × Reached s bytes root X r Q m u

-- Each of n elements of z bytes, from p on, is viewed.
abbrev pub AreViewed : Definitions → List ℕ → ℕ → ℕ → Pointee → ℕ → Type 0
AreViewed D bytes p z P n = (k : ℕ) → k < n → Viewed D bytes (p + k * z) P 0

-- P at `begin`, of this length, ends at `limit` or before.
pub record EndsBefore (D : Definitions) (P : Pointee) (begin length limit : ℕ) : Type 0 where
  pub value : (X : Shape) (L : Layout) → P ≡ one X → HasLayout D X L → begin + L.size ≤ limit
  pub elements : (X : Shape) (L : Layout) → P ≡ run X → HasLayout D X L → begin + length * L.size ≤ limit
  pub bytes : P ≡ text → begin + length ≤ limit
