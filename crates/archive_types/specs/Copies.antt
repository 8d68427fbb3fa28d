-- Values that are copied: each owns nothing, and has its bytes wherever it stands. What copying them appends, and why it is refused.
use Rattle.std.specs.Prelude.{◌≡◌, ◌⊎◌, ℕ, zero, suc, Option, None, Some, ◌+◌, ◌-◌, ◌*◌, ◌^◌, ◌<◌, ◌≤◌, List, [], ◌∷◌, ◌++◌, length, replicate, IfSome}
use Rattle.archive_check.specs.Shape.{Shape}
use Rattle.archive_check.specs.Layout.{Layout}
use Rattle.archive_check.specs.Definitions.{Definitions}
use Rattle.archive_check.specs.Value.{Value}
use Rattle.archive_check.specs.WriterState.{WriterState, KeepsKeys}
use Rattle.archive_check.specs.declared.format.error.Error.{Error}
use Rattle.archive_check.specs.declared.format.error.Error.TheVariants.{PositionTooLarge, LengthTooLarge, LayoutTooLarge}
use Rattle.archive_check.specs.Denotes.{Naming}
use Rattle.archive_write.specs.Written.{padding}
use Rattle.archive_types.specs.Members.Arrays.{ResolvesRun}
use Rattle.archive_types.specs.Causes.{Explains}
use Rattle.archive_types.specs.Writing.{Resolves}
use Rattle.archive_types.specs.Plans.{Serialized}
use Rattle.archive_types.specs.Runs.{each_meaning}

-- The bytes of values, one behind another.
abbrev pub each_bytes : {A : Type 0} → (A → List ℕ) → List A → List ℕ
each_bytes b [] = []
each_bytes b (x ∷ xs) = b x ++ each_bytes b xs

-- Arrays of n bytes, `more` of them above 1,024, are written in bulk as their elements are, if n isn't 0 and `more` is.
abbrev pub small_in_bulk : {A : Type 0} → ℕ → ℕ → Option (A → List ℕ) → Option (List A → List ℕ)
small_in_bulk zero more b = None
small_in_bulk (suc n) (suc more) b = None
small_in_bulk (suc n) zero None = None
small_in_bulk (suc n) zero (Some b) = Some (each_bytes b)

-- So arrays of 1 to 1,024 bytes are.
abbrev pub array_in_bulk : {A : Type 0} → ℕ → Option (A → List ℕ) → Option (List A → List ℕ)
array_in_bulk n b = small_in_bulk n (n - 1024) b

-- These n bytes read as the value wherever they lie.
pub record IsCopied (D : Definitions) (X : Shape) (size : ℕ) (v : Value) (bytes : List ℕ) : Type 0 where
  pub sized : length bytes ≡ size
  pub resolved : (p : ℕ) → Resolves D p bytes X v

-- Those of each of the values do.
abbrev pub EachCopied : {A : Type 0} → Definitions → Shape → ℕ → (A → Value) → (A → List ℕ) → List A → Type 0
EachCopied D X size m b [] = Unit {0}
EachCopied D X size m b (x ∷ xs) = IsCopied D X size (m x) (b x) × EachCopied D X size m b xs

-- A value owns nothing: its serialization writes nothing, and it reads as it is.
abbrev pub OwnsNothing : Definitions → Shape → List Naming → Value → Type 0
OwnsNothing D X keys v = (w : WriterState) → Serialized D X keys v v w w

-- Each of the values does.
abbrev pub EachOwnsNothing : {A : Type 0} → Definitions → Shape → (A → List Naming) → (A → Value) → List A → Type 0
EachOwnsNothing D X k m [] = Unit {0}
EachOwnsNothing D X k m (x ∷ xs) = OwnsNothing D X (k x) (m x) × EachOwnsNothing D X k m xs

-- Where values stand that are copied behind n bytes: at the next multiple of their alignment.
abbrev pub copies_from : Layout → ℕ → ℕ
copies_from L n = n + padding L.align n

-- Where n of them end.
abbrev pub copies_to : Layout → ℕ → ℕ → ℕ
copies_to L count n = copies_from L n + count * L.size

-- Behind the old bytes come zeros up to the values' alignment, and then these.
abbrev pub behind_zeros : Layout → List ℕ → List ℕ → List ℕ
behind_zeros L old bytes = (old ++ replicate (padding L.align (length old)) 0) ++ bytes

-- Values were copied: they own nothing, and behind zeros up to their alignment come bytes that are read as all of them, wherever they stand.
pub record AreCopied {A : Type 0} (D : Definitions) (X : Shape) (L : Layout) (k : A → List Naming) (m : A → Value) (xs : List A) (old new : WriterState) : Type 0 where
  pub own_nothing : EachOwnsNothing D X k m xs
  pub bytes : List ℕ
  pub sized : length bytes ≡ length xs * L.size
  pub resolved : (p : ℕ) → ResolvesRun D p bytes (length xs) X (each_meaning m xs)
  pub grown : new.bytes ≡ behind_zeros L old.bytes bytes
  pub states : KeepsKeys old.states new.states

-- Why bytes up to an end weren't written, where the values have no cause of their own: for want of memory or of room, or by the device.
abbrev pub IsWriteRefused : ℕ → WriterState → WriterState → Error → Type 0
IsWriteRefused end old new = Explains (λ e. ⊥) (λ n. n ≤ end) old new

-- Why a copy that goes up to an end was refused: the end is above `usize::MAX`, or the bytes weren't written.
abbrev pub IsCopyRefused : ℕ → WriterState → WriterState → Error → Type 0
IsCopyRefused end old new = Explains (λ e. (e ≡ LayoutTooLarge) × (2 ^ 64 ≤ end)) (λ n. n ≤ end) old new

-- Why the values of a slice aren't copied: their number, which a pointer can't say, or an end above `usize::MAX`; or they weren't written.
abbrev pub IsSliceRefused : Layout → ℕ → ℕ → WriterState → WriterState → Error → Type 0
IsSliceRefused L count p old new = Explains (λ e. ((e ≡ LengthTooLarge) × (4294967295 < count)) ⊎ ((e ≡ LayoutTooLarge) × (2 ^ 64 ≤ copies_to L count p)))
    (λ n. n ≤ copies_to L count p) old new

-- Why copies aren't written as a vector's elements: a length or a position that a pointer can't say, or an end above `usize::MAX`.
abbrev pub HindersCopies : Layout → ℕ → ℕ → Error → Type 0
HindersCopies L count p e =
    ((e ≡ LengthTooLarge) × (4294967295 < count))
    ⊎ ((e ≡ PositionTooLarge) × (4294967295 < copies_from L p))
    ⊎ ((e ≡ LayoutTooLarge) × (2 ^ 64 ≤ copies_to L count p))

-- For one of these causes, or since they weren't written.
abbrev pub AreCopiesRefused : Layout → ℕ → ℕ → WriterState → WriterState → Error → Type 0
AreCopiesRefused L count p old new = Explains (HindersCopies L count p) (λ n. n ≤ copies_to L count p) old new

-- Nothing refuses a copy that goes up to an end: no write takes memory, the writer has room, its device never failed, and the end fits `usize`.
pub record TakesCopy (takes_memory : Type 0) (end : ℕ) (old new : WriterState) : Type 0 where
  pub memory : takes_memory → ⊥
  pub room : IfSome old.room (λ room. end ≤ length old.bytes + room)
  pub device : new.failures ≡ 0
  pub fits : end < 2 ^ 64
