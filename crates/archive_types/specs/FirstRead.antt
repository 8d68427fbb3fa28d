-- The first of elements that stand one behind another are read back many at once.
use Rattle.std.specs.Prelude.{ℕ, ℤ, ◌+◌, ◌*◌, ◌<◌, List, length, slice_index_or, Bool}
use Rattle.archive_check.specs.Definitions.{Definitions, no_definition}
use Rattle.archive_check.specs.Denotes.{Naming}
use Rattle.archive_check.specs.Entries.{ReadsBack}
use Rattle.archive_check.specs.Layout.{kind_size}
use Rattle.archive_check.specs.Pooled.{Entries}
use Rattle.archive_check.specs.Shape.{Kind, Pointee, leaf, one}
use Rattle.archive_check.specs.Value.{Value, number}
use Rattle.archive_check.specs.Viewed.{Says}
use Rattle.archive_types.specs.Views.{AreViewed}

-- These are the first elements, z bytes apart, from q on, read back; nothing is told of them.
abbrev pub AreFirstRead : {T : Type 0} → Definitions → List ℕ → ℕ → ℕ → Pointee → (T → Value) → (T → List Naming) → List T → Type 0
AreFirstRead {T} D bytes q z P meaning keys xs =
    (k : ℕ) (d : T) (told : Entries) (keeps : Bool) → k < length xs → ReadsBack keeps D bytes (q + k * z) P 0 told told (meaning (slice_index_or xs k d)) (keys (slice_index_or xs k d))

-- Each of the first n of these is said by what stands at its index, counted from i on, of elements of z bytes from q on.
abbrev pub AreSaid : {A : Type 0} → Definitions → List ℕ → ℕ → ℕ → Pointee → (A → Value) → ℕ → ℕ → List A → Type 0
AreSaid {A} D bytes q z P meaning i n xs = (k : ℕ) (d : A) → k < n → Says D bytes (q + (i + k) * z) P 0 (meaning (slice_index_or xs k d))

-- n leaves of a kind are viewed, one behind another, from q on.
abbrev pub AreLeaves : Kind → List ℕ → ℕ → ℕ → Type 0
AreLeaves kind bytes q n = AreViewed no_definition bytes q (kind_size kind) (one (leaf kind)) n

-- Each of the first n of these is the number in the leaf at its index, counted from i on.
abbrev pub AreLeavesSaid : {A : Type 0} → Kind → (A → ℤ) → List ℕ → ℕ → ℕ → ℕ → List A → Type 0
AreLeavesSaid kind value bytes q i n xs = AreSaid no_definition bytes q (kind_size kind) (one (leaf kind)) (λ x. number (value x)) i n xs
