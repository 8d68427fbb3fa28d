-- What is written over a part of a place: the part's own bytes, while the others stay.
use Rattle.std.specs.Prelude.{◌≡◌, ◌+◌, ◌<◌, ℕ, List, slice_index}
use Rattle.archive_check.specs.Leaves.{edit}
use Rattle.archive_check.specs.Reads.{bytes_at}

-- Only the n bytes from the offset o on may be other than they were.
abbrev pub ChangesOnly : ℕ → ℕ → List ℕ → List ℕ → Type 0
ChangesOnly o n old new = new ≡ edit old o (bytes_at new o n)

-- Each of the n bytes from the offset o on is 0.
pub record ZeroedPart (o n : ℕ) (bytes : List ℕ) : Type 0 where
  pub zero_at : (i : ℕ) → i < n → slice_index bytes (o + i) ≡ 0
