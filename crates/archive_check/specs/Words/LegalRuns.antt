-- Leaves one behind another.
use Rattle.std.specs.Prelude.{ℕ, ◌+◌, ◌*◌, ◌<◌, List}
use Rattle.archive_check.specs.Shape.{Kind}
use Rattle.archive_check.specs.Layout.{kind_size}
use Rattle.archive_check.specs.Reads.{bytes_at, IsLegal}

-- n leaves of the kind, z bytes apart from p on, are legal.
abbrev pub AreLegal : Kind → List ℕ → ℕ → ℕ → ℕ → Type 0
AreLegal kind bytes p z n = (k : ℕ) → k < n → IsLegal kind (bytes_at bytes (p + k * z) (kind_size kind))
