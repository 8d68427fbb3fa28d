-- Sizes in usize: None stands for all above usize::MAX.
use Rattle.std.specs.Prelude.{ℕ, ◌+◌, max, Option, Some, None}
use Rattle.archive_check.specs.Words.BoundedSizes.{fits}

abbrev pub sum_of : Option ℕ → Option ℕ → Option ℕ
sum_of (Some a) (Some b) = fits (a + b)
sum_of _ _ = None

abbrev pub greater_of : Option ℕ → Option ℕ → Option ℕ
greater_of (Some a) (Some b) = Some (max a b)
greater_of _ _ = None
