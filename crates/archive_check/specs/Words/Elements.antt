-- Elements of lists.
use Rattle.std.specs.Prelude.{◌≡◌, ℕ, ◌-◌, ◌<◌, List, length, slice_index_or, take, drop}

-- The element at i.
pub record IsAt {A : Type 0} (xs : List A) (i : ℕ) (x : A) : Type 0 where
  pub below : i < length xs
  pub is : x ≡ slice_index_or xs i x

-- The elements from a up to b.
abbrev pub span : {A : Type 0} → List A → ℕ → ℕ → List A
span xs a b = take (b - a) (drop a xs)
