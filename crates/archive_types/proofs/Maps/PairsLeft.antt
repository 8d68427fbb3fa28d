-- The pairs that an iterator over a map has left: how many they are, and the last of them.
use Rattle.std.proofs.Common.{◌≡◌, ℕ, zero, suc, ◌+◌, ◌-◌, ◌<◌, List, [], ◌∷◌, ◌++◌, length, arith, refl, ap}
use Rattle.archive_check.specs.Layout.{Layout}
use Rattle.archive_types.specs.Words.SeenEntries.{pair_at, pairs_from}

pub pairs_count : (k v : Layout) (b : List ℕ) (p i n : ℕ) → length (pairs_from k v b p i n) ≡ n
pairs_count k v b p i zero = refl
pairs_count k v b p i (suc n) = ap suc (pairs_count k v b p (i + 1) n)

module _ (k v : Layout) (b : List ℕ) (p : ℕ) where
  last_more : (i n : ℕ) → pairs_from k v b p i (suc n) ≡ pairs_from k v b p i n ++ pair_at k v b p (i + n) ∷ []
  last_more i zero = let same : i + 0 ≡ i = omega arith in rw same refl
  last_more i (suc n) = let same : i + 1 + n ≡ i + suc n = omega arith in ap (λ l. pair_at k v b p i ∷ l) (rw same at (last_more (i + 1) n))

  pub last_left : (i j : ℕ) → i < j
      → pairs_from k v b p i (j - i) ≡ pairs_from k v b p i (j - 1 - i) ++ pair_at k v b p (j - 1) ∷ []
  last_left i j h =
      let some : j - i ≡ suc (j - 1 - i) = omega arith in
      let last : i + (j - 1 - i) ≡ j - 1 = omega arith in
      rw some (rw last at (last_more i (j - 1 - i)))
