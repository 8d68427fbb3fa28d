-- The elements that an iterator over a slice has left: the last of them.
use Rattle.std.proofs.Common.{◌≡◌, ℕ, zero, suc, ◌+◌, ◌-◌, ◌*◌, ◌<◌, List, [], ◌∷◌, ◌++◌, arith, refl, ap}
use Rattle.archive_types.specs.Compared.{standing, elements_from}

module _ (b : List ℕ) (p z : ℕ) where
  last_more : (i n : ℕ) → elements_from b p z i (suc n) ≡ elements_from b p z i n ++ standing b (p + (i + n) * z) 0 ∷ []
  last_more i zero = let same : i + 0 ≡ i = omega arith in rw same refl
  last_more i (suc n) = let same : i + 1 + n ≡ i + suc n = omega arith in ap (λ l. standing b (p + i * z) 0 ∷ l) (rw same at (last_more (i + 1) n))

  pub last_left : (i j : ℕ) → i < j → elements_from b p z i (j - i) ≡ elements_from b p z i (j - 1 - i) ++ standing b (p + (j - 1) * z) 0 ∷ []
  last_left i j h =
      let some : j - i ≡ suc (j - 1 - i) = omega arith in
      let last : i + (j - 1 - i) ≡ j - 1 = omega arith in
      rw some (rw last at (last_more i (j - 1 - i)))
