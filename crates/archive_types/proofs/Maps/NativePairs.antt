-- The pairs of a map and those of one of the machine are compared one after another.
use Rattle.std.proofs.Common.{◌≡◌, ℕ, suc, ◌+◌, ◌-◌, ◌*◌, ◌<◌, Bool, true, false, ◌&&◌, List, [], ◌∷◌, length, arith, refl, sym, ap, ◌∙◌}
use mathlib.Core.Bool.{true≢false}
use Rattle.std.specs.Cmp.Lexicographic.{slice_cmp}
use Rattle.std.specs.Ordering.{is_eq, ordering_then}
use Rattle.std.specs.declared.cmp.Ordering.{Ordering}
use Rattle.std.specs.declared.cmp.Ordering.TheVariants.{Less, Equal, Greater}
use Rattle.archive_types.specs.Compared.{Standing, standing, elements_from}
use Rattle.archive_types.proofs.Comparing.Compared.{count}

-- what is level in two ways is so in both
pub both_level : (r s : Ordering) → is_eq (ordering_then r s) ≡ is_eq r && is_eq s
both_level Less s = refl
both_level Equal s = refl
both_level Greater s = refl

module _ {U : Type 0} (N : Standing → U → Ordering) where
  -- lists that are level have one length
  level_lengths : (xs : List Standing) (us : List U) → is_eq (slice_cmp N xs us) ≡ true → length xs ≡ length us
  level_lengths [] [] h = refl
  level_lengths [] (u ∷ us) h = absurd (true≢false (sym h))
  level_lengths (x ∷ xs) [] h = absurd (true≢false (sym h))
  level_lengths (x ∷ xs) (u ∷ us) h =
      let parts = level_both (N x u) (slice_cmp N xs us) h in
      ap suc (level_lengths xs us parts)
    where
      level_both : (r s : Ordering) → is_eq (ordering_then r s) ≡ true → is_eq s ≡ true
      level_both Less s h = absurd (true≢false (sym h))
      level_both Equal s h = h
      level_both Greater s h = absurd (true≢false (sym h))

  not_true : (b : Bool) → (b ≡ true → ⊥) → b ≡ false
  not_true true h = absurd (h refl)
  not_true false h = refl

  module _ (b : List ℕ) (p z : ℕ) where
    -- n elements and other values than n aren't level
    pub other_lengths : (n : ℕ) (us : List U) → (n ≡ length us → ⊥)
        → is_eq (slice_cmp N (elements_from b p z 0 n) us) ≡ false
    other_lengths n us other = not_true _ (λ h. other (sym (count b p z 0 n) ∙ level_lengths (elements_from b p z 0 n) us h))

    -- whether what is left from the element i on, of n, is level with these
    abbrev pub is_level : ℕ → ℕ → List U → Bool
    is_level i n us = is_eq (slice_cmp N (elements_from b p z i (n - i)) us)

    level_next : (i n : ℕ) (u : U) (us : List U) → i < n
        → is_level i n (u ∷ us) ≡ is_eq (N (standing b (p + i * z) 0) u) && is_level (i + 1) n us
    level_next i n u us h =
        let some : n - i ≡ suc (n - (i + 1)) = omega arith in
        rw some (both_level (N (standing b (p + i * z) 0) u) (slice_cmp N (elements_from b p z (i + 1) (n - (i + 1))) us))

    -- where the element i isn't level with the first of these, nothing is, and else what is behind them decides
    module _ (i n : ℕ) (u : U) (us items : List U) (below : i < n) (is : items ≡ u ∷ us) where
      pub level_broken : is_eq (N (standing b (p + i * z) 0) u) ≡ false → is_level i n items ≡ false
      level_broken h = ap (is_level i n) is ∙ level_next i n u us below ∙ ap (λ x. x && is_level (i + 1) n us) h

      pub level_goes : is_eq (N (standing b (p + i * z) 0) u) ≡ true → is_level i n items ≡ is_level (i + 1) n us
      level_goes h = ap (is_level i n) is ∙ level_next i n u us below ∙ ap (λ x. x && is_level (i + 1) n us) h
