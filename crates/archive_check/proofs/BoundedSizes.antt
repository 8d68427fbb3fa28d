-- Which sizes fit into 64 bits, and what is computed from them.
use Rattle.std.proofs.Common.{◌≡◌, ⊎_elim, ℕ, zero, suc, refl, sym, ap, ◌∙◌, ◌*◌, ◌<◌, ◌≤◌, arith, Option, Some, None, mul_comm}
use Rattle.std.proofs.lemmas.Bool.Decides.{nat_tests}
use Rattle.std.proofs.lemmas.Bool.{cases_lt}
use Rattle.archive_check.specs.Layout.{up}
use Rattle.archive_check.specs.Words.BoundedSizes.{times, fits, rounded}
use Rattle.archive_check.proofs.Tours.PartsInside.{up_le}

pub fits_some : (n : ℕ) → n < 18446744073709551616 → fits n ≡ Some n
fits_some n h = grind (arith, nat_tests)

pub fits_none : (n : ℕ) → 18446744073709551616 ≤ n → fits n ≡ None
fits_none n h = grind (arith, nat_tests)

pub some_is : {x y : ℕ} → fits x ≡ Some y → x ≡ y
some_is e = grind (arith, nat_tests)

pub some_below : (x : ℕ) {y : ℕ} → fits x ≡ Some y → y < 18446744073709551616
some_below x e = grind (arith, nat_tests)

pub none_is : {x : ℕ} → fits x ≡ None → 18446744073709551616 ≤ x
none_is e = grind (arith, nat_tests)

-- rounding what fits, or not
pub rounded_fits : (n a : ℕ) → 0 < a → rounded (fits n) a ≡ fits (up n a)
rounded_fits n a h =
    ⊎_elim (λ lt. ap (λ o. rounded o a) (fits_some n lt)) (λ ge. ap (λ o. rounded o a) (fits_none n ge) ∙ sym (fits_none (up n a) (omega (arith, up_le n a h)))) (cases_lt n 18446744073709551616)

pub rounded_some : (o : Option ℕ) (a z : ℕ) → 0 < a → rounded o a ≡ Some z → (e : ℕ) × (o ≡ Some e) × (e ≤ z) × (z ≡ up e a)
rounded_some None a z h q = absurd (cc q)
rounded_some (Some e) a z h q = (e, refl, omega (arith, up_le e a h, some_is q), sym (some_is q))

pub times_none : (n : ℕ) → 0 < n → times None n ≡ None
times_none n h = grind (arith, nat_tests)

pub times_fits : (y n : ℕ) → times (fits y) n ≡ fits (n * y)
times_fits y n = ⊎_elim (λ h. ap (λ o. times o n) (fits_some y h) ∙ ap fits (mul_comm y n)) (λ h. ap (λ o. times o n) (fits_none y h) ∙ none n h) (cases_lt y 18446744073709551616)
  where
    none : (n : ℕ) → 18446744073709551616 ≤ y → times None n ≡ fits (n * y)
    none zero h = let e : 0 * y ≡ 0 = omega arith in sym (ap fits e)
    none (suc n) h = times_none (suc n) (omega arith) ∙ sym (fits_none (suc n * y) (omega arith))

pub ruleset fitting = (rounded_fits, times_fits)
