-- Which sizes fit into 64 bits, and what is computed from them.
use Rattle.std.proofs.Common.{◌≡◌, ⊎_elim, ℕ, refl, sym, ap, ap₂, ◌∙◌, ◌+◌, max, arith, Option, Some, None}
use Rattle.std.proofs.lemmas.Bool.{cases_lt}
use Rattle.archive_check.specs.Words.BoundedSizes.{fits}
use Rattle.archive_schema.specs.plan.BoundedSizes.{sum_of, greater_of}
use Rattle.archive_check.proofs.BoundedSizes.{fits_none, fits_some, some_is}

pub sum_fits : (a b : ℕ) → sum_of (fits a) (fits b) ≡ fits (a + b)
sum_fits a b = ⊎_elim
    (λ h. ⊎_elim (λ k. ap₂ sum_of (fits_some a h) (fits_some b k)) (λ k. ap₂ sum_of (fits_some a h) (fits_none b k) ∙ sym (fits_none (a + b) (omega (arith, k)))) (cases_lt b 18446744073709551616))
    (λ h. ap (λ o. sum_of o (fits b)) (fits_none a h) ∙ sym (fits_none (a + b) (omega (arith, h))))
    (cases_lt a 18446744073709551616)

pub sum_some : (o s : Option ℕ) (e : ℕ) → sum_of o s ≡ Some e → (x : ℕ) × (y : ℕ) × (o ≡ Some x) × (s ≡ Some y) × (x + y ≡ e)
sum_some None s e q = absurd (cc q)
sum_some (Some x) None e q = absurd (cc q)
sum_some (Some x) (Some y) e q = (x, y, refl, refl, some_is q)

pub greater_fits : (a b : ℕ) → greater_of (fits a) (fits b) ≡ fits (max a b)
greater_fits a b = ⊎_elim
    (λ h. ⊎_elim
    (λ k. ap₂ greater_of (fits_some a h) (fits_some b k) ∙ sym (fits_some (max a b) (omega (arith, h, k))))
    (λ k. ap₂ greater_of (fits_some a h) (fits_none b k) ∙ sym (fits_none (max a b) (omega (arith, k)))) (cases_lt b 18446744073709551616))
    (λ h. ap (λ o. greater_of o (fits b)) (fits_none a h) ∙ sym (fits_none (max a b) (omega (arith, h))))
    (cases_lt a 18446744073709551616)

pub greater_some : (o s : Option ℕ) (e : ℕ) → greater_of o s ≡ Some e → (x : ℕ) × (y : ℕ) × (o ≡ Some x) × (s ≡ Some y) × (max x y ≡ e)
greater_some None s e q = absurd (cc q)
greater_some (Some x) None e q = absurd (cc q)
greater_some (Some x) (Some y) e q = (x, y, refl, refl, cc q)
