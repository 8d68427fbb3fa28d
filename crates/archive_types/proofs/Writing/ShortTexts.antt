-- What depends on whether a text stands in its string.
use Rattle.std.proofs.Common.{◌≡◌, ℕ, ◌<◌, ◌≤◌, refl, arith, Bool, true, false, nat_lt}
use Rattle.std.specs.Prelude.{if◌then◌else◌}

pub if_short : {A : Type 0} (n : ℕ) (x y : A) → n ≤ 8 → (if nat_lt 8 n then x else y) ≡ y
if_short {A} n x y h = by_test (nat_lt 8 n) refl
  where
    by_test : (b : Bool) → nat_lt 8 n ≡ b → (if b then x else y) ≡ y
    by_test true e = absurd (grind (arith, e))
    by_test false e = refl

pub if_long : {A : Type 0} (n : ℕ) (x y : A) → 8 < n → (if nat_lt 8 n then x else y) ≡ x
if_long {A} n x y h = by_test (nat_lt 8 n) refl
  where
    by_test : (b : Bool) → nat_lt 8 n ≡ b → (if b then x else y) ≡ x
    by_test true e = refl
    by_test false e = absurd (grind (arith, e))
