-- Multiples of powers of two.
use Rattle.std.proofs.Common.{◌≡◌, ℕ, zero, suc, ◌+◌, ◌-◌, ◌*◌, ◌/◌, ◌%◌, ◌^◌, ◌≤◌, Bool, true, false, nat_eq, refl, sym, ap, ◌∙◌, arith, bit_and, count_ones, IsTrue, ◌↔◌}
use Rattle.std.proofs.lemmas.Bool.Decides.{nat_tests}
use Rattle.std.proofs.lemmas.Nat.{and_mask, pow-add, zero_from_ones, ones_le_self}
use Rattle.std.specs.Int.{is_power_of_two, IsPowerOfTwo}
use lib.Count.{ones_step}

twice_power : (n : ℕ) → n % 2 ≡ 0 → IsPowerOfTwo (n / 2) → IsPowerOfTwo n
twice_power n even (k, e) =
    let twice : 2 ^ (1 + k) ≡ 2 ^ 1 * 2 ^ k = pow-add 2 1 k in
    (1 + k, omega (arith, e, twice))

by_last : (n : ℕ) (b : Bool) → nat_eq (n % 2) 1 ≡ b → count_ones n ≡ 1 → (count_ones (n / 2) ≡ 1 → IsPowerOfTwo (n / 2)) → IsPowerOfTwo n
by_last n true last e half =
    let odd : n % 2 ≡ 1 = grind (arith, nat_tests) in
    let rest = zero_from_ones (n / 2) (omega (arith, ones_step n)) in
    (0, omega arith)
by_last n false last e half =
    let even : n % 2 ≡ 0 = grind (arith, nat_tests) in
    twice_power n even (half (omega (arith, ones_step n)))

-- a number of one bit is a power of two
one_bit : (d n : ℕ) → n ≤ d → count_ones n ≡ 1 → IsPowerOfTwo n
one_bit zero n le e = absurd (omega (arith, ones_le_self n))
one_bit (suc d) n le e = by_last n (nat_eq (n % 2) 1) refl e (one_bit d (n / 2) (omega arith))

-- what a mask leaves is the remainder by a power of two
masked : (n k : ℕ) → IsTrue (is_power_of_two k) → bit_and n (k - 1) ≡ n % k
masked n k h =
    let p = one_bit k k (omega arith) (grind (arith, nat_tests)) in
    ap (λ q. bit_and n (q - 1)) p.1 ∙ and_mask n p.0 ∙ ap (λ q. n % q) (sym p.1)

-- so it tells the multiples
pub multiple_masked : (n k : ℕ) → IsTrue (is_power_of_two k) → IsTrue (nat_eq (bit_and n (k - 1)) 0) ↔ (n % k ≡ 0)
multiple_masked n k h = rw (masked n k h) (λ t. grind (arith, nat_tests), λ e. grind (arith, nat_tests))
