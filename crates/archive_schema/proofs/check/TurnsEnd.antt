-- Why a check's loop ends: what is left falls with each turn.
use Rattle.std.proofs.Common.{ℕ, zero, suc, ◌+◌, ◌*◌, ◌<◌, ◌≤◌, arith}
use Rattle.std.proofs.Math.Nat.{mul-le-mul_right}
use Rattle.archive_schema.specs.check.LoopInvariant.{power, level}

pub power_pos : (n : ℕ) → 1 ≤ power n
unfolding power
power_pos zero = omega arith
power_pos (suc n) = omega (arith, power_pos n)

power_falls_suc : (m n : ℕ) → m ≤ n → power m ≤ power n
unfolding power
power_falls_suc zero zero h = omega arith
power_falls_suc zero (suc n) h = omega (arith, power_pos n)
power_falls_suc (suc m) zero h = absurd (omega arith)
power_falls_suc (suc m) (suc n) h = omega (arith, power_falls_suc m n (omega arith))

pub power_falls : (m n : ℕ) → m < n → 3 * power m ≤ power n
unfolding power
power_falls m zero h = absurd (omega arith)
power_falls m (suc n) h = omega (arith, power_falls_suc m n (omega arith))

pub level_end : (nodes stop stop' i n i' n' : ℕ) → stop' < stop → i' ≤ nodes → n' ≤ 18446744073709551616 → level nodes stop' i' n' < level nodes stop i n
unfolding level
level_end nodes stop stop' i n i' n' p q r =
    let h : (stop' + 1) * (nodes + 1) ≤ stop * (nodes + 1) = mul-le-mul_right (nodes + 1) (omega arith) in
    omega arith

pub level_node : (nodes stop i n i' n' : ℕ) → i' < i → n' ≤ 18446744073709551616 → level nodes stop i' n' < level nodes stop i n
unfolding level
level_node nodes stop i n i' n' p q = omega arith

pub level_same : (nodes stop i i' n n' : ℕ) → i' ≤ i → n' < n → level nodes stop i' n' < level nodes stop i n
unfolding level
level_same nodes stop i i' n n' p q = omega arith

-- one entry becomes another, or two
pub falls_one : (a c rest : ℕ) → a < c → power a + rest < power c + rest
falls_one a c rest p = omega (arith, power_falls a c p, power_pos a)

pub falls_two : (a b c rest : ℕ) → a < c → b < c → power a + (power b + rest) < power c + rest
falls_two a b c rest p q = omega (arith, power_falls a c p, power_falls b c q, power_pos c)

pub falls_none : (c rest : ℕ) → rest < power c + rest
falls_none c rest = omega (arith, power_pos c)

pub falls_enter : (a c more rest : ℕ) → more ≤ 1 + rest → a < c → power a + more ≤ power c + rest
falls_enter a c more rest few p = omega (arith, power_falls a c p, power_pos a)

pub falls_under : (x a c rest : ℕ) → x ≤ power a + rest → a < c → x < power c + rest
falls_under x a c rest h p = omega (arith, power_falls a c p, power_pos a)

pub falls_shared : (x a c rest : ℕ) → x ≤ 1 + (power a + rest) → a < c → x < power c + rest
falls_shared x a c rest h p = omega (arith, power_falls a c p, power_pos a)
