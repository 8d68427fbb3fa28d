-- What is spent on the regions that a type's own check enters.
use Rattle.std.proofs.Common.{◌≡◌, ℕ, ℤ, ap, ◌+◌, ◌-◌, ◌*◌, ◌<◌, ◌≤◌, arith, Option, Some, None, OnSome, IfNone}
use Rattle.std.proofs.Math.Nat.{mul-le-mul_right}
use Rattle.archive_check.specs.declared.context.range.Region.{Region}
use Rattle.archive_check.specs.context.Ranges.{RangeState, popped}
use Rattle.archive_check.specs.context.Pushes.{Spends}
use Rattle.archive_check.specs.context.EnteredRegions.{Begun}

-- what a region holds is paid for by its bytes
pub region_spends : {s s1 : RangeState} (s2 : RangeState) {z : ℤ} {align : ℕ} {r : Region} (n : ℕ) → Begun s s1 z align r → s1.pushes ≤ s.pushes + 1 → n ≡ r.size → Spends n s1 s2 → Spends 4 s s2
region_spends s2 n h pushes size spends = omega (arith, spends, pushes, size, h.start, h.end, h.lands.above, h.lands.below)

-- and the region is left, or its range isn't taken back
pub left_spends : {s s1 : RangeState} (s2 s3 : RangeState) {z : ℤ} {align : ℕ} {r : Region} (n : ℕ) (q : Option (Unit {0})) → Begun s s1 z align r → s1.pushes ≤ s.pushes + 1 → n ≡ r.size → Spends n s1 s2 → s2.end ≡ s1.end
    → OnSome q (s3 ≡ popped s2 r.outer_start r.outer_end) → IfNone q (s3 ≡ s2) → Spends 4 s s3
left_spends s2 s3 n (Some u) h pushes size spends end some none =
    let p = ap (λ (q : RangeState). q.pushes) some in
    let a = ap (λ (q : RangeState). q.start) some in
    let b = ap (λ (q : RangeState). q.end) some in
    omega (arith, spends, pushes, size, end, p, a, b, h.start, h.end, h.lands.above, h.lands.below, h.outer_start, h.outer_end)
left_spends s2 s3 n None h pushes size spends end some none = rw none (region_spends s2 n h pushes size spends)

-- some elements less
pub fewer_spend : (z n k : ℕ) → (n - k) * z ≤ n * z
fewer_spend z n k = mul-le-mul_right z (omega arith)

-- the next of some elements
pub next_spends : (z n k : ℕ) → k < n → (n - k) * z ≡ z + (n - (k + 1)) * z
next_spends z n k lt = let one : n - k ≡ 1 + (n - (k + 1)) = omega arith in rw one (omega arith)
