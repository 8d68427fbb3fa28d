-- The range and the levels left, once a region is entered, and once it is left.
use Rattle.std.proofs.Common.{◌≡◌, ◌≢◌, ℕ, zero, suc, ℤ, pos, negsuc, refl, ap, ◌+◌, ◌-◌, ◌<◌, Option, Some, None, Ok, arith, sym, ◌∙◌, ◌≤◌, nat_lt, Bool, true, false, Err}
use Rattle.std.proofs.lemmas.Bool.Decides.{nat_tests}
use Rattle.archive_check.specs.Depth.{Allows, inside}
use Rattle.archive_check.specs.context.Ranges.{RangeState, subtree_answer, one_more, Lands, is_full, pop_answer}
use Rattle.archive_check.specs.context.FreshContexts.{HasLevels, IsFresh}
use Rattle.archive_check.specs.declared.format.error.Error.{Error}
use Rattle.archive_check.specs.context.PositionStates.{Positions}

-- where the range lets a region be entered, it lies in it
pub lands : (s : RangeState) (z : ℤ) (size align t : ℕ) (u : Unit {0}) → z ≡ pos t → Ok u ≡ subtree_answer s z size align → Lands s z size align t
lands s (negsuc n) size align t u e h = cc
lands s (pos n) size align t u e h =
    let same : n ≡ t = cc in
    record { target = e; above = grind (arith, nat_tests); below = grind (arith, nat_tests); aligned = grind (arith, nat_tests) }

-- the last level lets no region be entered
pub last_level : (d : Option ℕ) → d ≡ Some 1 → Allows d 1 → ⊥
last_level None e a = cc
last_level (Some n) e a = let one : n ≡ 1 = cc in omega arith

pub levels_inside : (d : Option ℕ) → HasLevels d → (d ≡ Some 1 → ⊥) → HasLevels (inside d)
levels_inside None h deep = record { levels = λ e. cc; few = λ d e. cc }
levels_inside (Some zero) h deep = absurd (h.levels refl)
levels_inside (Some (suc zero)) h deep = absurd (deep refl)
levels_inside (Some (suc (suc n))) h deep = record {
  levels = λ e. let none : suc (suc n) - 1 ≡ 0 = cc in omega arith;
  few = λ d e. let same : suc (suc n) - 1 ≡ d = cc in omega (arith, h.few (suc (suc n)) refl);
}

pub inside_few : (depth : Option ℕ) → HasLevels depth → (d : ℕ) → inside depth ≡ Some d → d + 1 < 18446744073709551616
inside_few None h d e = cc
inside_few (Some n) h d e = let same : n - 1 ≡ d = cc in let some : n ≢ 0 = (λ z. h.levels (ap Some z)) in omega (arith, h.few n refl)

pub level_back : (d : Option ℕ) → d ≢ Some 0 → one_more (inside d) ≡ d
level_back None some = refl
level_back (Some zero) some = absurd (some refl)
level_back (Some (suc n)) some = let same : suc n - 1 + 1 ≡ suc n = omega arith in ap Some same

-- a range that begins no lower than the current one ends is taken back
pub taken_back : (s : RangeState) (x : ℕ) → s.end ≤ x → ((d : ℕ) → s.depth ≡ Some d → d + 1 < 18446744073709551616) → pop_answer s x ≡ Ok tt
taken_back s x le few = by_tests (nat_lt x s.end) (is_full s.depth) refl refl
  where
    full : (depth : Option ℕ) → is_full depth ≡ true → ((d : ℕ) → depth ≡ Some d → d + 1 < 18446744073709551616) → ⊥
    full None e few = cc
    full (Some d) e few = let most : d ≡ 18446744073709551615 = grind (arith, nat_tests) in omega (arith, few d refl)

    by_tests : (a b : Bool) → nat_lt x s.end ≡ a → is_full s.depth ≡ b → pop_answer s x ≡ Ok tt
    by_tests true b e f = absurd (grind (arith, nat_tests))
    by_tests false true e f = absurd (full s.depth f few)
    by_tests false false e f = cc

pub not_taken : (s : RangeState) (x : ℕ) (e : Error) → pop_answer s x ≡ Err e → pop_answer s x ≡ Ok tt → ⊥
not_taken s x e p q = let clash = sym p ∙ q in cc

pub fresh_levels : (s : RangeState) (met : Positions) → IsFresh s met → HasLevels s.depth
fresh_levels s met fresh = fresh.levels
