-- What the calls on a range say of a region that is entered, or isn't.
use Rattle.std.proofs.Common.{◌≡◌, ℕ, ℤ, pos, negsuc, refl, ap, ◌∙◌, ◌+◌, ◌%◌, nat_le, nat_eq, Bool, true, false, arith, Some, Ok, Err}
use Rattle.std.proofs.lemmas.Bool.Decides.{nat_tests}
use Rattle.archive_check.specs.declared.format.error.Error.{Error}
use Rattle.archive_check.specs.declared.format.error.Error.TheVariants.{ExceededMaximumSubtreeDepth}
use Rattle.archive_check.specs.declared.context.range.Region.{Region}
use Rattle.archive_check.specs.context.Ranges.{RangeState, subtree_answer, pushed, Lands}
use Rattle.archive_check.specs.Trail.{Fault, outside, unaligned, too_deep}
use Rattle.archive_check.specs.Words.Faults.{IsFor}
use Rattle.archive_check.specs.context.EnteredRegions.{NotEntered, not_within, not_aligned, not_allowed, EntersNot, Begun}
use Rattle.archive_check.proofs.Checks.RangeLevels.{lands, last_level}

-- what a refusal of the range says
negative : (n t : ℕ) → negsuc n ≡ pos t → ⊥
negative n t e = cc

pos_same : (n t : ℕ) → pos n ≡ pos t → n ≡ t
pos_same n t e = cc

pub astray : (s : RangeState) (z : ℤ) (size align : ℕ) (e : Error) → Err e ≡ subtree_answer s z size align → EntersNot s z align (Some size) e
astray s (negsuc k) size align e h some = (outside (negsuc k) size s.start s.end, cc, not_within (λ t is above below. negative k t is))
astray s (pos k) size align e h some = astray_by s k size align e (nat_le s.start k) (nat_le (k + size) s.end) (nat_eq (k % align) 0) refl refl refl h
  where
    astray_by : (s : RangeState) (k : ℕ) (size align : ℕ) (e : Error) → (a b d : Bool) → nat_le s.start k ≡ a → nat_le (k + size) s.end ≡ b → nat_eq (k % align) 0 ≡ d → Err e ≡ subtree_answer s (pos k) size align
        → (f : Fault) × IsFor f e × NotEntered s (pos k) align (Some size) f
    astray_by s k size align e true true true p q r h = absurd (grind (arith, nat_tests))
    astray_by s k size align e true true false p q r h =
        (unaligned k align, grind (arith, nat_tests), not_aligned refl (grind (arith, nat_tests)) (grind (arith, nat_tests)) (λ u. grind (arith, nat_tests)))
    astray_by s k size align e true false d p q r h =
        (outside (pos k) size s.start s.end, grind (arith, nat_tests), not_within (λ t is above below. let same : k ≡ t = pos_same k t is in grind (arith, nat_tests)))
    astray_by s k size align e false b d p q r h =
        (outside (pos k) size s.start s.end, grind (arith, nat_tests), not_within (λ t is above below. let same : k ≡ t = pos_same k t is in grind (arith, nat_tests)))

pub stopped_deep : (s : RangeState) (z : ℤ) (size align t : ℕ) (e : Error) → Lands s z size align t → s.depth ≡ Some 1 → e ≡ ExceededMaximumSubtreeDepth → EntersNot s z align (Some size) e
stopped_deep s z size align t e at deep is some = (too_deep, is, not_allowed at (last_level s.depth deep))

-- what the calls on the range say of a region that is entered
pub begun : (s s1 s2 : RangeState) (z : ℤ) (align : ℕ) (r : Region) (u : Unit {0})
    → z ≡ pos r.begin → Ok u ≡ subtree_answer s z r.size align
    → s1 ≡ s → s2 ≡ pushed s1 r.begin → (s1.depth ≡ Some 1 → ⊥) → (r.outer_start ≡ r.begin + r.size) × (r.outer_end ≡ s1.end)
    → Begun s s2 z align r
begun s s1 s2 z align r u target v same pushes deep ends =
    let p : s2 ≡ pushed s r.begin = pushes ∙ ap (λ q. pushed q r.begin) same in
    record {
      lands = lands s z r.size align r.begin u target v;
      start = ap (λ q. q.start) p;
      end = ap (λ q. q.end) p;
      depth = ap (λ q. q.depth) p;
      deep = λ e. deep (ap (λ q. q.depth) same ∙ e);
      outer_start = ends.0;
      outer_end = ends.1 ∙ ap (λ q. q.end) same;
    }
