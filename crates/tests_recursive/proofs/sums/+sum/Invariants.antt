use Rattle.std.proofs.Common.{◌≡◌, ℕ, ◌+◌, ◌-◌, ◌*◌, ◌<◌, ◌≤◌, length}
use Rattle.tests_recursive.proofs.sums.+sum.Given as goal

-- Each call goes one level down.
abbrev pub decreases-sum : goal.decreases-sum
decreases-sum l = l.levels

abbrev pub invariant-loop-part : goal.invariant-loop-part
invariant-loop-part l =
    (goal.iterator-loop-part).can_next l.part-iterator ×
    (goal.iterator-loop-part).is_finite l.part-iterator
