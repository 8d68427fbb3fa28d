-- How many regions a check may enter, by the bytes that it is given.
use Rattle.std.specs.Prelude.{ℕ, ◌+◌, ◌-◌, ◌*◌, ◌/◌, ◌≤◌}
use Rattle.archive_check.specs.context.Ranges.{RangeState}

-- One region more, and one for each four bytes in which regions may lie, at most.
abbrev pub FewPushed : RangeState → RangeState → Type 0
FewPushed s s' = s'.pushes ≤ s.pushes + 1 + (s.end - s.start) / 4

-- Four bytes for each region that was entered, and the bytes in which regions may lie.
abbrev pub worth : RangeState → ℕ
worth s = 4 * s.pushes + (s.end - s.start)

-- Each region that is entered takes four of these n bytes, or of those in which regions may lie.
abbrev pub Spends : ℕ → RangeState → RangeState → Type 0
Spends n s s' = worth s' ≤ worth s + n
