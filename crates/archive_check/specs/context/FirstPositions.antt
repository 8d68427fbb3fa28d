-- What is kept of the shared position that a check came to first.
use Rattle.std.specs.Prelude.{◌≡◌, ℤ, false, Some}
use Rattle.std.specs.Map.{update}
use Rattle.std.specs.Ordering.{int_eq}
use Rattle.archive_check.specs.declared.context.first.FirstPosition.{FirstPosition}
use Rattle.archive_check.specs.Expressions.{flavor_of, pointee_of}
use Rattle.archive_check.specs.Tour.{Entry}
use Rattle.archive_check.specs.context.PositionStates.{PositionState, Positions, nothing_met}

-- How the first position was met.
abbrev pub first_as : FirstPosition → PositionState
first_as first = record {
  entry = record { flavor = flavor_of first.shared_type.flavor; pointee = pointee_of first.shared_type.pointee; length = first.length };
  finished = first.finished;
}

-- No other position was met.
abbrev pub first_met : FirstPosition → Positions
first_met first = update int_eq nothing_met first.position (Some (first_as first))

-- The position was met so, and is pending.
pub record IsStartedFirst (position : ℤ) (entry : Entry) (first : FirstPosition) : Type 0 where
  pub here : first.position ≡ position
  pub is : first_as first ≡ record { entry = entry; finished = false }
