-- What a check comes to: where the range begins behind it and what is seen then, or a fault.
use Rattle.std.specs.Prelude.{ℕ}
use Rattle.archive_check.specs.Tour.{Seen}
use Rattle.archive_check.specs.Trail.{Fault}

pub data Outcome : Type 0 where
  done : ℕ → Seen → Outcome
  refused : Fault → Outcome
