-- The calls on the shared positions of a check, as functions of what was met.
use denote.Triple.Both.{Both}
use denote.Ref.{MutBor}
use Rattle.std.specs.Borrow.{Bor}
use Rattle.std.specs.Ordering.{int_eq}
use Rattle.std.specs.Prelude.{◌≡◌, ◌≢◌, ◌↔◌, IsTrue, ℕ, ℤ, Bool, true, false, Option, Some, None, option_map, cond, Result, Ok, Err}
use Rattle.std.specs.Map.{update}
use Rattle.archive_check.specs.declared.format.error.Error.{Error}
use Rattle.archive_check.specs.declared.format.error.Error.TheVariants.{OutOfMemory, NotStarted, AlreadyFinished, TypeMismatch, MetadataMismatch}
use Rattle.archive_check.specs.declared.format.expr.FlavorInfo.{FlavorInfo}
use Rattle.archive_check.specs.declared.format.expr.Pointee.{Pointee as PointeeExpr}
use Rattle.archive_check.specs.declared.context.ValidationState.{ValidationState}
use Rattle.archive_check.specs.declared.context.ValidationState.TheVariants.{Started, Pending, Finished}
use Rattle.archive_check.specs.Expressions.{flavor_of, pointee_of}
use Rattle.archive_check.specs.Shape.{Flavor, Pointee}
use Rattle.archive_check.specs.Tour.{Entry}

-- How a position was first met, and whether what lies there is checked to its end.
pub record PositionState : Type 0 where
  pub entry : Entry
  pub finished : Bool

-- How a position is met now.
abbrev pub entry_as : FlavorInfo → PointeeExpr → ℕ → Entry
entry_as flavor pointee length = record { flavor = flavor_of flavor; pointee = pointee_of pointee; length = length }

-- What was met at each position.
abbrev pub Positions : Type 0
Positions = ℤ → Option PositionState

abbrev pub nothing_met : Positions
nothing_met position = None

-- One flavor and one pointee, as they are written.
abbrev pub SameType : Entry → Entry → Type 0
SameType old new = (old.flavor ≡ new.flavor) × (old.pointee ≡ new.pointee)

-- The result of starting a position: a type is tested before a length. Memory may be refused for a new one.
abbrev pub IsStartAnswer : Option PositionState → Entry → Result ValidationState Error → Type 0
IsStartAnswer met new (Ok Started) = met ≡ None
IsStartAnswer met new (Ok Pending) = met ≡ Some (record { entry = new; finished = false })
IsStartAnswer met new (Ok Finished) = met ≡ Some (record { entry = new; finished = true })
IsStartAnswer None new (Err e) = e ≡ OutOfMemory
IsStartAnswer (Some old) new (Err TypeMismatch) = SameType old.entry new → ⊥
IsStartAnswer (Some old) new (Err MetadataMismatch) = SameType old.entry new × (old.entry.length ≢ new.length)
IsStartAnswer (Some old) new (Err e) = ⊥

-- A position was met so, and is finished.
abbrev pub IsFinishedAs : Option PositionState → Entry → Type 0
IsFinishedAs met new = met ≡ Some (record { entry = new; finished = true })

-- No position is finished that was met so, whatever its length.
abbrev pub NoneFinishedAs : Positions → FlavorInfo → PointeeExpr → Type 0
NoneFinishedAs met flavor pointee = (position : ℤ) (length : ℕ) → IsFinishedAs (met position) (entry_as flavor pointee length) → ⊥

-- The result is whether a position is finished that was met with this length, and with a flavor and a pointee of which this is so.
abbrev pub IsFinishedAnswer : (Flavor → Pointee → Type 0) → Option PositionState → ℕ → Bool → Type 0
IsFinishedAnswer numbered met length answer =
    (flavor : Flavor) (pointee : Pointee) → numbered flavor pointee → IsTrue answer ↔ IsFinishedAs met (record { flavor = flavor; pointee = pointee; length = length })

-- A position that wasn't met is pending now, one that was stays as it was.
abbrev pub started_at : Option PositionState → Entry → PositionState
started_at None new = record { entry = new; finished = false }
started_at (Some old) new = old

abbrev pub started : Positions → ℤ → Entry → Positions
started met position new = update int_eq met position (Some (started_at (met position) new))

-- It was started as one of this flavor, pointee and length. `Both` is a parameter as a clause names it: what it was as the call began, and what it is at
-- the return.
abbrev pub Starts : {A : Type 0} → (A → Positions) → Both (MutBor A) (MutBor A) → ℤ → Both (Bor FlavorInfo) (Bor FlavorInfo) → Both (Bor PointeeExpr) (Bor PointeeExpr) → ℕ → Type 0
Starts met c position flavor pointee length =
    met c.exit.now ≡ started (met c.entry.now) position (entry_as flavor.entry.now pointee.entry.now length)

-- The result of finishing something, as a position: it has to be known, and not to be finished already.
abbrev pub finish_answer : {A : Type 0} → (A → Bool) → Option A → Result (Unit {0}) Error
finish_answer is_finished None = Err NotStarted
finish_answer is_finished (Some known) = cond (is_finished known) (Err AlreadyFinished) (Ok tt)

abbrev pub finished : Positions → ℤ → Positions
finished met position = update int_eq met position (option_map (λ old. record { entry = old.entry; finished = true }) (met position))
