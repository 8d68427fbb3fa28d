-- What a check against a plan says of a whole buffer.
use Rattle.std.specs.Prelude.{◌⊎◌, ◌↔◌, ℕ, Option, Result, IsOk, IsErrOf, ◌≡◌, None}
use Rattle.archive_check.specs.declared.format.error.Error.{Error}
use Rattle.archive_check.specs.declared.format.error.Error.TheVariants.{OutOfMemory}
use Rattle.archive_schema.specs.declared.plan.PointeeKind.TheVariants.{One}
use Rattle.archive_schema.specs.declared.check.Checker.{Checker}
use Rattle.archive_check.specs.Shape.{Shape, one}
use Rattle.archive_check.specs.Reads.{SchemaTable}
use Rattle.archive_check.specs.Depth.{AcceptedWithin}
use Rattle.archive_check.specs.Trail.{Fault, RootTrips}
use Rattle.archive_check.specs.Words.Faults.{IsFor}
use Rattle.archive_check.specs.context.Ranges.{RangeState}
use Rattle.archive_check.specs.context.PositionStates.{Positions}
use Rattle.archive_check.specs.context.FreshContexts.{IsWhole}
use Rattle.archive_schema.specs.plan.Represents.{Represents, Points}

-- The plan is one of a schema, and its node j stands for X.
pub record PlanOf (m : Checker) (j : ℕ) (s : SchemaTable) (X : Shape) : Type 0 where
  pub shapes : ℕ → Shape
  pub represents : Represents s shapes m
  pub points : Points s shapes m One None j (one X)

-- Whatever the node stands for, the buffer is an archive of it, with no region too deep.
abbrev pub PlanAccepts : Checker → ℕ → Option ℕ → ℕ → Type 0
PlanAccepts m j limit root = (s : SchemaTable) (X : Shape) → PlanOf m j s X → AcceptedWithin s m.bytes.now limit root X

-- Whatever the node stands for, a check of it comes to the fault that the refusal says.
abbrev pub PlanRefuses : Checker → ℕ → Option ℕ → ℕ → Error → Type 0
PlanRefuses m j limit root error = (fault : Fault) × IsFor fault error × ((s : SchemaTable) (X : Shape) → PlanOf m j s X → RootTrips s m.bytes.now limit root X fault)

-- The result is Ok exactly if the buffer is an archive with no region too deep, unless memory ran out.
abbrev pub PlanIsExact : Checker → ℕ → Option ℕ → ℕ → Result (Unit {0}) Error → Type 0
PlanIsExact m j limit root answer = IsErrOf answer OutOfMemory ⊎ ((s : SchemaTable) (X : Shape) → PlanOf m j s X → IsOk answer ↔ AcceptedWithin s m.bytes.now limit root X)

-- These three, where the context is for these bytes and met nothing.
abbrev pub WholeAccepts : Checker → ℕ → ℕ → RangeState → Positions → Type 0
WholeAccepts m j root s met = IsWhole s met m.bytes.now → PlanAccepts m j s.depth root

abbrev pub WholeRefuses : Checker → ℕ → ℕ → RangeState → Positions → Error → Type 0
WholeRefuses m j root s met e = (e ≡ OutOfMemory) ⊎ (IsWhole s met m.bytes.now → PlanRefuses m j s.depth root e)

abbrev pub WholeIsExact : Checker → ℕ → ℕ → RangeState → Positions → Result (Unit {0}) Error → Type 0
WholeIsExact m j root s met answer = IsWhole s met m.bytes.now → PlanIsExact m j s.depth root answer
