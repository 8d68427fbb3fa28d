-- The shared positions that a validator keeps, as a check speaks of them.
use Rattle.std.specs.Prelude.{◌≡◌, ℕ, ℤ, true, List, ◌++◌, length, ◌<◌, Option, Some, None, option_map, slice_get}
use Rattle.std.specs.Option.{ForSome}
use Rattle.archive_check.specs.declared.context.positions.SharedType.{SharedType}
use Rattle.archive_check.specs.declared.context.positions.SharedPosition.{SharedPosition}
use Rattle.archive_check.specs.Expressions.{flavor_of, pointee_of}
use Rattle.archive_check.specs.Shape.{Flavor, Pointee}
use Rattle.archive_check.specs.context.PositionStates.{PositionState, Positions}

-- A position of this type was met.
abbrev pub met_as : SharedPosition → SharedType → PositionState
met_as kept shared_type = record {
  entry = record { flavor = flavor_of shared_type.flavor; pointee = pointee_of shared_type.pointee; length = kept.length };
  finished = kept.finished;
}

-- What is kept of a finished position, by its type's index and its length.
abbrev pub finished_as : ℕ → ℕ → SharedPosition
finished_as shared_type length = record { shared_type = shared_type; length = length; finished = true }

abbrev pub met_in : List SharedType → Option SharedPosition → Option PositionState
met_in shared_types None = None
met_in shared_types (Some kept) = option_map (met_as kept) (slice_get shared_types kept.shared_type)

-- The positions that are kept, with their types from a list.
abbrev pub positions_in : List SharedType → (ℤ → Option SharedPosition) → Positions
positions_in shared_types kept position = met_in shared_types (kept position)

-- Each position's type is in the list.
abbrev pub AreKnown : List SharedType → (ℤ → Option SharedPosition) → Type 0
AreKnown shared_types kept = (position : ℤ) → ForSome (kept position) (λ k. k.shared_type < length shared_types)

-- A type is this one.
abbrev pub IsType : SharedType → Flavor → Pointee → Type 0
IsType shared_type flavor pointee = (flavor_of shared_type.flavor ≡ flavor) × (pointee_of shared_type.pointee ≡ pointee)

-- The type at an index of a list.
pub record HasType (shared_types : List SharedType) (index : ℕ) (flavor : Flavor) (pointee : Pointee) : Type 0 where
  pub type_there : SharedType
  pub at : slice_get shared_types index ≡ Some type_there
  pub flavor_is : flavor_of type_there.flavor ≡ flavor
  pub pointee_is : pointee_of type_there.pointee ≡ pointee

-- No index of a list has the type.
abbrev pub IsAbsent : List SharedType → Flavor → Pointee → Type 0
IsAbsent shared_types flavor pointee = (index : ℕ) → HasType shared_types index flavor pointee → ⊥

-- Each type stands once in a list.
abbrev pub AreDistinct : List SharedType → Type 0
AreDistinct shared_types = (i j : ℕ) (flavor : Flavor) (pointee : Pointee) → HasType shared_types i flavor pointee → HasType shared_types j flavor pointee → i ≡ j

-- A list with more types at its end.
pub record IsGrown (old new : List SharedType) : Type 0 where
  pub more : List SharedType
  pub is : new ≡ old ++ more
