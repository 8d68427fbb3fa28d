-- Pools: what their calls return and leave, and what is read back of what a shared pointer leads to.
use Rattle.std.specs.Prelude.{◌≡◌, ◌⊎◌, ◌<◌, ℕ, nat_eq, pos, List, ◌∷◌, length, Option, Some, None, is_some, Result, Err, false, Bool}
use Rattle.std.specs.List.{slice_get}
use Rattle.std.specs.Map.{update}
use Rattle.archive_check.specs.declared.format.error.Error.{Error}
use Rattle.archive_check.specs.declared.format.error.Error.TheVariants.{OutOfMemory, CyclicDeserialize}
use Rattle.archive_check.specs.Shape.{Flavor, Shape, Pointee, one}
use Rattle.archive_check.specs.Layout.{has_length}
use Rattle.archive_check.specs.Definitions.{Definitions}
use Rattle.archive_check.specs.Value.{Value, shared_value, hole}
use Rattle.archive_check.specs.Reads.{SchemaTable, length_at, pointer_at}
use Rattle.archive_check.specs.Tour.{Contents}
use Rattle.archive_check.specs.Denotes.{Naming}
use Rattle.archive_check.specs.Pooled.{Kept, EntryState, Entries}
use Rattle.archive_check.specs.context.PositionStates.{finish_answer}
use Rattle.archive_check.specs.Viewed.{Viewed, Says}
use Rattle.archive_check.specs.Entries.{IsCyclic, LeadsToOpen, ReadsBack}
use Rattle.archive_types.specs.Members.SharedSources.{rc_flavor}
use Rattle.archive_core.specs.declared.pooling.PoolingState.{PoolingState}
use Rattle.archive_core.specs.declared.pooling.PoolingState.TheVariants.{Started, Pending, Finished}

-- What is kept of a shared value at a position.
abbrev pub kept_at : ℕ → Pointee → ℕ → Value → List Naming → Kept
kept_at t P n v ks = record { name = t; entry = record { flavor = rc_flavor; pointee = P; length = n }; value = v; keys = ks }

-- The result of a finish: memory may be refused, too.
abbrev pub IsFinishAnswer : EntryState → Result (Unit {0}) Error → Type 0
IsFinishAnswer known result = (result ≡ finish_answer is_some known) ⊎ (result ≡ Err OutOfMemory)

-- What is known of a position, by what is kept there.
abbrev pub known_by : {T : Type 0} → (T → Kept) → Option (Option T) → EntryState
known_by kept None = None
known_by kept (Some None) = Some None
known_by kept (Some (Some x)) = Some (Some (kept x))

-- A finished position has the value at an index.
abbrev pub value_by : {T : Type 0} → List T → Option (Option ℕ) → Option (Option T)
value_by finished None = None
value_by finished (Some None) = Some None
value_by finished (Some (Some index)) = Some (slice_get finished index)

-- Each index of a finished position is one of the list.
abbrev pub AreIndexed : {T : Type 0} → List T → (ℕ → Option (Option ℕ)) → Type 0
AreIndexed finished values = (t index : ℕ) → values t ≡ Some (Some index) → index < length finished

-- The result of a start: what was known of the position.
abbrev pub IsPoolAnswer : {T : Type 0} → (T → Kept) → EntryState → PoolingState T → Type 0
IsPoolAnswer kept known Started = known ≡ None
IsPoolAnswer kept known Pending = known ≡ Some None
IsPoolAnswer kept known (Finished x) = known ≡ Some (Some (kept x))

-- The position is in this state, and others are as they were.
abbrev pub IsPut : Entries → ℕ → EntryState → Entries → Type 0
IsPut before t state after = (u : ℕ) → after u ≡ update nat_eq before t state u

-- Each is as it was.
abbrev pub IsSame : Entries → Entries → Type 0
IsSame before after = (u : ℕ) → after u ≡ before u

-- What lies at q is a pointer, shared or weak, to P at t, with its length.
pub record LeadsHere (bytes : List ℕ) (q m : ℕ) (X : Shape) (P : Pointee) (t n : ℕ) : Type 0 where
  pub flavor : Flavor
  pub target : (pointer_at bytes q (Some flavor) P).target ≡ pos t
  pub length : length_at bytes q P ≡ n
  pub reads : (s : SchemaTable) (v : Value) → Contents s bytes q (one X) m v → v ≡ hole (pointer_at bytes q (Some flavor) P)

-- Each pointer to P at t is read back as the name of what is kept.
abbrev pub ReadsShared : Bool → Definitions → List ℕ → ℕ → Pointee → ℕ → Entries → Entries → Kept → Type 0
ReadsShared keeps D bytes t P n old new k =
    (q m : ℕ) (X : Shape) → LeadsHere bytes q m X P t n → ReadsBack keeps D bytes q (one X) m old new (shared_value k.name) ((k.name, (k.entry, k.value)) ∷ k.keys)

-- P at t is pending or leads to an open position, and so the reading of each pointer to it meets one.
pub record IsCyclicAt (D : Definitions) (bytes : List ℕ) (t : ℕ) (P : Pointee) (n : ℕ) (told : Entries) : Type 0 where
  pub itself : LeadsToOpen D bytes told t P n
  pub by_pointers : (q m : ℕ) (X : Shape) → LeadsHere bytes q m X P t n → IsCyclic D bytes told q (one X) m

-- It was refused: memory was, or an open position is met.
abbrev pub RefusesShared : Definitions → List ℕ → ℕ → Pointee → ℕ → Entries → Error → Type 0
RefusesShared D bytes t P n told e = (e ≡ OutOfMemory) ⊎ ((e ≡ CyclicDeserialize) × IsCyclicAt D bytes t P n told)

-- A value that is read back of P has as many elements or bytes as the pointer says.
abbrev pub Spans : Definitions → Pointee → ℕ → Value → Type 0
Spans D P count v = (bytes : List ℕ) (t n : ℕ) → (has_length P ≡ false → n ≡ 0) → Viewed D bytes t P n → Says D bytes t P n v → count ≡ n
