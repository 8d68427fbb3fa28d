-- What calls come to: one word for each kind of call, over its result. It says what holds on success, why the call is refused, and what stays as it was in
-- both cases. `Both` is a parameter as a clause names it: what it was as the call began, and what it is at the return.
use denote.Triple.Both.{Both}
use denote.Ref.{MutBor}
use Rattle.std.specs.Prelude.{◌≡◌, ◌⊎◌, ◌+◌, ◌≤◌, ◌*◌, ℕ, List, length, Option, None, Result, OnOk, IfOk, IfErr, IfSome}
use Rattle.archive_check.specs.Definitions.{Definitions}
use Rattle.archive_check.specs.Words.Formats.{FormatOf}
use Rattle.archive_check.specs.Reads.{bytes_at}
use Rattle.archive_check.specs.Shape.{Shape, Pointee, vec, run}
use Rattle.archive_check.specs.Value.{Value, Values, list}
use Rattle.archive_check.specs.WriterState.{WriterState, KeepsKeys}
use Rattle.archive_check.specs.declared.format.error.Error.{Error}
use Rattle.archive_check.specs.declared.format.error.Error.TheVariants.{OutOfMemory}
use Rattle.archive_check.specs.Denotes.{Naming}
use Rattle.archive_check.specs.declared.format.traits.Keys as Keys
use Rattle.archive_check.specs.declared.self_check.parts.CheckedParts as CheckedParts
use Rattle.archive_types.specs.Causes.{Explains, HindersAt, HindersRegionAt, IsRefused, IsRegionRefused}
use Rattle.archive_types.specs.Copies.{AreCopied, EachOwnsNothing, IsCopyRefused, copies_from, copies_to}
use Rattle.archive_types.specs.Parts.{ResolvesParts, HindersPartsAt}
use Rattle.archive_types.specs.Words.PlacedParts.{ChangesOnly}
use Rattle.archive_types.specs.Plans.{Serialized, SerializedRegion}
use Rattle.archive_types.specs.Runs.{each_keys, each_meaning, each_flat, HindersRunAt, PutsRun}
use Rattle.archive_types.specs.Writing.{Puts, Resolves, vec_flat}
use Rattle.archive_types.specs.declared.place.Place.{Place}
use Rattle.archive_write.specs.Written.{GoesOn}

-- Resolving: the bytes at p are clean and read as the value, with its pointers, or why not; they stay as many.
pub record ResolvesTo {A : Type 0} (D : Definitions) (X : Shape) (flat : Value) (p : ℕ) (old new : List ℕ) (result : Result A Error) : Type 0 where
  pub resolved : OnOk result (Resolves D p new X flat)
  pub refused : IfErr result (HindersAt D X flat p)
  pub same_length : length new ≡ length old

-- In a place, and in bytes that are to stand at p.
abbrev pub ResolvesAs : {F M R A : Type 0} → FormatOf M → Both (Place F) (MutBor (List ℕ) × R) → Value → Result A Error → Type 0
ResolvesAs f place flat result = ResolvesTo f.definitions f.shape flat place.entry.pos place.entry.bytes.now place.exit.0.now result

abbrev pub ResolvesBytes : {M A : Type 0} → FormatOf M → ℕ → Both (MutBor (List ℕ)) (MutBor (List ℕ)) → Value → Result A Error → Type 0
ResolvesBytes f p bytes flat result = ResolvesTo f.definitions f.shape flat p bytes.entry.now bytes.exit.now result

-- The same of the part at the offset o of what begins at p; the other bytes stay.
pub record ResolvesPart {M A : Type 0} (f : FormatOf M) (flat : Value) (o p : ℕ) (old new : List ℕ) (result : Result A Error) : Type 0 where
  pub resolved : OnOk result (Resolves f.definitions (p + o) (bytes_at new o f.layout.size) f.shape flat)
  pub refused : IfErr result (HindersAt f.definitions f.shape flat (p + o))
  pub others_stay : ChangesOnly o f.layout.size old new

-- The same of parts, behind the offset `start` of what begins at p.
pub record ResolvesAllParts {P A : Type 0} (g : CheckedParts.Ghosts P) (flats : Values) (p start : ℕ) (old new : List ℕ) (result : Result A Error) : Type 0 where
  pub resolved : OnOk result (ResolvesParts g.definitions p start new g.parts flats)
  pub refused : IfErr result (HindersPartsAt g.definitions g.parts flats p start)
  pub same_length : length new ≡ length old

-- Serializing: what the value owns was appended, as planned, and the resolver is one of it; or why not. What was there before stays.
pub record SerializesTo {R : Type 0} (D : Definitions) (X : Shape) (keys : List Naming) (v : Value) (flat : R → Value) (belongs : R → Type 0) (old new : WriterState) (result : Result R Error) : Type 0 where
  pub serialized : IfOk result (λ r. Serialized D X keys v (flat r) old new)
  pub same_value : IfOk result belongs
  pub goes_on : GoesOn old new
  pub refused : IfErr result (IsRefused D X keys v old new)

-- Of what is named and means so, and is read as `flat`.
abbrev pub SerializesAs : {R M S : Type 0} → FormatOf M → List Naming → Value → (R → Value) → (R → Type 0) → Keys.Ghosts S → Both (MutBor S) (MutBor S) → Result R Error → Type 0
SerializesAs f keys v flat belongs k w result =
    SerializesTo f.definitions f.shape keys v flat belongs (k.state w.entry.now) (k.state w.exit.now) result

-- The same of a vector of the items that came, of which there may be more than fit; nothing happened where there was no memory to keep them.
pub record SerializesItems {T M S : Type 0} (came : List T → Type 0) (keys : T → List Naming) (meaning : T → Value) (f : FormatOf M) (k : Keys.Ghosts S) (w : Both (MutBor S) (MutBor S)) (result : Result ℕ Error) : Type 0 where
  pub serialized : IfOk result (λ t. (xs : List T) × came xs × (length xs ≤ 4294967295)
      × Serialized f.definitions (vec f.shape) (each_keys keys xs) (list (each_meaning meaning xs)) (vec_flat f.shape (length xs) t) (k.state w.entry.now) (k.state w.exit.now))
  pub goes_on : GoesOn (k.state w.entry.now) (k.state w.exit.now)
  pub refused : IfErr result (λ e. ((e ≡ OutOfMemory) × (w.exit.now ≡ w.entry.now))
      ⊎ ((xs : List T) × came xs × IsRefused f.definitions (vec f.shape) (each_keys keys xs) (list (each_meaning meaning xs)) (k.state w.entry.now) (k.state w.exit.now) e))

-- Laying out a region: what the pointee owns was appended and then its own region, as planned, at the returned position; or why not. What was
-- there before stays.
pub record WritesRegion (D : Definitions) (P : Pointee) (n : ℕ) (keys : List Naming) (v : Value) (old new : WriterState) (result : Result ℕ Error) : Type 0 where
  pub serialized : IfOk result (λ p. SerializedRegion D P n keys v p old new)
  pub goes_on : GoesOn old new
  pub refused : IfErr result (IsRegionRefused D P n keys v old new)

abbrev pub WritesElements : {T M S : Type 0} → (T → List Naming) → (T → Value) → FormatOf M → List T → Keys.Ghosts S → Both (MutBor S) (MutBor S) → Result ℕ Error → Type 0
WritesElements keys meaning f xs k w result =
    WritesRegion f.definitions (run f.shape) (length xs) (each_keys keys xs) (list (each_meaning meaning xs)) (k.state w.entry.now) (k.state w.exit.now) result

-- The same of elements that may be copied: where there is a position they were, and else nothing was written.
pub record CopiesElements {T M S : Type 0} (keys : T → List Naming) (meaning : T → Value) (f : FormatOf M) (xs : List T) (k : Keys.Ghosts S) (w : Both (MutBor S) (MutBor S)) (result : Result (Option ℕ) Error) : Type 0 where
  pub serialized : IfOk result (λ o. IfSome o (λ p.
      SerializedRegion f.definitions (run f.shape) (length xs) (each_keys keys xs) (list (each_meaning meaning xs)) p (k.state w.entry.now) (k.state w.exit.now)))
  pub in_bulk : IfOk result (λ o. IfSome o (λ p. (p ≡ copies_from f.layout (length (k.state w.entry.now).bytes))
      × AreCopied f.definitions f.shape f.layout keys meaning xs (k.state w.entry.now) (k.state w.exit.now)))
  pub untouched : IfOk result (λ o. o ≡ None → k.state w.exit.now ≡ k.state w.entry.now)
  pub goes_on : IfOk result (λ o. IfSome o (λ p. GoesOn (k.state w.entry.now) (k.state w.exit.now)))
  pub fails_on : IfErr result (λ e. GoesOn (k.state w.entry.now) (k.state w.exit.now))
  pub refused : IfErr result (IsRegionRefused f.definitions (run f.shape) (length xs) (each_keys keys xs) (list (each_meaning meaning xs)) (k.state w.entry.now) (k.state w.exit.now))
  pub not_in_bulk : IfErr result (λ e. EachOwnsNothing f.definitions f.shape keys meaning xs
      × IsCopyRefused (copies_to f.layout (length xs) (length (k.state w.entry.now).bytes)) (k.state w.entry.now) (k.state w.exit.now) e)

-- Putting a value that is serialized: its own region was appended, at the writer's position `at`, and reads as it, with its pointers; or why not.
pub record PutsRegion {M W : Type 0} (f : FormatOf M) (flat : Value) (k : Keys.Ghosts W) (w : Both (MutBor W) (MutBor W)) (at : ℕ) (result : Result ℕ Error) : Type 0 where
  pub region : OnOk result (Puts f.definitions (k.state w.entry.now) (k.state w.exit.now) f.shape f.layout flat)
  pub position : IfOk result (λ p. p ≡ at)
  pub sized : OnOk result (length (k.state w.exit.now).bytes ≡ length (k.state w.entry.now).bytes + f.layout.size)
  pub refused : IfErr result (Explains (HindersRegionAt f.definitions f.shape f.layout flat (length (k.state w.entry.now).bytes))
      (λ n. n ≤ length (k.state w.entry.now).bytes + f.layout.size) (k.state w.entry.now) (k.state w.exit.now))
  pub goes_on : GoesOn (k.state w.entry.now) (k.state w.exit.now)
  pub keys : KeepsKeys (k.state w.entry.now).states (k.state w.exit.now).states

-- The same of elements.
pub record PutsElements {M T R W A : Type 0} (f : FormatOf M) (flat : T → R → Value) (xs : List T) (rs : List R) (k : Keys.Ghosts W) (w : Both (MutBor W) (MutBor W)) (result : Result A Error) : Type 0 where
  pub put : OnOk result (PutsRun f.definitions (k.state w.entry.now) (k.state w.exit.now) f.shape f.layout (length xs) (each_flat flat xs rs))
  pub refused : IfErr result (Explains (HindersRunAt f.definitions f.shape f.layout (length xs) (each_flat flat xs rs) (length (k.state w.entry.now).bytes))
      (λ n. n ≤ length (k.state w.entry.now).bytes + length xs * f.layout.size) (k.state w.entry.now) (k.state w.exit.now))
  pub goes_on : GoesOn (k.state w.entry.now) (k.state w.exit.now)
  pub keys : KeepsKeys (k.state w.entry.now).states (k.state w.exit.now).states
