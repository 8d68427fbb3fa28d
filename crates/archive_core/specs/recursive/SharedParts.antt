-- A value behind a shared pointer, which a recursive type writes between the start of its key and the end of it: what is known of the key in between, and
-- that a pointer to the value is serialized at the end, from wherever the key was begun.
use denote.Triple.Both.{Both}
use denote.Ref.{MutBor}
use Rattle.std.specs.Prelude.{◌≡◌, ℕ, List, ◌∷◌, length, Option, Some, None, Result, Ok}
use Rattle.archive_check.specs.Definitions.{Definitions}
use Rattle.archive_check.specs.Denotes.{Naming}
use Rattle.archive_check.specs.Shape.{Flavor, Pointee, Shape, one, run, shared}
use Rattle.archive_check.specs.Value.{Value, Values, hole, list, shared_value}
use Rattle.archive_check.specs.WriterState.{WriterState, KeepsBytes, KeepsKeys}
use Rattle.archive_check.specs.Words.Formats.{FormatOf}
use Rattle.archive_check.specs.declared.format.error.Error.{Error}
use Rattle.archive_check.specs.declared.format.traits.Keys as Keys
use Rattle.archive_types.specs.Causes.{IsRefused, IsRegionRefused}
use Rattle.archive_types.specs.Members.SharedLaws.{naming_of}
use Rattle.archive_types.specs.Plans.{Serialized, SerializedRegion, SerializedShared}
use Rattle.archive_types.specs.Runs.{HasRunPlan, SerializedRun, each_flat, each_keys, each_meaning}
use Rattle.archive_types.specs.Writing.{to_shared}
use Rattle.archive_types.specs.declared.traits.Archive as Archive
use Rattle.archive_write.specs.Sharing.{IsSet, started_key, known_answer}
use Rattle.archive_write.specs.Written.{GoesOn}

-- The key was unknown, and is pending now.
pub record Begins (key : ℕ) (old new : WriterState) : Type 0 where
  pub unknown : old.states key ≡ None
  pub same : KeepsBytes old new
  pub pending : IsSet old.states key (started_key (old.states key)) new.states

-- A pointer to P under the key is serialized, and leads to t; and why it isn't.
abbrev pub SerializedUnder : Definitions → Flavor → Pointee → ℕ → ℕ → List Naming → Value → ℕ → WriterState → WriterState → Type 0
SerializedUnder D flavor P n key ks v t = Serialized D (shared flavor P) (naming_of key flavor P n v ∷ ks) (shared_value key) (hole (to_shared t flavor P n))

abbrev pub RefusedUnder : Definitions → Flavor → Pointee → ℕ → ℕ → List Naming → Value → WriterState → WriterState → Error → Type 0
RefusedUnder D flavor P n key ks v = IsRefused D (shared flavor P) (naming_of key flavor P n v ∷ ks) (shared_value key)

-- The same of any value: of a key that is known.
pub record IsKnown (key t : ℕ) (old new : WriterState) : Type 0 where
  pub said : (D : Definitions) (flavor : Flavor) (P : Pointee) (n : ℕ) (ks : List Naming) (v : Value) → SerializedUnder D flavor P n key ks v t old new

pub record IsNotBegun (key : ℕ) (old new : WriterState) (e : Error) : Type 0 where
  pub said : (D : Definitions) (flavor : Flavor) (P : Pointee) (n : ℕ) (ks : List Naming) (v : Value) → RefusedUnder D flavor P n key ks v old new e

-- The same of so many elements.
pub record AreNotBegun (key n : ℕ) (old new : WriterState) (e : Error) : Type 0 where
  pub said : (D : Definitions) (flavor : Flavor) (X : Shape) (ks : List Naming) (vs : Values) → HasRunPlan D X n ks vs → RefusedUnder D flavor (run X) n key ks (list vs) old new e

-- The value of the key lies at t: it was known to, or it was written there.
pub record LiesAt (D : Definitions) (P : Pointee) (n key : ℕ) (ks : List Naming) (v : Value) (t : ℕ) (old new : WriterState) : Type 0 where
  pub known : (s : Option ℕ) → old.states key ≡ Some s → Ok t ≡ known_answer s
  pub kept : (s : Option ℕ) → old.states key ≡ Some s → KeepsBytes old new × KeepsKeys old.states new.states
  pub laid : old.states key ≡ None → SerializedShared D P n key ks v t old new

-- From wherever it came to lie at t: nothing else will lie there, and so a pointer to it is serialized; and why it isn't.
pub record IsConcluded (t : ℕ) (mid new : WriterState) : Type 0 where
  pub since : (D : Definitions) (flavor : Flavor) (P : Pointee) (n key : ℕ) (ks : List Naming) (v : Value) (old : WriterState) → LiesAt D P n key ks v t old mid → SerializedUnder D flavor P n key ks v t old new

pub record IsNotConcluded (t : ℕ) (mid new : WriterState) (e : Error) : Type 0 where
  pub since : (D : Definitions) (flavor : Flavor) (P : Pointee) (n key : ℕ) (ks : List Naming) (v : Value) (old : WriterState) → LiesAt D P n key ks v t old mid → GoesOn old mid → RefusedUnder D flavor P n key ks v old new e

-- From wherever the value was serialized: its region stands at t; and why it doesn't.
pub record HasRegion (D : Definitions) (X : Shape) (ks : List Naming) (v flat : Value) (t : ℕ) (mid new : WriterState) : Type 0 where
  pub since : (old : WriterState) → GoesOn old mid → Serialized D X ks v flat old mid → SerializedRegion D (one X) 0 ks v t old new

pub record HasNoRegion (D : Definitions) (X : Shape) (ks : List Naming) (v flat : Value) (mid new : WriterState) (e : Error) : Type 0 where
  pub since : (old : WriterState) → GoesOn old mid → Serialized D X ks v flat old mid → IsRegionRefused D (one X) 0 ks v old new e

-- The same of elements.
pub record HasElements (D : Definitions) (X : Shape) (n : ℕ) (ks : List Naming) (vs flats : Values) (t : ℕ) (mid new : WriterState) : Type 0 where
  pub since : (old : WriterState) → GoesOn old mid → SerializedRun D X n ks vs flats old mid → SerializedRegion D (run X) n ks (list vs) t old new

pub record HasNoElements (D : Definitions) (X : Shape) (n : ℕ) (ks : List Naming) (vs flats : Values) (mid new : WriterState) (e : Error) : Type 0 where
  pub since : (old : WriterState) → GoesOn old mid → SerializedRun D X n ks vs flats old mid → IsRegionRefused D (run X) n ks (list vs) old new e

-- It goes on from wherever the key was begun.
pub record HasGoneOn (key : ℕ) (mid new : WriterState) : Type 0 where
  pub since : (old low : WriterState) → Begins key old low → GoesOn low mid → GoesOn old new

-- From wherever the key was begun, and what it names was laid out at t since: a pointer to it is serialized; and why it isn't.
pub record IsEnded (key t : ℕ) (mid new : WriterState) : Type 0 where
  pub since : (D : Definitions) (flavor : Flavor) (P : Pointee) (n : ℕ) (ks : List Naming) (v : Value) (old low : WriterState) → Begins key old low → GoesOn low mid
      → SerializedRegion D P n ks v t low mid → SerializedUnder D flavor P n key ks v t old new

pub record IsNotEnded (key t : ℕ) (mid new : WriterState) (e : Error) : Type 0 where
  pub since : (D : Definitions) (flavor : Flavor) (P : Pointee) (n : ℕ) (ks : List Naming) (v : Value) (old low : WriterState) → Begins key old low → GoesOn low mid
      → SerializedRegion D P n ks v t low mid → RefusedUnder D flavor P n key ks v old new e

-- From wherever the key was begun, and the value serialized since: a pointer to it is serialized; and why it isn't.
pub record IsShared (key : ℕ) (D : Definitions) (X : Shape) (ks : List Naming) (v flat : Value) (t : ℕ) (mid new : WriterState) : Type 0 where
  pub since : (flavor : Flavor) (old low : WriterState) → Begins key old low → GoesOn low mid → Serialized D X ks v flat low mid → SerializedUnder D flavor (one X) 0 key ks v t old new

pub record IsNotShared (key : ℕ) (D : Definitions) (X : Shape) (ks : List Naming) (v flat : Value) (mid new : WriterState) (e : Error) : Type 0 where
  pub since : (flavor : Flavor) (old low : WriterState) → Begins key old low → GoesOn low mid → Serialized D X ks v flat low mid → RefusedUnder D flavor (one X) 0 key ks v old new e

-- The same of elements.
pub record IsSharedRun (key : ℕ) (D : Definitions) (X : Shape) (n : ℕ) (ks : List Naming) (vs flats : Values) (t : ℕ) (mid new : WriterState) : Type 0 where
  pub since : (flavor : Flavor) (old low : WriterState) → Begins key old low → GoesOn low mid → SerializedRun D X n ks vs flats low mid → SerializedUnder D flavor (run X) n key ks (list vs) t old new

pub record IsNotSharedRun (key : ℕ) (D : Definitions) (X : Shape) (n : ℕ) (ks : List Naming) (vs flats : Values) (mid new : WriterState) (e : Error) : Type 0 where
  pub since : (flavor : Flavor) (old low : WriterState) → Begins key old low → GoesOn low mid → SerializedRun D X n ks vs flats low mid → RefusedUnder D flavor (run X) n key ks (list vs) old new e

module _ {T A R M C S : Type 0} (a : Archive.Ghosts T A R C M) (f : FormatOf M) (x : T) (r : R) (k : Keys.Ghosts S) (w : Both (MutBor S) (MutBor S)) where
  abbrev pub PutsInner : ℕ → Type 0
  PutsInner t = HasRegion f.definitions f.shape (a.keys x) (a.meaning x) (a.flat x r) t (k.state w.entry.now) (k.state w.exit.now)

  abbrev pub PutsNoInner : Error → Type 0
  PutsNoInner e = HasNoRegion f.definitions f.shape (a.keys x) (a.meaning x) (a.flat x r) (k.state w.entry.now) (k.state w.exit.now) e

  abbrev pub SharesInner : ℕ → ℕ → Type 0
  SharesInner key t = IsShared key f.definitions f.shape (a.keys x) (a.meaning x) (a.flat x r) t (k.state w.entry.now) (k.state w.exit.now)

  abbrev pub SharesNoInner : ℕ → Error → Type 0
  SharesNoInner key e = IsNotShared key f.definitions f.shape (a.keys x) (a.meaning x) (a.flat x r) (k.state w.entry.now) (k.state w.exit.now) e

module _ {T A R M C S : Type 0} (a : Archive.Ghosts T A R C M) (f : FormatOf M) (xs : List T) (rs : List R) (k : Keys.Ghosts S) (w : Both (MutBor S) (MutBor S)) where
  abbrev pub PlacesElements : ℕ → Type 0
  PlacesElements t = HasElements f.definitions f.shape (length xs) (each_keys a.keys xs) (each_meaning a.meaning xs) (each_flat a.flat xs rs) t (k.state w.entry.now) (k.state w.exit.now)

  abbrev pub PlacesNoElements : Error → Type 0
  PlacesNoElements e = HasNoElements f.definitions f.shape (length xs) (each_keys a.keys xs) (each_meaning a.meaning xs) (each_flat a.flat xs rs) (k.state w.entry.now) (k.state w.exit.now) e

  abbrev pub SharesElements : ℕ → ℕ → Type 0
  SharesElements key t = IsSharedRun key f.definitions f.shape (length xs) (each_keys a.keys xs) (each_meaning a.meaning xs) (each_flat a.flat xs rs) t (k.state w.entry.now) (k.state w.exit.now)

  abbrev pub SharesNoElements : ℕ → Error → Type 0
  SharesNoElements key e = IsNotSharedRun key f.definitions f.shape (length xs) (each_keys a.keys xs) (each_meaning a.meaning xs) (each_flat a.flat xs rs) (k.state w.entry.now) (k.state w.exit.now) e
