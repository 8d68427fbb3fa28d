-- Items that come from an iterator, each written where it is to stand: what that leaves, and why it is refused.
use denote.Triple.Both.{Both}
use denote.Ref.{MutBor}
use Rattle.std.specs.Prelude.{◌≡◌, ℕ, ◌+◌, ◌<◌, ◌≤◌, List, [], ◌∷◌, ◌++◌, length, Option, Some, Contains}
use Rattle.std.specs.Iterator.{Yields, Drains}
use Rattle.archive_check.specs.Shape.{Flavor, Shape, vec}
use Rattle.archive_check.specs.Layout.{Layout}
use Rattle.archive_check.specs.Definitions.{Definitions}
use Rattle.archive_check.specs.Value.{Pointer, Value, list, pointers}
use Rattle.archive_check.specs.WriterState.{WriterState, Pads}
use Rattle.archive_check.specs.declared.format.error.Error.{Error}
use Rattle.archive_check.specs.declared.format.error.Error.TheVariants.{PositionTooLarge, LengthTooLarge, ItemWrote}
use Rattle.archive_check.specs.declared.format.traits.Keys as Keys
use Rattle.archive_write.specs.Written.{padding, ExplainsRefusal}
use Rattle.archive_types.specs.Causes.{Explains, HindersRegionAt, IsRefused}
use Rattle.archive_check.specs.Words.Formats.{FormatOf}
use Rattle.archive_check.specs.Denotes.{Naming}
use Rattle.archive_types.specs.Plans.{Serialized}
use Rattle.archive_types.specs.Runs.{each_keys, each_meaning}
use Rattle.archive_types.specs.Writing.{Puts, vec_flat}
use Rattle.archive_types.specs.declared.traits.Archive as Archive

-- Each of the pointers is shared.
abbrev pub AllShared : List Pointer → Type 0
AllShared ps = (p : Pointer) → Contains ps p → (flavor : Flavor) × (p.sharing ≡ Some flavor)

-- No item has a pointer to a region of its own.
abbrev pub OwnNoRegion : {A R : Type 0} → (A → R → Value) → (A → R → Type 0) → List A → Type 0
OwnNoRegion {A = A} {R = R} f b xs = (x : A) → Contains xs x → (r : R) → b x r → AllShared (pointers (f x r))

module _ {A R : Type 0} (D : Definitions) (X : Shape) (L : Layout) (k : A → List Naming) (m : A → Value) (f : A → R → Value) (b : A → R → Type 0) where
  -- An item was serialized, which wrote nothing, and was resolved where the writer stood.
  pub record ItemWritten (x : A) (old new : WriterState) : Type 0 where
    pub resolver : R
    pub mid : WriterState
    pub serialized : Serialized D X (k x) (m x) (f x resolver) old mid
    pub same : b x resolver
    pub silent : mid.bytes ≡ old.bytes
    pub puts : Puts D mid new X L (f x resolver)

  -- Why it wasn't: it wasn't serialized; it was, and wrote; or it was, and wasn't resolved.
  pub data ItemRefused (x : A) (old new : WriterState) : Error → Type 0 where
    not_serialized : {e : Error} → IsRefused D X (k x) (m x) old new e → ItemRefused x old new e
    item_wrote : {r : R} → Serialized D X (k x) (m x) (f x r) old new → length old.bytes < length new.bytes → ItemRefused x old new ItemWrote
    not_resolved : {r : R} {mid : WriterState} {e : Error} → Serialized D X (k x) (m x) (f x r) old mid → mid.bytes ≡ old.bytes
        → Explains (HindersRegionAt D X L (f x r) (length mid.bytes)) (λ n. n ≤ length mid.bytes + L.size) mid new e → ItemRefused x old new e

  -- Items were written one behind another.
  pub data ItemsWritten : List A → WriterState → WriterState → Type 0 where
    no_item : {w : WriterState} → ItemsWritten [] w w
    one_item : {x : A} {xs : List A} {old mid new : WriterState} → ItemWritten x old mid → ItemsWritten xs mid new → ItemsWritten (x ∷ xs) old new

  -- And the first one at t, the next multiple of their alignment.
  pub record ItemsLaid (xs : List A) (t : ℕ) (old new : WriterState) : Type 0 where
    pub low : WriterState
    pub pads : Pads L.align old low
    pub at : t ≡ length low.bytes
    pub written : ItemsWritten xs low new

  -- Why the items that an iterator gives weren't: the zeros in front weren't written; the first one would stand above 4,294,967,295; more came than
  -- 4,294,967,295; or one was refused. `came` is what may have come by then.
  pub data ItemsRefused (came : List A → Type 0) (old new : WriterState) : Error → Type 0 where
    not_aligned : {e : Error} → ExplainsRefusal (padding L.align (length old.bytes)) (length old.bytes) (length new.bytes) old.room old.failures new.failures e → ItemsRefused came old new e
    too_far : Pads L.align old new → 4294967295 < length new.bytes → ItemsRefused came old new PositionTooLarge
    too_many : (xs : List A) (x : A) (t : ℕ) → came (xs ++ x ∷ []) → ItemsLaid xs t old new → 4294967295 ≤ length xs → ItemsRefused came old new LengthTooLarge
    one_refused : {e : Error} (xs : List A) (x : A) (t : ℕ) (mid : WriterState) → came (xs ++ x ∷ []) → ItemsLaid xs t old mid → ItemRefused x mid new e → ItemsRefused came old new e

-- The same of an item of a source's type, and of the items of an iterator, which came to an end.
abbrev pub ItemPut : {T A R M C S : Type 0} → Archive.Ghosts T A R C M → FormatOf M → T → Keys.Ghosts S → Both (MutBor S) (MutBor S) → Type 0
ItemPut a f x k w = ItemWritten f.definitions f.shape f.layout a.keys a.meaning a.flat a.belongs x (k.state w.entry.now) (k.state w.exit.now)

abbrev pub PutRefused : {T A R M C S : Type 0} → Archive.Ghosts T A R C M → FormatOf M → T → Keys.Ghosts S → Both (MutBor S) (MutBor S) → Error → Type 0
PutRefused a f x k w = ItemRefused f.definitions f.shape f.layout a.keys a.meaning a.flat a.belongs x (k.state w.entry.now) (k.state w.exit.now)

-- They are no more than a vector may have, and lie from t on; where none has a pointer to a region of its own, they are a vector's elements.
abbrev pub ItemsStored : {I T A R M C S : Type 0} → (I → Option T → I → Type 0) → I → Archive.Ghosts T A R C M → FormatOf M → Keys.Ghosts S → Both (MutBor S) (MutBor S) → ℕ → Type 0
ItemsStored {T = T} steps s a f k w t = (xs : List T) × Drains steps s xs × (length xs ≤ 4294967295)
    × ItemsLaid f.definitions f.shape f.layout a.keys a.meaning a.flat a.belongs xs t (k.state w.entry.now) (k.state w.exit.now)
    × (OwnNoRegion a.flat a.belongs xs →
    Serialized f.definitions (vec f.shape) (each_keys a.keys xs) (list (each_meaning a.meaning xs)) (vec_flat f.shape (length xs) t) (k.state w.entry.now) (k.state w.exit.now))

abbrev pub CollectionRefused : {I T A R M C S : Type 0} → (I → Option T → I → Type 0) → I → Archive.Ghosts T A R C M → FormatOf M → Keys.Ghosts S → Both (MutBor S) (MutBor S) → Error → Type 0
CollectionRefused {I = I} steps s a f k w =
    ItemsRefused f.definitions f.shape f.layout a.keys a.meaning a.flat a.belongs (λ xs. (u : I) × Yields steps s xs u) (k.state w.entry.now) (k.state w.exit.now)
