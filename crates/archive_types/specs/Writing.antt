-- What the writing of a value leaves behind: the law of a type.
use Rattle.std.specs.Prelude.{◌≡◌, ◌⊎◌, ℕ, ◌+◌, ◌<◌, ◌≤◌, ◌^◌, pos, List, [], ◌∷◌, ◌++◌, length, Option, Some, None, Contains}
use Rattle.std.specs.Ordering.{nat_cmp}
use Rattle.std.specs.FinMap.{FinMap, get}
use Rattle.archive_check.specs.Shape.{Key, Flavor, Shape, Pointee, run, entry_of}
use Rattle.archive_check.specs.Layout.{Layout, up}
use Rattle.archive_check.specs.Definitions.{Definitions, Knows, HasLayout}
use Rattle.archive_check.specs.Value.{Pointer, Value, Values, box, hole, pointers, all_pointers}
use Rattle.archive_check.specs.Reads.{SchemaTable, Reads}
use Rattle.archive_check.specs.Tour.{Region, Contents, Entry, Seen, Tour, pointee_size, pointee_align}
use Rattle.archive_check.specs.Denotes.{Naming, Meaning, Denotes, Same, Fills, FillsAll, rename, rename_all}
use Rattle.archive_check.specs.Reached.{Names, NamesAmong}
use Rattle.archive_check.specs.Tightness.{Tight, TightFrom, CleanFrom}
use Rattle.archive_check.specs.CleanRegions.{Occurs, IsZeroed, CleanValue, CleanPointee, CleanRegions}
use Rattle.archive_check.specs.WriterState.{KeyStates, WriterState}
use Rattle.archive_write.specs.Sharing.{IsSet}

-- What each key stands for: flavor, pointee and length, and the value.
abbrev pub NameMap : Type 0
NameMap = FinMap nat_cmp (Entry × Value)

-- The map has each of these keys, with what it stands for.
abbrev pub AreNamed : NameMap → List Naming → Type 0
AreNamed names [] = Unit {0}
AreNamed names (k ∷ ks) = (get names k.0 ≡ Some k.1) × AreNamed names ks

-- Each name in the value is one of these keys.
abbrev pub HasKeys : List Naming → Value → Type 0
HasKeys keys v = (k : ℕ) → Names k v → (x : Entry × Value) × Contains keys (k, x)

-- The value leads to the key: it stands in the value, or in what one of these keys names to which the value leads.
pub data LeadsToKey (keys : List Naming) (v : Value) : ℕ → Type 0 where
  key_at_once : {k : ℕ} → Names k v → LeadsToKey keys v k
  key_through : {k : ℕ} {l : Naming} → LeadsToKey keys v l.0 → Contains keys l → Names k l.1.1 → LeadsToKey keys v k

-- These are the keys that the value leads to: each name in it, and in what its keys name, is among them, and there are no others.
pub record IsKeyed (keys : List Naming) (v : Value) : Type 0 where
  pub value : HasKeys keys v
  pub named : (k : Naming) → Contains keys k → HasKeys keys k.1.1
  pub only : (k : Naming) → Contains keys k → LeadsToKey keys v k.0

-- The map has just these keys, each of which stands for one thing.
pub record AreKeys (names : NameMap) (keys : List Naming) : Type 0 where
  pub named : AreNamed names keys
  pub only : (k : ℕ) (x : Entry × Value) → get names k ≡ Some x → Contains keys (k, x)

-- What a writer holds in the end, and what is known of it: its schema, where each key's value lies, and what each key names.
pub record World : Type 0 where
  pub schema : SchemaTable
  pub bytes : List ℕ
  pub position : ℕ → ℕ
  pub names : NameMap

-- The world knows these definitions, begins with these bytes, and puts each finished key where the states have it.
pub record Covers (w : World) (definitions : Definitions) (told : List ℕ) (states : KeyStates) (keys : List Naming) : Type 0 where
  pub knows : Knows w.schema definitions
  pub rest : List ℕ
  pub begins : w.bytes ≡ told ++ rest
  pub placed : (k t : ℕ) → states k ≡ Some (Some t) → w.position k ≡ t
  pub named : AreNamed w.names keys

-- Each name in the value is finished.
abbrev pub AreFinished : KeyStates → Value → Type 0
AreFinished states v = (k : ℕ) → Names k v → (t : ℕ) × (states k ≡ Some (Some t))

abbrev pub AllFinished : KeyStates → Values → Type 0
AllFinished states vs = (k : ℕ) → NamesAmong k vs → (t : ℕ) × (states k ≡ Some (Some t))

-- Each finished key lies below the stop, has been seen, typed as it is named, and isn't pending; what it names has finished names alone. What is
-- pending has been seen.
pub record Known (w : World) (states : KeyStates) (stop : ℕ) (seen : Seen) (pending : List ℕ) : Type 0 where
  pub typed : (k t : ℕ) (e : Entry) (v : Value) → states k ≡ Some (Some t) → get w.names k ≡ Some (e, v) → get seen t ≡ Some e
  pub inner : (k t : ℕ) (e : Entry) (v : Value) → states k ≡ Some (Some t) → get w.names k ≡ Some (e, v) → AreFinished states v
  pub closed : (k t : ℕ) → states k ≡ Some (Some t) → Contains pending t → ⊥
  pub below : (k t : ℕ) → states k ≡ Some (Some t) → t < stop
  pub opened : (t : ℕ) → Contains pending t → (e : Entry) × (get seen t ≡ Some e)

-- Nothing has been seen from start up to stop.
pub record Unseen (seen : Seen) (start stop : ℕ) : Type 0 where
  pub unseen : (t : ℕ) → start ≤ t → t < stop → get seen t ≡ None

-- A key finished at t names the entry, and what stands there is its value.
pub record Found (w : World) (states : KeyStates) (t : ℕ) (e : Entry) : Type 0 where
  pub key : ℕ
  pub flat : Value
  pub value : Value
  pub finished : states key ≡ Some (Some t)
  pub names : get w.names key ≡ Some (e, value)
  pub contents : Contents w.schema w.bytes t e.pointee e.length flat
  pub fills : Fills w.schema w.bytes flat (rename w.position value)

-- From start to stop stand the regions of the tour of these pointers, tight and clean.
pub record Appends (w : World) (start stop : ℕ) (states : KeyStates) (pending : List ℕ) (seen : Seen) (O : List Pointer) : Type 0 where
  pub regions : List Region
  pub last : Seen
  pub tour : Tour w.schema w.bytes pending seen O regions last
  pub tight : Tight start regions stop
  pub clean : CleanRegions w.schema w.bytes start regions
  pub known : Known w states stop last pending
  pub below : (t : ℕ) → t < start → get last t ≡ get seen t
  pub above : (t : ℕ) → stop ≤ t → get last t ≡ get seen t
  pub found : (t : ℕ) (e : Entry) → get last t ≡ Some e → (get seen t ≡ Some e) ⊎ Found w states t e

-- Known keys keep their states. New ones were finished from start on and before stop, each at a position of its own.
pub record FinishesKeys (start stop : ℕ) (old new : KeyStates) : Type 0 where
  pub kept : (k : ℕ) (x : Option ℕ) → old k ≡ Some x → new k ≡ Some x
  pub settled : (k : ℕ) (x : Option ℕ) → old k ≡ None → new k ≡ Some x → (t : ℕ) × (x ≡ Some t) × (start ≤ t) × (t < stop)
  pub apart : (k l t : ℕ) → old k ≡ None → old l ≡ None → new k ≡ Some (Some t) → new l ≡ Some (Some t) → k ≡ l

-- The regions of the value's pointers were appended. `flat` is the value as it will be read, with a hole for each pointer.
pub record Writes (definitions : Definitions) (old new : WriterState) (keys : List Naming) (flat value : Value) : Type 0 where
  pub added : List ℕ
  pub grown : new.bytes ≡ old.bytes ++ added
  pub states : FinishesKeys (length old.bytes) (length new.bytes) old.states new.states
  pub finished : AreFinished new.states value
  pub appends : (w : World) (pending : List ℕ) (seen : Seen) → Covers w definitions new.bytes new.states keys
      → Known w old.states (length old.bytes) seen pending → Unseen seen (length old.bytes) (length new.bytes)
      → Appends w (length old.bytes) (length new.bytes) new.states pending seen (pointers flat)
  pub fills : (w : World) → Covers w definitions new.bytes new.states keys → Fills w.schema w.bytes flat (rename w.position value)

-- The same for values one after another.
pub record WritesAll (definitions : Definitions) (old new : WriterState) (keys : List Naming) (flats values : Values) : Type 0 where
  pub added : List ℕ
  pub grown : new.bytes ≡ old.bytes ++ added
  pub states : FinishesKeys (length old.bytes) (length new.bytes) old.states new.states
  pub finished : AllFinished new.states values
  pub appends : (w : World) (pending : List ℕ) (seen : Seen) → Covers w definitions new.bytes new.states keys
      → Known w old.states (length old.bytes) seen pending → Unseen seen (length old.bytes) (length new.bytes)
      → Appends w (length old.bytes) (length new.bytes) new.states pending seen (all_pointers flats)
  pub fills : (w : World) → Covers w definitions new.bytes new.states keys → FillsAll w.schema w.bytes flats (rename_all w.position values)

-- These bytes, at p, are clean and read as the value, with its pointers.
pub record Resolves (definitions : Definitions) (p : ℕ) (a : List ℕ) (X : Shape) (flat : Value) : Type 0 where
  pub reads : (s : SchemaTable) (bytes : List ℕ) → Knows s definitions → Occurs bytes p a → Reads s bytes p X flat
  pub clean : (s : SchemaTable) (bytes : List ℕ) → Knows s definitions → Occurs bytes p a → CleanValue s bytes p X

-- One value was appended.
pub record Puts (definitions : Definitions) (old new : WriterState) (X : Shape) (L : Layout) (flat : Value) : Type 0 where
  pub layout : HasLayout definitions X L
  pub added : List ℕ
  pub grown : new.bytes ≡ old.bytes ++ added
  pub sized : length added ≡ L.size
  pub resolved : Resolves definitions (length old.bytes) added X flat
  pub states : new.states ≡ old.states

-- A place that is to be written: n zeros, and its end fits.
pub record ZeroedPlace (size p : ℕ) (bytes : List ℕ) : Type 0 where
  pub sized : length bytes ≡ size
  pub zeroed : IsZeroed bytes
  pub ends : p + size < 2 ^ 64

-- The buffer is an archive of the value, tight and clean from start on, its keys renamed one to
-- one. A value without keys is denoted as it is.
pub record IsWritten (s : SchemaTable) (start : ℕ) (bytes : List ℕ) (root : ℕ) (X : Shape) (names : NameMap) (value : Value) : Type 0 where
  pub meaning : Meaning
  pub denotes : Denotes s bytes root X meaning
  pub same : Same (record { value = value; shared = names }) meaning
  pub plain : HasKeys [] value → meaning.value ≡ value
  pub tight : TightFrom start denotes.accepted
  pub clean : CleanFrom start denotes.accepted

-- Behind the old bytes lies an archive of the value, its root at the end: each schema that knows
-- the definitions accepts it, if each key stands for one thing.
pub record Archives (definitions : Definitions) (old new : List ℕ) (root : ℕ) (X : Shape) (size : ℕ) (keys : List Naming) (value : Value) : Type 0 where
  pub added : List ℕ
  pub grown : new ≡ old ++ added
  pub root_ends : root + size ≡ length new
  pub archived : (s : SchemaTable) (names : NameMap) → Knows s definitions → AreKeys names keys → IsWritten s (length old) new root X names value

-- The pointer to a pointee of n elements or bytes at t, with a region of its own.
abbrev pub to_pointee : ℕ → Pointee → ℕ → Pointer
to_pointee t P n = record { target = pos t; sharing = None; order = None; pointee = P; length = n }

-- What a box of a pointee of n elements or bytes at t reads as, and a vector of n elements there.
abbrev pub box_flat : Pointee → ℕ → ℕ → Value
box_flat P n t = box (hole (to_pointee t P n))

abbrev pub vec_flat : Shape → ℕ → ℕ → Value
vec_flat X n t = hole (to_pointee t (run X) n)

-- The pointer to the n entries of a map at t.
abbrev pub to_map : ℕ → Key → Shape → ℕ → Pointer
to_map t K V n = record { target = pos t; sharing = None; order = Some K; pointee = run (entry_of K V); length = n }

abbrev pub map_flat : Key → Shape → ℕ → ℕ → Value
map_flat K V n t = hole (to_map t K V n)

-- What a pointee owns was appended, and then its own region, which stands at p.
pub record LaysOut (definitions : Definitions) (old new : WriterState) (keys : List Naming) (p : ℕ) (P : Pointee) (n : ℕ) (value : Value) : Type 0 where
  pub mid : WriterState
  pub flat : Value
  pub owned : Writes definitions old mid keys flat value
  pub zeros : List ℕ
  pub region : List ℕ
  pub grown : new.bytes ≡ mid.bytes ++ (zeros ++ region)
  pub zeroed : IsZeroed zeros
  pub at : p ≡ length mid.bytes + length zeros
  pub aligned : (s : SchemaTable) → Knows s definitions → p ≡ up (length mid.bytes) (pointee_align s P)
  pub sized : (s : SchemaTable) → Knows s definitions → length region ≡ pointee_size s P n
  pub contents : (s : SchemaTable) (bytes : List ℕ) → Knows s definitions → Occurs bytes p region → Contents s bytes p P n flat
  pub clean : (s : SchemaTable) (bytes : List ℕ) → Knows s definitions → Occurs bytes p region → CleanPointee s bytes p P n
  pub states : new.states ≡ mid.states

-- The pointer to a shared pointee at t.
abbrev pub to_shared : ℕ → Flavor → Pointee → ℕ → Pointer
to_shared t flavor P n = record { target = pos t; sharing = Some flavor; order = None; pointee = P; length = n }

-- What a pointer to one reads as, which stands at t.
abbrev pub shared_flat : Flavor → Pointee → ℕ → ℕ → Value
shared_flat flavor P n t = hole (to_shared t flavor P n)

-- What an unknown key names was laid out at p, the key pending meanwhile and finished there in the end.
pub record LaysOutShared (definitions : Definitions) (old new : WriterState) (key : ℕ) (keys : List Naming) (p : ℕ) (P : Pointee) (n : ℕ) (value : Value) : Type 0 where
  pub unknown : old.states key ≡ None
  pub begun : KeyStates
  pub begins : IsSet old.states key (Some None) begun
  pub laid : KeyStates
  pub lays : LaysOut definitions (record old { states = begun }) (record new { states = laid }) keys p P n value
  pub ends : IsSet laid key (Some (Some p)) new.states
