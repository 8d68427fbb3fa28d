-- A map in a recursive type: the region of its entries, which were serialized before, and the map that is made of its entries, which were read back.
use Rattle.std.specs.Prelude.{ℕ, ◌+◌, Bool, List, length}
use Rattle.archive_check.specs.Definitions.{Definitions}
use Rattle.archive_check.specs.Denotes.{Naming}
use Rattle.archive_check.specs.Entries.{ReadsBack}
use Rattle.archive_check.specs.Pooled.{Entries}
use Rattle.archive_check.specs.Readable.{target_from}
use Rattle.archive_check.specs.Reads.{u32_at}
use Rattle.archive_check.specs.Shape.{Key, Shape, no_part, one, part, parts, run, sorted_map}
use Rattle.archive_check.specs.Value.{Value, Values, list, no_value, product, value}
use Rattle.archive_check.specs.Words.Formats.{FormatOf}
use Rattle.archive_check.specs.WriterState.{WriterState}
use Rattle.archive_check.specs.declared.format.error.Error.{Error}
use Rattle.archive_check.specs.declared.format.traits.Keys as Keys
use Rattle.archive_types.specs.Causes.{IsRefused}
use Rattle.archive_types.specs.Plans.{Serialized}
use Rattle.archive_types.specs.Runs.{SerializedRun, each_flat, each_keys, each_meaning}
use Rattle.archive_types.specs.Writing.{map_flat}
use Rattle.archive_types.specs.declared.traits.Archive as Archive
use Rattle.archive_write.specs.Written.{GoesOn}
use denote.Triple.Both.{Both}
use denote.Ref.{MutBor}

-- What a pair of an X and a V looks like.
abbrev pub pair_shape : Shape → Shape → Shape
pair_shape X V = parts (part X (part V no_part))

-- What is read in the place of a pair, by the resolvers of its parts, and which are its own.
abbrev pub pair_flat : {A B Q R : Type 0} → (A → Q → Value) → (B → R → Value) → A × B → Q × (R × Unit {0}) → Value
pair_flat f g e r = product (value (f e.0 r.0) (value (g e.1 r.1.0) no_value))

abbrev pub PairBelongs : {A B Q R : Type 0} → (A → Q → Type 0) → (B → R → Type 0) → A × B → Q × (R × Unit {0}) → Type 0
PairBelongs b c e r = b e.0 r.0 × (c e.1 r.1.0 × Unit {0})

-- From wherever what n entries own was serialized, up to here: now they stand at t, and a map of them is serialized, too; and why it isn't. An entry is an X.
pub record IsMapped (D : Definitions) (X : Shape) (K : Key) (V : Shape) (n : ℕ) (keys : List Naming) (vs flats : Values) (t : ℕ) (mid new : WriterState) : Type 0 where
  pub since : (old : WriterState) → GoesOn old mid → SerializedRun D X n keys vs flats old mid → Serialized D (sorted_map K V) keys (list vs) (map_flat K V n t) old new

pub record IsNotMapped (D : Definitions) (X : Shape) (K : Key) (V : Shape) (n : ℕ) (keys : List Naming) (vs flats : Values) (mid new : WriterState) (e : Error) : Type 0 where
  pub since : (old : WriterState) → GoesOn old mid → SerializedRun D X n keys vs flats old mid → IsRefused D (sorted_map K V) keys (list vs) old new e

abbrev pub InnerMapped : {T A R M C S : Type 0} → Archive.Ghosts T A R C M → FormatOf M → Key → Shape → List T → List R → Keys.Ghosts S → Both (MutBor S) (MutBor S) → ℕ → Type 0
InnerMapped a f K V xs rs k w t = IsMapped f.definitions f.shape K V (length xs) (each_keys a.keys xs) (each_meaning a.meaning xs) (each_flat a.flat xs rs) t (k.state w.entry.now) (k.state w.exit.now)

abbrev pub MappingRefused : {T A R M C S : Type 0} → Archive.Ghosts T A R C M → FormatOf M → Key → Shape → List T → List R → Keys.Ghosts S → Both (MutBor S) (MutBor S) → Error → Type 0
MappingRefused a f K V xs rs k w e = IsNotMapped f.definitions f.shape K V (length xs) (each_keys a.keys xs) (each_meaning a.meaning xs) (each_flat a.flat xs rs) (k.state w.entry.now) (k.state w.exit.now) e

-- Where the entries were read back as pairs that mean vs, the map was as a map whose pairs mean ws.
pub record IsReadMap (D : Definitions) (bytes : List ℕ) (q n : ℕ) (X V : Shape) (K : Key) (vs ws : Values) (ks ls : List Naming) : Type 0 where
  pub since : (keeps : Bool) (old new : Entries) → ReadsBack keeps D bytes (target_from bytes q q) (run (pair_shape X V)) (u32_at bytes (q + 4)) old new (list vs) ks
      → ReadsBack keeps D bytes q (one (sorted_map K V)) n old new (list ws) ls
