-- What lies one step behind a point of an archive. Where that is told of each point, all that is reached is told.
use Rattle.std.specs.Prelude.{◌≡◌, ℕ, ◌+◌, ◌*◌, ◌<◌, pos, List, length, slice_index, Some, None, All, Contains}
use Rattle.archive_inspect.specs.declared.describe.Piece.{Piece}
use Rattle.archive_inspect.specs.declared.ways.Point.{Point}
use Rattle.archive_inspect.specs.declared.ways.Thing.{Thing}
use Rattle.archive_inspect.specs.declared.ways.pointing.Pointing.{Pointing}
use Rattle.archive_schema.specs.declared.shape.Schema.{Schema as RustSchema}
use Rattle.archive_check.specs.Keys.{order_of}
use Rattle.archive_check.specs.Layout.{up, kind_size, size_of, align_of}
use Rattle.archive_check.specs.Leaves.{PlacedLeaf, number_leaf, text_leaf, leaves_of}
use Rattle.archive_check.specs.Reads.{SchemaTable, bytes_at, i32_at, kind_value, before_end, IsOutOfLine}
use Rattle.archive_check.specs.Shape.{Name, Kind, Key, Flavor, Shape, leaf, parts, choice, array, str, weak, Pointee, one, run, text, Parts, Variants, key_shape, entry_of, variant_at}
use Rattle.archive_check.specs.Tour.{Accepted}
use Rattle.archive_check.specs.Value.{Pointer}
use Rattle.archive_schema.specs.Schemas.{root_of}
use Rattle.archive_inspect.specs.Described.{IsLeafOrText}
use Rattle.archive_inspect.specs.Ways.{WayEnd, a_value, a_payload, a_text, IsPartNumbered, PointsBy}
use Rattle.archive_inspect.specs.Points.{end_of_way, pointer_told, Under, MeansEnd}

-- one of the points lies at q, and is what e means
pub record IsAmong (s : SchemaTable) (points : List Point) (q : ℕ) (e : WayEnd) : Type 0 where
  pub point : Point
  pub among : Contains points point
  pub at : point.at ≡ q
  pub means : MeansEnd s e (end_of_way point.thing)

-- so are all parts that are laid out from an offset on, of what begins at p
abbrev pub PartsAmong : SchemaTable → List Point → ℕ → ℕ → Parts → Type 0
PartsAmong s points p at ps = (k q : ℕ) (Y : Shape) → IsPartNumbered s p at ps k q Y → IsAmong s points q (a_value Y)

-- so are n elements, the first at t
abbrev pub ElementsAmong : SchemaTable → List Point → ℕ → ℕ → Shape → Type 0
ElementsAmong s points t n X = (k : ℕ) → k < n → IsAmong s points (t + k * size_of s.layouts X) (a_value X)

-- so are the key and the value of an entry at q
pub record EntryAmongPoints (s : SchemaTable) (points : List Point) (q : ℕ) (K : Key) (V : Shape) : Type 0 where
  pub key : IsAmong s points q (a_value (key_shape K))
  pub value : IsAmong s points (q + up (size_of s.layouts (key_shape K)) (align_of s.layouts V)) (a_value V)

-- so are those of n entries, the first at t
abbrev pub EntriesAmong : SchemaTable → List Point → ℕ → ℕ → Key → Shape → Type 0
EntriesAmong s points t n K V = (k : ℕ) → k < n → EntryAmongPoints s points (t + k * size_of s.layouts (entry_of K V)) K V

-- so is what a pointer leads to
pub record TargetAmong (s : SchemaTable) (points : List Point) (P : Pointer) : Type 0 where
  pub to_value : (t : ℕ) (X : Shape) → P.target ≡ pos t → P.pointee ≡ one X → IsAmong s points t (a_value X)
  pub to_elements : (t : ℕ) (X : Shape) → P.target ≡ pos t → order_of P ≡ None → P.pointee ≡ run X → ElementsAmong s points t P.length X
  pub to_entries : (t : ℕ) (K : Key) (V : Shape) → P.target ≡ pos t → order_of P ≡ Some K → P.pointee ≡ run (entry_of K V) → EntriesAmong s points t P.length K V
  pub to_text : (t : ℕ) → P.target ≡ pos t → P.pointee ≡ text → IsAmong s points t (a_text P.length)

-- the parts behind the tag at p are among the points, if its choice has these variants
pub record PayloadAmong (bytes : List ℕ) (p : ℕ) (variants : Variants) (points : List Point) : Type 0 where
  pub behind : Parts
  pub tagged : variant_at variants (slice_index bytes p) ≡ Some behind
  pub there : (s : SchemaTable) → IsAmong s points p (a_payload behind)

-- both pointers lead to the same
pub record SameTarget (P Q : Pointer) : Type 0 where
  pub target : P.target ≡ Q.target
  pub pointee : P.pointee ≡ Q.pointee
  pub length : P.length ≡ Q.length
  pub order : order_of P ≡ order_of Q

-- one of the pointers leads to the same
abbrev pub LeadsAlike : List Pointing → Pointer → Type 0
LeadsAlike followed P = (m : Pointing) × Contains followed m × SameTarget (pointer_told m) P

-- the piece lies at p as a leaf or a text, and is what a way there leads to
pub record IsLeafPiece (y : Piece) (p : ℕ) (e : WayEnd) : Type 0 where
  pub position : y.position ≡ p
  pub thing : Thing
  pub is : y.thing ≡ Some thing
  pub same : end_of_way thing ≡ e
  pub content : IsLeafOrText y.content

-- one of the pieces is so
abbrev pub IsToldAt : List Piece → ℕ → WayEnd → Type 0
IsToldAt pieces p e = (y : Piece) × Contains pieces y × IsLeafPiece y p e

-- there is a weak pointer to nothing at a point
pub record IsNullAt (bytes : List ℕ) (a : Point) : Type 0 where
  pub flavor : Flavor
  pub pointee : Pointee
  pub pointer : end_of_way a.thing ≡ a_value (weak flavor pointee)
  pub nothing : i32_at bytes a.at ≡ pos 1

-- A leaf or a text at p is one of the pieces, if it has bytes; and of all else, what one step leads to is among the points.
pub data Opened (s : SchemaTable) (bytes : List ℕ) (pieces : List Piece) (points : List Point) (p : ℕ) : WayEnd → Type 0 where
  opened_leaf : {kind : Kind} → (0 < kind_size kind → IsToldAt pieces p (a_value (leaf kind))) → Opened s bytes pieces points p (a_value (leaf kind))
  opened_text : {n : ℕ} → (0 < n → IsToldAt pieces p (a_text n)) → Opened s bytes pieces points p (a_text n)
  opened_inline : (IsOutOfLine bytes p → ⊥) → IsToldAt pieces p (a_value str) → Opened s bytes pieces points p (a_value str)
  opened_parts : {ps : Parts} → PartsAmong s points p 0 ps → Opened s bytes pieces points p (a_value (parts ps))
  opened_payload : {ps : Parts} → PartsAmong s points p 1 ps → Opened s bytes pieces points p (a_payload ps)
  opened_choice : {name : Name} {variants : Variants} {ps : Parts}
      → variant_at variants (slice_index bytes p) ≡ Some ps
      → IsAmong s points p (a_payload ps)
      → Opened s bytes pieces points p (a_value (choice name variants))
  opened_array : {n : ℕ} {X : Shape} → ElementsAmong s points p n X → Opened s bytes pieces points p (a_value (array n X))
  opened_pointer : {X : Shape} {P : Pointer} → PointsBy bytes p X P → TargetAmong s points P → Opened s bytes pieces points p (a_value X)
  opened_null : {flavor : Flavor} {P : Pointee} → i32_at bytes p ≡ pos 1 → Opened s bytes pieces points p (a_value (weak flavor P))

-- each point is opened
abbrev pub AreOpened : SchemaTable → List ℕ → List Piece → List Point → List Point → Type 0
AreOpened s bytes pieces points = All (λ a. Opened s bytes pieces points a.at (end_of_way a.thing))

-- each pointer that was followed leads to what is among the points
abbrev pub AreFollowed : SchemaTable → List Point → List Pointing → Type 0
AreFollowed s points = All (λ m. TargetAmong s points (pointer_told m))

-- all of these points are among those
abbrev pub AreAmong : List Point → List Point → Type 0
AreAmong xs ys = (x : Point) → Contains xs x → Contains ys x

-- a point is opened, and the pointers that were followed lead to what is among the points
pub record VisitsPoint (s : SchemaTable) (bytes : List ℕ) (pieces : List Piece) (met : List Pointing) (a : Point) (points : List Point) : Type 0 where
  pub opened : Opened s bytes pieces points a.at (end_of_way a.thing)
  pub followed : AreFollowed s points met

-- so it is among any points that have what was found, and what the pointers followed before lead to
abbrev pub Visits : SchemaTable → List ℕ → List Piece → List Pointing → List Pointing → Point → List Point → Type 0
Visits s bytes pieces old new a found = (points : List Point) → AreFollowed s points old → AreAmong found points → VisitsPoint s bytes pieces new a points

-- the text at p is one of the pieces: that of a string, or one that a pointer leads to
pub data IsTextTold (bytes : List ℕ) (pieces : List Piece) (p : ℕ) : List ℕ → Type 0 where
  told_inline : (IsOutOfLine bytes p → ⊥) → IsToldAt pieces p (a_value str) → IsTextTold bytes pieces p (before_end (bytes_at bytes p 8))
  told_text : {n : ℕ} → IsToldAt pieces p (a_text n) → IsTextTold bytes pieces p (bytes_at bytes p n)

-- a leaf of the archive is one of the pieces, if it has bytes
pub data IsLeafTold (bytes : List ℕ) (pieces : List Piece) : PlacedLeaf → Type 0 where
  told_number : {p : ℕ} {kind : Kind}
      → (0 < kind_size kind → IsToldAt pieces p (a_value (leaf kind)))
      → IsLeafTold bytes pieces (number_leaf p kind (kind_value kind (bytes_at bytes p (kind_size kind))))
  told_characters : {p : ℕ} {t : List ℕ} → (0 < length t → IsTextTold bytes pieces p t) → IsLeafTold bytes pieces (text_leaf p t)

-- all leaves of the archive that have bytes are pieces
abbrev pub TellsAll : RustSchema → List ℕ → ℕ → List Piece → Type 0
TellsAll f bytes root pieces = Under f (λ s. (a : Accepted s bytes root (root_of f)) → All (IsLeafTold bytes pieces) (leaves_of a))
