-- What is told of an archive: what lies where, byte after byte.
use Rattle.std.specs.Prelude.{◌≡◌, ◌⊎◌, ℕ, ℤ, ◌+◌, ◌<◌, pos, List, [], ◌∷◌, ◌++◌, length, slice_index, Some, All, Contains}
use Rattle.std.specs.Borrow.{Bor}
use Rattle.archive_inspect.specs.declared.describe.Content.{Content}
use Rattle.archive_inspect.specs.declared.describe.Content.TheVariants.{Leaf as LeafContent, Text as TextContent, Tag as TagContent, Pointer as PointerContent, Again as AgainContent, Null as NullContent, Unused}
use Rattle.archive_inspect.specs.declared.describe.Piece.{Piece}
use Rattle.archive_inspect.specs.declared.form.Form.{Form}
use Rattle.archive_inspect.specs.declared.route.Route.{Route}
use Rattle.archive_inspect.specs.declared.route.RouteStep.{RouteStep}
use Rattle.archive_inspect.specs.declared.walk.Count.{Count}
use Rattle.archive_inspect.specs.declared.walk.Count.TheVariants.{One as OneCount, Elements as ElementsCount, Text as TextCount}
use Rattle.archive_inspect.specs.declared.walk.Region.{Region}
use Rattle.archive_inspect.specs.declared.walk.leaves.Leaf.{Leaf}
use Rattle.archive_inspect.specs.declared.ways.Point.{Point}
use Rattle.archive_schema.specs.declared.shape.Schema.{Schema as RustSchema}
use Rattle.archive_check.specs.Archives.{IsArchive, root_in}
use Rattle.archive_check.specs.Definitions.{HasLayout}
use Rattle.archive_check.specs.Layout.{Layout, kind_size, size_of}
use Rattle.archive_check.specs.Leaves.{PlacedLeaf, number_leaf, text_leaf, leaf_size, leaves_of}
use Rattle.archive_check.specs.Reads.{SchemaTable, bytes_at, i32_at, IsOutOfLine, before_end}
use Rattle.archive_check.specs.Shape.{Name, Kind, Flavor, Shape, leaf, choice, str, weak, Pointee, one, run, text, Parts, Variants, variant_at}
use Rattle.archive_check.specs.Tour.{Accepted}
use Rattle.archive_check.specs.Value.{Pointer}
use Rattle.archive_schema.specs.Schemas.{root_of, definitions_in}
use Rattle.archive_inspect.specs.Leaves.{told_number, IsLeafRead}
use Rattle.archive_inspect.specs.Ways.{WayEnd, a_value, a_text, PointsBy}
use Rattle.archive_inspect.specs.Points.{end_of_way, unit_layout, Under, LeadsToPoint}

-- what is told to lie in the region of a pointer: one value, or n elements or bytes
abbrev pub told_count : Pointee → ℕ → Count
told_count (one X) n = OneCount
told_count (run X) n = ElementsCount n
told_count text n = TextCount n

-- the region as it is told: where it begins, what each element takes, and how many there are
abbrev pub told_region : SchemaTable → Pointer → Region
told_region s P = record {
  position = P.target;
  size = pos (unit_layout s P.pointee).size;
  align = pos (unit_layout s P.pointee).align;
  count = told_count P.pointee P.length;
}

-- In these bytes of what a way leads to, from p on, lies the content. The name in a tag is for people.
pub data IsContent (s : SchemaTable) (bytes : List ℕ) (p : ℕ) : WayEnd → ℕ → Content → Type 0 where
  content_leaf : {kind : Kind} {l : Leaf}
      → IsLeafRead kind bytes p l
      → IsContent s bytes p (a_value (leaf kind)) (kind_size kind) (LeafContent l)
  content_text : {n : ℕ} {t : Bor (List ℕ)}
      → t.now ≡ bytes_at bytes p n
      → IsContent s bytes p (a_text n) n (TextContent t)
  content_inline : {t : Bor (List ℕ)}
      → (IsOutOfLine bytes p → ⊥)
      → t.now ≡ before_end (bytes_at bytes p 8)
      → IsContent s bytes p (a_value str) 8 (TextContent t)
  content_tag : {shown : Bor Name} {name : Name} {variants : Variants} {ps : Parts}
      → variant_at variants (slice_index bytes p) ≡ Some ps
      → IsContent s bytes p (a_value (choice name variants)) 1 (TagContent (slice_index bytes p) shown)
  content_pointer : {X : Shape} {P : Pointer}
      → PointsBy bytes p X P
      → IsContent s bytes p (a_value X) (size_of s.layouts X) (PointerContent (told_region s P))
  -- a shared pointer, to what another one leads to as well
  content_again : {X : Shape} {P : Pointer} {flavor : Flavor}
      → PointsBy bytes p X P
      → P.sharing ≡ Some flavor
      → IsContent s bytes p (a_value X) (size_of s.layouts X) (AgainContent (told_region s P))
  content_null : {flavor : Flavor} {P : Pointee}
      → i32_at bytes p ≡ pos 1
      → IsContent s bytes p (a_value (weak flavor P)) (size_of s.layouts (weak flavor P)) NullContent

-- at a point lies the content, in n bytes
abbrev pub HasContent : RustSchema → List ℕ → Point → ℕ → Content → Type 0
HasContent f bytes a size content = Under f (λ s. IsContent s bytes a.at (end_of_way a.thing) size content)

-- a value at a point takes n bytes
abbrev pub TakesSize : RustSchema → Point → ℕ → Type 0
TakesSize f a size = Under f (λ s. (X : Shape) → end_of_way a.thing ≡ a_value X → size ≡ size_of s.layouts X)

-- some way leads to the point
abbrev pub IsReached : RustSchema → List ℕ → ℕ → Point → Type 0
IsReached f bytes root a = (steps : List RouteStep) × LeadsToPoint f bytes root steps a

-- the way leads to the point, behind its steps that are left out
pub record IsReachedBy (f : RustSchema) (bytes : List ℕ) (root : ℕ) (way : Route) (a : Point) : Type 0 where
  pub before : List RouteStep
  pub whole : way.left_out ≡ 0 → before ≡ []
  pub leads : LeadsToPoint f bytes root (before ++ way.steps.items) a

-- The piece is a part of the archive: its way leads from the root to what lies in it, and the content is what is read there.
pub record IsArchivePart (f : RustSchema) (bytes : List ℕ) (root : ℕ) (x : Piece) : Type 0 where
  pub point : Point
  pub reached : IsReachedBy f bytes root x.way point
  pub position : x.position ≡ point.at
  pub thing : x.thing ≡ Some point.thing
  pub holds : HasContent f bytes point x.size x.content

-- the piece is a part of the archive, or told as unused
pub data IsPiece (f : RustSchema) (bytes : List ℕ) (root : ℕ) (x : Piece) : Type 0 where
  is_part : IsArchivePart f bytes root x → IsPiece f bytes root x
  is_unused : x.content ≡ Unused → IsPiece f bytes root x

-- the pieces lie one behind another from the first byte up to a position, and none is empty
pub data Tiles : List Piece → ℕ → Type 0 where
  tiles_none : Tiles [] 0
  tiles_more : (xs : List Piece) (x : Piece) {at : ℕ} → Tiles xs at → x.position ≡ at → 0 < x.size → Tiles (xs ++ x ∷ []) (at + x.size)

-- each piece is one of the parts, or told as unused
abbrev pub ArePartsOrUnused : List Piece → List Piece → Type 0
ArePartsOrUnused parts pieces = (x : Piece) → Contains pieces x → Contains parts x ⊎ (x.content ≡ Unused)

-- a piece is this leaf: it lies there, and has its value
pub data IsPieceOf (y : Piece) : PlacedLeaf → Type 0 where
  piece_of_number : {p : ℕ} {kind : Kind} {z : ℤ} {l : Leaf}
      → y.position ≡ p
      → y.size ≡ kind_size kind
      → y.content ≡ LeafContent l
      → told_number l ≡ z
      → IsPieceOf y (number_leaf p kind z)
  piece_of_text : {p : ℕ} {u : List ℕ} {t : Bor (List ℕ)}
      → y.position ≡ p
      → y.content ≡ TextContent t
      → t.now ≡ u
      → IsPieceOf y (text_leaf p u)

-- the content is a leaf or a text
abbrev pub IsLeafOrText : Content → Type 0
IsLeafOrText (LeafContent l) = Unit {0}
IsLeafOrText (TextContent t) = Unit {0}
IsLeafOrText _ = ⊥

-- The pieces tell the leaves, each once, in the same order: each piece that is a leaf or a text is one of them, and each of them that has bytes is a
-- piece.
pub data TellLeaves : List Piece → List PlacedLeaf → Type 0 where
  tell_none : TellLeaves [] []
  tell_leaf : {y : Piece} {x : PlacedLeaf} {ys : List Piece} {xs : List PlacedLeaf} → IsPieceOf y x → TellLeaves ys xs → TellLeaves (y ∷ ys) (x ∷ xs)
  tell_other : {y : Piece} {ys : List Piece} {xs : List PlacedLeaf} → (IsLeafOrText y.content → ⊥) → TellLeaves ys xs → TellLeaves (y ∷ ys) xs
  tell_empty : {x : PlacedLeaf} {ys : List Piece} {xs : List PlacedLeaf} → leaf_size x ≡ 0 → TellLeaves ys xs → TellLeaves ys (x ∷ xs)

-- What is described is an archive. Each piece is a part of it or unused, each byte lies in one of them, and those that are leaves are its leaves, in
-- the order of its tour.
pub record DescribesArchive (f : RustSchema) (bytes : List ℕ) (root : ℕ) (pieces : List Piece) : Type 0 where
  pub archive : IsArchive (definitions_in f) bytes root (root_of f)
  pub each : All (IsPiece f bytes root) pieces
  pub tiled : Tiles pieces (length bytes)
  pub leaves : Under f (λ s. (a : Accepted s bytes root (root_of f)) → TellLeaves pieces (leaves_of a))

-- the buffer is an archive of the form, its root at the end
abbrev pub IsWholeArchive : Form → List ℕ → Type 0
IsWholeArchive f bytes =
    (L : Layout) → HasLayout (definitions_in f.schema) (root_of f.schema) L → IsArchive (definitions_in f.schema) bytes (root_in bytes L) (root_of f.schema)

-- what is described of a whole buffer by a form
abbrev pub DescribesWhole : Form → List ℕ → List Piece → Type 0
DescribesWhole f bytes pieces = (L : Layout) → HasLayout (definitions_in f.schema) (root_of f.schema) L → DescribesArchive f.schema bytes (root_in bytes L) pieces
