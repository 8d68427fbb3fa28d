-- What is described is reached, and lies byte after byte.
use Rattle.std.proofs.Common.{◌≡◌, ◌≢◌, ◌⊎◌, inl, inr, ⊎_elim, ℕ, ◌+◌, ◌<◌, ◌≤◌, List, [], ◌∷◌, ◌++◌, length, take, sym, ap, ◌∙◌, subst, arith, All, Contains, get_or, Result, Ok, Some, refl}
use Rattle.std.proofs.lemmas.List.{take_more, take_all}
use Rattle.std.proofs.lemmas.List.Elements.{All-contains, All-contains_itself, All-weaker, Contains-append_cases}
use Rattle.archive_inspect.specs.declared.describe.Content.{Content}
use Rattle.archive_inspect.specs.declared.describe.Content.TheVariants.{Unused}
use Rattle.archive_inspect.specs.declared.describe.Piece.{Piece}
use Rattle.archive_inspect.specs.declared.form.Form.{Form}
use Rattle.archive_inspect.specs.declared.route.Route.{Route}
use Rattle.archive_inspect.specs.declared.ways.Point.{Point}
use Rattle.archive_inspect.specs.declared.ways.Thing.{Thing}
use Rattle.archive_schema.specs.declared.shape.Schema.{Schema as RustSchema}
use Rattle.archive_check.specs.declared.format.error.Error.{Error}
use Rattle.archive_check.specs.Archives.{IsArchive, root_in}
use Rattle.archive_check.specs.Definitions.{HasLayout, Knows}
use Rattle.archive_check.specs.Layout.{Layout, kind_size}
use Rattle.archive_check.specs.Leaves.{PlacedLeaf, number_leaf, text_leaf, leaf_size, leaves_of}
use Rattle.archive_check.specs.Reads.{SchemaTable, bytes_at, before_end, kind_value, IsOutOfLine}
use Rattle.archive_check.specs.Shape.{Kind, leaf, str}
use Rattle.archive_check.specs.Tour.{Accepted}
use Rattle.archive_schema.specs.Given.{AnswersWhole, LiesAtEnd}
use Rattle.archive_schema.specs.Schemas.{definitions_in, root_of}
use Rattle.archive_inspect.specs.Points.{end_of_way, Under, LeadsOn, LeadsToPoint}
use Rattle.archive_inspect.specs.Opened.{IsLeafPiece, IsToldAt, IsTextTold, told_inline, told_text, IsLeafTold, told_number, told_characters, TellsAll}
use Rattle.archive_inspect.specs.Ways.{WayEnd, a_value, a_text}
use Rattle.archive_inspect.specs.Described.{IsReached, IsReachedBy, IsContent, content_leaf, content_text, content_inline, content_tag, content_pointer, content_again, content_null, IsPiece, is_part, is_unused, ArePartsOrUnused, IsWholeArchive, Tiles, tiles_more, IsPieceOf, piece_of_number, piece_of_text, IsLeafOrText, TellLeaves, DescribesWhole}
use Rattle.archive_inspect.proofs.LeavesInOrder.{leaves_ascend}
use Rattle.archive_inspect.proofs.LeavesMatched.{tell_in_order}
use Rattle.archive_inspect.proofs.WayParts.{EndStands, way_stands, leaf_among, text_among, inline_among}

-- each of a list is as each of another list is, or is otherwise such
pub all_from : {A : Type 0} (P : A → Type 0) (xs ys : List A) (U : A → Type 0) → ((x : A) → U x → P x) → All P ys → ((x : A) → Contains xs x → Contains ys x ⊎ U x) → All P xs
all_from P xs ys U other all from = All-weaker (Contains xs) P (λ x c. ⊎_elim (All-contains P ys x all) (other x) (from x c)) xs (All-contains_itself xs)

-- a point is reached by a way that goes on where another point is reached
module _ (f : RustSchema) (bytes : List ℕ) (root : ℕ) (way : Route) where
  pub reached_on : (a b : Point) → way.left_out ≢ 0 → IsReached f bytes root a → LeadsOn f bytes a way.steps.items b → IsReachedBy f bytes root way b
  reached_on a b some (before, leads) on = record { before = before; whole = λ e. absurd (some e); leads = on root before leads }

-- one more piece behind the others
pub one_more : (xs : List Piece) (i : ℕ) (x : Piece) (at : ℕ) → i < length xs → x ≡ get_or xs i x → Tiles (take i xs) at → x.position ≡ at → x.size ≢ 0 → Tiles (take (i + 1) xs) (at + x.size)
one_more xs i x at below is tiles begins some =
    subst (λ l. Tiles l (at + x.size)) (ap (λ y. take i xs ++ y ∷ []) is ∙ sym (take_more xs i x below)) (tiles_more (take i xs) x tiles begins (omega (arith, some)))

-- all of them, once each was counted
pub all_tiled : (xs : List Piece) (i at len : ℕ) → Tiles (take i xs) at → length xs ≤ i → at ≡ len → Tiles xs len
all_tiled xs i at len tiles all is = subst (Tiles xs) is (subst (λ l. Tiles l at) (take_all i xs all) tiles)

-- pieces in another order, and those between them, are parts or unused
pub parts_or_unused : (parts ordered between all pieces : List Piece) → ((x : Piece) → Contains ordered x → Contains parts x) → All (λ x. x.content ≡ Unused) between → all ≡ ordered ++ between
    → ((x : Piece) → Contains pieces x → Contains all x) → ArePartsOrUnused parts pieces
parts_or_unused parts ordered between all pieces from unused is back x c =
    let here : Contains (ordered ++ between) x = subst (λ l. Contains l x) is (back x c) in
    ⊎_elim (λ h. inl (from x h)) (λ h. inr (All-contains (λ y. y.content ≡ Unused) between x unused h)) (Contains-append_cases ordered between x here)

-- what a check accepts is an archive
pub accepted_whole : (s : RustSchema) (bytes : List ℕ) (answer : Result (Unit {0}) Error) (u : Unit {0}) → answer ≡ Ok u → AnswersWhole s bytes answer
    → (L : Layout) → HasLayout (definitions_in s) (root_of s) L → IsArchive (definitions_in s) bytes (root_in bytes L) (root_of s)
accepted_whole s bytes answer u is h L known = let here = rw is at (h L known) in here.accepted

unused_no_leaf : {c : Content} → c ≡ Unused → IsLeafOrText c → ⊥
unused_no_leaf {c} e h = subst IsLeafOrText e h

some_thing : {a b : Thing} → Some a ≡ Some b → a ≡ b
some_thing e = cc

-- what a leaf's piece is read as
leaf_read : {f : RustSchema} {bytes : List ℕ} {root p : ℕ} {e : WayEnd} (y : Piece) → IsPiece f bytes root y → IsLeafPiece y p e → Under f (λ s. IsContent s bytes p e y.size y.content)
leaf_read y (is_unused u) h s know = absurd (unused_no_leaf u h.content)
leaf_read {bytes = bytes} {p = p} {e = e} y (is_part x) h s know =
    let thing : h.thing ≡ x.point.thing = some_thing (sym h.is ∙ x.thing) in
    let there : end_of_way x.point.thing ≡ e = ap end_of_way (sym thing) ∙ h.same in
    let at : x.point.at ≡ p = sym x.position ∙ h.position in
    subst (λ q. IsContent s bytes q e y.size y.content) at (subst (λ w. IsContent s bytes x.point.at w y.size y.content) there (x.holds s know))

-- the piece is the leaf
number_piece : {s : SchemaTable} {bytes : List ℕ} {p : ℕ} {kind : Kind} (y : Piece) → y.position ≡ p → IsContent s bytes p (a_value (leaf kind)) y.size y.content → IsLeafOrText y.content
    → IsPieceOf y (number_leaf p kind (kind_value kind (bytes_at bytes p (kind_size kind))))
number_piece {s} {bytes} {p} {kind} y at h is = go h is refl refl
  where
    go : {n : ℕ} {c : Content} → IsContent s bytes p (a_value (leaf kind)) n c → IsLeafOrText c → y.size ≡ n → y.content ≡ c → IsPieceOf y (number_leaf p kind (kind_value kind (bytes_at bytes p (kind_size kind))))
    go (content_leaf r) is size content = piece_of_number at size content r.told
    go (content_pointer by) is size content = absurd is
    go (content_again by shared) is size content = absurd is

string_piece : {s : SchemaTable} {bytes : List ℕ} {p : ℕ} (y : Piece) → y.position ≡ p → (IsOutOfLine bytes p → ⊥) → IsContent s bytes p (a_value str) y.size y.content → IsLeafOrText y.content → IsPieceOf y (text_leaf p (before_end (bytes_at bytes p 8)))
string_piece {s} {bytes} {p} y at here h is = go h is refl
  where
    go : {n : ℕ} {c : Content} → IsContent s bytes p (a_value str) n c → IsLeafOrText c → y.content ≡ c → IsPieceOf y (text_leaf p (before_end (bytes_at bytes p 8)))
    go (content_inline o e) is content = piece_of_text at content e
    go (content_pointer by) is content = absurd is
    go (content_again by shared) is content = absurd is

text_piece : {s : SchemaTable} {bytes : List ℕ} {p n : ℕ} (y : Piece) → y.position ≡ p → IsContent s bytes p (a_text n) y.size y.content → IsPieceOf y (text_leaf p (bytes_at bytes p n))
text_piece {s} {bytes} {p} {n} y at h = go h refl
  where
    go : {m : ℕ} {c : Content} → IsContent s bytes p (a_text n) m c → y.content ≡ c → IsPieceOf y (text_leaf p (bytes_at bytes p n))
    go (content_text e) content = piece_of_text at content e

-- a leaf that is told is one of the pieces
leaf_told : {f : RustSchema} {bytes : List ℕ} {root : ℕ} (pieces : List Piece) → All (IsPiece f bytes root) pieces → (s : SchemaTable) → Knows s (definitions_in f) → (x : PlacedLeaf) → IsLeafTold bytes pieces x
    → 0 < leaf_size x → (y : Piece) × Contains pieces y × IsPieceOf y x
leaf_told {f} {bytes} {root} pieces each s know x h some = go h some
  where
    is_piece : (y : Piece) → Contains pieces y → IsPiece f bytes root y
    is_piece y c = All-contains (IsPiece f bytes root) pieces y each c

    text_of : {p : ℕ} {t : List ℕ} → IsTextTold bytes pieces p t → (y : Piece) × Contains pieces y × IsPieceOf y (text_leaf p t)
    text_of (told_inline o (y, c, l)) = (y, c, string_piece y l.position o (leaf_read y (is_piece y c) l s know) l.content)
    text_of (told_text (y, c, l)) = (y, c, text_piece y l.position (leaf_read y (is_piece y c) l s know))

    number_of : {p : ℕ} {kind : Kind} → IsToldAt pieces p (a_value (leaf kind)) → (y : Piece) × Contains pieces y × IsPieceOf y (number_leaf p kind (kind_value kind (bytes_at bytes p (kind_size kind))))
    number_of (y, c, l) = (y, c, number_piece y l.position (leaf_read y (is_piece y c) l s know) l.content)

    go : {x : PlacedLeaf} → IsLeafTold bytes pieces x → 0 < leaf_size x → (y : Piece) × Contains pieces y × IsPieceOf y x
    go (told_number told) some = number_of (told some)
    go (told_characters told) some = text_of (told some)

-- a piece that is a leaf or a text is one of the leaves
module _ (f : RustSchema) (bytes : List ℕ) (root : ℕ) (s : SchemaTable) (know : Knows s (definitions_in f)) (a : Accepted s bytes root (root_of f)) where
  piece_among : (y : Piece) → IsPiece f bytes root y → IsLeafOrText y.content → (x : PlacedLeaf) × Contains (leaves_of a) x × IsPieceOf y x
  piece_among y (is_unused u) is = absurd (unused_no_leaf u is)
  piece_among y (is_part h) is = go (way_stands s bytes root (root_of f) a (h.reached.leads s know)) (h.holds s know) is h.position refl refl
    where
      go : {p n : ℕ} {e : WayEnd} {c : Content} → EndStands s bytes root (root_of f) a p e → IsContent s bytes p e n c → IsLeafOrText c → y.position ≡ p → y.size ≡ n → y.content ≡ c
          → (x : PlacedLeaf) × Contains (leaves_of a) x × IsPieceOf y x
      go stands (content_leaf r) is at size content = (_, leaf_among s bytes root (root_of f) a stands, piece_of_number at size content r.told)
      go stands (content_text e) is at size content = (_, text_among s bytes root (root_of f) a stands, piece_of_text at content e)
      go stands (content_inline o e) is at size content = (_, inline_among s bytes root (root_of f) a o stands, piece_of_text at content e)
      go stands (content_tag v) is at size content = absurd is
      go stands (content_pointer by) is at size content = absurd is
      go stands (content_again by shared) is at size content = absurd is
      go stands (content_null e) is at size content = absurd is

-- An archive with its parts in order, and what is unused between, is described, if all leaves are told.
pub described_whole : (f : Form) (bytes : List ℕ) (root : ℕ) (parts pieces : List Piece) → IsWholeArchive f bytes → LiesAtEnd f.schema (length bytes) root → All (IsPiece f.schema bytes root) parts → ArePartsOrUnused parts pieces
    → Tiles pieces (length bytes) → TellsAll f.schema bytes root pieces → DescribesWhole f bytes pieces
described_whole f bytes root parts pieces whole lies all from tiles told L known =
    let each : All (IsPiece f.schema bytes root) pieces = all_from (IsPiece f.schema bytes root) pieces parts (λ x. x.content ≡ Unused) (λ x u. is_unused u) all from in
    record {
      archive = whole L known;
      each = subst (λ r. All (IsPiece f.schema bytes r) pieces) (lies L known) each;
      tiled = tiles;
      leaves = subst (λ r. Under f.schema (λ s. (a : Accepted s bytes r (root_of f.schema)) → TellLeaves pieces (leaves_of a))) (lies L known)
          (λ s know a. tell_in_order pieces (length bytes) (leaves_of a) 0 (length bytes) tiles (leaves_ascend s know.laid_out bytes a)
          (λ y c is. piece_among f.schema bytes root s know a y (All-contains (IsPiece f.schema bytes root) pieces y each c) is)
          (λ x c some. leaf_told pieces each s know x (All-contains (IsLeafTold bytes pieces) (leaves_of a) x (told s know a) c) some));
    }

-- a root to which no step leads is reached
pub root_reached : (f : RustSchema) (bytes : List ℕ) (root : ℕ) (a : Point) → LeadsToPoint f bytes root [] a → IsReached f bytes root a
root_reached f bytes root a h = ([], h)

-- what a way with steps left out leads to is reached by all of its steps
pub reached_whole : (f : RustSchema) (bytes : List ℕ) (root : ℕ) (way : Route) (a : Point) → IsReachedBy f bytes root way a → IsReached f bytes root a
reached_whole f bytes root way a h = (h.before ++ way.steps.items, h.leads)
