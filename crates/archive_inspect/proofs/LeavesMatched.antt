-- Pieces in order of position tell leaves in order of position one by one, where each of either is one of the other.
use Rattle.std.proofs.Common.{◌≡◌, ◌⊎◌, inl, inr, ⊎_elim, ℕ, ◌+◌, ◌<◌, ◌≤◌, List, [], ◌∷◌, ◌++◌, All, Contains, sym, subst, ◌∙◌, arith}
use Rattle.std.proofs.lemmas.Bool.{cases_lt}
use Rattle.std.proofs.lemmas.List.Elements.{All-nil, All-head, All-tail, All-push, All-weaker}
use Rattle.archive_inspect.specs.declared.describe.Content.{Content}
use Rattle.archive_inspect.specs.declared.describe.Content.TheVariants.{Leaf as LeafContent, Text as TextContent, Tag as TagContent, Pointer as PointerContent, Again as AgainContent, Null as NullContent, Unused}
use Rattle.archive_inspect.specs.declared.describe.Piece.{Piece}
use Rattle.archive_check.specs.Leaves.{PlacedLeaf, leaf_begin, leaf_size}
use Rattle.archive_check.proofs.Elements.{contains_cases, contains_first, contains_later}
use Rattle.archive_inspect.specs.Described.{Tiles, tiles_none, tiles_more, IsPieceOf, piece_of_number, piece_of_text, IsLeafOrText, TellLeaves, tell_none, tell_leaf, tell_other, tell_empty}
use Rattle.archive_inspect.proofs.LeavesInOrder.{Ascend}

-- the pieces lie at greater and greater positions, from one on
abbrev pub Climb : ℕ → List Piece → Type 0
Climb start [] = Unit {0}
Climb start (y ∷ ys) = (start ≤ y.position) × Climb (y.position + 1) ys

-- each lies before a position
abbrev Before : ℕ → List Piece → Type 0
Before stop = All (λ y. y.position < stop)

climb_push : (start : ℕ) (ys : List Piece) (y : Piece) → Climb start ys → Before y.position ys → start ≤ y.position → Climb start (ys ++ y ∷ [])
climb_push start [] y h before low = (low, tt)
climb_push start (z ∷ ys) y h before low =
    (h.0, climb_push (z.position + 1) ys y (h.1) (All-tail (λ x. x.position < y.position) z ys before) (omega (arith, All-head (λ x. x.position < y.position) z ys before)))

tiles_climb : {ys : List Piece} {at : ℕ} → Tiles ys at → Climb 0 ys × Before at ys
tiles_climb tiles_none = (tt, All-nil (λ y. y.position < 0))
tiles_climb (tiles_more xs x {at = at} tiles is some) =
    let (h, before) = tiles_climb tiles in (
      climb_push 0 xs x h (All-weaker (λ y. y.position < at) (λ y. y.position < x.position) (λ y l. omega (arith, l, is)) xs before) (omega arith),
      All-push (λ y. y.position < at + x.size) xs x (All-weaker (λ y. y.position < at) (λ y. y.position < at + x.size) (λ y l. omega (arith, l)) xs before) (omega (arith, is, some)),
    )

-- what is among them lies there
climb_has : (start : ℕ) (ys : List Piece) (y : Piece) → Climb start ys → Contains ys y → start ≤ y.position
climb_has start [] y h (k, below, e) = absurd (omega arith)
climb_has start (z ∷ ys) y h c =
    ⊎_elim (λ (e : z ≡ y). subst (λ x. start ≤ x.position) e (h.0)) (λ d. omega (arith, h.0, climb_has (z.position + 1) ys y (h.1) d)) (contains_cases z ys y c)

ascend_has : (start : ℕ) (xs : List PlacedLeaf) (stop : ℕ) (x : PlacedLeaf) → Ascend start xs stop → Contains xs x → start ≤ leaf_begin x
ascend_has start [] stop x h (k, below, e) = absurd (omega arith)
ascend_has start (z ∷ xs) stop x h c =
    ⊎_elim
    (λ (e : z ≡ x). subst (λ y. start ≤ leaf_begin y) e (h.0))
    (λ d. omega (arith, h.0, ascend_has (leaf_begin z + leaf_size z) xs stop x (h.1) d))
    (contains_cases z xs x c)

-- a piece of a leaf lies where the leaf does, is one, and tells how many bytes the leaf has
piece_at : {y : Piece} {x : PlacedLeaf} → IsPieceOf y x → y.position ≡ leaf_begin x
piece_at (piece_of_number at size content told) = at
piece_at (piece_of_text at content is) = at

piece_leaf : {y : Piece} {x : PlacedLeaf} → IsPieceOf y x → IsLeafOrText y.content
piece_leaf (piece_of_number at size content told) = subst IsLeafOrText (sym content) tt
piece_leaf (piece_of_text at content is) = subst IsLeafOrText (sym content) tt

piece_size : {y : Piece} {x z : PlacedLeaf} → IsPieceOf y x → IsPieceOf y z → leaf_size x ≡ leaf_size z
piece_size (piece_of_number at size content told) (piece_of_number there takes has says) = sym size ∙ takes
piece_size (piece_of_number at size content told) (piece_of_text there has is) = cc
piece_size (piece_of_text at content is) (piece_of_number there takes has says) = cc
piece_size (piece_of_text at content is) (piece_of_text there has says) = cc

leaf_or_other : (c : Content) → IsLeafOrText c ⊎ (IsLeafOrText c → ⊥)
leaf_or_other (LeafContent l) = inl tt
leaf_or_other (TextContent t) = inl tt
leaf_or_other (TagContent n name) = inr (λ h. h)
leaf_or_other (PointerContent r) = inr (λ h. h)
leaf_or_other (AgainContent r) = inr (λ h. h)
leaf_or_other NullContent = inr (λ h. h)
leaf_or_other Unused = inr (λ h. h)

-- each piece that is a leaf or a text is one of the leaves
abbrev pub AreLeaves : List Piece → List PlacedLeaf → Type 0
AreLeaves ys xs = (y : Piece) → Contains ys y → IsLeafOrText y.content → (x : PlacedLeaf) × Contains xs x × IsPieceOf y x

-- each leaf that has bytes is one of the pieces
abbrev pub ArePieces : List PlacedLeaf → List Piece → Type 0
ArePieces xs ys = (x : PlacedLeaf) → Contains xs x → 0 < leaf_size x → (y : Piece) × Contains ys y × IsPieceOf y x

-- the first piece is no leaf
other_first : (y : Piece) (ys : List Piece) (xs : List PlacedLeaf) → (IsLeafOrText y.content → ⊥) → ArePieces xs (y ∷ ys) → ArePieces xs ys
other_first y ys xs other told x c some =
    let (z, d, i) = told x c some in
    ⊎_elim (λ (e : y ≡ z). absurd (other (subst (λ p. IsLeafOrText p.content) (sym e) (piece_leaf i)))) (λ d. (z, d, i)) (contains_cases y ys z d)

module _ (y : Piece) (ys : List Piece) (x : PlacedLeaf) (xs : List PlacedLeaf) (n m stop : ℕ) (climb : Climb n (y ∷ ys)) (ascend : Ascend m (x ∷ xs) stop) where
  -- the first piece is the first leaf
  both_pieces : IsPieceOf y x → ArePieces (x ∷ xs) (y ∷ ys) → ArePieces xs ys
  both_pieces i told z c some =
      let (w, d, j) = told z (contains_later x xs z c) some in
      ⊎_elim
      (λ (e : y ≡ w).
      let here : IsPieceOf y z = subst (λ p. IsPieceOf p z) (sym e) j in
      absurd (omega (arith, some, piece_size i here, piece_at i, piece_at here, ascend_has (leaf_begin x + leaf_size x) xs stop z (ascend.1) c)))
      (λ d. (w, d, j))
      (contains_cases y ys w d)

  both_leaves : IsPieceOf y x → AreLeaves (y ∷ ys) (x ∷ xs) → AreLeaves ys xs
  both_leaves i leaves w c is =
      let (z, d, j) = leaves w (contains_later y ys w c) is in
      ⊎_elim
      (λ (e : x ≡ z). absurd (omega (arith, piece_at i, piece_at (subst (IsPieceOf w) (sym e) j), climb_has (y.position + 1) ys w (climb.1) c)))
      (λ d. (z, d, j))
      (contains_cases x xs z d)

  -- the first piece is a later leaf: the first one has no bytes
  later_empty : (z : PlacedLeaf) → Contains xs z → IsPieceOf y z → ArePieces (x ∷ xs) (y ∷ ys) → leaf_size x ≡ 0
  later_empty z c i told = ⊎_elim (λ less. omega (arith, less)) (λ more. absurd (impossible (told x (contains_first xs x) (omega (arith, more))) (omega (arith, more)))) (cases_lt (leaf_size x) 1)
    where
      impossible : (w : Piece) × Contains (y ∷ ys) w × IsPieceOf w x → 0 < leaf_size x → ⊥
      impossible (w, d, j) some =
          let low : y.position ≤ w.position = climb_has y.position (y ∷ ys) w (omega arith, climb.1) d in
          omega (arith, some, low, piece_at i, piece_at j, ascend_has (leaf_begin x + leaf_size x) xs stop z (ascend.1) c)

  later_leaves : (z : PlacedLeaf) → Contains xs z → IsPieceOf y z → AreLeaves (y ∷ ys) (x ∷ xs) → AreLeaves (y ∷ ys) xs
  later_leaves z c i leaves w d is =
      ⊎_elim (λ (e : y ≡ w). (z, c, subst (λ p. IsPieceOf p z) e i)) (λ later. other later (leaves w d is)) (contains_cases y ys w d)
    where
      other : Contains ys w → (v : PlacedLeaf) × Contains (x ∷ xs) v × IsPieceOf w v → (v : PlacedLeaf) × Contains xs v × IsPieceOf w v
      other later (v, h, j) =
          ⊎_elim
          (λ (e : x ≡ v). absurd (omega (arith, piece_at i, piece_at (subst (IsPieceOf w) (sym e) j), climb_has (y.position + 1) ys w (climb.1) later, ascend_has (leaf_begin x + leaf_size x) xs stop z (ascend.1) c)))
          (λ h. (v, h, j))
          (contains_cases x xs v h)

nothing_has : {A : Type 0} {x : A} → Contains [] x → ⊥
nothing_has (k, below, e) = omega arith

-- no piece is left
no_piece : (xs : List PlacedLeaf) → ArePieces xs [] → TellLeaves [] xs
no_piece [] told = tell_none
no_piece (x ∷ xs) told =
    ⊎_elim
    (λ less. tell_empty (omega (arith, less)) (no_piece xs (λ z c some. told z (contains_later x xs z c) some)))
    (λ more. absurd (nothing_has ((told x (contains_first xs x) (omega (arith, more))).1)))
    (cases_lt (leaf_size x) 1)

-- so many of the leaves are told by the first piece and the others, if the others tell what is left
module _ (y : Piece) (ys : List Piece) (n stop : ℕ) (climb : Climb n (y ∷ ys)) (others : (xs : List PlacedLeaf) (m : ℕ) → Ascend m xs stop → AreLeaves ys xs → ArePieces xs ys → TellLeaves ys xs) where
  from_leaf : (xs : List PlacedLeaf) (m : ℕ) → Ascend m xs stop → AreLeaves (y ∷ ys) xs → ArePieces xs (y ∷ ys) → (x : PlacedLeaf) → Contains xs x → IsPieceOf y x → TellLeaves (y ∷ ys) xs
  from_leaf [] m ascend leaves told z c i = absurd (nothing_has c)
  from_leaf (x ∷ xs) m ascend leaves told z c i =
      ⊎_elim
      (λ (e : x ≡ z).
      let here : IsPieceOf y x = subst (IsPieceOf y) (sym e) i in
      tell_leaf here (others xs (leaf_begin x + leaf_size x) (ascend.1) (both_leaves y ys x xs n m stop climb ascend here leaves) (both_pieces y ys x xs n m stop climb ascend here told)))
      (λ d.
      tell_empty (later_empty y ys x xs n m stop climb ascend z d i told)
      (from_leaf xs (leaf_begin x + leaf_size x) (ascend.1) (later_leaves y ys x xs n m stop climb ascend z d i leaves) (λ v h some. told v (contains_later x xs v h) some) z d i))
      (contains_cases x xs z c)

  from_first : (xs : List PlacedLeaf) (m : ℕ) → Ascend m xs stop → AreLeaves (y ∷ ys) xs → ArePieces xs (y ∷ ys) → TellLeaves (y ∷ ys) xs
  from_first xs m ascend leaves told =
      ⊎_elim
      (λ is. let (x, c, i) = leaves y (contains_first ys y) is in from_leaf xs m ascend leaves told x c i)
      (λ other. tell_other other (others xs m ascend (λ z c is. leaves z (contains_later y ys z c) is) (other_first y ys xs other told)))
      (leaf_or_other y.content)

matched : (ys : List Piece) (n stop : ℕ) → Climb n ys → (xs : List PlacedLeaf) (m : ℕ) → Ascend m xs stop → AreLeaves ys xs → ArePieces xs ys → TellLeaves ys xs
matched [] n stop climb xs m ascend leaves told = no_piece xs told
matched (y ∷ ys) n stop climb xs m ascend leaves told = from_first y ys n stop climb (matched ys (y.position + 1) stop (climb.1)) xs m ascend leaves told

-- pieces that lie byte after byte tell leaves that do, if each of either is one of the other
pub tell_in_order : (ys : List Piece) (at : ℕ) (xs : List PlacedLeaf) (start stop : ℕ) → Tiles ys at → Ascend start xs stop → AreLeaves ys xs → ArePieces xs ys → TellLeaves ys xs
tell_in_order ys at xs start stop tiles ascend leaves told = matched ys 0 stop (tiles_climb tiles).0 xs start ascend leaves told
