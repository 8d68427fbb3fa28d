-- What the search for leaves finds one step behind a point.
use Rattle.std.proofs.Common.{◌≡◌, ◌⊎◌, inl, inr, ⊎_elim, ℕ, suc, ◌+◌, ◌*◌, ◌<◌, ◌≤◌, pos, List, [], ◌∷◌, ◌++◌, length, Option, Some, None, cond, is_some, Bool, true, false, Contains, refl, sym, ap, subst, ◌∙◌, arith, Result, IfOk, IfSome}
use Rattle.std.proofs.lemmas.Bool.{cases_lt}
use Rattle.std.proofs.lemmas.List.{append-nil}
use Rattle.std.proofs.lemmas.Option.{IfSome_then}
use Rattle.std.proofs.lemmas.Result.{IfOk-weaker}
use Rattle.std.proofs.lemmas.List.Elements.{All-nil, All-push, All-weaker, All-contains, Contains-append_left, Contains-append_right, Contains-append_cases, Contains-push, Contains-push_cases}
use Rattle.archive_inspect.specs.declared.describe.Piece.{Piece}
use Rattle.archive_inspect.specs.declared.ways.Point.{Point}
use Rattle.archive_inspect.specs.declared.ways.entries.EntryPlaces.{EntryPlaces}
use Rattle.archive_inspect.specs.declared.ways.pointing.Pointing.{Pointing}
use Rattle.archive_schema.specs.declared.shape.Schema.{Schema as RustSchema}
use Rattle.archive_check.specs.declared.format.expr.Expr.{Expr}
use Rattle.archive_check.specs.Expressions.{shapes_in}
use Rattle.archive_check.specs.Keys.{order_of}
use Rattle.archive_check.specs.Layout.{up, kind_size, size_of, align_of}
use Rattle.archive_check.specs.Reads.{SchemaTable, IsOutOfLine, map_at, u32_at}
use Rattle.archive_check.specs.Shape.{Name, Kind, Key, Shape, leaf, parts, choice, array, sorted_map, str, one, run, text, Parts, no_part, part, Variants, key_shape, entry_of}
use Rattle.archive_check.specs.Value.{Pointer}
use Rattle.archive_schema.specs.Schemas.{root_of}
use Rattle.archive_check.proofs.Tours.ReadingUnique.{pos_one}
use Rattle.archive_inspect.specs.Ways.{WayEnd, a_value, a_payload, a_text, IsPartNumbered, numbered_first, numbered_later, points_map}
use Rattle.archive_inspect.specs.Points.{end_of_way, pointer_told, Under, MeansEnd, means_so, MeansThere, PartAmong, ElementAmong, EntryAmong, PointsFrom, points_from}
use Rattle.archive_inspect.specs.Opened.{IsAmong, PartsAmong, ElementsAmong, EntriesAmong, PayloadAmong, TargetAmong, SameTarget, LeadsAlike, IsToldAt, IsNullAt, Opened, opened_leaf, opened_text, opened_inline, opened_null, opened_parts, opened_payload, opened_choice, opened_array, opened_pointer, AreOpened, AreFollowed, AreAmong, Visits, TellsAll}
use Rattle.archive_inspect.proofs.Opened.{among_more, target_more, opened_more, all_told}

-- a number below the next one is below this one, or is it
pub below_next : (k n : ℕ) → k < n + 1 → (k < n) ⊎ (k ≡ n)
below_next k n h = ⊎_elim (λ less. inl less) (λ more. inr (omega arith)) (cases_lt k n)

-- where a part of a number lies, and what it is, is told once
pub numbered_one : {s : SchemaTable} {p at k q r : ℕ} {ps : Parts} {Y Z : Shape} → IsPartNumbered s p at ps k q Y → IsPartNumbered s p at ps k r Z → (q ≡ r) × (Y ≡ Z)
numbered_one numbered_first numbered_first = (refl, refl)
numbered_one (numbered_later i) (numbered_later j) = numbered_one i j

-- so many parts
abbrev count_of : Parts → ℕ
count_of no_part = 0
count_of (part X ps) = suc (count_of ps)

numbered_below : {s : SchemaTable} {p at k q : ℕ} {ps : Parts} {Y : Shape} → IsPartNumbered s p at ps k q Y → k < count_of ps
numbered_below (numbered_first {X = X} {ps = ps}) = omega arith
numbered_below (numbered_later i) = omega (arith, numbered_below i)

count_is : (xs : List Expr) → count_of (shapes_in xs) ≡ length xs
count_is [] = refl
count_is (x ∷ xs) = omega (arith, count_is xs)

pub numbered_few : {s : SchemaTable} {p at k q : ℕ} {Y : Shape} (xs : List Expr) → IsPartNumbered s p at (shapes_in xs) k q Y → k < length xs
numbered_few xs i = omega (arith, numbered_below i, count_is xs)

-- all of some points are among them and others
pub among_left : (xs ys : List Point) → AreAmong xs (xs ++ ys)
among_left xs ys x c = Contains-append_left xs ys x c

module _ (f : RustSchema) where
  -- what a point means is among points
  pub meant_among : (xs : List Point) (b x : Point) → Contains xs x → x.at ≡ b.at → MeansThere f b.thing x.thing → {e : WayEnd} → end_of_way b.thing ≡ e → Under f (λ s. IsAmong s xs b.at e)
  meant_among xs b x c same means is s know = record { point = x; among = c; at = same; means = subst (λ e. MeansEnd s e (end_of_way x.thing)) is (means s know) }

  -- the parts that were found, so many
  abbrev pub PartsFound : ℕ → ℕ → Parts → List Point → ℕ → Type 0
  PartsFound p start ps xs n = Under f (λ s. (k q : ℕ) (Y : Shape) → k < n → IsPartNumbered s p start ps k q Y → IsAmong s xs q (a_value Y))

  pub parts_none : (p start : ℕ) (ps : Parts) (xs : List Point) → PartsFound p start ps xs 0
  parts_none p start ps xs s know k q Y below = absurd (omega arith)

  pub parts_more : (p start : ℕ) (ps : Parts) (xs : List Point) (n : ℕ) (b x : Point) → PartsFound p start ps xs n → PartAmong f p start ps n b → x.at ≡ b.at → MeansThere f b.thing x.thing → PartsFound p start ps (xs ++ x ∷ []) (n + 1)
  parts_more p start ps xs n b x found there same means s know k q Y below i =
      ⊎_elim
      (λ less. among_more s xs (xs ++ x ∷ []) (among_left xs (x ∷ [])) (found s know k q Y less i))
      (λ is.
      let here : IsPartNumbered s p start ps n q Y = subst (λ m. IsPartNumbered s p start ps m q Y) is i in
      let both = numbered_one (there.numbered s know) here in
      let at : IsAmong s (xs ++ x ∷ []) b.at (a_value there.shape) = meant_among (xs ++ x ∷ []) b x (Contains-push xs x) same means there.value s know in
      subst (λ r. IsAmong s (xs ++ x ∷ []) r (a_value Y)) (both.0) (subst (λ Z. IsAmong s (xs ++ x ∷ []) b.at (a_value Z)) (both.1) at))
      (below_next k n below)

  pub parts_whole : (p start : ℕ) (ys : List Expr) (xs : List Point) (n : ℕ) → PartsFound p start (shapes_in ys) xs n → length ys ≤ n → Under f (λ s. PartsAmong s xs p start (shapes_in ys))
  parts_whole p start ys xs n found all s know k q Y i = found s know k q Y (omega (arith, numbered_few ys i)) i

  -- the elements that were found
  abbrev pub ElementsFound : Shape → ℕ → List Point → ℕ → Type 0
  ElementsFound X t xs n = Under f (λ s. (k : ℕ) → k < n → IsAmong s xs (t + k * size_of s.layouts X) (a_value X))

  pub elements_none : (X : Shape) (t : ℕ) (xs : List Point) → ElementsFound X t xs 0
  elements_none X t xs s know k below = absurd (omega arith)

  pub elements_more : (X : Shape) (t count : ℕ) (xs : List Point) (n : ℕ) (b x : Point) → ElementsFound X t xs n → ElementAmong f X t count n b → x.at ≡ b.at → MeansThere f b.thing x.thing → ElementsFound X t (xs ++ x ∷ []) (n + 1)
  elements_more X t count xs n b x found there same means s know k below =
      ⊎_elim
      (λ less. among_more s xs (xs ++ x ∷ []) (among_left xs (x ∷ [])) (found s know k less))
      (λ is.
      let at : IsAmong s (xs ++ x ∷ []) b.at (a_value X) = meant_among (xs ++ x ∷ []) b x (Contains-push xs x) same means there.value s know in
      let lies : b.at ≡ t + k * size_of s.layouts X = there.lies s know ∙ ap (λ m. t + m * size_of s.layouts X) (sym is) in
      subst (λ r. IsAmong s (xs ++ x ∷ []) r (a_value X)) lies at)
      (below_next k n below)

  -- of those without bytes one is enough
  pub elements_whole : (X : Shape) (t count : ℕ) (xs : List Point) (n size : ℕ) → Under f (λ s. size_of s.layouts X ≡ size) → ElementsFound X t xs n → (size ≡ 0 → 0 < count → 0 < n) → ((size ≡ 0 → ⊥) → count ≤ n)
      → Under f (λ s. ElementsAmong s xs t count X)
  elements_whole X t count xs n size takes found some all s know k below =
      ⊎_elim
      (λ less.
      let none : size ≡ 0 = omega arith in
      let first : IsAmong s xs (t + 0 * size_of s.layouts X) (a_value X) = found s know 0 (some none (omega arith)) in
      let z : size_of s.layouts X ≡ 0 = takes s know ∙ none in
      let there : t + 0 * size_of s.layouts X ≡ t + k * size_of s.layouts X = ap (λ m. t + 0 * m) z ∙ at_start t k ∙ ap (λ m. t + k * m) (sym z) in
      subst (λ r. IsAmong s xs r (a_value X)) there first)
      (λ more. found s know k (omega (arith, all (λ e. absurd (omega arith)))))
      (cases_lt size 1)
    where
      at_start : (t k : ℕ) → t + 0 * 0 ≡ t + k * 0
      at_start t k = omega arith

  -- the entries that were found
  abbrev pub EntriesFound : List ℕ → ℕ → Key → Shape → List Point → ℕ → Type 0
  EntriesFound bytes p K V xs n = Under f (λ s. (t : ℕ) → (map_at bytes p K V).target ≡ pos t → EntriesAmong s xs t n K V)

  pub entries_none : (bytes : List ℕ) (p : ℕ) (K : Key) (V : Shape) (xs : List Point) → EntriesFound bytes p K V xs 0
  entries_none bytes p K V xs s know t there k below = absurd (omega arith)

  pub entries_more : (bytes : List ℕ) (p : ℕ) (K : Key) (V : Shape) (xs : List Point) (n : ℕ) (e : EntryPlaces) (a b x : Point) → EntriesFound bytes p K V xs n → EntryAmong f bytes p K V n e
      → a.at ≡ e.key → end_of_way a.thing ≡ a_value (key_shape K) → b.at ≡ e.value → end_of_way b.thing ≡ a_value V → x.at ≡ b.at → MeansThere f b.thing x.thing
      → EntriesFound bytes p K V ((xs ++ a ∷ []) ++ x ∷ []) (n + 1)
  entries_more bytes p K V xs n e a b x found there key is_key value is_value same means s know t leads k below =
      let all : List Point = (xs ++ a ∷ []) ++ x ∷ [] in
      let from : AreAmong xs all = λ y c. Contains-append_left (xs ++ a ∷ []) (x ∷ []) y (Contains-append_left xs (a ∷ []) y c) in
      let z : ℕ = size_of s.layouts (entry_of K V) in
      let o : ℕ = up (size_of s.layouts (key_shape K)) (align_of s.layouts V) in
      ⊎_elim
      (λ less. let h = found s know t leads k less in record { key = among_more s xs all from h.key; value = among_more s xs all from h.value })
      (λ is.
      let here : t ≡ there.target = pos_one (sym leads ∙ there.leads) in
      let begins : t + k * z ≡ there.target + n * z = ap (λ m. m + k * z) here ∙ ap (λ m. there.target + m * z) is in
      let key_there : a.at ≡ t + k * z = key ∙ there.key s know ∙ sym begins in
      let value_there : b.at ≡ t + k * z + o = value ∙ there.value s know ∙ ap (λ m. m + o) (sym begins) in
      record {
        key = record { point = a; among = Contains-append_left (xs ++ a ∷ []) (x ∷ []) a (Contains-push xs a); at = key_there; means = subst (λ w. MeansEnd s w (end_of_way a.thing)) is_key means_so };
        value = subst (λ r. IsAmong s all r (a_value V)) value_there (meant_among all b x (Contains-push (xs ++ a ∷ []) x) same means is_value s know);
      })
      (below_next k n below)

one_same : {X Y : Shape} → one X ≡ one Y → X ≡ Y
one_same e = cc

run_same : {X Y : Shape} → run X ≡ run Y → X ≡ Y
run_same e = cc

one_no_run : {X Y : Shape} → one X ≡ run Y → ⊥
one_no_run e = cc

one_no_text : {X : Shape} → one X ≡ text → ⊥
one_no_text e = cc

run_no_text : {X : Shape} → run X ≡ text → ⊥
run_no_text e = cc

some_none : {K : Key} → Some K ≡ None → ⊥
some_none e = cc

some_same : {K L : Key} → Some K ≡ Some L → K ≡ L
some_same e = cc

entry_same : (K : Key) (V W : Shape) → entry_of K V ≡ entry_of K W → V ≡ W
entry_same K V W e = cc

-- a pointer that asks for no order asks for none, however it is shared
pub no_order : (P : Pointer) → P.order ≡ None → order_of P ≡ None
no_order P e = go (is_some P.sharing) P.order e
  where
    go : (b : Bool) (o : Option Key) → o ≡ None → cond b None o ≡ None
    go true o e = refl
    go false o e = e

module _ (f : RustSchema) (xs : List Point) (P : Pointer) (place : ℕ) (at : P.target ≡ pos place) where
  pub value_target : (X : Shape) → P.pointee ≡ one X → Under f (λ s. IsAmong s xs place (a_value X)) → Under f (λ s. TargetAmong s xs P)
  value_target X is h s know = record {
    to_value = λ t Y there same.
        subst (λ q. IsAmong s xs q (a_value Y)) (pos_one (sym at ∙ there)) (subst (λ Z. IsAmong s xs place (a_value Z)) (one_same (sym is ∙ same)) (h s know));
    to_elements = λ t Y there free same. absurd (one_no_run (sym is ∙ same));
    to_entries = λ t K V there keyed same. absurd (one_no_run (sym is ∙ same));
    to_text = λ t there same. absurd (one_no_text (sym is ∙ same));
  }

  pub elements_target : (X : Shape) → P.pointee ≡ run X → order_of P ≡ None → Under f (λ s. ElementsAmong s xs place P.length X) → Under f (λ s. TargetAmong s xs P)
  elements_target X is free h s know = record {
    to_value = λ t Y there same. absurd (one_no_run (sym same ∙ is));
    to_elements = λ t Y there none same.
        subst (λ q. ElementsAmong s xs q P.length Y) (pos_one (sym at ∙ there)) (subst (λ Z. ElementsAmong s xs place P.length Z) (run_same (sym is ∙ same)) (h s know));
    to_entries = λ t K V there keyed same. absurd (some_none (sym keyed ∙ free));
    to_text = λ t there same. absurd (run_no_text (sym is ∙ same));
  }

  pub text_target : P.pointee ≡ text → Under f (λ s. IsAmong s xs place (a_text P.length)) → Under f (λ s. TargetAmong s xs P)
  text_target is h s know = record {
    to_value = λ t Y there same. absurd (one_no_text (sym same ∙ is));
    to_elements = λ t Y there free same. absurd (run_no_text (sym same ∙ is));
    to_entries = λ t K V there keyed same. absurd (run_no_text (sym same ∙ is));
    to_text = λ t there same. subst (λ q. IsAmong s xs q (a_text P.length)) (pos_one (sym at ∙ there)) (h s know);
  }

-- a map leads to its entries
map_target : (s : SchemaTable) (bytes : List ℕ) (xs : List Point) (p : ℕ) (K : Key) (V : Shape) → ((t : ℕ) → (map_at bytes p K V).target ≡ pos t → EntriesAmong s xs t (u32_at bytes (p + 4)) K V) → TargetAmong s xs (map_at bytes p K V)
map_target s bytes xs p K V h = record {
  to_value = λ t Y there same. absurd (one_no_run (sym same));
  to_elements = λ t Y there free same. absurd (some_none free);
  to_entries = λ t L W there keyed same. entries t L W there (some_same keyed) (run_same same);
  to_text = λ t there same. absurd (run_no_text same);
}
  where
    entries : (t : ℕ) (L : Key) (W : Shape) → (map_at bytes p K V).target ≡ pos t → K ≡ L → entry_of K V ≡ entry_of L W → EntriesAmong s xs t (u32_at bytes (p + 4)) L W
    entries t L W there key same =
        let now : entry_of L V ≡ entry_of L W = subst (λ M. entry_of M V ≡ entry_of L W) key same in
        subst (λ U. EntriesAmong s xs t (u32_at bytes (p + 4)) L U) (entry_same L V W now) (subst (λ M. EntriesAmong s xs t (u32_at bytes (p + 4)) M V) key (h t there))

-- a leaf, a text and a null are opened, though nothing is found there
module _ (bytes : List ℕ) (pieces : List Piece) (a : Point) (s : SchemaTable) where
  pub leaf_empty : {kind : Kind} → end_of_way a.thing ≡ a_value (leaf kind) → kind_size kind ≡ 0 → Opened s bytes pieces [] a.at (end_of_way a.thing)
  leaf_empty {kind} e none = rw e (opened_leaf {kind = kind} (λ some. absurd (omega (arith, some, none))))

  pub leaf_there : {kind : Kind} → end_of_way a.thing ≡ a_value (leaf kind) → IsToldAt pieces a.at (end_of_way a.thing) → Opened s bytes pieces [] a.at (end_of_way a.thing)
  leaf_there e told = let here = subst (IsToldAt pieces a.at) e told in rw e (opened_leaf (λ some. here))

  pub text_empty : {n : ℕ} → end_of_way a.thing ≡ a_text n → n ≡ 0 → Opened s bytes pieces [] a.at (end_of_way a.thing)
  text_empty {n} e none = rw e (opened_text {n = n} (λ some. absurd (omega (arith, some, none))))

  pub text_there : {n : ℕ} → end_of_way a.thing ≡ a_text n → IsToldAt pieces a.at (end_of_way a.thing) → Opened s bytes pieces [] a.at (end_of_way a.thing)
  text_there e told = let here = subst (IsToldAt pieces a.at) e told in rw e (opened_text (λ some. here))

  pub string_there : end_of_way a.thing ≡ a_value str → (IsOutOfLine bytes a.at → ⊥) → IsToldAt pieces a.at (end_of_way a.thing) → Opened s bytes pieces [] a.at (end_of_way a.thing)
  string_there e inline told = let here = subst (IsToldAt pieces a.at) e told in rw e (opened_inline inline here)

  pub null_there : IsNullAt bytes a → Opened s bytes pieces [] a.at (end_of_way a.thing)
  null_there h = rw h.pointer (opened_null h.nothing)

module _ (f : RustSchema) (bytes : List ℕ) (pieces : List Piece) where
  -- what is found at a point of a kind opens it
  module _ (a : Point) (xs : List Point) where
    pub opens_record : {ps : Parts} → end_of_way a.thing ≡ a_value (parts ps) → Under f (λ s. PartsAmong s xs a.at 0 ps) → Under f (λ s. Opened s bytes pieces xs a.at (end_of_way a.thing))
    opens_record e h s know = rw e (opened_parts (h s know))

    pub opens_payload : {ps : Parts} → end_of_way a.thing ≡ a_payload ps → Under f (λ s. PartsAmong s xs a.at 1 ps) → Under f (λ s. Opened s bytes pieces xs a.at (end_of_way a.thing))
    opens_payload e h s know = rw e (opened_payload (h s know))

    pub opens_choice : {name : Name} {variants : Variants} → end_of_way a.thing ≡ a_value (choice name variants) → PayloadAmong bytes a.at variants xs → Under f (λ s. Opened s bytes pieces xs a.at (end_of_way a.thing))
    opens_choice e h s know = rw e (opened_choice h.tagged (h.there s))

    pub opens_array : {n : ℕ} {X : Shape} → end_of_way a.thing ≡ a_value (array n X) → Under f (λ s. ElementsAmong s xs a.at n X) → Under f (λ s. Opened s bytes pieces xs a.at (end_of_way a.thing))
    opens_array e h s know = rw e (opened_array (h s know))

    pub opens_map : {K : Key} {V : Shape} → end_of_way a.thing ≡ a_value (sorted_map K V)
        → Under f (λ s. (t : ℕ) → (map_at bytes a.at K V).target ≡ pos t → EntriesAmong s xs t (u32_at bytes (a.at + 4)) K V) → Under f (λ s. Opened s bytes pieces xs a.at (end_of_way a.thing))
    opens_map {K} {V} e h s know = rw e (opened_pointer points_map (map_target s bytes xs a.at K V (h s know)))

    pub opens_pointer : {P : Pointer} → PointsFrom bytes a P → Under f (λ s. TargetAmong s xs P) → Under f (λ s. Opened s bytes pieces xs a.at (end_of_way a.thing))
    opens_pointer (points_from e h) target s know = rw e (opened_pointer h (target s know))

  opens_at : {s : SchemaTable} {points : List Point} (a : Point) {P : Pointer} → PointsFrom bytes a P → TargetAmong s points P → Opened s bytes pieces points a.at (end_of_way a.thing)
  opens_at a (points_from e h) target = rw e (opened_pointer h target)

  -- pointers that lead to the same lead to what is among the same points
  same_target : (s : SchemaTable) (points : List Point) (P Q : Pointer) → SameTarget P Q → TargetAmong s points P → TargetAmong s points Q
  same_target s points P Q same h = record {
    to_value = λ t X there is. h.to_value t X (same.target ∙ there) (same.pointee ∙ is);
    to_elements = λ t X there free is. subst (λ n. ElementsAmong s points t n X) same.length (h.to_elements t X (same.target ∙ there) (same.order ∙ free) (same.pointee ∙ is));
    to_entries = λ t K V there keyed is. subst (λ n. EntriesAmong s points t n K V) same.length (h.to_entries t K V (same.target ∙ there) (same.order ∙ keyed) (same.pointee ∙ is));
    to_text = λ t there is. subst (λ n. IsAmong s points t (a_text n)) same.length (h.to_text t (same.target ∙ there) (same.pointee ∙ is));
  }

  -- a point is visited: it is opened; or it is a pointer, and leads to what one leads to that was followed, or is followed now
  module _ (old : List Pointing) (a : Point) where
    pub visits_opened : (found : List Point) → Under f (λ s. Opened s bytes pieces found a.at (end_of_way a.thing)) → Under f (λ s. Visits s bytes pieces old old a found)
    visits_opened found h s know points followed among = record { opened = opened_more s found points among bytes pieces (h s know); followed = followed }

    pub visits_again : (P : Pointer) → PointsFrom bytes a P → LeadsAlike old P → (found : List Point) → Under f (λ s. Visits s bytes pieces old old a found)
    visits_again P from (m, c, same) found s know points followed among =
        let target = same_target s points (pointer_told m) P same (All-contains (λ n. TargetAmong s points (pointer_told n)) old m followed c) in
        record { opened = opens_at a from target; followed = followed }

    pub visits_next : (p : Pointing) → PointsFrom bytes a (pointer_told p) → (found : List Point) → Under f (λ s. TargetAmong s found (pointer_told p)) → (new : List Pointing) → new ≡ old ++ p ∷ [] → Under f (λ s. Visits s bytes pieces old new a found)
    visits_next p from found target new is s know points followed among =
        let there = target_more s found points among (target s know) in
        record {
          opened = opened_more s found points among bytes pieces (opens_pointer a found from target s know);
          followed = subst (AreFollowed s points) (sym is) (All-push (λ n. TargetAmong s points (pointer_told n)) old p followed there);
        }

  -- a search: the root is among what was found; what was looked at is opened
  pub record Searching (s : SchemaTable) (root : ℕ) (X : Shape) (pending points : List Point) (met : List Pointing) : Type 0 where
    pub begins : IsAmong s (points ++ pending) root (a_value X)
    pub opened : AreOpened s bytes pieces (points ++ pending) points
    pub followed : AreFollowed s (points ++ pending) met

  abbrev pub Searches : ℕ → List Point → List Point → List Pointing → Type 0
  Searches root pending points followed = Under f (λ s. Searching s root (root_of f) pending points followed)

  pub search_begins : (root : ℕ) (x : Point) → x.at ≡ root → Under f (λ s. MeansEnd s (a_value (root_of f)) (end_of_way x.thing)) → Searches root (x ∷ []) [] []
  search_begins root x at means s know = record {
    begins = record { point = x; among = Contains-push [] x; at = at; means = means s know };
    opened = All-nil (λ a. Opened s bytes pieces (x ∷ []) a.at (end_of_way a.thing));
    followed = All-nil (λ m. TargetAmong s (x ∷ []) (pointer_told m));
  }

  -- what was found stays so, where the last point is looked at
  stays : (points rest found : List Point) (a : Point) → AreAmong (points ++ (rest ++ a ∷ [])) ((points ++ a ∷ []) ++ (rest ++ found))
  stays points rest found a x c =
      ⊎_elim
      (λ here. Contains-append_left (points ++ a ∷ []) (rest ++ found) x (Contains-append_left points (a ∷ []) x here))
      (λ there.
      ⊎_elim
      (λ other. Contains-append_right (points ++ a ∷ []) (rest ++ found) x (Contains-append_left rest found x other))
      (λ same. Contains-append_left (points ++ a ∷ []) (rest ++ found) x (subst (Contains (points ++ a ∷ [])) same (Contains-push points a)))
      (Contains-push_cases rest a x there))
      (Contains-append_cases points (rest ++ a ∷ []) x c)

  search_next : (root : ℕ) (rest points found : List Point) (a : Point) (old new : List Pointing) → Searches root (rest ++ a ∷ []) points old → Under f (λ s. Visits s bytes pieces old new a found) → Searches root (rest ++ found) (points ++ a ∷ []) new
  search_next root rest points found a old new h visits s know =
      let before : List Point = points ++ (rest ++ a ∷ []) in
      let after : List Point = (points ++ a ∷ []) ++ (rest ++ found) in
      let more : AreAmong before after = stays points rest found a in
      let old_followed : AreFollowed s after old = All-weaker (λ m. TargetAmong s before (pointer_told m)) (λ m. TargetAmong s after (pointer_told m)) (λ m t. target_more s before after more t) old (h s know).followed in
      let found_there : AreAmong found after = λ x c. Contains-append_right (points ++ a ∷ []) (rest ++ found) x (Contains-append_right rest found x c) in
      let v = visits s know after old_followed found_there in
      record {
        begins = among_more s before after more (h s know).begins;
        opened = All-push (λ b. Opened s bytes pieces after b.at (end_of_way b.thing)) points a
            (All-weaker (λ b. Opened s bytes pieces before b.at (end_of_way b.thing)) (λ b. Opened s bytes pieces after b.at (end_of_way b.thing)) (λ b o. opened_more s before after more bytes pieces o) points (h s know).opened) v.opened;
        followed = v.followed;
      }

  pub search_goes_on : (root : ℕ) (pending rest points found next looked : List Point) (a : Point) (old new : List Pointing) → Searches root pending points old → pending ≡ rest ++ a ∷ [] → Under f (λ s. Visits s bytes pieces old new a found)
      → next ≡ rest ++ found → looked ≡ points ++ a ∷ [] → Searches root next looked new
  search_goes_on root pending rest points found next looked a old new h is visits there looks =
      let now = search_next root rest points found a old new (subst (λ l. Searches root l points old) is h) visits in
      subst (λ l. Searches root l looked new) (sym there) (subst (λ l. Searches root (rest ++ found) l new) (sym looks) now)

  pub search_ends : (root : ℕ) (pending points : List Point) (followed : List Pointing) → Searches root pending points followed → pending ≡ [] → TellsAll f bytes root pieces
  search_ends root pending points followed h none s know a =
      let same : points ++ pending ≡ points = ap (λ l. points ++ l) none ∙ append-nil points in
      let now = h s know in
      all_told s bytes pieces points (subst (λ l. AreOpened s bytes pieces l points) same now.opened) a (subst (λ l. IsAmong s l root (a_value (root_of f))) same now.begins)

-- what is found is told of what was found
pub found_then : {A E : Type 0} (r : Result (Option A) E) {P Q : A → Type 0} → IfOk r (λ o. IfSome o P) → ((x : A) → P x → Q x) → IfOk r (λ o. IfSome o Q)
found_then r {P} {Q} h f = IfOk-weaker r (λ o. IfSome o P) (λ o. IfSome o Q) (λ o k. IfSome_then o k f) h
