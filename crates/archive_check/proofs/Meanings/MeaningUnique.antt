-- An accepted buffer denotes one value.
use Rattle.std.proofs.Common.{◌≡◌, ℕ, List, [], ◌∷◌, ◌++◌, Option, Some, None, refl, sym, ap, ap₂, ◌∙◌}
use Rattle.std.specs.FinMap.{get, same_map, nat_cmp-IsAntisymmetric}
use Rattle.std.specs.Cmp.{nat_cmp_total}
use Rattle.archive_check.specs.Shape.{Shape}
use Rattle.archive_check.specs.Value.{Pointer, Value, Values, number, product, case, list, text_value, box, null, shared_value, hole, no_value, value, pointers, all_pointers}
use Rattle.archive_check.specs.Reads.{SchemaTable}
use Rattle.archive_check.specs.Tour.{Entry, Leads, Seen, Region, Tour, tour_end, tour_unique, tour_new, tour_again, Accepted}
use Rattle.archive_check.specs.Denotes.{Meaning, Fills, fills_number, fills_product, fills_case, fills_list, fills_text, fills_box, fills_null, fills_shared_value, fills_unique, fills_shared, FillsAll, fills_no_value, fills_value, IsSharedValue, Denotes}
use Rattle.archive_check.proofs.Tours.ReadingUnique.{reads_one, contents_one_value, pos_one, leads_position, leads_value, Alike, tour_one}

module _ (s : SchemaTable) (bytes : List ℕ) where
  mutual
    pub fills_one : {v w x : Value} → Fills s bytes v w → Fills s bytes v x → w ≡ x
    fills_one fills_number fills_number = refl
    fills_one (fills_product h) (fills_product k) = ap product (fills_all_one h k)
    fills_one (fills_case {tag = tag} h) (fills_case k) = ap (case tag) (fills_all_one h k)
    fills_one (fills_list h) (fills_list k) = ap list (fills_all_one h k)
    fills_one fills_text fills_text = refl
    fills_one (fills_box h) (fills_box k) = ap box (fills_one h k)
    fills_one fills_null fills_null = refl
    fills_one fills_shared_value fills_shared_value = refl
    fills_one (fills_unique {p = p} {t = t} {v = v} a h i) (fills_unique {t = u} {v = w} b k l) =
        let here : u ≡ t = leads_position h k in
        let there : Leads s bytes p t w = rw here at k in
        fills_one i (rw (leads_value h there) at l)
    fills_one (fills_unique a h i) (fills_shared b k) = cc
    fills_one (fills_shared a h) (fills_unique b k l) = cc
    fills_one (fills_shared a h) (fills_shared b k) = ap shared_value (pos_one (sym h ∙ k))

    pub fills_all_one : {v w x : Values} → FillsAll s bytes v w → FillsAll s bytes v x → w ≡ x
    fills_all_one fills_no_value fills_no_value = refl
    fills_all_one (fills_value h hs) (fills_value k ks) = ap₂ value (fills_one h k) (fills_all_one hs ks)

  knows_one : (t : ℕ) (e : Option Entry) (k l : Option (Entry × Value)) → IsSharedValue s bytes t e k → IsSharedValue s bytes t e l → k ≡ l
  knows_one t None k l a b = a ∙ sym b
  knows_one t (Some e) k l (v, w, c, f, p) (x, y, d, g, q) =
      let same = fills_one f (rw (contents_one_value d c) at g) in p ∙ ap (λ u. Some (e, u)) same ∙ sym q

  pub values_one : {root : ℕ} {X : Shape} → (a b : Accepted s bytes root X) → b.value ≡ a.value
  values_one a b = reads_one s bytes b.flat.reads a.flat.reads

  pub tours_one : {root : ℕ} {X : Shape} → (a b : Accepted s bytes root X) → Alike a.regions a.seen b.regions b.seen
  tours_one a b = tour_one s bytes a.tour (rw (values_one a b) at b.tour)

  pub meaning_one : {root : ℕ} {X : Shape} {m n : Meaning} → Denotes s bytes root X m → Denotes s bytes root X n → m ≡ n
  meaning_one {m = m} {n = n} h k =
      let values : m.value ≡ n.value = fills_one h.root_value (rw (values_one h.accepted k.accepted) at k.root_value) in
      let maps : m.shared ≡ n.shared = same_map nat_cmp_total nat_cmp-IsAntisymmetric m.shared n.shared
      (λ t. knows_one t (get h.accepted.seen t) (get m.shared t) (get n.shared t) (h.shared t) (rw ((tours_one h.accepted k.accepted).1) at (k.shared t))) in
      λ i. record { value = values i; shared = maps i }

-- each pointer leads to something that can be filled
abbrev pub Filled : SchemaTable → List ℕ → Value → Type 0
Filled s bytes v = (w : Value) × Fills s bytes v w

abbrev pub AllFilled : SchemaTable → List ℕ → List Pointer → Type 0
AllFilled s bytes [] = Unit {0}
AllFilled s bytes (p ∷ O) = Filled s bytes (hole p) × AllFilled s bytes O

module _ (s : SchemaTable) (bytes : List ℕ) where
  first_filled : (O P : List Pointer) → AllFilled s bytes (O ++ P) → AllFilled s bytes O
  first_filled [] P h = tt
  first_filled (p ∷ O) P h = (h.0, first_filled O P (h.1))

  then_filled : (O P : List Pointer) → AllFilled s bytes (O ++ P) → AllFilled s bytes P
  then_filled [] P h = h
  then_filled (p ∷ O) P h = then_filled O P (h.1)

  mutual
    pub fill : (v : Value) → AllFilled s bytes (pointers v) → Filled s bytes v
    fill (number z) h = (_, fills_number)
    fill (product vs) h = let r = fill_all vs h in (_, fills_product (r.1))
    fill (case tag vs) h = let r = fill_all vs h in (_, fills_case (r.1))
    fill (list vs) h = let r = fill_all vs h in (_, fills_list (r.1))
    fill (text_value text) h = (_, fills_text)
    fill (box v) h = let r = fill v h in (_, fills_box (r.1))
    fill null h = (_, fills_null)
    fill (shared_value t) h = (_, fills_shared_value)
    fill (hole p) h = h.0

    pub fill_all : (vs : Values) → AllFilled s bytes (all_pointers vs) → (ws : Values) × FillsAll s bytes vs ws
    fill_all no_value h = (_, fills_no_value)
    fill_all (value v vs) h =
        let r = fill v (first_filled (pointers v) (all_pointers vs) h) in
        let q = fill_all vs (then_filled (pointers v) (all_pointers vs) h) in
        (_, fills_value (r.1) (q.1))

  -- what a tour follows can be filled
  pub tour_fills : {pending : List ℕ} {seen last : Seen} {O : List Pointer} {C : List Region} → Tour s bytes pending seen O C last → AllFilled s bytes O
  tour_fills tour_end = tt
  tour_fills (tour_unique e h i j) = let r = fill _ (tour_fills i) in ((_, fills_unique e h (r.1)), tour_fills j)
  tour_fills (tour_new e none h i j) = ((_, fills_shared e h.target), tour_fills j)
  tour_fills (tour_again e t known free j) = ((_, fills_shared e t), tour_fills j)

  pub accepted_fills : {root : ℕ} {X : Shape} (a : Accepted s bytes root X) → Filled s bytes a.value
  accepted_fills a = fill a.value (tour_fills a.tour)
