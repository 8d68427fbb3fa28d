-- What seals come to has no byte of a key.
use Rattle.std.proofs.Common.{◌≡◌, inl, inr, ⊎_elim, ℕ, zero, suc, ◌+◌, ◌*◌, ◌<◌, ◌≤◌, List, [], ◌∷◌, ◌++◌, length, max, Option, Some, None, Bool, true, false, cond, Contains, refl, sym, ap, ◌∙◌, subst, arith}
use Rattle.std.proofs.Math.Nat.{mul-le-mul_right}
use Rattle.std.proofs.lemmas.Bool.{cases_lt}
use Rattle.std.proofs.lemmas.List.{append-nil}
use Rattle.std.proofs.lemmas.List.Elements.{All-contains, Contains-append_left, Contains-append_right, Contains-push}
use Rattle.archive_check.specs.Shape.{Key, leaf_key, str_key, Shape, sorted_map, str, Pointee, one, run, text, key_shape, entry_of}
use Rattle.archive_check.specs.Layout.{up, size_of, align_of}
use Rattle.archive_check.specs.Value.{Pointer, Value, hole, pointers}
use Rattle.archive_check.specs.Reads.{SchemaTable, LaidOut, bytes_at, u32_at, before_end, decoded_length, IsOutOfLine, map_at, string_at, Reads, reads_map, reads_inline, reads_out_of_line}
use Rattle.archive_check.specs.Readable.{position, target_from}
use Rattle.archive_check.specs.Keys.{order_of, IsInOrder, in_any_order, in_key_order}
use Rattle.archive_check.specs.Tour.{Region, region_at, region_of, root_region, pointee_size, Contents, contents_one, contents_run, Seen, Tour, tour_end, tour_unique, tour_new, tour_again, Accepted}
use Rattle.archive_check.specs.Within.{Within, PartOfRegion, whole_region, in_one, in_run, in_string}
use Rattle.archive_check.specs.Leaves.{PlacedLeaf, leaf_begin, leaf_size, Beside, IsBesideKey, AreBesideKeys, IsBesideKeysOf, IsFreeOn, IsFree}
use Rattle.archive_check.specs.ComesTo.{ComesTo, to_root, to_part, to_element, to_text, to_target, to_value}
use Rattle.archive_check.proofs.Elements.{contains_first, contains_later}
use Rattle.archive_check.proofs.Tours.ReadingUnique.{contents_one_value, pos_one}
use Rattle.archive_check.proofs.Tours.JoinedTours.{rising_front, rising_back}
use Rattle.archive_check.proofs.Tours.PartsInside.{within_inside, up_le, positive}
use Rattle.archive_check.proofs.Tours.RegionsApart.{before_end_le, bytes_few}
use Rattle.archive_check.proofs.Meanings.ReachedParts.{part_of_reads, part_within, part_element}
use Rattle.archive_check.proofs.Maps.Entries.{value_at}
use Rattle.archive_check.proofs.Maps.FreeRegions.{marks, first_mark, later_marks, AllMarked, none_marked, EntryMarked, entries_marked, Free, free_of, keys_of, Parted, parted_none, region_parted, tour_parted}
use Rattle.archive_check.proofs.Maps.FreeClosed.{IsText, Any, marks_texts, marked_none, text_leads, LeadsFree, LeadsKey, free_regions, key_regions, accepted_closed}

module _ (s : SchemaTable) (laid : LaidOut s) (bytes : List ℕ) where
  -- a part lies in its region
  part_inside : {r : Region} {q : ℕ} {P : Pointee} {n : ℕ} → PartOfRegion s bytes r q P n → r.size ≡ pointee_size s r.pointee r.length → (r.begin ≤ q) × (q + pointee_size s P n ≤ r.begin + r.size)
  part_inside whole_region e = (omega arith, omega (arith, e))
  part_inside {r = r} (in_one {X = X} is w) e = let i = within_inside s laid w in let size = ap (λ P. pointee_size s P r.length) is in (i.0, omega (arith, i.1, e, size))
  part_inside {r = r} (in_run {k = k} {X = X} is below w) e =
      let i = within_inside s laid w in let size = ap (λ P. pointee_size s P r.length) is in
      let more : (k + 1) * size_of s.layouts X ≤ r.length * size_of s.layouts X = mul-le-mul_right (size_of s.layouts X) (omega arith) in
      (omega (arith, i.0), omega (arith, i.1, e, size, more))
  part_inside (in_string {q = q} i inline) e = let h = part_inside i e in (h.0, omega (arith, h.1, before_end_le (bytes_at bytes q 8), bytes_few bytes q 8))

  -- where the value of an entry stands, as a region of its own
  abbrev value_region : Key → Shape → ℕ → ℕ → Region
  value_region K V t k = region_at s (t + k * size_of s.layouts (entry_of K V) + up (size_of s.layouts (key_shape K)) (align_of s.layouts V)) (one V) 0 false

  -- an entry has room for its key, and for its value behind it
  entry_spans : (K : Key) (V : Shape) → (size_of s.layouts (key_shape K) ≤ up (size_of s.layouts (key_shape K)) (align_of s.layouts V)) × (up (size_of s.layouts (key_shape K)) (align_of s.layouts V) + size_of s.layouts V ≤ size_of s.layouts (entry_of K V))
  entry_spans K V =
      let next = value_at s.layouts K V in
      (up_le (size_of s.layouts (key_shape K)) (align_of s.layouts V) (positive s laid V), omega (arith, next, entry_ends K V))
    where
      entry_ends : (K : Key) (V : Shape) → up (up 0 (align_of s.layouts (key_shape K)) + size_of s.layouts (key_shape K)) (align_of s.layouts V) + size_of s.layouts V ≤ size_of s.layouts (entry_of K V)
      entry_ends K V = up_le (up (up 0 (align_of s.layouts (key_shape K)) + size_of s.layouts (key_shape K)) (align_of s.layouts V) + size_of s.layouts V) (max (align_of s.layouts (key_shape K)) (max (align_of s.layouts V) 1)) (omega arith)

  -- it lies in a region that no key leads to; or, of the entries of a map, in a value
  data FreePart (F : List Free) (q : ℕ) (P : Pointee) (n : ℕ) : Type 0 where
    in_region : {f : Free} → Contains F f → f.1 ≡ None → PartOfRegion s bytes (f.0) q P n → FreePart F q P n
    in_entry : {f : Free} {K : Key} {V : Shape} {k : ℕ} → Contains F f → f.1 ≡ Some K → (f.0).pointee ≡ run (entry_of K V) → k < (f.0).length → PartOfRegion s bytes (value_region K V (f.0).begin k) q P n → FreePart F q P n

  part_step : {F : List Free} {q n r : ℕ} {Y Z : Shape} → FreePart F q (one Y) n → Within s bytes q Y r Z → FreePart F r (one Z) 0
  part_step (in_region c o i) w = in_region c o (part_within s bytes i refl w)
  part_step (in_entry c o e below i) w = in_entry c o e below (part_within s bytes i refl w)

  element_step : {F : List Free} {q n k : ℕ} {Y : Shape} → FreePart F q (run Y) n → k < n → FreePart F (q + k * size_of s.layouts Y) (one Y) 0
  element_step (in_region c o i) lt = in_region c o (part_element s bytes i refl lt)
  element_step (in_entry c o e below i) lt = in_entry c o e below (part_element s bytes i refl lt)

  text_step : {F : List Free} {q n : ℕ} → FreePart F q (one str) n → (IsOutOfLine bytes q → ⊥) → FreePart F q text (length (before_end (bytes_at bytes q 8)))
  text_step (in_region c o i) inline = in_region c o (in_string i inline)
  text_step (in_entry c o e below i) inline = in_entry c o e below (in_string i inline)

  -- an entry of a map, whose pointers are marked
  entry_says : (Q P : Pointer → Type 0) (K : Key) (V : Shape) {t n : ℕ} {v : Value} → Contents s bytes t (run (entry_of K V)) n v → AllMarked Q P (marks (Some K) v) (pointers v) → (k : ℕ) → k < n → EntryMarked s bytes Q P K V (t + k * size_of s.layouts (entry_of K V))
  entry_says Q P K V {t = t} (contents_run r) h k below = entries_marked s bytes Q P K V r h k (t + k * size_of s.layouts (entry_of K V)) refl below

  map_says : {q n : ℕ} {K : Key} {V : Shape} {w : Value} → Contents s bytes q (one (sorted_map K V)) n w → w ≡ hole (map_at bytes q K V)
  map_says (contents_one reads_map) = refl

  -- what a free part says, each of whose pointers leads to a free region
  abbrev SaysFree : List Free → List Region → ℕ → Pointee → ℕ → Type 0
  SaysFree F Ks q P n = (w : Value) × Contents s bytes q P n w × ((z : Pointer) → Contains (pointers w) z → LeadsFree s bytes F Ks z)

  module _ {root : ℕ} {X : Shape} (a : Accepted s bytes root X) where
    part_says : {q n : ℕ} {P : Pointee} → FreePart (free_regions s bytes a) q P n → SaysFree (free_regions s bytes a) (key_regions s bytes a) q P n
    part_says (in_region {f = f} c o i) =
        let (v, h, ordered, marked, size) = accepted_closed s bytes a f c in
        let plain = subst (λ x. AllMarked (LeadsKey s bytes (free_regions s bytes a) (key_regions s bytes a)) (LeadsFree s bytes (free_regions s bytes a) (key_regions s bytes a)) (marks x v) (pointers v)) o marked in
        let all = none_marked (LeadsKey s bytes (free_regions s bytes a) (key_regions s bytes a)) (LeadsFree s bytes (free_regions s bytes a) (key_regions s bytes a)) (pointers v) plain in
        let (w, k, g) = part_of_reads s bytes i h in
        (w, k, λ z d. All-contains (LeadsFree s bytes (free_regions s bytes a) (key_regions s bytes a)) (pointers v) z all (g z d))
    part_says (in_entry {f = f} {K = K} {V = V} {k = k} c o e below i) =
        let (v, h, ordered, marked, size) = accepted_closed s bytes a f c in
        let keyed = subst (λ x. AllMarked (LeadsKey s bytes (free_regions s bytes a) (key_regions s bytes a)) (LeadsFree s bytes (free_regions s bytes a) (key_regions s bytes a)) (marks x v) (pointers v)) o marked in
        let there : Contents s bytes (f.0).begin (run (entry_of K V)) (f.0).length v = subst (λ Y. Contents s bytes (f.0).begin Y (f.0).length v) e h in
        let m = entry_says (LeadsKey s bytes (free_regions s bytes a) (key_regions s bytes a)) (LeadsFree s bytes (free_regions s bytes a) (key_regions s bytes a)) K V there keyed k below in
        let (w, l, g) = part_of_reads s bytes i (contents_one m.value_reads) in
        (w, l, λ z d. All-contains (LeadsFree s bytes (free_regions s bytes a) (key_regions s bytes a)) (pointers m.value) z m.values (g z d))

    -- what seals come to is free
    comes : {q n : ℕ} {P : Pointee} → ComesTo s bytes root X q P n → FreePart (free_regions s bytes a) q P n
    comes to_root = in_region (Contains-push (free_of [] a.tour) (root_region s root X, None)) refl whole_region
    comes (to_part h w) = part_step (comes h) w
    comes (to_element h below) = element_step (comes h) below
    comes (to_text h inline) = text_step (comes h) inline
    comes (to_target {v = v} {p = p} h c m o there) =
        let (w, k, leads) = part_says (comes h) in
        let same : v ≡ w = contents_one_value c k in
        let (u, x, l, free) = leads p (rw same at m) in
        let here : u ≡ _ = pos_one (sym l.target ∙ there) in
        rw (← here) (in_region free o whole_region)
    comes (to_value {q = q} {K = K} {V = V} h there below) =
        let (w, c, leads) = part_says (comes h) in
        let same : hole (map_at bytes q K V) ≡ w = sym (map_says c) in
        let (u, x, l, free) = leads (map_at bytes q K V) (subst (λ z. Contains (pointers z) (map_at bytes q K V)) same (Contains-push [] (map_at bytes q K V))) in
        let here : u ≡ _ = pos_one (sym l.target ∙ there) in
        rw (← here) (in_entry free refl refl below whole_region)

    parted : Parted (free_regions s bytes a) (key_regions s bytes a) 0 (length bytes)
    parted =
        let front = rising_front 0 a.regions (root_region s root X) [] (length bytes) a.rising in
        let back = rising_back 0 a.regions (root_region s root X) [] (length bytes) a.rising in
        let whole_is : keys_of [] a.tour ++ [] ≡ keys_of [] a.tour = append-nil (keys_of [] a.tour) in
        subst (λ C. Parted (free_regions s bytes a) C 0 (length bytes)) whole_is
        (region_parted (root_region s root X) None (free_of [] a.tour) [] (keys_of [] a.tour) [] 0 (length bytes) (omega arith) back (tour_parted s bytes [] a.tour 0 root front) (parted_none (root + size_of s.layouts X) (length bytes)))

    -- a leaf that lies in a free part
    module _ (x : PlacedLeaf) {q n : ℕ} {P : Pointee} (part : FreePart (free_regions s bytes a) q P n) (low : q ≤ leaf_begin x) (high : leaf_begin x + leaf_size x ≤ q + pointee_size s P n) where
      -- it lies in a free region, and of the entries of a map in a value
      data Home (f : Free) : Type 0 where
        home_plain : f.1 ≡ None → Home f
        home_value : (K : Key) (V : Shape) (k : ℕ) → f.1 ≡ Some K → (f.0).pointee ≡ run (entry_of K V)
            → (f.0).begin + k * size_of s.layouts (entry_of K V) + up (size_of s.layouts (key_shape K)) (align_of s.layouts V) ≤ leaf_begin x
            → leaf_begin x + leaf_size x ≤ (f.0).begin + (k + 1) * size_of s.layouts (entry_of K V) → Home f

      record InFree : Type 0 where
        free : Free
        among : Contains (free_regions s bytes a) free
        above : (free.0).begin ≤ leaf_begin x
        below : leaf_begin x + leaf_size x ≤ (free.0).begin + (free.0).size
        home : Home free

      in_free : InFree
      in_free = go part
        where
          go : FreePart (free_regions s bytes a) q P n → InFree
          go (in_region {f = f} c o j) =
              let inside = part_inside j ((accepted_closed s bytes a f c).4) in
              record { free = f; among = c; above = omega (arith, inside.0, low); below = omega (arith, inside.1, high); home = home_plain o }
          go (in_entry {f = f} {K = K} {V = V} {k = k} c o e lt j) =
              let inside = part_inside j refl in
              let spans = entry_spans K V in
              let size : (f.0).size ≡ (f.0).length * size_of s.layouts (entry_of K V) = (accepted_closed s bytes a f c).4 ∙ ap (λ P. pointee_size s P (f.0).length) e in
              let one_more : (k + 1) * size_of s.layouts (entry_of K V) ≡ k * size_of s.layouts (entry_of K V) + size_of s.layouts (entry_of K V) = omega arith in
              let more : (k + 1) * size_of s.layouts (entry_of K V) ≤ (f.0).length * size_of s.layouts (entry_of K V) = mul-le-mul_right (size_of s.layouts (entry_of K V)) (omega arith) in
              record {
                free = f;
                among = c;
                above = omega (arith, inside.0, low);
                below = omega (arith, inside.1, high, spans.1, one_more, more, size);
                home = home_value K V k o e (omega (arith, inside.0, low)) (omega (arith, inside.1, high, spans.1, one_more));
              }

      module _ {g : Free} {K : Key} {V : Shape} (c : Contains (free_regions s bytes a) g) (o : g.1 ≡ Some K) (e : (g.0).pointee ≡ run (entry_of K V)) (i : ℕ) (less : i < (g.0).length) where
        entry_ends : (g.0).begin + i * size_of s.layouts (entry_of K V) + size_of s.layouts (entry_of K V) ≤ (g.0).begin + (g.0).size
        entry_ends =
            let size : (g.0).size ≡ (g.0).length * size_of s.layouts (entry_of K V) = (accepted_closed s bytes a g c).4 ∙ ap (λ P. pointee_size s P (g.0).length) e in
            let more : (i + 1) * size_of s.layouts (entry_of K V) ≤ (g.0).length * size_of s.layouts (entry_of K V) = mul-le-mul_right (size_of s.layouts (entry_of K V)) (omega arith) in
            omega (arith, more, size)

        -- in a value of the map itself
        beside_own : {L : Key} {W : Shape} (k : ℕ) → L ≡ K → W ≡ V → (g.0).begin + k * size_of s.layouts (entry_of L W) + up (size_of s.layouts (key_shape L)) (align_of s.layouts W) ≤ leaf_begin x
            → leaf_begin x + leaf_size x ≤ (g.0).begin + (k + 1) * size_of s.layouts (entry_of L W) → Beside x ((g.0).begin + i * size_of s.layouts (entry_of K V)) (size_of s.layouts (key_shape K))
        beside_own k keyed valued from upto =
            let above = rw (keyed, valued) at from in
            let under = rw (keyed, valued) at upto in
            let spans = entry_spans K V in
            ⊎_elim
            (λ lt. let more : (k + 1) * size_of s.layouts (entry_of K V) ≤ i * size_of s.layouts (entry_of K V) = mul-le-mul_right (size_of s.layouts (entry_of K V)) (omega (arith, lt)) in inl (omega (arith, under, more)))
            (λ ge. let more : i * size_of s.layouts (entry_of K V) ≤ k * size_of s.layouts (entry_of K V) = mul-le-mul_right (size_of s.layouts (entry_of K V)) ge in inr (omega (arith, above, more, spans.0)))
            (cases_lt k i)

        beside_home : {f : Free} → f ≡ g → Home f → Beside x ((g.0).begin + i * size_of s.layouts (entry_of K V)) (size_of s.layouts (key_shape K))
        beside_home same (home_plain p) = (let never : Some K ≡ None = sym o ∙ ap (λ (z : Free). z.1) (sym same) ∙ p in cc)
        beside_home same (home_value L W k p h from upto) =
            let keys : Some L ≡ Some K = sym p ∙ ap (λ (z : Free). z.1) same ∙ o in
            let pointees : run (entry_of L W) ≡ run (entry_of K V) = sym h ∙ ap (λ (z : Free). (z.0).pointee) same ∙ e in
            beside_own {L = L} {W = W} k (cc keys) (cc pointees) (rw (ap (λ (z : Free). (z.0).begin) same) at from) (rw (ap (λ (z : Free). (z.0).begin) same) at upto)

        -- the leaf has no byte of the key where it lies
        in_place : Beside x ((g.0).begin + i * size_of s.layouts (entry_of K V)) (size_of s.layouts (key_shape K))
        in_place =
            let spans = entry_spans K V in
            let h = in_free in
            ⊎_elim
            (λ same. beside_home same h.home)
            (λ apart. ⊎_elim (λ before. inl (omega (arith, h.below, before))) (λ behind. inr (omega (arith, h.above, behind, entry_ends, spans.0, spans.1))) apart)
            (parted.separate h.free g h.among c)

        -- nor where its text does
        key_leads : {p : ℕ} {u : Value} → Reads s bytes p str u → IsOutOfLine bytes p → Contains (pointers u) (string_at bytes p)
        key_leads (reads_inline out r) far = absurd (out far)
        key_leads {p = p} (reads_out_of_line out r) far = Contains-push [] (string_at bytes p)

        elsewhere : K ≡ str_key → IsOutOfLine bytes ((g.0).begin + i * size_of s.layouts (entry_of K V))
            → Beside x (target_from bytes ((g.0).begin + i * size_of s.layouts (entry_of K V)) ((g.0).begin + i * size_of s.layouts (entry_of K V) + 4)) (decoded_length (u32_at bytes ((g.0).begin + i * size_of s.layouts (entry_of K V))))
        elsewhere is far =
            let (v, h, ordered, marked, size) = accepted_closed s bytes a g c in
            let keyed = subst (λ z. AllMarked (LeadsKey s bytes (free_regions s bytes a) (key_regions s bytes a)) (LeadsFree s bytes (free_regions s bytes a) (key_regions s bytes a)) (marks z v) (pointers v)) o marked in
            let there : Contents s bytes (g.0).begin (run (entry_of K V)) (g.0).length v = subst (λ Y. Contents s bytes (g.0).begin Y (g.0).length v) e h in
            let m = entry_says (LeadsKey s bytes (free_regions s bytes a) (key_regions s bytes a)) (LeadsFree s bytes (free_regions s bytes a) (key_regions s bytes a)) K V there keyed i less in
            let key : Reads s bytes ((g.0).begin + i * size_of s.layouts (entry_of K V)) str m.key = subst (λ Y. Reads s bytes ((g.0).begin + i * size_of s.layouts (entry_of K V)) Y m.key) (ap key_shape is) m.key_reads in
            let pointer = string_at bytes ((g.0).begin + i * size_of s.layouts (entry_of K V)) in
            let (t, w, l, among) = All-contains (LeadsKey s bytes (free_regions s bytes a) (key_regions s bytes a)) (pointers m.key) pointer m.keys (key_leads key far) refl in
            let target : target_from bytes ((g.0).begin + i * size_of s.layouts (entry_of K V)) ((g.0).begin + i * size_of s.layouts (entry_of K V) + 4) ≡ t = ap position l.target in
            let z = in_free in
            let apart = parted.across z.free (region_of s pointer t) z.among among in
            rw target (⊎_elim (λ before. inl (omega (arith, z.below, before))) (λ behind. inr (omega (arith, z.above, behind))) apart)

      beside_key : {g : Free} {K : Key} {V : Shape} → Contains (free_regions s bytes a) g → g.1 ≡ Some K → (g.0).pointee ≡ run (entry_of K V) → (i : ℕ) → i < (g.0).length → IsBesideKey K bytes ((g.0).begin + i * size_of s.layouts (entry_of K V)) x
      beside_key {K = leaf_key kind} c o e i below = in_place c o e i below
      beside_key {K = str_key} c o e i below = (in_place c o e i below, elsewhere c o e i below refl)

      each_beside : (K : Key) (z p m : ℕ) → ((i : ℕ) → i < m → IsBesideKey K bytes (p + i * z) x) → AreBesideKeys K bytes p z m x
      each_beside K z p zero h = tt
      each_beside K z p (suc m) h =
          let here : p + 0 * z ≡ p = omega arith in
          (subst (λ q. IsBesideKey K bytes q x) here (h 0 (omega arith)), each_beside K z (p + z) m (λ i below. let there : p + (i + 1) * z ≡ p + z + i * z = omega arith in subst (λ q. IsBesideKey K bytes q x) there (h (i + 1) (omega (arith, below)))))

      beside_by : (g : Free) → Contains (free_regions s bytes a) g → (o : Option Key) (Y : Pointee) → g.1 ≡ o → (g.0).pointee ≡ Y → IsInOrder s bytes (g.0).begin (g.0).length o Y → IsBesideKeysOf s bytes (g.0).begin (g.0).length o Y x
      beside_by g c o Y e d in_any_order = tt
      beside_by g c o Y e d (in_key_order {K = K} {V = V} h) = each_beside K (size_of s.layouts (entry_of K V)) (g.0).begin (g.0).length (λ i below. beside_key {V = V} c e d i below)

      beside_keys : (g : Free) → Contains (free_regions s bytes a) g → IsBesideKeysOf s bytes (g.0).begin (g.0).length (g.1) (g.0).pointee x
      beside_keys g c = beside_by g c (g.1) (g.0).pointee refl refl ((accepted_closed s bytes a g c).2)

      -- so it is free
      nothing_free : {pending : List ℕ} {seen last : Seen} {O : List Pointer} {C : List Region} → O ≡ [] → (i : Tour s bytes pending seen O C last) → IsFreeOn x i
      nothing_free e tour_end = tt
      nothing_free e (tour_unique f h i j) = cc
      nothing_free e (tour_new f none h i j) = cc
      nothing_free e (tour_again f t known free j) = cc

      free_by : (mark : Bool) (p : Pointer) (t : ℕ) (own rest : List Free) {A B : Type 0} → (mark ≡ true → (order_of p ≡ None) × A) → ((((g : Free) → Contains own g → IsBesideKeysOf s bytes (g.0).begin (g.0).length (g.1) (g.0).pointee x)) → A)
          → (((g : Free) → Contains rest g → IsBesideKeysOf s bytes (g.0).begin (g.0).length (g.1) (g.0).pointee x) → B)
          → ((g : Free) → Contains (cond mark rest (own ++ (region_of s p t, order_of p) ∷ rest)) g → IsBesideKeysOf s bytes (g.0).begin (g.0).length (g.1) (g.0).pointee x)
          → IsBesideKeysOf s bytes t p.length (order_of p) p.pointee x × A × B
      free_by true p t own rest key value later all = let (none, inner) = key refl in (subst (λ o. IsBesideKeysOf s bytes t p.length o p.pointee x) (sym none) (plain p.pointee), inner, later all)
        where
          plain : (Y : Pointee) → IsBesideKeysOf s bytes t p.length None Y x
          plain Y = tt
      free_by false p t own rest key value later all = (
        all (region_of s p t, order_of p) (Contains-append_right own ((region_of s p t, order_of p) ∷ rest) (region_of s p t, order_of p) (contains_first rest (region_of s p t, order_of p))),
        value (λ g m. all g (Contains-append_left own ((region_of s p t, order_of p) ∷ rest) g m)),
        later (λ g m. all g (Contains-append_right own ((region_of s p t, order_of p) ∷ rest) g (contains_later (region_of s p t, order_of p) rest g m))),
      )

      tour_free : {pending : List ℕ} {seen last : Seen} {O : List Pointer} {C : List Region} (M : List Bool) (i : Tour s bytes pending seen O C last) → AllMarked IsText Any M O
          → ((g : Free) → Contains (free_of M i) g → IsBesideKeysOf s bytes (g.0).begin (g.0).length (g.1) (g.0).pointee x) → IsFreeOn x i
      tour_free M tour_end texts all = tt
      tour_free M (tour_unique {p = p} {t = t} {v = v} e l i j) texts all =
          free_by (first_mark M) p t (free_of (marks (order_of p) v) i) (free_of (later_marks M) j) (λ is. let text_is = texts.0 is in (text_is.2, nothing_free (text_leads s bytes (text_is.1) l.contents) i))
          (λ own. tour_free (marks (order_of p) v) i (marks_texts s bytes l.contents l.ordered) own) (λ rest. tour_free (later_marks M) j (texts.2) rest) all
      tour_free M (tour_new {p = p} {t = t} {v = v} e none l i j) texts all =
          free_by false p t (free_of (marks (order_of p) v) i) (free_of (later_marks M) j) (λ is. cc is)
          (λ own. tour_free (marks (order_of p) v) i (marks_texts s bytes l.contents l.ordered) own) (λ rest. tour_free (later_marks M) j (texts.2) rest) all
      tour_free M (tour_again e t known free j) texts all = tour_free (later_marks M) j (texts.2) all

      part_free : IsFree a x
      part_free = tour_free [] a.tour (marked_none IsText Any (pointers a.value) (λ p. tt)) (λ g m. beside_keys g (Contains-append_left (free_of [] a.tour) ((root_region s root X, None) ∷ []) g m))

    -- what seals come to is free to be written over
    pub come_to_free : (x : PlacedLeaf) {q n : ℕ} {P : Pointee} → ComesTo s bytes root X q P n → q ≤ leaf_begin x → leaf_begin x + leaf_size x ≤ q + pointee_size s P n → IsFree a x
    come_to_free x h low high = part_free x (comes h) low high
