-- An archive stays one where a leaf is written over.
use Rattle.std.proofs.Common.{◌≡◌, ⊎_elim, ℕ, suc, ◌+◌, ◌-◌, ◌*◌, ◌≤◌, List, [], ◌∷◌, ◌++◌, length, drop, slice_index, All, Contains, IsUtf8, arith, sym, ap, ap₂, subst, ◌∙◌, refl}
use Rattle.std.proofs.lemmas.List.Elements.{All-append}
use Rattle.archive_check.proofs.Elements.{contains_cases}
use Rattle.std.specs.FinMap.{empty}
use Rattle.archive_check.specs.Shape.{Kind, Shape, leaf, choice, str, Parts, part, Pointee, text}
use Rattle.archive_check.specs.Layout.{up, kind_size, align_of, size_of, parts_end}
use Rattle.archive_check.specs.Value.{Pointer, Value, Values, number, product, case, list, text_value, value, pointers, all_pointers}
use Rattle.archive_check.specs.Reads.{SchemaTable, LaidOut, bytes_at, before_end, IsLegal, IsOutOfLine, kind_value, Reads, reads_leaf, reads_parts, reads_choice, reads_array, reads_boxed, reads_vec, reads_map, reads_inline, reads_out_of_line, reads_shared, reads_null, reads_weak, reads_named, ReadsParts, reads_no_part, reads_part, ReadsRun, reads_none, reads_element}
use Rattle.archive_check.specs.Keys.{order_of, IsInOrder}
use Rattle.archive_check.proofs.Maps.KeptOrder.{StaysOrdered, free_keeps}
use Rattle.archive_check.specs.Tour.{Region, region_of, root_region, pointee_size, Rising, Contents, contents_one, contents_run, contents_text, Leads, Seen, Tour, tour_end, tour_unique, tour_new, tour_again, Accepted}
use Rattle.archive_check.specs.Leaves.{PlacedLeaf, number_leaf, text_leaf, leaf_begin, leaf_size, leaves, leaves_of_parts, leaves_of_run, leaves_of_contents, leaves_of_tour, leaves_of, IsFree, edit, Overwrites, overwrites_number, overwrites_text, Replaced, replaced_here, replaced_later, Altered, altered_here, altered_product, altered_case, altered_list, AlteredAmong, altered_first, altered_later, StillAccepted}
use Rattle.archive_check.proofs.Tours.JoinedTours.{rising_le, rising_front, rising_back}
use Rattle.archive_check.proofs.Tours.RegionsApart.{before_end_le, bytes_few, Between, between_more, leaves_between, parts_between, run_between, contents_between, tour_between}
use Rattle.archive_check.proofs.Tours.EqualBytes.{byte_same, ReadsWith, reads_agree, parts_agree, run_agree}
use Rattle.archive_check.proofs.Tours.EqualTours.{leads_agree, tour_agree}
use Rattle.archive_check.proofs.Editing.Texts.{text_over, text_inline}
use Rattle.archive_check.proofs.Editing.EditedBytes.{Edits, bytes_split, bytes_rest, bytes_long, first_of, edit_edits}

replaced_empty : {x y : PlacedLeaf} {xs ms : List PlacedLeaf} → xs ≡ [] → Replaced x y xs ms → ⊥
replaced_empty e replaced_here = cc
replaced_empty e (replaced_later k) = cc

pub replaced_none : {x y : PlacedLeaf} {ms : List PlacedLeaf} → Replaced x y [] ms → ⊥
replaced_none k = replaced_empty refl k

-- the leaf that is replaced is one of them
pub replaced_has : (P : PlacedLeaf → Type 0) {x y : PlacedLeaf} {xs ms : List PlacedLeaf} → Replaced x y xs ms → All P xs → P x
replaced_has P {x = x} replaced_here h = h 0 x (omega arith)
replaced_has P (replaced_later k) h = replaced_has P k (λ i d l. h (suc i) d (omega arith))

-- it is among the first ones, or among the others
pub data Split (x y : PlacedLeaf) (xs zs ms : List PlacedLeaf) : Type 0 where
  in_first : {ns : List PlacedLeaf} → Replaced x y xs ns → ns ++ zs ≡ ms → Split x y xs zs ms
  in_later : {ns : List PlacedLeaf} → Replaced x y zs ns → xs ++ ns ≡ ms → Split x y xs zs ms

pub split : {x y : PlacedLeaf} (xs : List PlacedLeaf) {zs ms : List PlacedLeaf} → Replaced x y (xs ++ zs) ms → Split x y xs zs ms
split [] k = in_later k refl
split (z ∷ xs) replaced_here = in_first replaced_here refl
split (z ∷ xs) (replaced_later k) = more (split xs k)
  where
    more : {x y : PlacedLeaf} {zs ms : List PlacedLeaf} → Split x y xs zs ms → Split x y (z ∷ xs) zs (z ∷ ms)
    more (in_first j e) = in_first (replaced_later j) (ap (λ l. z ∷ l) e)
    more (in_later j e) = in_later j (ap (λ l. z ∷ l) e)

pub overwrites_size : {b : List ℕ} {x y : PlacedLeaf} → Overwrites b x y → length b ≡ leaf_size x
overwrites_size (overwrites_number legal) = legal.size
overwrites_size (overwrites_text u e) = e

module _ (s : SchemaTable) (laid : LaidOut s) (bytes new b : List ℕ) where
  -- what is read of the new bytes where v was read of the old ones
  pub record Renewed (x y : PlacedLeaf) (p : ℕ) (X : Shape) (v : Value) (ms : List PlacedLeaf) : Type 0 where
    pub found : Value
    pub reads : Reads s new p X found
    pub are : leaves reads ≡ ms
    pub holes : pointers found ≡ pointers v
    pub altered : Altered x y v found

  pub record RenewedParts (x y : PlacedLeaf) (p at : ℕ) (ps : Parts) (vs : Values) (ms : List PlacedLeaf) : Type 0 where
    pub found : Values
    pub reads : ReadsParts s new p at ps found
    pub are : leaves_of_parts reads ≡ ms
    pub holes : all_pointers found ≡ all_pointers vs
    pub altered : AlteredAmong x y vs found

  pub record RenewedRun (x y : PlacedLeaf) (p n : ℕ) (X : Shape) (vs : Values) (ms : List PlacedLeaf) : Type 0 where
    pub found : Values
    pub reads : ReadsRun s new p n X found
    pub are : leaves_of_run reads ≡ ms
    pub holes : all_pointers found ≡ all_pointers vs
    pub altered : AlteredAmong x y vs found

  pub record RenewedContents (x y : PlacedLeaf) (t : ℕ) (P : Pointee) (n : ℕ) (v : Value) (ms : List PlacedLeaf) : Type 0 where
    pub found : Value
    pub contents : Contents s new t P n found
    pub are : leaves_of_contents contents ≡ ms
    pub holes : pointers found ≡ pointers v
    pub altered : Altered x y v found

  -- the eight bytes of an inline string
  string_now : {p : ℕ} → length b ≤ 8 → Edits bytes new p b → bytes_at new p 8 ≡ b ++ drop (length b) (bytes_at bytes p 8)
  string_now {p = p} few e =
      let rest : ℕ = 8 - length b in let sum : length b + (8 - length b) ≡ 8 = omega arith in
      let there = (e.behind (p + length b) (8 - length b) (omega arith)).same in
      let old : drop (length b) (bytes_at bytes p 8) ≡ bytes_at bytes (p + length b) (8 - length b) = subst (λ m. drop (length b) (bytes_at bytes p m) ≡ bytes_at bytes (p + length b) (8 - length b)) sum (bytes_rest bytes p (length b) (8 - length b)) in
      let now : bytes_at new p 8 ≡ bytes_at new p (length b) ++ bytes_at new (p + length b) (8 - length b) = subst (λ m. bytes_at new p m ≡ bytes_at new p (length b) ++ bytes_at new (p + length b) (8 - length b)) sum (bytes_split new p (length b) (8 - length b)) in
      now ∙ ap₂ (λ a c. a ++ c) e.here (there ∙ sym old)

  still_inline : {p : ℕ} → IsUtf8 b → Edits bytes new p b → (IsOutOfLine bytes p → ⊥) → IsOutOfLine new p → ⊥
  still_inline {p = p} u e o q = go b refl
    where
      go : (c : List ℕ) → b ≡ c → ⊥
      go [] f = let same = byte_same bytes new {p = p} {n = 1} (omega arith) (e.behind p 1 (omega (arith, ap (λ l. length l) f))) in o (rw same at q)
      go (d ∷ c) f =
          let first : bytes_at new p (length b) ≡ d ∷ c = e.here ∙ f in
          let same : slice_index new p ≡ d = sym (first_of new p (length b) (omega (arith, ap (λ l. length l) f))) ∙ ap (λ l. slice_index l 0) first in
          text_inline d c (rw f at u) (rw same at q)

  -- one leaf is read anew
  number_renewed : {p : ℕ} {kind : Kind} → IsLegal kind b → Edits bytes new p b → Renewed (number_leaf p kind (kind_value kind (bytes_at bytes p (kind_size kind)))) (number_leaf p kind (kind_value kind b)) p (leaf kind) (number (kind_value kind (bytes_at bytes p (kind_size kind)))) (number_leaf p kind (kind_value kind b) ∷ [])
  number_renewed {p = p} {kind = kind} legal e =
      let now : bytes_at new p (kind_size kind) ≡ b = rw legal.size at e.here in
      let r : ReadsWith bytes new s laid p (leaf kind) (number (kind_value kind b)) (number_leaf p kind (kind_value kind b) ∷ []) =
      subst (λ c. ReadsWith bytes new s laid p (leaf kind) (number (kind_value kind c)) (number_leaf p kind (kind_value kind c) ∷ [])) now (reads_leaf (subst (IsLegal kind) (sym now) legal), refl) in
      record { found = number (kind_value kind b); reads = r.0; are = r.1; holes = refl; altered = altered_here }

  text_renewed : {p : ℕ} → (IsOutOfLine bytes p → ⊥) → IsUtf8 b → length b ≡ length (before_end (bytes_at bytes p 8)) → Edits bytes new p b
      → Renewed (text_leaf p (before_end (bytes_at bytes p 8))) (text_leaf p b) p str (text_value (before_end (bytes_at bytes p 8))) (text_leaf p b ∷ [])
  text_renewed {p = p} o u size e =
      let few : length b ≤ 8 = omega (arith, before_end_le (bytes_at bytes p 8), bytes_few bytes p 8) in
      let now : before_end (bytes_at new p 8) ≡ b = ap before_end (string_now few e) ∙ text_over b (bytes_at bytes p 8) u size in
      let r : ReadsWith bytes new s laid p str (text_value b) (text_leaf p b ∷ []) =
      subst (λ c. ReadsWith bytes new s laid p str (text_value c) (text_leaf p c ∷ [])) now (reads_inline (still_inline u e o) (subst IsUtf8 (sym now) u), refl) in
      record { found = text_value b; reads = r.0; are = r.1; holes = refl; altered = altered_here }

  -- a leaf of the first part is read anew, or one of the others
  parts_join : {p at : ℕ} {X : Shape} {ps : Parts} {v : Value} {vs : Values} (r : Reads s bytes (p + up at (align_of s.layouts X)) X v) (rs : ReadsParts s bytes p (up at (align_of s.layouts X) + size_of s.layouts X) ps vs) {x y : PlacedLeaf} {ms : List PlacedLeaf}
      → Split x y (leaves r) (leaves_of_parts rs) ms → Overwrites b x y → Edits bytes new (leaf_begin x) b
      → ((ns : List PlacedLeaf) → Replaced x y (leaves r) ns → Renewed x y (p + up at (align_of s.layouts X)) X v ns)
      → ((ns : List PlacedLeaf) → Replaced x y (leaves_of_parts rs) ns → RenewedParts x y p (up at (align_of s.layouts X) + size_of s.layouts X) ps vs ns)
      → RenewedParts x y p at (part X ps) (value v vs) ms
  parts_join {p = p} {at = at} {X = X} {ps = ps} {v = v} {vs = vs} r rs {x} (in_first {ns = ns} j d) o e first later =
      let q = first ns j in
      let there : Between (p + up at (align_of s.layouts X)) (p + up at (align_of s.layouts X) + size_of s.layouts X) x = replaced_has (Between (p + up at (align_of s.layouts X)) (p + up at (align_of s.layouts X) + size_of s.layouts X)) j (leaves_between s laid bytes r) in
      let qs = parts_agree bytes new s laid rs (e.behind (p + (up at (align_of s.layouts X) + size_of s.layouts X)) (parts_end s.layouts (up at (align_of s.layouts X) + size_of s.layouts X) ps - (up at (align_of s.layouts X) + size_of s.layouts X)) (omega (arith, there, overwrites_size o))) in
      record { found = value q.found vs; reads = reads_part q.reads (qs.0); are = ap₂ (λ a c. a ++ c) q.are (qs.1) ∙ d; holes = ap (λ a. a ++ all_pointers vs) q.holes; altered = altered_first q.altered }
  parts_join {p = p} {at = at} {X = X} {ps = ps} {v = v} {vs = vs} r rs {x} (in_later {ns = ns} j d) o e first later =
      let qs = later ns j in
      let there : Between (p + (up at (align_of s.layouts X) + size_of s.layouts X)) (p + parts_end s.layouts (up at (align_of s.layouts X) + size_of s.layouts X) ps) x = replaced_has (Between (p + (up at (align_of s.layouts X) + size_of s.layouts X)) (p + parts_end s.layouts (up at (align_of s.layouts X) + size_of s.layouts X) ps)) j (parts_between s laid bytes rs) in
      let q = reads_agree bytes new s laid r (e.before (p + up at (align_of s.layouts X)) (size_of s.layouts X) (omega arith)) in
      record { found = value v qs.found; reads = reads_part (q.0) qs.reads; are = ap₂ (λ a c. a ++ c) (q.1) qs.are ∙ d; holes = ap (λ a. pointers v ++ a) qs.holes; altered = altered_later qs.altered }

  run_join : {p n : ℕ} {X : Shape} {v : Value} {vs : Values} (r : Reads s bytes p X v) (rs : ReadsRun s bytes (p + size_of s.layouts X) n X vs) {x y : PlacedLeaf} {ms : List PlacedLeaf}
      → Split x y (leaves r) (leaves_of_run rs) ms → Overwrites b x y → Edits bytes new (leaf_begin x) b
      → ((ns : List PlacedLeaf) → Replaced x y (leaves r) ns → Renewed x y p X v ns)
      → ((ns : List PlacedLeaf) → Replaced x y (leaves_of_run rs) ns → RenewedRun x y (p + size_of s.layouts X) n X vs ns)
      → RenewedRun x y p (suc n) X (value v vs) ms
  run_join {p = p} {n = n} {X = X} {v = v} {vs = vs} r rs {x} (in_first {ns = ns} j d) o e first later =
      let q = first ns j in
      let there : Between p (p + size_of s.layouts X) x = replaced_has (Between p (p + size_of s.layouts X)) j (leaves_between s laid bytes r) in
      let qs = run_agree bytes new s laid rs (e.behind (p + size_of s.layouts X) (n * size_of s.layouts X) (omega (arith, there, overwrites_size o))) in
      record { found = value q.found vs; reads = reads_element q.reads (qs.0); are = ap₂ (λ a c. a ++ c) q.are (qs.1) ∙ d; holes = ap (λ a. a ++ all_pointers vs) q.holes; altered = altered_first q.altered }
  run_join {p = p} {n = n} {X = X} {v = v} {vs = vs} r rs {x} (in_later {ns = ns} j d) o e first later =
      let qs = later ns j in
      let there : Between (p + size_of s.layouts X) (p + size_of s.layouts X + n * size_of s.layouts X) x = replaced_has (Between (p + size_of s.layouts X) (p + size_of s.layouts X + n * size_of s.layouts X)) j (run_between s laid bytes rs) in
      let q = reads_agree bytes new s laid r (e.before p (size_of s.layouts X) (omega arith)) in
      record { found = value v qs.found; reads = reads_element (q.0) qs.reads; are = ap₂ (λ a c. a ++ c) (q.1) qs.are ∙ d; holes = ap (λ a. pointers v ++ a) qs.holes; altered = altered_later qs.altered }

  mutual
    pub renewed : {p : ℕ} {X : Shape} {v : Value} (r : Reads s bytes p X v) {x y : PlacedLeaf} {ms : List PlacedLeaf} → Replaced x y (leaves r) ms → Overwrites b x y → Edits bytes new (leaf_begin x) b → Renewed x y p X v ms
    renewed (reads_leaf h) replaced_here (overwrites_number legal) e = number_renewed legal e
    renewed (reads_leaf h) (replaced_later k) o e = absurd (replaced_none k)
    renewed (reads_parts {p = p} {ps = ps} r) k o e =
        let q = parts_renewed r k o e in record { found = product q.found; reads = reads_parts q.reads; are = q.are; holes = q.holes; altered = altered_product q.altered }
    renewed (reads_choice {p = p} {name = name} {variants = vs} {ps = ps} d r) {x} {y} {ms} k o e =
        let q = parts_renewed r k o e in
        let there : Between (p + 1) (p + parts_end s.layouts 1 ps) x = replaced_has (Between (p + 1) (p + parts_end s.layouts 1 ps)) k (parts_between s laid bytes r) in
        let tag : slice_index new p ≡ slice_index bytes p = byte_same bytes new {p = p} {n = 1} (omega arith) (e.before p 1 (omega arith)) in
        let w : ReadsWith bytes new s laid p (choice name vs) (case (slice_index bytes p) q.found) ms = subst (λ t. ReadsWith bytes new s laid p (choice name vs) (case t q.found) ms) tag (reads_choice (rw tag d) q.reads, q.are) in
        record { found = case (slice_index bytes p) q.found; reads = w.0; are = w.1; holes = q.holes; altered = altered_case q.altered }
    renewed (reads_array r) k o e =
        let q = run_renewed r k o e in record { found = list q.found; reads = reads_array q.reads; are = q.are; holes = q.holes; altered = altered_list q.altered }
    renewed reads_boxed k o e = absurd (replaced_none k)
    renewed reads_vec k o e = absurd (replaced_none k)
    renewed reads_map k o e = absurd (replaced_none k)
    renewed (reads_inline l h) replaced_here (overwrites_text u size) e = text_renewed l u size e
    renewed (reads_inline l h) (replaced_later k) o e = absurd (replaced_none k)
    renewed (reads_out_of_line l h) k o e = absurd (replaced_none k)
    renewed reads_shared k o e = absurd (replaced_none k)
    renewed (reads_null h) k o e = absurd (replaced_none k)
    renewed (reads_weak h) k o e = absurd (replaced_none k)
    renewed (reads_named d r) k o e =
        let q = renewed r k o e in record { found = q.found; reads = reads_named d q.reads; are = q.are; holes = q.holes; altered = q.altered }

    pub parts_renewed : {p at : ℕ} {ps : Parts} {vs : Values} (r : ReadsParts s bytes p at ps vs) {x y : PlacedLeaf} {ms : List PlacedLeaf} → Replaced x y (leaves_of_parts r) ms → Overwrites b x y → Edits bytes new (leaf_begin x) b → RenewedParts x y p at ps vs ms
    parts_renewed reads_no_part k o e = absurd (replaced_none k)
    parts_renewed (reads_part {p = p} {at = at} {X = X} {ps = ps} {v = v} {vs = vs} r rs) {x} {y} {ms} k o e = parts_join r rs (split (leaves r) k) o e (λ ns j. renewed r j o e) (λ ns j. parts_renewed rs j o e)

    pub run_renewed : {p n : ℕ} {X : Shape} {vs : Values} (r : ReadsRun s bytes p n X vs) {x y : PlacedLeaf} {ms : List PlacedLeaf} → Replaced x y (leaves_of_run r) ms → Overwrites b x y → Edits bytes new (leaf_begin x) b → RenewedRun x y p n X vs ms
    run_renewed reads_none k o e = absurd (replaced_none k)
    run_renewed (reads_element {p = p} {n = n} {X = X} {v = v} {vs = vs} r rs) {x} {y} {ms} k o e = run_join r rs (split (leaves r) k) o e (λ ns j. renewed r j o e) (λ ns j. run_renewed rs j o e)

  pub contents_renewed : {t n : ℕ} {P : Pointee} {v : Value} (h : Contents s bytes t P n v) → t + pointee_size s P n ≤ length bytes → {x y : PlacedLeaf} {ms : List PlacedLeaf} → Replaced x y (leaves_of_contents h) ms → Overwrites b x y → Edits bytes new (leaf_begin x) b → RenewedContents x y t P n v ms
  contents_renewed (contents_one r) fits k o e = let q = renewed r k o e in record { found = q.found; contents = contents_one q.reads; are = q.are; holes = q.holes; altered = q.altered }
  contents_renewed (contents_run r) fits k o e = let q = run_renewed r k o e in record { found = list q.found; contents = contents_run q.reads; are = q.are; holes = q.holes; altered = altered_list q.altered }
  contents_renewed {t = t} (contents_text {n = n} h) fits replaced_here (overwrites_text u size) e =
      let long : length (bytes_at bytes t n) ≡ n = bytes_long bytes t n fits in
      let now : bytes_at new t n ≡ b = rw (size ∙ long) at e.here in
      let r : (c : Contents s new t text n (text_value b)) × (leaves_of_contents c ≡ text_leaf t b ∷ []) =
      subst (λ c. (h : Contents s new t text n (text_value c)) × (leaves_of_contents h ≡ text_leaf t c ∷ [])) now (contents_text (subst IsUtf8 (sym now) u), refl) in
      record { found = text_value b; contents = r.0; are = r.1; holes = refl; altered = altered_here }
  contents_renewed (contents_text h) fits (replaced_later k) o e = absurd (replaced_none k)

  -- a tour over the new bytes, with these leaves
  abbrev pub ToursWith : List ℕ → Seen → List Pointer → List Region → Seen → List PlacedLeaf → Type 0
  ToursWith pending seen O C last ms = (i : Tour s new pending seen O C last) × (leaves_of_tour i ≡ ms)

  pub leads_renewed : {p : Pointer} {t : ℕ} {v : Value} (h : Leads s bytes p t v) {x y : PlacedLeaf} {ms : List PlacedLeaf} → Replaced x y (leaves_of_contents h.contents) ms → Overwrites b x y → Edits bytes new (leaf_begin x) b
      → IsInOrder s new t p.length (order_of p) p.pointee → (w : Value) × (l : Leads s new p t w) × (pointers w ≡ pointers v) × (leaves_of_contents l.contents ≡ ms) × Altered x y v w
  leads_renewed h k o d led =
      let q = contents_renewed h.contents h.fits k o d in (q.found, record { target = h.target; fits = omega (arith, h.fits, d.whole); contents = q.contents; ordered = led }, q.holes, q.are, q.altered)

  -- what stands for a region, what leads to it, its own tour and that of the rest
  pub record Toured (inner pending : List ℕ) (first mid last : Seen) (p : Pointer) (O : List Pointer) (t : ℕ) (C D : List Region) (ms : List PlacedLeaf) : Type 0 where
    pub found : Value
    pub leads : Leads s new p t found
    pub own : Tour s new inner first (pointers found) C mid
    pub rest : Tour s new pending mid O D last
    pub are : leaves_of_tour own ++ (leaves_of_contents leads.contents ++ leaves_of_tour rest) ≡ ms

  module _ {inner pending : List ℕ} {first mid last : Seen} {p : Pointer} {O : List Pointer} {t : ℕ} {v : Value} {C D : List Region}
      (h : Leads s bytes p t v) (i : Tour s bytes inner first (pointers v) C mid) (j : Tour s bytes pending mid O D last)
      (start stop : ℕ) (front : Rising start C t) (back : Rising (t + pointee_size s p.pointee p.length) D stop) {x y : PlacedLeaf} (o : Overwrites b x y) (d : Edits bytes new (leaf_begin x) b)
      (led : IsInOrder s new t p.length (order_of p) p.pointee) (stays : StaysOrdered new i) (goes_on : StaysOrdered new j) where
    in_own : {zs : List PlacedLeaf} → Replaced x y (leaves_of_tour i) zs → ToursWith inner first (pointers v) C mid zs → Toured inner pending first mid last p O t C D (zs ++ (leaves_of_contents h.contents ++ leaves_of_tour j))
    in_own k (m, e) =
        let there : Between start t x = replaced_has (Between start t) k (tour_between s laid bytes i start t front) in
        let l = leads_agree bytes new s laid h (omega (arith, d.whole)) (d.behind t (pointee_size s p.pointee p.length) (omega (arith, there, overwrites_size o))) led in
        let n = tour_agree bytes new s laid j goes_on (t + pointee_size s p.pointee p.length) stop back (omega (arith, d.whole)) (d.behind (t + pointee_size s p.pointee p.length) (stop - (t + pointee_size s p.pointee p.length)) (omega (arith, there, overwrites_size o))) in
        record { found = v; leads = l.0; own = m; rest = n.0; are = ap₂ (λ a c. a ++ c) e (ap₂ (λ a c. a ++ c) (l.1) (n.1)) }

    in_this : {zs : List PlacedLeaf} → Replaced x y (leaves_of_contents h.contents) zs → Toured inner pending first mid last p O t C D (leaves_of_tour i ++ (zs ++ leaves_of_tour j))
    in_this k =
        let q = leads_renewed h k o d led in
        let there : Between t (t + pointee_size s p.pointee p.length) x = replaced_has (Between t (t + pointee_size s p.pointee p.length)) k (contents_between s laid bytes h.contents) in
        let m = tour_agree bytes new s laid i stays start t front (omega (arith, d.whole)) (d.before start (t - start) (omega (arith, rising_le start C t front))) in
        let n = tour_agree bytes new s laid j goes_on (t + pointee_size s p.pointee p.length) stop back (omega (arith, d.whole)) (d.behind (t + pointee_size s p.pointee p.length) (stop - (t + pointee_size s p.pointee p.length)) (omega (arith, there, overwrites_size o))) in
        let own : ToursWith inner first (pointers (q.0)) C mid (leaves_of_tour i) = rw (q.2) m in
        record { found = q.0; leads = q.1; own = own.0; rest = n.0; are = ap₂ (λ a c. a ++ c) (own.1) (ap₂ (λ a c. a ++ c) (q.3) (n.1)) }

    in_rest : {zs : List PlacedLeaf} → Replaced x y (leaves_of_tour j) zs → ToursWith pending mid O D last zs → Toured inner pending first mid last p O t C D (leaves_of_tour i ++ (leaves_of_contents h.contents ++ zs))
    in_rest k (n, e) =
        let there : Between (t + pointee_size s p.pointee p.length) stop x = replaced_has (Between (t + pointee_size s p.pointee p.length) stop) k (tour_between s laid bytes j (t + pointee_size s p.pointee p.length) stop back) in
        let m = tour_agree bytes new s laid i stays start t front (omega (arith, d.whole)) (d.before start (t - start) (omega (arith, rising_le start C t front, there))) in
        let l = leads_agree bytes new s laid h (omega (arith, d.whole)) (d.before t (pointee_size s p.pointee p.length) (omega (arith, there))) led in
        record { found = v; leads = l.0; own = m.0; rest = n; are = ap₂ (λ a c. a ++ c) (m.1) (ap₂ (λ a c. a ++ c) (l.1) e) }

    -- the leaf is in a region's own tour, in the region, or in the tour of the rest
    tour_join : {ms : List PlacedLeaf} → Split x y (leaves_of_tour i) (leaves_of_contents h.contents ++ leaves_of_tour j) ms
        → ((zs : List PlacedLeaf) → Replaced x y (leaves_of_tour i) zs → ToursWith inner first (pointers v) C mid zs)
        → ((zs : List PlacedLeaf) → Replaced x y (leaves_of_tour j) zs → ToursWith pending mid O D last zs)
        → Toured inner pending first mid last p O t C D ms
    tour_join (in_first {ns = ns} k f) own rest = rw f at (in_own k (own ns k))
    tour_join {ms = ms} (in_later {ns = ns} k f) own rest = go (split (leaves_of_contents h.contents) k)
      where
        go : Split x y (leaves_of_contents h.contents) (leaves_of_tour j) ns → Toured inner pending first mid last p O t C D ms
        go (in_first {ns = zs} l g) = rw f at (rw g at (in_this l))
        go (in_later {ns = zs} l g) = rw f at (rw g at (in_rest l (rest zs l)))

  pub tour_renewed : {pending : List ℕ} {seen last : Seen} {O : List Pointer} {C : List Region} (i : Tour s bytes pending seen O C last) → StaysOrdered new i → (start stop : ℕ) → Rising start C stop
      → {x y : PlacedLeaf} {ms : List PlacedLeaf} → Replaced x y (leaves_of_tour i) ms → Overwrites b x y → Edits bytes new (leaf_begin x) b → ToursWith pending seen O C last ms
  tour_renewed tour_end f start stop rising k o d = absurd (replaced_none k)
  tour_renewed (tour_unique {p = p} {t = t} {C = C} {D = D} e h i j) f start stop rising k o d =
      let front = rising_front start C (region_of s p t) D stop rising in
      let back = rising_back start C (region_of s p t) D stop rising in
      let q = tour_join h i j start stop front back o d f.0 f.1 f.2 (split (leaves_of_tour i) {zs = leaves_of_contents h.contents ++ leaves_of_tour j} k)
      (λ zs l. tour_renewed i f.1 start t front l o d) (λ zs l. tour_renewed j f.2 (t + pointee_size s p.pointee p.length) stop back l o d) in
      (tour_unique e q.leads q.own q.rest, q.are)
  tour_renewed (tour_new {p = p} {t = t} {C = C} {D = D} e none h i j) f start stop rising k o d =
      let front = rising_front start C (region_of s p t) D stop rising in
      let back = rising_back start C (region_of s p t) D stop rising in
      let q = tour_join h i j start stop front back o d f.0 f.1 f.2 (split (leaves_of_tour i) {zs = leaves_of_contents h.contents ++ leaves_of_tour j} k)
      (λ zs l. tour_renewed i f.1 start t front l o d) (λ zs l. tour_renewed j f.2 (t + pointee_size s p.pointee p.length) stop back l o d) in
      (tour_new e none q.leads q.own q.rest, q.are)
  tour_renewed (tour_again e t known free j) f start stop rising k o d =
      let q = tour_renewed j f start stop rising k o d in (tour_again e t known free (q.0), q.1)

  -- so the buffer stays accepted
  pub accepted_renewed : {root : ℕ} {X : Shape} (a : Accepted s bytes root X) {x y : PlacedLeaf} {ms : List PlacedLeaf} → IsFree a x → Replaced x y (leaves_of a) ms → Overwrites b x y → Edits bytes new (leaf_begin x) b → StillAccepted s bytes new root X a ms
  accepted_renewed {root = root} {X = X} a {x} {y} {ms} free k o d = go (split (leaves_of_tour a.tour) k)
    where
      stays : StaysOrdered new a.tour
      stays = free_keeps bytes new b x d (overwrites_size o) a.tour free

      front : Rising 0 a.regions root
      front = rising_front 0 a.regions (root_region s root X) [] (length bytes) a.rising

      fits : root + size_of s.layouts X ≤ length new
      fits = omega (arith, a.flat.fits, d.whole)

      rising : Rising 0 (a.regions ++ root_region s root X ∷ []) (length new)
      rising = rw d.whole a.rising

      go : Split x y (leaves_of_tour a.tour) (leaves a.flat.reads) ms → StillAccepted s bytes new root X a ms
      go (in_first {ns = zs} l f) =
          let there : Between 0 root x = replaced_has (Between 0 root) l (tour_between s laid bytes a.tour 0 root front) in
          let i = tour_renewed a.tour stays 0 root front l o d in
          let r = reads_agree bytes new s laid a.flat.reads (d.behind root (size_of s.layouts X) (omega (arith, there, overwrites_size o))) in
          record {
            after = record { value = a.value; regions = a.regions; seen = a.seen; flat = record { fits = fits; reads = r.0; holes = refl }; tour = i.0; rising = rising };
            holes = refl;
            regions = refl;
            seen = refl;
            leaves = ap₂ (λ a c. a ++ c) (i.1) (r.1) ∙ f;
          }
      go (in_later {ns = zs} l f) =
          let there : Between root (root + size_of s.layouts X) x = replaced_has (Between root (root + size_of s.layouts X)) l (leaves_between s laid bytes a.flat.reads) in
          let i = tour_agree bytes new s laid a.tour stays 0 root front (omega (arith, d.whole)) (d.before 0 (root - 0) (omega arith)) in
          let q = renewed a.flat.reads l o d in
          let j : ToursWith [] empty (pointers q.found) a.regions a.seen (leaves_of_tour a.tour) = rw q.holes i in
          record {
            after = record { value = q.found; regions = a.regions; seen = a.seen; flat = record { fits = fits; reads = q.reads; holes = refl }; tour = j.0; rising = rising };
            holes = q.holes;
            regions = refl;
            seen = refl;
            leaves = ap₂ (λ a c. a ++ c) (j.1) q.are ∙ f;
          }

-- a leaf of an accepted buffer lies in it
module _ (s : SchemaTable) (laid : LaidOut s) (bytes : List ℕ) where
  pub leaf_fits : {root : ℕ} {X : Shape} (a : Accepted s bytes root X) {x y : PlacedLeaf} {ms : List PlacedLeaf} → Replaced x y (leaves_of a) ms → leaf_begin x + leaf_size x ≤ length bytes
  leaf_fits {root = root} {X = X} a {x} k =
      let front : Rising 0 a.regions root = rising_front 0 a.regions (root_region s root X) [] (length bytes) a.rising in
      let here : Between 0 (root + size_of s.layouts X) x = replaced_has (Between 0 (root + size_of s.layouts X)) k
      (All-append (Between 0 (root + size_of s.layouts X)) (leaves_of_tour a.tour) (leaves a.flat.reads)
      (between_more 0 root 0 (root + size_of s.layouts X) (omega arith) (omega arith) (leaves_of_tour a.tour) (tour_between s laid bytes a.tour 0 root front))
      (between_more root (root + size_of s.layouts X) 0 (root + size_of s.layouts X) (omega arith) (omega arith) (leaves a.flat.reads) (leaves_between s laid bytes a.flat.reads))) in
      omega (arith, a.flat.fits)

  pub edit_accepted : {root : ℕ} {X : Shape} (a : Accepted s bytes root X) {b : List ℕ} {x y : PlacedLeaf} {ms : List PlacedLeaf} → IsFree a x → Replaced x y (leaves_of a) ms → Overwrites b x y → StillAccepted s bytes (edit bytes (leaf_begin x) b) root X a ms
  edit_accepted a {b} {x} free k o = accepted_renewed s laid bytes (edit bytes (leaf_begin x) b) b a free k o (edit_edits bytes (leaf_begin x) b (omega (arith, leaf_fits a k, overwrites_size o)))

-- a leaf that stands in a list can be replaced there
pub replaced_one : (x y : PlacedLeaf) (xs : List PlacedLeaf) → Contains xs x → (ys : List PlacedLeaf) × Replaced x y xs ys
replaced_one x y [] c = absurd (omega (arith, c.1))
replaced_one x y (z ∷ xs) c = ⊎_elim
    (λ same. rw same (y ∷ xs, replaced_here))
    (λ later. let (ys, h) = replaced_one x y xs later in (z ∷ ys, replaced_later h))
    (contains_cases z xs x c)
