-- The parts of an archive stay its parts where a leaf is written over, and what seals come to stays come to.
use Rattle.std.proofs.Common.{◌≡◌, ℕ, zero, suc, ◌+◌, ◌-◌, ◌*◌, ◌<◌, pos, List, [], ◌∷◌, ◌++◌, length, slice_index, Some, Contains, All, IsUtf8, arith, refl, sym, ap, subst, ◌∙◌}
use Rattle.std.proofs.Math.Logic.{∥∥₁_map}
use Rattle.std.proofs.lemmas.List.Elements.{All-nil, All-cons, All-append, All-contains}
use Rattle.archive_check.specs.Shape.{Name, Shape, parts, choice, array, str, named, Pointee, one, run, text, Parts, Variants, definition, variant_at}
use Rattle.archive_check.specs.Layout.{size_of}
use Rattle.archive_check.specs.Value.{Pointer, Value, Values, product, case, list, text_value, hole, value, pointers, all_pointers}
use Rattle.archive_check.specs.Reads.{SchemaTable, LaidOut, bytes_at, u32_at, map_at, before_end, IsOutOfLine, Reads, reads_parts, reads_choice, reads_array, reads_inline, reads_out_of_line, reads_named, ReadsParts, reads_part, ReadsRun, reads_none, reads_element}
use Rattle.archive_check.specs.Tour.{Region, region_of, root_region, pointee_size, Rising, Contents, contents_one, contents_run, contents_text, Leads, Seen, Tour, tour_end, tour_unique, tour_new, tour_again, Accepted}
use Rattle.archive_check.specs.Leaves.{PlacedLeaf, number_leaf, text_leaf, leaf_begin, leaf_value, leaves, leaves_of_contents, leaves_of_tour, leaves_of, regions_of, IsFree, edit, Overwrites, overwrites_number, overwrites_text, Replaced, Altered, altered_here, altered_product, altered_case, altered_list, altered_box, AlteredAmong, altered_first, altered_later, StillAccepted}
use Rattle.archive_check.specs.Within.{IsPart, first_part, later_part, Within, whole, in_parts, in_choice, in_array, in_named, PartOfRegion, whole_region, in_one, in_run, in_string, PartOfSome}
use Rattle.archive_check.proofs.Editing.EditedArchives.{replaced_has, Split, in_first, in_later, split, overwrites_size, renewed, contents_renewed, accepted_renewed, leaf_fits, replaced_one}
use Rattle.archive_check.proofs.Editing.EditedBytes.{Edits, edit_edits}
use Rattle.archive_check.proofs.Tours.EqualBytes.{Agrees, agrees_part, reads_agree}
use Rattle.archive_check.proofs.Tours.EqualTours.{contents_agree}
use Rattle.archive_check.proofs.Tours.JoinedTours.{rising_le, rising_front, rising_back}
use Rattle.archive_check.proofs.Meanings.MeaningUnique.{tours_one}
use Rattle.archive_check.proofs.Tours.RegionsApart.{Between, leaves_between, contents_between, tour_between}
use Rattle.archive_check.proofs.Editing.Texts.{inline_bytes}
use Rattle.archive_check.proofs.Tours.ReadingUnique.{contents_one_value}
use Rattle.archive_check.specs.ComesTo.{ComesTo, to_root, to_part, to_element, to_text, to_target, to_value}
use Rattle.archive_check.specs.Revised.{WritesLeaf}
use Rattle.archive_types.specs.Sealed.{StandsIn}
use Rattle.archive_types.specs.Standing.{View, view}
use Rattle.archive_core.specs.SealsKept.{IsFreeIn, KeepsParts, LieTogether, KeepsSeals}
use Rattle.archive_core.specs.SealOutcomes.{WritesOver}
use Rattle.archive_core.proofs.ComePart.{map_hole, come_part}

-- the second value is the first one, or that with the leaf y in place of x
data Kin (x y : PlacedLeaf) : Value → Value → Type 0 where
  kin_same : {v : Value} → Kin x y v v
  kin_altered : {v w : Value} → Altered x y v w → Kin x y v w

data KinAmong (x y : PlacedLeaf) : Values → Values → Type 0 where
  all_same : {vs : Values} → KinAmong x y vs vs
  one_altered : {vs ws : Values} → AlteredAmong x y vs ws → KinAmong x y vs ws

-- a leaf has no parts

not_product : (x : PlacedLeaf) {vs : Values} → leaf_value x ≡ product vs → ⊥
not_product (number_leaf p kind z) e = cc
not_product (text_leaf p t) e = cc

not_case : (x : PlacedLeaf) {tag : ℕ} {vs : Values} → leaf_value x ≡ case tag vs → ⊥
not_case (number_leaf p kind z) e = cc
not_case (text_leaf p t) e = cc

not_list : (x : PlacedLeaf) {vs : Values} → leaf_value x ≡ list vs → ⊥
not_list (number_leaf p kind z) e = cc
not_list (text_leaf p t) e = cc

not_hole : (x : PlacedLeaf) {p : Pointer} → leaf_value x ≡ hole p → ⊥
not_hole (number_leaf p kind z) e = cc
not_hole (text_leaf p t) e = cc

-- so what is altered of a value with parts is altered in one of them

product_altered : {x y : PlacedLeaf} {v w : Value} {vs ws : Values} → Altered x y v w → v ≡ product vs → w ≡ product ws → AlteredAmong x y vs ws
product_altered {x} altered_here e f = absurd (not_product x e)
product_altered {vs = vs} {ws = ws} (altered_product {vs = us} {ws = zs} a) e f = let g : us ≡ vs = cc in let h : zs ≡ ws = cc in rw (g, h) at a
product_altered (altered_case a) e f = cc
product_altered (altered_list a) e f = cc
product_altered (altered_box a) e f = cc

case_altered : {x y : PlacedLeaf} {v w : Value} {tag other : ℕ} {vs ws : Values} → Altered x y v w → v ≡ case tag vs → w ≡ case other ws → (other ≡ tag) × AlteredAmong x y vs ws
case_altered {x} altered_here e f = absurd (not_case x e)
case_altered (altered_product a) e f = cc
case_altered {tag = tag} {other = other} {vs = vs} {ws = ws} (altered_case {tag = t} {vs = us} {ws = zs} a) e f =
    let k : other ≡ tag = cc in let g : us ≡ vs = cc in let h : zs ≡ ws = cc in (k, rw (g, h) at a)
case_altered (altered_list a) e f = cc
case_altered (altered_box a) e f = cc

list_altered : {x y : PlacedLeaf} {v w : Value} {vs ws : Values} → Altered x y v w → v ≡ list vs → w ≡ list ws → AlteredAmong x y vs ws
list_altered {x} altered_here e f = absurd (not_list x e)
list_altered (altered_product a) e f = cc
list_altered (altered_case a) e f = cc
list_altered {vs = vs} {ws = ws} (altered_list {vs = us} {ws = zs} a) e f = let g : us ≡ vs = cc in let h : zs ≡ ws = cc in rw (g, h) at a
list_altered (altered_box a) e f = cc

among_altered : {x y : PlacedLeaf} {vs ws us zs : Values} {v w : Value} → AlteredAmong x y vs ws → vs ≡ value v us → ws ≡ value w zs → Kin x y v w × KinAmong x y us zs
among_altered {us = us} {zs = zs} {v = v} {w = w} (altered_first {v = a} {w = b} {vs = rs} h) e f =
    let i : a ≡ v = cc in let j : b ≡ w = cc in let k : us ≡ rs = cc in let l : zs ≡ rs = cc in (kin_altered (rw (i, j) at h), rw (k, l) all_same)
among_altered {us = us} {zs = zs} {v = v} {w = w} (altered_later {v = a} {vs = rs} {ws = ts} h) e f =
    let i : v ≡ a = cc in let j : w ≡ a = cc in let k : rs ≡ us = cc in let l : ts ≡ zs = cc in (rw (i, j) kin_same, one_altered (rw (k, l) at h))

product_kin : {x y : PlacedLeaf} {v w : Value} {vs ws : Values} → Kin x y v w → v ≡ product vs → w ≡ product ws → KinAmong x y vs ws
product_kin {vs = vs} {ws = ws} kin_same e f = let g : ws ≡ vs = cc in rw g all_same
product_kin (kin_altered a) e f = one_altered (product_altered a e f)

case_kin : {x y : PlacedLeaf} {v w : Value} {tag other : ℕ} {vs ws : Values} → Kin x y v w → v ≡ case tag vs → w ≡ case other ws → (other ≡ tag) × KinAmong x y vs ws
case_kin {tag = tag} {other = other} {vs = vs} {ws = ws} kin_same e f = let h : other ≡ tag = cc in let g : ws ≡ vs = cc in (h, rw g all_same)
case_kin (kin_altered a) e f = let (h, g) = case_altered a e f in (h, one_altered g)

list_kin : {x y : PlacedLeaf} {v w : Value} {vs ws : Values} → Kin x y v w → v ≡ list vs → w ≡ list ws → KinAmong x y vs ws
list_kin {vs = vs} {ws = ws} kin_same e f = let g : ws ≡ vs = cc in rw g all_same
list_kin (kin_altered a) e f = one_altered (list_altered a e f)

among_kin : {x y : PlacedLeaf} {vs ws us zs : Values} {v w : Value} → KinAmong x y vs ws → vs ≡ value v us → ws ≡ value w zs → Kin x y v w × KinAmong x y us zs
among_kin {us = us} {zs = zs} {v = v} {w = w} all_same e f = let g : w ≡ v = cc in let h : zs ≡ us = cc in (rw g kin_same, rw h all_same)
among_kin (one_altered a) e f = among_altered a e f

-- a text that is written over another one has as many bytes
text_altered : {b : List ℕ} {x y : PlacedLeaf} {v w : Value} {t u : List ℕ} → Overwrites b x y → Altered x y v w → v ≡ text_value t → w ≡ text_value u → length u ≡ length t
text_altered (overwrites_number legal) altered_here e f = cc
text_altered {b = b} {t = t} {u = u} (overwrites_text {text = old} utf8 size) altered_here e f = let g : old ≡ t = cc in let h : b ≡ u = cc in rw (g, h) at size
text_altered o (altered_product a) e f = cc
text_altered o (altered_case a) e f = cc
text_altered o (altered_list a) e f = cc
text_altered o (altered_box a) e f = cc

text_kin : {b : List ℕ} {x y : PlacedLeaf} {v w : Value} {t u : List ℕ} → Overwrites b x y → Kin x y v w → v ≡ text_value t → w ≡ text_value u → length u ≡ length t
text_kin {t = t} {u = u} o kin_same e f = let g : u ≡ t = cc in ap (λ l. length l) g
text_kin o (kin_altered a) e f = text_altered o a e f

hole_altered : {x y : PlacedLeaf} {v w : Value} {t : List ℕ} {p : Pointer} → Altered x y v w → v ≡ text_value t → w ≡ hole p → ⊥
hole_altered {y = y} altered_here e f = not_hole y f
hole_altered (altered_product a) e f = cc
hole_altered (altered_case a) e f = cc
hole_altered (altered_list a) e f = cc
hole_altered (altered_box a) e f = cc

hole_kin : {x y : PlacedLeaf} {v w : Value} {t : List ℕ} {p : Pointer} → Kin x y v w → v ≡ text_value t → w ≡ hole p → ⊥
hole_kin kin_same e f = cc
hole_kin (kin_altered a) e f = hole_altered a e f

-- what is altered has the pointers that it had

leaf_pointers : (x : PlacedLeaf) → pointers (leaf_value x) ≡ []
leaf_pointers (number_leaf p kind z) = refl
leaf_pointers (text_leaf p t) = refl

mutual
  altered_pointers : {x y : PlacedLeaf} {v w : Value} → Altered x y v w → pointers w ≡ pointers v
  altered_pointers {x} {y} altered_here = leaf_pointers y ∙ sym (leaf_pointers x)
  altered_pointers (altered_product a) = among_pointers a
  altered_pointers (altered_case a) = among_pointers a
  altered_pointers (altered_list a) = among_pointers a
  altered_pointers (altered_box a) = altered_pointers a

  among_pointers : {x y : PlacedLeaf} {vs ws : Values} → AlteredAmong x y vs ws → all_pointers ws ≡ all_pointers vs
  among_pointers (altered_first {vs = vs} a) = ap (λ O. O ++ all_pointers vs) (altered_pointers a)
  among_pointers (altered_later {v = v} a) = ap (λ O. pointers v ++ O) (among_pointers a)

kin_pointers : {x y : PlacedLeaf} {v w : Value} → Kin x y v w → pointers w ≡ pointers v
kin_pointers kin_same = refl
kin_pointers (kin_altered a) = altered_pointers a

-- and what is a pointer alone stays that pointer
holes_kin : {x y : PlacedLeaf} {v w : Value} {p q : Pointer} → Kin x y v w → v ≡ hole p → w ≡ hole q → q ≡ p
holes_kin kin_same e f = cc
holes_kin {x} (kin_altered altered_here) e f = absurd (not_hole x e)
holes_kin (kin_altered (altered_product a)) e f = cc
holes_kin (kin_altered (altered_case a)) e f = cc
holes_kin (kin_altered (altered_list a)) e f = cc
holes_kin (kin_altered (altered_box a)) e f = cc

module _ (s : SchemaTable) (laid : LaidOut s) (bytes new b : List ℕ) (x y : PlacedLeaf) (o : Overwrites b x y) (d : Edits bytes new (leaf_begin x) b) where
  -- what the region says before and after
  abbrev Kept : Region → Type 0
  Kept r = (v : Value) × (w : Value) × Contents s bytes r.begin r.pointee r.length v × Contents s new r.begin r.pointee r.length w × Kin x y v w

  around : (C : List Region) (r : Region) (D : List Region) → All Kept C → Kept r → All Kept D → All Kept (C ++ r ∷ D)
  around C r D h i j = All-append Kept C (r ∷ D) h (All-cons Kept r D i j)

  -- where no byte of the regions changed
  tour_unchanged : {pending : List ℕ} {seen last : Seen} {O : List Pointer} {C : List Region} (i : Tour s bytes pending seen O C last) (start stop : ℕ) → Rising start C stop → Agrees bytes new start (stop - start) → All Kept C
  tour_unchanged tour_end start stop rising same = All-nil Kept
  tour_unchanged (tour_unique {p = p} {t = t} {v = v} {C = C} {D = D} e h i j) start stop rising same =
      let front = rising_front start C (region_of s p t) D stop rising in
      let back = rising_back start C (region_of s p t) D stop rising in
      let above = rising_le start C t front in
      let below = rising_le (t + pointee_size s p.pointee p.length) D stop back in
      around C (region_of s p t) D
      (tour_unchanged i start t front (agrees_part bytes new start (t - start) (omega arith) (omega arith) same))
      (v, v, h.contents, (contents_agree bytes new s laid h.contents (agrees_part bytes new t (pointee_size s p.pointee p.length) above (omega arith) same)).0, kin_same)
      (tour_unchanged j (t + pointee_size s p.pointee p.length) stop back (agrees_part bytes new (t + pointee_size s p.pointee p.length) (stop - (t + pointee_size s p.pointee p.length)) (omega arith) (omega arith) same))
  tour_unchanged (tour_new {p = p} {t = t} {v = v} {C = C} {D = D} e none h i j) start stop rising same =
      let front = rising_front start C (region_of s p t) D stop rising in
      let back = rising_back start C (region_of s p t) D stop rising in
      let above = rising_le start C t front in
      let below = rising_le (t + pointee_size s p.pointee p.length) D stop back in
      around C (region_of s p t) D
      (tour_unchanged i start t front (agrees_part bytes new start (t - start) (omega arith) (omega arith) same))
      (v, v, h.contents, (contents_agree bytes new s laid h.contents (agrees_part bytes new t (pointee_size s p.pointee p.length) above (omega arith) same)).0, kin_same)
      (tour_unchanged j (t + pointee_size s p.pointee p.length) stop back (agrees_part bytes new (t + pointee_size s p.pointee p.length) (stop - (t + pointee_size s p.pointee p.length)) (omega arith) (omega arith) same))
  tour_unchanged (tour_again e t known free j) start stop rising same = tour_unchanged j start stop rising same

  -- where the leaf stands in one of them
  module _ {inner pending : List ℕ} {first mid last : Seen} {p : Pointer} {O : List Pointer} {t : ℕ} {v : Value} {C D : List Region}
      (h : Leads s bytes p t v) (i : Tour s bytes inner first (pointers v) C mid) (j : Tour s bytes pending mid O D last)
      (start stop : ℕ) (front : Rising start C t) (back : Rising (t + pointee_size s p.pointee p.length) D stop) where
    in_own : {zs : List PlacedLeaf} → Replaced x y (leaves_of_tour i) zs → All Kept C → All Kept (C ++ region_of s p t ∷ D)
    in_own k own =
        let there : Between start t x = replaced_has (Between start t) k (tour_between s laid bytes i start t front) in
        around C (region_of s p t) D own
        (v, v, h.contents, (contents_agree bytes new s laid h.contents (d.behind t (pointee_size s p.pointee p.length) (omega (arith, there, overwrites_size o)))).0, kin_same)
        (tour_unchanged j (t + pointee_size s p.pointee p.length) stop back (d.behind (t + pointee_size s p.pointee p.length) (stop - (t + pointee_size s p.pointee p.length)) (omega (arith, there, overwrites_size o))))

    in_this : {zs : List PlacedLeaf} → Replaced x y (leaves_of_contents h.contents) zs → All Kept (C ++ region_of s p t ∷ D)
    in_this k =
        let q = contents_renewed s laid bytes new b h.contents h.fits k o d in
        let there : Between t (t + pointee_size s p.pointee p.length) x = replaced_has (Between t (t + pointee_size s p.pointee p.length)) k (contents_between s laid bytes h.contents) in
        around C (region_of s p t) D
        (tour_unchanged i start t front (d.before start (t - start) (omega (arith, rising_le start C t front, there))))
        (v, q.found, h.contents, q.contents, kin_altered q.altered)
        (tour_unchanged j (t + pointee_size s p.pointee p.length) stop back (d.behind (t + pointee_size s p.pointee p.length) (stop - (t + pointee_size s p.pointee p.length)) (omega (arith, there, overwrites_size o))))

    in_rest : {zs : List PlacedLeaf} → Replaced x y (leaves_of_tour j) zs → All Kept D → All Kept (C ++ region_of s p t ∷ D)
    in_rest k rest =
        let there : Between (t + pointee_size s p.pointee p.length) stop x = replaced_has (Between (t + pointee_size s p.pointee p.length) stop) k (tour_between s laid bytes j (t + pointee_size s p.pointee p.length) stop back) in
        around C (region_of s p t) D
        (tour_unchanged i start t front (d.before start (t - start) (omega (arith, rising_le start C t front, there))))
        (v, v, h.contents, (contents_agree bytes new s laid h.contents (d.before t (pointee_size s p.pointee p.length) (omega (arith, there)))).0, kin_same)
        rest

    in_any : {ms : List PlacedLeaf} → Split x y (leaves_of_tour i) (leaves_of_contents h.contents ++ leaves_of_tour j) ms
        → ((zs : List PlacedLeaf) → Replaced x y (leaves_of_tour i) zs → All Kept C)
        → ((zs : List PlacedLeaf) → Replaced x y (leaves_of_tour j) zs → All Kept D)
        → All Kept (C ++ region_of s p t ∷ D)
    in_any (in_first {ns = ns} k f) own rest = in_own k (own ns k)
    in_any (in_later {ns = ns} k f) own rest = go (split (leaves_of_contents h.contents) k)
      where
        go : Split x y (leaves_of_contents h.contents) (leaves_of_tour j) ns → All Kept (C ++ region_of s p t ∷ D)
        go (in_first l g) = in_this l
        go (in_later {ns = zs} l g) = in_rest l (rest zs l)

  tour_kept : {pending : List ℕ} {seen last : Seen} {O : List Pointer} {C : List Region} (i : Tour s bytes pending seen O C last) (start stop : ℕ) → Rising start C stop → {ms : List PlacedLeaf} → Replaced x y (leaves_of_tour i) ms → All Kept C
  tour_kept tour_end start stop rising k = All-nil Kept
  tour_kept (tour_unique {p = p} {t = t} {C = C} {D = D} e h i j) start stop rising k =
      let front = rising_front start C (region_of s p t) D stop rising in
      let back = rising_back start C (region_of s p t) D stop rising in
      in_any h i j start stop front back (split (leaves_of_tour i) {zs = leaves_of_contents h.contents ++ leaves_of_tour j} k)
      (λ zs l. tour_kept i start t front l) (λ zs l. tour_kept j (t + pointee_size s p.pointee p.length) stop back l)
  tour_kept (tour_new {p = p} {t = t} {C = C} {D = D} e none h i j) start stop rising k =
      let front = rising_front start C (region_of s p t) D stop rising in
      let back = rising_back start C (region_of s p t) D stop rising in
      in_any h i j start stop front back (split (leaves_of_tour i) {zs = leaves_of_contents h.contents ++ leaves_of_tour j} k)
      (λ zs l. tour_kept i start t front l) (λ zs l. tour_kept j (t + pointee_size s p.pointee p.length) stop back l)
  tour_kept (tour_again e t known free j) start stop rising k = tour_kept j start stop rising k

  accepted_kept : {root : ℕ} {X : Shape} (a : Accepted s bytes root X) {ms : List PlacedLeaf} → Replaced x y (leaves_of a) ms → All Kept (regions_of a)
  accepted_kept {root = root} {X = X} a {ms} k = go (split (leaves_of_tour a.tour) k)
    where
      front : Rising 0 a.regions root
      front = rising_front 0 a.regions (root_region s root X) [] (length bytes) a.rising

      go : Split x y (leaves_of_tour a.tour) (leaves a.flat.reads) ms → All Kept (regions_of a)
      go (in_first l f) =
          let there : Between 0 root x = replaced_has (Between 0 root) l (tour_between s laid bytes a.tour 0 root front) in
          let r = reads_agree bytes new s laid a.flat.reads (d.behind root (size_of s.layouts X) (omega (arith, there, overwrites_size o))) in
          around a.regions (root_region s root X) [] (tour_kept a.tour 0 root front l) (a.value, a.value, contents_one a.flat.reads, contents_one (r.0), kin_same) (All-nil Kept)
      go (in_later l f) =
          let there : Between root (root + size_of s.layouts X) x = replaced_has (Between root (root + size_of s.layouts X)) l (leaves_between s laid bytes a.flat.reads) in
          let q = renewed s laid bytes new b a.flat.reads l o d in
          around a.regions (root_region s root X) [] (tour_unchanged a.tour 0 root front (d.before 0 (root - 0) (omega (arith, there))))
          (a.value, q.found, contents_one a.flat.reads, contents_one q.reads, kin_altered q.altered) (All-nil Kept)

  -- what is read of a part before and after
  abbrev Both : ℕ → Shape → Type 0
  Both q Y = (v : Value) × (w : Value) × Reads s bytes q Y v × Reads s new q Y w × Kin x y v w

  parts_both : {p at q : ℕ} {ps : Parts} {vs ws : Values} {Y : Shape} → IsPart s p at ps q Y → ReadsParts s bytes p at ps vs → ReadsParts s new p at ps ws → KinAmong x y vs ws → Both q Y
  parts_both first_part (reads_part {v = v} r rs) (reads_part {v = w} k ks) h = (v, w, r, k, (among_kin h refl refl).0)
  parts_both (later_part i) (reads_part r rs) (reads_part k ks) h = parts_both i rs ks ((among_kin h refl refl).1)

  run_both : {p n : ℕ} {X : Shape} {vs ws : Values} (k q : ℕ) → q ≡ p + k * size_of s.layouts X → k < n → ReadsRun s bytes p n X vs → ReadsRun s new p n X ws → KinAmong x y vs ws → Both q X
  run_both k q e below reads_none rs h = absurd (omega arith)
  run_both zero q e below (reads_element {p = p} {X = X} {v = v} r rs) (reads_element {v = w} l ls) h =
      let here : p ≡ q = omega arith in subst (λ t. Both t X) here (v, w, r, l, (among_kin h refl refl).0)
  run_both (suc k) q e below (reads_element r rs) (reads_element l ls) h = run_both k q (omega arith) (omega arith) rs ls ((among_kin h refl refl).1)

  parts_step : {q r : ℕ} {ps : Parts} {v w : Value} {Y : Shape} → IsPart s q 0 ps r Y → Reads s bytes q (parts ps) v → Reads s new q (parts ps) w → Kin x y v w → Both r Y
  parts_step i (reads_parts rs) (reads_parts ks) h = parts_both i rs ks (product_kin h refl refl)

  -- the tag stays
  choice_step : {q r : ℕ} {name : Name} {variants : Variants} {ps : Parts} {v w : Value} {Y : Shape} → variant_at variants (slice_index bytes q) ≡ Some ps → IsPart s q 1 ps r Y
      → Reads s bytes q (choice name variants) v → Reads s new q (choice name variants) w → Kin x y v w → (variant_at variants (slice_index new q) ≡ Some ps) × Both r Y
  choice_step {q = q} {variants = variants} {ps = ps} e i (reads_choice {ps = qs} f rs) (reads_choice {ps = us} g ks) h =
      let (tag, among) = case_kin h refl refl in
      let now : variant_at variants (slice_index new q) ≡ Some ps = rw tag e in
      let same : ps ≡ qs = cc in
      let other : ps ≡ us = cc in
      (now, parts_both i (rw same rs) (rw other ks) among)

  array_step : {q n k : ℕ} {v w : Value} {Y : Shape} → k < n → Reads s bytes q (array n Y) v → Reads s new q (array n Y) w → Kin x y v w → Both (q + k * size_of s.layouts Y) Y
  array_step {k = k} below (reads_array rs) (reads_array ks) h = run_both k _ refl below rs ks (list_kin h refl refl)

  named_step : {q : ℕ} {name : Name} {v w : Value} {Y : Shape} → definition s.table name ≡ Some Y → Reads s bytes q (named name) v → Reads s new q (named name) w → Kin x y v w → Both q Y
  named_step {q = q} {v = v} {w = w} {Y = Y} d (reads_named {X = Z} e r) (reads_named {X = U} f k) h =
      let same : Z ≡ Y = cc in let other : U ≡ Y = cc in (v, w, rw same at r, rw other at k, h)

  within_kept : {p : ℕ} {X : Shape} {q : ℕ} {Y : Shape} {v w : Value} → Within s bytes p X q Y → Reads s bytes p X v → Reads s new p X w → Kin x y v w → Within s new p X q Y × Both q Y
  within_kept {v = v} {w = w} whole r k h = (whole, (v, w, r, k, h))
  within_kept (in_parts i j) r k h = let (u, (v, w, a, c, g)) = within_kept i r k h in (in_parts u j, parts_step j a c g)
  within_kept (in_choice i e j) r k h = let (u, (v, w, a, c, g)) = within_kept i r k h in let (f, l) = choice_step e j a c g in (in_choice u f j, l)
  within_kept (in_array i below) r k h = let (u, (v, w, a, c, g)) = within_kept i r k h in (in_array u below, array_step below a c g)
  within_kept (in_named i e) r k h = let (u, (v, w, a, c, g)) = within_kept i r k h in (in_named u e, named_step e a c g)

  -- and of what lies in a region
  abbrev BothContents : ℕ → Pointee → ℕ → Type 0
  BothContents q P n = (v : Value) × (w : Value) × Contents s bytes q P n v × Contents s new q P n w × Kin x y v w

  one_step : {t n q : ℕ} {X Y : Shape} {v w : Value} → Within s bytes t X q Y → Contents s bytes t (one X) n v → Contents s new t (one X) n w → Kin x y v w → Within s new t X q Y × BothContents q (one Y) 0
  one_step i (contents_one r) (contents_one k) h = let (u, (v, w, a, c, g)) = within_kept i r k h in (u, (v, w, contents_one a, contents_one c, g))

  run_step : {t n k q : ℕ} {X Y : Shape} {v w : Value} → k < n → Within s bytes (t + k * size_of s.layouts X) X q Y → Contents s bytes t (run X) n v → Contents s new t (run X) n w → Kin x y v w
      → Within s new (t + k * size_of s.layouts X) X q Y × BothContents q (one Y) 0
  run_step {t = t} {k = k} {X = X} below i (contents_run rs) (contents_run ks) h =
      let (e, f, j, l, m) = run_both k (t + k * size_of s.layouts X) refl below rs ks (list_kin h refl refl) in
      let (u, (v, w, a, c, g)) = within_kept i j l m in (u, (v, w, contents_one a, contents_one c, g))

  text_of : (bs : List ℕ) (q : ℕ) → IsUtf8 (before_end (bytes_at bs q 8)) → Contents s bs q text (length (before_end (bytes_at bs q 8))) (text_value (before_end (bytes_at bs q 8)))
  text_of bs q u = subst (λ t. Contents s bs q text (length (before_end (bytes_at bs q 8))) (text_value t)) (inline_bytes bs q) (contents_text (rw (inline_bytes bs q) u))

  -- a string in place stays there, with as many bytes
  string_step : {q n : ℕ} {v w : Value} → (IsOutOfLine bytes q → ⊥) → Contents s bytes q (one str) n v → Contents s new q (one str) n w → Kin x y v w
      → (IsOutOfLine new q → ⊥) × (length (before_end (bytes_at new q 8)) ≡ length (before_end (bytes_at bytes q 8))) × BothContents q text (length (before_end (bytes_at bytes q 8)))
  string_step {q = q} inline (contents_one (reads_inline i u)) (contents_one (reads_inline j t)) h =
      let size : length (before_end (bytes_at new q 8)) ≡ length (before_end (bytes_at bytes q 8)) = text_kin o h refl refl in
      (j, size, (_, _, text_of bytes q u, subst (λ n. Contents s new q text n (text_value (before_end (bytes_at new q 8)))) size (text_of new q t), h))
  string_step inline (contents_one (reads_inline i u)) (contents_one (reads_out_of_line j l)) h = absurd (hole_kin h refl refl)
  string_step inline (contents_one (reads_out_of_line j l)) k h = absurd (inline j)

  part_kept : {r : Region} {q : ℕ} {P : Pointee} {n : ℕ} {v w : Value} → PartOfRegion s bytes r q P n → Contents s bytes r.begin r.pointee r.length v → Contents s new r.begin r.pointee r.length w → Kin x y v w
      → PartOfRegion s new r q P n × BothContents q P n
  part_kept {v = v} {w = w} whole_region c k h = (whole_region, (v, w, c, k, h))
  part_kept (in_one e i) c k h = let (j, both) = one_step i (rw e at c) (rw e at k) h in (in_one e j, both)
  part_kept (in_run e below i) c k h = let (j, both) = run_step below i (rw e at c) (rw e at k) h in (in_run e below j, both)
  part_kept {r = r} (in_string {q = q} i inline) c k h =
      let (j, (v, w, a, f, g)) = part_kept i c k h in
      let (now, size, both) = string_step inline a f g in
      (subst (λ m. PartOfRegion s new r q text m) size (in_string j now), both)

  parts_stay : {root : ℕ} {X : Shape} (a : Accepted s bytes root X) {ms : List PlacedLeaf} → IsFree a x → Replaced x y (leaves_of a) ms → (c : Accepted s new root X) → (q : ℕ) (P : Pointee) (n : ℕ)
      → PartOfSome s bytes (regions_of a) q P n → PartOfSome s new (regions_of c) q P n
  parts_stay {root = root} {X = X} a {ms} free k c q P n (r, i, j) =
      let still : StillAccepted s bytes new root X a ms = accepted_renewed s laid bytes new b a free k o d in
      let same : c.regions ≡ a.regions = (tours_one s new still.after c).0 ∙ still.regions in
      let (v, w, f, g, h) = All-contains Kept (regions_of a) r (accepted_kept a k) i in
      (r, rw same i, (part_kept j f g h).0)

  -- what a seal comes to says the same as before, but for the leaf
  module _ {root : ℕ} {X : Shape} (a : Accepted s bytes root X) {ms : List PlacedLeaf} (k : Replaced x y (leaves_of a) ms) where
    there_both : {q n : ℕ} {P : Pointee} → ComesTo s bytes root X q P n → BothContents q P n
    there_both h =
        let (r, i, j) = come_part s bytes a h in
        let (v, w, f, g, kin) = All-contains Kept (regions_of a) r (accepted_kept a k) i in
        (part_kept j f g kin).1

    come_kept : {q n : ℕ} {P : Pointee} → ComesTo s bytes root X q P n → ComesTo s new root X q P n
    come_kept to_root = to_root
    come_kept (to_part h i) =
        let (v, w, f, g, kin) = there_both h in
        to_part (come_kept h) (one_step i f g kin).0
    come_kept (to_element h below) = to_element (come_kept h) below
    come_kept (to_text {q = q} h inline) =
        let (v, w, f, g, kin) = there_both h in
        let (now, size, both) = string_step inline f g kin in
        subst (λ m. ComesTo s new root X q text m) size (to_text (come_kept h) now)
    come_kept (to_target {v = u} {p = p} h c m free there) =
        let (v, w, f, g, kin) = there_both h in
        let same : u ≡ v = contents_one_value c f in
        let has : Contains (pointers w) p = rw (kin_pointers kin, ← same) m in
        to_target (come_kept h) g has free there
    come_kept (to_value {q = q} {t = t} {k = i} {K = K} {V = V} h there below) =
        let (v, w, f, g, kin) = there_both h in
        let same : map_at new q K V ≡ map_at bytes q K V = holes_kin kin (map_hole f) (map_hole g) in
        let target : (map_at new q K V).target ≡ pos t = ap (λ (p : Pointer). p.target) same ∙ there in
        let count : u32_at new (q + 4) ≡ u32_at bytes (q + 4) = ap (λ (p : Pointer). p.length) same in
        to_value (come_kept h) target (rw count below)

-- where legal bytes are written over a leaf
module _ (bytes new b : List ℕ) (x y : PlacedLeaf) (o : Overwrites b x y) (e : new ≡ edit bytes (leaf_begin x) b) where
  edits_at : (s : SchemaTable) → LaidOut s → {root : ℕ} {X : Shape} (a : Accepted s bytes root X) {ms : List PlacedLeaf} → Replaced x y (leaves_of a) ms → Edits bytes new (leaf_begin x) b
  edits_at s laid a k =
      let edits : Edits bytes (edit bytes (leaf_begin x) b) (leaf_begin x) b = edit_edits bytes (leaf_begin x) b (omega (arith, leaf_fits s laid bytes a k, overwrites_size o)) in
      rw e edits

  pub leaf_keeps : KeepsParts x bytes new
  leaf_keeps = record {
    parts = λ s root X laid a has free c q P n i.
        let (ms, k) = replaced_one x y (leaves_of a) has in
        parts_stay s laid bytes new b x y o (edits_at s laid a k) a free k c q P n i;
  }

  -- so seals and views of one archive, of which a seal shows the leaf, stay such
  module _ (q : ℕ) (P : Pointee) (n : ℕ) (stands : StandsIn bytes q P n x) (free : IsFreeIn bytes q P n x) where
    together : {s : SchemaTable} {seals views : List View} → LaidOut s → Contains seals (view q P n) → LieTogether s bytes seals views → LieTogether s new seals views
    together {s = s} {seals = seals} laid c l =
        let here : ComesTo s bytes l.root l.shape q P n = All-contains (λ v. ComesTo s bytes l.root l.shape v.begin v.pointee v.length) seals (view q P n) l.come_to c in
        let has : Contains (leaves_of l.accepted) x = stands s l.root l.shape l.accepted (come_part s bytes l.accepted here) in
        let no_key : IsFree l.accepted x = free s l.root l.shape laid l.accepted here in
        let (ms, k) = replaced_one x y (leaves_of l.accepted) has in
        let d = edits_at s laid l.accepted k in
        let still = accepted_renewed s laid bytes new b l.accepted no_key k o d in
        record {
          root = l.root;
          shape = l.shape;
          accepted = still.after;
          come_to = λ i v m. come_kept s laid bytes new b x y o d l.accepted k (l.come_to i v m);
          parts = λ i v m. parts_stay s laid bytes new b x y o d l.accepted no_key k still.after _ _ _ (l.parts i v m);
        }

    pub seals_kept : KeepsSeals bytes new (view q P n)
    seals_kept = record { seals = λ D seals views c h. ∥∥₁_map h (λ (s, k, l). (s, k, together k.laid_out c l)) }

    pub writes_over : WritesLeaf x y bytes new → WritesOver x y q P n bytes new
    writes_over leaf = record { stands = stands; free = free; leaf = leaf; parts = leaf_keeps; seals = seals_kept }
