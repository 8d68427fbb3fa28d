-- A leaf or a text that is a part of an archive is among its leaves.
use Rattle.std.proofs.Common.{◌≡◌, ℕ, zero, suc, ◌+◌, ◌*◌, ◌/◌, ◌<◌, ◌==◌, pos, ◌+ℤ◌, Bool, true, false, nat_eq, if◌then◌else◌, List, [], ◌∷◌, ◌++◌, length, Some, Contains, All, slice_index, arith, refl, sym, ap, subst}
use Rattle.std.proofs.lemmas.Bool.Decides.{nat_tests}
use Rattle.std.proofs.lemmas.List.Elements.{All-nil, All-cons, All-append, All-contains, Contains-append_left, Contains-append_right, Contains-push}
use Rattle.archive_check.specs.Shape.{Name, Kind, Shape, leaf, parts, choice, array, str, named, Pointee, one, run, text, Parts, Variants, definition, variant_at}
use Rattle.archive_check.specs.Layout.{kind_size, size_of}
use Rattle.archive_check.specs.Value.{Pointer, Value, Values, hole, pointers}
use Rattle.archive_check.specs.Reads.{SchemaTable, kind_value, bytes_at, u32_at, i32_at, IsOutOfLine, before_end, decoded_length, string_at, Reads, reads_leaf, reads_parts, reads_choice, reads_array, reads_inline, reads_out_of_line, reads_named, ReadsParts, reads_part, ReadsRun, reads_none, reads_element}
use Rattle.archive_check.specs.Tour.{Region, region_of, root_region, Contents, contents_one, contents_run, contents_text, Seen, Tour, tour_end, tour_unique, tour_new, tour_again, Accepted}
use Rattle.archive_check.specs.Leaves.{PlacedLeaf, number_leaf, text_leaf, leaves, leaves_of_parts, leaves_of_run, leaves_of_contents, leaves_of_tour, leaves_of, regions_of}
use Rattle.archive_check.specs.Within.{IsPart, first_part, later_part, Within, whole, in_parts, in_choice, in_array, in_named, PartOfRegion, whole_region, in_one, in_run, in_string, PartOfSome}
use Rattle.archive_check.proofs.Editing.Texts.{inline_bytes}
use Rattle.archive_check.proofs.Meanings.ReachedParts.{LeadsInto, Closed, part_of_reads, accepted_closed}
use Rattle.archive_check.specs.Readable.{position, target_from, string_text}

-- the leaf of a kind at q
abbrev leaf_here : Kind → List ℕ → ℕ → PlacedLeaf
leaf_here kind bytes q = number_leaf q kind (kind_value kind (bytes_at bytes q (kind_size kind)))

-- each leaf of the first list is one of the second
abbrev Among : List PlacedLeaf → List PlacedLeaf → Type 0
Among xs ys = (x : PlacedLeaf) → Contains xs x → Contains ys x

module _ (s : SchemaTable) (bytes : List ℕ) where
  -- what is read of a part, with its leaves among these
  abbrev Sub : ℕ → Shape → List PlacedLeaf → Type 0
  Sub q Y ys = (w : Value) × (k : Reads s bytes q Y w) × Among (leaves k) ys

  abbrev SubContents : ℕ → Pointee → ℕ → List PlacedLeaf → Type 0
  SubContents q P n ys = (w : Value) × (k : Contents s bytes q P n w) × Among (leaves_of_contents k) ys

  onward : {q : ℕ} {Y : Shape} (xs ys : List PlacedLeaf) → Sub q Y xs → Among xs ys → Sub q Y ys
  onward xs ys (w, k, f) g = (w, k, λ x c. g x (f x c))

  part_leaves : {p at q : ℕ} {ps : Parts} {vs : Values} {Y : Shape} → IsPart s p at ps q Y → (r : ReadsParts s bytes p at ps vs) → Sub q Y (leaves_of_parts r)
  part_leaves first_part (reads_part {v = v} r rs) = (v, r, λ x c. Contains-append_left (leaves r) (leaves_of_parts rs) x c)
  part_leaves (later_part i) (reads_part r rs) = let (w, k, f) = part_leaves i rs in (w, k, λ x c. Contains-append_right (leaves r) (leaves_of_parts rs) x (f x c))

  run_leaves : {p n : ℕ} {X : Shape} {vs : Values} (k q : ℕ) → q ≡ p + k * size_of s.layouts X → k < n → (r : ReadsRun s bytes p n X vs) → Sub q X (leaves_of_run r)
  run_leaves k q e below reads_none = absurd (omega arith)
  run_leaves zero q e below (reads_element {p = p} {X = X} {v = v} r rs) =
      let here : p ≡ q = omega arith in
      subst (λ t. Sub t X (leaves r ++ leaves_of_run rs)) here (v, r, λ x c. Contains-append_left (leaves r) (leaves_of_run rs) x c)
  run_leaves (suc k) q e below (reads_element r rs) =
      let (w, h, f) = run_leaves k q (omega arith) (omega arith) rs in (w, h, λ x c. Contains-append_right (leaves r) (leaves_of_run rs) x (f x c))

  parts_step : {q r : ℕ} {ps : Parts} {u : Value} {Y : Shape} (h : Reads s bytes q (parts ps) u) → IsPart s q 0 ps r Y → Sub r Y (leaves h)
  parts_step (reads_parts rs) i = part_leaves i rs

  choice_step : {q r : ℕ} {name : Name} {variants : Variants} {ps : Parts} {u : Value} {Y : Shape} (h : Reads s bytes q (choice name variants) u) → variant_at variants (slice_index bytes q) ≡ Some ps → IsPart s q 1 ps r Y → Sub r Y (leaves h)
  choice_step {ps = ps} (reads_choice {ps = qs} e rs) f i = let same : ps ≡ qs = cc in part_leaves (rw same at i) rs

  array_step : {q n k : ℕ} {u : Value} {Y : Shape} (h : Reads s bytes q (array n Y) u) → k < n → Sub (q + k * size_of s.layouts Y) Y (leaves h)
  array_step {k = k} (reads_array rs) below = run_leaves k _ refl below rs

  named_step : {q : ℕ} {name : Name} {u : Value} {Y : Shape} (h : Reads s bytes q (named name) u) → definition s.table name ≡ Some Y → Sub q Y (leaves h)
  named_step {q = q} {u = u} {Y = Y} (reads_named {X = Z} d r) e = let same : Z ≡ Y = cc in subst (λ S. Sub q S (leaves r)) same (u, r, λ x c. c)

  within_leaves : {p : ℕ} {X : Shape} {q : ℕ} {Y : Shape} {v : Value} → Within s bytes p X q Y → (r : Reads s bytes p X v) → Sub q Y (leaves r)
  within_leaves {v = v} whole r = (v, r, λ x c. c)
  within_leaves (in_parts w i) r = let (u, h, f) = within_leaves w r in onward (leaves h) (leaves r) (parts_step h i) f
  within_leaves (in_choice w e i) r = let (u, h, f) = within_leaves w r in onward (leaves h) (leaves r) (choice_step h e i) f
  within_leaves (in_array w below) r = let (u, h, f) = within_leaves w r in onward (leaves h) (leaves r) (array_step h below) f
  within_leaves (in_named w d) r = let (u, h, f) = within_leaves w r in onward (leaves h) (leaves r) (named_step h d) f

  one_step : {t n q : ℕ} {X Y : Shape} {v : Value} → Within s bytes t X q Y → (c : Contents s bytes t (one X) n v) → SubContents q (one Y) 0 (leaves_of_contents c)
  one_step w (contents_one r) = let (u, h, f) = within_leaves w r in (u, contents_one h, f)

  run_step : {t n k q : ℕ} {X Y : Shape} {v : Value} → k < n → Within s bytes (t + k * size_of s.layouts X) X q Y → (c : Contents s bytes t (run X) n v) → SubContents q (one Y) 0 (leaves_of_contents c)
  run_step {t = t} {k = k} {X = X} below w (contents_run rs) =
      let (e, g, f) = run_leaves k (t + k * size_of s.layouts X) refl below rs in
      let (u, h, i) = within_leaves w g in (u, contents_one h, λ x c. f x (i x c))

  string_step : {q n : ℕ} {v : Value} (c : Contents s bytes q (one str) n v) → (IsOutOfLine bytes q → ⊥) → SubContents q text (length (before_end (bytes_at bytes q 8))) (leaves_of_contents c)
  string_step {q = q} (contents_one (reads_inline o u)) inline = (_, contents_text (rw (inline_bytes bytes q) u), λ x h. subst (λ t. Contains (text_leaf q t ∷ []) x) (inline_bytes bytes q) h)
  string_step (contents_one (reads_out_of_line o long)) inline = absurd (inline o)

  -- so of what lies in a region
  part_of_leaves : {r : Region} {q : ℕ} {P : Pointee} {n : ℕ} {v : Value} → PartOfRegion s bytes r q P n → (c : Contents s bytes r.begin r.pointee r.length v) → SubContents q P n (leaves_of_contents c)
  part_of_leaves {v = v} whole_region c = (v, c, λ x h. h)
  part_of_leaves {r = r} {v = v} (in_one {q = q} {Y = Y} e w) c =
      subst (λ P. (d : Contents s bytes r.begin P r.length v) → SubContents q (one Y) 0 (leaves_of_contents d)) (sym e) (λ d. one_step w d) c
  part_of_leaves {r = r} {v = v} (in_run {q = q} {Y = Y} e below w) c =
      subst (λ P. (d : Contents s bytes r.begin P r.length v) → SubContents q (one Y) 0 (leaves_of_contents d)) (sym e) (λ d. run_step below w d) c
  part_of_leaves (in_string i inline) c = let (w, h, f) = part_of_leaves i c in let (u, k, g) = string_step h inline in (u, k, λ x d. f x (g x d))

  -- the region says something, and its leaves are among these
  abbrev Covered : List PlacedLeaf → Region → Type 0
  Covered ys r = (v : Value) × (c : Contents s bytes r.begin r.pointee r.length v) × Among (leaves_of_contents c) ys

  around : (ys : List PlacedLeaf) (C : List Region) (r : Region) (D : List Region) → All (Covered ys) C → Covered ys r → All (Covered ys) D → All (Covered ys) (C ++ r ∷ D)
  around ys C r D h i j = All-append (Covered ys) C (r ∷ D) h (All-cons (Covered ys) r D i j)

  tour_covered : {pending : List ℕ} {seen last : Seen} {O : List Pointer} {C : List Region} (i : Tour s bytes pending seen O C last) (ys : List PlacedLeaf) → Among (leaves_of_tour i) ys → All (Covered ys) C
  tour_covered tour_end ys f = All-nil (Covered ys)
  tour_covered (tour_unique {p = p} {t = t} {v = v} {C = C} {D = D} e l i j) ys f =
      around ys C (region_of s p t) D
      (tour_covered i ys (λ x c. f x (Contains-append_left (leaves_of_tour i) (leaves_of_contents l.contents ++ leaves_of_tour j) x c)))
      (v, l.contents, λ x c. f x (Contains-append_right (leaves_of_tour i) (leaves_of_contents l.contents ++ leaves_of_tour j) x (Contains-append_left (leaves_of_contents l.contents) (leaves_of_tour j) x c)))
      (tour_covered j ys (λ x c. f x (Contains-append_right (leaves_of_tour i) (leaves_of_contents l.contents ++ leaves_of_tour j) x (Contains-append_right (leaves_of_contents l.contents) (leaves_of_tour j) x c))))
  tour_covered (tour_new {p = p} {t = t} {v = v} {C = C} {D = D} e none l i j) ys f =
      around ys C (region_of s p t) D
      (tour_covered i ys (λ x c. f x (Contains-append_left (leaves_of_tour i) (leaves_of_contents l.contents ++ leaves_of_tour j) x c)))
      (v, l.contents, λ x c. f x (Contains-append_right (leaves_of_tour i) (leaves_of_contents l.contents ++ leaves_of_tour j) x (Contains-append_left (leaves_of_contents l.contents) (leaves_of_tour j) x c)))
      (tour_covered j ys (λ x c. f x (Contains-append_right (leaves_of_tour i) (leaves_of_contents l.contents ++ leaves_of_tour j) x (Contains-append_right (leaves_of_contents l.contents) (leaves_of_tour j) x c))))
  tour_covered (tour_again e t known free j) ys f = tour_covered j ys f

  accepted_covered : {root : ℕ} {X : Shape} (a : Accepted s bytes root X) → All (Covered (leaves_of a)) (regions_of a)
  accepted_covered {root = root} {X = X} a =
      around (leaves_of a) a.regions (root_region s root X) []
      (tour_covered a.tour (leaves_of a) (λ x c. Contains-append_left (leaves_of_tour a.tour) (leaves a.flat.reads) x c))
      (a.value, contents_one a.flat.reads, λ x c. Contains-append_right (leaves_of_tour a.tour) (leaves a.flat.reads) x c)
      (All-nil (Covered (leaves_of a)))

  part_stands : {root : ℕ} {X : Shape} (a : Accepted s bytes root X) {q : ℕ} {P : Pointee} {n : ℕ} → PartOfSome s bytes (regions_of a) q P n → SubContents q P n (leaves_of a)
  part_stands a (r, c, i) =
      let (v, h, f) = All-contains (Covered (leaves_of a)) (regions_of a) r (accepted_covered a) c in
      let (w, k, g) = part_of_leaves i h in (w, k, λ x d. f x (g x d))

  leaf_there : {q n : ℕ} {kind : Kind} {v : Value} (c : Contents s bytes q (one (leaf kind)) n v) → Contains (leaves_of_contents c) (leaf_here kind bytes q)
  leaf_there {q = q} {kind = kind} (contents_one (reads_leaf l)) = Contains-push [] (leaf_here kind bytes q)

  text_there : {q n : ℕ} {v : Value} (c : Contents s bytes q text n v) → Contains (leaves_of_contents c) (text_leaf q (bytes_at bytes q n))
  text_there {q = q} {n = n} (contents_text u) = Contains-push [] (text_leaf q (bytes_at bytes q n))

  pub leaf_stands : {root : ℕ} {X : Shape} (a : Accepted s bytes root X) (q n : ℕ) (kind : Kind) → PartOfSome s bytes (regions_of a) q (one (leaf kind)) n → Contains (leaves_of a) (leaf_here kind bytes q)
  leaf_stands a q n kind i = let (w, k, f) = part_stands a i in f (leaf_here kind bytes q) (leaf_there k)

  pub text_stands : {root : ℕ} {X : Shape} (a : Accepted s bytes root X) (q n : ℕ) → PartOfSome s bytes (regions_of a) q text n → Contains (leaves_of a) (text_leaf q (bytes_at bytes q n))
  text_stands a q n i = let (w, k, f) = part_stands a i in f (text_leaf q (bytes_at bytes q n)) (text_there k)

  -- the text of a string stands there, too, wherever that is
  pub out_is : {q n : ℕ} {v : Value} → IsOutOfLine bytes q → Contents s bytes q (one str) n v → v ≡ hole (string_at bytes q)
  out_is o (contents_one (reads_inline i u)) = absurd (i o)
  out_is o (contents_one (reads_out_of_line i u)) = refl

  out_stands : {root : ℕ} {X : Shape} (a : Accepted s bytes root X) (q n : ℕ) → IsOutOfLine bytes q → PartOfSome s bytes (regions_of a) q (one str) n
      → Contains (leaves_of a) (text_leaf (target_from bytes q (q + 4)) (bytes_at bytes (target_from bytes q (q + 4)) (decoded_length (u32_at bytes q))))
  out_stands a q n o (r, c, i) =
      let (v, h, leads) = All-contains (Closed s bytes (regions_of a)) (regions_of a) r (accepted_closed s bytes a) c in
      let (w, k, f) = part_of_reads s bytes i h in
      let has : Contains (pointers w) (string_at bytes q) = rw (out_is o k) (Contains-push [] (string_at bytes q)) in
      let (t, x, l, there, y) = All-contains (LeadsInto s bytes (regions_of a)) (pointers v) (string_at bytes q) leads (f (string_at bytes q) has) in
      let leads_there : pos q +ℤ i32_at bytes (q + 4) ≡ pos t = l.target in
      let here : t ≡ target_from bytes q (q + 4) = ap position (sym leads_there) in
      subst (λ z. Contains (leaves_of a) (text_leaf z (bytes_at bytes z (decoded_length (u32_at bytes q))))) here
      (text_stands a t (decoded_length (u32_at bytes q)) (region_of s (string_at bytes q) t, there, whole_region))

  inline_stands : {root : ℕ} {X : Shape} (a : Accepted s bytes root X) (q n : ℕ) → (IsOutOfLine bytes q → ⊥) → PartOfSome s bytes (regions_of a) q (one str) n → Contains (leaves_of a) (text_leaf q (before_end (bytes_at bytes q 8)))
  inline_stands a q n o (r, c, i) =
      subst (λ t. Contains (leaves_of a) (text_leaf q t)) (inline_bytes bytes q) (text_stands a q (length (before_end (bytes_at bytes q 8))) (r, c, in_string i o))

  string_stands_so : {root : ℕ} {X : Shape} (a : Accepted s bytes root X) (q n : ℕ) (b : Bool) → nat_eq (slice_index bytes q / 64) 2 ≡ b → PartOfSome s bytes (regions_of a) q (one str) n
      → Contains (leaves_of a) (text_leaf (if b then target_from bytes q (q + 4) else q) (if b then bytes_at bytes (target_from bytes q (q + 4)) (decoded_length (u32_at bytes q)) else before_end (bytes_at bytes q 8)))
  string_stands_so a q n true e i = let o : IsOutOfLine bytes q = grind (arith, nat_tests) in out_stands a q n o i
  string_stands_so a q n false e i = let o : IsOutOfLine bytes q → ⊥ = λ h. grind (arith, nat_tests, h) in inline_stands a q n o i

  pub string_stands : {root : ℕ} {X : Shape} (a : Accepted s bytes root X) (q n : ℕ) → PartOfSome s bytes (regions_of a) q (one str) n
      → Contains (leaves_of a) (text_leaf (if (slice_index bytes q / 64) == 2 then target_from bytes q (q + 4) else q) (string_text bytes q))
  string_stands a q n i = string_stands_so a q n _ refl i
