-- What is viewed as one value has no length: no pointer to one value has, and what lies in a region is one value.
use Rattle.std.proofs.Common.{◌≡◌, ℕ, List, [], ◌∷◌, ◌++◌, All, Bool, true, false, refl}
use Rattle.std.proofs.Math.Logic.{∥∥₁_elim}
use Rattle.std.proofs.Math.Nat.{ℕ_set}
use Rattle.std.proofs.lemmas.List.Elements.{All-nil, All-cons, All-head, All-tail, All-append, All-contains}
use Rattle.archive_check.specs.Shape.{Shape, Parts, Pointee, one, run, text, entry_of}
use Rattle.archive_check.specs.Layout.{has_length}
use Rattle.archive_check.specs.Definitions.{Definitions}
use Rattle.archive_check.specs.Value.{Pointer, Value, Values, value, pointers, all_pointers}
use Rattle.archive_check.specs.Reads.{SchemaTable, length_at, pointer_at, string_at, Reads, reads_leaf, reads_parts, reads_choice, reads_array, reads_boxed, reads_vec, reads_map, reads_inline, reads_out_of_line, reads_shared, reads_null, reads_weak, reads_named, ReadsParts, reads_no_part, reads_part, ReadsRun, reads_none, reads_element}
use Rattle.archive_check.specs.Tour.{Region, region_of, root_region, Contents, contents_one, contents_run, contents_text, Seen, Tour, tour_end, tour_unique, tour_new, tour_again, Accepted}
use Rattle.archive_check.specs.Leaves.{regions_of}
use Rattle.archive_check.specs.Within.{PartOfRegion, whole_region, in_one, in_run, in_string}
use Rattle.archive_check.specs.Viewed.{Lies, Viewed}

-- of one value the length is 0
abbrev IsOneLength : Pointee → ℕ → Type 0
IsOneLength P n = has_length P ≡ false → n ≡ 0

abbrev IsOfLength : Pointer → Type 0
IsOfLength p = IsOneLength p.pointee p.length

abbrev RegionOfLength : Region → Type 0
RegionOfLength r = IsOneLength r.pointee r.length

length_of_one : (bytes : List ℕ) (p : ℕ) (P : Pointee) → IsOneLength P (length_at bytes p P)
length_of_one bytes p (one X) e = refl
length_of_one bytes p (run X) e = cc
length_of_one bytes p text e = cc

module _ (s : SchemaTable) (bytes : List ℕ) where
  hole_of_length : (p : Pointer) → IsOfLength p → All IsOfLength (p ∷ [])
  hole_of_length p h = All-cons IsOfLength p [] h (All-nil IsOfLength)

  mutual
    reads_lengths : {p : ℕ} {X : Shape} {v : Value} → Reads s bytes p X v → All IsOfLength (pointers v)
    reads_lengths (reads_leaf h) = All-nil IsOfLength
    reads_lengths (reads_parts h) = parts_lengths h
    reads_lengths (reads_choice e h) = parts_lengths h
    reads_lengths (reads_array h) = run_lengths h
    reads_lengths (reads_boxed {p = p} {P = P}) = hole_of_length _ (length_of_one bytes p P)
    reads_lengths (reads_vec {p = p} {X = X}) = hole_of_length _ (length_of_one bytes p (run X))
    reads_lengths (reads_map {p = p} {K = K} {V = V}) = hole_of_length _ (length_of_one bytes p (run (entry_of K V)))
    reads_lengths (reads_inline i u) = All-nil IsOfLength
    reads_lengths (reads_out_of_line {p = p} i long) = hole_of_length (string_at bytes p) (λ e. cc)
    reads_lengths (reads_shared {p = p} {P = P}) = hole_of_length _ (length_of_one bytes p P)
    reads_lengths (reads_null e) = All-nil IsOfLength
    reads_lengths (reads_weak {p = p} {P = P} e) = hole_of_length _ (length_of_one bytes p P)
    reads_lengths (reads_named d h) = reads_lengths h

    parts_lengths : {p at : ℕ} {ps : Parts} {vs : Values} → ReadsParts s bytes p at ps vs → All IsOfLength (all_pointers vs)
    parts_lengths reads_no_part = All-nil IsOfLength
    parts_lengths (reads_part {v = v} {vs = vs} h hs) = All-append IsOfLength (pointers v) (all_pointers vs) (reads_lengths h) (parts_lengths hs)

    run_lengths : {p n : ℕ} {X : Shape} {vs : Values} → ReadsRun s bytes p n X vs → All IsOfLength (all_pointers vs)
    run_lengths reads_none = All-nil IsOfLength
    run_lengths (reads_element {v = v} {vs = vs} h hs) = All-append IsOfLength (pointers v) (all_pointers vs) (reads_lengths h) (run_lengths hs)

  contents_lengths : {q n : ℕ} {P : Pointee} {v : Value} → Contents s bytes q P n v → All IsOfLength (pointers v)
  contents_lengths (contents_one h) = reads_lengths h
  contents_lengths (contents_run h) = run_lengths h
  contents_lengths (contents_text u) = All-nil IsOfLength

  with_region : (C : List Region) (r : Region) (D : List Region) → All RegionOfLength C → RegionOfLength r → All RegionOfLength D → All RegionOfLength (C ++ r ∷ D)
  with_region C r D h f i = All-append RegionOfLength C (r ∷ D) h (All-cons RegionOfLength r D f i)

  tour_lengths : {pending : List ℕ} {seen last : Seen} {O : List Pointer} {C : List Region} → Tour s bytes pending seen O C last → All IsOfLength O → All RegionOfLength C
  tour_lengths tour_end h = All-nil RegionOfLength
  tour_lengths (tour_unique {p = p} {ps = ps} {t = t} {C = C} {D = D} e l i j) h =
      with_region C (region_of s p t) D (tour_lengths i (contents_lengths l.contents)) (All-head IsOfLength p ps h) (tour_lengths j (All-tail IsOfLength p ps h))
  tour_lengths (tour_new {p = p} {ps = ps} {t = t} {C = C} {D = D} e none l i j) h =
      with_region C (region_of s p t) D (tour_lengths i (contents_lengths l.contents)) (All-head IsOfLength p ps h) (tour_lengths j (All-tail IsOfLength p ps h))
  tour_lengths (tour_again {p = p} {ps = ps} e there known free j) h = tour_lengths j (All-tail IsOfLength p ps h)

  accepted_lengths : {root : ℕ} {X : Shape} (a : Accepted s bytes root X) → All RegionOfLength (regions_of a)
  accepted_lengths {root = root} {X = X} a = with_region a.regions (root_region s root X) [] (tour_lengths a.tour (reads_lengths a.flat.reads)) (λ e. refl) (All-nil RegionOfLength)

  part_length : {r : Region} {q n : ℕ} {P : Pointee} → PartOfRegion s bytes r q P n → RegionOfLength r → IsOneLength P n
  part_length whole_region h = h
  part_length (in_one e w) h = λ one. refl
  part_length (in_run e below w) h = λ one. refl
  part_length (in_string i inline) h = λ one. cc

  lies_length : {q n : ℕ} {P : Pointee} → Lies s bytes q P n → IsOneLength P n
  lies_length l = let (r, c, i) = l.part in part_length i (All-contains RegionOfLength (regions_of l.accepted) r (accepted_lengths l.accepted) c)

pub one_has_no_length : (D : Definitions) (bytes : List ℕ) (q : ℕ) (P : Pointee) (n : ℕ) → Viewed D bytes q P n → has_length P ≡ false → n ≡ 0
one_has_no_length D bytes q P n viewed is = ∥∥₁_elim viewed (ℕ_set _ _) (λ (s, k, l). lies_length s bytes l is)
