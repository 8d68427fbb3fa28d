-- What stands beside a part of an archive: what it shows, what its pointer leads to, and what is behind its tag.
use Rattle.std.proofs.Common.{◌≡◌, ◌≢◌, ℕ, pos, length, ◌+◌, List, [], slice_index, Contains, Option, Some, sym, ap, subst}
use Rattle.std.proofs.lemmas.List.Elements.{Contains-push}
use Rattle.archive_check.specs.Shape.{Name, Flavor, Shape, choice, shared, weak, Pointee, one, Variants, part, no_part, variant_at}
use Rattle.archive_check.specs.Layout.{Layout, up}
use Rattle.archive_check.specs.Value.{Pointer, Value, hole, pointers}
use Rattle.archive_check.specs.Reads.{SchemaTable, i32_at, length_at, pointer_at}
use Rattle.archive_check.specs.Tour.{Contents, Accepted}
use Rattle.archive_check.specs.Leaves.{regions_of}
use Rattle.archive_check.specs.Within.{IsPart, first_part, whole, in_choice, PartOfSome}
use Rattle.archive_check.specs.Reached.{Reached}
use Rattle.archive_check.specs.Readable.{position, target_from}
use Rattle.archive_check.specs.Definitions.{Definitions, Knows, HasLayout}
use Rattle.archive_check.proofs.Meanings.MeaningUnique.{tours_one}
use Rattle.archive_check.proofs.Meanings.ReachedParts.{part_reached, pointer_reached, within_reached}
use Rattle.archive_check.proofs.Viewing.ViewedVariants.{case_begins}
use Rattle.archive_types.proofs.SharedValues.SharedViews.{shared_hole, weak_hole}
use Rattle.archive_types.specs.Standing.{View, view, StandsWith}
use Rattle.archive_types.specs.Views.{ShowsPart}

-- what is reached is a part, whatever the tour
reached_part : {s : SchemaTable} {bytes : List ℕ} {root q n : ℕ} {X : Shape} {P : Pointee} {w : Value} (a : Accepted s bytes root X) → Reached s bytes root X q P n w → PartOfSome s bytes (regions_of a) q P n
reached_part {s = s} {bytes = bytes} a r = let same : r.accepted.regions ≡ a.regions = (tours_one s bytes a r.accepted).0 in rw same at r.part

-- what a part shows stands with it
pub shown_with : (D : Definitions) (bytes : List ℕ) (q : ℕ) (P : Pointee) (n r : ℕ) (Q : Pointee) (m : ℕ) (taken : Value → Option Value) → ShowsPart D bytes q P n r Q m taken → StandsWith D bytes (view q P n) (view r Q m)
shown_with D bytes q P n r Q m taken shows = record {
  stands = λ s root X k a h.
      let (w, reached) = part_reached s bytes a h in
      let (u, e, there) = shows.shown s root X w k reached in
      reached_part a there;
}

-- so does what a pointer leads to
pub pointer_with : (D : Definitions) (bytes : List ℕ) (q n : ℕ) (W : Shape) (p : Pointer) (r : ℕ) → ((t : ℕ) → p.target ≡ pos t → t ≡ r) → ((s : SchemaTable) (v : Value) → Contents s bytes q (one W) n v → v ≡ hole p)
    → StandsWith D bytes (view q (one W) n) (view r p.pointee p.length)
pointer_with D bytes q n W p r there is = record {
  stands = λ s root X k a h.
      let (w, reached) = part_reached s bytes a h in
      let has : Contains (pointers reached.value) p = rw (is s reached.value reached.reads) (Contains-push [] p) in
      let (t, e, u, i) = pointer_reached s bytes reached p has in
      let here : t ≡ r = there t e in
      rw here at (reached_part a i);
}

pub shared_with : (D : Definitions) (bytes : List ℕ) (q n : ℕ) (flavor : Flavor) (P : Pointee) → StandsWith D bytes (view q (one (shared flavor P)) n) (view (target_from bytes q q) P (length_at bytes q P))
shared_with D bytes q n flavor P = pointer_with D bytes q n (shared flavor P) (pointer_at bytes q (Some flavor) P) (target_from bytes q q) (λ t e. ap position (sym e)) (λ s v c. shared_hole c)

pub weak_with : (D : Definitions) (bytes : List ℕ) (q n : ℕ) (flavor : Flavor) (P : Pointee) → i32_at bytes q ≢ pos 1 → StandsWith D bytes (view q (one (weak flavor P)) n) (view (target_from bytes q q) P (length_at bytes q P))
weak_with D bytes q n flavor P far = pointer_with D bytes q n (weak flavor P) (pointer_at bytes q (Some flavor) P) (target_from bytes q q) (λ t e. ap position (sym e)) (λ s v c. weak_hole far c)

-- and the part of a variant with one part
pub case_with : (D E : Definitions) (known : (s : SchemaTable) → Knows s D → Knows s E) (name : Name) (vs : Variants) (tag : ℕ) (X : Shape) (is : variant_at vs tag ≡ Some (part X no_part)) (L : Layout) (layout : HasLayout E X L)
    (bytes : List ℕ) (q n offset : ℕ) (there : offset ≡ up 1 L.align) (first : slice_index bytes q ≡ tag) → StandsWith D bytes (view q (one (choice name vs)) n) (view (q + offset) (one X) 0)
case_with D E known name vs tag X is L layout bytes q n offset there first = record {
  stands = λ s root Y k a h.
      let (w, reached) = part_reached s bytes a h in
      let e : variant_at vs (slice_index bytes q) ≡ Some (part X no_part) = rw first is in
      let begins = case_begins D E known name vs tag X is L layout bytes q n offset there first s k in
      let i : IsPart s q 1 (part X no_part) (q + offset) X = subst (λ o. IsPart s q 1 (part X no_part) (q + o) X) begins first_part in
      let (u, r) = within_reached s bytes reached (in_choice whole e i) in
      reached_part a r;
}
