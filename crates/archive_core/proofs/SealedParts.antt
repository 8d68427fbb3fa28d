-- What seals come to from what they came to: parts, elements, texts, and what pointers lead to.
use Rattle.std.proofs.Common.{◌≡◌, ◌≢◌, ℕ, ◌+◌, ◌*◌, ◌<◌, pos, List, [], length, slice_index, Contains, Some, None, refl, sym, ap, subst}
use Rattle.std.proofs.Math.Logic.{∥∥₁_elim, ∥∥₁_map, ∥∥₁_prop}
use Rattle.std.proofs.lemmas.List.Elements.{Contains-push}
use Rattle.archive_check.specs.Shape.{Name, Flavor, Shape, choice, array, boxed, vec, str, shared, weak, text, Pointee, one, run, Parts, part, no_part, Variants, variant_at}
use Rattle.archive_check.specs.Layout.{Layout, up, size_of}
use Rattle.archive_check.specs.Value.{Pointer, Value, hole, pointers}
use Rattle.archive_check.specs.Reads.{SchemaTable, bytes_at, i32_at, u32_at, length_at, pointer_at, string_at, decoded_length, before_end, IsOutOfLine, reads_vec}
use Rattle.archive_check.specs.Readable.{position, target_from}
use Rattle.archive_check.specs.Keys.{order_of}
use Rattle.archive_check.specs.Tour.{Contents, contents_one}
use Rattle.archive_check.specs.Within.{IsPart, first_part, Within, whole, in_choice, in_array}
use Rattle.archive_check.specs.ComesTo.{to_root, to_part, to_element, to_text, to_target, IsComeTo}
use Rattle.archive_check.specs.Definitions.{Definitions, Knows, HasLayout}
use Rattle.archive_check.specs.Archives.{IsArchive}
use Rattle.archive_check.specs.Members.PartsLayout.{part_at, offset_of_part, PartsLaidOut, IsRecord}
use Rattle.archive_check.specs.Members.VariantsLayout.{payload_at, payload_offset, VariantsLaidOut, IsChoice}
use Rattle.archive_check.proofs.Meanings.ReachedParts.{part_reached, pointer_reached}
use Rattle.archive_check.proofs.Viewing.ViewedPayloads.{is_payload, offset_is, part_stands, choice_within}
use Rattle.archive_check.proofs.Viewing.ViewedVariants.{case_begins}
use Rattle.archive_types.proofs.Reading.ReadRecords.{record_within}
use Rattle.archive_types.proofs.SharedValues.SharedViews.{shared_hole, weak_hole}
use Rattle.archive_types.proofs.Viewing.PartsShown.{box_has}
use Rattle.archive_inspect.proofs.StandingLeaves.{out_is}
use Rattle.archive_types.specs.Members.KnownParts.{KnowsAlso}
use Rattle.archive_types.specs.Standing.{View, view}
use Rattle.archive_core.specs.SealsKept.{ComesWith}
use Rattle.archive_core.specs.SealOutcomes.{IsSealOf, SealsPart}
use Rattle.archive_core.specs.declared.seal.Seal.{Seal}
use Rattle.archive_core.proofs.ComePart.{come_part}

-- the root of an archive is come to
pub root_comes : (D : Definitions) (bytes : List ℕ) (root : ℕ) (X : Shape) → IsArchive D bytes root X → IsComeTo D bytes root (one X) 0
root_comes D bytes root X a = ∥∥₁_elim a.known ∥∥₁_prop (λ (s, k). ∥∥₁_map (a.accepted s k) (λ (b, depth). (s, k, root, X, b, to_root)))

-- and what comes with what is come to
pub comes_on : {D E : Definitions} → KnowsAlso D E → (bytes : List ℕ) (q : ℕ) (P : Pointee) (n r : ℕ) (Q : Pointee) (m : ℕ) → ComesWith D bytes (view q P n) (view r Q m) → IsComeTo D bytes q P n → IsComeTo E bytes r Q m
comes_on known bytes q P n r Q m with h = ∥∥₁_map h (λ (s, k, root, X, a, c). (s, known s k, root, X, a, with.comes s root X k a c))

pub comes_trans : (D : Definitions) (bytes : List ℕ) (u v w : View) → ComesWith D bytes u v → ComesWith D bytes v w → ComesWith D bytes u w
comes_trans D bytes u v w f g = record { comes = λ s root X k a c. g.comes s root X k a (f.comes s root X k a c) }

-- what holds under each schema that knows E holds under each that knows D
pub comes_also : {D E : Definitions} → KnowsAlso D E → (bytes : List ℕ) (u v : View) → ComesWith E bytes u v → ComesWith D bytes u v
comes_also known bytes u v with = record { comes = λ s root X k a c. with.comes s root X (known s k) a c }

-- what lies within a value
pub within_comes : (D : Definitions) (bytes : List ℕ) (q n r : ℕ) (X Y : Shape) → ((s : SchemaTable) → Knows s D → Within s bytes q X r Y) → ComesWith D bytes (view q (one X) n) (view r (one Y) 0)
within_comes D bytes q n r X Y inside = record { comes = λ s root Z k a c. to_part c (inside s k) }

-- what a pointer leads to that asks for no order
pub target_comes : (D : Definitions) (bytes : List ℕ) (q n : ℕ) (W : Shape) (p : Pointer) (r : ℕ) → order_of p ≡ None → ((t : ℕ) → p.target ≡ pos t → t ≡ r)
    → ((s : SchemaTable) (v : Value) → Contents s bytes q (one W) n v → Contains (pointers v) p) → ComesWith D bytes (view q (one W) n) (view r p.pointee p.length)
target_comes D bytes q n W p r free there has = record {
  comes = λ s root X k a c.
      let (w, reached) = part_reached s bytes a (come_part s bytes a c) in
      let m : Contains (pointers reached.value) p = has s reached.value reached.reads in
      let (t, e, u, i) = pointer_reached s bytes reached p m in
      let here : t ≡ r = there t e in
      rw here at (to_target c reached.reads m free e);
}

vec_hole : {s : SchemaTable} {bytes : List ℕ} {q n : ℕ} {X : Shape} {v : Value} → Contents s bytes q (one (vec X)) n v → v ≡ hole (pointer_at bytes q None (run X))
vec_hole (contents_one reads_vec) = refl

hole_has : {v : Value} (p : Pointer) → v ≡ hole p → Contains (pointers v) p
hole_has p e = rw e (Contains-push [] p)

module _ (D : Definitions) (bytes : List ℕ) (q n : ℕ) where
  pub box_comes : (P : Pointee) → ComesWith D bytes (view q (one (boxed P)) n) (view (target_from bytes q q) P (length_at bytes q P))
  box_comes P = target_comes D bytes q n (boxed P) (pointer_at bytes q None P) (target_from bytes q q) refl (λ t e. ap position (sym e)) (box_has bytes q n P)

  pub vec_comes : (X : Shape) → ComesWith D bytes (view q (one (vec X)) n) (view (target_from bytes q q) (run X) (u32_at bytes (q + 4)))
  vec_comes X = target_comes D bytes q n (vec X) (pointer_at bytes q None (run X)) (target_from bytes q q) refl (λ t e. ap position (sym e)) (λ s v c. hole_has (pointer_at bytes q None (run X)) (vec_hole c))

  pub shared_comes : (flavor : Flavor) (P : Pointee) → ComesWith D bytes (view q (one (shared flavor P)) n) (view (target_from bytes q q) P (length_at bytes q P))
  shared_comes flavor P =
      target_comes D bytes q n (shared flavor P) (pointer_at bytes q (Some flavor) P) (target_from bytes q q) refl (λ t e. ap position (sym e)) (λ s v c. hole_has (pointer_at bytes q (Some flavor) P) (shared_hole c))

  pub weak_comes : (flavor : Flavor) (P : Pointee) → i32_at bytes q ≢ pos 1 → ComesWith D bytes (view q (one (weak flavor P)) n) (view (target_from bytes q q) P (length_at bytes q P))
  weak_comes flavor P far =
      target_comes D bytes q n (weak flavor P) (pointer_at bytes q (Some flavor) P) (target_from bytes q q) refl (λ t e. ap position (sym e)) (λ s v c. hole_has (pointer_at bytes q (Some flavor) P) (weak_hole far c))

  -- the text of a string, elsewhere or in place
  pub text_comes : IsOutOfLine bytes q → ComesWith D bytes (view q (one str) n) (view (target_from bytes q (q + 4)) text (decoded_length (u32_at bytes q)))
  text_comes o = target_comes D bytes q n str (string_at bytes q) (target_from bytes q (q + 4)) refl (λ t e. ap position (sym e)) (λ s v c. hole_has (string_at bytes q) (out_is s bytes o c))

  pub inline_comes : (m : ℕ) → (IsOutOfLine bytes q → ⊥) → m ≡ length (before_end (bytes_at bytes q 8)) → ComesWith D bytes (view q (one str) n) (view q text m)
  inline_comes m o e = record { comes = λ s root X k a c. rw e (to_text c o) }

  -- an element of a slice, and of an array
  module _ (X : Shape) (L : Layout) (laid : HasLayout D X L) (k : ℕ) (P : Pointee) (is : P ≡ one X) where
    sized : (s : SchemaTable) → Knows s D → size_of s.layouts X ≡ L.size
    sized s known = ap (λ l. l.size) (laid.solved s known)

    pub element_comes : k < n → ComesWith D bytes (view q (run X) n) (view (q + k * L.size) P 0)
    element_comes below = rw is (record { comes = λ s root Z known a c. let same = sized s known in rw same at (to_element {k = k} c below) })

    pub item_comes : (count : ℕ) → k < count → ComesWith D bytes (view q (one (array count X)) n) (view (q + k * L.size) P 0)
    item_comes count below = rw is (within_comes D bytes q n (q + k * L.size) (array count X) X (λ s known.
        let same = sized s known in
        let there : Within s bytes q (array count X) (q + k * size_of s.layouts X) X = in_array whole below in
        rw same at there))

-- the part of a variant with one part
pub case_comes : (D E : Definitions) (known : (s : SchemaTable) → Knows s D → Knows s E) (name : Name) (vs : Variants) (tag : ℕ) (X : Shape) (is : variant_at vs tag ≡ Some (part X no_part)) (L : Layout) (layout : HasLayout E X L)
    (bytes : List ℕ) (q n offset : ℕ) (there : offset ≡ up 1 L.align) (first : slice_index bytes q ≡ tag) → ComesWith D bytes (view q (one (choice name vs)) n) (view (q + offset) (one X) 0)
case_comes D E known name vs tag X is L layout bytes q n offset there first =
    let e : variant_at vs (slice_index bytes q) ≡ Some (part X no_part) = rw first is in
    within_comes D bytes q n (q + offset) (choice name vs) X (λ s k.
    let begins = case_begins D E known name vs tag X is L layout bytes q n offset there first s k in
    let i : IsPart s q 1 (part X no_part) (q + offset) X = subst (λ o. IsPart s q 1 (part X no_part) (q + o) X) begins first_part in
    in_choice whole e i)

-- the field of a record with an index, wherever it begins
module _ (D : Definitions) (X : Shape) (E : Definitions) (ps : Parts) (is : IsRecord D X E ps) (bytes : List ℕ) (q n : ℕ) (P : Pointee) (one_is : P ≡ one X)
    (i off : ℕ) (Y : Shape) (begins : (s : SchemaTable) → Knows s D → IsPart s q 0 ps (q + off) Y) where
  pub part_comes : (Q : Pointee) → Q ≡ one Y → ComesWith D bytes (view q P n) (view (q + off) Q 0)
  part_comes Q there = rw (there, one_is) (within_comes D bytes q n (q + off) X Y (λ s k. record_within (is.stands s k) (begins s k)))

pub offset_comes : (D : Definitions) (X : Shape) (E : Definitions) (ps : Parts) → IsRecord D X E ps → (bytes : List ℕ) (q n : ℕ) (P : Pointee) → P ≡ one X
    → (i off : ℕ) → ((s : SchemaTable) → Knows s D → offset_of_part s.layouts 0 ps i ≡ off) → (Y : Shape) → part_at ps i ≡ Some Y → (Q : Pointee) → Q ≡ one Y → ComesWith D bytes (view q P n) (view (q + off) Q 0)
offset_comes D X E ps is bytes q n P one_is i off starts Y at Q there = part_comes D X E ps is bytes q n P one_is i off Y (λ s k. rw (starts s k) at (part_stands s q 0 ps i Y at)) Q there

pub field_comes : (D : Definitions) (X : Shape) (E : Definitions) (ps : Parts) → IsRecord D X E ps → (bytes : List ℕ) (q n : ℕ) (P : Pointee) → P ≡ one X → (a : ℕ) (end : ℕ → ℕ) (begin : ℕ → ℕ → ℕ)
    → PartsLaidOut E ps a end begin → (i : ℕ) (Y : Shape) → part_at ps i ≡ Some Y → (Q : Pointee) → Q ≡ one Y → ComesWith D bytes (view q P n) (view (q + begin 0 i) Q 0)
field_comes D X E ps is bytes q n P one_is a end begin laid i Y at Q there = part_comes D X E ps is bytes q n P one_is i (begin 0 i) Y (λ s k. laid.begins s (is.known s k) q 0 i Y at) Q there

-- and the part with an index of the variant that the tag names
pub behind_comes : (D : Definitions) (X : Shape) (name : Name) (E : Definitions) (vs : Variants) → IsChoice D X name E vs → (bytes : List ℕ) (q n : ℕ) (P : Pointee) → P ≡ one X
    → (i off : ℕ) → ((s : SchemaTable) → Knows s D → payload_offset s.layouts vs (slice_index bytes q) i ≡ off) → (Y : Shape) → payload_at vs (slice_index bytes q) i ≡ Some Y
    → (Q : Pointee) → Q ≡ one Y → ComesWith D bytes (view q P n) (view (q + off) Q 0)
behind_comes D X name E vs is bytes q n P one_is i off starts Y at Q there = rw (there, one_is) (within_comes D bytes q n (q + off) X Y (λ s k.
    let h = is_payload vs (slice_index bytes q) i Y at in
    let part : IsPart s q 1 h.its_parts (q + off) Y = rw (← starts s k, offset_is s vs (slice_index bytes q) i h.its_parts h.variant) (part_stands s q 1 h.its_parts i Y h.part) in
    in_choice (choice_within (is.stands s k)) h.variant part))

pub payload_comes : (D : Definitions) (X : Shape) (name : Name) (E : Definitions) (vs : Variants) → IsChoice D X name E vs → (bytes : List ℕ) (q n : ℕ) (P : Pointee) → P ≡ one X → (a end : ℕ) (begin : ℕ → ℕ → ℕ)
    → VariantsLaidOut E vs a end begin → (i : ℕ) (Y : Shape) → payload_at vs (slice_index bytes q) i ≡ Some Y → (Q : Pointee) → Q ≡ one Y
    → ComesWith D bytes (view q P n) (view (q + begin (slice_index bytes q) i) Q 0)
payload_comes D X name E vs is bytes q n P one_is a end begin laid i Y at Q there =
    behind_comes D X name E vs is bytes q n P one_is i (begin (slice_index bytes q) i) (λ s k. laid.offsets s (is.known s k) (slice_index bytes q) i) Y at Q there

-- a seal of it
pub sealed_part : {T U : Type 0} {D : Definitions} {P : Pointee} {E : Definitions} {Q : Pointee} {p n : ℕ} {v : Seal T} {u : Seal U} → u.bytes.ghost_name ≡ v.bytes.ghost_name → u.bytes.now ≡ v.bytes.now → u.pos ≡ p → u.len ≡ n → IsSealOf E Q u
    → ComesWith D v.bytes.now (view v.pos P v.len) (view p Q n) → SealsPart D P E Q p n v u
sealed_part same_reference buffer position length come_to beside = record {
  same_reference = same_reference;
  buffer = buffer;
  position = position;
  length = length;
  come_to = come_to;
  beside = rw (position, length) beside;
}
