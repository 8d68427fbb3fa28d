-- Schemas that know some definitions read alike what names these alone: it has one layout, and the bytes say one thing.
use Rattle.std.proofs.Common.{◌≡◌, ℕ, suc, ◌+◌, ◌*◌, List, length, Bool, IsTrue, Option, Some, None, is_some, Contains, refl, sym, ap, subst, ◌∙◌}
use Rattle.std.proofs.lemmas.Bool.{and_parts}
use Rattle.archive_check.specs.Shape.{Name, Key, Flavor, Shape, Pointee, one, run, text, Parts, part, Variants, variant, entry_of, definition}
use Rattle.archive_check.specs.Layout.{up, size_of, align_of}
use Rattle.archive_check.specs.Value.{Pointer, Value, Values, value}
use Rattle.archive_check.specs.Reads.{SchemaTable, Reads, reads_leaf, reads_parts, reads_choice, reads_array, reads_boxed, reads_vec, reads_map, reads_inline, reads_out_of_line, reads_shared, reads_null, reads_weak, reads_named, ReadsParts, reads_no_part, reads_part, ReadsRun, reads_none, reads_element}
use Rattle.archive_check.specs.Keys.{Ascend, IsInOrder, in_any_order, in_key_order}
use Rattle.archive_check.specs.Tour.{Contents, contents_one, contents_run, contents_text, pointee_size, Leads}
use Rattle.archive_check.specs.Defined.{Holds, holds_name, holds_parts, holds_choice, holds_array, PartsHold, holds_first, holds_later, VariantsHold, holds_variant, holds_other}
use Rattle.archive_check.specs.Definitions.{Definitions, listed, Knows}
use Rattle.archive_check.specs.Unshared.{has_flavors, pointee_has_flavors, parts_have_flavors, variants_have_flavors}
use Rattle.archive_check.proofs.Archives.{has_each}
use Rattle.archive_check.proofs.Names.LaidOutNames.{Placed, placed, names_of, defined_named}
use Rattle.archive_check.proofs.Names.NamesComeBack.{by_descent}
use Rattle.archive_check.proofs.Names.SameLayouts.{align_same, size_same, layout_same}
use Rattle.archive_check.proofs.Unshared.{found, chosen}
use Rattle.archive_check.proofs.Names.WellFormed.{found_stands}

-- Of definitions with such flavors: a shape that has them, too, holds defined names alone.
module _ (right : Flavor → Bool) (D : Definitions) where
  abbrev Right : Shape → Type 0
  Right X = IsTrue (has_flavors right (listed D) X)

  abbrev AreRight : Parts → Type 0
  AreRight ps = IsTrue (parts_have_flavors right (listed D) ps)

  abbrev IsDefined : Name → Type 0
  IsDefined n = (Y : Shape) × (definition (listed D) n ≡ Some Y)

  -- of a part and the others, and likewise of a variant
  first_right : (X : Shape) (ps : Parts) → AreRight (part X ps) → Right X
  first_right X ps h = (and_parts (has_flavors right (listed D) X) (parts_have_flavors right (listed D) ps) h).0

  later_right : (X : Shape) (ps : Parts) → AreRight (part X ps) → AreRight ps
  later_right X ps h = (and_parts (has_flavors right (listed D) X) (parts_have_flavors right (listed D) ps) h).1

  variant_right : (ps : Parts) (vs : Variants) → IsTrue (variants_have_flavors right (listed D) (variant ps vs)) → AreRight ps
  variant_right ps vs h = (and_parts (parts_have_flavors right (listed D) ps) (variants_have_flavors right (listed D) vs) h).0

  other_right : (ps : Parts) (vs : Variants) → IsTrue (variants_have_flavors right (listed D) (variant ps vs)) → IsTrue (variants_have_flavors right (listed D) vs)
  other_right ps vs h = (and_parts (parts_have_flavors right (listed D) ps) (variants_have_flavors right (listed D) vs) h).1

  -- what it holds is defined
  mutual
    holds_defined : {n : Name} {X : Shape} → Holds n X → Right X → IsDefined n
    holds_defined {n = n} holds_name h = found (definition (listed D) n) h
    holds_defined (holds_parts k) h = parts_defined k h
    holds_defined (holds_choice k) h = variants_defined k h
    holds_defined (holds_array k) h = holds_defined k h

    parts_defined : {n : Name} {ps : Parts} → PartsHold n ps → AreRight ps → IsDefined n
    parts_defined (holds_first {X = X} {ps = ps} k) h = holds_defined k (first_right X ps h)
    parts_defined (holds_later {X = X} {ps = ps} k) h = parts_defined k (later_right X ps h)

    variants_defined : {n : Name} {vs : Variants} → VariantsHold n vs → IsTrue (variants_have_flavors right (listed D) vs) → IsDefined n
    variants_defined (holds_variant {ps = ps} {vs = vs} k) h = parts_defined k (variant_right ps vs h)
    variants_defined (holds_other {ps = ps} {vs = vs} k) h = variants_defined k (other_right ps vs h)

  -- two schemas that know the definitions
  module _ (each : (name : Name) (Y : Shape) → Contains (listed D) (name, Y) → Right Y) (s s' : SchemaTable) (k : Knows s D) (l : Knows s' D) where
    -- what a defined name stands for, in the one and in the other
    there : (n : Name) (Y : Shape) → definition (listed D) n ≡ Some Y → definition s.table n ≡ Some Y
    there n Y e = has_each s D k.has n Y (found_stands (listed D) n Y e)

    there_too : (n : Name) (Y : Shape) → definition (listed D) n ≡ Some Y → definition s'.table n ≡ Some Y
    there_too n Y e = has_each s' D l.has n Y (found_stands (listed D) n Y e)

    right_there : (n : Name) (Y : Shape) → definition (listed D) n ≡ Some Y → Right Y
    right_there n Y e = each n Y (found_stands (listed D) n Y e)

    -- a defined name can be laid out, and in both alike
    all_placed : (n : Name) → IsDefined n → Placed s.table (length (names_of (listed D))) n
    all_placed =
        by_descent s.table IsDefined (λ j n. Placed s.table j n)
        (λ j n o loop.
        let same : o.0 ≡ loop.shape = cc (there n o.0 o.1, loop.defined) in
        absurd (k.finite n loop.shape (rw same at (found_stands (listed D) n o.0 o.1)) loop.held))
        (λ j n o on. placed (there n o.0 o.1) (λ m h. on m (holds_defined h (right_there n o.0 o.1)) (record { shape = o.0; defined = there n o.0 o.1; holds = h })))
        (names_of (listed D)) (λ q o. defined_named (listed D) q o.0 o.1)

    one_layout : {j : ℕ} {n : Name} → Placed s.table j n → IsDefined n → s.layouts n ≡ s'.layouts n
    one_layout {n = n} (placed {X = Y} e p) o =
        let same : o.0 ≡ Y = cc (there n o.0 o.1, e) in
        let known : definition (listed D) n ≡ Some Y = rw same at o.1 in
        k.laid_out.solves n Y e
        ∙ layout_same s.layouts s'.layouts Y (λ m h. one_layout (p m h) (holds_defined h (right_there n Y known)))
        ∙ sym (l.laid_out.solves n Y (there_too n Y known))

    held_same : (X : Shape) → Right X → (n : Name) → Holds n X → s.layouts n ≡ s'.layouts n
    held_same X h n i = let o = holds_defined i h in one_layout (all_placed n o) o

    same_align : (X : Shape) → Right X → align_of s.layouts X ≡ align_of s'.layouts X
    same_align X h = align_same s.layouts s'.layouts X (held_same X h)

    same_size : (X : Shape) → Right X → size_of s.layouts X ≡ size_of s'.layouts X
    same_size X h = size_same s.layouts s'.layouts X (held_same X h)

    same_pointee_size : (P : Pointee) (n : ℕ) → IsTrue (pointee_has_flavors right (listed D) P) → pointee_size s P n ≡ pointee_size s' P n
    same_pointee_size (one X) n h = same_size X h
    same_pointee_size (run X) n h = ap (λ z. n * z) (same_size X h)
    same_pointee_size text n h = refl

    module _ (bytes : List ℕ) where
      part_again : (p at : ℕ) (X : Shape) (ps : Parts) {v : Value} {vs : Values} → Right X → Reads s' bytes (p + up at (align_of s.layouts X)) X v
          → ReadsParts s' bytes p (up at (align_of s.layouts X) + size_of s.layouts X) ps vs → ReadsParts s' bytes p at (part X ps) (value v vs)
      part_again p at X ps h r rs = let a = same_align X h in let z = same_size X h in reads_part (rw a at r) (rw (a, z) at rs)

      element_again : (p n : ℕ) (X : Shape) {v : Value} {vs : Values} → Right X → Reads s' bytes p X v → ReadsRun s' bytes (p + size_of s.layouts X) n X vs → ReadsRun s' bytes p (suc n) X (value v vs)
      element_again p n X h r rs = reads_element r (rw (same_size X h) at rs)

      -- the name's definition, in the other schema
      named_again : (name : Name) (Y : Shape) → IsTrue (is_some (definition (listed D) name)) → definition s.table name ≡ Some Y → (definition s'.table name ≡ Some Y) × Right Y
      named_again name Y h d =
          let o = found (definition (listed D) name) h in
          let same : o.0 ≡ Y = cc (there name o.0 o.1, d) in
          (rw same at (there_too name o.0 o.1), rw same at (right_there name o.0 o.1))

      -- what the one reads, the other does
      mutual
        reads_again : {p : ℕ} {X : Shape} {v : Value} → Reads s bytes p X v → Right X → Reads s' bytes p X v
        reads_again (reads_leaf i) h = reads_leaf i
        reads_again (reads_parts r) h = reads_parts (parts_again r h)
        reads_again (reads_choice {variants = vs} {ps = ps} e r) h = reads_choice e (parts_again r (chosen right D each s k.has bytes vs _ ps e h))
        reads_again (reads_array r) h = reads_array (run_again r h)
        reads_again reads_boxed h = reads_boxed
        reads_again reads_vec h = reads_vec
        reads_again reads_map h = reads_map
        reads_again (reads_inline o u) h = reads_inline o u
        reads_again (reads_out_of_line o i) h = reads_out_of_line o i
        reads_again reads_shared h = reads_shared
        reads_again (reads_null e) h = reads_null e
        reads_again (reads_weak e) h = reads_weak e
        reads_again (reads_named {name = name} {X = Y} d r) h = let both = named_again name Y h d in reads_named (both.0) (reads_again r (both.1))

        parts_again : {p at : ℕ} {ps : Parts} {vs : Values} → ReadsParts s bytes p at ps vs → AreRight ps → ReadsParts s' bytes p at ps vs
        parts_again reads_no_part h = reads_no_part
        parts_again (reads_part {p = p} {at = at} {X = X} {ps = ps} r rs) h =
            part_again p at X ps (first_right X ps h) (reads_again r (first_right X ps h)) (parts_again rs (later_right X ps h))

        run_again : {p n : ℕ} {X : Shape} {vs : Values} → ReadsRun s bytes p n X vs → Right X → ReadsRun s' bytes p n X vs
        run_again reads_none h = reads_none
        run_again (reads_element {p = p} {n = n} {X = X} r rs) h = element_again p n X h (reads_again r h) (run_again rs h)

      pub contents_again : {q n : ℕ} {P : Pointee} {v : Value} → Contents s bytes q P n v → IsTrue (pointee_has_flavors right (listed D) P) → Contents s' bytes q P n v
      contents_again (contents_one r) h = contents_one (reads_again r h)
      contents_again (contents_run r) h = contents_run (run_again r h)
      contents_again (contents_text u) h = contents_text u

      ordered_again : {t n : ℕ} {o : Option Key} {P : Pointee} → IsInOrder s bytes t n o P → IsTrue (pointee_has_flavors right (listed D) P) → IsInOrder s' bytes t n o P
      ordered_again in_any_order h = in_any_order
      ordered_again {t = t} {n = n} (in_key_order {K = K} {V = V} g) h = let z = same_size (entry_of K V) h in in_key_order (subst (λ m. Ascend K bytes None t m n) z g)

      pub leads_again : {p : Pointer} {t : ℕ} {v : Value} → Leads s bytes p t v → IsTrue (pointee_has_flavors right (listed D) p.pointee) → Leads s' bytes p t v
      leads_again {p = p} i h = record { target = i.target; fits = rw (same_pointee_size p.pointee p.length h) at i.fits; contents = contents_again i.contents h; ordered = ordered_again i.ordered h }
