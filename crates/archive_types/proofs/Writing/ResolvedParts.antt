-- How parts are resolved one after another, with zeros between them, and why they are not.
use Rattle.std.proofs.Common.{◌≡◌, ℕ, ◌+◌, ◌<◌, ◌≤◌, List, ◌++◌, length, refl, sym, ap, subst, ◌∙◌, arith, length-append}
use Rattle.archive_check.specs.Shape.{Shape, parts, Parts, no_part, part}
use Rattle.archive_check.specs.Layout.{Layout, up, size_of, align_of}
use Rattle.archive_check.specs.Definitions.{Definitions, no_definition, both, Knows, HasLayout}
use Rattle.archive_check.specs.Members.PartsLayout.{StandsFor, for_itself, by_name, IsRecord, knows_left, knows_right}
use Rattle.archive_check.specs.Value.{Value, product, Values, no_value, value}
use Rattle.archive_check.specs.Reads.{SchemaTable, LaidOut, Reads, reads_parts, reads_named, reads_no_part, reads_part}
use Rattle.archive_check.specs.CleanRegions.{Occurs, IsZeroed, CleanValue, CleanParts, clean_parts, clean_named, clean_no_part, clean_part}
use Rattle.archive_check.specs.declared.format.error.Error.{Error}
use Rattle.archive_check.proofs.Tours.StandingBytes.{stands_front, stands_back, stands_zero}
use Rattle.archive_types.specs.Writing.{Resolves}
use Rattle.archive_types.specs.Parts.{ZeroedParts, ResolvesParts, HindersPartsAt}
use Rattle.archive_types.specs.Causes.{ValuePart, part_of_parts, part_of_named, in_first_part, in_later_part, HindersPartAt, HindersAt}
use Rattle.archive_types.proofs.Writing.Appending.{size_is, align_is}

-- behind the last part there are zeros
pub resolves_no_part : (D : Definitions) (p at : ℕ) (a : List ℕ) → IsZeroed a → ResolvesParts D p at a no_part no_value
resolves_no_part D p at a zeroed = record {
  reads = λ s bytes k stands. reads_no_part;
  clean = λ s bytes k stands. clean_no_part (stands_zero bytes (p + at) (p + (at + length a)) a zeroed (omega arith) stands);
}

-- zeros up to the part's alignment, the part, and then the others
module _ (D E : Definitions) (X : Shape) (L : Layout) (laid : HasLayout D X L) (ps : Parts) (v : Value) (vs : Values) (p at : ℕ) where
  module _ (zeros a rest : List ℕ) (zeroed : IsZeroed zeros) (aligned : at + length zeros ≡ up at L.align) (sized : length a ≡ L.size) where
    part_stands : (bytes : List ℕ) → Occurs bytes (p + at) (zeros ++ (a ++ rest)) → Occurs bytes (p + up at L.align) (a ++ rest)
    part_stands bytes stands = stands_back bytes (p + at) (p + up at L.align) zeros (a ++ rest) (omega (arith, aligned)) stands

    rest_stands : (bytes : List ℕ) → Occurs bytes (p + at) (zeros ++ (a ++ rest)) → Occurs bytes (p + (up at L.align + L.size)) rest
    rest_stands bytes stands = stands_back bytes (p + up at L.align) (p + (up at L.align + L.size)) a rest (omega (arith, sized)) (part_stands bytes stands)

    pub resolves_part : Resolves D (p + up at L.align) a X v → ResolvesParts E p (up at L.align + L.size) rest ps vs → ResolvesParts (both D E) p at (zeros ++ (a ++ rest)) (part X ps) (value v vs)
    resolves_part r others = record {
      reads = λ s bytes k stands. (
          let here = align_is laid s (knows_left s D E k) in
          let size = size_is laid s (knows_left s D E k) in
          reads_part (rw here (r.reads s bytes (knows_left s D E k) (stands_front bytes (p + up at L.align) a rest (part_stands bytes stands))))
          (rw (here, size) (others.reads s bytes (knows_right s D E k) (rest_stands bytes stands))));
      clean = λ s bytes k stands. (
          let here = align_is laid s (knows_left s D E k) in
          let size = size_is laid s (knows_left s D E k) in
          let stop : p + (up at L.align + L.size + length rest) ≡ p + (at + length (zeros ++ (a ++ rest))) = omega (arith, aligned, sized, length-append zeros (a ++ rest), length-append a rest) in
          clean_part (rw here (stands_zero bytes (p + at) (p + up at L.align) zeros zeroed (omega (arith, aligned)) (stands_front bytes (p + at) zeros (a ++ rest) stands)))
          (rw here (r.clean s bytes (knows_left s D E k) (stands_front bytes (p + up at L.align) a rest (part_stands bytes stands))))
          (rw (here, size, ← stop) (others.clean s bytes (knows_right s D E k) (rest_stands bytes stands))));
    }

  -- the first is hindered
  pub first_hinders : (e : Error) → HindersAt D X v (p + up at L.align) e → HindersPartsAt (both D E) (part X ps) (value v vs) p at e
  first_hinders e h = record {
    named = h.named;
    cause = λ s k. (
        let (o, Y, w, is, x) = h.cause s (knows_left s D E k) in
        let here : p + up at L.align + o ≡ p + (up at (align_of s.layouts X) + o) = rw (align_is laid s (knows_left s D E k)) (omega arith) in
        (up at (align_of s.layouts X) + o, Y, w, in_first_part is, subst (λ q. HindersPartAt Y q w e) here x));
  }

  -- one of the others is
  pub later_hinders : (e : Error) → HindersPartsAt E ps vs p (up at L.align + L.size) e → HindersPartsAt (both D E) (part X ps) (value v vs) p at e
  later_hinders e h = record {
    named = h.named;
    cause = λ s k. (
        let (o, Y, w, is, x) = h.cause s (knows_right s D E k) in
        (o, Y, w, in_later_part (rw (align_is laid s (knows_left s D E k), size_is laid s (knows_left s D E k)) is), x));
  }

-- what stands for a record

pub standing_reads : (s : SchemaTable) (bytes : List ℕ) (p : ℕ) (Y X : Shape) (v : Value) → StandsFor s Y X → Reads s bytes p Y v → Reads s bytes p X v
standing_reads s bytes p Y X v for_itself h = h
standing_reads s bytes p Y X v (by_name d) h = reads_named d h

pub standing_clean : (s : SchemaTable) (bytes : List ℕ) (p : ℕ) (Y X : Shape) → StandsFor s Y X → CleanValue s bytes p Y → CleanValue s bytes p X
standing_clean s bytes p Y X for_itself h = h
standing_clean s bytes p Y X (by_name d) h = clean_named d h

pub standing_part : (s : SchemaTable) (Z X : Shape) (v : Value) (o : ℕ) (Y : Shape) (w : Value) → StandsFor s Z X → ValuePart s Z v o Y w → ValuePart s X v o Y w
standing_part s Z X v o Y w for_itself h = h
standing_part s Z X v o Y w (by_name d) h = part_of_named d h

pub standing_size : (s : SchemaTable) → LaidOut s → (Y X : Shape) → StandsFor s Y X → size_of s.layouts X ≡ size_of s.layouts Y
standing_size s laid Y X for_itself = refl
standing_size s laid Y X (by_name {name = name} d) = ap (λ (l : Layout). l.size) (laid.solves name Y d)

-- a record of these parts
module _ (D : Definitions) (X : Shape) (E : Definitions) (ps : Parts) (is : IsRecord D X E ps) (vs : Values) (p : ℕ) where
  pub resolves_record : (L : Layout) (a : List ℕ) → HasLayout D X L → length a ≡ L.size → ResolvesParts E p 0 a ps vs → Resolves D p a X (product vs)
  resolves_record L a laid sized h =
      let same : p + 0 ≡ p = omega arith in
      record {
        reads = λ s bytes k stands. standing_reads s bytes p (parts ps) X (product vs) (is.stands s k) (reads_parts (h.reads s bytes (is.known s k) (rw same stands)));
        clean = λ s bytes k stands. (
            let whole : size_of s.layouts X ≡ length a = rw (size_is laid s k) (sym sized) in
            let size : size_of s.layouts (parts ps) ≡ length a = sym (standing_size s k.laid_out (parts ps) X (is.stands s k)) ∙ whole in
            let stop : p + (0 + length a) ≡ p + size_of s.layouts (parts ps) = omega (arith, size) in
            standing_clean s bytes p (parts ps) X (is.stands s k) (clean_parts (rw (← stop) (h.clean s bytes (is.known s k) (rw same stands)))));
      }

  pub record_hinders : (e : Error) → HindersPartsAt E ps vs p 0 e → HindersAt D X (product vs) p e
  record_hinders e h = record {
    named = h.named;
    cause = λ s k. (let (o, Y, w, here, x) = h.cause s (is.known s k) in (o, Y, w, standing_part s (parts ps) X (product vs) o Y w (is.stands s k) (part_of_parts here), x));
  }

-- no part, in a contract's form
pub resolves_nothing : (p at end : ℕ) (a : List ℕ) → ZeroedParts end at p a → ResolvesParts no_definition p at a no_part no_value
resolves_nothing p at end a fresh = resolves_no_part no_definition p at a fresh.zeroed
