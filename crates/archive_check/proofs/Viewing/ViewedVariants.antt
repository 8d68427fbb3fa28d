-- Views of choices: the tag, and what stands behind it.
use Rattle.std.proofs.Common.{◌≡◌, ℕ, ◌+◌, ◌<◌, ◌≤◌, List, length, slice_index, Some, true, is_some, arith, refl, sym, ap, subst}
use Rattle.std.proofs.Math.Logic.{∥∥₁_elim, ∥∥₁_map}
use Rattle.std.specs.Coded.{le_prop}
use mathlib.Core.Bool.{Bool-set}
use Rattle.archive_check.specs.Shape.{Name, Shape, choice, one, Variants, no_variant, variant, part, no_part, variant_at}
use Rattle.archive_check.specs.Layout.{Layouts, Layout, up, align_of, variants_end, variants_align}
use Rattle.archive_check.specs.Value.{Value}
use Rattle.archive_check.specs.Reads.{SchemaTable, reads_choice}
use Rattle.archive_check.specs.Tour.{Contents, contents_one}
use Rattle.archive_check.specs.Within.{IsPart, first_part, whole, in_choice}
use Rattle.archive_check.specs.Definitions.{Definitions, Knows, HasLayout}
use Rattle.archive_check.specs.Viewed.{Lies, Viewed}
use Rattle.archive_check.proofs.Tours.PartsInside.{up_le}
use Rattle.archive_check.proofs.Names.PositiveAlignments.{variants_align_pos}
use Rattle.archive_check.proofs.Meanings.ReachedParts.{within_reached}
use Rattle.archive_check.proofs.Viewing.Viewed.{lies_fits, lies_reads, lies_reached, reached_lies}

ends_behind_tag : (l : Layouts) (vs : Variants) → 1 ≤ variants_end l vs
ends_behind_tag l no_variant = omega arith
ends_behind_tag l (variant ps vs) = omega (arith, ends_behind_tag l vs)

-- the tag lies in the buffer
tag_lies : {s : SchemaTable} {D : Definitions} {bytes : List ℕ} {q n : ℕ} {name : Name} {vs : Variants} → Knows s D → Lies s bytes q (one (choice name vs)) n → q < length bytes
tag_lies {s = s} {bytes = bytes} {vs = vs} k l =
    omega (arith, lies_fits s bytes k.laid_out l, ends_behind_tag s.layouts vs, up_le (variants_end s.layouts vs) (variants_align s.layouts vs) (variants_align_pos s.layouts vs))

pub tag_fits : (D : Definitions) (bytes : List ℕ) (q n : ℕ) (name : Name) (vs : Variants) → Viewed D bytes q (one (choice name vs)) n → q < length bytes
tag_fits D bytes q n name vs v = ∥∥₁_elim v le_prop (λ (s, k, l). tag_lies k l)

-- and names a variant
known_tag : {s : SchemaTable} {bytes : List ℕ} {q n : ℕ} {name : Name} {vs : Variants} {v : Value} → Contents s bytes q (one (choice name vs)) n v → is_some (variant_at vs (slice_index bytes q)) ≡ true
known_tag (contents_one (reads_choice e rs)) = rw e refl

pub tag_known : (D : Definitions) (bytes : List ℕ) (q n : ℕ) (name : Name) (vs : Variants) → Viewed D bytes q (one (choice name vs)) n → is_some (variant_at vs (slice_index bytes q)) ≡ true
tag_known D bytes q n name vs v = ∥∥₁_elim v (Bool-set _ _) (λ (s, k, l). known_tag (lies_reads s bytes l).1)

-- the part of a variant with one part is a view of its own

module _ (D E : Definitions) (known : (s : SchemaTable) → Knows s D → Knows s E) (name : Name) (vs : Variants) (tag : ℕ) (X : Shape) (is : variant_at vs tag ≡ Some (part X no_part)) (L : Layout) (layout : HasLayout E X L)
    (bytes : List ℕ) (q n offset : ℕ) (there : offset ≡ up 1 L.align) (first : slice_index bytes q ≡ tag) where
  pub case_begins : (s : SchemaTable) → Knows s D → up 1 (align_of s.layouts X) ≡ offset
  case_begins s k = rw (ap (λ (l : Layout). l.align) (layout.solved s (known s k))) (sym there)

  pub case_lies : (s : SchemaTable) → Knows s D → (l : Lies s bytes q (one (choice name vs)) n) → Lies s bytes (q + offset) (one X) 0
  case_lies s k l =
      let (w, r) = lies_reached s bytes l in
      let e : variant_at vs (slice_index bytes q) ≡ Some (part X no_part) = rw first is in
      let i : IsPart s q 1 (part X no_part) (q + offset) X = subst (λ o. IsPart s q 1 (part X no_part) (q + o) X) (case_begins s k) first_part in
      let (u, k) = within_reached s bytes r (in_choice whole e i) in
      reached_lies s bytes k

  pub case_viewed : Viewed D bytes q (one (choice name vs)) n → Viewed E bytes (q + offset) (one X) 0
  case_viewed v = ∥∥₁_map v (λ (s, k, l). (s, known s k, case_lies s k l))
