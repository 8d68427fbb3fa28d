-- What lies within a shape lies within its bytes.
use Rattle.std.proofs.Common.{◌≡◌, ℕ, zero, suc, List, ◌+◌, ◌*◌, ◌≤◌, Some, arith, ap}
use Rattle.std.proofs.Math.Nat.{mul-le-mul_right}
use Rattle.archive_check.specs.Shape.{Shape, Pointee, one, run, text, Parts, no_part, part, Variants, no_variant, variant, variant_at}
use Rattle.archive_check.specs.Layout.{up, align_of, parts_align, variants_align, size_of, parts_end, variants_end, pointer_size}
use Rattle.archive_check.specs.Reads.{SchemaTable, LaidOut}
use Rattle.archive_check.specs.Within.{IsPart, first_part, later_part, Within, whole, in_parts, in_choice, in_array, in_named}
use Rattle.archive_check.proofs.Names.PositiveAlignments.{align_pos, parts_align_pos, variants_align_pos}

pub up_le : (n a : ℕ) → 1 ≤ a → n ≤ up n a
up_le n a h = omega arith

-- a pointer has four bytes at least
pub pointer_few : (P : Pointee) → 4 ≤ pointer_size P
pointer_few (one X) = omega arith
pointer_few (run X) = omega arith
pointer_few text = omega arith

module _ (s : SchemaTable) (laid : LaidOut s) where
  pub positive : (X : Shape) → 1 ≤ align_of s.layouts X
  positive = align_pos s.layouts laid.aligned

  pub parts_end_le : (ps : Parts) (at : ℕ) → at ≤ parts_end s.layouts at ps
  parts_end_le no_part at = omega arith
  parts_end_le (part X ps) at = omega (arith, up_le at (align_of s.layouts X) (positive X), parts_end_le ps (up at (align_of s.layouts X) + size_of s.layouts X))

  pub variant_end_le : (vs : Variants) (tag : ℕ) (ps : Parts) → variant_at vs tag ≡ Some ps → parts_end s.layouts 1 ps ≤ variants_end s.layouts vs
  variant_end_le no_variant tag ps e = cc
  variant_end_le (variant qs vs) zero ps e = let same : qs ≡ ps = cc in rw (← same) (omega arith)
  variant_end_le (variant qs vs) (suc tag) ps e = omega (arith, variant_end_le vs tag ps e)

  pub part_inside : {p at q : ℕ} {ps : Parts} {Y : Shape} → IsPart s p at ps q Y → (p + at ≤ q) × (q + size_of s.layouts Y ≤ p + parts_end s.layouts at ps)
  part_inside (first_part {at = at} {X = X} {ps = ps}) = omega (arith, up_le at (align_of s.layouts X) (positive X), parts_end_le ps (up at (align_of s.layouts X) + size_of s.layouts X))
  part_inside (later_part {at = at} {X = X} h) = omega (arith, up_le at (align_of s.layouts X) (positive X), part_inside h)

  pub within_inside : {bytes : List ℕ} {p : ℕ} {X : Shape} {q : ℕ} {Y : Shape} → Within s bytes p X q Y → (p ≤ q) × (q + size_of s.layouts Y ≤ p + size_of s.layouts X)
  within_inside whole = omega arith
  within_inside (in_parts {ps = ps} w i) = omega (arith, within_inside w, part_inside i, up_le (parts_end s.layouts 0 ps) (parts_align s.layouts ps) (parts_align_pos s.layouts ps))
  within_inside (in_choice {variants = vs} {ps = ps} w e i) = omega (arith, within_inside w, part_inside i, variant_end_le vs _ ps e, up_le (variants_end s.layouts vs) (variants_align s.layouts vs) (variants_align_pos s.layouts vs))
  within_inside (in_array {n = n} {k = k} {Y = Y} w below) =
      let more : (k + 1) * size_of s.layouts Y ≤ n * size_of s.layouts Y = mul-le-mul_right (size_of s.layouts Y) (omega arith) in omega (arith, within_inside w, more)
  within_inside (in_named {name = name} {Y = Y} w d) = let same = ap (λ l. l.size) (laid.solves name Y d) in omega (arith, within_inside w, same)
