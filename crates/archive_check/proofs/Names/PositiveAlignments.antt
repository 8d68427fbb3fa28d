-- No alignment is 0.
use Rattle.std.proofs.Common.{ℕ, zero, suc, ◌≤◌, arith, Option, Some, None}
use Rattle.archive_check.specs.Shape.{Name, Shape, leaf, parts, choice, array, named, Parts, no_part, part, Variants, no_variant, variant, Table, definition}
use Rattle.archive_check.specs.Layout.{Layouts, align_of, parts_align, variants_align}
use Rattle.archive_check.proofs.Names.Rounds.{layout_or, rounds}

-- parts and variants have one of 1 at least
pub parts_align_pos : (names : Layouts) (ps : Parts) → 1 ≤ parts_align names ps
parts_align_pos names no_part = omega arith
parts_align_pos names (part X ps) = omega (arith, parts_align_pos names ps)

pub variants_align_pos : (names : Layouts) (vs : Variants) → 1 ≤ variants_align names vs
variants_align_pos names no_variant = omega arith
variants_align_pos names (variant ps vs) = omega (arith, variants_align_pos names vs)

-- and so has an expression, where each name has
pub align_pos : (names : Layouts) → ((n : Name) → 1 ≤ (names n).align) → (X : Shape) → 1 ≤ align_of names X
align_pos names positive (leaf kind) = omega arith
align_pos names positive (parts ps) = parts_align_pos names ps
align_pos names positive (choice name vs) = variants_align_pos names vs
align_pos names positive (array n X) = align_pos names positive X
align_pos names positive (named name) = positive name
align_pos names positive _ = omega arith

layout_or_pos : (names : Layouts) → ((n : Name) → 1 ≤ (names n).align) → (X : Option Shape) → 1 ≤ (layout_or names X).align
layout_or_pos names h None = omega arith
layout_or_pos names h (Some X) = align_pos names h X

-- so the rounds' layouts are positive
pub rounds_pos : (table : Table) (k : ℕ) (name : Name) → 1 ≤ (rounds table k name).align
rounds_pos table zero name = omega arith
rounds_pos table (suc k) name = layout_or_pos (rounds table k) (rounds_pos table k) (definition table name)
