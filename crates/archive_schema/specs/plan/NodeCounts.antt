-- How many nodes expressions are compiled to.
use Rattle.std.specs.Prelude.{ℕ, ◌+◌}
use Rattle.archive_check.specs.Shape.{Shape, leaf, parts, choice, array, boxed, vec, sorted_map, str, shared, weak, named, Pointee, one, run, text, Parts, no_part, part, Variants, no_variant, variant}

-- A text's byte has a node beside the pointer's; what else a pointer leads to is compiled for itself.
abbrev pub count_pointee : Pointee → ℕ
count_pointee (one X) = 0
count_pointee (run X) = 0
count_pointee text = 1

-- A name has its definition's node.
abbrev mutual
  pub count_of : Shape → ℕ
  count_of (leaf k) = 1
  count_of (parts ps) = counts_of ps + 1
  count_of (choice name vs) = variant_counts_of vs + 1
  count_of (array n X) = count_of X + 1
  count_of (boxed P) = count_pointee P + 1
  count_of (vec X) = 1
  count_of (sorted_map K V) = 1
  count_of str = 2
  count_of (shared f P) = count_pointee P + 1
  count_of (weak f P) = count_pointee P + 1
  count_of (named name) = 0

  pub counts_of : Parts → ℕ
  counts_of no_part = 0
  counts_of (part X ps) = count_of X + counts_of ps

  pub variant_counts_of : Variants → ℕ
  variant_counts_of no_variant = 0
  variant_counts_of (variant ps vs) = counts_of ps + variant_counts_of vs
