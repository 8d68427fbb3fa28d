-- A measure of expressions, in no unit: it falls with each step down, so what goes down an expression ends.
use Rattle.std.specs.Prelude.{ℕ, ◌+◌}
use Rattle.archive_check.specs.Shape.{Shape, parts, choice, array, boxed, vec, sorted_map, shared, weak, Pointee, one, run, text, Parts, no_part, part, Variants, no_variant, variant}

abbrev mutual
  pub measure_of : Shape → ℕ
  measure_of (parts ps) = measure_of_parts ps + 1
  measure_of (choice name vs) = measure_of_variants vs + 1
  measure_of (array n x) = measure_of x + 1
  measure_of (boxed x) = measure_of_pointee x + 1
  measure_of (vec x) = measure_of x + 2
  -- its entries wait, and are records of a key and an x
  measure_of (sorted_map K x) = measure_of x + 6
  measure_of (shared f x) = measure_of_pointee x + 1
  measure_of (weak f x) = measure_of_pointee x + 1
  measure_of _ = 1

  pub measure_of_parts : Parts → ℕ
  measure_of_parts no_part = 0
  measure_of_parts (part x xs) = measure_of x + 1 + measure_of_parts xs

  pub measure_of_variants : Variants → ℕ
  measure_of_variants no_variant = 0
  measure_of_variants (variant x xs) = measure_of_parts x + 1 + measure_of_variants xs

  pub measure_of_pointee : Pointee → ℕ
  measure_of_pointee (one x) = measure_of x + 2
  measure_of_pointee (run x) = measure_of x + 2
  measure_of_pointee text = 0
