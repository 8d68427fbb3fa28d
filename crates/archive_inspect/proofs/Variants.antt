-- The variants of choices, as the program has them.
use Rattle.std.proofs.Common.{◌≡◌, ℕ, zero, suc, ◌<◌, ◌≤◌, List, [], ◌∷◌, length, get_or, refl, sym, ap, arith, Some, None, Vec, Global}
use Rattle.archive_check.specs.declared.format.expr.Expr.{Expr}
use Rattle.archive_check.specs.Shape.{variant_at}
use Rattle.archive_check.specs.Expressions.{shapes_in, variants_in}

-- the parts of the variant of a tag, of variants that the program has
pub variants_at : (xs : List (Vec Expr Global)) (i : ℕ) (x : Vec Expr Global) → i < length xs → x ≡ get_or xs i x → variant_at (variants_in xs) i ≡ Some (shapes_in x.items)
variants_at [] i x h e = absurd (omega arith)
variants_at (y ∷ ys) zero x h e = ap (λ (z : Vec Expr Global). Some (shapes_in z.items)) (sym e)
variants_at (y ∷ ys) (suc i) x h e = variants_at ys i x (omega arith) e

pub variants_past : (xs : List (Vec Expr Global)) (i : ℕ) → length xs ≤ i → variant_at (variants_in xs) i ≡ None
variants_past [] i h = refl
variants_past (y ∷ ys) zero h = absurd (omega arith)
variants_past (y ∷ ys) (suc i) h = variants_past ys i (omega arith)

pub ruleset numbered = (variants_at, variants_past)
