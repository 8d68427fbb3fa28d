-- Lists of expressions of which the first are copied already.
use Rattle.std.proofs.Common.{◌≡◌, ℕ, ◌+◌, ◌<◌, ◌≤◌, List, [], ◌∷◌, ◌++◌, length, drop, get_or, Vec, Global, sym, ap, ◌∙◌}
use Rattle.std.proofs.lemmas.List.{drop_all, append-nil}
use Rattle.archive_check.specs.declared.format.expr.Expr.{Expr}
use Rattle.archive_check.specs.Shape.{part, variant}
use Rattle.archive_check.specs.Expressions.{shape_of, shapes_in, variants_in}
use Rattle.archive_check.proofs.format.Views.{shapes_in-drop, variants_in-drop}

pub shapes_in-copy : (ys xs : List Expr) (i : ℕ) (x y : Expr) → i < length xs → x ≡ get_or xs i x → shape_of y ≡ shape_of x → shapes_in ((ys ++ y ∷ []) ++ drop (i + 1) xs) ≡ shapes_in (ys ++ drop i xs)
shapes_in-copy [] xs i x y h e s = ap (λ q. part q (shapes_in (drop (i + 1) xs))) s ∙ sym (shapes_in-drop xs i x h e)
shapes_in-copy (z ∷ ys) xs i x y h e s = ap (part (shape_of z)) (shapes_in-copy ys xs i x y h e s)

pub shapes_in-copied : (ys xs : List Expr) (i : ℕ) → length xs ≤ i → shapes_in (ys ++ drop i xs) ≡ shapes_in ys
shapes_in-copied ys xs i h = ap (λ zs. shapes_in (ys ++ zs)) (drop_all i xs h) ∙ ap shapes_in (append-nil ys)

pub variants_in-copy : (ys xs : List (Vec Expr Global)) (i : ℕ) (x y : Vec Expr Global) → i < length xs → x ≡ get_or xs i x → shapes_in y.items ≡ shapes_in x.items → variants_in ((ys ++ y ∷ []) ++ drop (i + 1) xs) ≡ variants_in (ys ++ drop i xs)
variants_in-copy [] xs i x y h e s = ap (λ q. variant q (variants_in (drop (i + 1) xs))) s ∙ sym (variants_in-drop xs i x h e)
variants_in-copy (z ∷ ys) xs i x y h e s = ap (variant (shapes_in z.items)) (variants_in-copy ys xs i x y h e s)

pub variants_in-copied : (ys xs : List (Vec Expr Global)) (i : ℕ) → length xs ≤ i → variants_in (ys ++ drop i xs) ≡ variants_in ys
variants_in-copied ys xs i h = ap (λ zs. variants_in (ys ++ zs)) (drop_all i xs h) ∙ ap variants_in (append-nil ys)

pub ruleset copies = (shapes_in-copy, shapes_in-copied, variants_in-copy, variants_in-copied)
