-- What expressions of records and choices stand for, item by item of their vectors.
use Rattle.std.proofs.Common.{◌≡◌, ℕ, ◌+◌, ◌<◌, List, [], ◌∷◌, length, drop, get_or, refl, sym, ap, ◌∙◌, subst, Vec, Global, arith, suc, zero, Bor}
use Rattle.std.proofs.Math.Seq.{drop-cons}
use Rattle.archive_check.specs.declared.format.expr.Expr.{Expr, Row_of-Expr, end_of-Expr, more_of-Expr, Row_of-Expr-Choice-1-1, end_of-Expr-Choice-1-1, more_of-Expr-Choice-1-1, items-the_row-Expr, items-the_row-Expr-Choice-1-1, items_hidden-the_row-Expr-0, items_hidden-the_row-Expr-Choice-1-1-1, items_shown-the_row-Expr-0}
use Rattle.archive_check.specs.declared.format.expr.Expr.TheVariants as expr
use Rattle.archive_check.specs.Shape.{parts, choice, no_part, part, no_variant, variant}
use Rattle.archive_check.specs.Expressions.{shape_of, shapes_of, variants_of, shapes_in, variants_in}
use Rattle.archive_check.specs.Measure.{measure_of, measure_of_parts, measure_of_variants}
use Rattle.std.proofs.lemmas.List.{drop_all}

pub shapes_row : (n : _) (row : Row_of-Expr n) → shapes_of row ≡ shapes_in (items-the_row-Expr n row)
shapes_row n end_of-Expr = refl
shapes_row n (more_of-Expr x rest) = ap (part (shape_of x)) (shapes_row _ rest)

pub variants_row : (n : _) (row : Row_of-Expr-Choice-1-1 n) → variants_of row ≡ variants_in (items-the_row-Expr-Choice-1-1 n row)
variants_row n end_of-Expr-Choice-1-1 = refl
variants_row n (more_of-Expr-Choice-1-1 v row rest) =
    let here = shapes_row _ row ∙ ap shapes_in (sym (items_shown-the_row-Expr-0 v row)) in
    let there = variants_row _ rest in
    λ i. variant (here i) (there i)

abbrev row_of : Expr → (n : _) × Row_of-Expr n
row_of (expr.Record' _ row) = (_, row)
row_of _ = (_, end_of-Expr)

abbrev rows_of : Expr → (n : _) × Row_of-Expr-Choice-1-1 n
rows_of (expr.Choice' _ _ row) = (_, row)
rows_of _ = (_, end_of-Expr-Choice-1-1)

pub shape_of-Record : (xs : Vec Expr Global) → shape_of (expr.Record xs) ≡ parts (shapes_in xs.items)
shape_of-Record xs =
    let row = row_of (expr.Record xs) in
    ap parts (shapes_row row.0 row.1 ∙ ap shapes_in (items_hidden-the_row-Expr-0 xs))

pub shape_of-Choice : (name : _) (variants : Vec (Vec Expr Global) Global) → shape_of (expr.Choice name variants) ≡ choice name.now (variants_in variants.items)
shape_of-Choice name variants =
    let row = rows_of (expr.Choice name variants) in
    ap (choice name.now) (variants_row row.0 row.1 ∙ ap variants_in (items_hidden-the_row-Expr-Choice-1-1-1 variants))

-- the element at i, and the rest
pub shapes_in-drop : (xs : List Expr) (i : ℕ) (x : Expr) → i < length xs → x ≡ get_or xs i x → shapes_in (drop i xs) ≡ part (shape_of x) (shapes_in (drop (i + 1) xs))
shapes_in-drop xs i x h e =
    let s : i + 1 ≡ suc i = omega arith in
    ap shapes_in (drop-cons xs i x h) ∙ ap (λ y. part (shape_of y) (shapes_in (drop (suc i) xs))) (sym e) ∙ ap (λ j. part (shape_of x) (shapes_in (drop j xs))) (sym s)

pub variants_in-drop : (xs : List (Vec Expr Global)) (i : ℕ) (x : Vec Expr Global) → i < length xs → x ≡ get_or xs i x → variants_in (drop i xs) ≡ variant (shapes_in x.items) (variants_in (drop (i + 1) xs))
variants_in-drop xs i x h e =
    let s : i + 1 ≡ suc i = omega arith in
    ap variants_in (drop-cons xs i x h) ∙ ap (λ y. variant (shapes_in y.items) (variants_in (drop (suc i) xs))) (sym e) ∙ ap (λ j. variant (shapes_in x.items) (variants_in (drop j xs))) (sym s)

pub shapes_in-end : (xs : List Expr) (i : ℕ) → length xs ≡ i → shapes_in (drop i xs) ≡ no_part
shapes_in-end xs i e = ap shapes_in (drop_all i xs (omega (arith, e)))

pub variants_in-end : (xs : List (Vec Expr Global)) (i : ℕ) → length xs ≡ i → variants_in (drop i xs) ≡ no_variant
variants_in-end xs i e = ap variants_in (drop_all i xs (omega (arith, e)))

-- an element is smaller than the list
pub shapes_size-at : (xs : List Expr) (i : ℕ) (x : Expr) → i < length xs → x ≡ get_or xs i x → measure_of (shape_of x) < measure_of_parts (shapes_in xs)
shapes_size-at [] i x h e = absurd (omega arith)
shapes_size-at (y ∷ ys) zero x h e = rw e (omega arith)
shapes_size-at (y ∷ ys) (suc i) x h e = omega (arith, shapes_size-at ys i x (omega arith) e)

pub measure_of_variants-at : (xs : List (Vec Expr Global)) (i : ℕ) (x : Vec Expr Global) → i < length xs → x ≡ get_or xs i x → measure_of_parts (shapes_in x.items) < measure_of_variants (variants_in xs)
measure_of_variants-at [] i x h e = absurd (omega arith)
measure_of_variants-at (y ∷ ys) zero x h e = rw e (omega arith)
measure_of_variants-at (y ∷ ys) (suc i) x h e = omega (arith, measure_of_variants-at ys i x (omega arith) e)

pub record_size : (x : Vec Expr Global) → measure_of_parts (shapes_in x.items) < measure_of (shape_of (expr.Record x))
record_size x = omega (arith, ap measure_of (shape_of-Record x))

pub choice_size : (m : Bor (List ℕ)) (x : Vec (Vec Expr Global) Global) → measure_of_variants (variants_in x.items) < measure_of (shape_of (expr.Choice m x))
choice_size m x = omega (arith, ap measure_of (shape_of-Choice m x))

pub record_falls : (a : Expr) (x : Vec Expr Global) (ys : List Expr) → a ≡ expr.Record x → ys ≡ x.items → measure_of_parts (shapes_in ys) < measure_of (shape_of a)
record_falls a x ys e f =
    subst (λ b. measure_of_parts (shapes_in ys) < measure_of (shape_of b)) (sym e) (subst (λ zs. measure_of_parts (shapes_in zs) < measure_of (shape_of (expr.Record x))) (sym f) (record_size x))

pub choice_falls : (a : Expr) (m : Bor (List ℕ)) (x : Vec (Vec Expr Global) Global) (ys : List (Vec Expr Global)) → a ≡ expr.Choice m x → ys ≡ x.items → measure_of_variants (variants_in ys) < measure_of (shape_of a)
choice_falls a m x ys e f =
    subst (λ b. measure_of_variants (variants_in ys) < measure_of (shape_of b)) (sym e) (subst (λ zs. measure_of_variants (variants_in zs) < measure_of (shape_of (expr.Choice m x))) (sym f) (choice_size m x))

pub ruleset views = (shape_of-Record, shape_of-Choice, shapes_in-drop, variants_in-drop, shapes_in-end, variants_in-end, shapes_size-at, measure_of_variants-at, record_size, choice_size)
