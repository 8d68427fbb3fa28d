-- What expressions of records stand for.
use Rattle.std.proofs.Common.{◌≡◌, ℕ, List, [], ◌∷◌, refl, sym, ap, ◌∙◌, Vec, Global}
use Rattle.archive_check.specs.declared.format.expr.Expr.{Expr, Row_of-Expr, end_of-Expr, more_of-Expr, items-the_row-Expr, items_hidden-the_row-Expr-0}
use Rattle.archive_check.specs.declared.format.expr.Expr.TheVariants as expr
use Rattle.archive_check.specs.Shape.{parts, part, no_part}
use Rattle.archive_check.specs.Expressions.{shape_of, shapes_of, shapes_in}

shapes_row : (n : _) (row : Row_of-Expr n) → shapes_of row ≡ shapes_in (items-the_row-Expr n row)
shapes_row n end_of-Expr = refl
shapes_row n (more_of-Expr x rest) = ap (part (shape_of x)) (shapes_row _ rest)

abbrev row_of : Expr → (n : _) × Row_of-Expr n
row_of (expr.Record' _ row) = (_, row)
row_of _ = (_, end_of-Expr)

-- a record has the shapes of its parts
pub record_shape : (xs : Vec Expr Global) (items : List Expr) → xs.items ≡ items → shape_of (expr.Record xs) ≡ parts (shapes_in items)
record_shape xs items e =
    let row = row_of (expr.Record xs) in
    ap parts (shapes_row row.0 row.1 ∙ ap shapes_in (items_hidden-the_row-Expr-0 xs ∙ e))
