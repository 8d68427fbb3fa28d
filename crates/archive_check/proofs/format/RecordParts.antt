-- The expressions of parts, put behind others, and refusals that are passed on.
use Rattle.std.proofs.Common.{◌≡◌, List, [], ◌∷◌, ◌++◌, refl, ap, ◌∙◌, Result, Ok, Err, IfErr, IsErrAnd}
use Rattle.archive_check.specs.declared.format.error.Error.{Error}
use Rattle.archive_check.specs.declared.format.expr.Expr.{Expr}
use Rattle.archive_check.specs.Shape.{Shape, Parts, no_part, part}
use Rattle.archive_check.specs.Expressions.{shape_of, shapes_in}
use Rattle.archive_check.specs.Members.PartsLayout.{joined}

pub joined_none : (ps : Parts) → joined ps no_part ≡ ps
joined_none no_part = refl
joined_none (part X ps) = ap (part X) (joined_none ps)

-- one more, and then others
joined_push : (xs : List Expr) (x : Expr) (ps : Parts) → joined (shapes_in (xs ++ x ∷ [])) ps ≡ joined (shapes_in xs) (part (shape_of x) ps)
joined_push [] x ps = refl
joined_push (y ∷ ys) x ps = ap (part (shape_of y)) (joined_push ys x ps)

pub pushed_part : (xs ys : List Expr) (x : Expr) (X : Shape) (ps : Parts) → shape_of x ≡ X → shapes_in ys ≡ joined (shapes_in (xs ++ x ∷ [])) ps → shapes_in ys ≡ joined (shapes_in xs) (part X ps)
pushed_part xs ys x X ps e h = h ∙ joined_push xs x ps ∙ ap (λ Y. joined (shapes_in xs) (part Y ps)) e

-- what a refusal says that is passed on
pub err_is : {A : Type 0} (r : Result A Error) (e : Error) (P : Error → Type 0) → IsErrAnd r (λ d. d ≡ e) → P e → IfErr r P
err_is (Ok a) e P h p = tt
err_is (Err d) e P h p = rw h p
