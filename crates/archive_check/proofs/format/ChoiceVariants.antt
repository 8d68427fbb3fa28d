-- The expressions of variants, put behind others.
use Rattle.std.proofs.Common.{◌≡◌, List, [], ◌∷◌, ◌++◌, refl, ap, ◌∙◌, Vec, Global}
use Rattle.archive_check.specs.declared.format.expr.Expr.{Expr}
use Rattle.archive_check.specs.Shape.{Parts, Variants, no_variant, variant}
use Rattle.archive_check.specs.Expressions.{shapes_in, variants_in}
use Rattle.archive_check.specs.Members.VariantsLayout.{joined_variants}

pub joined_no_variant : (vs : Variants) → joined_variants vs no_variant ≡ vs
joined_no_variant no_variant = refl
joined_no_variant (variant ps vs) = ap (variant ps) (joined_no_variant vs)

-- one more, and then others
joined_push : (xs : List (Vec Expr Global)) (x : Vec Expr Global) (vs : Variants) → joined_variants (variants_in (xs ++ x ∷ [])) vs ≡ joined_variants (variants_in xs) (variant (shapes_in x.items) vs)
joined_push [] x vs = refl
joined_push (y ∷ ys) x vs = ap (variant (shapes_in y.items)) (joined_push ys x vs)

pub pushed_variant : (xs ys : List (Vec Expr Global)) (x : Vec Expr Global) (ps : Parts) (vs : Variants) → shapes_in x.items ≡ ps → variants_in ys ≡ joined_variants (variants_in (xs ++ x ∷ [])) vs
    → variants_in ys ≡ joined_variants (variants_in xs) (variant ps vs)
pushed_variant xs ys x ps vs e h = h ∙ joined_push xs x vs ∙ ap (λ qs. joined_variants (variants_in xs) (variant qs vs)) e
