-- Equality of expressions, step by step.
use Rattle.std.proofs.Common.{◌≡◌, ◌≢◌, ℕ, List, [], ◌∷◌, length, Bool, true, false, ◌&&◌, refl, sym, ap, ◌∙◌, Vec, Global, arith, Bor, ◌==◌}
use Rattle.std.specs.Cmp.Lexicographic.{pointwise}
use Rattle.archive_check.specs.contracts.format.expr.IntegerKindPartialEq.TheImpl as integer_eq
use Rattle.archive_check.specs.contracts.format.expr.KindPartialEq.TheImpl as kind_eq
use Rattle.archive_check.specs.declared.format.expr.IntegerKind.{IntegerKind}
use Rattle.archive_check.specs.declared.format.expr.IntegerKind.TheVariants.{U8, I8, U16, I16, U32, I32, U64, I64, U128, I128}
use Rattle.archive_check.specs.declared.format.expr.Kind.{Kind as KindExpr}
use Rattle.archive_check.specs.declared.format.expr.Kind.TheVariants.{Unit as UnitKind, Bool as BoolKind, Char as CharKind, Number, NonZero, RawRel}
use Rattle.archive_check.specs.declared.format.expr.Expr.{Expr}
use Rattle.archive_check.specs.declared.format.expr.Expr.TheVariants as expr
use Rattle.archive_check.specs.Expressions.{integer_of, kind_of, shape_of, shapes_in, variants_in}
use Rattle.archive_check.specs.Equality.{same_sign, same_width, same_kind, same_shape, same_parts, same_variants}
use Rattle.archive_check.proofs.format.Views.{shape_of-Choice}

-- the derived tests of kinds are those of their shapes
integer_same : (j k : IntegerKind) → (integer_eq.ghosts).eq j k ≡ (same_sign (integer_of j).0 (integer_of k).0 && same_width (integer_of j).1 (integer_of k).1)
integer_same U8 U8 = refl
integer_same I8 I8 = refl
integer_same U16 U16 = refl
integer_same I16 I16 = refl
integer_same U32 U32 = refl
integer_same I32 I32 = refl
integer_same U64 U64 = refl
integer_same I64 I64 = refl
integer_same U128 U128 = refl
integer_same I128 I128 = refl
integer_same _ _ = refl

pub kind_same : (j k : KindExpr) → (kind_eq.ghosts).eq j k ≡ same_kind (kind_of j) (kind_of k)
kind_same UnitKind UnitKind = refl
kind_same BoolKind BoolKind = refl
kind_same CharKind CharKind = refl
kind_same (Number j) (Number k) = integer_same j k
kind_same (NonZero j) (NonZero k) = integer_same j k
kind_same (RawRel j) (RawRel k) = integer_same j k
kind_same _ _ = refl

and_false : (b : Bool) → (b && false) ≡ false
and_false true = refl
and_false false = refl

-- lists of other lengths aren't the same
pub same_parts-lengths : (xs ys : List Expr) → length xs ≢ length ys → same_parts (shapes_in xs) (shapes_in ys) ≡ false
same_parts-lengths [] [] h = absurd (h refl)
same_parts-lengths [] (y ∷ ys) h = refl
same_parts-lengths (x ∷ xs) [] h = refl
same_parts-lengths (x ∷ xs) (y ∷ ys) h =
    ap (λ b. same_shape (shape_of x) (shape_of y) && b) (same_parts-lengths xs ys (λ e. h (omega (arith, e)))) ∙ and_false _

pub same_variants-lengths : (xs ys : List (Vec Expr Global)) → length xs ≢ length ys → same_variants (variants_in xs) (variants_in ys) ≡ false
same_variants-lengths [] [] h = absurd (h refl)
same_variants-lengths [] (y ∷ ys) h = refl
same_variants-lengths (x ∷ xs) [] h = refl
same_variants-lengths (x ∷ xs) (y ∷ ys) h =
    ap (λ b. same_parts (shapes_in x.items) (shapes_in y.items) && b) (same_variants-lengths xs ys (λ e. h (omega (arith, e)))) ∙ and_false _

pub same_choice : (m n : Bor (List ℕ)) (x y : Vec (Vec Expr Global) Global) (b : Bool) → pointwise ◌==◌ m.now n.now ≡ true → b ≡ same_variants (variants_in x.items) (variants_in y.items) → b ≡ same_shape (shape_of (expr.Choice m x)) (shape_of (expr.Choice n y))
same_choice m n x y b e f =
    let p = shape_of-Choice m x in
    let q = shape_of-Choice n y in
    f ∙ sym (ap (λ t. t && same_variants (variants_in x.items) (variants_in y.items)) e) ∙ sym (λ i. same_shape (p i) (q i))

pub choice_same : (a b : Expr) (m n : Bor (List ℕ)) (x y : Vec (Vec Expr Global) Global) (xs ys : List (Vec Expr Global)) (r : Bool) → a ≡ expr.Choice m x → b ≡ expr.Choice n y → xs ≡ x.items → ys ≡ y.items → pointwise ◌==◌ m.now n.now ≡ true → r ≡ same_variants (variants_in xs) (variants_in ys) → r ≡ same_shape (shape_of a) (shape_of b)
choice_same a b m n x y xs ys r ea eb ex ey e f =
    same_choice m n x y r e (f ∙ (λ i. same_variants (variants_in (ex i)) (variants_in (ey i)))) ∙ sym (λ i. same_shape (shape_of (ea i)) (shape_of (eb i)))

pub ruleset same = (kind_same, same_parts-lengths, same_variants-lengths, same_choice)
