-- That a schema is one of a shape is a fact: it has one proof at most, so that a struct may keep it.
use Rattle.std.proofs.Common.{◌≡◌, refl, sym, ap, ◌∙◌, Bool, true, false, Option, Some, None, is_some, Contains}
use mathlib.Core.HLevel.{Stable-paths→set, Π_prop, →_prop, is_prop→PathP, ⊥_prop}
use mathlib.Core.Bool.{true≢false}
use Rattle.archive_schema.specs.declared.shape.Schema.{Schema as RustSchema}
use Rattle.archive_check.specs.Shape.{Name, Shape, Table, definition}
use Rattle.archive_check.specs.Equality.{same_shape, same_shape-Decides}
use Rattle.archive_check.specs.Defined.{AllDefined, WellFormed}
use Rattle.archive_check.specs.Definitions.{Definitions, listed}
use Rattle.archive_schema.specs.Schemas.{IsSchemaOf}

-- What can't differ is the same, since a test tells shapes apart.
same_by : (x y : Shape) (b : Bool) → same_shape x y ≡ b → ((x ≡ y → ⊥) → ⊥) → x ≡ y
same_by x y true e h = (same_shape-Decides x y).0 e
same_by x y false e h = absurd (h (λ p. true≢false (sym ((same_shape-Decides x y).1 p) ∙ e)))

-- So two shapes are the same in one way at most.
pub Shape-set : IsSet Shape
Shape-set = Stable-paths→set (λ x y h. same_by x y (same_shape x y) refl h)

abbrev or_this : Shape → Option Shape → Shape
or_this X None = X
or_this X (Some Y) = Y

some_same : (X Y : Shape) → Some X ≡ Some Y → X ≡ Y
some_same X Y e = ap (or_this X) e

found_by : (a b : Option Shape) → ((a ≡ b → ⊥) → ⊥) → a ≡ b
found_by None None h = refl
found_by (Some X) (Some Y) h = ap Some (same_by X Y (same_shape X Y) refl (λ n. h (λ p. n (some_same X Y p))))
found_by (Some X) None h = absurd (h (λ p. true≢false (ap is_some p)))
found_by None (Some Y) h = absurd (h (λ p. true≢false (sym (ap is_some p))))

found-set : IsSet (Option Shape)
found-set = Stable-paths→set found_by

AllDefined-prop : (table : Table) (X : Shape) → IsProp (AllDefined table X)
AllDefined-prop table X = Π_prop (λ name. →_prop (one name))
  where
    one : (name : Name) → IsProp ((Y : Shape) × (definition table name ≡ Some Y) × ((Z : Shape) → Contains table (name, Z) → Z ≡ Y))
    one name u v =
        let p : u.0 ≡ v.0 = some_same u.0 v.0 (sym u.1 ∙ v.1) in
        λ i. (
          p i,
          is_prop→PathP (λ j. definition table name ≡ Some (p j)) (λ j. found-set (definition table name) (Some (p j))) u.1 v.1 i,
          is_prop→PathP (λ j. (Z : Shape) → Contains table (name, Z) → Z ≡ p j) (λ j. Π_prop (λ Z. →_prop (Shape-set Z (p j)))) u.2 v.2 i,
        )

pub WellFormed-prop : (table : Table) (X : Shape) → IsProp (WellFormed table X)
WellFormed-prop table X a b = λ i. record {
  defined = AllDefined-prop table X a.defined b.defined i;
  finite = Π_prop (λ name. Π_prop (λ Y. →_prop (→_prop (→_prop ⊥_prop)))) a.finite b.finite i;
}

pub IsSchemaOf-prop : (s : RustSchema) (X : Shape) (D : Definitions) → IsProp (IsSchemaOf s X D)
IsSchemaOf-prop s X D a b = λ i. record {
  root = Shape-set _ _ a.root b.root i;
  known = Π_prop (λ name. Π_prop (λ Y. →_prop (found-set _ _))) a.known b.known i;
  has = Π_prop (λ name. Π_prop (λ Y. →_prop (→_prop (found-set _ _)))) a.has b.has i;
  well_formed = WellFormed-prop (listed D) X a.well_formed b.well_formed i;
}
