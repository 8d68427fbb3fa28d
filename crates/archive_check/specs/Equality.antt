-- Whether two shapes are written alike, as a test, which is true of a shape and itself alone.
use Rattle.std.specs.Prelude.{◌≡◌, ◌==◌, Bool, true, false, ◌&&◌, bytes_eq, refl}
use Rattle.std.specs.Bool.{Decides, beq}
use Rattle.std.specs.Cmp.{IsEquivalence, decided, unsigned_Decides, booleans_Decides, first_so, second_so}
use Rattle.std.specs.Cmp.Lexicographic.{bytes_decides}
use Rattle.std.specs.Int.{Width, w8, w16, w32, w64, w128}
use Rattle.std.proofs.Common.{sym, subst}
use mathlib.Core.Bool.{true≢false}
use Rattle.archive_check.specs.Shape.{Name, Sign, unsigned, signed, Kind, unit, bool, char, number, non_zero, raw_rel, Key, leaf_key, str_key, Flavor, Shape, leaf, parts, choice, array, boxed, vec, sorted_map, str, shared, weak, named, Pointee, one, run, text, Parts, no_part, part, Variants, no_variant, variant}

abbrev pub same_sign : Sign → Sign → Bool
same_sign unsigned unsigned = true
same_sign signed signed = true
same_sign _ _ = false

abbrev pub same_width : Width → Width → Bool
same_width w8 w8 = true
same_width w16 w16 = true
same_width w32 w32 = true
same_width w64 w64 = true
same_width w128 w128 = true
same_width _ _ = false

abbrev pub same_kind : Kind → Kind → Bool
same_kind unit unit = true
same_kind bool bool = true
same_kind char char = true
same_kind (number s w) (number t v) = same_sign s t && same_width w v
same_kind (non_zero s w) (non_zero t v) = same_sign s t && same_width w v
same_kind (raw_rel s w) (raw_rel t v) = same_sign s t && same_width w v
same_kind _ _ = false

abbrev pub same_key : Key → Key → Bool
same_key (leaf_key k) (leaf_key l) = same_kind k l
same_key str_key str_key = true
same_key _ _ = false

abbrev pub same_flavor : Flavor → Flavor → Bool
same_flavor f g = bytes_eq f.name g.name && beq f.cycles g.cycles

abbrev mutual
  pub same_shape : Shape → Shape → Bool
  same_shape (leaf k) (leaf l) = same_kind k l
  same_shape (parts xs) (parts ys) = same_parts xs ys
  same_shape (choice m vs) (choice n ws) = bytes_eq m n && same_variants vs ws
  same_shape (array m x) (array n y) = (m == n) && same_shape x y
  same_shape (boxed x) (boxed y) = same_pointee x y
  same_shape (vec x) (vec y) = same_shape x y
  same_shape (sorted_map k x) (sorted_map l y) = same_key k l && same_shape x y
  same_shape str str = true
  same_shape (shared f x) (shared g y) = same_flavor f g && same_pointee x y
  same_shape (weak f x) (weak g y) = same_flavor f g && same_pointee x y
  same_shape (named m) (named n) = bytes_eq m n
  same_shape _ _ = false

  pub same_pointee : Pointee → Pointee → Bool
  same_pointee (one x) (one y) = same_shape x y
  same_pointee (run x) (run y) = same_shape x y
  same_pointee text text = true
  same_pointee _ _ = false

  pub same_parts : Parts → Parts → Bool
  same_parts no_part no_part = true
  same_parts (part x xs) (part y ys) = same_shape x y && same_parts xs ys
  same_parts _ _ = false

  pub same_variants : Variants → Variants → Bool
  same_variants no_variant no_variant = true
  same_variants (variant x xs) (variant y ys) = same_parts x y && same_variants xs ys
  same_variants _ _ = false

-- what the tests decide, part by part

never : {P : Type 0} → false ≡ true → P
never h = absurd (true≢false (sym h))

one_sign : (s t : Sign) → same_sign s t ≡ true → s ≡ t
one_sign unsigned unsigned h = refl
one_sign signed signed h = refl
one_sign _ _ h = never h

own_sign : (s : Sign) → same_sign s s ≡ true
own_sign unsigned = refl
own_sign signed = refl

one_width : (w v : Width) → same_width w v ≡ true → w ≡ v
one_width w8 w8 h = refl
one_width w16 w16 h = refl
one_width w32 w32 h = refl
one_width w64 w64 h = refl
one_width w128 w128 h = refl
one_width _ _ h = never h

own_width : (w : Width) → same_width w w ≡ true
own_width w8 = refl
own_width w16 = refl
own_width w32 = refl
own_width w64 = refl
own_width w128 = refl

-- Two numbers' kinds, by a constructor of them.
one_number : (make : Sign → Width → Kind) (s t : Sign) (w v : Width) → (same_sign s t && same_width w v) ≡ true → make s w ≡ make t v
one_number make s t w v h = λ i. make (one_sign s t (first_so _ _ h) i) (one_width w v (second_so _ _ h) i)

own_number : (s : Sign) (w : Width) → (same_sign s s && same_width w w) ≡ true
own_number s w = λ i. own_sign s i && own_width w i

one_kind : (k l : Kind) → same_kind k l ≡ true → k ≡ l
one_kind unit unit h = refl
one_kind bool bool h = refl
one_kind char char h = refl
one_kind (number s w) (number t v) h = one_number number s t w v h
one_kind (non_zero s w) (non_zero t v) h = one_number non_zero s t w v h
one_kind (raw_rel s w) (raw_rel t v) h = one_number raw_rel s t w v h
one_kind _ _ h = never h

own_kind : (k : Kind) → same_kind k k ≡ true
own_kind unit = refl
own_kind bool = refl
own_kind char = refl
own_kind (number s w) = own_number s w
own_kind (non_zero s w) = own_number s w
own_kind (raw_rel s w) = own_number s w

one_key : (k l : Key) → same_key k l ≡ true → k ≡ l
one_key (leaf_key k) (leaf_key l) h = λ i. leaf_key (one_kind k l h i)
one_key str_key str_key h = refl
one_key _ _ h = never h

own_key : (k : Key) → same_key k k ≡ true
own_key (leaf_key k) = own_kind k
own_key str_key = refl

one_name : (m n : Name) → bytes_eq m n ≡ true → m ≡ n
one_name m n h = (bytes_decides m n).0 h

own_name : (n : Name) → bytes_eq n n ≡ true
own_name n = (bytes_decides n n).1 refl

one_flavor : (f g : Flavor) → same_flavor f g ≡ true → f ≡ g
one_flavor f g h = λ i. record {
  name = one_name f.name g.name (first_so _ _ h) i;
  cycles = (booleans_Decides f.cycles g.cycles).0 (second_so (bytes_eq f.name g.name) _ h) i;
}

own_flavor : (f : Flavor) → same_flavor f f ≡ true
own_flavor f = λ i. own_name f.name i && (booleans_Decides f.cycles f.cycles).1 refl i

mutual
  one_shape : (x y : Shape) → same_shape x y ≡ true → x ≡ y
  one_shape (leaf k) (leaf l) h = λ i. leaf (one_kind k l h i)
  one_shape (parts xs) (parts ys) h = λ i. parts (one_parts xs ys h i)
  one_shape (choice m vs) (choice n ws) h = λ i. choice (one_name m n (first_so _ _ h) i) (one_variants vs ws (second_so (bytes_eq m n) _ h) i)
  one_shape (array m x) (array n y) h = λ i. array ((unsigned_Decides m n).0 (first_so _ _ h) i) (one_shape x y (second_so (m == n) _ h) i)
  one_shape (boxed x) (boxed y) h = λ i. boxed (one_pointee x y h i)
  one_shape (vec x) (vec y) h = λ i. vec (one_shape x y h i)
  one_shape (sorted_map k x) (sorted_map l y) h = λ i. sorted_map (one_key k l (first_so _ _ h) i) (one_shape x y (second_so (same_key k l) _ h) i)
  one_shape str str h = refl
  one_shape (shared f x) (shared g y) h = λ i. shared (one_flavor f g (first_so _ _ h) i) (one_pointee x y (second_so (same_flavor f g) _ h) i)
  one_shape (weak f x) (weak g y) h = λ i. weak (one_flavor f g (first_so _ _ h) i) (one_pointee x y (second_so (same_flavor f g) _ h) i)
  one_shape (named m) (named n) h = λ i. named (one_name m n h i)
  one_shape _ _ h = never h

  one_pointee : (x y : Pointee) → same_pointee x y ≡ true → x ≡ y
  one_pointee (one x) (one y) h = λ i. one (one_shape x y h i)
  one_pointee (run x) (run y) h = λ i. run (one_shape x y h i)
  one_pointee text text h = refl
  one_pointee _ _ h = never h

  one_parts : (xs ys : Parts) → same_parts xs ys ≡ true → xs ≡ ys
  one_parts no_part no_part h = refl
  one_parts (part x xs) (part y ys) h = λ i. part (one_shape x y (first_so _ _ h) i) (one_parts xs ys (second_so (same_shape x y) _ h) i)
  one_parts _ _ h = never h

  one_variants : (vs ws : Variants) → same_variants vs ws ≡ true → vs ≡ ws
  one_variants no_variant no_variant h = refl
  one_variants (variant x vs) (variant y ws) h = λ i. variant (one_parts x y (first_so _ _ h) i) (one_variants vs ws (second_so (same_parts x y) _ h) i)
  one_variants _ _ h = never h

mutual
  own_shape : (x : Shape) → same_shape x x ≡ true
  own_shape (leaf k) = own_kind k
  own_shape (parts xs) = own_parts xs
  own_shape (choice n vs) = λ i. own_name n i && own_variants vs i
  own_shape (array n x) = λ i. (unsigned_Decides n n).1 refl i && own_shape x i
  own_shape (boxed x) = own_pointee x
  own_shape (vec x) = own_shape x
  own_shape (sorted_map k x) = λ i. own_key k i && own_shape x i
  own_shape str = refl
  own_shape (shared f x) = λ i. own_flavor f i && own_pointee x i
  own_shape (weak f x) = λ i. own_flavor f i && own_pointee x i
  own_shape (named n) = own_name n

  own_pointee : (x : Pointee) → same_pointee x x ≡ true
  own_pointee (one x) = own_shape x
  own_pointee (run x) = own_shape x
  own_pointee text = refl

  own_parts : (xs : Parts) → same_parts xs xs ≡ true
  own_parts no_part = refl
  own_parts (part x xs) = λ i. own_shape x i && own_parts xs i

  own_variants : (vs : Variants) → same_variants vs vs ≡ true
  own_variants no_variant = refl
  own_variants (variant x vs) = λ i. own_parts x i && own_variants vs i

-- A test that is true of each value and itself alone decides `≡`.
decides_same : {A : Type 0} (test : A → A → Bool) → ((x y : A) → test x y ≡ true → x ≡ y) → ((x : A) → test x x ≡ true) → (x y : A) → Decides (test x y) (x ≡ y)
decides_same test same own x y = (same x y, λ e. subst (λ z. test x z ≡ true) e (own x))

pub same_flavor-Decides : (f g : Flavor) → Decides (same_flavor f g) (f ≡ g)
same_flavor-Decides = decides_same same_flavor one_flavor own_flavor

pub same_shape-Decides : (x y : Shape) → Decides (same_shape x y) (x ≡ y)
same_shape-Decides = decides_same same_shape one_shape own_shape

pub same_pointee-Decides : (x y : Pointee) → Decides (same_pointee x y) (x ≡ y)
same_pointee-Decides = decides_same same_pointee one_pointee own_pointee

-- A test of two shapes, or pointees, with what it decides: nobody has to know how.
pub shape_test : (x y : Shape) → (same : Bool) × Decides same (x ≡ y)
shape_test x y = (same_shape x y, same_shape-Decides x y)

pub pointee_test : (x y : Pointee) → (same : Bool) × Decides same (x ≡ y)
pointee_test x y = (same_pointee x y, same_pointee-Decides x y)

abbrev pub is_same_shape : Shape → Shape → Bool
is_same_shape x y = (shape_test x y).0

abbrev pub is_same_pointee : Pointee → Pointee → Bool
is_same_pointee x y = (pointee_test x y).0

pub shape_tested : (x y : Shape) → same_shape x y ≡ is_same_shape x y
unfolding shape_test
shape_tested x y = refl

pub pointee_tested : (x y : Pointee) → same_pointee x y ≡ is_same_pointee x y
unfolding pointee_test
pointee_tested x y = refl

-- So they are equivalences.
pub same_shape-equiv : IsEquivalence is_same_shape
same_shape-equiv = decided is_same_shape (λ x y. (shape_test x y).1)

pub same_pointee-equiv : IsEquivalence is_same_pointee
same_pointee-equiv = decided is_same_pointee (λ x y. (pointee_test x y).1)

pub ruleset shapes_decided = (same_shape-Decides, same_pointee-Decides, same_flavor-Decides, shape_tested, pointee_tested)
