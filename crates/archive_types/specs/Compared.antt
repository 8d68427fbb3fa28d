-- By what views of one type are compared: where they stand.
use Rattle.std.proofs.Common.{ap, refl, sym, ◌∙◌}
use mathlib.Core.Bool.{true≢false}
use Rattle.std.specs.Prelude.{◌≡◌, ℕ, zero, suc, ◌+◌, ◌-◌, ◌*◌, ◌==◌, if◌then◌else◌, pos as whole, Bool, true, IsTrue, ⊤, List, [], ◌∷◌, ◌++◌, slice_index, Option, Some, None, Result, Ok, Err}
use Rattle.std.specs.Option.{option_cmp}
use Rattle.std.specs.Result.{result_cmp}
use Rattle.archive_check.specs.Shape.{Pointee}
use Rattle.archive_check.specs.Reads.{bytes_at, u32_at, length_at}
use Rattle.archive_check.specs.Readable.{target_from}
use Rattle.std.specs.Ordering.{eq_by_cmp, is_eq, nat_cmp, on}
use Rattle.std.specs.Cmp.{IsTotalOrder, on_total, alike_right, tied_itself, Equal-is}
use Rattle.std.specs.Cmp.Lexicographic.{slice_cmp, bytes_decides, texts_ties, lists_total, lists_ties}
use Rattle.std.specs.Hash.{items_Alike}
use Rattle.std.specs.Hash as fed
use Rattle.std.specs.declared.cmp.Ordering.{Ordering}
use Rattle.std.specs.declared.cmp.Ordering.TheVariants.{Less, Equal, Greater}

-- A part of a buffer: the whole buffer, the position, the length.
pub record Standing : Type 0 where
  pub bytes : List ℕ
  pub pos : ℕ
  pub len : ℕ

abbrev pub standing : List ℕ → ℕ → ℕ → Standing
standing bytes pos len = record { bytes = bytes; pos = pos; len = len }

-- n elements of z bytes at p, from the element i on.
abbrev pub elements_from : List ℕ → ℕ → ℕ → ℕ → ℕ → List Standing
elements_from bytes p z i zero = []
elements_from bytes p z i (suc n) = standing bytes (p + i * z) 0 ∷ elements_from bytes p z (i + 1) n

-- The elements of a slice.
abbrev pub elements : ℕ → Standing → List Standing
elements z v = elements_from v.bytes v.pos z 0 v.len

-- What feeds a hasher alike where two are equal does so where the order tells neither apart.
pub level_fed : {K X : Type 0} {E : K → K → Bool} (R : K → K → Ordering) (feed : K → X) → ((x y : K) → E x y ≡ eq_by_cmp R x y) → ((x y : K) → IsTrue (E x y) → feed x ≡ feed y)
    → (x y : K) → IsTrue (eq_by_cmp R x y) → feed x ≡ feed y
level_fed R feed ties alike x y h = alike x y (rw (ties x y) h)

-- Texts of the same bytes feed a hasher alike.
pub text_fed : (xs ys : List ℕ) → IsTrue (eq_by_cmp (slice_cmp nat_cmp) xs ys) → fed.str xs ≡ fed.str ys
text_fed xs ys h = ap fed.str ((bytes_decides xs ys).0 (texts_ties xs ys ∙ h))

-- The slices' order: the first elements that differ decide, and else the lengths.
abbrev pub slices : ℕ → (Standing → Standing → Ordering) → Standing → Standing → Ordering
slices z R = on (elements z) (slice_cmp R)

-- The order of what is left of two slices from the element i on.
abbrev pub slices_from : ℕ → (Standing → Standing → Ordering) → ℕ → Standing → Standing → Ordering
slices_from z R i x y = slice_cmp R (elements_from x.bytes x.pos z i (x.len - i)) (elements_from y.bytes y.pos z i (y.len - i))

-- Parts whose first n bytes are the same are level; of no bytes it says nothing.
abbrev pub AreLevelBy : ℕ → (Standing → Standing → Ordering) → Type 0
AreLevelBy zero R = ⊤
AreLevelBy (suc n) R = (x y : Standing) → bytes_at x.bytes x.pos (suc n) ≡ bytes_at y.bytes y.pos (suc n) → R x y ≡ Equal

-- So are values that lie in n bytes.
pub level_values : {X : Type 0} (number_of : List ℕ → X) (R : X → X → Ordering) (n : ℕ) → IsTotalOrder R → AreLevelBy n (on (λ v. number_of (bytes_at v.bytes v.pos n)) R)
level_values number_of R zero o = tt
level_values number_of R (suc n) o = λ x y e. ap (λ bs. R (number_of bs) (number_of (bytes_at y.bytes y.pos (suc n)))) e ∙ tied_itself o _

-- n bytes are the same from x on in the one buffer and from y on in the other.
abbrev pub AreSameBytes : ℕ → List ℕ → ℕ → List ℕ → ℕ → Type 0
AreSameBytes n a x b y = bytes_at a x n ≡ bytes_at b y n

-- So are n bytes of two parts, from the byte i of each on.
abbrev pub AreSameFrom : ℕ → ℕ → Standing → Standing → Type 0
AreSameFrom i n x y = AreSameBytes n x.bytes (x.pos + i) y.bytes (y.pos + i)

-- Two slices are in the order of what is left of them from the element i on, and of what is left from j on.
abbrev pub AreLevelBetween : ℕ → (Standing → Standing → Ordering) → ℕ → ℕ → Standing → Standing → Type 0
AreLevelBetween z R i j x y = slices_from z R i x y ≡ slices_from z R j x y

pub slices_total : (z : ℕ) {R : Standing → Standing → Ordering} → IsTotalOrder R → IsTotalOrder (slices z R)
slices_total z o = on_total (elements z) (lists_total o)

-- Slices of which the order tells neither apart feed a hasher alike, where their elements do.
pub slices_fed : (z : ℕ) (R : Standing → Standing → Ordering) (feed : Standing → List (List ℕ)) → ((x y : Standing) → IsTrue (eq_by_cmp R x y) → feed x ≡ feed y)
    → (x y : Standing) → IsTrue (eq_by_cmp (slices z R) x y) → fed.slice feed (elements z x) ≡ fed.slice feed (elements z y)
slices_fed z R feed alike x y h =
    (items_Alike (record { fed = alike })).fed (elements z x) (elements z y) (lists_ties R (λ x y. refl) (elements z x) (elements z y) ∙ h)

-- What the pointer of a box or a shared pointer leads to.
abbrev pub pointee_at : Pointee → Standing → Standing
pointee_at P v = standing v.bytes (target_from v.bytes v.pos v.pos) (length_at v.bytes v.pos P)

-- The slice of a vector.
abbrev pub slice_of : Standing → Standing
slice_of v = standing v.bytes (target_from v.bytes v.pos v.pos) (u32_at v.bytes (v.pos + 4))

-- The value of an option, where it has one.
abbrev pub value_of : ℕ → Standing → Option Standing
value_of align v = if slice_index v.bytes v.pos == 0 then None else Some (standing v.bytes (v.pos + align) 0)

pub option_fed : (R : Standing → Standing → Ordering) (feed : Standing → List (List ℕ)) → ((x y : Standing) → IsTrue (eq_by_cmp R x y) → feed x ≡ feed y)
    → (p q : Option Standing) → IsTrue (eq_by_cmp (option_cmp R) p q) → fed.option feed p ≡ fed.option feed q
option_fed R feed alike None None h = refl
option_fed R feed alike None (Some y) h = absurd (true≢false (sym h))
option_fed R feed alike (Some x) None h = absurd (true≢false (sym h))
option_fed R feed alike (Some x) (Some y) h = ap (λ us. fed.isize (whole 1) ++ us) (alike x y h)

-- A number is compared to u as to one that equals u.
pub number_alike : {X : Type 0} {R : X → X → Ordering} → IsTotalOrder R → (x y u : X) → is_eq (R x u) ≡ true → R y x ≡ R y u
number_alike {R = R} o x y u h = alike_right o x u y ((Equal-is (R x u)).0 h)

-- The order of an option and one of other values: `None` is less than `Some`.
abbrev pub option_order : {U : Type 0} → (Standing → U → Ordering) → Option Standing → Option U → Ordering
option_order R None None = Equal
option_order R None (Some u) = Less
option_order R (Some v) None = Greater
option_order R (Some v) (Some u) = R v u

-- The value or the error of a result.
abbrev pub result_in : ℕ → ℕ → Standing → Result Standing Standing
result_in align error_align v = if slice_index v.bytes v.pos == 0 then Ok (standing v.bytes (v.pos + align) 0) else Err (standing v.bytes (v.pos + error_align) 0)

-- The order of a result and one of other values: `Ok` is less than `Err`.
abbrev pub result_order : {U W : Type 0} → (Standing → U → Ordering) → (Standing → W → Ordering) → Result Standing Standing → Result U W → Ordering
result_order R S (Ok v) (Ok u) = R v u
result_order R S (Ok v) (Err u) = Less
result_order R S (Err v) (Ok u) = Greater
result_order R S (Err v) (Err u) = S v u

pub result_fed : (R S : Standing → Standing → Ordering) (feed errors : Standing → List (List ℕ)) → ((x y : Standing) → IsTrue (eq_by_cmp R x y) → feed x ≡ feed y)
    → ((x y : Standing) → IsTrue (eq_by_cmp S x y) → errors x ≡ errors y) → (p q : Result Standing Standing) → IsTrue (eq_by_cmp (result_cmp R S) p q) → fed.result feed errors p ≡ fed.result feed errors q
result_fed R S feed errors alike also (Ok x) (Ok y) h = ap (λ us. fed.isize (whole 0) ++ us) (alike x y h)
result_fed R S feed errors alike also (Ok x) (Err y) h = absurd (true≢false (sym h))
result_fed R S feed errors alike also (Err x) (Ok y) h = absurd (true≢false (sym h))
result_fed R S feed errors alike also (Err x) (Err y) h = ap (λ us. fed.isize (whole 1) ++ us) (also x y h)
