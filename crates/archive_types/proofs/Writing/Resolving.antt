-- What is resolved: the bytes of leaves.
use Rattle.std.proofs.Common.{◌≡◌, ◌≢◌, ℕ, ℤ, pos, ◌<◌, ◌^◌, List, true, false, refl, sym, ap, subst, ◌∙◌}
use Rattle.std.specs.Int.{Width, w8, w16, w32, w64, w128, from_le_bytes, cast_signed, cast_unsigned}
use Rattle.std.specs.Int.RustNames.{FitsSigned}
use Rattle.archive_check.specs.Shape.{Sign, unsigned, signed, Kind, number as number_kind, non_zero, leaf, Shape}
use Rattle.archive_check.specs.Layout.{kind_size}
use Rattle.archive_check.specs.Definitions.{Definitions}
use Rattle.archive_check.specs.Value.{number}
use Rattle.archive_check.specs.Reads.{bytes_at, IsLegal, kind_number, kind_value, with_sign, Reads, reads_leaf}
use Rattle.archive_check.specs.CleanRegions.{clean_leaf}
use Rattle.archive_check.proofs.Tours.StandingBytes.{stands_bytes}
use Rattle.archive_check.specs.LittleEndian.{little_bytes, little_number}
use Rattle.archive_num.specs.Digits.{is_zero}
use Rattle.archive_check.proofs.LittleEndian.{length-little_bytes}
use Rattle.archive_num.specs.NumberLaws.{unsigned-value, unsigned-number, signed-value, signed-number, number-leaf}
use Rattle.archive_types.specs.Writing.{Resolves}

pub resolves_leaf : (D : Definitions) (p : ℕ) (a : List ℕ) (kind : Kind) → IsLegal kind a → Resolves D p a (leaf kind) (number (kind_value kind a))
resolves_leaf D p a kind legal = record {
  reads = λ s bytes fits stands. (
      let e : bytes_at bytes p (kind_size kind) ≡ a = stands_bytes bytes p (kind_size kind) a legal.size stands in
      subst (λ b. Reads s bytes p (leaf kind) (number (kind_value kind b))) e (reads_leaf (rw e legal)));
  clean = λ s bytes fits stands. clean_leaf;
}

-- the bytes of a number
pub resolves_number : {A : Type 0} (value_of : A → ℤ) (number_of : List ℕ → A) (bytes_of : A → List ℕ) (kind : Kind) (X : Shape) (D : Definitions) (p : ℕ) (a : List ℕ) (x : A)
    → ((bs : List ℕ) → IsLegal kind bs → value_of (number_of bs) ≡ kind_value kind bs) → number_of (bytes_of x) ≡ x → IsLegal kind (bytes_of x) → X ≡ leaf kind → a ≡ bytes_of x
    → Resolves D p a X (number (value_of x))
resolves_number value_of number_of bytes_of kind X D p a x values back legal same e =
    let is : kind_value kind a ≡ value_of x = ap (kind_value kind) e ∙ sym (values (bytes_of x) legal) ∙ ap value_of back in
    rw same (subst (λ z. Resolves D p a (leaf kind) (number z)) is (resolves_leaf D p a kind (rw e legal)))

pub resolves_usize : (D : Definitions) (p n : ℕ) (a : List ℕ) → n < 2 ^ 32 → a ≡ little_bytes 4 n → Resolves D p a (leaf (number_kind unsigned w32)) (number (pos n))
resolves_usize D p n a h e =
    resolves_number (λ m. pos m) little_number (little_bytes 4) (number_kind unsigned w32) _ D p a n (λ bs legal. unsigned-value w32 bs legal) (unsigned-number w32 n h)
    (number-leaf unsigned w32 (little_bytes 4 n) (length-little_bytes 4 n)) refl e

pub resolves_isize : (D : Definitions) (p : ℕ) (z : ℤ) (a : List ℕ) → FitsSigned w32 z → a ≡ little_bytes 4 (cast_unsigned w32 z) → Resolves D p a (leaf (number_kind signed w32)) (number z)
resolves_isize D p z a h e =
    resolves_number (λ x. x) (λ bs. cast_signed w32 (little_number bs)) (λ x. little_bytes 4 (cast_unsigned w32 x)) (number_kind signed w32) _ D p a z (λ bs legal. signed-value w32 bs legal) (signed-number w32 z h)
    (number-leaf signed w32 (little_bytes 4 (cast_unsigned w32 z)) (length-little_bytes 4 (cast_unsigned w32 z))) refl e

zero_sign : (sign : Sign) (w : Width) → with_sign sign w 0 ≡ pos 0
zero_sign unsigned w = refl
zero_sign signed w8 = refl
zero_sign signed w16 = refl
zero_sign signed w32 = refl
zero_sign signed w64 = refl
zero_sign signed w128 = refl

not_zero_number : (sign : Sign) (w : Width) (n : ℕ) (z : ℤ) → with_sign sign w n ≡ z → is_zero z ≡ false → n ≢ 0
not_zero_number sign w n z e f g = (let same : z ≡ pos 0 = sym e ∙ ap (with_sign sign w) g ∙ zero_sign sign w in let no : is_zero z ≡ true = rw same refl in cc)

-- the bytes of a number that isn't 0
pub resolves_non_zero : {A : Type 0} (value_of : A → ℤ) (number_of : List ℕ → A) (bytes_of : A → List ℕ) (kind : Kind) (sign : Sign) (w : Width) (D : Definitions) (p : ℕ) (a : List ℕ) (x : A)
    → ((bs : List ℕ) → IsLegal kind bs → value_of (number_of bs) ≡ kind_value kind bs) → number_of (bytes_of x) ≡ x → IsLegal kind (bytes_of x) → kind ≡ number_kind sign w
    → is_zero (value_of x) ≡ false → a ≡ bytes_of x → Resolves D p a (leaf (non_zero sign w)) (number (value_of x))
unfolding kind_value kind_number
resolves_non_zero value_of number_of bytes_of kind sign w D p a x values back legal same zero e =
    let is : with_sign sign w (from_le_bytes w (bytes_of x)) ≡ value_of x = ap (λ k. kind_value k (bytes_of x)) (sym same) ∙ sym (values (bytes_of x) legal) ∙ ap value_of back in
    let plain : IsLegal (number_kind sign w) (bytes_of x) = rw same at legal in
    let there : IsLegal (non_zero sign w) a = rw e (record { size = plain.size; number = not_zero_number sign w (from_le_bytes w (bytes_of x)) (value_of x) is zero }) in
    subst (λ z. Resolves D p a (leaf (non_zero sign w)) (number z)) (ap (λ b. with_sign sign w (from_le_bytes w b)) e ∙ is) (resolves_leaf D p a (non_zero sign w) there)
