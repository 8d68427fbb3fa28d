-- What may be read of a part that was checked.
use Rattle.std.proofs.Common.{◌≡◌, ◌≢◌, ℕ, ℤ, Bool, true, false, List, length, ◌+◌, ◌-◌, ◌≤◌, pos, negsuc, ◌+ℤ◌, take, drop, arith, refl, sym, ap, ◌∙◌}
use Rattle.std.specs.Str.{IsUtf8}
use Rattle.std.specs.Coded.{le_prop}
use Rattle.std.specs.Int.{Width, byte_len, from_le_bytes}
use mir.Val.{sel}
use Rattle.std.proofs.Math.Logic.{∥∥₁_elim, ∥∥₁_map}
use Rattle.std.proofs.Math.IntN.{ℤ_set}
use Rattle.std.proofs.lemmas.Bool.Decides.{Decides-int_eq}
use Rattle.std.proofs.lemmas.Str.{IsUtf8-from_is_utf8, is_utf8-from_IsUtf8}
use Rattle.std.proofs.lemmas.Bool.{false_from_ne_true}
use mathlib.Core.Bool.{Bool-set}
use Rattle.archive_check.specs.Shape.{Sign, unsigned, signed, Kind, number, non_zero, leaf, str, one, text}
use Rattle.archive_check.specs.Layout.{kind_size}
use Rattle.archive_check.specs.Reads.{bytes_at, u32_at, i32_at, kind_number, with_sign, kind_value, IsLegal, IsOutOfLine, before_end, decoded_length}
use Rattle.archive_num.specs.Digits.{is_zero}
use Rattle.archive_check.specs.Value.{number as number_value}
use Rattle.archive_check.specs.Definitions.{Definitions}
use Rattle.archive_check.specs.Viewed.{Says}
use Rattle.archive_check.proofs.Viewing.ViewedValues.{leaf_says}
use Rattle.archive_check.specs.Readable.{Readable, readable_leaf, readable_text, readable_inline, readable_out_of_line, position, target_from}

-- leaves

leaf_fits : {bytes : List ℕ} {p n : ℕ} {kind : Kind} → Readable bytes p (one (leaf kind)) n → p + kind_size kind ≤ length bytes
leaf_fits (readable_leaf h legal) = h

leaf_legal : {bytes : List ℕ} {p n : ℕ} {kind : Kind} → Readable bytes p (one (leaf kind)) n → IsLegal kind (bytes_at bytes p (kind_size kind))
leaf_legal (readable_leaf h legal) = legal

pub record LeafShown (bytes : List ℕ) (p : ℕ) (kind : Kind) : Type 0 where
  pub fits : p + kind_size kind ≤ length bytes
  pub legal : ∥ IsLegal kind (bytes_at bytes p (kind_size kind)) ∥₁

pub leaf_shown : (bytes : List ℕ) (p n : ℕ) (kind : Kind) → ∥ Readable bytes p (one (leaf kind)) n ∥₁ → LeafShown bytes p kind
leaf_shown bytes p n kind h = record { fits = ∥∥₁_elim h le_prop leaf_fits; legal = ∥∥₁_map h leaf_legal }

-- the slice of m bytes from p on
pub slice_is : (bytes : List ℕ) (p m : ℕ) → take (p + m - p) (drop p bytes) ≡ bytes_at bytes p m
unfolding bytes_at
slice_is bytes p m = let same : p + m - p ≡ m = omega arith in rw same refl

pub leaf_slice : (bytes : List ℕ) (p n size m : ℕ) (kind : Kind) → kind_size kind ≡ size → m ≡ size → ∥ Readable bytes p (one (leaf kind)) n ∥₁
    → ∥ IsLegal kind (take (p + m - p) (drop p bytes)) ∥₁
leaf_slice bytes p n size m kind e f h = rw (slice_is bytes p m, f, ← e) (leaf_shown bytes p n kind h).legal

-- what is read is what the bytes of the leaf say
pub number_says : {X : Type 0} (value_of : X → ℤ) (number_of : List ℕ → X) (D : Definitions) (bytes : List ℕ) (p n count : ℕ) (kind : Kind) (x : X) → kind_size kind ≡ count
    → ((xs : List ℕ) → IsLegal kind xs → value_of (number_of xs) ≡ kind_value kind xs) → x ≡ number_of (bytes_at bytes p count) → Says D bytes p (one (leaf kind)) n (number_value (value_of x))
number_says value_of number_of D bytes p n count kind x size law e =
    rw (e, ← size) (leaf_says D bytes p n kind (number_value (value_of (number_of (bytes_at bytes p (kind_size kind))))) (λ legal. ap number_value (sym (law _ legal))))

-- numbers that aren't 0

as_number : {bytes : List ℕ} {p n : ℕ} {sign : Sign} {width : Width} → Readable bytes p (one (leaf (non_zero sign width))) n → Readable bytes p (one (leaf (number sign width))) n
as_number (readable_leaf h legal) = readable_leaf h (record { size = legal.size; number = tt })

-- such a leaf is a number's too
pub number_shown : (bytes : List ℕ) (p n : ℕ) (sign : Sign) (width : Width) (kind : Kind) → kind ≡ number sign width → ∥ Readable bytes p (one (leaf (non_zero sign width))) n ∥₁
    → ∥ Readable bytes p (one (leaf kind)) n ∥₁
number_shown bytes p n sign width kind e h = rw e (∥∥₁_map h as_number)

select_not_zero : (t : Bool) (n m : ℕ) → n ≢ 0 → sel t (pos n) (negsuc m) ≢ pos 0
select_not_zero true n m h e = h (ap position e)
select_not_zero false n m h e = cc

signed_not_zero : (sign : Sign) (width : Width) (n : ℕ) → n ≢ 0 → with_sign sign width n ≢ pos 0
signed_not_zero unsigned width n h e = h (ap position e)
signed_not_zero signed width n h e = select_not_zero _ n _ h e

legal_not_zero : (sign : Sign) (width : Width) (bs : List ℕ) → IsLegal (non_zero sign width) bs → is_zero (kind_value (number sign width) bs) ≡ false
unfolding kind_number kind_value
legal_not_zero sign width bs h =
    false_from_ne_true _ (λ e. signed_not_zero sign width (from_le_bytes width bs) h.number ((Decides-int_eq (with_sign sign width (from_le_bytes width bs)) (pos 0)).0 e))

value_not_zero : {X : Type 0} (value_of : X → ℤ) (number_of : List ℕ → X) (bs : List ℕ) (sign : Sign) (width : Width) (kind : Kind) → kind ≡ number sign width
    → ((xs : List ℕ) → IsLegal kind xs → value_of (number_of xs) ≡ kind_value kind xs) → IsLegal (non_zero sign width) bs → is_zero (value_of (number_of bs)) ≡ false
value_not_zero value_of number_of bs sign width kind e law h =
    let plain : IsLegal (number sign width) bs = record { size = h.size; number = tt } in
    let value : value_of (number_of bs) ≡ kind_value kind bs = law bs (rw e plain) in
    rw (value, e) (legal_not_zero sign width bs h)

-- and what it is read as isn't 0
pub not_zero_shown : {X : Type 0} (value_of : X → ℤ) (number_of : List ℕ → X) (bytes : List ℕ) (p n count : ℕ) (sign : Sign) (width : Width) (kind : Kind) → kind ≡ number sign width
    → kind_size kind ≡ count → ((xs : List ℕ) → IsLegal kind xs → value_of (number_of xs) ≡ kind_value kind xs) → ∥ Readable bytes p (one (leaf (non_zero sign width))) n ∥₁
    → is_zero (value_of (number_of (bytes_at bytes p count))) ≡ false
not_zero_shown value_of number_of bytes p n count sign width kind e size law h =
    let same : byte_len width ≡ count = rw e at size in
    rw (← same) (∥∥₁_elim h (Bool-set _ _) (λ r. value_not_zero value_of number_of (bytes_at bytes p (byte_len width)) sign width kind e law (leaf_legal r)))

same_value : (sign : Sign) (width : Width) (bs : List ℕ) → kind_value (non_zero sign width) bs ≡ kind_value (number sign width) bs
unfolding kind_value
same_value sign width bs = refl

pub non_zero_says : {X : Type 0} (value_of : X → ℤ) (number_of : List ℕ → X) (D : Definitions) (bytes : List ℕ) (p n count : ℕ) (sign : Sign) (width : Width) (kind : Kind) (x : X) → kind ≡ number sign width
    → kind_size kind ≡ count → ((xs : List ℕ) → IsLegal kind xs → value_of (number_of xs) ≡ kind_value kind xs) → x ≡ number_of (bytes_at bytes p count)
    → Says D bytes p (one (leaf (non_zero sign width))) n (number_value (value_of x))
non_zero_says value_of number_of D bytes p n count sign width kind x e size law is =
    let same : byte_len width ≡ count = rw e at size in
    number_says value_of number_of D bytes p n count (non_zero sign width) x same
    (λ xs legal. let plain : IsLegal (number sign width) xs = record { size = legal.size; number = tt } in law xs (rw e plain) ∙ ap (λ k. kind_value k xs) e ∙ sym (same_value sign width xs)) is

-- texts

text_fits : {bytes : List ℕ} {p n : ℕ} → Readable bytes p text n → p + n ≤ length bytes
text_fits (readable_text h u) = h

text_utf8 : {bytes : List ℕ} {p n : ℕ} → Readable bytes p text n → IsUtf8 (bytes_at bytes p n)
text_utf8 (readable_text h u) = u

pub record TextShown (bytes : List ℕ) (p n : ℕ) : Type 0 where
  pub fits : p + n ≤ length bytes
  pub utf8 : IsUtf8 (bytes_at bytes p n)

pub text_shown : (bytes : List ℕ) (p n : ℕ) → ∥ Readable bytes p text n ∥₁ → TextShown bytes p n
text_shown bytes p n h = record {
  fits = ∥∥₁_elim h le_prop text_fits;
  utf8 = IsUtf8-from_is_utf8 _ (∥∥₁_elim h (Bool-set _ _) (λ r. is_utf8-from_IsUtf8 _ (text_utf8 r)));
}

-- strings

string_fits : {bytes : List ℕ} {p n : ℕ} → Readable bytes p (one str) n → p + 8 ≤ length bytes
string_fits (readable_inline h o u) = h
string_fits (readable_out_of_line h o e t) = h

pub string_shown : (bytes : List ℕ) (p n : ℕ) → ∥ Readable bytes p (one str) n ∥₁ → p + 8 ≤ length bytes
string_shown bytes p n h = ∥∥₁_elim h le_prop string_fits

inline_utf8 : {bytes : List ℕ} {p n : ℕ} → (IsOutOfLine bytes p → ⊥) → Readable bytes p (one str) n → IsUtf8 (before_end (bytes_at bytes p 8))
inline_utf8 i (readable_inline h o u) = u
inline_utf8 i (readable_out_of_line h o e t) = absurd (i o)

pub inline_shown : (bytes : List ℕ) (p n : ℕ) → (IsOutOfLine bytes p → ⊥) → ∥ Readable bytes p (one str) n ∥₁ → IsUtf8 (before_end (bytes_at bytes p 8))
inline_shown bytes p n i h = IsUtf8-from_is_utf8 _ (∥∥₁_elim h (Bool-set _ _) (λ r. is_utf8-from_IsUtf8 _ (inline_utf8 i r)))

there : {bytes : List ℕ} {p n : ℕ} → IsOutOfLine bytes p → Readable bytes p (one str) n → pos p +ℤ i32_at bytes (p + 4) ≡ pos (target_from bytes p (p + 4))
there o (readable_inline h i u) = absurd (i o)
there o (readable_out_of_line {t = t} h i e r) = rw e refl

text_there : {bytes : List ℕ} {p n : ℕ} → IsOutOfLine bytes p → Readable bytes p (one str) n → Readable bytes (target_from bytes p (p + 4)) text (decoded_length (u32_at bytes p))
text_there o (readable_inline h i u) = absurd (i o)
text_there o (readable_out_of_line {t = t} h i e r) = rw e r

-- a string whose text stands elsewhere
pub record Elsewhere (bytes : List ℕ) (p : ℕ) : Type 0 where
  pub lands : pos p +ℤ i32_at bytes (p + 4) ≡ pos (target_from bytes p (p + 4))
  pub shown : TextShown bytes (target_from bytes p (p + 4)) (decoded_length (u32_at bytes p))

pub elsewhere_shown : (bytes : List ℕ) (p n : ℕ) → IsOutOfLine bytes p → ∥ Readable bytes p (one str) n ∥₁ → Elsewhere bytes p
elsewhere_shown bytes p n o h = record { lands = ∥∥₁_elim h (ℤ_set _ _) (there o); shown = text_shown bytes _ _ (∥∥₁_map h (text_there o)) }
