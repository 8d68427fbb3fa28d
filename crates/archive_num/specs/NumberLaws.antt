-- The laws of the numbers of the machine, by their width.
use Rattle.std.proofs.Common.{◌≡◌, ◌⊎◌, inl, inr, ℕ, ℤ, zero, suc, pos, negsuc, ◌^◌, ◌<◌, ◌≤◌, ◌==◌, List, [], ◌∷◌, length, slice_index, Bool, true, false, refl, sym, ap, ◌∙◌, arith}
use Rattle.std.specs.Int.{Width, byte_len, from_le_bytes, cast_signed, cast_unsigned, w8, w16, w32, w64, w128}
use mir.Val.{bits}
use Rattle.std.specs.Prelude.{◌<ℤ◌}
use Rattle.std.proofs.Math.Facts.{yes_ltb}
use Rattle.std.specs.Cmp.{ranks, int_cmp_is}
use Rattle.std.specs.Ordering.{MatchOrdering, nat_cmp, int_cmp, bool_cmp}
use Rattle.std.specs.declared.cmp.Ordering.{Ordering}
use Rattle.std.specs.declared.cmp.Ordering.TheVariants.{Less, Equal, Greater}
use Rattle.std.specs.Char.{IsScalar}
use lib.Utf8.{scalar}
use Rattle.std.proofs.lemmas.Bool.Decides.{nat_tests}
use Rattle.std.specs.Int.RustNames.{FitsSigned}
use Rattle.std.proofs.lemmas.Int.{of_z-to_z, to_z-of_z}
use Rattle.archive_check.specs.LittleEndian.{little_bytes, little_number, AreBytes}
use Rattle.archive_num.specs.Digits.{bool_byte}
use Rattle.std.proofs.Math.Logic.{∥∥₁_elim}
use Rattle.std.proofs.Math.Utf8.{scalar_cases}
use Rattle.std.proofs.lemmas.List.{nil_from_length}
use Rattle.std.specs.Coded.{le_prop}
use mathlib.Core.Bool.{Bool-set}
use Rattle.archive_check.specs.Shape.{Sign, unsigned, signed, unit, bool, char, number}
use Rattle.archive_check.specs.Reads.{IsLegal, kind_number, kind_value}
use Rattle.archive_check.proofs.LittleEndian.{bytes_cons, length-little_bytes, from_le_bytes-little, little_number-little_bytes, little_bytes-little_number, little_number-lt, pow_bits}

-- an unsigned number of width w comes back.
pub unsigned-number : (w : Width) (x : ℕ) → x < 2 ^ bits w → little_number (little_bytes (byte_len w) x) ≡ x
unsigned-number w x h = little_number-little_bytes (byte_len w) x (rw (pow_bits w) h)

-- And so do its bytes.
pub unsigned-reads : (w : Width) (bs : List ℕ) → length bs ≡ byte_len w → AreBytes bs → little_bytes (byte_len w) (little_number bs) ≡ bs
unsigned-reads w bs e h = ap (λ (n : ℕ). little_bytes n (little_number bs)) (sym e) ∙ little_bytes-little_number bs h

cast_unsigned-lt : (w : Width) (x : ℤ) → FitsSigned w x → cast_unsigned w x < 2 ^ bits w
cast_unsigned-lt w8 (pos n) h = let s = h.sfits in omega arith
cast_unsigned-lt w8 (negsuc n) h = let s = h.sfits in omega arith
cast_unsigned-lt w16 (pos n) h = let s = h.sfits in omega arith
cast_unsigned-lt w16 (negsuc n) h = let s = h.sfits in omega arith
cast_unsigned-lt w32 (pos n) h = let s = h.sfits in omega arith
cast_unsigned-lt w32 (negsuc n) h = let s = h.sfits in omega arith
cast_unsigned-lt w64 (pos n) h = let s = h.sfits in omega arith
cast_unsigned-lt w64 (negsuc n) h = let s = h.sfits in omega arith
cast_unsigned-lt w128 (pos n) h = let s = h.sfits in omega arith
cast_unsigned-lt w128 (negsuc n) h = let s = h.sfits in omega arith

-- A signed number of width w comes back.
pub signed-number : (w : Width) (x : ℤ) → FitsSigned w x → cast_signed w (little_number (little_bytes (byte_len w) (cast_unsigned w x))) ≡ x
signed-number w x h =
    let fits : cast_unsigned w x < 2 ^ bits w = cast_unsigned-lt w x h in
    ap (cast_signed w) (unsigned-number w (cast_unsigned w x) fits) ∙ to_z-of_z w x h

-- And so do its bytes.
pub signed-reads : (w : Width) (bs : List ℕ) → length bs ≡ byte_len w → AreBytes bs → little_bytes (byte_len w) (cast_unsigned w (cast_signed w (little_number bs))) ≡ bs
signed-reads w bs e h =
    let fits : little_number bs < 2 ^ bits w = rw (← pow_bits w, ← e) (little_number-lt bs h) in
    ap (little_bytes (byte_len w)) (of_z-to_z w (little_number bs) fits) ∙ unsigned-reads w bs e h

scalar_below : (x : ℕ) → IsScalar x → x < 2 ^ 32
scalar_below x h = grind (arith, nat_tests, scalar)

-- A scalar value comes back.
pub char-number : (x : ℕ) → IsScalar x → little_number (little_bytes 4 x) ≡ x
char-number x h = unsigned-number w32 x (scalar_below x h)

-- And its bytes are those of one.
pub char-legal : (x : ℕ) → IsScalar x → IsScalar (little_number (little_bytes 4 x))
char-legal x h = rw (char-number x h) h

-- leaves of the definitions

-- Any bytes are a number.
pub number-leaf : (sign : Sign) (w : Width) (bs : List ℕ) → length bs ≡ byte_len w → IsLegal (number sign w) bs
number-leaf sign w bs e = record { size = e; number = tt }

pub unsigned-value : (w : Width) (bs : List ℕ) → IsLegal (number unsigned w) bs → pos (little_number bs) ≡ kind_value (number unsigned w) bs
unfolding kind_value
unsigned-value w bs h = ap pos (sym (from_le_bytes-little w bs h.size))

pub signed-value : (w : Width) (bs : List ℕ) → IsLegal (number signed w) bs → cast_signed w (little_number bs) ≡ kind_value (number signed w) bs
unfolding kind_value
signed-value w bs h = ap (cast_signed w) (sym (from_le_bytes-little w bs h.size))

-- a char's bytes are a scalar value

scalar_in : (x : ℕ) → (x < 0xD800) ⊎ ((0xE000 ≤ x) × (x ≤ 0x10FFFF)) → IsScalar x
scalar_in x (inl h) = grind (arith, nat_tests, scalar)
scalar_in x (inr h) = let low = h.0 in let high = h.1 in grind (arith, nat_tests, scalar)

scalar_range : (x : ℕ) → (x < 55296) ⊎ ((57344 ≤ x) × (x < 1114112)) → (x < 0xD800) ⊎ ((0xE000 ≤ x) × (x ≤ 0x10FFFF))
scalar_range x (inl h) = inl h
scalar_range x (inr h) = let low = h.0 in let high = h.1 in inr (low, omega arith)

char_from : (bs : List ℕ) → IsLegal char bs → IsScalar (little_number bs)
unfolding kind_number
char_from bs h = rw (sym (from_le_bytes-little w32 bs h.size)) (scalar_in (from_le_bytes w32 bs) h.number)

pub char-kind : (bs : List ℕ) → ∥ IsLegal char bs ∥₁ → IsScalar (little_number bs)
char-kind bs h = ∥∥₁_elim h (Bool-set _ _) (char_from bs)

pub char-leaf : (x : ℕ) → IsScalar x → IsLegal char (little_bytes 4 x)
unfolding kind_number
char-leaf x h =
    let size : length (little_bytes 4 x) ≡ 4 = length-little_bytes 4 x in
    let same : from_le_bytes w32 (little_bytes 4 x) ≡ x = from_le_bytes-little w32 (little_bytes 4 x) size ∙ char-number x h in
    record { size = size; number = rw same (scalar_range x (scalar_cases x h)) }

pub char-reads : (bs : List ℕ) → length bs ≡ 4 → AreBytes bs → little_bytes 4 (little_number bs) ≡ bs
char-reads bs e h = unsigned-reads w32 bs e h

pub char-value : (bs : List ℕ) → IsLegal char bs → pos (little_number bs) ≡ kind_value char bs
unfolding kind_value kind_number
char-value bs h = ap pos (sym (from_le_bytes-little w32 bs h.size))

-- nothing

pub unit-bytes : AreBytes []
unit-bytes k d h = absurd (omega (arith, h))

pub unit-leaf : IsLegal unit []
unit-leaf = record { size = refl; number = tt }

pub unit-reads : (bs : List ℕ) → length bs ≡ 0 → [] ≡ bs
unit-reads bs e = sym (nil_from_length bs e)

pub unit-value : (bs : List ℕ) → pos 0 ≡ kind_value unit bs
unfolding kind_value
unit-value bs = refl

-- a bool is a byte of 0 or 1

pub bool-bytes : (x : Bool) → AreBytes (bool_byte x ∷ [])
bool-bytes false = bytes_cons 0 [] (omega arith) unit-bytes
bool-bytes true = bytes_cons 1 [] (omega arith) unit-bytes

byte_below : (bs : List ℕ) → IsLegal bool bs → slice_index bs 0 < 2
unfolding kind_number
byte_below bs h = h.number

pub bool-kind : (bs : List ℕ) → ∥ IsLegal bool bs ∥₁ → slice_index bs 0 < 2
bool-kind bs h = ∥∥₁_elim h le_prop (byte_below bs)

pub bool-legal : (x : Bool) → slice_index (bool_byte x ∷ []) 0 < 2
bool-legal false = omega arith
bool-legal true = omega arith

pub bool-leaf : (x : Bool) → IsLegal bool (bool_byte x ∷ [])
unfolding kind_number
bool-leaf x = record { size = refl; number = bool-legal x }

pub bool-number : (x : Bool) → (slice_index (bool_byte x ∷ []) 0 == 1) ≡ x
bool-number false = refl
bool-number true = refl

byte-bool : (b : ℕ) → b < 2 → bool_byte (b == 1) ≡ b
byte-bool zero h = refl
byte-bool (suc zero) h = refl
byte-bool (suc (suc n)) h = absurd (omega arith)

pub bool-reads : (bs : List ℕ) → length bs ≡ 1 → slice_index bs 0 < 2 → bool_byte (slice_index bs 0 == 1) ∷ [] ≡ bs
bool-reads [] e h = absurd (omega arith)
bool-reads (b ∷ []) e h = ap (λ (x : ℕ). x ∷ []) (byte-bool b h)
bool-reads (b ∷ c ∷ bs) e h = absurd (omega arith)

pub bool-value : (bs : List ℕ) → IsLegal bool bs → pos (bool_byte (slice_index bs 0 == 1)) ≡ kind_value bool bs
unfolding kind_value kind_number
bool-value bs h = ap pos (byte-bool (slice_index bs 0) (byte_below bs h))

-- the orders of values are those of their whole numbers

ranked_whole : (x y : ℕ) (r : Ordering) → MatchOrdering r (x < y) (x ≡ y) (y < x) → MatchOrdering r (pos x <ℤ pos y) (pos x ≡ pos y) (pos y <ℤ pos x)
ranked_whole x y Less h = record { lt = yes_ltb h }
ranked_whole x y Equal h = ap pos h
ranked_whole x y Greater h = record { lt = yes_ltb h }

pub unsigned-order : (x y : ℕ) → nat_cmp x y ≡ int_cmp (pos x) (pos y)
unsigned-order x y = int_cmp_is (pos x) (pos y) (nat_cmp x y) (ranked_whole x y (nat_cmp x y) (ranks x y))

pub bool-order : (x y : Bool) → bool_cmp x y ≡ int_cmp (pos (bool_byte x)) (pos (bool_byte y))
bool-order true true = refl
bool-order true false = refl
bool-order false true = refl
bool-order false false = refl
