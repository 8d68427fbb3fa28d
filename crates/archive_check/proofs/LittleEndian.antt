-- Numbers as bytes, the lowest first: each number of a width has its own bytes, and they are those of std's methods.
use Rattle.std.proofs.Common.{◌≡◌, ℕ, zero, suc, ◌+◌, ◌-◌, ◌*◌, ◌/◌, ◌%◌, ◌^◌, ◌<◌, List, [], ◌∷◌, ◌++◌, length, take, slice_index, get_or, refl, sym, ap, ◌∙◌, arith, length-take}
use Rattle.std.proofs.Math.Nat.{div-add-mod', div-div-eq-div-mul, div-one, pow-suc, mod-lt, mul_assoc}
use Rattle.std.proofs.lemmas.List.{take_more, take_all}
use Rattle.std.proofs.lemmas.Nat.{div_below}
use Rattle.std.proofs.lemmas.Int.{of_z-to_z}
use Rattle.std.specs.Int.{Width, w8, w16, w32, w64, w128, byte_len, byte_at, byte_worth, bytes_low_first, sum_through, to_le_bytes, from_le_bytes, cast_signed, cast_unsigned}
use mir.Val.{bits}
use Rattle.archive_check.specs.Shape.{Sign, unsigned, signed}
use Rattle.archive_check.specs.Reads.{with_sign}
use Rattle.archive_check.specs.LittleEndian.{little_bytes, little_number, AreBytes}

-- there are n bytes
pub length-little_bytes : (n x : ℕ) → length (little_bytes n x) ≡ n
length-little_bytes zero x = refl
length-little_bytes (suc n) x = let e = length-little_bytes n (x / 256) in omega (arith, e)

-- one more byte in front, or one less
pub bytes_cons : (b : ℕ) (bs : List ℕ) → b < 256 → AreBytes bs → AreBytes (b ∷ bs)
bytes_cons b bs h rest zero d l = h
bytes_cons b bs h rest (suc k) d l = rest k d (omega (arith, l))

bytes_later : (b : ℕ) (bs : List ℕ) → AreBytes (b ∷ bs) → AreBytes bs
bytes_later b bs h k d l = h (suc k) d (omega (arith, l))

-- each of them is a byte
pub AreBytes-little_bytes : (n x : ℕ) → AreBytes (little_bytes n x)
AreBytes-little_bytes zero x = λ k d h. absurd (omega (arith, h))
AreBytes-little_bytes (suc n) x = bytes_cons (x % 256) (little_bytes n (x / 256)) (mod-lt x (omega arith)) (AreBytes-little_bytes n (x / 256))

-- the number in the bytes of x is x, where x fits
pub little_number-little_bytes : (n x : ℕ) → x < 256 ^ n → little_number (little_bytes n x) ≡ x
little_number-little_bytes zero x h = omega arith
little_number-little_bytes (suc n) x h =
    let below : x / 256 < 256 ^ n = div_below x 256 (256 ^ n) (omega arith) (omega (arith, h, pow-suc 256 n)) in
    let e = little_number-little_bytes n (x / 256) below in
    omega (arith, e, div-add-mod' x 256)

-- the bytes of the number in bs are bs
pub little_bytes-little_number : (bs : List ℕ) → AreBytes bs → little_bytes (length bs) (little_number bs) ≡ bs
little_bytes-little_number [] h = refl
little_bytes-little_number (b ∷ bs) h =
    let small : b < 256 = h 0 0 (omega arith) in
    let low : (b + 256 * little_number bs) % 256 ≡ b = omega arith in
    let high : (b + 256 * little_number bs) / 256 ≡ little_number bs = omega arith in
    let rest = little_bytes-little_number bs (bytes_later b bs h) in
    rw (low, high, rest) refl

-- so as many bytes of the same number are the same
little_number-one : (xs ys : List ℕ) → length xs ≡ length ys → AreBytes xs → AreBytes ys → little_number xs ≡ little_number ys → xs ≡ ys
little_number-one xs ys e h k same = sym (little_bytes-little_number xs h) ∙ (rw (e, same) (little_bytes-little_number ys k))

-- a number of n bytes is below 256 ^ n
pub little_number-lt : (bs : List ℕ) → AreBytes bs → little_number bs < 256 ^ length bs
little_number-lt [] h = omega arith
little_number-lt (b ∷ bs) h =
    let small : b < 256 = h 0 0 (omega arith) in
    let rest = little_number-lt bs (bytes_later b bs h) in
    omega (arith, pow-suc 256 (length bs))

pub pow_bits : (w : Width) → 256 ^ byte_len w ≡ 2 ^ bits w
pow_bits w8 = refl
pow_bits w16 = refl
pow_bits w32 = refl
pow_bits w64 = refl
pow_bits w128 = refl

pub some_byte : (w : Width) → 0 < byte_len w
some_byte w8 = omega arith
some_byte w16 = omega arith
some_byte w32 = omega arith
some_byte w64 = omega arith
some_byte w128 = omega arith

-- the methods of std

byte_at-pow : (k x : ℕ) → byte_at k x ≡ x / 256 ^ k % 256
byte_at-pow zero x = ap (λ (y : ℕ). y % 256) (sym (div-one x))
byte_at-pow (suc k) x = refl

bytes_from : (i n x : ℕ) → bytes_low_first i n x ≡ little_bytes n (x / 256 ^ i)
bytes_from i zero x = refl
bytes_from i (suc n) x =
    let shift : x / 256 ^ suc i ≡ x / 256 ^ i / 256 = ap (λ (p : ℕ). x / p) (pow-suc 256 i) ∙ sym (div-div-eq-div-mul x (256 ^ i) 256) in
    rw (byte_at-pow i x, bytes_from (suc i) n x, shift) refl

-- what `to_le_bytes` gives
pub to_le_bytes-little : (w : Width) (x : ℕ) → to_le_bytes w x ≡ little_bytes (byte_len w) x
to_le_bytes-little w x = bytes_from 0 (byte_len w) x ∙ ap (little_bytes (byte_len w)) (div-one x)

number-append : (bs : List ℕ) (b : ℕ) → little_number (bs ++ b ∷ []) ≡ little_number bs + b * 256 ^ length bs
number-append [] b = omega arith
number-append (a ∷ bs) b =
    let e = number-append bs b in
    let p = pow-suc 256 (length bs) in
    let q = mul_assoc b (256 ^ length bs) 256 in
    rw (e, p) (omega (arith, q))

number_through : (bs : List ℕ) (k : ℕ) → k < length bs → sum_through (λ i. byte_worth i (slice_index bs i)) k ≡ little_number (take (suc k) bs)
number_through [] zero h = absurd (omega arith)
number_through (b ∷ bs) zero h = omega arith
number_through bs (suc k) h =
    let ih = number_through bs k (omega arith) in
    let more : take (suc (suc k)) bs ≡ take (suc k) bs ++ get_or bs (suc k) 0 ∷ [] =
    ap (λ (n : ℕ). take n bs) {x = suc (suc k)} {y = suc k + 1} (omega arith) ∙ take_more bs (suc k) 0 h in
    let l : length (take (suc k) bs) ≡ suc k = omega (arith, length-take (suc k) bs) in
    rw (more, number-append (take (suc k) bs) (get_or bs (suc k) 0), l, ih) refl

-- what `from_le_bytes` reads
pub from_le_bytes-little : (w : Width) (bs : List ℕ) → length bs ≡ byte_len w → from_le_bytes w bs ≡ little_number bs
from_le_bytes-little w bs e =
    number_through bs (byte_len w - 1) (omega (arith, some_byte w)) ∙ ap little_number (take_all (suc (byte_len w - 1)) bs (omega (arith, some_byte w)))

-- the methods of std by these words
pub ruleset std_bytes = (to_le_bytes-little, from_le_bytes-little)

-- so bytes that read as the same number are the same
pub from_le_bytes-one : (w : Width) (xs ys : List ℕ) → length xs ≡ byte_len w → length ys ≡ byte_len w → AreBytes xs → AreBytes ys → from_le_bytes w xs ≡ from_le_bytes w ys → xs ≡ ys
from_le_bytes-one w xs ys e f h k same =
    little_number-one xs ys (e ∙ sym f) h k (sym (from_le_bytes-little w xs e) ∙ same ∙ from_le_bytes-little w ys f)

from_le_bytes-lt : (w : Width) (bs : List ℕ) → length bs ≡ byte_len w → AreBytes bs → from_le_bytes w bs < 2 ^ bits w
from_le_bytes-lt w bs e h = rw (from_le_bytes-little w bs e, ← pow_bits w, ← e) (little_number-lt bs h)

cast_signed-one : (w : Width) (m n : ℕ) → m < 2 ^ bits w → n < 2 ^ bits w → cast_signed w m ≡ cast_signed w n → m ≡ n
cast_signed-one w m n h k same = sym (of_z-to_z w m h) ∙ ap (cast_unsigned w) same ∙ of_z-to_z w n k

-- with a sign or without
pub with_sign-one : (sign : Sign) (w : Width) (xs ys : List ℕ) → length xs ≡ byte_len w → length ys ≡ byte_len w → AreBytes xs → AreBytes ys
    → with_sign sign w (from_le_bytes w xs) ≡ with_sign sign w (from_le_bytes w ys) → xs ≡ ys
with_sign-one unsigned w xs ys e f h k same = from_le_bytes-one w xs ys e f h k cc
with_sign-one signed w xs ys e f h k same =
    from_le_bytes-one w xs ys e f h k (cast_signed-one w (from_le_bytes w xs) (from_le_bytes w ys) (from_le_bytes-lt w xs e h) (from_le_bytes-lt w ys f k) same)
