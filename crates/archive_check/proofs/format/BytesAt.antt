-- Bytes read one by one.
use Rattle.std.proofs.Common.{◌≡◌, ℕ, zero, suc, refl, ◌+◌, ◌<◌, ◌≤◌, arith, ap, sym, ◌∙◌, List, [], ◌∷◌, length, take, drop, slice_index, drop-cons, cond, nat_eq, nat_lt, Bool, true, false, ◌≢◌, ◌-◌, IsAscii}
use Rattle.std.proofs.lemmas.Bool.Decides.{nat_tests}
use Rattle.std.proofs.lemmas.Grind.{common_steps}
use Rattle.std.proofs.lemmas.List.{get_or_past}
use Rattle.archive_check.specs.Reads.{bytes_at, before_end}
use Rattle.archive_check.proofs.Editing.EditedBytes.{bytes_long}

pub bytes_one : (bytes : List ℕ) (p : ℕ) → p < length bytes → bytes_at bytes p 1 ≡ slice_index bytes p ∷ []
unfolding bytes_at
bytes_one bytes p h = ap (take 1) (drop-cons bytes p 0 h)

keep_byte : (b : ℕ) (xs ys : List ℕ) (t : Bool) → nat_eq b 255 ≡ t → b ≢ 255 → xs ≡ ys → cond t [] (b ∷ xs) ≡ b ∷ ys
keep_byte b xs ys true e h k = absurd (grind (arith, nat_tests))
keep_byte b xs ys false e h k = ap (λ zs. b ∷ zs) k

pub before_all : (xs : List ℕ) → ((i : ℕ) → i < length xs → slice_index xs i ≢ 255) → before_end xs ≡ xs
before_all [] h = refl
before_all (b ∷ xs) h = keep_byte b (before_end xs) xs (nat_eq b 255) refl (h 0 (omega arith)) (before_all xs (λ i lt. h (suc i) (omega arith)))

stop_byte : (b : ℕ) (xs : List ℕ) (t : Bool) → nat_eq b 255 ≡ t → b ≡ 255 → cond t [] (b ∷ xs) ≡ []
stop_byte b xs true e h = refl
stop_byte b xs false e h = absurd (grind (arith, nat_tests))

pub before_first : (xs : List ℕ) (k : ℕ) → k < length xs → ((i : ℕ) → i < k → slice_index xs i ≢ 255) → slice_index xs k ≡ 255 → before_end xs ≡ take k xs
before_first [] k lt h e = absurd (omega arith)
before_first (b ∷ xs) zero lt h e = stop_byte b (before_end xs) (nat_eq b 255) refl e
before_first (b ∷ xs) (suc k) lt h e = keep_byte b (before_end xs) (take k xs) (nat_eq b 255) refl (h 0 (omega arith)) (before_first xs k (omega arith) (λ i lt. h (suc i) (omega arith)) e)

-- the bytes of a part are those of the whole
pub byte_in : (bytes : List ℕ) (p n i : ℕ) → i < n → slice_index (bytes_at bytes p n) i ≡ slice_index bytes (p + i)
unfolding bytes_at
byte_in bytes p n i h = grind (arith, common_steps)

pub inline_all : (bytes : List ℕ) (p : ℕ) → p + 8 ≤ length bytes → ((i : ℕ) → i < 8 → slice_index bytes (p + i) ≢ 255) → bytes_at bytes p 8 ≡ before_end (bytes_at bytes p 8)
unfolding bytes_at
inline_all bytes p room h = sym (before_all (take 8 (drop p bytes)) (λ i lt e. let k : i < 8 = grind (arith, common_steps) in h i k (sym (byte_in bytes p 8 i k) ∙ e)))

take_under : (k n : ℕ) (xs : List ℕ) → k ≤ n → take k (take n xs) ≡ take k xs
take_under zero n xs h = refl
take_under (suc k) zero xs h = absurd (omega arith)
take_under (suc k) (suc n) [] h = refl
take_under (suc k) (suc n) (x ∷ xs) h = ap (λ ys. x ∷ ys) (take_under k n xs (omega arith))

take_within : (k : ℕ) (xs : List ℕ) → k ≤ 8 → take k (take 8 xs) ≡ take k xs
take_within k xs h = take_under k 8 xs h

pub inline_first : (bytes : List ℕ) (p k : ℕ) → p + 8 ≤ length bytes → k < 8 → ((i : ℕ) → i < k → slice_index bytes (p + i) ≢ 255) → slice_index bytes (p + k) ≡ 255 → bytes_at bytes p k ≡ before_end (bytes_at bytes p 8)
unfolding bytes_at
inline_first bytes p k room lt h e =
    let l : k < length (take 8 (drop p bytes)) = grind (arith, common_steps) in
    sym (before_first (take 8 (drop p bytes)) k l (λ i below f. let q : i < 8 = omega arith in h i below (sym (byte_in bytes p 8 i q) ∙ f)) (byte_in bytes p 8 k lt ∙ e) ∙ take_within k (drop p bytes) (omega arith))

-- bytes are ASCII where the first and the last w of them are, and none lie between
ascii_at : (bytes : List ℕ) (p n w : ℕ) → w ≤ n → n ≤ w + w → p + n ≤ length bytes → IsAscii (bytes_at bytes p w) → IsAscii (bytes_at bytes (p + n - w) w) → (i : ℕ) (a b : Bool) → nat_lt i w ≡ a → nat_lt i n ≡ b → slice_index (bytes_at bytes p n) i < 128
ascii_at bytes p n w ge le fits first last i true b e f =
    let lt : i < w = grind (arith, nat_tests) in
    omega (arith, byte_in bytes p n i (omega arith), byte_in bytes p w i lt, first i)
ascii_at bytes p n w ge le fits first last i false true e f =
    let out : w ≤ i = grind (arith, nat_tests) in
    let lt : i < n = grind (arith, nat_tests) in
    let k = i + w - n in
    let there : p + n - w + k ≡ p + i = omega arith in
    let same = byte_in bytes (p + n - w) w k (omega arith) ∙ ap (λ q. slice_index bytes q) there in
    omega (arith, byte_in bytes p n i lt, same, last k)
ascii_at bytes p n w ge le fits first last i false false e f =
    let out : n ≤ i = grind (arith, nat_tests) in
    omega (arith, get_or_past (bytes_at bytes p n) i 0 (omega (arith, bytes_long bytes p n fits)))

pub ascii_ends : (bytes : List ℕ) (p n w : ℕ) → w ≤ n → n ≤ w + w → p + n ≤ length bytes → IsAscii (bytes_at bytes p w) → IsAscii (bytes_at bytes (p + n - w) w) → IsAscii (bytes_at bytes p n)
ascii_ends bytes p n w ge le fits first last i = ascii_at bytes p n w ge le fits first last i (nat_lt i w) (nat_lt i n) refl refl

-- no byte of a part is above m where none of the whole is there
most_at : (bytes : List ℕ) (p n m i : ℕ) → p + n ≤ length bytes → ((k : ℕ) → k < n → slice_index bytes (p + k) ≤ m) → (b : Bool) → nat_lt i n ≡ b → slice_index (bytes_at bytes p n) i ≤ m
most_at bytes p n m i fits each true e =
    let lt : i < n = grind (arith, nat_tests) in
    omega (arith, byte_in bytes p n i lt, each i lt)
most_at bytes p n m i fits each false e =
    let out : n ≤ i = grind (arith, nat_tests) in
    omega (arith, get_or_past (bytes_at bytes p n) i 0 (omega (arith, bytes_long bytes p n fits)))

pub none_above : (bytes : List ℕ) (p n m : ℕ) → p + n ≤ length bytes → ((k : ℕ) → k < n → slice_index bytes (p + k) ≤ m) → (i : ℕ) → slice_index (bytes_at bytes p n) i ≤ m
none_above bytes p n m fits each i = most_at bytes p n m i fits each (nat_lt i n) refl

pub ascii_below : (bytes : List ℕ) (p n : ℕ) → p + n ≤ length bytes → ((k : ℕ) → k < n → slice_index bytes (p + k) < 128) → IsAscii (bytes_at bytes p n)
ascii_below bytes p n fits each i = omega (arith, none_above bytes p n 127 fits (λ k lt. omega (arith, each k lt)) i)
