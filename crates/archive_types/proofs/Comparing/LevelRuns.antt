-- Elements that stand in the same bytes are skipped together.
use Rattle.std.proofs.Common.{◌≡◌, Bool, true, false, ℕ, zero, suc, ◌+◌, ◌-◌, ◌*◌, ◌<◌, ◌≤◌, List, take, drop, min, arith, refl, sym, ap, ◌∙◌}
use Rattle.std.proofs.lemmas.List.{take-take, drop-take, drop-drop}
use Rattle.std.proofs.Math.Nat.{mul-le-mul_right}
use mathlib.Core.Bool.{true≢false}
use Rattle.std.specs.Ordering.{ordering_then}
use Rattle.std.specs.declared.cmp.Ordering.{Ordering}
use Rattle.std.specs.declared.cmp.Ordering.TheVariants.{Equal}
use Rattle.archive_check.specs.Reads.{bytes_at}
use Rattle.archive_types.specs.Compared.{Standing, standing, AreLevelBy, AreSameBytes}
use Rattle.archive_types.proofs.Comparing.Compared.{rest, rest_first}

-- parts in the same settling bytes are level
settled : (R : Standing → Standing → Ordering) (n : ℕ) → 0 < n → AreLevelBy n R → (x y : Standing) → bytes_at x.bytes x.pos n ≡ bytes_at y.bytes y.pos n → R x y ≡ Equal
settled R zero h level x y e = absurd (omega (arith, h))
settled R (suc n) h level x y e = level x y e

first_bytes : (xs : List ℕ) (p m n : ℕ) → take m (bytes_at xs p (m + n)) ≡ bytes_at xs p m
unfolding bytes_at
first_bytes xs p m n = take-take m (m + n) (drop p xs) (omega arith)

later_bytes : (xs : List ℕ) (p m n : ℕ) → drop m (bytes_at xs p (m + n)) ≡ bytes_at xs (p + m) n
unfolding bytes_at
later_bytes xs p m n = drop-take m n (drop p xs) ∙ ap (take n) (drop-drop m p xs)

pub bytes_between : (xs : List ℕ) (p n k : ℕ) → k ≡ p + n - p → take k (drop p xs) ≡ bytes_at xs p n
unfolding bytes_at
bytes_between xs p n k e = ap (λ m. take m (drop p xs)) (omega (arith, e))

same_first : (a : List ℕ) (x : ℕ) (b : List ℕ) (y m n : ℕ) → AreSameBytes (m + n) a x b y → AreSameBytes m a x b y
same_first a x b y m n e = sym (first_bytes a x m n) ∙ ap (take m) e ∙ first_bytes b y m n

same_later : (a : List ℕ) (x : ℕ) (b : List ℕ) (y m n : ℕ) → AreSameBytes (m + n) a x b y → AreSameBytes n a (x + m) b (y + m)
same_later a x b y m n e = sym (later_bytes a x m n) ∙ ap (drop m) e ∙ later_bytes b y m n

module _ (R : Standing → Standing → Ordering) (a : List ℕ) (p z : ℕ) (b : List ℕ) (q : ℕ) (some : 0 < z) (level : AreLevelBy z R) where
  -- k elements in the same bytes are skipped
  pub skipped : (i k n m : ℕ) → i + k ≤ n → i + k ≤ m → AreSameBytes (k * z) a (p + i * z) b (q + i * z) → rest R a p z b q i n m ≡ rest R a p z b q (i + k) n m
  skipped i zero n m f g e = let none : i + 0 ≡ i = omega arith in rw none refl
  skipped i (suc k) n m f g e =
      let parts : suc k * z ≡ z + k * z = omega arith in
      let same : AreSameBytes (z + k * z) a (p + i * z) b (q + i * z) = rw parts at e in
      let here : p + i * z + z ≡ p + (i + 1) * z = omega arith in
      let there : q + i * z + z ≡ q + (i + 1) * z = omega arith in
      let later : AreSameBytes (k * z) a (p + (i + 1) * z) b (q + (i + 1) * z) = rw (here, there) at (same_later a (p + i * z) b (q + i * z) z (k * z) same) in
      let none = settled R z some level (standing a (p + i * z) 0) (standing b (q + i * z) 0) (same_first a (p + i * z) b (q + i * z) z (k * z) same) in
      let next : i + 1 + k ≡ i + suc k = omega arith in
      rest_first R a p z b q i n m (omega (arith, f)) (omega (arith, g))
      ∙ ap (λ o. ordering_then o (rest R a p z b q (i + 1) n m)) none
      ∙ skipped (i + 1) k n m (omega (arith, f)) (omega (arith, g)) later
      ∙ ap (λ j. rest R a p z b q j n m) next

module _ (q n z len i k : ℕ) (fits : q + n * z ≤ len) (some : i + k ≤ n) where
  whole : (i + k) * z ≤ n * z
  whole = mul-le-mul_right z some

  -- k elements from the element i on end within the bytes of all
  pub ends_within : q + i * z + k * z ≤ len
  ends_within = let h = whole in omega (arith, h, fits)

pub some_element : (n : ℕ) (r : Bool) → (n ≡ 0 → r ≡ true) → r ≡ false → 0 < n
some_element zero r back e = absurd (true≢false (sym (back refl) ∙ e))
some_element (suc n) r back e = omega arith

-- a slice with an element lies in bytes, so its elements have their size
pub their_size : (q n z w len : ℕ) → q + n * z ≤ len → len < 18446744073709551616 → w ≡ min z 18446744073709551615 → 0 < n → w ≡ z
their_size q n z w len fits small e some =
    let one : 1 * z ≤ n * z = mul-le-mul_right z some in
    omega (arith, fits, small, e, one)
