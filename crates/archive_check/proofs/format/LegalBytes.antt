-- Which bytes in a buffer are a leaf, byte by byte; and that a leaf has one encoding.
use Rattle.std.proofs.Common.{◌≡◌, ◌≢◌, ◌⊎◌, inl, inr, ℕ, zero, suc, ◌+◌, ◌-◌, ◌*◌, ◌^◌, ◌<◌, ◌≤◌, arith, refl, sym, ap, ◌∙◌, List, length, slice_index, Bool, true, false, IsTrue, not, nat_lt, nat_eq}
use Rattle.std.proofs.lemmas.Bool.{cases_lt}
use Rattle.std.proofs.lemmas.Bool.Decides.{nat_tests}
use Rattle.std.proofs.lemmas.List.{nil_from_length}
use Rattle.std.specs.Int.{Width, w8, w32, byte_len, byte_worth, sum_through, from_le_bytes}
use Rattle.archive_check.specs.declared.format.expr.Kind.{Kind as KindExpr}
use Rattle.archive_check.specs.declared.format.expr.Kind.TheVariants as expr
use Rattle.archive_check.specs.declared.format.expr.IntegerKind.{IntegerKind}
use Rattle.archive_check.specs.declared.format.error.Error.TheVariants.{ZeroNumber}
use Rattle.archive_check.specs.Expressions.{kind_of}
use Rattle.archive_check.specs.Words.Faults.{illegal_error}
use Rattle.archive_check.specs.Shape.{Sign, unsigned, bool, char, non_zero, Kind as LeafKind, unit, number, raw_rel}
use Rattle.archive_check.specs.Layout.{kind_size}
use Rattle.archive_check.specs.Reads.{bytes_at, u32_at, kind_number, IsLegal, IsLegalNumber, kind_value}
use Rattle.archive_check.specs.LittleEndian.{AreBytes}
use Rattle.archive_check.specs.Words.LegalRuns.{AreLegal}
use Rattle.archive_check.proofs.format.BytesAt.{bytes_one, byte_in}
use Rattle.archive_check.proofs.Editing.EditedBytes.{bytes_long}
use Rattle.archive_check.proofs.LittleEndian.{some_byte, from_le_bytes-one, with_sign-one}
use Rattle.std.proofs.Math.Nat.{eq_of_mul-eq-mul_right, one-le-pow, zero-mul, mul-le-mul_right}

pub legal_bool : (bytes : List ℕ) (p : ℕ) → p + 1 ≤ length bytes → (IsTrue (nat_lt (slice_index bytes p) 2) → IsLegal bool (bytes_at bytes p 1)) × (IsLegal bool (bytes_at bytes p 1) → IsTrue (nat_lt (slice_index bytes p) 2))
unfolding kind_number
legal_bool bytes p room = rw (bytes_one bytes p (omega arith)) (λ t. record { size = refl; number = grind (arith, nat_tests) }, λ l. let n = l.number in grind (arith, nat_tests))

pub legal_char : (bytes : List ℕ) (p n : ℕ) → p + 4 ≤ length bytes → n ≡ u32_at bytes p → (IsLegalNumber char n → IsLegal char (bytes_at bytes p 4)) × (IsLegal char (bytes_at bytes p 4) → IsLegalNumber char n)
unfolding kind_number u32_at
legal_char bytes p n room e = (λ t. record { size = bytes_long bytes p 4 room; number = rw e at t }, λ l. rw e l.number)

-- a little-endian number is 0 where each byte is

sum_zero : (f : ℕ → ℕ) (k : ℕ) → ((i : ℕ) → i < suc k → f i ≡ 0) → sum_through f k ≡ 0
sum_zero f zero h = h 0 (omega arith)
sum_zero f (suc k) h = let below = sum_zero f k (λ i lt. h i (omega arith)) in let here = h (suc k) (omega arith) in omega arith

zero_sum : (f : ℕ → ℕ) (k : ℕ) → sum_through f k ≡ 0 → (i : ℕ) → i < suc k → f i ≡ 0
zero_sum f zero e i lt = let first : i ≡ 0 = omega arith in ap f first ∙ e
zero_sum f (suc k) e i lt = at (zero_sum f k (omega arith) i) (nat_eq i (suc k)) refl
  where
    at : (i < suc k → f i ≡ 0) → (b : Bool) → nat_eq i (suc k) ≡ b → f i ≡ 0
    at before true q = let last : i ≡ suc k = grind (arith, nat_tests) in ap f last ∙ omega arith
    at before false q = let other : i ≢ suc k = grind (arith, nat_tests) in before (omega arith)

worth_zero : (i b : ℕ) → byte_worth i b ≡ 0 → b ≡ 0
worth_zero zero b e = e
worth_zero (suc i) b e = eq_of_mul-eq-mul_right (256 ^ suc i) (one-le-pow (suc i) 256 (omega arith)) b 0 (e ∙ sym (zero-mul (256 ^ suc i)))

zero_worth : (i b : ℕ) → b ≡ 0 → byte_worth i b ≡ 0
zero_worth zero b e = e
zero_worth (suc i) b e = rw e (omega arith)

some_or_none : (f : ℕ → ℕ) (n : ℕ) → ((i : ℕ) × (i < n) × (f i ≢ 0)) ⊎ ((i : ℕ) → i < n → f i ≡ 0)
some_or_none f zero = inr (λ i lt. absurd (omega arith))
some_or_none f (suc n) = elim (some_or_none f n) [
  | inl h ↦ inl (h.0, omega (arith, h.1), h.2)
  | inr h ↦ last (f n) refl h
]
  where
    last : (b : ℕ) → f n ≡ b → ((i : ℕ) → i < n → f i ≡ 0) → ((i : ℕ) × (i < suc n) × (f i ≢ 0)) ⊎ ((i : ℕ) → i < suc n → f i ≡ 0)
    last zero e h = inr (λ i lt. all (nat_eq i n) i lt refl)
      where
        all : (b : Bool) (i : ℕ) → i < suc n → nat_eq i n ≡ b → f i ≡ 0
        all true i lt q = let same : i ≡ n = grind (arith, nat_tests) in ap f same ∙ e
        all false i lt q = let other : i ≢ n = grind (arith, nat_tests) in h i (omega arith)
    last (suc b) e h = inl (n, omega arith, λ q. omega arith)

pub legal_non_zero : (s : Sign) (w : Width) (bytes : List ℕ) (p n : ℕ) → n ≡ byte_len w → p + byte_len w ≤ length bytes
    → (((i : ℕ) × (i < n) × (slice_index bytes (p + i) ≢ 0)) → IsLegal (non_zero s w) (bytes_at bytes p (byte_len w)))
    × (IsLegal (non_zero s w) (bytes_at bytes p (byte_len w)) → (i : ℕ) × (i < n) × (slice_index bytes (p + i) ≢ 0))
unfolding kind_number
legal_non_zero s w bytes p n e room =
    let worth = λ (i : ℕ). byte_worth i (slice_index (bytes_at bytes p (byte_len w)) i) in (
      λ (i, lt, some). record {
        size = bytes_long bytes p (byte_len w) room;
        number = λ zeroed. some (sym (byte_in bytes p (byte_len w) i (omega arith)) ∙ worth_zero i _ (zero_sum worth (byte_len w - 1) zeroed i (omega arith)));
      },
      λ l. elim (some_or_none (λ i. slice_index bytes (p + i)) n) [
        | inl h ↦ h
        | inr none ↦ absurd (l.number (sum_zero worth (byte_len w - 1) (λ i lt. zero_worth i _ (byte_in bytes p (byte_len w) i (omega (arith, some_byte w)) ∙ none i (omega (arith, some_byte w))))))
      ],
    )

-- a number that was read and isn't 0 has a byte that isn't
pub some_bits : (w : Width) (bytes : List ℕ) (p n x : ℕ) → n ≡ byte_len w → p + n ≤ length bytes → x ≡ from_le_bytes w (bytes_at bytes p (byte_len w)) → IsTrue (not (nat_eq x 0)) → (i : ℕ) × (i < n) × (slice_index bytes (p + i) ≢ 0)
unfolding kind_number
some_bits w bytes p n x size room read some =
    let other : x ≢ 0 = grind (arith, nat_tests) in
    let whole = rw size at room in
    (legal_non_zero unsigned w bytes p n size whole).1 (record { size = bytes_long bytes p (byte_len w) whole; number = λ z. other (read ∙ z) })

-- any bytes are such a leaf
abbrev pub IsAny : KindExpr → Type 0
IsAny kind = (kind ≡ expr.Unit) ⊎ ((x : IntegerKind) × (kind ≡ expr.Number x)) ⊎ ((x : IntegerKind) × (kind ≡ expr.RawRel x))

legal_of : (kind : KindExpr) (xs : List ℕ) → length xs ≡ kind_size (kind_of kind) → IsAny kind → IsLegal (kind_of kind) xs
legal_of expr.Unit xs long any = record { size = long; number = tt }
legal_of (expr.Number x) xs long any = record { size = long; number = tt }
legal_of (expr.RawRel x) xs long any = record { size = long; number = tt }
legal_of expr.Bool xs long (inl e) = cc
legal_of expr.Bool xs long (inr (inl (x, e))) = cc
legal_of expr.Bool xs long (inr (inr (x, e))) = cc
legal_of expr.Char xs long (inl e) = cc
legal_of expr.Char xs long (inr (inl (x, e))) = cc
legal_of expr.Char xs long (inr (inr (x, e))) = cc
legal_of (expr.NonZero y) xs long (inl e) = cc
legal_of (expr.NonZero y) xs long (inr (inl (x, e))) = cc
legal_of (expr.NonZero y) xs long (inr (inr (x, e))) = cc

pub legal_any : (kind : KindExpr) (bytes : List ℕ) (p : ℕ) → p + kind_size (kind_of kind) ≤ length bytes → IsAny kind → IsLegal (kind_of kind) (bytes_at bytes p (kind_size (kind_of kind)))
legal_any kind bytes p room any = legal_of kind (bytes_at bytes p (kind_size (kind_of kind))) (bytes_long bytes p (kind_size (kind_of kind)) room) any

-- leaves one behind another
pub any_legal : (kind : KindExpr) (bytes : List ℕ) (p z n : ℕ) → z ≡ kind_size (kind_of kind) → p + n * z ≤ length bytes → IsAny kind → AreLegal (kind_of kind) bytes p z n
any_legal kind bytes p z n size room any k lt =
    let within : (k + 1) * z ≤ n * z = mul-le-mul_right z (omega arith) in
    legal_any kind bytes (p + k * z) (omega (arith, size)) any

pub legal_more : (kind : LeafKind) (bytes : List ℕ) (p z a n : ℕ) → AreLegal kind bytes p z a → AreLegal kind bytes (p + a * z) z n → AreLegal kind bytes p z (a + n)
legal_more kind bytes p z a n first second k lt = elim (cases_lt k a) [
  | inl before ↦ first k before
  | inr behind ↦
      let sum : a + (k - a) ≡ k = omega arith in
      let there : p + a * z + (k - a) * z ≡ p + (a + (k - a)) * z = omega arith in
      rw sum at (rw there at (second (k - a) (omega arith)))
]

-- what else isn't legal is 0
pub illegal_zero : (kind : KindExpr) (xs : List ℕ) → length xs ≡ kind_size (kind_of kind) → (kind ≡ expr.Bool → ⊥) → (kind ≡ expr.Char → ⊥) → (IsLegal (kind_of kind) xs → ⊥) → ZeroNumber ≡ illegal_error (kind_of kind)
illegal_zero expr.Unit xs long a b not = absurd (not (legal_of expr.Unit xs long (inl refl)))
illegal_zero (expr.Number x) xs long a b not = absurd (not (legal_of (expr.Number x) xs long (inr (inl (x, refl)))))
illegal_zero (expr.RawRel x) xs long a b not = absurd (not (legal_of (expr.RawRel x) xs long (inr (inr (x, refl)))))
illegal_zero expr.Bool xs long a b not = absurd (a refl)
illegal_zero expr.Char xs long a b not = absurd (b refl)
illegal_zero (expr.NonZero x) xs long a b not = refl

-- legal bytes of the same value are the same
pub encoding_unique : (kind : LeafKind) (a b : List ℕ) → IsLegal kind a → IsLegal kind b → AreBytes a → AreBytes b → kind_value kind a ≡ kind_value kind b → a ≡ b
unfolding kind_value kind_number
encoding_unique unit a b g h i j same = nil_from_length a g.size ∙ sym (nil_from_length b h.size)
encoding_unique bool a b g h i j same = from_le_bytes-one w8 a b g.size h.size i j cc
encoding_unique char a b g h i j same = from_le_bytes-one w32 a b g.size h.size i j cc
encoding_unique (number sign width) a b g h i j same = with_sign-one sign width a b g.size h.size i j same
encoding_unique (non_zero sign width) a b g h i j same = with_sign-one sign width a b g.size h.size i j same
encoding_unique (raw_rel sign width) a b g h i j same = with_sign-one sign width a b g.size h.size i j same
