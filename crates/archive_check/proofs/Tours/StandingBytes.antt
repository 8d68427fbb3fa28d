-- Bytes that stand in a buffer at a position, and bytes that are 0.
use Rattle.std.proofs.Common.{◌≡◌, ℕ, ◌+◌, ◌-◌, ◌<◌, ◌≤◌, List, [], ◌++◌, length, take, slice_index, sym, ap, ◌∙◌, append_assoc, length-append, arith}
use Rattle.std.proofs.lemmas.List.{drop_at, take_at, get_or-append-add, get_or_append_left}
use Rattle.archive_check.specs.Reads.{bytes_at}
use Rattle.archive_check.specs.CleanRegions.{Occurs, AreZero, IsZeroed}

pub stands_front : (B : List ℕ) (p : ℕ) (a b : List ℕ) → Occurs B p (a ++ b) → Occurs B p a
stands_front B p a b h = record { before = h.before; behind = b ++ h.behind; is = h.is ∙ ap (λ x. h.before ++ x) (append_assoc a b h.behind); at = h.at }

pub stands_back : (B : List ℕ) (p q : ℕ) (a b : List ℕ) → q ≡ p + length a → Occurs B p (a ++ b) → Occurs B q b
stands_back B p q a b e h = record {
  before = h.before ++ a;
  behind = h.behind;
  is = h.is ∙ ap (λ x. h.before ++ x) (append_assoc a b h.behind) ∙ sym (append_assoc h.before a (b ++ h.behind));
  at = omega (arith, length-append h.before a, h.at, e);
}

pub stands_fits : (B : List ℕ) (p : ℕ) (a : List ℕ) → Occurs B p a → p + length a ≤ length B
stands_fits B p a h = omega (arith, ap length h.is, length-append h.before (a ++ h.behind), length-append a h.behind, h.at)

pub stands_bytes : (B : List ℕ) (p n : ℕ) (a : List ℕ) → length a ≡ n → Occurs B p a → bytes_at B p n ≡ a
unfolding bytes_at
stands_bytes B p n a m h = rw h.is (ap (take n) (drop_at h.before (a ++ h.behind) p h.at) ∙ take_at a h.behind n m)

pub stands_index : (B : List ℕ) (p i : ℕ) (a : List ℕ) → i < length a → Occurs B p a → slice_index B (p + i) ≡ slice_index a i
stands_index B p i a below h = rw (h.is, ← h.at) (get_or-append-add h.before (a ++ h.behind) i 0 ∙ get_or_append_left a h.behind 0 i below)

pub stands_zero : (B : List ℕ) (p q : ℕ) (a : List ℕ) → IsZeroed a → q ≡ p + length a → Occurs B p a → AreZero B p q
stands_zero B p q a z e h = record {
  zero_at = λ k above below. (
      let i : ℕ = k - p in
      let here : p + i ≡ k = omega arith in
      let few : i < length a = omega arith in
      rw (← here) (stands_index B p i a few h ∙ z.zero_at i few));
}

pub zero_nowhere : (B : List ℕ) (p q : ℕ) → q ≤ p → AreZero B p q
zero_nowhere B p q h = record { zero_at = λ k above below. absurd (omega arith) }

pub stands_begun : (B a b rest : List ℕ) (p : ℕ) → B ≡ (a ++ b) ++ rest → p ≡ length a → Occurs B p b
stands_begun B a b rest p e m = record { before = a; behind = rest; is = e ∙ append_assoc a b rest; at = sym m }

pub zeroed_none : IsZeroed []
zeroed_none = record { zero_at = λ i h. absurd (omega (arith, h)) }
