-- Texts whose first bytes are compared as numbers: where the numbers differ they decide, and else what follows does.
use Rattle.std.proofs.Common.{◌≡◌, refl, sym, ap, subst, ◌∙◌, arith, ℕ, zero, suc, ◌+◌, ◌*◌, ◌<◌, ◌≤◌, List, [], ◌∷◌, length, take, drop, Fits, w8, get_or}
use Rattle.std.proofs.lemmas.List.{length-drop, get_or-drop}
use Rattle.std.specs.declared.cmp.Ordering.{Ordering}
use Rattle.std.specs.declared.cmp.Ordering.TheVariants.{Less, Equal, Greater}
use Rattle.std.specs.Ordering.{nat_cmp, ordering_then, MatchOrdering}
use Rattle.std.specs.Cmp.{ranks, nat_cmp_is}
use Rattle.std.specs.Cmp.Lexicographic.{slice_cmp}
use Rattle.std.specs.Slice.Scan.{big_endian}
use Rattle.std.specs.Simd.Lanes.{chunk}

abbrev Bytes : List ℕ → Type 0
Bytes xs = (k : ℕ) → Fits w8 (get_or xs k 0)

below : {x y : ℕ} → x < y → nat_cmp x y ≡ Less
below {x} {y} l = sym (nat_cmp_is x y Less l)

above : {x y : ℕ} → y < x → nat_cmp x y ≡ Greater
above {x} {y} l = sym (nat_cmp_is x y Greater l)

-- a lesser number in front stays lesser, whatever bytes are appended to both
rises : (n a b : ℕ) (us vs : List ℕ) → n ≤ length us → n ≤ length vs → Bytes us → a < b → big_endian a (take n us) < big_endian b (take n vs)
rises zero a b us vs p q h l = l
rises (suc n) a b [] vs p q h l = absurd (omega arith)
rises (suc n) a b (u ∷ us) [] p q h l = absurd (omega arith)
rises (suc n) a b (u ∷ us) (v ∷ vs) p q h l =
    let small : u < 256 = (h 0).fits in
    rises n (a * 256 + u) (b * 256 + v) us vs (omega arith) (omega arith) (λ k. h (suc k)) (omega arith)

-- x and y are the first n bytes as numbers
pub record Decides (n : ℕ) (us vs : List ℕ) (x y : ℕ) : Type 0 where
  pub apart : (x ≡ y → ⊥) → slice_cmp nat_cmp us vs ≡ nat_cmp x y
  pub alike : x ≡ y → slice_cmp nat_cmp us vs ≡ slice_cmp nat_cmp (drop n us) (drop n vs)

decides : (n a : ℕ) (us vs : List ℕ) → n ≤ length us → n ≤ length vs → Bytes us → Bytes vs → Decides n us vs (big_endian a (take n us)) (big_endian a (take n vs))
decides zero a us vs p q g h = record { apart = λ f. absurd (f refl); alike = λ _. refl }
decides (suc n) a [] vs p q g h = absurd (omega arith)
decides (suc n) a (u ∷ us) [] p q g h = absurd (omega arith)
decides (suc n) a (u ∷ us) (v ∷ vs) p q g h = by (decides n (a * 256 + u) us vs (omega arith) (omega arith) (λ k. g (suc k)) (λ k. h (suc k))) (nat_cmp u v) refl (ranks u v)
  where
    by : Decides n us vs (big_endian (a * 256 + u) (take n us)) (big_endian (a * 256 + u) (take n vs))
        → (r : Ordering) → nat_cmp u v ≡ r → MatchOrdering r (u < v) (u ≡ v) (v < u)
        → Decides (suc n) (u ∷ us) (v ∷ vs) (big_endian (a * 256 + u) (take n us)) (big_endian (a * 256 + v) (take n vs))
    by rest Less e l =
        let under : u < v = l in
        let t = rises n (a * 256 + u) (a * 256 + v) us vs (omega arith) (omega arith) (λ k. g (suc k)) (omega arith) in
        record { apart = λ _. ap (λ r. ordering_then r (slice_cmp nat_cmp us vs)) e ∙ sym (below t); alike = λ s. absurd (omega arith) }
    by rest Greater e l =
        let over : v < u = l in
        let t = rises n (a * 256 + v) (a * 256 + u) vs us (omega arith) (omega arith) (λ k. h (suc k)) (omega arith) in
        record { apart = λ _. ap (λ r. ordering_then r (slice_cmp nat_cmp us vs)) e ∙ sym (above t); alike = λ s. absurd (omega arith) }
    by rest Equal e l =
        let same : u ≡ v = l in
        let t = subst (λ z. Decides n us vs (big_endian (a * 256 + u) (take n us)) (big_endian (a * 256 + z) (take n vs))) same rest in
        let first = ap (λ r. ordering_then r (slice_cmp nat_cmp us vs)) e in
        record { apart = λ f. first ∙ t.apart f; alike = λ s. first ∙ t.alike s }

-- so do the n bytes from k on
pub word_at : (n k : ℕ) (us vs : List ℕ) (x y : ℕ) → Bytes us → Bytes vs → k + n ≤ length us → k + n ≤ length vs → x ≡ big_endian 0 (chunk k n us) → y ≡ big_endian 0 (chunk k n vs)
    → Decides n (drop k us) (drop k vs) x y
word_at n k us vs x y g h p q e f =
    subst (λ z. Decides n (drop k us) (drop k vs) z y) (sym e) (subst (λ z. Decides n (drop k us) (drop k vs) (big_endian 0 (chunk k n us)) z) (sym f)
    (decides n 0 (drop k us) (drop k vs) (omega (arith, length-drop k us)) (omega (arith, length-drop k vs))
    (λ j. subst (Fits w8) (sym (get_or-drop k us j 0)) (g (k + j))) (λ j. subst (Fits w8) (sym (get_or-drop k vs j 0)) (h (k + j)))))
