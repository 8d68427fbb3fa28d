-- Zeros up to a multiple.
use Rattle.std.proofs.Common.{◌≡◌, ℕ, zero, suc, ◌+◌, ◌-◌, ◌*◌, ◌/◌, ◌%◌, ◌<◌, ◌≤◌, ◌++◌, length, replicate, sym, ap, ◌∙◌, arith, length-append}
use Rattle.std.proofs.Math.Nat.{mod-lt}
use Rattle.std.proofs.lemmas.Nat.{div-add-mod', div-mul-add, mod-mul-add}
use Rattle.std.proofs.lemmas.List.{get_or-replicate, length-replicate}
use Rattle.archive_check.specs.Definitions.{IsAlign}
use Rattle.archive_check.specs.Layout.{up}
use Rattle.archive_check.proofs.Tours.PartsInside.{up_le}
use Rattle.archive_check.specs.CleanRegions.{IsZeroed}
use Rattle.archive_check.specs.WriterState.{WriterState, KeepsKeys, Pads}
use Rattle.archive_write.specs.Written.{padding}

by_rest : (n a q r : ℕ) → 1 ≤ a → n ≡ q * a + r → r < a → (a - r) % a ≡ padding a n
by_rest n a q zero h e less =
    let below : n + (a - 1) ≡ q * a + (a - 1) = omega (arith, e) in
    let most : up n a ≡ q * a = ap (λ x. x / a * a) below ∙ ap (λ x. x * a) (div-mul-add q a (a - 1) (omega arith)) in
    let none : (1 * a + 0) % a ≡ 0 = mod-mul-add 1 a 0 (omega arith) in
    let same : a - 0 ≡ 1 * a + 0 = omega arith in
    ap (λ x. x % a) same ∙ none ∙ omega (arith, most, e)
by_rest n a q (suc r) h e less =
    let above : n + (a - 1) ≡ suc q * a + r = omega (arith, e) in
    let next : up n a ≡ suc q * a = ap (λ x. x / a * a) above ∙ ap (λ x. x * a) (div-mul-add (suc q) a r (omega arith)) in
    let rest : a - suc r ≡ 0 * a + (a - suc r) = omega arith in
    ap (λ x. x % a) rest ∙ mod-mul-add 0 a (a - suc r) (omega arith) ∙ omega (arith, next, e)

-- as it is computed
pub padding_by_rest : (n a : ℕ) → 1 ≤ a → (a - n % a) % a ≡ padding a n
padding_by_rest n a h = by_rest n a (n / a) (n % a) h (sym (div-add-mod' n a)) (mod-lt n (omega arith))

pub align_low : (a : ℕ) → IsAlign a → 1 ≤ a
align_low a h = omega (arith, h)

-- zeros come up to the next multiple
pub padded : (n a : ℕ) → IsAlign a → n + padding a n ≡ up n a
padded n a h = omega (arith, up_le n a (align_low a h))

pub zeroed_replicate : (n : ℕ) → IsZeroed (replicate n 0)
zeroed_replicate n = record { zero_at = λ i h. get_or-replicate n i 0 0 (omega (arith, length-replicate {A = ℕ} n 0)) }

pub pads_by : (align position : ℕ) (old new : WriterState) → IsAlign align → position ≡ length old.bytes
    → new.bytes ≡ old.bytes ++ replicate (padding align position) 0 → KeepsKeys old.states new.states → Pads align old new
pads_by align position old new is here grown keys = record {
  zeros = replicate (padding align position) 0;
  grown = grown;
  zeroed = zeroed_replicate (padding align position);
  aligned = ap length grown ∙ length-append old.bytes (replicate {A = ℕ} (padding align position) 0) ∙ omega (arith, length-replicate {A = ℕ} (padding align position) 0, ap (padding align) here, padded (length old.bytes) align is);
  states = λ i k. keys k i;
}
