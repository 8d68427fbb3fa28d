-- Values that are written in bulk: as a slice's, as an owner's elements, and arrays as all their elements.
use Rattle.std.proofs.Common.{◌≡◌, ℕ, ◌+◌, ◌-◌, ◌*◌, ◌<◌, ◌≤◌, ◌^◌, List, length, refl, sym, ap, subst, ◌∙◌, arith, Bool, true, false, inl, inr, ⊎_elim, zero, suc, Option, Some, None, Result, Ok, Err, IfOk, IfErr, OnOk, IsOk, IsErrAnd}
use Rattle.std.specs.Prelude.{IsErrOf, IsTrue, IsSome, IfSome, is_some}
use Rattle.std.specs.List.{All}
use Rattle.std.proofs.lemmas.List.Elements.{recursion_from_All}
use Rattle.std.proofs.Math.Nat.{mul_assoc, mul-le-mul_right, mul-le-mul_left}
use Rattle.archive_check.specs.Layout.{Layout}
use Rattle.archive_check.specs.SelfCheck.Arrays.{array_layout}
use Rattle.archive_check.specs.WriterState.{WriterState}
use Rattle.archive_check.specs.declared.format.error.Error.{Error}
use Rattle.archive_check.specs.declared.format.error.Error.TheVariants.{OutOfMemory, PositionTooLarge, LengthTooLarge}
use Rattle.archive_types.specs.Causes.{own_cause}
use Rattle.archive_types.specs.Copies.{each_bytes, small_in_bulk, array_in_bulk, behind_zeros, IsCopyRefused, IsSliceRefused, AreCopiesRefused, copies_from, copies_to}
use Rattle.archive_types.specs.Words.BulkCopies.{CopiesAll, WritesInBulk, SliceWritesInBulk, OwnerWritesInBulk}
use Rattle.archive_write.specs.Written.{GoesOn}
use Rattle.archive_types.proofs.Planning.Causes.{explains_sooner}
use Rattle.archive_types.proofs.Copying.Copies.{copy_fails}
use Rattle.archive_types.proofs.Copying.ArrayCopies.{flat, Whole, flat_length}
use Rattle.archive_types.proofs.Writing.ArrayBytes.{arrays_bytes}

-- what a call promises that copies values, where their type is written in bulk
abbrev pub Copies : {A : Type 0} → Option (A → List ℕ) → ℕ → Layout → List A → WriterState → WriterState → Bool → Result (Option ℕ) Error → Type 0
Copies o together L xs old new takes_memory r = IfSome o (λ bytes. together * L.size ≤ 1024 → length xs * L.size < 2 ^ 64 → CopiesAll bytes L xs old new takes_memory r)

-- an error, of a call that answers something else
abbrev as_copied : Result ℕ Error → Result (Option ℕ) Error
as_copied (Ok p) = Ok (Some p)
as_copied (Err e) = Err e

-- as many values as a pointer can say, of 1,024 bytes at most, can be counted
few_counted : (n size : ℕ) → n ≤ 4294967295 → size ≤ 1024 → n * size < 2 ^ 64
few_counted n size few small =
    let most : n * size ≤ n * 1024 = mul-le-mul_left n small in
    let less : n * size < 18446744073709551616 = omega (arith, most, few) in
    less

module _ {A : Type 0} (L : Layout) (xs : List A) (p : ℕ) (old new : WriterState) (takes_memory : Bool) where
  -- too many are refused at once
  pub long_in_bulk : (o : Option (A → List ℕ)) → 4294967295 < length xs → SliceWritesInBulk o L xs p old new takes_memory (Err LengthTooLarge)
  long_in_bulk None long = tt
  long_in_bulk (Some b) long = λ small. record {
    copied = tt;
    stands = tt;
    cause = own_cause (inl (refl, long));
    memory = λ e. cc;
    succeeds = λ takes few. absurd (omega (arith, long, few));
  }

  module _ (few : length xs ≤ 4294967295) where
    -- where they may be copied, the call answers where they are
    pub none_in_bulk : (o : Option (A → List ℕ)) (mid : WriterState) (r : Result ℕ Error) (v : Option ℕ) → is_some v ≡ false → Copies o 1 L xs old mid takes_memory (Ok v)
        → SliceWritesInBulk o L xs p old new takes_memory r
    none_in_bulk None mid r v none h = tt
    none_in_bulk (Some b) mid r (Some t) none h = absurd (unlike none)
      where
        unlike : true ≡ false → ⊥
        unlike e = cc
    none_in_bulk (Some b) mid r None none h = λ small. (let unanswered = (h (omega (arith, small)) (few_counted (length xs) L.size few small)).answered in cc)

    module _ (here : p ≡ length old.bytes) where
      pub refused_in_bulk : (o : Option (A → List ℕ)) (r : Result ℕ Error) (e : Error) → IsErrAnd r (λ d. d ≡ e) → GoesOn old new → IsCopyRefused (copies_to L (length xs) (length old.bytes)) old new e
          → Copies o 1 L xs old new takes_memory (Err e) → SliceWritesInBulk o L xs p old new takes_memory r
      refused_in_bulk None r e is goes cause h = tt
      refused_in_bulk (Some b) (Ok t) e is goes cause h = absurd is
      refused_in_bulk (Some b) (Err d) e is goes cause h = rw is (λ small.
          let c = h (omega (arith, small)) (few_counted (length xs) L.size few small) in
          let ended : IsCopyRefused (copies_to L (length xs) p) old new e = rw (← here) at cause in
          record {
            copied = tt;
            stands = tt;
            cause = explains_sooner _ _ _ _ old new e (λ x. inr x) (λ m x. x) ended;
            memory = λ x. c.memory (ap as_copied x);
            succeeds = λ takes said. copy_fails {A = ℕ} {B = Option ℕ} (Err e) e _ _ _ _ goes c.memory ended takes;
          })

  owned_cause : (e : Error) → IsSliceRefused L (length xs) p old new e → AreCopiesRefused L (length xs) p old new e
  owned_cause e h = explains_sooner _ _ _ _ old new e (λ x. ⊎_elim inl (λ large. inr (inr large)) x) (λ m x. x) h

  -- what a slice refuses, its owner does
  pub owned_refused : (o : Option (A → List ℕ)) (r : Result ℕ Error) (e : Error) → IsErrAnd r (λ d. d ≡ e) → SliceWritesInBulk o L xs p old new takes_memory (Err e) → OwnerWritesInBulk o L xs p old new takes_memory r
  owned_refused None r e is h = tt
  owned_refused (Some b) (Ok t) e is h = absurd is
  owned_refused (Some b) (Err d) e is h = rw is (λ small. (let c = h small in record {
    copied = tt;
    stands = tt;
    cause = owned_cause e c.cause;
    memory = c.memory;
    succeeds = λ takes said. c.succeeds takes said.0;
  }))

  -- and so does one that can't say where they are
  pub owned_too_far : (o : Option (A → List ℕ)) (r : Result ℕ Error) (t : ℕ) (e : Error) → IsErrAnd r (λ d. d ≡ e) → (e ≡ PositionTooLarge) × (4294967295 < t)
      → SliceWritesInBulk o L xs p old new takes_memory (Ok t) → OwnerWritesInBulk o L xs p old new takes_memory r
  owned_too_far None r t e is far h = tt
  owned_too_far (Some b) (Ok q) t e is far h = absurd is
  owned_too_far (Some b) (Err d) t e is far h = rw (is, far.0) (λ small.
      let c = h small in
      let at : t ≡ copies_from L p = c.stands in
      record {
        copied = tt;
        stands = tt;
        cause = own_cause (inr (inl (refl, omega (arith, far.1, at))));
        memory = λ x. cc;
        succeeds = λ takes said. absurd (omega (arith, far.1, at, said.1));
      })

  -- else it holds what the slice says
  pub owned_in_bulk : (o : Option (A → List ℕ)) (t q : ℕ) → q ≡ t → SliceWritesInBulk o L xs p old new takes_memory (Ok t) → OwnerWritesInBulk o L xs p old new takes_memory (Ok q)
  owned_in_bulk None t q same h = tt
  owned_in_bulk (Some b) t q same h = rw same (λ small. (let c = h small in record {
    copied = c.copied;
    stands = c.stands;
    cause = tt;
    memory = λ x. cc;
    succeeds = λ takes said. refl;
  }))

-- arrays of n, which have so many bytes
module _ {A : Type 0} (L : Layout) (n : ℕ) (xss : List (List A)) (old new : WriterState) (takes_memory : Bool) where
  -- are written in bulk as all their elements are
  by_bytes : (z more : ℕ) → (o : Option (A → List ℕ)) (r : Result (Option ℕ) Error) (ys : List A) (together joined : ℕ) → ys ≡ flat xss → All (λ x. length x ≡ n) xss → joined ≤ together * n
      → Copies o joined L ys old new takes_memory r
      → IfSome (small_in_bulk z more o) (λ bytes. together * (n * L.size) ≤ 1024 → length xss * (n * L.size) < 2 ^ 64 → CopiesAll bytes (array_layout n L) xss old new takes_memory r)
  by_bytes zero more o r ys together joined same all less h = tt
  by_bytes (suc z) (suc more) o r ys together joined same all less h = tt
  by_bytes (suc z) zero None r ys together joined same all less h = tt
  by_bytes (suc z) zero (Some b) r ys together joined same all less h = λ small counted.
      let each : Whole n xss = recursion_from_All (λ x. length x ≡ n) xss all in
      let fewer : joined * L.size ≤ together * n * L.size = mul-le-mul_right L.size less in
      let many : length ys * L.size ≡ length xss * (n * L.size) = ap (λ zs. length zs * L.size) same ∙ ap (λ c. c * L.size) (flat_length n xss each) ∙ mul_assoc (length xss) n L.size in
      let c = h (omega (arith, small, fewer, mul_assoc together n L.size)) (omega (arith, counted, many)) in
      record {
        answered = c.answered;
        copied = subst (λ bs. OnOk r (new.bytes ≡ behind_zeros L old.bytes bs)) (ap (each_bytes b) same ∙ arrays_bytes b xss) c.copied;
        memory = c.memory;
      }

  pub arrays_in_bulk : (o : Option (A → List ℕ)) (r : Result (Option ℕ) Error) (ys : List A) (together joined : ℕ) → ys ≡ flat xss → All (λ x. length x ≡ n) xss → joined ≤ together * n
      → Copies o joined L ys old new takes_memory r → Copies (array_in_bulk (n * L.size) o) together (array_layout n L) xss old new takes_memory r
  arrays_in_bulk o r ys together joined same all less h = by_bytes (n * L.size) (n * L.size - 1024) o r ys together joined same all less h

  -- and can be counted, if their bytes can
  has_bytes : (z size : ℕ) → suc z ≡ n * size → 1 ≤ size
  has_bytes z zero e = absurd (omega (arith, e))
  has_bytes z (suc s) e = omega arith

  uncounted_by : (z more : ℕ) → z ≡ n * L.size → (o : Option (A → List ℕ)) (r : Result (Option ℕ) Error) (together : ℕ) → 2 ^ 64 ≤ length xss * n
      → IfSome (small_in_bulk z more o) (λ bytes. together * (n * L.size) ≤ 1024 → length xss * (n * L.size) < 2 ^ 64 → CopiesAll bytes (array_layout n L) xss old new takes_memory r)
  uncounted_by zero more size o r together many = tt
  uncounted_by (suc z) (suc more) size o r together many = tt
  uncounted_by (suc z) zero size None r together many = tt
  uncounted_by (suc z) zero size (Some b) r together many = λ small counted.
      let one : 1 ≤ L.size = has_bytes z L.size size in
      let most : length xss * n * 1 ≤ length xss * n * L.size = mul-le-mul_left (length xss * n) one in
      absurd (omega (arith, many, counted, most, mul_assoc (length xss) n L.size))

  pub uncounted_in_bulk : (o : Option (A → List ℕ)) (r : Result (Option ℕ) Error) (together : ℕ) → 2 ^ 64 ≤ length xss * n
      → Copies (array_in_bulk (n * L.size) o) together (array_layout n L) xss old new takes_memory r
  uncounted_in_bulk o r together more = uncounted_by (n * L.size) (n * L.size - 1024) refl o r together more
