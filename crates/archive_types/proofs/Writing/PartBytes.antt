-- Parts that are written over zeros, one behind another: what the bytes are then.
use Rattle.std.proofs.Common.{◌≡◌, ℕ, ◌+◌, ◌-◌, ◌<◌, ◌≤◌, List, [], ◌++◌, length, take, drop, slice_index, refl, sym, ap, ◌∙◌, arith, append_assoc, length-append}
use Rattle.std.proofs.lemmas.List.{length-take, length-drop, get_or-drop, get_or-take, drop_at, take_at, take_all, append-nil}
use Rattle.std.proofs.Math.ListN.{drop_of_length-le}
use Rattle.archive_check.specs.CleanRegions.{IsZeroed}
use Rattle.archive_types.specs.Parts.{ZeroedParts}

-- what stands behind an offset, in place of what stood there
abbrev put : ℕ → ℕ → List ℕ → List ℕ → List ℕ
put o n old new = take o old ++ (new ++ drop n (drop o old))

module _ (o k n e : ℕ) (old a : List ℕ) (same : k ≡ n) (ends : e ≡ o + n) (few : e ≤ length old) (sized : length a ≡ n) where
  front_length : length (take o old ++ a) ≡ e
  front_length = omega (arith, length-append (take o old) a, length-take o old)

  joined : put o k old a ≡ (take o old ++ a) ++ drop k (drop o old)
  joined = sym (append_assoc (take o old) a (drop k (drop o old)))

  pub behind_is : drop e (put o k old a) ≡ drop k (drop o old)
  behind_is = ap (drop e) joined ∙ drop_at (take o old ++ a) (drop k (drop o old)) e front_length

  pub before_is : take e (put o k old a) ≡ take o old ++ a
  before_is = ap (take e) joined ∙ take_at (take o old ++ a) (drop k (drop o old)) e front_length

  behind_length : length (drop k (drop o old)) ≡ length old - e
  behind_length = omega (arith, length-drop k (drop o old), length-drop o old)

  pub put_length : length (put o k old a) ≡ length old
  put_length = omega (arith, ap length joined, length-append (take o old ++ a) (drop k (drop o old)), front_length, behind_length)

  -- the bytes behind a part are zeros as before
  module _ (m : ℕ) (all : m ≡ length (put o k old a) - e) where
    rest_is : take m (drop e (put o k old a)) ≡ drop k (drop o old)
    rest_is = ap (take m) behind_is ∙ take_all m (drop k (drop o old)) (omega (arith, all, put_length, behind_length))

    rest_zeroed : IsZeroed old → IsZeroed (drop k (drop o old))
    rest_zeroed z = record { zero_at = λ i below. get_or-drop k (drop o old) i 0 ∙ (get_or-drop o old (k + i) 0 ∙ z.zero_at (o + (k + i)) (omega (arith, behind_length))) }

    pub fresh_behind : (end start p q : ℕ) → q ≡ start + e → ZeroedParts end start p old → ZeroedParts end q p (take m (drop e (put o k old a)))
    fresh_behind end start p q there f = rw rest_is (record {
      room = omega (arith, f.room, behind_length);
      zeroed = rest_zeroed f.zeroed;
      ends = omega (arith, f.ends, behind_length);
    })

    -- with what is written there
    pub both_written : (rest : List ℕ) → length rest ≡ length (take m (drop e (put o k old a))) → put e m (put o k old a) rest ≡ take o old ++ (a ++ rest)
    both_written rest few_more =
        let none : drop m (drop e (put o k old a)) ≡ [] = ap (drop m) behind_is ∙ drop_of_length-le (drop k (drop o old)) (omega (arith, all, put_length, behind_length)) in
        rw (before_is, none) (append_assoc (take o old) a (rest ++ []) ∙ ap (λ x. take o old ++ (a ++ x)) (append-nil rest))

pub zeroed_front : (o : ℕ) (old : List ℕ) → o ≤ length old → IsZeroed old → IsZeroed (take o old)
zeroed_front o old few z = record { zero_at = λ i below. (let h : i < o = omega (arith, length-take o old) in get_or-take o old i 0 h ∙ z.zero_at i (omega arith)) }
