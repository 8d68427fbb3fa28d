-- A part that is written over: its bytes, and those around it.
use Rattle.std.proofs.Common.{◌≡◌, ℕ, ◌+◌, ◌<◌, ◌≤◌, ◌^◌, List, ◌++◌, length, take, drop, arith, ap, ◌∙◌}
use Rattle.std.proofs.lemmas.List.{length-take, length-drop, drop-drop, drop_at, take_at, get_or-take, get_or-drop}
use Rattle.archive_check.specs.Reads.{bytes_at}
use Rattle.archive_types.specs.Words.PlacedParts.{ChangesOnly, ZeroedPart}
use Rattle.archive_types.specs.Writing.{ZeroedPlace}

-- k bytes from an offset on, in place of those that stood there
abbrev put : ℕ → ℕ → List ℕ → List ℕ → List ℕ
put o k old a = take o old ++ (a ++ drop k (drop o old))

module _ (n o p k : ℕ) (old : List ℕ) (same : k ≡ n) (inside : o + n ≤ length old) where
  -- the part is a place
  pub zeroed_place : ZeroedPart o n old → p + length old < 2 ^ 64 → ZeroedPlace n (p + o) (take k (drop o old))
  zeroed_place part ends =
      let sized : length (take n (drop o old)) ≡ n = omega (arith, inside, length-take n (drop o old), length-drop o old) in
      rw same (record {
        sized = sized;
        zeroed = record { zero_at = λ i below. (let h : i < n = omega (arith, sized) in get_or-take n (drop o old) i 0 h ∙ (get_or-drop o old i 0 ∙ part.zero_at i h)) };
        ends = omega (arith, inside, ends);
      })

  module _ (a : List ℕ) (same_length : length a ≡ length (take k (drop o old))) where
    sized : length a ≡ n
    sized = omega (arith, same, same_length, inside, length-take k (drop o old), length-drop o old)

    -- what was put there is the part
    pub put_there : bytes_at (put o k old a) o n ≡ a
    unfolding bytes_at
    put_there = ap (take n) (drop_at (take o old) (a ++ drop k (drop o old)) o (omega (arith, inside, length-take o old))) ∙ take_at a (drop k (drop o old)) n sized

    pub put_changes_only : ChangesOnly o n old (put o k old a)
    put_changes_only =
        let behind : drop k (drop o old) ≡ drop (o + length a) old = rw (sized, same) (drop-drop n o old) in
        rw put_there (ap (λ x. take o old ++ (a ++ x)) behind)
