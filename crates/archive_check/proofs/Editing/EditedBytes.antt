-- What an edit leaves as it was.
use Rattle.std.proofs.Common.{◌≡◌, ℕ, ◌+◌, ◌-◌, ◌≤◌, List, ◌++◌, length, take, drop, arith, sym, ap, ◌∙◌, refl, ap₂, subst, slice_index, get_or-take, get_or-drop, add-zero}
use Rattle.std.proofs.lemmas.List.{length-take-le, length-drop, length-append, take_at, take-append-le, take-take, drop_at, drop-append-le, drop-drop, drop-take, take-append-drop}
use Rattle.archive_check.specs.Reads.{bytes_at}
use Rattle.archive_check.specs.Leaves.{edit}
use Rattle.archive_check.proofs.Tours.EqualBytes.{Agrees}

-- new has the bytes b at q, and else those of the old buffer
pub record Edits (bytes new : List ℕ) (q : ℕ) (b : List ℕ) : Type 0 where
  pub whole : length new ≡ length bytes
  pub here : bytes_at new q (length b) ≡ b
  pub before : (x n : ℕ) → x + n ≤ q → Agrees bytes new x n
  pub behind : (x n : ℕ) → q + length b ≤ x → Agrees bytes new x n

module _ (bytes : List ℕ) (q : ℕ) (b : List ℕ) (room : q + length b ≤ length bytes) where
  front : length (take q bytes) ≡ q
  front = length-take-le q bytes (omega arith)

  at_edit : drop q (edit bytes q b) ≡ b ++ drop (q + length b) bytes
  at_edit = drop_at (take q bytes) (b ++ drop (q + length b) bytes) q front

  edit_before : (x n : ℕ) → x + n ≤ q → bytes_at (edit bytes q b) x n ≡ bytes_at bytes x n
  unfolding bytes_at
  edit_before x n h =
      let k : ℕ = q - x in let sum : x + k ≡ q = omega arith in
      let part : drop x (take q bytes) ≡ take k (drop x bytes) = subst (λ m. drop x (take m bytes) ≡ take k (drop x bytes)) sum (drop-take x k bytes) in
      let long : n ≤ length (drop x (take q bytes)) = omega (arith, length-drop x (take q bytes), front) in
      ap (take n) (drop-append-le x (take q bytes) (b ++ drop (q + length b) bytes) (omega (arith, front)))
      ∙ take-append-le n (drop x (take q bytes)) (b ++ drop (q + length b) bytes) long
      ∙ ap (take n) part ∙ take-take n k (drop x bytes) (omega arith)

  edit_behind : (x n : ℕ) → q + length b ≤ x → bytes_at (edit bytes q b) x n ≡ bytes_at bytes x n
  unfolding bytes_at
  edit_behind x n h =
      let j : ℕ = x - (q + length b) in let sum : (q + length b) + j ≡ x = omega arith in
      let tail : drop (q + length b) (edit bytes q b) ≡ drop (q + length b) bytes =
      sym (drop-drop (length b) q (edit bytes q b)) ∙ ap (drop (length b)) at_edit ∙ drop_at b (drop (q + length b) bytes) (length b) refl in
      let rest : drop ((q + length b) + j) (edit bytes q b) ≡ drop ((q + length b) + j) bytes =
      sym (drop-drop j (q + length b) (edit bytes q b)) ∙ ap (drop j) tail ∙ drop-drop j (q + length b) bytes in
      ap (take n) (rw sum at rest)

  edit_here : bytes_at (edit bytes q b) q (length b) ≡ b
  unfolding bytes_at
  edit_here = ap (take (length b)) at_edit ∙ take_at b (drop (q + length b) bytes) (length b) refl

  pub edit_edits : Edits bytes (edit bytes q b) q b
  edit_edits = record {
    whole = omega (arith, length-append (take q bytes) (b ++ drop (q + length b) bytes), length-append b (drop (q + length b) bytes), length-drop (q + length b) bytes, front);
    here = edit_here;
    before = λ x n h. record { same = edit_before x n h };
    behind = λ x n h. record { same = edit_behind x n h };
  }

-- the bytes at a place, cut in two
pub bytes_split : (bytes : List ℕ) (p m n : ℕ) → bytes_at bytes p (m + n) ≡ bytes_at bytes p m ++ bytes_at bytes (p + m) n
unfolding bytes_at
bytes_split bytes p m n =
    sym (take-append-drop m (take (m + n) (drop p bytes)))
    ∙ ap₂ (λ a c. a ++ c) (take-take m (m + n) (drop p bytes) (omega arith)) (drop-take m n (drop p bytes) ∙ ap (take n) (drop-drop m p bytes))

pub bytes_rest : (bytes : List ℕ) (p m n : ℕ) → drop m (bytes_at bytes p (m + n)) ≡ bytes_at bytes (p + m) n
unfolding bytes_at
bytes_rest bytes p m n = drop-take m n (drop p bytes) ∙ ap (take n) (drop-drop m p bytes)

pub first_of : (bytes : List ℕ) (p n : ℕ) → 1 ≤ n → slice_index (bytes_at bytes p n) 0 ≡ slice_index bytes p
unfolding bytes_at
first_of bytes p n some = get_or-take n (drop p bytes) 0 0 (omega arith) ∙ get_or-drop p bytes 0 0 ∙ ap (λ i. slice_index bytes i) (add-zero p)

pub bytes_long : (bytes : List ℕ) (p n : ℕ) → p + n ≤ length bytes → length (bytes_at bytes p n) ≡ n
unfolding bytes_at
bytes_long bytes p n h = length-take-le n (drop p bytes) (omega (arith, length-drop p bytes))
