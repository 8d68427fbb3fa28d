-- Values that are copied: their bytes one behind another, and the region of all.
use Rattle.std.proofs.Common.{◌≡◌, ℕ, suc, ◌+◌, ◌*◌, ◌<◌, ◌≤◌, ◌^◌, List, [], ◌∷◌, ◌++◌, length, take, drop, replicate, get_or, min, ◌/◌, refl, sym, ap, subst, ◌∙◌, append_assoc, length-append, arith, Bool, true, false, inl, inr, Option, Some, None, Result, Ok, Err, IfOk, IfErr, OnOk, IsOk}
use Rattle.std.specs.Prelude.{IfSome, IsSomeAnd, IsErrOf}
use Rattle.std.proofs.lemmas.List.{append-nil, take-append-drop, length-replicate}
use Rattle.std.proofs.lemmas.Bool.{cases_lt}
use Rattle.std.proofs.lemmas.Slice.{take-put_mid}
use Rattle.std.proofs.Math.Seq.{take-suc, take-add}
use borrow.Rule.Slice.PartMut.{put_mid}
use Rattle.std.proofs.Math.Nat.{suc-mul, mul_assoc, mul-le-mul_right, add-mul, div-mul-le_self, le-div_iff_mul-le}
use Rattle.archive_check.specs.Shape.{Shape, run}
use Rattle.archive_check.specs.Layout.{Layout, up, size_of, align_of}
use Rattle.archive_check.specs.Definitions.{Definitions, HasLayout, IsAlign}
use Rattle.archive_check.specs.Tour.{region_at}
use Rattle.archive_check.specs.Value.{Value, Values, list}
use Rattle.archive_check.specs.Reads.{reads_none}
use Rattle.archive_check.specs.CleanRegions.{clean_none}
use Rattle.archive_check.specs.WriterState.{WriterState, KeepsKeys}
use Rattle.archive_types.specs.Writing.{Puts}
use Rattle.archive_types.specs.Members.Arrays.{ResolvesRun}
use Rattle.archive_types.specs.Plans.{cursor, SerializedRegion}
use Rattle.archive_types.specs.Members.PlannedOwners.{run_plan}
use Rattle.archive_types.specs.Runs.{each_keys, each_meaning, SerializedRun, serialized_run, PutsRun, HindersRunAt}
use Rattle.archive_types.specs.Copies.{each_bytes, IsCopied, EachCopied, OwnsNothing, EachOwnsNothing, AreCopied, copies_from, copies_to, behind_zeros, IsWriteRefused, IsCopyRefused, AreCopiesRefused, TakesCopy}
use Rattle.archive_check.specs.declared.format.error.Error.{Error}
use Rattle.archive_check.specs.declared.format.error.Error.TheVariants.{OutOfMemory, PositionTooLarge, LengthTooLarge, LayoutTooLarge}
use Rattle.archive_check.specs.Denotes.{Naming}
use Rattle.archive_write.specs.Written.{GoesOn, ExplainsRefusal, padding}
use Rattle.archive_types.specs.Causes.{Explains, no_memory, no_room, device_failed, own_cause, of_layout, end_hinders, IsRegionRefused}
use Rattle.archive_types.proofs.Writing.Appending.{size_is, align_is}
use Rattle.archive_types.proofs.Writing.Arrays.{resolves_none, resolves_element}
use Rattle.archive_write.proofs.Padding.{padded, pads_by}
use Rattle.archive_types.proofs.Planning.Causes.{goes_nowhere, goes_both, explains_later, explains_sooner, explains_write}
use Rattle.archive_types.proofs.Planning.Runs.{serialized_none, serialized_element}
use Rattle.archive_types.proofs.Writing.RunRegions.{in_last, puts_element, serialized_elements}

-- what owns nothing is serialized one after another as it is
module _ {A : Type 0} (D : Definitions) (X : Shape) (k : A → List Naming) (m : A → Value) where
  pub each_owns_nothing : ((x : A) → OwnsNothing D X (k x) (m x)) → (xs : List A) → EachOwnsNothing D X k m xs
  each_owns_nothing h [] = tt
  each_owns_nothing h (x ∷ xs) = (h x, each_owns_nothing h xs)

  pub serialized_as_each_is : (xs : List A) → EachOwnsNothing D X k m xs → (w : WriterState) → SerializedRun D X (length xs) (each_keys k xs) (each_meaning m xs) (each_meaning m xs) w w
  serialized_as_each_is [] h w = serialized_none D X w
  serialized_as_each_is (x ∷ xs) h w =
      serialized_element D X (length xs) (k x) (each_keys k xs) (m x) (each_meaning m xs) (m x) (each_meaning m xs) w w w (h.0 w) (serialized_as_each_is xs h.1 w)

  pub serialized_as_they_are : ((x : A) → OwnsNothing D X (k x) (m x)) → (xs : List A) (w : WriterState) → SerializedRun D X (length xs) (each_keys k xs) (each_meaning m xs) (each_meaning m xs) w w
  serialized_as_they_are h xs w = serialized_as_each_is xs (each_owns_nothing h xs) w

-- the bytes of all, behind those from before, are the elements' region
pub copies_put : {A : Type 0} (D : Definitions) (X : Shape) (L : Layout) (m : A → Value) (b : A → List ℕ) → HasLayout D X L → (xs : List A) (old new : WriterState) → EachCopied D X L.size m b xs
    → new.bytes ≡ old.bytes ++ each_bytes b xs → new.states ≡ old.states → PutsRun D old new X L (length xs) (each_meaning m xs)
copies_put D X L m b layout [] old new each grown states = record { layout = layout; added = []; grown = grown; sized = omega arith; reads = λ s bytes k stands. reads_none; clean = λ s bytes k stands. clean_none; states = states }
copies_put D X L m b layout (x ∷ xs) old new each grown states =
    let mid : WriterState = record old { bytes = old.bytes ++ b x } in
    let first : Puts D old mid X L (m x) = record { layout = layout; added = b x; grown = refl; sized = each.0.sized; resolved = each.0.resolved (length old.bytes); states = refl } in
    puts_element D old mid new X L (length xs) (m x) (each_meaning m xs) first
    (copies_put D X L m b layout xs mid new each.1 (grown ∙ sym (append_assoc old.bytes (b x) (each_bytes b xs))) states)

-- and they are read as all, wherever they stand
pub copies_resolved : {A : Type 0} (D : Definitions) (X : Shape) (L : Layout) (m : A → Value) (b : A → List ℕ) → HasLayout D X L → (xs : List A) → EachCopied D X L.size m b xs → (p : ℕ)
    → ResolvesRun D p (each_bytes b xs) (length xs) X (each_meaning m xs)
copies_resolved D X L m b layout [] each p = resolves_none D p X
copies_resolved D X L m b layout (x ∷ xs) each p =
    resolves_element D X L layout p (p + L.size) (b x) (each_bytes b xs) (length xs) (m x) (each_meaning m xs) (each.0.resolved p) each.0.sized refl
    (copies_resolved D X L m b layout xs each.1 (p + L.size))

-- A loop that writes pieces: the bytes told and those of the values that are left are all.
pub record Copies {A : Type 0} (D : Definitions) (X : Shape) (size : ℕ) (m : A → Value) (b : A → List ℕ) (first now : WriterState) (all rest : List A) : Type 0 where
  pub goes : GoesOn first now
  pub states : KeepsKeys first.states now.states
  pub bytes : now.bytes ++ each_bytes b rest ≡ first.bytes ++ each_bytes b all
  pub read : EachCopied D X size m b rest → EachCopied D X size m b all
  pub ends : length now.bytes + length rest * size ≡ length first.bytes + length all * size

pub cut_at : {A : Type 0} (n : ℕ) (xs front back : List A) → front ≡ take n xs → back ≡ drop n xs → xs ≡ front ++ back
cut_at n xs front back e f = sym (take-append-drop n xs) ∙ (λ j. sym e j ++ sym f j)

each_bytes_both : {A : Type 0} (b : A → List ℕ) (xs ys : List A) → each_bytes b (xs ++ ys) ≡ each_bytes b xs ++ each_bytes b ys
each_bytes_both b [] ys = refl
each_bytes_both b (x ∷ xs) ys = ap (λ z. b x ++ z) (each_bytes_both b xs ys) ∙ sym (append_assoc (b x) (each_bytes b xs) (each_bytes b ys))

module _ {A : Type 0} (D : Definitions) (X : Shape) (size : ℕ) (m : A → Value) (b : A → List ℕ) where
  copied_both : (xs ys : List A) → EachCopied D X size m b xs → EachCopied D X size m b ys → EachCopied D X size m b (xs ++ ys)
  copied_both [] ys h k = k
  copied_both (x ∷ xs) ys h k = (h.0, copied_both xs ys h.1 k)

  copied_length : (xs : List A) → EachCopied D X size m b xs → length (each_bytes b xs) ≡ length xs * size
  copied_length [] h = omega arith
  copied_length (x ∷ xs) h = omega (arith, length-append (b x) (each_bytes b xs), h.0.sized, copied_length xs h.1, suc-mul (length xs) size)

  module _ (first now : WriterState) (all : List A) where
    pub copies_start : (w : WriterState) → w ≡ first → Copies D X size m b first w all all
    copies_start w e = rw e (record { goes = goes_nowhere first; states = λ k. refl; bytes = refl; read = λ h. h; ends = refl })

    pub copies_step : (next : WriterState) (rest piece later : List A) → rest ≡ piece ++ later → Copies D X size m b first now all rest → EachCopied D X size m b piece
        → next.bytes ≡ now.bytes ++ each_bytes b piece → GoesOn now next → KeepsKeys now.states next.states → Copies D X size m b first next all later
    copies_step next rest piece later cut h read grown g keys =
        let c : Copies D X size m b first now all (piece ++ later) = rw cut at h in
        let longer : length next.bytes ≡ length now.bytes + length piece * size = ap length grown ∙ length-append now.bytes (each_bytes b piece) ∙ ap (λ z. length now.bytes + z) (copied_length piece read) in
        let many : (length piece + length later) * size ≡ length piece * size + length later * size = add-mul (length piece) (length later) size in
        record {
          goes = goes_both first now next c.goes g;
          states = λ k. keys k ∙ c.states k;
          bytes = ap (λ z. z ++ each_bytes b later) grown ∙ append_assoc now.bytes (each_bytes b piece) (each_bytes b later) ∙ ap (λ z. now.bytes ++ z) (sym (each_bytes_both b piece later)) ∙ c.bytes;
          read = λ k. c.read (copied_both piece later read k);
          ends = omega (arith, c.ends, longer, many, ap (λ z. z * size) (length-append piece later));
        }

    -- a piece is refused
    pub copies_broken : (new : WriterState) (rest piece later : List A) (start bytes position : ℕ) (e : Error) → rest ≡ piece ++ later → start ≡ length first.bytes → bytes ≡ size
        → Copies D X size m b first now all rest → GoesOn now new → position ≡ length now.bytes
        → ExplainsRefusal (length piece * size) position (length new.bytes) now.room now.failures new.failures e → IsWriteRefused (start + length all * bytes) first new e
    copies_broken new rest piece later start bytes position e cut begin same h g here refused =
        let end : ℕ = start + length all * bytes in
        let whole : end ≡ length first.bytes + length all * size = λ i. begin i + length all * same i in
        let c : Copies D X size m b first now all (piece ++ later) = rw cut at h in
        let many : (length piece + length later) * size ≡ length piece * size + length later * size = add-mul (length piece) (length later) size in
        explains_later (λ x. ⊥) (λ x. ⊥) (λ n. n ≤ end) _ first now new e c.goes g (λ x. x) (λ n x. x)
        (explains_write (λ x. ⊥) (λ n. n ≤ end) (length piece * size) position now new e here
        (omega (arith, here, whole, c.ends, many, ap (λ z. z * size) (length-append piece later))) g refused)

    -- none is left
    pub copies_written : (rest : List A) → length rest ≡ 0 → Copies D X size m b first now all rest → now.bytes ≡ first.bytes ++ each_bytes b all
    copies_written [] e h = sym (append-nil now.bytes) ∙ h.bytes
    copies_written (x ∷ xs) e h = absurd (omega (arith, e))

    pub copies_read : (rest : List A) → length rest ≡ 0 → Copies D X size m b first now all rest → EachCopied D X size m b all
    copies_read [] e h = h.read tt
    copies_read (x ∷ xs) e h = absurd (omega (arith, e))

-- A loop that writes blocks: the bytes told are the old ones, and those of so many values.
pub record FirstCopied {A : Type 0} (D : Definitions) (X : Shape) (size : ℕ) (m : A → Value) (b : A → List ℕ) (first now : WriterState) (all : List A) (n : ℕ) : Type 0 where
  pub goes : GoesOn first now
  pub states : KeepsKeys first.states now.states
  pub bytes : now.bytes ≡ first.bytes ++ each_bytes b (take n all)
  pub read : EachCopied D X size m b (take n all)

module _ {A : Type 0} (D : Definitions) (X : Shape) (size : ℕ) (m : A → Value) (b : A → List ℕ) (first now : WriterState) (all : List A) where
  pub first_more : (next : WriterState) (n k : ℕ) (piece : List A) → piece ≡ take k (drop n all) → FirstCopied D X size m b first now all n → EachCopied D X size m b piece
      → next.bytes ≡ now.bytes ++ each_bytes b piece → GoesOn now next → KeepsKeys now.states next.states → FirstCopied D X size m b first next all (n + k)
  first_more next n k piece is h read grown g keys =
      let both : take (n + k) all ≡ take n all ++ piece = take-add n k all ∙ ap (λ z. take n all ++ z) (sym is) in
      record {
        goes = goes_both first now next h.goes g;
        states = λ j. keys j ∙ h.states j;
        bytes = grown ∙ ap (λ z. z ++ each_bytes b piece) h.bytes ∙ append_assoc first.bytes (each_bytes b (take n all)) (each_bytes b piece)
            ∙ ap (λ z. first.bytes ++ z) (sym (each_bytes_both b (take n all) piece) ∙ ap (each_bytes b) (sym both));
        read = subst (λ z. EachCopied D X size m b z) (sym both) (copied_both D X size m b (take n all) piece h.read read);
      }

  -- and the others are left
  pub left_behind : (n bytes : ℕ) (rest : List A) → rest ≡ drop n all → bytes ≡ size → EachCopied D X size m b (take n all) → now.bytes ≡ first.bytes ++ each_bytes b (take n all)
      → GoesOn first now → KeepsKeys first.states now.states → Copies D X bytes m b first now all rest
  left_behind n bytes rest is same read grown g keys = subst (λ k. Copies D X k m b first now all rest) (sym same)
      (copies_step D X size m b first first all now all (take n all) rest (cut_at n all _ _ refl is) (copies_start D X size m b first first all first refl) read grown g keys)

module _ {A R : Type 0} (D : Definitions) (X : Shape) (size : ℕ) (m : A → Value) (b : A → List ℕ) (first now new : WriterState) (all rest : List A) (h : Copies D X size m b first now all rest) where
  pub left_written : (r : Result R Error) → OnOk r (new.bytes ≡ now.bytes ++ each_bytes b rest) → OnOk r (new.bytes ≡ first.bytes ++ each_bytes b all)
  left_written (Ok u) k = k ∙ h.bytes
  left_written (Err e) k = tt

  pub left_read : (r : Result R Error) → OnOk r (EachCopied D X size m b rest) → OnOk r (EachCopied D X size m b all)
  left_read (Ok u) k = h.read k
  left_read (Err e) k = tt

  pub left_unwritten : (r : Result R Error) (start here : ℕ) → start ≡ length first.bytes → here ≡ length now.bytes → GoesOn now new
      → IfErr r (IsWriteRefused (here + length rest * size) now new) → IfErr r (IsWriteRefused (start + length all * size) first new)
  left_unwritten (Ok u) start here begin at g k = tt
  left_unwritten (Err e) start here begin at g k = explains_later _ _ _ _ first now new e h.goes g (λ y. y) (λ n y. omega (arith, y, begin, at, h.ends)) k

-- a loop that copies values: a step at index i

next_begin : (i size : ℕ) → (i + 1) * size ≡ i * size + size
next_begin i size = omega (arith, add-mul i 1 size)

module _ {A : Type 0} (b : A → List ℕ) (all : List A) (i : ℕ) (x : A) (less : i < length all) (is : x ≡ get_or all i x) where
  one_more : take (i + 1) all ≡ take i all ++ x ∷ []
  one_more = (let next : i + 1 ≡ suc i = omega arith in ap (λ n. take n all) next) ∙ take-suc all i x less ∙ ap (λ y. take i all ++ y ∷ []) (sym is)

  pub copied_step : (size n k : ℕ) (old piece : List ℕ) → length old ≡ length all * size → n ≡ size → length (b x) ≡ size → piece ≡ b x → take (i * n) old ≡ each_bytes b (take i all)
      → take ((i + 1) * n) (put_mid (i * n) k old piece) ≡ each_bytes b (take (i + 1) all)
  copied_step size n k old piece sized same few e h =
      let there : (i + 1) * n ≤ length all * n = mul-le-mul_right n (omega (arith, less)) in
      let whole : length old ≡ length all * n = sized ∙ ap (λ z. length all * z) (sym same) in
      take-put_mid (i * n) k old piece ((i + 1) * n) (omega (arith, next_begin i n, same, few, ap length e)) (omega (arith, there, whole, next_begin i n))
      ∙ (λ j. h j ++ e j) ∙ ap (λ z. each_bytes b (take i all) ++ z) (sym (append-nil (b x)))
      ∙ sym (each_bytes_both b (take i all) (x ∷ [])) ∙ ap (each_bytes b) (sym one_more)

  pub read_step : (D : Definitions) (X : Shape) (size : ℕ) (m : A → Value) → IsCopied D X size (m x) (b x) → EachCopied D X size m b (take i all) → EachCopied D X size m b (take (i + 1) all)
  read_step D X size m h each = subst (λ z. EachCopied D X size m b z) (sym one_more) (copied_both D X size m b (take i all) (x ∷ []) each (h, tt))

-- as many as fit a piece do, and some do
module _ (room n count size together : ℕ) (some : 0 < size) (joined : 0 < together) where
  whole_pos : 0 < together * size
  whole_pos = (let one : 1 * size ≤ together * size = mul-le-mul_right size (omega (arith, joined)) in omega (arith, one, some))

  pub fits_piece : n ≡ min count (room / (together * size) * together) → n * size ≤ room
  fits_piece e =
      let le : n * size ≤ room / (together * size) * together * size = mul-le-mul_right size (omega (arith, e)) in
      let same : room / (together * size) * together * size ≡ room / (together * size) * (together * size) = mul_assoc (room / (together * size)) together size in
      omega (arith, le, same, div-mul-le_self room (together * size))

  pub some_fit : together * size ≤ room → 0 < count → n ≡ min count (room / (together * size) * together) → 0 < n
  some_fit small more e =
      let one : 1 ≤ room / (together * size) = (le-div_iff_mul-le {k = together * size} {x = 1} {y = room} whole_pos).1 (omega (arith, small)) in
      let many : 1 * together ≤ room / (together * size) * together = mul-le-mul_right together one in
      omega (arith, e, many, joined, more)

-- so many don't fit where they are said not to
pub copies_too_large : (old new : WriterState) (p n size : ℕ) (fits : Bool) → (p + n * size < 2 ^ 64 → fits ≡ true) → fits ≡ false → IsCopyRefused (p + n * size) old new LayoutTooLarge
copies_too_large old new p n size fits h not_so = elim (cases_lt (p + n * size) (2 ^ 64)) [
  | inl less ↦ (let yes = h less in cc)
  | inr more ↦ own_cause (refl, more)
]

pub unwritten_refused : (end : ℕ) (old new : WriterState) (e : Error) → IsWriteRefused end old new e → IsCopyRefused end old new e
unwritten_refused end old new e h = explains_sooner (λ x. ⊥) _ (λ n. n ≤ end) _ old new e (λ x. absurd x) (λ n x. x) h

-- the same of a region that stands where the writer does
pub copy_unresolved : (D : Definitions) (X : Shape) (L : Layout) (n : ℕ) (flats : Values) (old new : WriterState) (p size : ℕ) (e : Error) → p ≡ length old.bytes → size ≡ L.size
    → IsCopyRefused (p + n * size) old new e → Explains (HindersRunAt D X L n flats (length old.bytes)) (λ m. m ≤ length old.bytes + n * L.size) old new e
copy_unresolved D X L n flats old new p size e here same h =
    let whole : p + n * size ≡ length old.bytes + n * L.size = λ i. here i + n * same i in
    explains_sooner _ _ _ _ old new e (λ x. inl (x.0, omega (arith, x.1, whole))) (λ m x. omega (arith, x, whole)) h

-- the zeros in front of it are written
pub copy_refused_later : (L : Layout) (n : ℕ) (old mid new : WriterState) (p q size : ℕ) (e : Error) → p ≡ length old.bytes → q ≡ length mid.bytes → size ≡ L.size
    → mid.bytes ≡ old.bytes ++ replicate (padding L.align p) 0 → GoesOn old mid → GoesOn mid new → IsCopyRefused (q + n * size) mid new e → IsCopyRefused (copies_to L n p) old new e
copy_refused_later L n old mid new p q size e here there same grown g k h =
    let zeros : length mid.bytes ≡ length old.bytes + padding L.align p = ap length grown ∙ length-append old.bytes (replicate {A = ℕ} (padding L.align p) 0)
    ∙ ap (λ z. length old.bytes + z) (length-replicate {A = ℕ} (padding L.align p) 0) in
    let whole : q + n * size ≡ copies_to L n p = (λ i. there i + n * same i) ∙ omega (arith, zeros, here) in
    explains_later _ _ _ _ old mid new e g k (λ x. (x.0, omega (arith, x.1, whole))) (λ m x. omega (arith, x, whole)) h

-- or they aren't
pub copy_not_padded : (L : Layout) (n : ℕ) (old new : WriterState) (p : ℕ) (e : Error) → p ≡ length old.bytes → GoesOn old new → ExplainsRefusal (padding L.align p) p (length new.bytes) old.room old.failures new.failures e
    → IsCopyRefused (copies_to L n p) old new e
copy_not_padded L n old new p e here g h = explains_write _ (λ m. m ≤ copies_to L n p) (padding L.align p) p old new e here (omega arith) g h

-- behind the old bytes stand the zeros and what is copied
pub behind_written : (r : Result ℕ Error) (L : Layout) (p : ℕ) (old mid new bytes : List ℕ) → p ≡ length old → mid ≡ old ++ replicate (padding L.align p) 0 → OnOk r (new ≡ mid ++ bytes)
    → OnOk r (new ≡ behind_zeros L old bytes)
behind_written (Ok t) L p old mid new bytes here padded grown = grown ∙ ap (λ z. z ++ bytes) padded ∙ ap (λ n. (old ++ replicate (padding L.align n) 0) ++ bytes) here
behind_written (Err e) L p old mid new bytes here padded grown = tt

pub begins_behind : (r : Result ℕ Error) (L : Layout) (p q : ℕ) (old mid : List ℕ) → p ≡ length old → q ≡ length mid → mid ≡ old ++ replicate (padding L.align p) 0 → IfOk r (λ t. t ≡ q)
    → IfOk r (λ t. t ≡ copies_from L p)
begins_behind (Ok t) L p q old mid here there padded at = at ∙ there ∙ ap length padded ∙ length-append old (replicate {A = ℕ} (padding L.align p) 0)
    ∙ (λ i. sym here i + length-replicate {A = ℕ} (padding L.align p) 0 i)
begins_behind (Err e) L p q old mid here there padded at = tt

pub copies_put_if : {A : Type 0} (r : Result ℕ Error) (D : Definitions) (X : Shape) (L : Layout) (size : ℕ) (m : A → Value) (b : A → List ℕ) (xs : List A) (old new : WriterState) → HasLayout D X L → size ≡ L.size
    → OnOk r (EachCopied D X size m b xs) → OnOk r (new.bytes ≡ old.bytes ++ each_bytes b xs) → KeepsKeys old.states new.states → OnOk r (PutsRun D old new X L (length xs) (each_meaning m xs))
copies_put_if (Ok t) D X L size m b xs old new layout same each grown keys = copies_put D X L m b layout xs old new (rw same at each) grown (λ i k. keys k i)
copies_put_if (Err e) D X L size m b xs old new layout same each grown keys = tt

-- What was copied is a region.
module _ {A : Type 0} (D : Definitions) (X : Shape) (L : Layout) (k : A → List Naming) (m : A → Value) (xs : List A) (old new : WriterState) where
  pub are_copied : (b : A → List ℕ) (size : ℕ) → HasLayout D X L → ((x : A) → OwnsNothing D X (k x) (m x)) → size ≡ L.size → EachCopied D X size m b xs → new.bytes ≡ behind_zeros L old.bytes (each_bytes b xs)
      → KeepsKeys old.states new.states → AreCopied D X L k m xs old new
  are_copied b size layout own same each grown states =
      let all : EachCopied D X L.size m b xs = rw same at each in
      record {
        own_nothing = each_owns_nothing D X k m own xs;
        bytes = each_bytes b xs;
        sized = copied_length D X L.size m b xs all;
        resolved = copies_resolved D X L m b layout xs all;
        grown = grown;
        states = states;
      }

  abbrev zeros_behind : WriterState
  zeros_behind = record old { bytes = old.bytes ++ replicate (padding L.align (length old.bytes)) 0 }

  pub copied_stored : (t : ℕ) → HasLayout D X L → IsAlign L.align → t ≡ copies_from L (length old.bytes) → AreCopied D X L k m xs old new
      → SerializedRegion D (run X) (length xs) (each_keys k xs) (list (each_meaning m xs)) t old new
  copied_stored t layout is at h = serialized_elements D X (length xs) (each_keys k xs) (each_meaning m xs) (each_meaning m xs) L t old old zeros_behind new
      (serialized_as_each_is D X k m xs h.own_nothing old) (pads_by L.align (length old.bytes) old zeros_behind is refl refl (λ key. refl))
      (record {
        layout = layout;
        added = h.bytes;
        grown = h.grown;
        sized = h.sized;
        reads = (h.resolved (length zeros_behind.bytes)).reads;
        clean = (h.resolved (length zeros_behind.bytes)).clean;
        states = λ i key. h.states key i;
      })
      (at ∙ sym (length-append old.bytes (replicate {A = ℕ} (padding L.align (length old.bytes)) 0) ∙ ap (λ z. length old.bytes + z) (length-replicate {A = ℕ} (padding L.align (length old.bytes)) 0)))

  -- and of what wasn't
  pub copied_unstored : (e : Error) → HasLayout D X L → IsAlign L.align → EachOwnsNothing D X k m xs → IsCopyRefused (copies_to L (length xs) (length old.bytes)) old new e
      → IsRegionRefused D (run X) (length xs) (each_keys k xs) (list (each_meaning m xs)) old new e
  copied_unstored e layout is own h = by_plan (serialized_as_each_is D X k m xs own old)
    where
      by_plan : SerializedRun D X (length xs) (each_keys k xs) (each_meaning m xs) (each_meaning m xs) old old → IsRegionRefused D (run X) (length xs) (each_keys k xs) (list (each_meaning m xs)) old new e
      by_plan (serialized_run writes planned) = explains_sooner _ _ _ _ old new e
          (λ x. record {
            named = rw (x.0) of_layout;
            cause = λ below s names l n. (
                let q = planned below s names l n in
                let t : ℕ = up q.stop.position (align_of s.layouts X) in
                let here : copies_from L (length old.bytes) ≡ t = padded (length old.bytes) L.align is ∙ ap (λ p. up p L.align) q.such.1.position ∙ ap (up q.stop.position) (sym (align_is layout s l)) in
                let size : length xs * size_of s.layouts X ≡ length xs * L.size = ap (λ z. length xs * z) (size_is layout s l) in
                let ends : 2 ^ 64 ≤ t + length xs * size_of s.layouts X = omega (arith, here, x.1, size) in
                run_plan D X (length xs) (each_keys k xs) (each_meaning m xs) s names (cursor old) _ _ q t refl
                (_, in_last q.steps _, rw (x.0) (end_hinders {r = region_at s t (run X) (length xs) false} ends)));
          })
          (λ p x below s names l n. (
          let q = planned below s names l n in
          let t : ℕ = up q.stop.position (align_of s.layouts X) in
          let here : copies_from L (length old.bytes) ≡ t = padded (length old.bytes) L.align is ∙ ap (λ p. up p L.align) q.such.1.position ∙ ap (up q.stop.position) (sym (align_is layout s l)) in
          let size : length xs * size_of s.layouts X ≡ length xs * L.size = ap (λ z. length xs * z) (size_is layout s l) in
          run_plan D X (length xs) (each_keys k xs) (each_meaning m xs) s names (cursor old) _ _ q t refl (omega (arith, here, x, size)))) h

-- nothing refuses it

has_room : (r : Option ℕ) (n end cap top : ℕ) → IfSome r (λ room. end ≤ n + room) → IsSomeAnd r (λ room. (cap ≡ n + room) × (cap < top)) → top ≤ end → ⊥
has_room None n end cap top h k le = k
has_room (Some room) n end cap top h k le = omega (arith, h, k.0, k.1, le)

copy_not_refused : {B : Type 0} (takes : Type 0) (end : ℕ) (old new : WriterState) (e : Error) → TakesCopy takes end old new → GoesOn old new
    → (IsErrOf {T = B} {E = Error} (Err e) OutOfMemory → takes) → IsCopyRefused end old new e → ⊥
copy_not_refused takes end old new e t g memory no_memory = t.memory (memory refl)
copy_not_refused takes end old new e t g memory (no_room h) = has_room old.room (length old.bytes) end _ _ t.room h.full h.planned
copy_not_refused takes end old new e t g memory (device_failed (inl h)) = omega (arith, h, t.device)
copy_not_refused takes end old new e t g memory (device_failed (inr h)) = omega (arith, h, t.device, g.device)
copy_not_refused takes end old new e t g memory (own_cause h) = omega (arith, h.1, t.fits)

pub copy_succeeds : {A : Type 0} (r : Result A Error) (takes : Type 0) (end : ℕ) (old new : WriterState) → GoesOn old new → (IsErrOf r OutOfMemory → takes) → IfErr r (IsCopyRefused end old new)
    → TakesCopy takes end old new → IsOk r
copy_succeeds (Ok a) takes end old new g memory refused t = refl
copy_succeeds {A = A} (Err e) takes end old new g memory refused t = absurd (copy_not_refused {B = A} takes end old new e t g memory refused)

pub copy_fails : {A B : Type 0} (r : Result A Error) (d : Error) (takes : Type 0) (end : ℕ) (old new : WriterState) → GoesOn old new → (IsErrOf {T = B} {E = Error} (Err d) OutOfMemory → takes)
    → IsCopyRefused end old new d → TakesCopy takes end old new → IsOk r
copy_fails {A = A} {B = B} r d takes end old new g memory refused t = absurd (copy_not_refused {B = B} takes end old new d t g memory refused)

-- as a vector's elements

pub copies_refused : (L : Layout) (n p : ℕ) (old new : WriterState) (e : Error) → IsCopyRefused (copies_to L n p) old new e → AreCopiesRefused L n p old new e
copies_refused L n p old new e h = explains_sooner _ _ _ _ old new e (λ x. inr (inr x)) (λ m x. x) h

pub long_copies_refused : (L : Layout) (n p : ℕ) (old new : WriterState) → 4294967295 < n → AreCopiesRefused L n p old new LengthTooLarge
long_copies_refused L n p old new long = own_cause (inl (refl, long))

pub far_copies_refused : (L : Layout) (n p : ℕ) (old new : WriterState) → 4294967295 < copies_from L p → AreCopiesRefused L n p old new PositionTooLarge
far_copies_refused L n p old new far = own_cause (inr (inl (refl, far)))
