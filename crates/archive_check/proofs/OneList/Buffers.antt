-- Two tight and clean buffers that say the same are equal, byte by byte.
use Rattle.std.proofs.Common.{◌≡◌, ◌≢◌, ℕ, ◌+◌, ◌<◌, ◌≤◌, List, [], ◌∷◌, ◌++◌, length, take, Bool, true, false, nat_eq, All, slice_index, arith, refl, sym, ap, ap₂, ◌∙◌, subst, get_or-take, ⊎_elim, Some, nat_cmp}
use Rattle.std.specs.FinMap.{get, get-empty}
use Rattle.std.proofs.lemmas.Bool.{cases_lt}
use Rattle.std.proofs.lemmas.Bool.Decides.{nat_tests}
use Rattle.std.proofs.lemmas.List.{ext_get_or}
use Rattle.std.proofs.lemmas.List.Elements.{All-nil, All-cons, All-append, All-contains}
use Rattle.archive_check.specs.Shape.{Shape, Pointee, one}
use Rattle.archive_check.specs.Layout.{up, size_of}
use Rattle.archive_check.specs.Value.{Value, pointers}
use Rattle.archive_check.specs.Reads.{SchemaTable, LaidOut}
use Rattle.archive_check.specs.Tour.{Region, root_region, pointee_size, pointee_align, Rising, contents_one, Entry, Accepted}
use Rattle.archive_check.specs.Leaves.{regions_of}
use Rattle.archive_check.specs.LittleEndian.{AreBytes}
use Rattle.archive_check.specs.Within.{PartOfSome}
use Rattle.archive_check.specs.Tightness.{after, Tight, Owned, owned_part, owned_text, Clean, TightFrom, CleanFrom}
use Rattle.archive_check.specs.Denotes.{Fills}
use Rattle.archive_check.proofs.Tours.UniqueBefore.{part_after}
use Rattle.archive_check.proofs.Viewing.Viewed.{lies_fits}
use Rattle.archive_check.proofs.Tours.Tightness.{positive_append, pointee_positive, tour_positive, tight_rises}
use Rattle.archive_check.proofs.OneList.Twins.{Renamed, Like, reads_like}
use Rattle.archive_check.proofs.OneList.Placed.{tours_placed}
use Rattle.archive_check.proofs.OneList.Tours.{Alike, KnownAlike, SameTours, tight_split, tight_next, tours_same}
use Rattle.archive_check.proofs.OneList.Readings.{part_of_alike, text_of_alike}
use Rattle.archive_check.proofs.OneList.OwnBytes.{byte_there, Trimmed, own_bytes}

-- each part of these regions fits the buffer
abbrev AllFit : SchemaTable → List ℕ → List Region → Type 0
AllFit s bytes C = (q : ℕ) (P : Pointee) (n : ℕ) → PartOfSome s bytes C q P n → q + pointee_size s P n ≤ length bytes

-- a part of a clean buffer is trimmed
trimmed : (s : SchemaTable) (bytes : List ℕ) (start : ℕ) (C : List Region) (q : ℕ) (Y : Shape) → Clean s bytes start C → start ≤ q → PartOfSome s bytes C q (one Y) 0 → Trimmed bytes q Y
trimmed s bytes start C q Y clean low h = record {
  strings = λ e out i least few. clean.strings q i low (subst (λ Z. PartOfSome s bytes C q (one Z) 0) e h) out least few;
  nulls = λ flavor P e null. clean.nulls q flavor P low (subst (λ Z. PartOfSome s bytes C q (one Z) 0) e h) null;
}

module _ (s : SchemaTable) (laid : LaidOut s) where
  -- what belongs to something in one buffer is the same byte in the other
  owned_same : (a b : List ℕ) (start : ℕ) (C : List Region) → AreBytes a → AreBytes b → All (Alike s a b) C → AllFit s a C → length a ≡ length b → All (λ r. start ≤ r.begin) C → Clean s a start C → Clean s b start C
      → (i : ℕ) → Owned s a C i → slice_index a i ≡ slice_index b i
  owned_same a b start C h k alike fit long above f g i (owned_part {q = q} {Y = Y} (r, c, w) low high) =
      let (both, there) = part_of_alike s a b w refl (All-contains (Alike s a b) C r alike c) in
      let fits : q + size_of s.layouts Y ≤ length a = fit q (one Y) 0 (r, c, w) in
      let behind : start ≤ q = omega (arith, All-contains (λ r. start ≤ r.begin) C r above c, part_after s a laid w) in
      own_bytes a b {s = s} h k both.left both.right both.same fits (omega (arith, fits, long)) (trimmed s a start C q Y f behind (r, c, w)) (trimmed s b start C q Y g behind (r, c, there)) i low high
  owned_same a b start C h k alike fit long above f g i (owned_text {r = r} c e low high) =
      byte_there a b r.begin r.length i low high (text_of_alike s a b r e (All-contains (Alike s a b) C r alike c))

  turned : (a b : List ℕ) (C : List Region) → All (Alike s a b) C → All (Alike s b a) C
  turned a b C h = λ k r below. let x = h k r below in record { value = x.other; other = x.value; left = x.right; right = x.left; same = sym x.same }

  -- and what belongs to nothing is 0 in both
  byte_same : (a b : List ℕ) (start : ℕ) (C : List Region) → AreBytes a → AreBytes b → All (Alike s a b) C → AllFit s a C → AllFit s b C → length a ≡ length b → All (λ r. start ≤ r.begin) C → Clean s a start C → Clean s b start C
      → (i : ℕ) → start ≤ i → i < length a → slice_index a i ≡ slice_index b i
  byte_same a b start C h k alike fit room long above f g i low high = by_test (nat_eq (slice_index a i) (slice_index b i)) refl
    where
      by_test : (t : Bool) → nat_eq (slice_index a i) (slice_index b i) ≡ t → slice_index a i ≡ slice_index b i
      by_test true e = grind (arith, nat_tests)
      by_test false e =
          let other : slice_index a i ≢ slice_index b i = grind (arith, nat_tests) in
          let left = f.padding i low high (λ o. other (owned_same a b start C h k alike fit long above f g i o)) in
          let right = g.padding i low (omega (arith, high, long)) (λ o. other (sym (owned_same b a start C k h (turned a b C alike) room (sym long) above g f i o))) in
          left ∙ sym right

-- a rising list stays above its start
rising_above : (low start : ℕ) (C : List Region) (stop : ℕ) → low ≤ start → Rising start C stop → All (λ r. low ≤ r.begin) C
rising_above low start [] stop le h = All-nil (λ r. low ≤ r.begin)
rising_above low start (r ∷ C) stop le h = All-cons (λ r. low ≤ r.begin) r C (omega arith) (rising_above low (r.begin + r.size) C stop (omega arith) (h.2))

module _ (s : SchemaTable) (laid : LaidOut s) (a b : List ℕ) (h : AreBytes a) (k : AreBytes b) where
  first_bytes : (start i : ℕ) → take start a ≡ take start b → i < start → slice_index a i ≡ slice_index b i
  first_bytes start i e less = sym (get_or-take start a i 0 less) ∙ ap (λ x. slice_index x i) e ∙ get_or-take start b i 0 less

  module _ (start root base : ℕ) (X : Shape) (x : Accepted s a root X) (y : Accepted s b base X) where
    above : TightFrom start x → All (λ r. start ≤ r.begin) (regions_of x)
    above t =
        let positive = positive_append x.regions (root_region s root X ∷ []) (tour_positive s laid x.tour) (pointee_positive s laid (one X), tt) in
        rising_above start start (regions_of x) (length a) (omega arith) (tight_rises start (regions_of x) (length a) positive t)

    -- where the roots lie at one position, and the tours are the same
    equal : take start a ≡ take start b → x.value ≡ y.value → root ≡ base → length a ≡ length b → SameTours s a b (pointers x.value) (pointers y.value) x.regions y.regions x.seen y.seen
        → TightFrom start x → CleanFrom start x → CleanFrom start y → a ≡ b
    equal e values here long tours t f g =
        let regions : regions_of x ≡ regions_of y = ap₂ (λ C q. C ++ root_region s q X ∷ []) tours.visited here in
        let top : Alike s a b (root_region s root X) = record { value = x.value; other = y.value; left = contents_one x.flat.reads; right = contents_one (rw here y.flat.reads); same = values } in
        let alike = All-append (Alike s a b) x.regions (root_region s root X ∷ []) tours.alike (All-cons (Alike s a b) (root_region s root X) [] top (All-nil (Alike s a b))) in
        let fit : AllFit s a (regions_of x) = λ q P n w. lies_fits s a laid (record { root = root; shape = X; accepted = x; part = w }) in
        let room : AllFit s b (regions_of y) = λ q P n w. lies_fits s b laid (record { root = base; shape = X; accepted = y; part = w }) in
        let each = byte_same s laid a b start (regions_of x) h k alike fit (subst (AllFit s b) (sym regions) room) long (above t) f (subst (Clean s b start) (sym regions) g) in
        ext_get_or 0 a b long (λ i low. ⊎_elim (λ less. first_bytes start i e less) (λ more. each i more low) (cases_lt i start))

    module _ (to : ℕ → ℕ) (known : KnownAlike s a b to x.seen y.seen) (apart : (t u : ℕ) (e f : Entry) → get x.seen t ≡ Some e → get x.seen u ≡ Some f → to t ≡ to u → t ≡ u) where
      -- so it is where what they say is filled alike but for names, and so are the shared values: these keep their names
      same : take start a ≡ take start b → (c o : ℕ) → Like s a b to x.value y.value → Tight start x.regions c → Tight start y.regions o → root ≡ up c (pointee_align s (one X)) → base ≡ up o (pointee_align s (one X))
          → length a ≡ after (root_region s root X) → length b ≡ after (root_region s base X) → TightFrom start x → CleanFrom start x → CleanFrom start y → a ≡ b
      same e c o like hc kc hb kb hd kd t l m =
          let placed = tours_placed s a b to x.seen y.seen known apart start c o (like.0) x.tour y.tour (record { left = hc; right = kc; related = λ t e h. get-empty {X = Entry} nat_cmp (to t) ∙ sym (get-empty {X = Entry} nat_cmp t); grows = λ t e h. h; spreads = λ t e h. h }) in
          let stays : (t : ℕ) (e : Entry) → get x.seen t ≡ Some e → to t ≡ t = λ t e h. ⊎_elim (λ none. let nothing = get-empty {X = Entry} nat_cmp t in cc) (λ k. k) (placed.kept t e h) in
          let tours = tours_same s a b to x.seen y.seen known stays start c o (like.0) x.tour y.tour hc kc (λ t e z. z) (λ t e z. z) in
          let level : c ≡ o = tight_next start x.regions c o hc (subst (λ L. Tight start L o) (sym tours.visited) kc) in
          let here : root ≡ base = hb ∙ ap (λ m. up m (pointee_align s (one X))) level ∙ sym kb in
          let long : length a ≡ length b = hd ∙ ap (λ q. after (root_region s q X)) here ∙ sym kd in
          equal e (like.1 tours.followed) here long tours t l m

      pub buffers_equal : {v w : Value} → take start a ≡ take start b → Fills s a x.value v → Fills s b y.value w → Renamed to v w → TightFrom start x → CleanFrom start x → TightFrom start y → CleanFrom start y → a ≡ b
      buffers_equal e f g renamed t l u m =
          let (c, hc, hb, hd) = tight_split start x.regions (root_region s root X) [] (length a) t in
          let (o, kc, kb, kd) = tight_split start y.regions (root_region s base X) [] (length b) u in
          same e c o (reads_like s a b to x.flat.reads y.flat.reads f g renamed) hc kc hb kb hd kd t l m
