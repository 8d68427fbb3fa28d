-- The regions of an archive that are come to through no key, and those of keys' texts. The first lie apart from one another and from the others, and lead
-- to one another; what keys lead to are the others.
use Rattle.std.proofs.Common.{◌≡◌, ◌⊎◌, inl, inr, ⊎_elim, ℕ, zero, suc, ◌+◌, ◌*◌, ◌<◌, ◌≤◌, List, [], ◌∷◌, ◌++◌, Option, Some, Bool, true, false, cond, Contains, All, refl, sym, ap, ◌∙◌, subst, arith, append_assoc}
use Rattle.std.proofs.lemmas.List.{append-nil}
use Rattle.std.proofs.lemmas.List.Elements.{All-nil, All-cons, Contains-append_cases}
use Rattle.archive_check.specs.Shape.{Key, Shape, key_shape, entry_of}
use Rattle.archive_check.specs.Layout.{up, size_of, align_of}
use Rattle.archive_check.specs.Value.{Pointer, Value, Values, product, list, no_value, value, pointers, all_pointers}
use Rattle.archive_check.specs.Reads.{SchemaTable, Reads, reads_parts, reads_no_part, reads_part, ReadsRun, reads_none, reads_element}
use Rattle.archive_check.specs.Keys.{order_of}
use Rattle.archive_check.specs.Tour.{Region, region_of, Rising, Seen, Tour, tour_end, tour_unique, tour_new, tour_again}
use Rattle.archive_check.proofs.Elements.{contains_cases}
use Rattle.archive_check.proofs.Tours.JoinedTours.{rising_le, rising_front, rising_back}
use Rattle.archive_check.proofs.Maps.Entries.{key_at, value_at}

-- Which of the pointers in a value are keys': of the entries of a map those in their first parts, else none. Where the marks end, none is.

abbrev pub each_marked : Bool → List Pointer → List Bool
each_marked mark [] = []
each_marked mark (p ∷ O) = mark ∷ each_marked mark O

abbrev pub entry_marks : Value → List Bool → List Bool
entry_marks (product (value k (value v no_value))) rest = each_marked true (pointers k) ++ (each_marked false (pointers v) ++ rest)
entry_marks _ rest = rest

abbrev pub marks_of_entries : Values → List Bool
marks_of_entries no_value = []
marks_of_entries (value v vs) = entry_marks v (marks_of_entries vs)

abbrev pub marks : Option Key → Value → List Bool
marks (Some K) (list vs) = marks_of_entries vs
marks _ _ = []

abbrev pub first_mark : List Bool → Bool
first_mark [] = false
first_mark (m ∷ M) = m

abbrev pub later_marks : List Bool → List Bool
later_marks [] = []
later_marks (m ∷ M) = M

-- marked pointers are so, and the others are so
abbrev pub AllMarked : (Pointer → Type 0) → (Pointer → Type 0) → List Bool → List Pointer → Type 0
AllMarked Q P M [] = Unit {0}
AllMarked Q P M (p ∷ O) = (first_mark M ≡ true → Q p) × (first_mark M ≡ false → P p) × AllMarked Q P (later_marks M) O

module _ (Q P : Pointer → Type 0) where
  keys_first : (O : List Pointer) (M : List Bool) (R : List Pointer) → AllMarked Q P (each_marked true O ++ M) (O ++ R) → All Q O × AllMarked Q P M R
  keys_first [] M R h = (All-nil Q, h)
  keys_first (p ∷ O) M R h = let r = keys_first O M R (h.2) in (All-cons Q p O (h.0 refl) (r.0), r.1)

  values_first : (O : List Pointer) (M : List Bool) (R : List Pointer) → AllMarked Q P (each_marked false O ++ M) (O ++ R) → All P O × AllMarked Q P M R
  values_first [] M R h = (All-nil P, h)
  values_first (p ∷ O) M R h = let r = values_first O M R (h.2) in (All-cons P p O (h.1 refl) (r.0), r.1)

  pub none_marked : (O : List Pointer) → AllMarked Q P [] O → All P O
  none_marked [] h = All-nil P
  none_marked (p ∷ O) h = All-cons P p O (h.1 refl) (none_marked O (h.2))

-- an entry at q: what its key says and what its value says, with what is so of the pointers in each
pub record EntryMarked (s : SchemaTable) (bytes : List ℕ) (Q P : Pointer → Type 0) (K : Key) (V : Shape) (q : ℕ) : Type 0 where
  pub key : Value
  pub value : Value
  pub key_reads : Reads s bytes q (key_shape K) key
  pub value_reads : Reads s bytes (q + up (size_of s.layouts (key_shape K)) (align_of s.layouts V)) V value
  pub keys : All Q (pointers key)
  pub values : All P (pointers value)

module _ (s : SchemaTable) (bytes : List ℕ) (Q P : Pointer → Type 0) (K : Key) (V : Shape) where
  pub entries_marked : {p n : ℕ} {vs : Values} → ReadsRun s bytes p n (entry_of K V) vs → AllMarked Q P (marks_of_entries vs) (all_pointers vs) → (k q : ℕ) → q ≡ p + k * size_of s.layouts (entry_of K V) → k < n → EntryMarked s bytes Q P K V q
  entries_marked reads_none h k q e below = absurd (omega arith)
  entries_marked {p = p} (reads_element {vs = vs} (reads_parts (reads_part {v = u} r (reads_part {v = w} r' reads_no_part))) rs) h k q e below =
      let same : (pointers u ++ (pointers w ++ [])) ++ all_pointers vs ≡ pointers u ++ (pointers w ++ all_pointers vs)
      = append_assoc (pointers u) (pointers w ++ []) (all_pointers vs) ∙ ap (λ x. pointers u ++ (x ++ all_pointers vs)) (append-nil (pointers w)) in
      let marked = subst (λ O. AllMarked Q P (each_marked true (pointers u) ++ (each_marked false (pointers w) ++ marks_of_entries vs)) O) same h in
      let first = keys_first Q P (pointers u) (each_marked false (pointers w) ++ marks_of_entries vs) (pointers w ++ all_pointers vs) marked in
      let second = values_first Q P (pointers w) (marks_of_entries vs) (all_pointers vs) (first.1) in
      go k q e below (record { key = u; value = w; key_reads = rw (key_at s.layouts K p) at r; value_reads = rw (value_at s.layouts K V) at r'; keys = first.0; values = second.0 }) (λ m r g lt. entries_marked rs (second.1) m r g lt)
    where
      go : {n : ℕ} (k q : ℕ) → q ≡ p + k * size_of s.layouts (entry_of K V) → k < suc n → EntryMarked s bytes Q P K V p
          → ((m r : ℕ) → r ≡ p + size_of s.layouts (entry_of K V) + m * size_of s.layouts (entry_of K V) → m < n → EntryMarked s bytes Q P K V r) → EntryMarked s bytes Q P K V q
      go zero q e below here rest = let same : q ≡ p = omega arith in rw same here
      go (suc m) q e below here rest = rest m q (omega arith) (omega arith)

-- a region, with the keys by which it is ordered
abbrev pub Free : Type 0
Free = Region × Option Key

-- the regions that are entered through no key, and those that are entered through one
abbrev pub free_of : {s : SchemaTable} {bytes pending : List ℕ} {seen last : Seen} {O : List Pointer} {C : List Region} → List Bool → Tour s bytes pending seen O C last → List Free
free_of M tour_end = []
free_of {s} M (tour_unique {p = p} {t = t} {v = v} e h i j) = cond (first_mark M) (free_of (later_marks M) j) (free_of (marks (order_of p) v) i ++ (region_of s p t, order_of p) ∷ free_of (later_marks M) j)
free_of {s} M (tour_new {p = p} {t = t} {v = v} e none h i j) = free_of (marks (order_of p) v) i ++ (region_of s p t, order_of p) ∷ free_of (later_marks M) j
free_of M (tour_again e t known free j) = free_of (later_marks M) j

abbrev pub keys_of : {s : SchemaTable} {bytes pending : List ℕ} {seen last : Seen} {O : List Pointer} {C : List Region} → List Bool → Tour s bytes pending seen O C last → List Region
keys_of M tour_end = []
keys_of {s} M (tour_unique {p = p} {t = t} {v = v} e h i j) = cond (first_mark M) (region_of s p t ∷ keys_of (later_marks M) j) (keys_of (marks (order_of p) v) i ++ keys_of (later_marks M) j)
keys_of M (tour_new {p = p} {t = t} {v = v} e none h i j) = keys_of (marks (order_of p) v) i ++ keys_of (later_marks M) j
keys_of M (tour_again e t known free j) = keys_of (later_marks M) j

-- one lies before the other
abbrev pub Apart : Region → Region → Type 0
Apart r q = (r.begin + r.size ≤ q.begin) ⊎ (q.begin + q.size ≤ r.begin)

-- each lies between two positions
abbrev pub FreeBetween : ℕ → ℕ → List Free → Type 0
FreeBetween a b F = (f : Free) → Contains F f → (a ≤ (f.0).begin) × ((f.0).begin + (f.0).size ≤ b)

abbrev pub KeysBetween : ℕ → ℕ → List Region → Type 0
KeysBetween a b C = (r : Region) → Contains C r → (a ≤ r.begin) × (r.begin + r.size ≤ b)

-- any two are one, or lie apart; each lies apart from each
abbrev pub Separate : List Free → Type 0
Separate F = (f g : Free) → Contains F f → Contains F g → (f ≡ g) ⊎ Apart (f.0) (g.0)

abbrev pub Across : List Free → List Region → Type 0
Across F C = (f : Free) (r : Region) → Contains F f → Contains C r → Apart (f.0) r

pub none_in : {A : Type 0} {B : Type 0} {x : A} → Contains [] x → B
none_in c = absurd (omega (arith, c.1))

free_join : (F G : List Free) (a b c : ℕ) → a ≤ b → b ≤ c → FreeBetween a b F → FreeBetween b c G → FreeBetween a c (F ++ G)
free_join F G a b c low high h k f m = ⊎_elim (λ l. let r = h f l in omega arith) (λ l. let r = k f l in omega arith) (Contains-append_cases F G f m)

keys_join : (F G : List Region) (a b c : ℕ) → a ≤ b → b ≤ c → KeysBetween a b F → KeysBetween b c G → KeysBetween a c (F ++ G)
keys_join F G a b c low high h k f m = ⊎_elim (λ l. let r = h f l in omega arith) (λ l. let r = k f l in omega arith) (Contains-append_cases F G f m)

free_wider : (F : List Free) (a b c d : ℕ) → c ≤ a → b ≤ d → FreeBetween a b F → FreeBetween c d F
free_wider F a b c d low high h f m = let r = h f m in omega arith

keys_wider : (F : List Region) (a b c d : ℕ) → c ≤ a → b ≤ d → KeysBetween a b F → KeysBetween c d F
keys_wider F a b c d low high h f m = let r = h f m in omega arith

separate_join : (F G : List Free) (a b c : ℕ) → FreeBetween a b F → FreeBetween b c G → Separate F → Separate G → Separate (F ++ G)
separate_join F G a b c h k left right f g m n = ⊎_elim
    (λ l. ⊎_elim (λ o. left f g l o) (λ o. inr (inl (let x = h f l in let y = k g o in omega arith))) (Contains-append_cases F G g n))
    (λ l. ⊎_elim (λ o. inr (inr (let x = h g o in let y = k f l in omega arith))) (λ o. right f g l o) (Contains-append_cases F G g n))
    (Contains-append_cases F G f m)

across_join : (F G : List Free) (C D : List Region) (a b c : ℕ) → FreeBetween a b F → FreeBetween b c G → KeysBetween a b C → KeysBetween b c D → Across F C → Across G D → Across (F ++ G) (C ++ D)
across_join F G C D a b c h k i j left right f r m n = ⊎_elim
    (λ l. ⊎_elim (λ o. left f r l o) (λ o. inl (let x = h f l in let y = j r o in omega arith)) (Contains-append_cases C D r n))
    (λ l. ⊎_elim (λ o. inr (let x = i r o in let y = k f l in omega arith)) (λ o. right f r l o) (Contains-append_cases C D r n))
    (Contains-append_cases F G f m)

-- what is so of the free regions and the keys' of a rising tour
pub record Parted (F : List Free) (C : List Region) (a b : ℕ) : Type 0 where
  pub free : FreeBetween a b F
  pub keys : KeysBetween a b C
  pub separate : Separate F
  pub across : Across F C

pub parted_none : (a b : ℕ) → Parted [] [] a b
parted_none a b = record { free = λ f m. none_in m; keys = λ r m. none_in m; separate = λ f g m n. none_in m; across = λ f r m n. none_in m }

pub parted_join : (F G : List Free) (C D : List Region) (a b c : ℕ) → a ≤ b → b ≤ c → Parted F C a b → Parted G D b c → Parted (F ++ G) (C ++ D) a c
parted_join F G C D a b c low high h k = record {
  free = free_join F G a b c low high h.free k.free;
  keys = keys_join C D a b c low high h.keys k.keys;
  separate = separate_join F G a b c h.free k.free h.separate k.separate;
  across = across_join F G C D a b c h.free k.free h.keys k.keys h.across k.across;
}

pub only_free : (r : Region) (o : Option Key) → Parted ((r, o) ∷ []) [] r.begin (r.begin + r.size)
only_free r o = record {
  free = λ f m. ⊎_elim (λ e. rw (← e) (omega arith, omega arith)) (λ m. none_in m) (contains_cases (r, o) [] f m);
  keys = λ q m. none_in m;
  separate = λ f g m n. ⊎_elim (λ e. ⊎_elim (λ d. inl (sym e ∙ d)) (λ n. none_in n) (contains_cases (r, o) [] g n)) (λ m. none_in m) (contains_cases (r, o) [] f m);
  across = λ f q m n. none_in n;
}

only_key : (r : Region) → Parted [] (r ∷ []) r.begin (r.begin + r.size)
only_key r = record {
  free = λ f m. none_in m;
  keys = λ q m. ⊎_elim (λ e. rw (← e) (omega arith, omega arith)) (λ m. none_in m) (contains_cases r [] q m);
  separate = λ f g m n. none_in m;
  across = λ f q m n. none_in m;
}

parted_wider : (F : List Free) (C : List Region) (a b c d : ℕ) → c ≤ a → b ≤ d → Parted F C a b → Parted F C c d
parted_wider F C a b c d low high h = record { free = free_wider F a b c d low high h.free; keys = keys_wider C a b c d low high h.keys; separate = h.separate; across = h.across }

parted_cond : (mark : Bool) (F G : List Free) (C D : List Region) (a b : ℕ) → Parted F C a b → Parted G D a b → Parted (cond mark F G) (cond mark C D) a b
parted_cond true F G C D a b h k = h
parted_cond false F G C D a b h k = k

-- a region with its own, and then the others
pub region_parted : (r : Region) (o : Option Key) (F G : List Free) (C D : List Region) (start stop : ℕ) → start ≤ r.begin → r.begin + r.size ≤ stop → Parted F C start r.begin → Parted G D (r.begin + r.size) stop
    → Parted (F ++ (r, o) ∷ G) (C ++ D) start stop
region_parted r o F G C D start stop low high own rest =
    let later : Parted ((r, o) ∷ G) D r.begin stop = parted_join ((r, o) ∷ []) G [] D r.begin (r.begin + r.size) stop (omega arith) high (only_free r o) rest in
    parted_join F ((r, o) ∷ G) C D start r.begin stop low (omega arith) own later

key_parted : (r : Region) (G : List Free) (D : List Region) (start stop : ℕ) → start ≤ r.begin → r.begin + r.size ≤ stop → Parted G D (r.begin + r.size) stop → Parted G (r ∷ D) start stop
key_parted r G D start stop low high rest =
    parted_wider G (r ∷ D) r.begin stop start stop low (omega arith) (parted_join [] G (r ∷ []) D r.begin (r.begin + r.size) stop (omega arith) high (only_key r) rest)

module _ (s : SchemaTable) (bytes : List ℕ) where
  pub tour_parted : {pending : List ℕ} {seen last : Seen} {O : List Pointer} {C : List Region} (M : List Bool) (i : Tour s bytes pending seen O C last) (start stop : ℕ) → Rising start C stop → Parted (free_of M i) (keys_of M i) start stop
  tour_parted M tour_end start stop rising = parted_none start stop
  tour_parted M (tour_unique {p = p} {t = t} {v = v} {C = C} {D = D} e h i j) start stop rising =
      let r : Region = region_of s p t in
      let front = rising_front start C r D stop rising in
      let back = rising_back start C r D stop rising in
      let low = rising_le start C r.begin front in
      let high = rising_le (r.begin + r.size) D stop back in
      let own = tour_parted (marks (order_of p) v) i start r.begin front in
      let rest = tour_parted (later_marks M) j (r.begin + r.size) stop back in
      parted_cond (first_mark M) (free_of (later_marks M) j) (free_of (marks (order_of p) v) i ++ (r, order_of p) ∷ free_of (later_marks M) j) (r ∷ keys_of (later_marks M) j) (keys_of (marks (order_of p) v) i ++ keys_of (later_marks M) j) start stop
      (key_parted r (free_of (later_marks M) j) (keys_of (later_marks M) j) start stop low high rest)
      (region_parted r (order_of p) (free_of (marks (order_of p) v) i) (free_of (later_marks M) j) (keys_of (marks (order_of p) v) i) (keys_of (later_marks M) j) start stop low high own rest)
  tour_parted M (tour_new {p = p} {t = t} {v = v} {C = C} {D = D} e none h i j) start stop rising =
      let r : Region = region_of s p t in
      let front = rising_front start C r D stop rising in
      let back = rising_back start C r D stop rising in
      let low = rising_le start C r.begin front in
      let high = rising_le (r.begin + r.size) D stop back in
      let own = tour_parted (marks (order_of p) v) i start r.begin front in
      let rest = tour_parted (later_marks M) j (r.begin + r.size) stop back in
      region_parted r (order_of p) (free_of (marks (order_of p) v) i) (free_of (later_marks M) j) (keys_of (marks (order_of p) v) i) (keys_of (later_marks M) j) start stop low high own rest
  tour_parted M (tour_again e t known free j) start stop rising = tour_parted (later_marks M) j start stop rising
