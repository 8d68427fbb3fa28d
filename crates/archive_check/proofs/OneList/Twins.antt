-- Two buffers that say the same, each hole filled, but for names: their pointers stand in the same order, and lead to the same.
use Rattle.std.proofs.Common.{◌≡◌, ℕ, suc, ◌+◌, ◌<◌, ◌≤◌, ℤ, pos, List, [], ◌∷◌, ◌++◌, length, Some, None, arith, refl, sym, ap, ap₂, ◌∙◌}
use Rattle.archive_check.specs.Shape.{Flavor, Key, entry_of, Shape, Pointee, one, run, text, Parts}
use Rattle.archive_check.specs.Value.{Pointer, Value, Values, number, product, case, list, text_value, box, null, shared_value, hole, no_value, value, pointers, all_pointers}
use Rattle.archive_check.specs.Reads.{SchemaTable, bytes_at, u32_at, before_end, decoded_length, length_at, pointer_at, map_at, string_at, Reads, reads_leaf, reads_parts, reads_choice, reads_array, reads_boxed, reads_vec, reads_map, reads_inline, reads_out_of_line, reads_shared, reads_null, reads_weak, reads_named, ReadsParts, reads_no_part, reads_part, ReadsRun, reads_none, reads_element}
use Rattle.archive_check.specs.Tour.{Contents, contents_one, contents_run, contents_text, Leads, pointee_size}
use Rattle.archive_check.specs.Denotes.{rename, rename_all, Fills, fills_number, fills_product, fills_case, fills_list, fills_text, fills_box, fills_null, fills_unique, fills_shared, FillsAll, fills_no_value, fills_value}
use Rattle.archive_check.proofs.Tours.ReadingUnique.{leads_position, leads_value}
use Rattle.archive_check.proofs.Tours.RegionsApart.{before_end_le, bytes_few}
use Rattle.archive_check.proofs.Editing.EditedBytes.{bytes_long}

-- the second value is the first one, under other names
pub record Renamed (to : ℕ → ℕ) (x y : Value) : Type 0 where
  pub is : y ≡ rename to x

pub record AllRenamed (to : ℕ → ℕ) (xs ys : Values) : Type 0 where
  pub is : ys ≡ rename_all to xs

-- pointers to the same pointee, one in each buffer, whose holes are filled alike but for names
pub record Twin (s : SchemaTable) (a b : List ℕ) (to : ℕ → ℕ) (p q : Pointer) : Type 0 where
  pub sharing : p.sharing ≡ q.sharing
  pub order : p.order ≡ q.order
  pub pointee : p.pointee ≡ q.pointee
  pub length : p.sharing ≡ None → p.length ≡ q.length
  pub filled : Value
  pub other : Value
  pub left : Fills s a (hole p) filled
  pub right : Fills s b (hole q) other
  pub renamed : Renamed to filled other

-- one pair after another
pub data Twins (s : SchemaTable) (a b : List ℕ) (to : ℕ → ℕ) : List Pointer → List Pointer → Type 0 where
  twins_none : Twins s a b to [] []
  twins_more : {p q : Pointer} {O Q : List Pointer} → Twin s a b to p q → Twins s a b to O Q → Twins s a b to (p ∷ O) (q ∷ Q)

-- so are the values in them
module _ (to : ℕ → ℕ) where
  products : {x y : Value} {xs ys : Values} → x ≡ product xs → y ≡ product ys → Renamed to x y → AllRenamed to xs ys
  products e d z = let same = ap (rename to) e in let is = z.is in record { is = cc }

  lists : {x y : Value} {xs ys : Values} → x ≡ list xs → y ≡ list ys → Renamed to x y → AllRenamed to xs ys
  lists e d z = let same = ap (rename to) e in let is = z.is in record { is = cc }

  cases : {x y : Value} {xs ys : Values} {k l : ℕ} → x ≡ case k xs → y ≡ case l ys → Renamed to x y → (k ≡ l) × AllRenamed to xs ys
  cases e d z = let same = ap (rename to) e in let is = z.is in (cc, record { is = cc })

  boxes : {x y v w : Value} → x ≡ box v → y ≡ box w → Renamed to x y → Renamed to v w
  boxes e d z = let same = ap (rename to) e in let is = z.is in record { is = cc }

  numbers : {x y : Value} {m n : ℤ} → x ≡ number m → y ≡ number n → Renamed to x y → number m ≡ number n
  numbers e d z = let same = ap (rename to) e in let is = z.is in cc

  texts : {x y : Value} {t u : List ℕ} → x ≡ text_value t → y ≡ text_value u → Renamed to x y → t ≡ u
  texts e d z = let same = ap (rename to) e in let is = z.is in cc

  pub names : {x y : Value} {t u : ℕ} → x ≡ shared_value t → y ≡ shared_value u → Renamed to x y → u ≡ to t
  names e d z = let same = ap (rename to) e in let is = z.is in cc

  null_only : {x y : Value} {t : ℕ} → x ≡ null → y ≡ shared_value t → Renamed to x y → ⊥
  null_only e d z = let same = ap (rename to) e in let is = z.is in cc

  shared_only : {x y : Value} {t : ℕ} → x ≡ shared_value t → y ≡ null → Renamed to x y → ⊥
  shared_only e d z = let same = ap (rename to) e in let is = z.is in cc

  first_renamed : {x y : Value} {xs ys : Values} → AllRenamed to (value x xs) (value y ys) → Renamed to x y
  first_renamed z = let is = z.is in record { is = cc }

  rest_renamed : {x y : Value} {xs ys : Values} → AllRenamed to (value x xs) (value y ys) → AllRenamed to xs ys
  rest_renamed z = let is = z.is in record { is = cc }

  none_some : {y : Value} {ys : Values} → AllRenamed to no_value (value y ys) → ⊥
  none_some z = let is = z.is in cc

  some_none : {x : Value} {xs : Values} → AllRenamed to (value x xs) no_value → ⊥
  some_none z = let is = z.is in cc

-- what a value is filled to
module _ (s : SchemaTable) (bytes : List ℕ) where
  number_filled : {z : _} {x : Value} → Fills s bytes (number z) x → x ≡ number z
  number_filled fills_number = refl

  text_filled : {t : List ℕ} {x : Value} → Fills s bytes (text_value t) x → x ≡ text_value t
  text_filled fills_text = refl

  null_filled : {x : Value} → Fills s bytes null x → x ≡ null
  null_filled fills_null = refl

  product_filled : {vs : Values} {x : Value} → Fills s bytes (product vs) x → (ws : Values) × (x ≡ product ws) × FillsAll s bytes vs ws
  product_filled (fills_product h) = (_, refl, h)

  case_filled : {tag : ℕ} {vs : Values} {x : Value} → Fills s bytes (case tag vs) x → (ws : Values) × (x ≡ case tag ws) × FillsAll s bytes vs ws
  case_filled (fills_case h) = (_, refl, h)

  list_filled : {vs : Values} {x : Value} → Fills s bytes (list vs) x → (ws : Values) × (x ≡ list ws) × FillsAll s bytes vs ws
  list_filled (fills_list h) = (_, refl, h)

  box_filled : {v x : Value} → Fills s bytes (box v) x → (w : Value) × (x ≡ box w) × Fills s bytes v w
  box_filled (fills_box h) = (_, refl, h)

  -- what a unique pointer leads to is filled as its hole is
  pub unique_filled : {p : Pointer} {t : ℕ} {v x : Value} → p.sharing ≡ None → Leads s bytes p t v → Fills s bytes (hole p) x → Fills s bytes v x
  unique_filled {p = p} {t = t} {v = v} e l (fills_unique {t = u} {v = w} f m h) =
      let here : u ≡ t = leads_position l m in let there : Leads s bytes p t w = rw here at m in rw (leads_value l there) at h
  unique_filled e l (fills_shared f g) = cc

  unique_leads : {p : Pointer} {x : Value} (P : Pointee) → p.sharing ≡ None → p.pointee ≡ P → Fills s bytes (hole p) x
      → (t : ℕ) × (v : Value) × Contents s bytes t P p.length v × (t + pointee_size s P p.length ≤ length bytes) × Fills s bytes v x
  unique_leads P e i (fills_unique {t = t} {v = v} f m h) = (t, v, rw i at m.contents, rw i at m.fits, h)
  unique_leads P e i (fills_shared f g) = cc

  -- a shared pointer's is filled with its position
  pub shared_filled : {p : Pointer} {flavor : Flavor} {x : Value} → p.sharing ≡ Some flavor → Fills s bytes (hole p) x → (t : ℕ) × (x ≡ shared_value t) × (p.target ≡ pos t)
  shared_filled e (fills_unique f m h) = cc
  shared_filled e (fills_shared f g) = (_, refl, g)

  text_says : {t n : ℕ} {v x : Value} → Contents s bytes t text n v → t + n ≤ length bytes → Fills s bytes v x → (b : List ℕ) × (x ≡ text_value b) × (length b ≡ n)
  text_says (contents_text {n = n} u) fits h = (_, text_filled h, bytes_long bytes _ n fits)

module _ (s : SchemaTable) (a b : List ℕ) (to : ℕ → ℕ) where
  twins_append : {O P Q R : List Pointer} → Twins s a b to O Q → Twins s a b to P R → Twins s a b to (O ++ P) (Q ++ R)
  twins_append twins_none k = k
  twins_append (twins_more t h) k = twins_more t (twins_append h k)

  twins_split : {O P Q R : List Pointer} → Twins s a b to O Q → O ++ P ≡ Q ++ R → (O ≡ Q) × (P ≡ R)
  twins_split twins_none e = (refl, e)
  twins_split {P = P} {R = R} (twins_more {p = p} {q = q} {O = O} {Q = Q} t h) e =
      let rest : O ++ P ≡ Q ++ R = cc in let first : p ≡ q = cc in let r = twins_split {P = P} {R = R} h rest in (ap₂ (λ x y. x ∷ y) first (r.0), r.1)

  twin_one : {p q : Pointer} → Twin s a b to p q → Twins s a b to (p ∷ []) (q ∷ [])
  twin_one t = twins_more t twins_none

  run_long : {p q n m : ℕ} {X : Shape} {vs ws xs ys : Values} → ReadsRun s a p n X vs → ReadsRun s b q m X ws → FillsAll s a vs xs → FillsAll s b ws ys → AllRenamed to xs ys → n ≡ m
  run_long reads_none reads_none f g z = refl
  run_long reads_none (reads_element k ks) fills_no_value (fills_value g gs) z = absurd (none_some to z)
  run_long (reads_element h hs) reads_none (fills_value f fs) fills_no_value z = absurd (some_none to z)
  run_long (reads_element h hs) (reads_element k ks) (fills_value f fs) (fills_value g gs) z = ap suc (run_long hs ks fs gs (rest_renamed to z))

  -- runs and texts that are filled alike are as long
  abbrev AsLong : Pointee → ℕ → ℕ → Type 0
  AsLong (one X) n m = Unit {0}
  AsLong (run X) n m = n ≡ m
  AsLong text n m = n ≡ m

  contents_long : {t u n m : ℕ} {P : Pointee} {v w x y : Value} → Contents s a t P n v → Contents s b u P m w → t + pointee_size s P n ≤ length a → u + pointee_size s P m ≤ length b
      → Fills s a v x → Fills s b w y → Renamed to x y → AsLong P n m
  contents_long (contents_one r) (contents_one q) fits room f g z = tt
  contents_long (contents_run r) (contents_run q) fits room f g z = let (xs, e, fs) = list_filled s a f in let (ys, d, gs) = list_filled s b g in run_long r q fs gs (lists to e d z)
  contents_long (contents_text u) (contents_text w) fits room f g z =
      let (x, e, l) = text_says s a (contents_text u) fits f in let (y, d, k) = text_says s b (contents_text w) room g in
      sym l ∙ ap length (texts to e d z) ∙ k

  unique_long : (p q : Pointer) (P : Pointee) {x y : Value} → p.sharing ≡ None → q.sharing ≡ None → p.pointee ≡ P → q.pointee ≡ P → Fills s a (hole p) x → Fills s b (hole q) y → Renamed to x y → AsLong P p.length q.length
  unique_long p q P e f i j g h z =
      let (t, v, l, fits, k) = unique_leads s a P e i g in let (u, w, m, room, n) = unique_leads s b P f j h in contents_long l m fits room k n z

  pointers_long : (p q : ℕ) (P : Pointee) {x y : Value} → Fills s a (hole (pointer_at a p None P)) x → Fills s b (hole (pointer_at b q None P)) y → Renamed to x y → length_at a p P ≡ length_at b q P
  pointers_long p q (one X) f g z = refl
  pointers_long p q (run X) f g z = unique_long (pointer_at a p None (run X)) (pointer_at b q None (run X)) (run X) refl refl refl refl f g z
  pointers_long p q text f g z = unique_long (pointer_at a p None text) (pointer_at b q None text) text refl refl refl refl f g z

  unique_twin : (p q : ℕ) (P : Pointee) {x y : Value} → Fills s a (hole (pointer_at a p None P)) x → Fills s b (hole (pointer_at b q None P)) y → Renamed to x y → Twin s a b to (pointer_at a p None P) (pointer_at b q None P)
  unique_twin p q P {x} {y} f g z = record { sharing = refl; order = refl; pointee = refl; length = λ e. pointers_long p q P f g z; filled = x; other = y; left = f; right = g; renamed = z }

  map_twin : (p q : ℕ) (K : Key) (V : Shape) {x y : Value} → Fills s a (hole (map_at a p K V)) x → Fills s b (hole (map_at b q K V)) y → Renamed to x y → Twin s a b to (map_at a p K V) (map_at b q K V)
  map_twin p q K V {x} {y} f g z = record {
    sharing = refl;
    order = refl;
    pointee = refl;
    filled = x;
    other = y;
    left = f;
    right = g;
    renamed = z;
    length = λ e. unique_long (map_at a p K V) (map_at b q K V) (run (entry_of K V)) refl refl refl refl f g z;
  }

  shared_twin : (p q : ℕ) (flavor : Flavor) (P : Pointee) {x y : Value} → Fills s a (hole (pointer_at a p (Some flavor) P)) x → Fills s b (hole (pointer_at b q (Some flavor) P)) y → Renamed to x y
      → Twin s a b to (pointer_at a p (Some flavor) P) (pointer_at b q (Some flavor) P)
  shared_twin p q flavor P {x} {y} f g z = record { sharing = refl; order = refl; pointee = refl; length = λ e. cc; filled = x; other = y; left = f; right = g; renamed = z }

  string_twin : (p q : ℕ) {x y : Value} → Fills s a (hole (string_at a p)) x → Fills s b (hole (string_at b q)) y → Renamed to x y → Twin s a b to (string_at a p) (string_at b q)
  string_twin p q {x} {y} f g z = record {
    sharing = refl;
    order = refl;
    pointee = refl;
    filled = x;
    other = y;
    left = f;
    right = g;
    renamed = z;
    length = λ e. unique_long (string_at a p) (string_at b q) text refl refl refl refl f g z;
  }

-- a string in place is no longer than 8 bytes, and one that stands elsewhere is
inline_short : (s : SchemaTable) (a b : List ℕ) (p q : ℕ) {x y : Value} → Fills s a (text_value (before_end (bytes_at a p 8))) x → Fills s b (hole (string_at b q)) y
    → ((t u : List ℕ) → x ≡ text_value t → y ≡ text_value u → t ≡ u) → 8 < decoded_length (u32_at b q) → ⊥
inline_short s a b p q f g one_text long =
    let e = text_filled s a f in
    let (u, w, m, fits, n) = unique_leads s b {p = string_at b q} text refl refl g in
    let (y, d, k) = text_says s b m fits n in
    let same : y ≡ before_end (bytes_at a p 8) = sym (one_text (before_end (bytes_at a p 8)) y e d) in
    let short : length y ≤ 8 = rw same (omega (arith, before_end_le (bytes_at a p 8), bytes_few a p 8)) in
    omega (arith, short, k, long)

module _ (s : SchemaTable) (a b : List ℕ) (to : ℕ → ℕ) where
  -- the pointers in two values are twins, and where they are the same pointers, the values are the same
  abbrev pub Like : Value → Value → Type 0
  Like v w = Twins s a b to (pointers v) (pointers w) × (pointers v ≡ pointers w → v ≡ w)

  abbrev pub AllLike : Values → Values → Type 0
  AllLike vs ws = Twins s a b to (all_pointers vs) (all_pointers ws) × (all_pointers vs ≡ all_pointers ws → vs ≡ ws)

  first_pointer : (p q : Pointer) → p ∷ [] ≡ q ∷ [] → p ≡ q
  first_pointer p q e = cc

  hole_like : (p q : Pointer) → Twin s a b to p q → Like (hole p) (hole q)
  hole_like p q t = (twin_one s a b to t, λ e. ap hole (first_pointer p q e))

  both_like : {v w : Value} {vs ws : Values} → Like v w → AllLike vs ws → AllLike (value v vs) (value w ws)
  both_like {vs = vs} {ws = ws} h k = (twins_append s a b to (h.0) (k.0), λ z. let e = twins_split s a b to {P = all_pointers vs} {R = all_pointers ws} (h.0) z in ap₂ value (h.1 (e.0)) (k.1 (e.1)))

  mutual
    pub reads_like : {p q : ℕ} {X : Shape} {v w x y : Value} → Reads s a p X v → Reads s b q X w → Fills s a v x → Fills s b w y → Renamed to x y → Like v w
    reads_like (reads_leaf h) (reads_leaf k) f g z = (twins_none, λ e. numbers to (number_filled s a f) (number_filled s b g) z)
    reads_like (reads_parts h) (reads_parts k) f g z =
        let (xs, e, fs) = product_filled s a f in let (ys, d, gs) = product_filled s b g in
        let r = parts_like h k fs gs (products to e d z) in (r.0, λ z. ap product (r.1 z))
    reads_like (reads_choice {ps = ps} i h) (reads_choice {ps = qs} j k) f g z =
        let (xs, e, fs) = case_filled s a f in let (ys, d, gs) = case_filled s b g in
        let (tag, same) = cases to e d z in let chosen : qs ≡ ps = cc in
        let r = parts_like h (rw chosen at k) fs gs same in (r.0, λ z. ap₂ case tag (r.1 z))
    reads_like (reads_array h) (reads_array k) f g z =
        let (xs, e, fs) = list_filled s a f in let (ys, d, gs) = list_filled s b g in
        let r = run_like h k fs gs (lists to e d z) in (r.0, λ z. ap list (r.1 z))
    reads_like (reads_boxed {p = p} {P = P}) (reads_boxed {p = q}) f g z =
        let (x, e, fs) = box_filled s a f in let (y, d, gs) = box_filled s b g in
        let r = hole_like (pointer_at a p None P) (pointer_at b q None P) (unique_twin s a b to p q P fs gs (boxes to e d z)) in (r.0, λ z. ap box (r.1 z))
    reads_like (reads_vec {p = p} {X = X}) (reads_vec {p = q}) f g z = hole_like (pointer_at a p None (run X)) (pointer_at b q None (run X)) (unique_twin s a b to p q (run X) f g z)
    reads_like (reads_map {p = p} {K = K} {V = V}) (reads_map {p = q}) f g z = hole_like (map_at a p K V) (map_at b q K V) (map_twin s a b to p q K V f g z)
    reads_like (reads_inline o h) (reads_inline i k) f g z = (twins_none, λ e. ap text_value (texts to (text_filled s a f) (text_filled s b g) z))
    reads_like (reads_inline {p = p} o h) (reads_out_of_line {p = q} i long) f g z = absurd (inline_short s a b p q f g (λ t u e d. texts to e d z) long)
    reads_like (reads_out_of_line {p = p} i long) (reads_inline {p = q} o h) f g z = absurd (inline_short s b a q p g f (λ t u e d. sym (texts to d e z)) long)
    reads_like (reads_out_of_line {p = p} o h) (reads_out_of_line {p = q} i k) f g z = hole_like (string_at a p) (string_at b q) (string_twin s a b to p q f g z)
    reads_like (reads_shared {p = p} {flavor = flavor} {P = P}) (reads_shared {p = q}) f g z = hole_like (pointer_at a p (Some flavor) P) (pointer_at b q (Some flavor) P) (shared_twin s a b to p q flavor P f g z)
    reads_like (reads_null h) (reads_null k) f g z = (twins_none, λ e. refl)
    reads_like (reads_null h) (reads_weak k) f g z = let (t, d, i) = shared_filled s b refl g in absurd (null_only to (null_filled s a f) d z)
    reads_like (reads_weak h) (reads_null k) f g z = let (t, d, i) = shared_filled s a refl f in absurd (shared_only to d (null_filled s b g) z)
    reads_like (reads_weak {p = p} {flavor = flavor} {P = P} h) (reads_weak {p = q} k) f g z = hole_like (pointer_at a p (Some flavor) P) (pointer_at b q (Some flavor) P) (shared_twin s a b to p q flavor P f g z)
    reads_like (reads_named {X = X} d h) (reads_named {X = Y} e k) f g z = let same : Y ≡ X = cc in reads_like h (rw same at k) f g z

    pub parts_like : {p q at : ℕ} {ps : Parts} {vs ws xs ys : Values} → ReadsParts s a p at ps vs → ReadsParts s b q at ps ws → FillsAll s a vs xs → FillsAll s b ws ys → AllRenamed to xs ys → AllLike vs ws
    parts_like reads_no_part reads_no_part f g z = (twins_none, λ e. refl)
    parts_like (reads_part h hs) (reads_part k ks) (fills_value f fs) (fills_value g gs) z = both_like (reads_like h k f g (first_renamed to z)) (parts_like hs ks fs gs (rest_renamed to z))

    pub run_like : {p q n : ℕ} {X : Shape} {vs ws xs ys : Values} → ReadsRun s a p n X vs → ReadsRun s b q n X ws → FillsAll s a vs xs → FillsAll s b ws ys → AllRenamed to xs ys → AllLike vs ws
    run_like reads_none reads_none f g z = (twins_none, λ e. refl)
    run_like (reads_element h hs) (reads_element k ks) (fills_value f fs) (fills_value g gs) z = both_like (reads_like h k f g (first_renamed to z)) (run_like hs ks fs gs (rest_renamed to z))

  -- so are those in what two pointers lead to
  pub contents_like : {t u n m : ℕ} {P : Pointee} {v w x y : Value} → Contents s a t P n v → Contents s b u P m w → n ≡ m → Fills s a v x → Fills s b w y → Renamed to x y → Like v w
  contents_like (contents_one h) (contents_one k) e f g z = reads_like h k f g z
  contents_like (contents_run h) (contents_run k) long f g z =
      let (xs, e, fs) = list_filled s a f in let (ys, d, gs) = list_filled s b g in
      let r = run_like h (rw (sym long) at k) fs gs (lists to e d z) in (r.0, λ z. ap list (r.1 z))
  contents_like (contents_text h) (contents_text k) long f g z = (twins_none, λ e. ap text_value (texts to (text_filled s a f) (text_filled s b g) z))
