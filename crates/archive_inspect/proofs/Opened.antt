-- Where each point is opened, all leaves of the archive are told.
use Rattle.std.proofs.Common.{◌≡◌, ◌⊎◌, inl, inr, ⊎_elim, ℕ, suc, ◌+◌, ◌*◌, ◌<◌, pos, List, [], ◌∷◌, ◌++◌, slice_index, Option, Some, None, All, refl, sym, subst, ◌∙◌, arith}
use Rattle.std.proofs.lemmas.List.Elements.{All-nil, All-cons, All-head, All-tail, All-append, All-contains}
use Rattle.archive_inspect.specs.declared.describe.Piece.{Piece}
use Rattle.archive_inspect.specs.declared.ways.Point.{Point}
use Rattle.archive_check.specs.Keys.{order_of, IsInOrder, in_any_order, in_key_order}
use Rattle.archive_check.specs.Layout.{kind_size, size_of}
use Rattle.archive_check.specs.Leaves.{PlacedLeaf, text_leaf, leaves, leaves_of_parts, leaves_of_run, leaves_of_contents, leaves_of_tour, leaves_of}
use Rattle.archive_check.specs.Reads.{SchemaTable, bytes_at, IsOutOfLine, Reads, reads_leaf, reads_parts, reads_choice, reads_array, reads_boxed, reads_vec, reads_map, reads_inline, reads_out_of_line, reads_shared, reads_null, reads_weak, reads_named, ReadsParts, reads_no_part, reads_part, ReadsRun, reads_none, reads_element}
use Rattle.archive_check.specs.Shape.{Name, Kind, Key, Shape, leaf, parts, choice, array, str, named, Pointee, one, run, text, Parts, part, no_part, Variants, key_shape, entry_of, definition, variant_at}
use Rattle.archive_check.specs.Tour.{Region, Contents, contents_one, contents_run, contents_text, Seen, Tour, tour_end, tour_unique, tour_new, tour_again, Accepted}
use Rattle.archive_check.specs.Value.{Pointer, Value, Values, pointers, all_pointers}
use Rattle.archive_check.proofs.Maps.Entries.{key_at, value_at}
use Rattle.archive_check.proofs.Tours.RegionsApart.{bytes_few}
use Rattle.archive_inspect.specs.Ways.{WayEnd, a_value, a_payload, a_text, IsPartNumbered, numbered_first, numbered_later, PointsBy, points_box, points_vec, points_map, points_string, points_shared, points_weak}
use Rattle.archive_inspect.specs.Points.{end_of_way, MeantBy, means_itself, means_more, MeansEnd, means_value, means_so}
use Rattle.archive_inspect.specs.Opened.{IsAmong, PartsAmong, ElementsAmong, EntriesAmong, EntryAmongPoints, TargetAmong, IsToldAt, Opened, opened_leaf, opened_text, opened_inline, opened_parts, opened_payload, opened_choice, opened_array, opened_pointer, opened_null, AreOpened, AreAmong, told_inline, told_text, IsLeafTold, told_number, told_characters}

-- what is among some points is among more
module _ (s : SchemaTable) (xs ys : List Point) (more : AreAmong xs ys) where
  pub among_more : {q : ℕ} {e : WayEnd} → IsAmong s xs q e → IsAmong s ys q e
  among_more h = record { point = h.point; among = more h.point h.among; at = h.at; means = h.means }

  pub target_more : {P : Pointer} → TargetAmong s xs P → TargetAmong s ys P
  target_more h = record {
    to_value = λ t X there is. among_more (h.to_value t X there is);
    to_elements = λ t X there free is k below. among_more (h.to_elements t X there free is k below);
    to_entries = λ t K V there keyed is k below. let e = h.to_entries t K V there keyed is k below in record { key = among_more e.key; value = among_more e.value };
    to_text = λ t there is. among_more (h.to_text t there is);
  }

  pub opened_more : (bytes : List ℕ) (pieces : List Piece) {p : ℕ} {e : WayEnd} → Opened s bytes pieces xs p e → Opened s bytes pieces ys p e
  opened_more bytes pieces (opened_leaf told) = opened_leaf told
  opened_more bytes pieces (opened_text told) = opened_text told
  opened_more bytes pieces (opened_inline here told) = opened_inline here told
  opened_more bytes pieces (opened_parts h) = opened_parts (λ k q Y i. among_more (h k q Y i))
  opened_more bytes pieces (opened_payload h) = opened_payload (λ k q Y i. among_more (h k q Y i))
  opened_more bytes pieces (opened_choice e h) = opened_choice e (among_more h)
  opened_more bytes pieces (opened_array h) = opened_array (λ k below. among_more (h k below))
  opened_more bytes pieces (opened_pointer points h) = opened_pointer points (target_more h)
  opened_more bytes pieces (opened_null e) = opened_null e

-- What means a name means what it is defined as, or is that name.
name_means : {s : SchemaTable} {name : Name} {X Y : Shape} → definition s.table name ≡ Some X → MeantBy s (named name) Y → (Y ≡ named name) ⊎ MeantBy s X Y
name_means d means_itself = inl refl
name_means {s} {name} {X} {Y} d (means_more {name = other} m e) =
    ⊎_elim
    (λ (same : named other ≡ named name).
    let now : definition s.table name ≡ Some Y = subst (λ n. definition s.table n ≡ Some Y) (name_same same) e in
    let is : X ≡ Y = some_same (sym d ∙ now) in inr (subst (MeantBy s X) is means_itself))
    (λ n. inr (means_more n e))
    (name_means d m)
  where
    name_same : {a b : Name} → named a ≡ named b → a ≡ b
    name_same e = cc

    some_same : {A B : Shape} → Some A ≡ Some B → A ≡ B
    some_same e = cc

-- it is no name
abbrev IsPlain : Shape → Type 0
IsPlain (named name) = ⊥
IsPlain _ = Unit {0}

-- what is no name means itself alone
means_alone : {s : SchemaTable} {X Y : Shape} → IsPlain X → MeantBy s X Y → X ≡ Y
means_alone plain means_itself = refl
means_alone plain (means_more m d) = absurd (subst IsPlain (means_alone plain m) plain)

module _ (s : SchemaTable) (bytes : List ℕ) (pieces : List Piece) (points : List Point) (all : AreOpened s bytes pieces points points) where
  -- what is among the points is opened, by what it means
  record OpenedAs (q : ℕ) (e : WayEnd) : Type 0 where
    means : WayEnd
    same : MeansEnd s e means
    opened : Opened s bytes pieces points q means

  opened_as : {q : ℕ} {e : WayEnd} → IsAmong s points q e → OpenedAs q e
  opened_as h = record {
    means = end_of_way h.point.thing;
    same = h.means;
    opened = subst (λ p. Opened s bytes pieces points p (end_of_way h.point.thing)) h.at (All-contains (λ a. Opened s bytes pieces points a.at (end_of_way a.thing)) points h.point all h.among);
  }

  value_means : {X : Shape} {q : ℕ} {e : WayEnd} → IsPlain X → MeansEnd s (a_value X) e → Opened s bytes pieces points q e → Opened s bytes pieces points q (a_value X)
  value_means {q = q} plain (means_value m) o = subst (λ Y. Opened s bytes pieces points q (a_value Y)) (sym (means_alone plain m)) o
  value_means plain means_so o = o

  opened_value : {q : ℕ} {X : Shape} → IsPlain X → IsAmong s points q (a_value X) → Opened s bytes pieces points q (a_value X)
  opened_value plain h = let o = opened_as h in value_means plain o.same o.opened

  payload_means : {ps : Parts} {q : ℕ} {e : WayEnd} → MeansEnd s (a_payload ps) e → Opened s bytes pieces points q e → Opened s bytes pieces points q (a_payload ps)
  payload_means means_so o = o

  opened_parts_there : {q : ℕ} {ps : Parts} → IsAmong s points q (a_payload ps) → PartsAmong s points q 1 ps
  opened_parts_there {q} {ps} h = let o = opened_as h in go (payload_means o.same o.opened)
    where
      go : Opened s bytes pieces points q (a_payload ps) → PartsAmong s points q 1 ps
      go (opened_payload i) = i

  text_means : {n q : ℕ} {e : WayEnd} → MeansEnd s (a_text n) e → Opened s bytes pieces points q e → Opened s bytes pieces points q (a_text n)
  text_means means_so o = o

  text_there : {q n : ℕ} → IsAmong s points q (a_text n) → 0 < n → IsToldAt pieces q (a_text n)
  text_there {q} {n} h = let o = opened_as h in go (text_means o.same o.opened)
    where
      go : Opened s bytes pieces points q (a_text n) → 0 < n → IsToldAt pieces q (a_text n)
      go (opened_text told) = told

  -- a name isn't opened, so what it stands for is
  no_name : {q : ℕ} {name : Name} → Opened s bytes pieces points q (a_value (named name)) → ⊥
  no_name (opened_pointer by h) = elim by [ ]

  named_means : {q : ℕ} {name : Name} {X : Shape} {e : WayEnd} → definition s.table name ≡ Some X → MeansEnd s (a_value (named name)) e → Opened s bytes pieces points q e → MeansEnd s (a_value X) e
  named_means {q = q} d (means_value m) o = ⊎_elim (λ e. absurd (no_name (subst (λ Y. Opened s bytes pieces points q (a_value Y)) e o))) (λ n. means_value n) (name_means d m)
  named_means d means_so o = absurd (no_name o)

  named_there : {q : ℕ} {name : Name} {X : Shape} → definition s.table name ≡ Some X → IsAmong s points q (a_value (named name)) → IsAmong s points q (a_value X)
  unfolding opened_as
  named_there {X = X} d h =
      let o = opened_as h in
      record { point = h.point; among = h.among; at = h.at; means = named_means d h.means o.opened }

  -- what is opened of a value of a kind
  leaf_opened : {q : ℕ} {kind : Kind} → Opened s bytes pieces points q (a_value (leaf kind)) → 0 < kind_size kind → IsToldAt pieces q (a_value (leaf kind))
  leaf_opened (opened_leaf told) = told
  leaf_opened (opened_pointer by h) = elim by [ ]

  record_opened : {q : ℕ} {ps : Parts} → Opened s bytes pieces points q (a_value (parts ps)) → PartsAmong s points q 0 ps
  record_opened (opened_parts h) = h
  record_opened (opened_pointer by h) = elim by [ ]

  choice_opened : {q : ℕ} {name : Name} {variants : Variants} {ps : Parts} → Opened s bytes pieces points q (a_value (choice name variants)) → variant_at variants (slice_index bytes q) ≡ Some ps → PartsAmong s points q 1 ps
  choice_opened {q = q} {ps = ps} (opened_choice {ps = qs} e h) f =
      let same : qs ≡ ps = cc in subst (PartsAmong s points q 1) same (opened_parts_there h)
  choice_opened (opened_pointer by h) f = elim by [ ]

  array_opened : {q n : ℕ} {X : Shape} → Opened s bytes pieces points q (a_value (array n X)) → ElementsAmong s points q n X
  array_opened (opened_array h) = h
  array_opened (opened_pointer by h) = elim by [ ]

  inline_opened : {q : ℕ} → (IsOutOfLine bytes q → ⊥) → Opened s bytes pieces points q (a_value str) → IsToldAt pieces q (a_value str)
  inline_opened here (opened_inline o told) = told
  inline_opened here (opened_pointer by h) = absurd (here (out by))
    where
      out : {q : ℕ} {P : Pointer} → PointsBy bytes q str P → IsOutOfLine bytes q
      out (points_string o long) = o

  -- a value that is a pointer leads to what is among the points
  pointer_opened : {q : ℕ} {X : Shape} {P : Pointer} → PointsBy bytes q X P → Opened s bytes pieces points q (a_value X) → TargetAmong s points P
  pointer_opened points_box (opened_pointer points_box h) = h
  pointer_opened points_vec (opened_pointer points_vec h) = h
  pointer_opened points_map (opened_pointer points_map h) = h
  pointer_opened (points_string o long) (opened_inline here told) = absurd (here o)
  pointer_opened (points_string o long) (opened_pointer (points_string p far) h) = h
  pointer_opened points_shared (opened_pointer points_shared h) = h
  pointer_opened (points_weak other) (opened_null e) = absurd (other e)
  pointer_opened (points_weak other) (opened_pointer (points_weak more) h) = h

  pointer_there : {q : ℕ} {X : Shape} {P : Pointer} → IsPlain X → PointsBy bytes q X P → IsAmong s points q (a_value X) → All (TargetAmong s points) (P ∷ [])
  pointer_there {P = P} plain by h = All-cons (TargetAmong s points) P [] (pointer_opened by (opened_value plain h)) (All-nil (TargetAmong s points))

  one_told : (x : PlacedLeaf) → IsLeafTold bytes pieces x → All (IsLeafTold bytes pieces) (x ∷ [])
  one_told x h = All-cons (IsLeafTold bytes pieces) x [] h (All-nil (IsLeafTold bytes pieces))

  first_there : (p n : ℕ) (X : Shape) → ElementsAmong s points p (suc n) X → IsAmong s points p (a_value X)
  first_there p n X h = let here : p + 0 * size_of s.layouts X ≡ p = omega arith in subst (λ q. IsAmong s points q (a_value X)) here (h 0 (omega arith))

  others_there : (p n : ℕ) (X : Shape) → ElementsAmong s points p (suc n) X → ElementsAmong s points (p + size_of s.layouts X) n X
  others_there p n X h = λ k below.
      let here : p + (k + 1) * size_of s.layouts X ≡ p + size_of s.layouts X + k * size_of s.layouts X = omega arith in
      subst (λ q. IsAmong s points q (a_value X)) here (h (k + 1) (omega arith))

  -- the leaves of what is read are told
  mutual
    reads_told : {p : ℕ} {X : Shape} {v : Value} (r : Reads s bytes p X v) → IsAmong s points p (a_value X) → All (IsLeafTold bytes pieces) (leaves r)
    reads_told (reads_leaf l) h = one_told _ (told_number (leaf_opened (opened_value tt h)))
    reads_told (reads_parts r) h = parts_told r (record_opened (opened_value tt h))
    reads_told (reads_choice e r) h = parts_told r (choice_opened (opened_value tt h) e)
    reads_told (reads_array r) h = run_told r (array_opened (opened_value tt h))
    reads_told reads_boxed h = All-nil (IsLeafTold bytes pieces)
    reads_told reads_vec h = All-nil (IsLeafTold bytes pieces)
    reads_told reads_map h = All-nil (IsLeafTold bytes pieces)
    reads_told (reads_inline o u) h = one_told _ (told_characters (λ some. told_inline o (inline_opened o (opened_value tt h))))
    reads_told (reads_out_of_line o long) h = All-nil (IsLeafTold bytes pieces)
    reads_told reads_shared h = All-nil (IsLeafTold bytes pieces)
    reads_told (reads_null e) h = All-nil (IsLeafTold bytes pieces)
    reads_told (reads_weak e) h = All-nil (IsLeafTold bytes pieces)
    reads_told (reads_named d r) h = reads_told r (named_there d h)

    parts_told : {p at : ℕ} {ps : Parts} {vs : Values} (r : ReadsParts s bytes p at ps vs) → PartsAmong s points p at ps → All (IsLeafTold bytes pieces) (leaves_of_parts r)
    parts_told reads_no_part h = All-nil (IsLeafTold bytes pieces)
    parts_told (reads_part r rs) h = All-append (IsLeafTold bytes pieces) (leaves r) (leaves_of_parts rs) (reads_told r (h 0 _ _ numbered_first)) (parts_told rs (λ k q Y i. h (suc k) q Y (numbered_later i)))

    run_told : {p n : ℕ} {X : Shape} {vs : Values} (r : ReadsRun s bytes p n X vs) → ElementsAmong s points p n X → All (IsLeafTold bytes pieces) (leaves_of_run r)
    run_told reads_none h = All-nil (IsLeafTold bytes pieces)
    run_told (reads_element {p = p} {n = n} {X = X} r rs) h = All-append (IsLeafTold bytes pieces) (leaves r) (leaves_of_run rs) (reads_told r (first_there p n X h)) (run_told rs (others_there p n X h))

  -- and what its pointers lead to is among the points
  mutual
    reads_lead : {p : ℕ} {X : Shape} {v : Value} → Reads s bytes p X v → IsAmong s points p (a_value X) → All (TargetAmong s points) (pointers v)
    reads_lead (reads_leaf l) h = All-nil (TargetAmong s points)
    reads_lead (reads_parts r) h = parts_lead r (record_opened (opened_value tt h))
    reads_lead (reads_choice e r) h = parts_lead r (choice_opened (opened_value tt h) e)
    reads_lead (reads_array r) h = run_lead r (array_opened (opened_value tt h))
    reads_lead reads_boxed h = pointer_there tt points_box h
    reads_lead reads_vec h = pointer_there tt points_vec h
    reads_lead reads_map h = pointer_there tt points_map h
    reads_lead (reads_inline o u) h = All-nil (TargetAmong s points)
    reads_lead (reads_out_of_line o long) h = pointer_there tt (points_string o long) h
    reads_lead reads_shared h = pointer_there tt points_shared h
    reads_lead (reads_null e) h = All-nil (TargetAmong s points)
    reads_lead (reads_weak other) h = pointer_there tt (points_weak other) h
    reads_lead (reads_named d r) h = reads_lead r (named_there d h)

    parts_lead : {p at : ℕ} {ps : Parts} {vs : Values} → ReadsParts s bytes p at ps vs → PartsAmong s points p at ps → All (TargetAmong s points) (all_pointers vs)
    parts_lead reads_no_part h = All-nil (TargetAmong s points)
    parts_lead (reads_part {v = v} {vs = vs} r rs) h = All-append (TargetAmong s points) (pointers v) (all_pointers vs) (reads_lead r (h 0 _ _ numbered_first)) (parts_lead rs (λ k q Y i. h (suc k) q Y (numbered_later i)))

    run_lead : {p n : ℕ} {X : Shape} {vs : Values} → ReadsRun s bytes p n X vs → ElementsAmong s points p n X → All (TargetAmong s points) (all_pointers vs)
    run_lead reads_none h = All-nil (TargetAmong s points)
    run_lead (reads_element {p = p} {n = n} {X = X} {v = v} {vs = vs} r rs) h = All-append (TargetAmong s points) (pointers v) (all_pointers vs) (reads_lead r (first_there p n X h)) (run_lead rs (others_there p n X h))

  -- an entry of a map is a record of its key and its value
  entry_there : {p : ℕ} {K : Key} {V : Shape} → EntryAmongPoints s points p K V → PartsAmong s points p 0 (part (key_shape K) (part V no_part))
  entry_there {p} {K} {V} h k q Y i = go i
    where
      last : {at k q : ℕ} {Y : Shape} → IsPartNumbered s p at no_part k q Y → ⊥
      last i = elim i [ ]

      go : {k q : ℕ} {Y : Shape} → IsPartNumbered s p 0 (part (key_shape K) (part V no_part)) k q Y → IsAmong s points q (a_value Y)
      go numbered_first = subst (λ n. IsAmong s points n (a_value (key_shape K))) (sym (key_at s.layouts K p)) h.key
      go (numbered_later numbered_first) = subst (λ n. IsAmong s points (p + n) (a_value V)) (sym (value_at s.layouts K V)) h.value
      go (numbered_later (numbered_later i)) = absurd (last i)

  entry_told : {p : ℕ} {K : Key} {V : Shape} {v : Value} (r : Reads s bytes p (entry_of K V) v) → EntryAmongPoints s points p K V → All (IsLeafTold bytes pieces) (leaves r)
  entry_told (reads_parts r) h = parts_told r (entry_there h)

  entry_leads : {p : ℕ} {K : Key} {V : Shape} {v : Value} → Reads s bytes p (entry_of K V) v → EntryAmongPoints s points p K V → All (TargetAmong s points) (pointers v)
  entry_leads (reads_parts r) h = parts_lead r (entry_there h)

  -- elements of which each is told, or leads to what is among the points
  each_told : {p n : ℕ} {X : Shape} {vs : Values} (r : ReadsRun s bytes p n X vs) → ((k q : ℕ) (v : Value) → k < n → q ≡ p + k * size_of s.layouts X → (e : Reads s bytes q X v) → All (IsLeafTold bytes pieces) (leaves e))
      → All (IsLeafTold bytes pieces) (leaves_of_run r)
  each_told reads_none h = All-nil (IsLeafTold bytes pieces)
  each_told (reads_element {p = p} {n = n} {X = X} {v = v} r rs) h =
      All-append (IsLeafTold bytes pieces) (leaves r) (leaves_of_run rs) (h 0 p v (omega arith) (omega arith) r) (each_told rs (λ k q w below is e. h (k + 1) q w (omega arith) (omega (arith, is)) e))

  each_leads : {p n : ℕ} {X : Shape} {vs : Values} → ReadsRun s bytes p n X vs → ((k q : ℕ) (v : Value) → k < n → q ≡ p + k * size_of s.layouts X → Reads s bytes q X v → All (TargetAmong s points) (pointers v))
      → All (TargetAmong s points) (all_pointers vs)
  each_leads reads_none h = All-nil (TargetAmong s points)
  each_leads (reads_element {p = p} {n = n} {X = X} {v = v} {vs = vs} r rs) h =
      All-append (TargetAmong s points) (pointers v) (all_pointers vs) (h 0 p v (omega arith) (omega arith) r) (each_leads rs (λ k q w below is e. h (k + 1) q w (omega arith) (omega (arith, is)) e))

  entries_told : {p n : ℕ} {K : Key} {V : Shape} {vs : Values} (r : ReadsRun s bytes p n (entry_of K V) vs) → EntriesAmong s points p n K V → All (IsLeafTold bytes pieces) (leaves_of_run r)
  entries_told {K = K} {V = V} r h = each_told r (λ k q v below is e. entry_told e (subst (λ z. EntryAmongPoints s points z K V) (sym is) (h k below)))

  entries_lead : {p n : ℕ} {K : Key} {V : Shape} {vs : Values} → ReadsRun s bytes p n (entry_of K V) vs → EntriesAmong s points p n K V → All (TargetAmong s points) (all_pointers vs)
  entries_lead {K = K} {V = V} r h = each_leads r (λ k q v below is e. entry_leads e (subst (λ z. EntryAmongPoints s points z K V) (sym is) (h k below)))

  -- what stands at t is among the points
  record Stands (t n : ℕ) (o : Option Key) (P : Pointee) : Type 0 where
    value : (X : Shape) → P ≡ one X → IsAmong s points t (a_value X)
    elements : (X : Shape) → o ≡ None → P ≡ run X → ElementsAmong s points t n X
    entries : (K : Key) (V : Shape) → o ≡ Some K → P ≡ run (entry_of K V) → EntriesAmong s points t n K V
    characters : P ≡ text → IsAmong s points t (a_text n)

  stands : (p : Pointer) (t : ℕ) → p.target ≡ pos t → TargetAmong s points p → Stands t p.length (order_of p) p.pointee
  stands p t there h = record {
    value = λ X is. h.to_value t X there is;
    elements = λ X free is. h.to_elements t X there free is;
    entries = λ K V keyed is. h.to_entries t K V there keyed is;
    characters = λ is. h.to_text t there is;
  }

  contents_told : {t n : ℕ} {o : Option Key} {P : Pointee} {v : Value} → Stands t n o P → IsInOrder s bytes t n o P → (c : Contents s bytes t P n v) → All (IsLeafTold bytes pieces) (leaves_of_contents c)
  contents_told h ordered (contents_one {X = X} r) = reads_told r (h.value X refl)
  contents_told h in_any_order (contents_run {X = X} r) = run_told r (h.elements X refl refl)
  contents_told h (in_key_order {K = K} {V = V} ascend) (contents_run r) = entries_told r (h.entries K V refl refl)
  contents_told {t} {n} h ordered (contents_text u) =
      one_told (text_leaf t (bytes_at bytes t n)) (told_characters (λ some. let few : 0 < n = omega (arith, some, bytes_few bytes t n) in told_text (text_there (h.characters refl) few)))

  contents_lead : {t n : ℕ} {o : Option Key} {P : Pointee} {v : Value} → Stands t n o P → IsInOrder s bytes t n o P → Contents s bytes t P n v → All (TargetAmong s points) (pointers v)
  contents_lead h ordered (contents_one {X = X} r) = reads_lead r (h.value X refl)
  contents_lead h in_any_order (contents_run {X = X} r) = run_lead r (h.elements X refl refl)
  contents_lead h (in_key_order {K = K} {V = V} ascend) (contents_run r) = entries_lead r (h.entries K V refl refl)
  contents_lead h ordered (contents_text u) = All-nil (TargetAmong s points)

  -- the leaves of a tour are told, if what its pointers lead to is among the points
  tour_told : {pending : List ℕ} {seen last : Seen} {O : List Pointer} {C : List Region} (i : Tour s bytes pending seen O C last) → All (TargetAmong s points) O → All (IsLeafTold bytes pieces) (leaves_of_tour i)
  tour_told tour_end h = All-nil (IsLeafTold bytes pieces)
  tour_told (tour_unique {p = p} {ps = O} {t = t} e l i j) h =
      let here = stands p t l.target (All-head (TargetAmong s points) p O h) in
      All-append (IsLeafTold bytes pieces) (leaves_of_tour i) (leaves_of_contents l.contents ++ leaves_of_tour j) (tour_told i (contents_lead here l.ordered l.contents))
      (All-append (IsLeafTold bytes pieces) (leaves_of_contents l.contents) (leaves_of_tour j) (contents_told here l.ordered l.contents) (tour_told j (All-tail (TargetAmong s points) p O h)))
  tour_told (tour_new {p = p} {ps = O} {t = t} e none l i j) h =
      let here = stands p t l.target (All-head (TargetAmong s points) p O h) in
      All-append (IsLeafTold bytes pieces) (leaves_of_tour i) (leaves_of_contents l.contents ++ leaves_of_tour j) (tour_told i (contents_lead here l.ordered l.contents))
      (All-append (IsLeafTold bytes pieces) (leaves_of_contents l.contents) (leaves_of_tour j) (contents_told here l.ordered l.contents) (tour_told j (All-tail (TargetAmong s points) p O h)))
  tour_told (tour_again {p = p} {ps = O} e t known free j) h = tour_told j (All-tail (TargetAmong s points) p O h)

  pub all_told : {root : ℕ} {X : Shape} (a : Accepted s bytes root X) → IsAmong s points root (a_value X) → All (IsLeafTold bytes pieces) (leaves_of a)
  all_told a h = All-append (IsLeafTold bytes pieces) (leaves_of_tour a.tour) (leaves a.flat.reads) (tour_told a.tour (reads_lead a.flat.reads h)) (reads_told a.flat.reads h)
