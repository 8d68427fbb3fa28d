-- A check that finds a fault finds no walk.
use Rattle.std.proofs.Common.{◌≡◌, ℕ, pos, refl, List, length, Option, Some, None, subst, ◌<◌, ◌^◌, Contains, IsTrue, false, arith, sym, ap, ◌∙◌, inl, inr, ◌⊎◌}
use Rattle.archive_check.specs.Shape.{Shape, Key, entry_of, Parts, Pointee, run, Flavor}
use Rattle.archive_check.specs.Value.{Pointer}
use Rattle.archive_check.specs.Reads.{SchemaTable}
use Rattle.archive_check.specs.Tour.{Seen, entry}
use Rattle.archive_check.specs.Walk.{RootWalk, Walk, walk_leaf, walk_parts, walk_choice, walk_array, walk_boxed, walk_vec, walk_map, walk_inline, walk_out_of_line, walk_shared, walk_null, walk_weak, walk_named, WalkParts, walk_no_part, walk_part, WalkRun, walk_none, walk_element, Follow, follow_unique, follow_new, follow_again, Enter, enter, WalkContents, walk_one, walk_run, walk_entries, walk_text}
use Rattle.archive_check.specs.Depth.{inside}
use Rattle.archive_check.specs.Trail.{RootTrips, Fault, Trips, trips_leaf, trips_parts, trips_tag, trips_choice, trips_array, trips_boxed, trips_vec, trips_map, trips_inline, trips_short, trips_out_of_line, trips_shared, trips_weak, trips_named, TripsParts, trips_first, trips_later, TripsRun, trips_element, trips_later_element, TripsEntries, trips_key, trips_order, trips_value, trips_later_entry, TripsFollow, trips_unique, trips_before, trips_new, trips_type, trips_length, trips_cycle, TripsEnter, trips_size, trips_range, trips_align, trips_depth, trips_within, TripsContents, trips_one, trips_run, trips_entries, trips_text}
use Rattle.archive_check.proofs.Tours.ReadingUnique.{pos_one}
use Rattle.archive_check.proofs.Maps.Entries.{entry_walk}
use Rattle.archive_check.specs.Keys.{Ascend}
use Rattle.archive_check.specs.Layout.{size_of}

-- where two walks come to
abbrev Meets : ℕ → Seen → ℕ → Seen → Type 0
Meets b m c n = (c ≡ b) × (n ≡ m)

no_cycle : (t : ℕ) (pending : List ℕ) (flavor : Flavor) → Contains pending t → flavor.cycles ≡ false → (Contains pending t → ⊥) ⊎ IsTrue flavor.cycles → ⊥
no_cycle t pending flavor inside none (inl free) = free inside
no_cycle t pending flavor inside none (inr cycles) = grind arith

module _ (s : SchemaTable) (bytes : List ℕ) where
  enter_target : {pending : List ℕ} {depth : Option ℕ} {stop t a : ℕ} {p : Pointer} {l : Seen} {b : ℕ} {m : Seen} → Enter s bytes pending depth stop p t a l b m → p.target ≡ pos t
  enter_target (enter e above below aligned allowed w) = e

  enter_here : {pending other : List ℕ} {depth : Option ℕ} {stop t u a : ℕ} {p : Pointer} {l k : Seen} {b : ℕ} {m : Seen} {c : ℕ} {n : Seen} → Enter s bytes pending depth stop p t a l b m → Enter s bytes other depth stop p u a k c n → u ≡ t
  enter_here v w = pos_one (sym (enter_target w) ∙ enter_target v)

  -- what a walk of entries goes through, and that their keys ascend
  pub walked_entries : {pending : List ℕ} {depth : Option ℕ} {stop t n a b : ℕ} {K : Key} {P : Pointee} {l m : Seen} (V : Shape) → P ≡ run (entry_of K V) → WalkContents s bytes pending depth stop t (Some K) P n a l b m
      → WalkRun s bytes pending depth stop t n (entry_of K V) a l b m × Ascend K bytes None t (size_of s.layouts (entry_of K V)) n
  walked_entries {pending} {depth} {stop} {t} {n} {a} {b} {l = l} {m = m} V e (walk_entries {K = K} {V = W} w h) =
      let same : W ≡ V = cc in
      (subst (λ X. WalkRun s bytes pending depth stop t n (entry_of K X) a l b m) same w, subst (λ X. Ascend K bytes None t (size_of s.layouts (entry_of K X)) n) same h)

  -- and what fails in one
  pub tripped_entries : {pending : List ℕ} {depth : Option ℕ} {stop t n a : ℕ} {K : Key} {P : Pointee} {l : Seen} {e : Fault} (V : Shape) → P ≡ run (entry_of K V) → TripsContents s bytes pending depth stop t (Some K) P n a l e
      → TripsEntries s bytes pending depth stop None t n K V a l e
  tripped_entries {pending} {depth} {stop} {t} {n} {a} {l = l} {e = f} V e (trips_entries {K = K} {V = W} v) =
      let same : W ≡ V = cc in subst (λ X. TripsEntries s bytes pending depth stop None t n K X a l f) same v

  mutual
    pub one_walk : {pending : List ℕ} {depth : Option ℕ} {stop p a b : ℕ} {l m : Seen} {X : Shape} {c : ℕ} {n : Seen} → Walk s bytes pending depth stop p X a l b m → Walk s bytes pending depth stop p X a l c n → Meets b m c n
    one_walk (walk_leaf h) (walk_leaf k) = (refl, refl)
    one_walk (walk_parts v) (walk_parts w) = one_parts v w
    one_walk (walk_choice {ps = ps} e v) (walk_choice {ps = qs} f w) = let same : qs ≡ ps = cc in one_parts v (rw same at w)
    one_walk (walk_array v) (walk_array w) = one_run v w
    one_walk (walk_boxed v) (walk_boxed w) = one_follow v w
    one_walk (walk_vec v) (walk_vec w) = one_follow v w
    one_walk (walk_map v) (walk_map w) = one_follow v w
    one_walk (walk_inline o h) (walk_inline q k) = (refl, refl)
    one_walk (walk_inline o h) (walk_out_of_line q k w) = absurd (o q)
    one_walk (walk_out_of_line o h v) (walk_inline q k) = absurd (q o)
    one_walk (walk_out_of_line o h v) (walk_out_of_line q k w) = one_follow v w
    one_walk (walk_shared v) (walk_shared w) = one_follow v w
    one_walk (walk_null e) (walk_null f) = (refl, refl)
    one_walk (walk_null e) (walk_weak f w) = absurd (f e)
    one_walk (walk_weak e v) (walk_null f) = absurd (e f)
    one_walk (walk_weak e v) (walk_weak f w) = one_follow v w
    one_walk (walk_named {X = X} d v) (walk_named {X = Y} e w) = let same : Y ≡ X = cc in one_walk v (rw same at w)

    pub one_parts : {pending : List ℕ} {depth : Option ℕ} {stop p at a b : ℕ} {l m : Seen} {ps : Parts} {c : ℕ} {n : Seen} → WalkParts s bytes pending depth stop p at ps a l b m → WalkParts s bytes pending depth stop p at ps a l c n → Meets b m c n
    one_parts walk_no_part walk_no_part = (refl, refl)
    one_parts (walk_part v vs) (walk_part w ws) = let here = one_walk v w in one_parts vs (rw (here.0, here.1) at ws)

    pub one_run : {pending : List ℕ} {depth : Option ℕ} {stop p k a b : ℕ} {l m : Seen} {X : Shape} {c : ℕ} {n : Seen} → WalkRun s bytes pending depth stop p k X a l b m → WalkRun s bytes pending depth stop p k X a l c n → Meets b m c n
    one_run walk_none walk_none = (refl, refl)
    one_run (walk_element v vs) (walk_element w ws) = let here = one_walk v w in one_run vs (rw (here.0, here.1) at ws)

    pub one_follow : {pending : List ℕ} {depth : Option ℕ} {stop a b : ℕ} {p : Pointer} {l m : Seen} {c : ℕ} {n : Seen} → Follow s bytes pending depth stop p a l b m → Follow s bytes pending depth stop p a l c n → Meets b m c n
    one_follow (follow_unique e v) (follow_unique f w) = one_enter v (rw (enter_here v w) at w)
    one_follow (follow_unique e v) (follow_new f none w) = cc
    one_follow (follow_unique e v) (follow_again f t known free) = cc
    one_follow (follow_new e none v) (follow_unique f w) = cc
    one_follow (follow_new {flavor = flavor} e none v) (follow_new {flavor = other} f never w) =
        let kind : other ≡ flavor = cc in one_enter v (rw (enter_here v w, kind) at w)
    one_follow (follow_new {t = t} e none v) (follow_again {t = u} f g known free) =
        let here : u ≡ t = pos_one (sym g ∙ enter_target v) in cc (rw here at known)
    one_follow (follow_again e t known free) (follow_unique f w) = cc
    one_follow (follow_again {t = t} e g known free) (follow_new {t = u} f none w) =
        let here : t ≡ u = pos_one (sym g ∙ enter_target w) in cc (rw here at known)
    one_follow (follow_again e t known free) (follow_again f u seen again) = (refl, refl)

    pub one_enter : {pending : List ℕ} {depth : Option ℕ} {stop t a : ℕ} {p : Pointer} {b : ℕ} {l m : Seen} {c : ℕ} {n : Seen} → Enter s bytes pending depth stop p t a l b m → Enter s bytes pending depth stop p t a l c n → Meets b m c n
    one_enter (enter e above below aligned enough v) (enter f over under straight allowed w) = (refl, (one_contents v w).1)

    pub one_contents : {pending : List ℕ} {depth : Option ℕ} {stop t k a b : ℕ} {o : Option Key} {P : Pointee} {l m : Seen} {c : ℕ} {n : Seen} → WalkContents s bytes pending depth stop t o P k a l b m → WalkContents s bytes pending depth stop t o P k a l c n → Meets b m c n
    one_contents (walk_one v) (walk_one w) = one_walk v w
    one_contents (walk_run v) (walk_run w) = one_run v w
    one_contents (walk_entries {V = V} v h) w = one_run v (walked_entries V refl w).0
    one_contents (walk_text u) (walk_text v) = (refl, refl)

  mutual
    pub trips_no_walk : {pending : List ℕ} {depth : Option ℕ} {stop p a : ℕ} {X : Shape} {l : Seen} {e : Fault} {b : ℕ} {m : Seen} → stop < 2 ^ 64 → Trips s bytes pending depth stop p X a l e → Walk s bytes pending depth stop p X a l b m → ⊥
    trips_no_walk room (trips_leaf h) (walk_leaf k) = h k
    trips_no_walk room (trips_parts t) (walk_parts w) = parts_no_walk room t w
    trips_no_walk room (trips_tag e) (walk_choice f w) = cc
    trips_no_walk room (trips_choice {ps = ps} e t) (walk_choice {ps = qs} f w) = let same : qs ≡ ps = cc in parts_no_walk room t (rw same at w)
    trips_no_walk room (trips_array t) (walk_array w) = run_no_walk room t w
    trips_no_walk room (trips_boxed t) (walk_boxed w) = follow_no_walk room t w
    trips_no_walk room (trips_vec t) (walk_vec w) = follow_no_walk room t w
    trips_no_walk room (trips_map t) (walk_map w) = follow_no_walk room t w
    trips_no_walk room (trips_inline o h) (walk_inline q k) = h k
    trips_no_walk room (trips_inline o h) (walk_out_of_line q k w) = o q
    trips_no_walk room (trips_short o h) (walk_inline q k) = q o
    trips_no_walk room (trips_short o h) (walk_out_of_line q k w) = omega arith
    trips_no_walk room (trips_out_of_line o h t) (walk_inline q k) = q o
    trips_no_walk room (trips_out_of_line o h t) (walk_out_of_line q k w) = follow_no_walk room t w
    trips_no_walk room (trips_shared t) (walk_shared w) = follow_no_walk room t w
    trips_no_walk room (trips_weak h t) (walk_null e) = h e
    trips_no_walk room (trips_weak h t) (walk_weak k w) = follow_no_walk room t w
    trips_no_walk room (trips_named {X = X} d t) (walk_named {X = Y} f w) = let same : Y ≡ X = cc in trips_no_walk room t (rw same at w)

    pub parts_no_walk : {pending : List ℕ} {depth : Option ℕ} {stop p at a : ℕ} {ps : Parts} {l : Seen} {e : Fault} {b : ℕ} {m : Seen} → stop < 2 ^ 64 → TripsParts s bytes pending depth stop p at ps a l e → WalkParts s bytes pending depth stop p at ps a l b m → ⊥
    parts_no_walk room (trips_first t) (walk_part w ws) = trips_no_walk room t w
    parts_no_walk room (trips_later v t) (walk_part w ws) = let here = one_walk v w in parts_no_walk room t (rw (here.0, here.1) at ws)

    pub run_no_walk : {pending : List ℕ} {depth : Option ℕ} {stop p k a : ℕ} {X : Shape} {l : Seen} {e : Fault} {b : ℕ} {m : Seen} → stop < 2 ^ 64 → TripsRun s bytes pending depth stop p k X a l e → WalkRun s bytes pending depth stop p k X a l b m → ⊥
    run_no_walk room (trips_element t) (walk_element w ws) = trips_no_walk room t w
    run_no_walk room (trips_later_element v t) (walk_element w ws) = let here = one_walk v w in run_no_walk room t (rw (here.0, here.1) at ws)

    pub entries_no_walk : {pending : List ℕ} {depth : Option ℕ} {stop p k a : ℕ} {before : Option ℕ} {K : Key} {V : Shape} {l : Seen} {e : Fault} {b : ℕ} {m : Seen} → stop < 2 ^ 64 → TripsEntries s bytes pending depth stop before p k K V a l e
        → WalkRun s bytes pending depth stop p k (entry_of K V) a l b m → Ascend K bytes before p (size_of s.layouts (entry_of K V)) k → ⊥
    entries_no_walk {K = K} {V = V} room (trips_key t) (walk_element w ws) h = let q = entry_walk s bytes K V w in trips_no_walk room t q.key
    entries_no_walk room (trips_order v other) (walk_element w ws) h = other h.0
    entries_no_walk {K = K} {V = V} room (trips_value v k t) (walk_element w ws) h =
        let q = entry_walk s bytes K V w in let here = one_walk v q.key in trips_no_walk room t (rw (here.0, here.1) at q.value)
    entries_no_walk room (trips_later_entry v k t) (walk_element w ws) h = let here = one_walk v w in entries_no_walk room t (rw (here.0, here.1) at ws) h.1

    pub follow_no_walk : {pending : List ℕ} {depth : Option ℕ} {stop a : ℕ} {p : Pointer} {l : Seen} {e : Fault} {b : ℕ} {m : Seen} → stop < 2 ^ 64 → TripsFollow s bytes pending depth stop p a l e → Follow s bytes pending depth stop p a l b m → ⊥
    follow_no_walk room (trips_unique f t) (follow_unique g w) = enter_no_walk room t w
    follow_no_walk room (trips_unique f t) (follow_new g none w) = cc
    follow_no_walk room (trips_unique f t) (follow_again g h known free) = cc
    follow_no_walk room (trips_before f h t) (follow_unique g w) = cc
    follow_no_walk room (trips_before f h t) (follow_new g none w) = h _ (enter_target w)
    follow_no_walk room (trips_before f h t) (follow_again g i known free) = h _ i
    follow_no_walk room (trips_new f h none t) (follow_unique g w) = cc
    follow_no_walk room (trips_new {t = t} {flavor = flavor} f h none i) (follow_new {t = u} {flavor = other} g never w) =
        let here : u ≡ t = pos_one (sym (enter_target w) ∙ h) in let kind : other ≡ flavor = cc in enter_no_walk room i (rw (here, kind) at w)
    follow_no_walk room (trips_new {t = t} f h none i) (follow_again {t = u} g j known free) =
        let here : u ≡ t = pos_one (sym j ∙ h) in cc (rw here at known)
    follow_no_walk room (trips_type f h known differ) (follow_unique g w) = cc
    follow_no_walk room (trips_type {t = t} f h known differ) (follow_new {t = u} g never w) =
        let here : u ≡ t = pos_one (sym (enter_target w) ∙ h) in cc (rw here at never)
    follow_no_walk room (trips_type {t = t} {p = p} {flavor = flavor} {old = old} f h known differ) (follow_again {t = u} {flavor = other} g j again free) =
        let here : u ≡ t = pos_one (sym j ∙ h) in let kind : other ≡ flavor = cc in
        let same : old ≡ entry flavor p = cc (rw here at again) in differ (ap (λ o. o.flavor) same, ap (λ o. o.pointee) same)
    follow_no_walk room (trips_length f h known alike differ) (follow_unique g w) = cc
    follow_no_walk room (trips_length {t = t} f h known alike differ) (follow_new {t = u} g never w) =
        let here : u ≡ t = pos_one (sym (enter_target w) ∙ h) in cc (rw here at never)
    follow_no_walk room (trips_length {t = t} {p = p} {flavor = flavor} {old = old} f h known alike differ) (follow_again {t = u} {flavor = other} g j again free) =
        let here : u ≡ t = pos_one (sym j ∙ h) in let kind : other ≡ flavor = cc in
        let same : old ≡ entry flavor p = cc (rw here at again) in differ (ap (λ o. o.length) same)
    follow_no_walk room (trips_cycle f h known inside none) (follow_unique g w) = cc
    follow_no_walk room (trips_cycle {t = t} f h known inside none) (follow_new {t = u} g never w) =
        let here : u ≡ t = pos_one (sym (enter_target w) ∙ h) in cc (rw here at never)
    follow_no_walk room (trips_cycle {t = t} {flavor = flavor} f h known inside none) (follow_again {t = u} {flavor = other} g j again free) =
        let here : u ≡ t = pos_one (sym j ∙ h) in let kind : other ≡ flavor = cc in no_cycle u _ other (rw here inside) (ap (λ x. x.cycles) kind ∙ none) free

    pub enter_no_walk : {pending : List ℕ} {depth : Option ℕ} {stop t a : ℕ} {p : Pointer} {l : Seen} {e : Fault} {b : ℕ} {m : Seen} → stop < 2 ^ 64 → TripsEnter s bytes pending depth stop p a l e → Enter s bytes pending depth stop p t a l b m → ⊥
    enter_no_walk room (trips_size h) (enter e above below aligned allowed w) = omega arith
    enter_no_walk room (trips_range small h) (enter e above below aligned allowed w) = h _ e above below
    enter_no_walk room (trips_align {t = u} e above below h) (enter {t = t} f over under aligned allowed w) =
        let here : t ≡ u = pos_one (sym f ∙ e) in h (rw here at aligned)
    enter_no_walk room (trips_depth e above below aligned h) (enter f over under straight allowed w) = h allowed
    enter_no_walk room (trips_within {t = u} e above below aligned enough i) (enter {t = t} f over under straight allowed w) =
        let here : t ≡ u = pos_one (sym f ∙ e) in contents_no_walk (omega arith) i (rw here at w)

    pub contents_no_walk : {pending : List ℕ} {depth : Option ℕ} {stop t k a : ℕ} {o : Option Key} {P : Pointee} {l : Seen} {e : Fault} {b : ℕ} {m : Seen} → stop < 2 ^ 64 → TripsContents s bytes pending depth stop t o P k a l e → WalkContents s bytes pending depth stop t o P k a l b m → ⊥
    contents_no_walk room (trips_one t) (walk_one w) = trips_no_walk room t w
    contents_no_walk room (trips_run t) (walk_run w) = run_no_walk room t w
    contents_no_walk room (trips_entries {V = V} t) w = let q = walked_entries V refl w in entries_no_walk room t q.0 q.1
    contents_no_walk room (trips_text h) (walk_text k) = h k

module _ (s : SchemaTable) (bytes : List ℕ) where
  -- what is walked from the root does not trip
  pub root_no_walk : {limit : Option ℕ} {root : ℕ} {X : Shape} {fault : Fault} → length bytes < 2 ^ 64 → RootTrips s bytes limit root X fault → RootWalk s bytes limit root X → ⊥
  root_no_walk small t w = enter_no_walk s bytes small t w.walk
