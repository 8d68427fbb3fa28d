-- Whether a buffer is accepted is told by the definitions of the names that the expression reaches, and by no other ones.
use Rattle.std.proofs.Common.{◌≡◌, ◌≢◌, ◌↔◌, ℕ, zero, suc, refl, sym, ap, ◌∙◌, subst, ◌+◌, ◌*◌, ◌%◌, ◌^◌, ◌<◌, ◌≤◌, pos, List, Option, Some, None}
use Rattle.archive_check.specs.Shape.{Name, Shape, Key, key_shape, entry_of, Pointee, one, run, text, Parts, part, Variants, variant, no_variant, variant_at, definition, vec, sorted_map}
use Rattle.archive_check.specs.Layout.{up, size_of, align_of}
use Rattle.archive_check.specs.Value.{Pointer}
use Rattle.archive_check.specs.Reads.{SchemaTable}
use Rattle.archive_check.specs.Tour.{Seen, pointee_size, pointee_align}
use Rattle.archive_check.specs.Keys.{order_of, ComesBehind, Ascend}
use Rattle.archive_check.proofs.Maps.Entries.{entry_mentions}
use Rattle.archive_check.specs.Depth.{Allows, inside, AcceptedWithin}
use Rattle.archive_check.specs.Defined.{holds_name, Mentions, mentions_held, mentions_array, mentions_parts, mentions_choice, mentions_boxed, mentions_vec, mentions_map, mentions_shared, mentions_weak, PointeeMentions, mentions_one, mentions_run, PartsMention, mentions_first, mentions_later, VariantsMention, mentions_variant, mentions_other, Reaches, reaches, reaches_through}
use Rattle.archive_check.specs.Walk.{Walk, walk_leaf, walk_parts, walk_choice, walk_array, walk_boxed, walk_vec, walk_map, walk_inline, walk_out_of_line, walk_shared, walk_null, walk_weak, walk_named, WalkParts, walk_no_part, walk_part, WalkRun, walk_none, walk_element, Follow, follow_unique, follow_new, follow_again, Enter, enter, WalkContents, walk_one, walk_run, walk_entries, walk_text, RootWalk}
use Rattle.archive_check.specs.Trail.{Fault, too_large, outside, unaligned, too_deep, Trips, trips_leaf, trips_parts, trips_tag, trips_choice, trips_array, trips_boxed, trips_vec, trips_map, trips_inline, trips_short, trips_out_of_line, trips_shared, trips_weak, trips_named, TripsParts, trips_first, trips_later, TripsRun, trips_element, trips_later_element, TripsEntries, trips_key, trips_order, trips_value, trips_later_entry, TripsFollow, trips_unique, trips_before, trips_new, trips_type, trips_length, trips_cycle, TripsEnter, trips_size, trips_range, trips_align, trips_depth, trips_within, TripsContents, trips_one, trips_run, trips_entries, trips_text, RootTrips}
use Rattle.archive_check.proofs.Checks.AcceptedWalks.{walked, walks}
use Rattle.archive_check.proofs.Names.SameLayouts.{align_same, size_same}
use Rattle.archive_check.proofs.Names.LaidOutNames.{reaches_next}

-- the schemas say the same of the name
pub record SameName (s s' : SchemaTable) (name : Name) : Type 0 where
  pub definition_is : definition s.table name ≡ definition s'.table name
  pub layout_is : s.layouts name ≡ s'.layouts name

module _ (s s' : SchemaTable) (X : Shape) where
  -- the names here are reached from X
  abbrev pub Known : Shape → Type 0
  Known Y = (n : Name) → Mentions n Y → Reaches s.table n X

  abbrev pub KnownPointee : Pointee → Type 0
  KnownPointee P = (n : Name) → PointeeMentions n P → Reaches s.table n X

  abbrev pub KnownParts : Parts → Type 0
  KnownParts ps = (n : Name) → PartsMention n ps → Reaches s.table n X

  abbrev pub KnownVariants : Variants → Type 0
  KnownVariants vs = (n : Name) → VariantsMention n vs → Reaches s.table n X

  known_variant : (vs : Variants) (tag : ℕ) (ps : Parts) → KnownVariants vs → variant_at vs tag ≡ Some ps → KnownParts ps
  known_variant no_variant tag ps k e = cc
  known_variant (variant qs vs) zero ps k e = let same : qs ≡ ps = cc in rw same at (λ (n : Name) (h : PartsMention n qs). k n (mentions_variant h))
  known_variant (variant qs vs) (suc tag) ps k e = known_variant vs tag ps (λ n h. k n (mentions_other h)) e

  known_text : KnownPointee text
  known_text n h = elim h [ ]

  known_run : {Y : Shape} → ((n : Name) → Mentions n (vec Y) → Reaches s.table n X) → KnownPointee (run Y)
  known_run k n (mentions_run h) = k n (mentions_vec h)

  known_entries : {K : Key} {V : Shape} → ((n : Name) → Mentions n (sorted_map K V) → Reaches s.table n X) → KnownPointee (run (entry_of K V))
  known_entries {K} k n (mentions_run h) = k n (mentions_map (entry_mentions K h))

  known_key : (K : Key) (V : Shape) → Known (entry_of K V) → Known (key_shape K)
  known_key K V k n h = k n (mentions_parts (mentions_first h))

  known_value : (K : Key) (V : Shape) → Known (entry_of K V) → Known V
  known_value K V k n h = k n (mentions_parts (mentions_later (mentions_first h)))

  known_defined : (name : Name) (Y : Shape) → Reaches s.table name X → definition s.table name ≡ Some Y → Known Y
  known_defined name Y r d n h = reaches_next s.table r d h

  module _ (same : (name : Name) → Reaches s.table name X → SameName s s' name) (bytes : List ℕ) where
    same_align : (Y : Shape) → Known Y → align_of s.layouts Y ≡ align_of s'.layouts Y
    same_align Y k = align_same s.layouts s'.layouts Y (λ n h. (same n (k n (mentions_held h))).layout_is)

    same_size : (Y : Shape) → Known Y → size_of s.layouts Y ≡ size_of s'.layouts Y
    same_size Y k = size_same s.layouts s'.layouts Y (λ n h. (same n (k n (mentions_held h))).layout_is)

    same_pointee_align : (P : Pointee) → KnownPointee P → pointee_align s P ≡ pointee_align s' P
    same_pointee_align (one Y) k = same_align Y (λ n h. k n (mentions_one h))
    same_pointee_align (run Y) k = same_align Y (λ n h. k n (mentions_run h))
    same_pointee_align text k = refl

    same_pointee_size : (P : Pointee) (l : ℕ) → KnownPointee P → pointee_size s P l ≡ pointee_size s' P l
    same_pointee_size (one Y) l k = same_size Y (λ n h. k n (mentions_one h))
    same_pointee_size (run Y) l k = ap (λ x. l * x) (same_size Y (λ n h. k n (mentions_run h)))
    same_pointee_size text l k = refl

    part_again : {pending : List ℕ} {depth : Option ℕ} {stop start mid later : ℕ} {seen known last : Seen} (p at : ℕ) (Y : Shape) (ps : Parts) → Known Y
        → Walk s' bytes pending depth stop (p + up at (align_of s.layouts Y)) Y start seen mid known
        → WalkParts s' bytes pending depth stop p (up at (align_of s.layouts Y) + size_of s.layouts Y) ps mid known later last
        → WalkParts s' bytes pending depth stop p at (part Y ps) start seen later last
    part_again p at Y ps k w ws = let a = same_align Y k in let z = same_size Y k in walk_part (rw a at w) (rw (a, z) at ws)

    element_again : {pending : List ℕ} {depth : Option ℕ} {stop start mid later : ℕ} {seen known last : Seen} (p n : ℕ) (Y : Shape) → Known Y
        → Walk s' bytes pending depth stop p Y start seen mid known
        → WalkRun s' bytes pending depth stop (p + size_of s.layouts Y) n Y mid known later last
        → WalkRun s' bytes pending depth stop p (suc n) Y start seen later last
    element_again p n Y k w ws = walk_element w (rw (same_size Y k) at ws)

    enter_again : {pending : List ℕ} {depth : Option ℕ} {stop start mid : ℕ} {seen last : Seen} (t : ℕ) (p : Pointer) → KnownPointee p.pointee
        → p.target ≡ pos t → start ≤ t → t + pointee_size s p.pointee p.length ≤ stop → t % pointee_align s p.pointee ≡ 0 → Allows depth 1
        → WalkContents s' bytes pending (inside depth) t t (order_of p) p.pointee p.length start seen mid last
        → Enter s' bytes pending depth stop p t start seen (t + pointee_size s p.pointee p.length) last
    enter_again t p k e above below aligned allowed w =
        let a = same_pointee_align p.pointee k in
        let z = same_pointee_size p.pointee p.length k in
        rw z (enter e above (rw z at below) (rw a at aligned) allowed w)

    mutual
      walk_again : {pending : List ℕ} {depth : Option ℕ} {stop p start later : ℕ} {seen last : Seen} {Y : Shape} → Walk s bytes pending depth stop p Y start seen later last → Known Y → Walk s' bytes pending depth stop p Y start seen later last
      walk_again (walk_leaf h) k = walk_leaf h
      walk_again (walk_parts w) k = walk_parts (parts_again w (λ n h. k n (mentions_parts h)))
      walk_again (walk_choice {variants = vs} {ps = ps} e w) k = walk_choice e (parts_again w (known_variant vs _ ps (λ n h. k n (mentions_choice h)) e))
      walk_again (walk_array w) k = walk_array (run_again w (λ n h. k n (mentions_array h)))
      walk_again (walk_boxed w) k = walk_boxed (follow_same w (λ n h. k n (mentions_boxed h)))
      walk_again (walk_vec w) k = walk_vec (follow_same w (λ n h. known_run k n h))
      walk_again (walk_map w) k = walk_map (follow_same w (λ n h. known_entries k n h))
      walk_again (walk_inline o h) k = walk_inline o h
      walk_again (walk_out_of_line o h w) k = walk_out_of_line o h (follow_same w known_text)
      walk_again (walk_shared w) k = walk_shared (follow_same w (λ n h. k n (mentions_shared h)))
      walk_again (walk_null e) k = walk_null e
      walk_again (walk_weak e w) k = walk_weak e (follow_same w (λ n h. k n (mentions_weak h)))
      walk_again (walk_named {name = name} {X = Y} d w) k =
          let r = k name (mentions_held holds_name) in walk_named (sym (same name r).definition_is ∙ d) (walk_again w (known_defined name Y r d))

      parts_again : {pending : List ℕ} {depth : Option ℕ} {stop p at start later : ℕ} {seen last : Seen} {ps : Parts} → WalkParts s bytes pending depth stop p at ps start seen later last → KnownParts ps → WalkParts s' bytes pending depth stop p at ps start seen later last
      parts_again walk_no_part k = walk_no_part
      parts_again (walk_part {p = p} {at = at} {X = Y} {ps = ps} w ws) k =
          part_again p at Y ps (λ n h. k n (mentions_first h)) (walk_again w (λ n h. k n (mentions_first h))) (parts_again ws (λ n h. k n (mentions_later h)))

      run_again : {pending : List ℕ} {depth : Option ℕ} {stop p n start later : ℕ} {seen last : Seen} {Y : Shape} → WalkRun s bytes pending depth stop p n Y start seen later last → Known Y → WalkRun s' bytes pending depth stop p n Y start seen later last
      run_again walk_none k = walk_none
      run_again (walk_element {p = p} {n = n} {X = Y} w ws) k = element_again p n Y k (walk_again w k) (run_again ws k)

      follow_same : {pending : List ℕ} {depth : Option ℕ} {stop start later : ℕ} {seen last : Seen} {p : Pointer} → Follow s bytes pending depth stop p start seen later last → KnownPointee p.pointee → Follow s' bytes pending depth stop p start seen later last
      follow_same (follow_unique e w) k = follow_unique e (enter_same w k)
      follow_same (follow_new e none w) k = follow_new e none (enter_same w k)
      follow_same (follow_again e t known free) k = follow_again e t known free

      enter_same : {pending : List ℕ} {depth : Option ℕ} {stop t start : ℕ} {p : Pointer} {seen last : Seen} {later : ℕ} → Enter s bytes pending depth stop p t start seen later last → KnownPointee p.pointee → Enter s' bytes pending depth stop p t start seen later last
      enter_same (enter {t = t} {p = p} e above below aligned allowed w) k = enter_again t p k e above below aligned allowed (contents_again w k)

      contents_again : {pending : List ℕ} {depth : Option ℕ} {stop t n start later : ℕ} {seen last : Seen} {o : Option Key} {P : Pointee} → WalkContents s bytes pending depth stop t o P n start seen later last → KnownPointee P → WalkContents s' bytes pending depth stop t o P n start seen later last
      contents_again (walk_one w) k = walk_one (walk_again w (λ n h. k n (mentions_one h)))
      contents_again (walk_run w) k = walk_run (run_again w (λ n h. k n (mentions_run h)))
      contents_again (walk_entries {t = t} {n = n} {K = K} {V = V} w h) k =
          let z = same_size (entry_of K V) (λ n h. k n (mentions_run h)) in walk_entries (run_again w (λ n h. k n (mentions_run h))) (subst (λ m. Ascend K bytes None t m n) z h)
      contents_again (walk_text h) k = walk_text h

    first_trips : {pending : List ℕ} {depth : Option ℕ} {stop start : ℕ} {seen : Seen} {e : Fault} (p at : ℕ) (Y : Shape) (ps : Parts) → Known Y
        → Trips s' bytes pending depth stop (p + up at (align_of s.layouts Y)) Y start seen e → TripsParts s' bytes pending depth stop p at (part Y ps) start seen e
    first_trips p at Y ps k t = trips_first (rw (same_align Y k) at t)

    later_trips : {pending : List ℕ} {depth : Option ℕ} {stop start mid : ℕ} {seen known : Seen} {e : Fault} (p at : ℕ) (Y : Shape) (ps : Parts) → Known Y
        → Walk s' bytes pending depth stop (p + up at (align_of s.layouts Y)) Y start seen mid known
        → TripsParts s' bytes pending depth stop p (up at (align_of s.layouts Y) + size_of s.layouts Y) ps mid known e
        → TripsParts s' bytes pending depth stop p at (part Y ps) start seen e
    later_trips p at Y ps k w t = let a = same_align Y k in let z = same_size Y k in trips_later (rw a at w) (rw (a, z) at t)

    element_trips : {pending : List ℕ} {depth : Option ℕ} {stop start mid : ℕ} {seen known : Seen} {e : Fault} (p n : ℕ) (Y : Shape) → Known Y
        → Walk s' bytes pending depth stop p Y start seen mid known
        → TripsRun s' bytes pending depth stop (p + size_of s.layouts Y) n Y mid known e
        → TripsRun s' bytes pending depth stop p (suc n) Y start seen e
    element_trips p n Y k w t = trips_later_element w (rw (same_size Y k) at t)

    value_trips : {pending : List ℕ} {depth : Option ℕ} {stop start mid : ℕ} {seen known : Seen} {e : Fault} (before : Option ℕ) (p n : ℕ) (K : Key) (V : Shape) → Known (entry_of K V)
        → Walk s' bytes pending depth stop p (key_shape K) start seen mid known
        → ComesBehind K bytes before p
        → Trips s' bytes pending depth stop (p + up (size_of s.layouts (key_shape K)) (align_of s.layouts V)) V mid known e
        → TripsEntries s' bytes pending depth stop before p (suc n) K V start seen e
    value_trips before p n K V k w h t = let z = same_size (key_shape K) (known_key K V k) in let a = same_align V (known_value K V k) in trips_value w h (rw (z, a) at t)

    later_entry_trips : {pending : List ℕ} {depth : Option ℕ} {stop start mid : ℕ} {seen known : Seen} {e : Fault} (before : Option ℕ) (p n : ℕ) (K : Key) (V : Shape) → Known (entry_of K V)
        → Walk s' bytes pending depth stop p (entry_of K V) start seen mid known
        → ComesBehind K bytes before p
        → TripsEntries s' bytes pending depth stop (Some p) (p + size_of s.layouts (entry_of K V)) n K V mid known e
        → TripsEntries s' bytes pending depth stop before p (suc n) K V start seen e
    later_entry_trips {pending = pending} {depth = depth} {stop = stop} {mid = mid} {known = known} {e = e} before p n K V k w h t =
        let z = same_size (entry_of K V) k in
        trips_later_entry w h (subst (λ m. TripsEntries s' bytes pending depth stop (Some p) (p + m) n K V mid known e) z t)

    large_trips : {pending : List ℕ} {depth : Option ℕ} {stop start : ℕ} {seen : Seen} (p : Pointer) → KnownPointee p.pointee → 2 ^ 64 ≤ pointee_size s p.pointee p.length → TripsEnter s' bytes pending depth stop p start seen too_large
    large_trips p k h = trips_size (rw (same_pointee_size p.pointee p.length k) at h)

    outside_trips : {pending : List ℕ} {depth : Option ℕ} {stop start : ℕ} {seen : Seen} (p : Pointer) → KnownPointee p.pointee → pointee_size s p.pointee p.length < 2 ^ 64
        → ((t : ℕ) → p.target ≡ pos t → start ≤ t → t + pointee_size s p.pointee p.length ≤ stop → ⊥)
        → TripsEnter s' bytes pending depth stop p start seen (outside p.target (pointee_size s p.pointee p.length) start stop)
    outside_trips {stop = stop} {start = start} p k few nowhere =
        let z = same_pointee_size p.pointee p.length k in
        let nowhere' : (t : ℕ) → p.target ≡ pos t → start ≤ t → t + pointee_size s' p.pointee p.length ≤ stop → ⊥ = λ t e above below. nowhere t e above (rw z below) in
        rw z (trips_range {p = p} (rw z at few) nowhere')

    unaligned_trips : {pending : List ℕ} {depth : Option ℕ} {stop start : ℕ} {seen : Seen} (t : ℕ) (p : Pointer) → KnownPointee p.pointee → p.target ≡ pos t → start ≤ t → t + pointee_size s p.pointee p.length ≤ stop
        → t % pointee_align s p.pointee ≢ 0 → TripsEnter s' bytes pending depth stop p start seen (unaligned t (pointee_align s p.pointee))
    unaligned_trips t p k e above below h =
        let a = same_pointee_align p.pointee k in rw a (trips_align {p = p} e above (rw (same_pointee_size p.pointee p.length k) at below) (rw a at h))

    deep_trips : {pending : List ℕ} {depth : Option ℕ} {stop start : ℕ} {seen : Seen} (t : ℕ) (p : Pointer) → KnownPointee p.pointee → p.target ≡ pos t → start ≤ t → t + pointee_size s p.pointee p.length ≤ stop
        → t % pointee_align s p.pointee ≡ 0 → (Allows depth 1 → ⊥) → TripsEnter s' bytes pending depth stop p start seen too_deep
    deep_trips t p k e above below aligned h =
        trips_depth {p = p} e above (rw (same_pointee_size p.pointee p.length k) at below) (rw (same_pointee_align p.pointee k) at aligned) h

    within_trips : {pending : List ℕ} {depth : Option ℕ} {stop start : ℕ} {seen : Seen} {f : Fault} (t : ℕ) (p : Pointer) → KnownPointee p.pointee → p.target ≡ pos t → start ≤ t → t + pointee_size s p.pointee p.length ≤ stop
        → t % pointee_align s p.pointee ≡ 0 → Allows depth 1 → TripsContents s' bytes pending (inside depth) t t (order_of p) p.pointee p.length start seen f → TripsEnter s' bytes pending depth stop p start seen f
    within_trips t p k e above below aligned allowed w =
        trips_within {p = p} e above (rw (same_pointee_size p.pointee p.length k) at below) (rw (same_pointee_align p.pointee k) at aligned) allowed w

    mutual
      trips_again : {pending : List ℕ} {depth : Option ℕ} {stop p start : ℕ} {seen : Seen} {Y : Shape} {e : Fault} → Trips s bytes pending depth stop p Y start seen e → Known Y → Trips s' bytes pending depth stop p Y start seen e
      trips_again (trips_leaf h) k = trips_leaf h
      trips_again (trips_parts t) k = trips_parts (parts_trip t (λ n h. k n (mentions_parts h)))
      trips_again (trips_tag e) k = trips_tag e
      trips_again (trips_choice {variants = vs} {ps = ps} e t) k = trips_choice e (parts_trip t (known_variant vs _ ps (λ n h. k n (mentions_choice h)) e))
      trips_again (trips_array t) k = trips_array (run_trips t (λ n h. k n (mentions_array h)))
      trips_again (trips_boxed t) k = trips_boxed (follow_trips t (λ n h. k n (mentions_boxed h)))
      trips_again (trips_vec t) k = trips_vec (follow_trips t (λ n h. known_run k n h))
      trips_again (trips_map t) k = trips_map (follow_trips t (λ n h. known_entries k n h))
      trips_again (trips_inline o h) k = trips_inline o h
      trips_again (trips_short o h) k = trips_short o h
      trips_again (trips_out_of_line o h t) k = trips_out_of_line o h (follow_trips t known_text)
      trips_again (trips_shared t) k = trips_shared (follow_trips t (λ n h. k n (mentions_shared h)))
      trips_again (trips_weak e t) k = trips_weak e (follow_trips t (λ n h. k n (mentions_weak h)))
      trips_again (trips_named {name = name} {X = Y} d t) k =
          let r = k name (mentions_held holds_name) in trips_named (sym (same name r).definition_is ∙ d) (trips_again t (known_defined name Y r d))

      parts_trip : {pending : List ℕ} {depth : Option ℕ} {stop p at start : ℕ} {seen : Seen} {ps : Parts} {e : Fault} → TripsParts s bytes pending depth stop p at ps start seen e → KnownParts ps → TripsParts s' bytes pending depth stop p at ps start seen e
      parts_trip (trips_first {p = p} {at = at} {X = Y} {ps = ps} t) k = first_trips p at Y ps (λ n h. k n (mentions_first h)) (trips_again t (λ n h. k n (mentions_first h)))
      parts_trip (trips_later {p = p} {at = at} {X = Y} {ps = ps} w t) k =
          later_trips p at Y ps (λ n h. k n (mentions_first h)) (walk_again w (λ n h. k n (mentions_first h))) (parts_trip t (λ n h. k n (mentions_later h)))

      run_trips : {pending : List ℕ} {depth : Option ℕ} {stop p n start : ℕ} {seen : Seen} {Y : Shape} {e : Fault} → TripsRun s bytes pending depth stop p n Y start seen e → Known Y → TripsRun s' bytes pending depth stop p n Y start seen e
      run_trips (trips_element t) k = trips_element (trips_again t k)
      run_trips (trips_later_element {p = p} {n = n} {X = Y} w t) k = element_trips p n Y k (walk_again w k) (run_trips t k)

      entries_trip : {pending : List ℕ} {depth : Option ℕ} {stop p n start : ℕ} {before : Option ℕ} {seen : Seen} {K : Key} {V : Shape} {e : Fault} → TripsEntries s bytes pending depth stop before p n K V start seen e → Known (entry_of K V) → TripsEntries s' bytes pending depth stop before p n K V start seen e
      entries_trip (trips_key {K = K} {V = V} t) k = trips_key (trips_again t (known_key K V k))
      entries_trip (trips_order {K = K} {V = V} w h) k = trips_order (walk_again w (known_key K V k)) h
      entries_trip (trips_value {p = p} {n = n} {before = before} {K = K} {V = V} w h t) k = value_trips before p n K V k (walk_again w (known_key K V k)) h (trips_again t (known_value K V k))
      entries_trip (trips_later_entry {p = p} {n = n} {before = before} {K = K} {V = V} w h t) k = later_entry_trips before p n K V k (walk_again w k) h (entries_trip t k)

      follow_trips : {pending : List ℕ} {depth : Option ℕ} {stop start : ℕ} {seen : Seen} {p : Pointer} {e : Fault} → TripsFollow s bytes pending depth stop p start seen e → KnownPointee p.pointee → TripsFollow s' bytes pending depth stop p start seen e
      follow_trips (trips_unique e t) k = trips_unique e (enter_trips t k)
      follow_trips (trips_before e nowhere t) k = trips_before e nowhere (enter_trips t k)
      follow_trips (trips_new e is none t) k = trips_new e is none (enter_trips t k)
      follow_trips (trips_type e is known other) k = trips_type e is known other
      follow_trips (trips_length e is known alike other) k = trips_length e is known alike other
      follow_trips (trips_cycle e is known within none) k = trips_cycle e is known within none

      enter_trips : {pending : List ℕ} {depth : Option ℕ} {stop start : ℕ} {seen : Seen} {p : Pointer} {e : Fault} → TripsEnter s bytes pending depth stop p start seen e → KnownPointee p.pointee → TripsEnter s' bytes pending depth stop p start seen e
      enter_trips (trips_size {p = p} h) k = large_trips p k h
      enter_trips (trips_range {p = p} few nowhere) k = outside_trips p k few nowhere
      enter_trips (trips_align {t = t} {p = p} e above below h) k = unaligned_trips t p k e above below h
      enter_trips (trips_depth {t = t} {p = p} e above below aligned h) k = deep_trips t p k e above below aligned h
      enter_trips (trips_within {t = t} {p = p} e above below aligned allowed w) k = within_trips t p k e above below aligned allowed (contents_trip w k)

      contents_trip : {pending : List ℕ} {depth : Option ℕ} {stop t n start : ℕ} {seen : Seen} {o : Option Key} {P : Pointee} {e : Fault} → TripsContents s bytes pending depth stop t o P n start seen e → KnownPointee P → TripsContents s' bytes pending depth stop t o P n start seen e
      contents_trip (trips_one t) k = trips_one (trips_again t (λ n h. k n (mentions_one h)))
      contents_trip (trips_run t) k = trips_run (run_trips t (λ n h. k n (mentions_run h)))
      contents_trip (trips_entries t) k = trips_entries (entries_trip t (λ n h. k n (mentions_run h)))
      contents_trip (trips_text h) k = trips_text h

    root_known : KnownPointee (one X)
    root_known n (mentions_one h) = reaches h

    root_trips : {limit : Option ℕ} {root : ℕ} {fault : Fault} → RootTrips s bytes limit root X fault → RootTrips s' bytes limit root X fault
    root_trips t = enter_trips t root_known

    root_again : {limit : Option ℕ} {root : ℕ} → RootWalk s bytes limit root X → RootWalk s' bytes limit root X
    root_again w = record { later = w.later; last = w.last; walk = enter_same w.walk root_known }

module _ (s s' : SchemaTable) (X : Shape) (same : (name : Name) → Reaches s.table name X → SameName s s' name) where
  -- both schemas reach the same names
  reached_back : {name : Name} {Y : Shape} → Reaches s'.table name Y → Known s s' X Y → Reaches s.table name X
  reached_back (reaches m) k = k _ m
  reached_back (reaches_through {Y = Z} {n = n} m d r) k = let q = k n m in reached_back r (known_defined s s' X n Z q ((same n q).definition_is ∙ d))

  same_symmetric : (name : Name) → Reaches s'.table name X → SameName s' s name
  same_symmetric name r = let q = same name (reached_back r (λ n m. reaches m)) in record { definition_is = sym q.definition_is; layout_is = sym q.layout_is }

  -- two schemas that say the same of the names reached accept the same buffers, with any limit of depth
  pub same_accepted_within : (bytes : List ℕ) (limit : Option ℕ) (root : ℕ) → AcceptedWithin s bytes limit root X ↔ AcceptedWithin s' bytes limit root X
  same_accepted_within bytes limit root =
      (λ a. walked s' bytes limit root X (root_again s s' X same bytes (walks s bytes limit root X a)), λ a. walked s bytes limit root X (root_again s' s X same_symmetric bytes (walks s' bytes limit root X a)))

  -- and a check finds the same faults
  pub same_faults : (bytes : List ℕ) (limit : Option ℕ) (root : ℕ) (fault : Fault) → RootTrips s bytes limit root X fault ↔ RootTrips s' bytes limit root X fault
  same_faults bytes limit root fault = (λ t. root_trips s s' X same bytes t, λ t. root_trips s' s X same_symmetric bytes t)
