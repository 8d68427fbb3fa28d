-- What a check with a limit of depth comes to, but for a region that is too deep, one without a limit comes to as well.
use Rattle.std.proofs.Common.{◌≡◌, ℕ, refl, List, Option, None}
use Rattle.archive_check.specs.Shape.{Shape, Key, Parts, Pointee}
use Rattle.archive_check.specs.Value.{Pointer}
use Rattle.archive_check.specs.Reads.{SchemaTable}
use Rattle.archive_check.specs.Tour.{Seen}
use Rattle.archive_check.specs.Walk.{Walk, walk_leaf, walk_parts, walk_choice, walk_array, walk_boxed, walk_vec, walk_map, walk_inline, walk_out_of_line, walk_shared, walk_null, walk_weak, walk_named, WalkParts, walk_no_part, walk_part, WalkRun, walk_none, walk_element, Follow, follow_unique, follow_new, follow_again, Enter, enter, WalkContents, walk_one, walk_run, walk_entries, walk_text}
use Rattle.archive_check.specs.Trail.{RootTrips, Fault, too_deep, Trips, trips_leaf, trips_parts, trips_tag, trips_choice, trips_array, trips_boxed, trips_vec, trips_map, trips_inline, trips_short, trips_out_of_line, trips_shared, trips_weak, trips_named, TripsParts, trips_first, trips_later, TripsRun, trips_element, trips_later_element, TripsEntries, trips_key, trips_order, trips_value, trips_later_entry, TripsFollow, trips_unique, trips_before, trips_new, trips_type, trips_length, trips_cycle, TripsEnter, trips_size, trips_range, trips_align, trips_depth, trips_within, TripsContents, trips_one, trips_run, trips_entries, trips_text}

module _ (s : SchemaTable) (bytes : List ℕ) where
  mutual
    walk_free : {pending : List ℕ} {depth : Option ℕ} {stop p a b : ℕ} {X : Shape} {l m : Seen} → Walk s bytes pending depth stop p X a l b m → Walk s bytes pending None stop p X a l b m
    walk_free (walk_leaf h) = walk_leaf h
    walk_free (walk_parts w) = walk_parts (parts_free w)
    walk_free (walk_choice e w) = walk_choice e (parts_free w)
    walk_free (walk_array w) = walk_array (run_free w)
    walk_free (walk_boxed w) = walk_boxed (follow_free w)
    walk_free (walk_vec w) = walk_vec (follow_free w)
    walk_free (walk_map w) = walk_map (follow_free w)
    walk_free (walk_inline o h) = walk_inline o h
    walk_free (walk_out_of_line o h w) = walk_out_of_line o h (follow_free w)
    walk_free (walk_shared w) = walk_shared (follow_free w)
    walk_free (walk_null e) = walk_null e
    walk_free (walk_weak e w) = walk_weak e (follow_free w)
    walk_free (walk_named d w) = walk_named d (walk_free w)

    parts_free : {pending : List ℕ} {depth : Option ℕ} {stop p at a b : ℕ} {ps : Parts} {l m : Seen} → WalkParts s bytes pending depth stop p at ps a l b m → WalkParts s bytes pending None stop p at ps a l b m
    parts_free walk_no_part = walk_no_part
    parts_free (walk_part w ws) = walk_part (walk_free w) (parts_free ws)

    run_free : {pending : List ℕ} {depth : Option ℕ} {stop p n a b : ℕ} {X : Shape} {l m : Seen} → WalkRun s bytes pending depth stop p n X a l b m → WalkRun s bytes pending None stop p n X a l b m
    run_free walk_none = walk_none
    run_free (walk_element w ws) = walk_element (walk_free w) (run_free ws)

    follow_free : {pending : List ℕ} {depth : Option ℕ} {stop a b : ℕ} {p : Pointer} {l m : Seen} → Follow s bytes pending depth stop p a l b m → Follow s bytes pending None stop p a l b m
    follow_free (follow_unique e w) = follow_unique e (enter_free w)
    follow_free (follow_new e none w) = follow_new e none (enter_free w)
    follow_free (follow_again e t known free) = follow_again e t known free

    enter_free : {pending : List ℕ} {depth : Option ℕ} {stop t a b : ℕ} {p : Pointer} {l m : Seen} → Enter s bytes pending depth stop p t a l b m → Enter s bytes pending None stop p t a l b m
    enter_free (enter e above below aligned allowed w) = enter e above below aligned tt (contents_free w)

    contents_free : {pending : List ℕ} {depth : Option ℕ} {stop t n a b : ℕ} {o : Option Key} {P : Pointee} {l m : Seen} → WalkContents s bytes pending depth stop t o P n a l b m → WalkContents s bytes pending None stop t o P n a l b m
    contents_free (walk_one w) = walk_one (walk_free w)
    contents_free (walk_run w) = walk_run (run_free w)
    contents_free (walk_entries w h) = walk_entries (run_free w) h
    contents_free (walk_text u) = walk_text u

  mutual
    trips_free : {pending : List ℕ} {depth : Option ℕ} {stop p a : ℕ} {X : Shape} {l : Seen} {f : Fault} → (f ≡ too_deep → ⊥) → Trips s bytes pending depth stop p X a l f → Trips s bytes pending None stop p X a l f
    trips_free other (trips_leaf h) = trips_leaf h
    trips_free other (trips_parts t) = trips_parts (parts_trip other t)
    trips_free other (trips_tag h) = trips_tag h
    trips_free other (trips_choice h t) = trips_choice h (parts_trip other t)
    trips_free other (trips_array t) = trips_array (run_trips other t)
    trips_free other (trips_boxed t) = trips_boxed (follow_trips other t)
    trips_free other (trips_vec t) = trips_vec (follow_trips other t)
    trips_free other (trips_map t) = trips_map (follow_trips other t)
    trips_free other (trips_inline o h) = trips_inline o h
    trips_free other (trips_short o h) = trips_short o h
    trips_free other (trips_out_of_line o h t) = trips_out_of_line o h (follow_trips other t)
    trips_free other (trips_shared t) = trips_shared (follow_trips other t)
    trips_free other (trips_weak h t) = trips_weak h (follow_trips other t)
    trips_free other (trips_named h t) = trips_named h (trips_free other t)

    parts_trip : {pending : List ℕ} {depth : Option ℕ} {stop p at a : ℕ} {ps : Parts} {l : Seen} {f : Fault} → (f ≡ too_deep → ⊥) → TripsParts s bytes pending depth stop p at ps a l f → TripsParts s bytes pending None stop p at ps a l f
    parts_trip other (trips_first t) = trips_first (trips_free other t)
    parts_trip other (trips_later w t) = trips_later (walk_free w) (parts_trip other t)

    run_trips : {pending : List ℕ} {depth : Option ℕ} {stop p n a : ℕ} {X : Shape} {l : Seen} {f : Fault} → (f ≡ too_deep → ⊥) → TripsRun s bytes pending depth stop p n X a l f → TripsRun s bytes pending None stop p n X a l f
    run_trips other (trips_element t) = trips_element (trips_free other t)
    run_trips other (trips_later_element w t) = trips_later_element (walk_free w) (run_trips other t)

    entries_trip : {pending : List ℕ} {depth : Option ℕ} {stop p n a : ℕ} {before : Option ℕ} {K : Key} {V : Shape} {l : Seen} {f : Fault} → (f ≡ too_deep → ⊥) → TripsEntries s bytes pending depth stop before p n K V a l f → TripsEntries s bytes pending None stop before p n K V a l f
    entries_trip other (trips_key t) = trips_key (trips_free other t)
    entries_trip other (trips_order w h) = trips_order (walk_free w) h
    entries_trip other (trips_value w h t) = trips_value (walk_free w) h (trips_free other t)
    entries_trip other (trips_later_entry w h t) = trips_later_entry (walk_free w) h (entries_trip other t)

    follow_trips : {pending : List ℕ} {depth : Option ℕ} {stop a : ℕ} {p : Pointer} {l : Seen} {f : Fault} → (f ≡ too_deep → ⊥) → TripsFollow s bytes pending depth stop p a l f → TripsFollow s bytes pending None stop p a l f
    follow_trips other (trips_unique c t) = trips_unique c (enter_trips other t)
    follow_trips other (trips_before c h t) = trips_before c h (enter_trips other t)
    follow_trips other (trips_new c h none t) = trips_new c h none (enter_trips other t)
    follow_trips other (trips_type c h known differ) = trips_type c h known differ
    follow_trips other (trips_length c h known alike differ) = trips_length c h known alike differ
    follow_trips other (trips_cycle c h known within forbids) = trips_cycle c h known within forbids

    enter_trips : {pending : List ℕ} {depth : Option ℕ} {stop a : ℕ} {p : Pointer} {l : Seen} {f : Fault} → (f ≡ too_deep → ⊥) → TripsEnter s bytes pending depth stop p a l f → TripsEnter s bytes pending None stop p a l f
    enter_trips other (trips_size big) = trips_size big
    enter_trips other (trips_range small h) = trips_range small h
    enter_trips other (trips_align c above below skew) = trips_align c above below skew
    enter_trips other (trips_depth c above below straight deep) = absurd (other refl)
    enter_trips other (trips_within c above below straight room t) = trips_within c above below straight tt (contents_trip other t)

    contents_trip : {pending : List ℕ} {depth : Option ℕ} {stop t n a : ℕ} {o : Option Key} {P : Pointee} {l : Seen} {f : Fault} → (f ≡ too_deep → ⊥) → TripsContents s bytes pending depth stop t o P n a l f → TripsContents s bytes pending None stop t o P n a l f
    contents_trip other (trips_one t) = trips_one (trips_free other t)
    contents_trip other (trips_run t) = trips_run (run_trips other t)
    contents_trip other (trips_entries t) = trips_entries (entries_trip other t)
    contents_trip other (trips_text h) = trips_text h

  -- what trips from the root trips there without a limit, too
  pub root_trips_free : {limit : Option ℕ} {root : ℕ} {X : Shape} {fault : Fault} → (fault ≡ too_deep → ⊥) → RootTrips s bytes limit root X fault → RootTrips s bytes None root X fault
  root_trips_free other t = enter_trips other t
