-- A check finds one fault.
use Rattle.std.proofs.Common.{◌≡◌, ℕ, refl, List, length, Option, ◌<◌, ◌^◌, arith, sym, ap, ◌∙◌}
use Rattle.archive_check.specs.Shape.{Shape, Key, Parts, Pointee}
use Rattle.archive_check.specs.Value.{Pointer}
use Rattle.archive_check.specs.Reads.{SchemaTable}
use Rattle.archive_check.specs.Tour.{Seen, entry}
use Rattle.archive_check.specs.Trail.{RootTrips, Fault, Trips, trips_leaf, trips_parts, trips_tag, trips_choice, trips_array, trips_boxed, trips_vec, trips_map, trips_inline, trips_short, trips_out_of_line, trips_shared, trips_weak, trips_named, TripsParts, trips_first, trips_later, TripsRun, trips_element, trips_later_element, TripsEntries, trips_key, trips_order, trips_value, trips_later_entry, TripsFollow, trips_unique, trips_before, trips_new, trips_type, trips_length, trips_cycle, TripsEnter, trips_size, trips_range, trips_align, trips_depth, trips_within, TripsContents, trips_one, trips_run, trips_entries, trips_text}
use Rattle.archive_check.proofs.Tours.ReadingUnique.{pos_one}
use Rattle.archive_check.proofs.Checks.FaultyNotWalked.{tripped_entries, one_walk, trips_no_walk}
use Rattle.archive_check.proofs.Maps.Entries.{entry_walk}

module _ (s : SchemaTable) (bytes : List ℕ) where
  mutual
    pub fault_unique : {pending : List ℕ} {depth : Option ℕ} {stop p a : ℕ} {X : Shape} {l : Seen} {e f : Fault} → stop < 2 ^ 64 → Trips s bytes pending depth stop p X a l e → Trips s bytes pending depth stop p X a l f → e ≡ f
    fault_unique room (trips_leaf h) (trips_leaf k) = refl
    fault_unique room (trips_parts t) (trips_parts u) = parts_fault room t u
    fault_unique room (trips_tag h) (trips_tag k) = refl
    fault_unique room (trips_tag h) (trips_choice k u) = cc
    fault_unique room (trips_choice h t) (trips_tag k) = cc
    fault_unique room (trips_choice {ps = ps} h t) (trips_choice {ps = qs} k u) = let same : qs ≡ ps = cc in parts_fault room t (rw same at u)
    fault_unique room (trips_array t) (trips_array u) = run_fault room t u
    fault_unique room (trips_boxed t) (trips_boxed u) = follow_fault room t u
    fault_unique room (trips_vec t) (trips_vec u) = follow_fault room t u
    fault_unique room (trips_map t) (trips_map u) = follow_fault room t u
    fault_unique room (trips_inline o h) (trips_inline q k) = refl
    fault_unique room (trips_inline o h) (trips_short q k) = absurd (o q)
    fault_unique room (trips_inline o h) (trips_out_of_line q k u) = absurd (o q)
    fault_unique room (trips_short o h) (trips_inline q k) = absurd (q o)
    fault_unique room (trips_short o h) (trips_short q k) = refl
    fault_unique room (trips_short o h) (trips_out_of_line q k u) = absurd (omega arith)
    fault_unique room (trips_out_of_line o h t) (trips_inline q k) = absurd (q o)
    fault_unique room (trips_out_of_line o h t) (trips_short q k) = absurd (omega arith)
    fault_unique room (trips_out_of_line o h t) (trips_out_of_line q k u) = follow_fault room t u
    fault_unique room (trips_shared t) (trips_shared u) = follow_fault room t u
    fault_unique room (trips_weak h t) (trips_weak k u) = follow_fault room t u
    fault_unique room (trips_named {X = X} h t) (trips_named {X = Y} k u) = let same : Y ≡ X = cc in fault_unique room t (rw same at u)

    pub parts_fault : {pending : List ℕ} {depth : Option ℕ} {stop p at a : ℕ} {ps : Parts} {l : Seen} {e f : Fault} → stop < 2 ^ 64 → TripsParts s bytes pending depth stop p at ps a l e → TripsParts s bytes pending depth stop p at ps a l f → e ≡ f
    parts_fault room (trips_first t) (trips_first u) = fault_unique room t u
    parts_fault room (trips_first t) (trips_later w u) = absurd (trips_no_walk s bytes room t w)
    parts_fault room (trips_later v t) (trips_first u) = absurd (trips_no_walk s bytes room u v)
    parts_fault room (trips_later v t) (trips_later w u) = let here = one_walk s bytes v w in parts_fault room t (rw (here.0, here.1) at u)

    pub run_fault : {pending : List ℕ} {depth : Option ℕ} {stop p n a : ℕ} {X : Shape} {l : Seen} {e f : Fault} → stop < 2 ^ 64 → TripsRun s bytes pending depth stop p n X a l e → TripsRun s bytes pending depth stop p n X a l f → e ≡ f
    run_fault room (trips_element t) (trips_element u) = fault_unique room t u
    run_fault room (trips_element t) (trips_later_element w u) = absurd (trips_no_walk s bytes room t w)
    run_fault room (trips_later_element v t) (trips_element u) = absurd (trips_no_walk s bytes room u v)
    run_fault room (trips_later_element v t) (trips_later_element w u) = let here = one_walk s bytes v w in run_fault room t (rw (here.0, here.1) at u)

    pub entries_fault : {pending : List ℕ} {depth : Option ℕ} {stop p n a : ℕ} {before : Option ℕ} {K : Key} {V : Shape} {l : Seen} {e f : Fault} → stop < 2 ^ 64
        → TripsEntries s bytes pending depth stop before p n K V a l e → TripsEntries s bytes pending depth stop before p n K V a l f → e ≡ f
    entries_fault room (trips_key t) (trips_key u) = fault_unique room t u
    entries_fault room (trips_key t) (trips_order w k) = absurd (trips_no_walk s bytes room t w)
    entries_fault room (trips_key t) (trips_value w k u) = absurd (trips_no_walk s bytes room t w)
    entries_fault {K = K} {V = V} room (trips_key t) (trips_later_entry w k u) = let q = entry_walk s bytes K V w in absurd (trips_no_walk s bytes room t q.key)
    entries_fault room (trips_order v h) (trips_key u) = absurd (trips_no_walk s bytes room u v)
    entries_fault room (trips_order v h) (trips_order w k) = refl
    entries_fault room (trips_order v h) (trips_value w k u) = absurd (h k)
    entries_fault room (trips_order v h) (trips_later_entry w k u) = absurd (h k)
    entries_fault room (trips_value v h t) (trips_key u) = absurd (trips_no_walk s bytes room u v)
    entries_fault room (trips_value v h t) (trips_order w k) = absurd (k h)
    entries_fault room (trips_value v h t) (trips_value w k u) = let here = one_walk s bytes v w in fault_unique room t (rw (here.0, here.1) at u)
    entries_fault {K = K} {V = V} room (trips_value v h t) (trips_later_entry w k u) =
        let q = entry_walk s bytes K V w in let here = one_walk s bytes v q.key in absurd (trips_no_walk s bytes room t (rw (here.0, here.1) at q.value))
    entries_fault {K = K} {V = V} room (trips_later_entry v h t) (trips_key u) = let q = entry_walk s bytes K V v in absurd (trips_no_walk s bytes room u q.key)
    entries_fault room (trips_later_entry v h t) (trips_order w k) = absurd (k h)
    entries_fault {K = K} {V = V} room (trips_later_entry v h t) (trips_value w k u) =
        let q = entry_walk s bytes K V v in let here = one_walk s bytes w q.key in absurd (trips_no_walk s bytes room u (rw (here.0, here.1) at q.value))
    entries_fault room (trips_later_entry v h t) (trips_later_entry w k u) = let here = one_walk s bytes v w in entries_fault room t (rw (here.0, here.1) at u)

    pub follow_fault : {pending : List ℕ} {depth : Option ℕ} {stop a : ℕ} {p : Pointer} {l : Seen} {e f : Fault} → stop < 2 ^ 64 → TripsFollow s bytes pending depth stop p a l e → TripsFollow s bytes pending depth stop p a l f → e ≡ f
    follow_fault room (trips_unique c t) (trips_unique d u) = enter_fault room t u
    follow_fault room (trips_unique c t) (trips_before d k u) = cc
    follow_fault room (trips_unique c t) (trips_new d k never j) = cc
    follow_fault room (trips_unique c t) (trips_type d k again differs) = cc
    follow_fault room (trips_unique c t) (trips_length d k again same differs) = cc
    follow_fault room (trips_unique c t) (trips_cycle d k again among bars) = cc
    follow_fault room (trips_before c h t) (trips_unique d u) = cc
    follow_fault room (trips_before c h t) (trips_before d k u) = enter_fault room t u
    follow_fault room (trips_before c h t) (trips_new d k never j) = absurd (h _ k)
    follow_fault room (trips_before c h t) (trips_type d k again differs) = absurd (h _ k)
    follow_fault room (trips_before c h t) (trips_length d k again same differs) = absurd (h _ k)
    follow_fault room (trips_before c h t) (trips_cycle d k again among bars) = absurd (h _ k)
    follow_fault room (trips_new c h none i) (trips_unique d u) = cc
    follow_fault room (trips_new c h none i) (trips_before d k u) = absurd (k _ h)
    follow_fault room (trips_new {t = t} {flavor = flavor} c h none i) (trips_new {t = u} {flavor = other} d k never j) = let here : u ≡ t = pos_one (sym k ∙ h) in let kind : other ≡ flavor = cc in enter_fault room i (rw (here, kind) at j)
    follow_fault room (trips_new {t = t} c h none i) (trips_type {t = u} d k again differs) = let here : u ≡ t = pos_one (sym k ∙ h) in cc (rw here at again)
    follow_fault room (trips_new {t = t} c h none i) (trips_length {t = u} d k again same differs) = let here : u ≡ t = pos_one (sym k ∙ h) in cc (rw here at again)
    follow_fault room (trips_new {t = t} c h none i) (trips_cycle {t = u} d k again among bars) = let here : u ≡ t = pos_one (sym k ∙ h) in cc (rw here at again)
    follow_fault room (trips_type c h known differ) (trips_unique d u) = cc
    follow_fault room (trips_type c h known differ) (trips_before d k u) = absurd (k _ h)
    follow_fault room (trips_type {t = t} c h known differ) (trips_new {t = u} d k never j) = let here : u ≡ t = pos_one (sym k ∙ h) in cc (rw here at never)
    follow_fault room (trips_type c h known differ) (trips_type d k again differs) = refl
    follow_fault room (trips_type {t = t} {flavor = flavor} {old = old} c h known differ) (trips_length {t = u} {flavor = other} {old = once} d k again same differs) = let here : u ≡ t = pos_one (sym k ∙ h) in let kind : other ≡ flavor = cc in let one : once ≡ old = cc (rw here at again) in absurd (differ (ap (λ o. o.flavor) (sym one) ∙ same.0 ∙ kind, ap (λ o. o.pointee) (sym one) ∙ same.1))
    follow_fault room (trips_type {t = t} {p = p} {flavor = flavor} {old = old} c h known differ) (trips_cycle {t = u} {flavor = other} d k again among bars) = let here : u ≡ t = pos_one (sym k ∙ h) in let kind : other ≡ flavor = cc in let one : old ≡ entry other p = cc (rw here at again) in absurd (differ (ap (λ o. o.flavor) one ∙ kind, ap (λ o. o.pointee) one))
    follow_fault room (trips_length c h known alike differ) (trips_unique d u) = cc
    follow_fault room (trips_length c h known alike differ) (trips_before d k u) = absurd (k _ h)
    follow_fault room (trips_length {t = t} c h known alike differ) (trips_new {t = u} d k never j) = let here : u ≡ t = pos_one (sym k ∙ h) in cc (rw here at never)
    follow_fault room (trips_length {t = t} {flavor = flavor} {old = old} c h known alike differ) (trips_type {t = u} {flavor = other} {old = once} d k again differs) = let here : u ≡ t = pos_one (sym k ∙ h) in let kind : other ≡ flavor = cc in let one : once ≡ old = cc (rw here at again) in absurd (differs (ap (λ o. o.flavor) one ∙ alike.0 ∙ sym kind, ap (λ o. o.pointee) one ∙ alike.1))
    follow_fault room (trips_length c h known alike differ) (trips_length d k again same differs) = refl
    follow_fault room (trips_length {t = t} {p = p} {flavor = flavor} {old = old} c h known alike differ) (trips_cycle {t = u} {flavor = other} d k again among bars) = let here : u ≡ t = pos_one (sym k ∙ h) in let kind : other ≡ flavor = cc in let one : old ≡ entry other p = cc (rw here at again) in absurd (differ (ap (λ o. o.length) one))
    follow_fault room (trips_cycle c h known within forbids) (trips_unique d u) = cc
    follow_fault room (trips_cycle c h known within forbids) (trips_before d k u) = absurd (k _ h)
    follow_fault room (trips_cycle {t = t} c h known within forbids) (trips_new {t = u} d k never j) = let here : u ≡ t = pos_one (sym k ∙ h) in cc (rw here at never)
    follow_fault room (trips_cycle {t = t} {p = p} {flavor = flavor} c h known within forbids) (trips_type {t = u} {flavor = other} {old = once} d k again differs) = let here : u ≡ t = pos_one (sym k ∙ h) in let kind : other ≡ flavor = cc in let one : once ≡ entry flavor p = cc (rw here at again) in absurd (differs (ap (λ o. o.flavor) one ∙ sym kind, ap (λ o. o.pointee) one))
    follow_fault room (trips_cycle {t = t} {p = p} {flavor = flavor} c h known within forbids) (trips_length {t = u} {flavor = other} {old = once} d k again same differs) = let here : u ≡ t = pos_one (sym k ∙ h) in let kind : other ≡ flavor = cc in let one : once ≡ entry flavor p = cc (rw here at again) in absurd (differs (ap (λ o. o.length) one))
    follow_fault room (trips_cycle c h known within forbids) (trips_cycle d k again among bars) = refl

    pub enter_fault : {pending : List ℕ} {depth : Option ℕ} {stop a : ℕ} {p : Pointer} {l : Seen} {e f : Fault} → stop < 2 ^ 64 → TripsEnter s bytes pending depth stop p a l e → TripsEnter s bytes pending depth stop p a l f → e ≡ f
    enter_fault room (trips_size big) (trips_size huge) = refl
    enter_fault room (trips_size big) (trips_range low k) = absurd (omega arith)
    enter_fault room (trips_size big) (trips_align d over under bent) = absurd (omega arith)
    enter_fault room (trips_size big) (trips_depth d over under level low) = absurd (omega arith)
    enter_fault room (trips_size big) (trips_within d over under level enough v) = absurd (omega arith)
    enter_fault room (trips_range small h) (trips_size huge) = absurd (omega arith)
    enter_fault room (trips_range small h) (trips_range low k) = refl
    enter_fault room (trips_range small h) (trips_align d over under bent) = absurd (h _ d over under)
    enter_fault room (trips_range small h) (trips_depth d over under level low) = absurd (h _ d over under)
    enter_fault room (trips_range small h) (trips_within d over under level enough v) = absurd (h _ d over under)
    enter_fault room (trips_align c above below skew) (trips_size huge) = absurd (omega arith)
    enter_fault room (trips_align c above below skew) (trips_range low k) = absurd (k _ c above below)
    enter_fault room (trips_align {t = t} c above below skew) (trips_align {t = u} d over under bent) = let here : u ≡ t = pos_one (sym d ∙ c) in cc
    enter_fault room (trips_align {t = t} c above below skew) (trips_depth {t = u} d over under level low) = let here : u ≡ t = pos_one (sym d ∙ c) in absurd (skew (rw here at level))
    enter_fault room (trips_align {t = t} c above below skew) (trips_within {t = u} d over under level enough v) = let here : u ≡ t = pos_one (sym d ∙ c) in absurd (skew (rw here at level))
    enter_fault room (trips_depth c above below straight deep) (trips_size huge) = absurd (omega arith)
    enter_fault room (trips_depth c above below straight deep) (trips_range low k) = absurd (k _ c above below)
    enter_fault room (trips_depth {t = t} c above below straight deep) (trips_align {t = u} d over under bent) = let here : u ≡ t = pos_one (sym d ∙ c) in absurd (bent (rw (← here) at straight))
    enter_fault room (trips_depth c above below straight deep) (trips_depth d over under level low) = refl
    enter_fault room (trips_depth c above below straight deep) (trips_within d over under level enough v) = absurd (deep enough)
    enter_fault room (trips_within c above below straight room_left i) (trips_size huge) = absurd (omega arith)
    enter_fault room (trips_within c above below straight room_left i) (trips_range low k) = absurd (k _ c above below)
    enter_fault room (trips_within {t = t} c above below straight room_left i) (trips_align {t = u} d over under bent) = let here : u ≡ t = pos_one (sym d ∙ c) in absurd (bent (rw (← here) at straight))
    enter_fault room (trips_within c above below straight room_left i) (trips_depth d over under level low) = absurd (low room_left)
    enter_fault room (trips_within {t = t} c above below straight room_left i) (trips_within {t = u} d over under level enough v) = let here : u ≡ t = pos_one (sym d ∙ c) in contents_fault (omega arith) i (rw here at v)

    pub contents_fault : {pending : List ℕ} {depth : Option ℕ} {stop t n a : ℕ} {o : Option Key} {P : Pointee} {l : Seen} {e f : Fault} → stop < 2 ^ 64 → TripsContents s bytes pending depth stop t o P n a l e → TripsContents s bytes pending depth stop t o P n a l f → e ≡ f
    contents_fault room (trips_one t) (trips_one u) = fault_unique room t u
    contents_fault room (trips_run t) (trips_run u) = run_fault room t u
    contents_fault room (trips_entries {V = V} t) u = entries_fault room t (tripped_entries s bytes V refl u)
    contents_fault room (trips_text h) (trips_text k) = refl

  pub root_one_fault : {limit : Option ℕ} {root : ℕ} {X : Shape} {e f : Fault} → length bytes < 2 ^ 64 → RootTrips s bytes limit root X e → RootTrips s bytes limit root X f → e ≡ f
  root_one_fault small t u = enter_fault small t u
