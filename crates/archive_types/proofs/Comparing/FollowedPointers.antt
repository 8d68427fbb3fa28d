-- Where no flavor that is met allows cycles, each pointer that is read in an accepted buffer can be followed to a value.
use Rattle.std.proofs.Common.{◌≡◌, ⊎_elim, inl, inr, ℕ, pos, List, [], ◌∷◌, Some, IsTrue, Contains, All, arith, sym, ap, subst, ◌∙◌}
use Rattle.std.specs.FinMap.{get, insert, get-empty}
use Rattle.std.specs.Ordering.{nat_cmp}
use Rattle.std.proofs.lemmas.Bool.{cases_eq}
use Rattle.std.proofs.lemmas.List.Elements.{All-nil, All-cons, All-append, All-contains, Contains-append_left, Contains-append_right}
use Rattle.archive_check.specs.Shape.{Flavor, Shape}
use Rattle.archive_check.specs.Value.{Pointer, Value, number, product, case, list, text_value, box, null, shared_value, hole, Values, no_value, value, pointers, all_pointers}
use Rattle.archive_check.specs.Reads.{SchemaTable}
use Rattle.archive_check.proofs.Maps.Entries.{shared_ordered}
use Rattle.archive_check.specs.Tour.{Region, region_of, root_region, Contents, contents_one, Leads, Entry, entry, Seen, Tour, tour_end, tour_unique, tour_new, tour_again, Accepted}
use Rattle.archive_check.specs.Leaves.{regions_of}
use Rattle.archive_check.specs.Reached.{Names, names_itself, names_product, names_case, names_list, names_box, NamesAmong, names_first, names_later}
use Rattle.archive_check.proofs.Elements.{contains_cases, contains_first, contains_later}
use Rattle.archive_check.proofs.Meanings.NamesKnown.{contents_no_names}
use Rattle.archive_check.proofs.Editing.RevisedTour.{tour_grows}
use Rattle.archive_check.proofs.Tours.Seen.{same_some, inserted_has, inserted_apart}
use Rattle.archive_types.specs.ValueOrder.{Follows, FollowsAll, follows_number, follows_product, follows_case, follows_list, follows_text, follows_box, follows_null, follows_pointer, follows_no_value, follows_value}

-- it is, with each pointer followed, a value
abbrev pub Followed : SchemaTable → List ℕ → Value → Type 0
Followed s bytes v = (w : Value) × Follows s bytes v w

module _ (s : SchemaTable) (bytes : List ℕ) where
  -- so is what has no name in it, where each of its pointers is
  mutual
    pub follow : (v : Value) → ((t : ℕ) → Names t v → ⊥) → ((p : Pointer) → Contains (pointers v) p → Followed s bytes (hole p)) → Followed s bytes v
    follow (number z) n h = (_, follows_number)
    follow (product vs) n h = let r = follow_all vs (λ t k. n t (names_product k)) h in (_, follows_product (r.1))
    follow (case tag vs) n h = let r = follow_all vs (λ t k. n t (names_case k)) h in (_, follows_case (r.1))
    follow (list vs) n h = let r = follow_all vs (λ t k. n t (names_list k)) h in (_, follows_list (r.1))
    follow (text_value text) n h = (_, follows_text)
    follow (box v) n h = let r = follow v (λ t k. n t (names_box k)) h in (_, follows_box (r.1))
    follow null n h = (_, follows_null)
    follow (shared_value t) n h = absurd (n t names_itself)
    follow (hole p) n h = h p (contains_first [] p)

    follow_all : (vs : Values) → ((t : ℕ) → NamesAmong t vs → ⊥) → ((p : Pointer) → Contains (all_pointers vs) p → Followed s bytes (hole p)) → (ws : Values) × FollowsAll s bytes vs ws
    follow_all no_value n h = (_, follows_no_value)
    follow_all (value v vs) n h =
        let r = follow v (λ t k. n t (names_first k)) (λ p c. h p (Contains-append_left (pointers v) (all_pointers vs) p c)) in
        let q = follow_all vs (λ t k. n t (names_later k)) (λ p c. h p (Contains-append_right (pointers v) (all_pointers vs) p c)) in
        (_, follows_value (r.1) (q.1))

-- Of pointers of which each that is allowed has no flavor with cycles, and leads to such alone.
module _ (s : SchemaTable) (bytes : List ℕ) (Allowed : Pointer → Type 0)
    (calm : (p : Pointer) (flavor : Flavor) → Allowed p → p.sharing ≡ Some flavor → IsTrue flavor.cycles → ⊥)
    (further : (p : Pointer) (t : ℕ) (v : Value) → Allowed p → Contents s bytes t p.pointee p.length v → All Allowed (pointers v)) where
  -- each allowed one is followed
  abbrev pub AllFollowed : List Pointer → Type 0
  AllFollowed O = (p : Pointer) → Contains O p → Allowed p → Followed s bytes (hole p)

  -- and so is each that is read in the region
  abbrev pub Owns : Region → Type 0
  Owns r = (v : Value) × Contents s bytes r.begin r.pointee r.length v × AllFollowed (pointers v)

  -- an allowed pointer to what is seen, and isn't being read, is followed
  abbrev Settled : List ℕ → Seen → Type 0
  Settled pending seen = (t : ℕ) (p : Pointer) (flavor : Flavor) → p.sharing ≡ Some flavor → p.target ≡ pos t → get seen t ≡ Some (entry flavor p) → Allowed p → (Contains pending t → ⊥) → Followed s bytes (hole p)

  first_or : (p : Pointer) (O : List Pointer) → (Allowed p → Followed s bytes (hole p)) → AllFollowed O → AllFollowed (p ∷ O)
  first_or p O h k q c ok = ⊎_elim (λ same. subst (λ (x : Pointer). Allowed x → Followed s bytes (hole x)) same h ok) (λ later. k q later ok) (contains_cases p O q c)

  -- what leads to what is read so is followed
  led : {p : Pointer} {t : ℕ} {v : Value} → Leads s bytes p t v → AllFollowed (pointers v) → Allowed p → Followed s bytes (hole p)
  led {p = p} {t = t} {v = v} l h ok =
      let r = follow s bytes v (λ u n. contents_no_names s bytes l.contents n) (λ q c. h q c (All-contains Allowed (pointers v) q (further p t v ok l.contents) c)) in (r.0, follows_pointer l (r.1))

  settled_inside : (t : ℕ) (pending : List ℕ) (seen : Seen) (e : Entry) → Settled pending seen → Settled (t ∷ pending) (insert seen t e)
  settled_inside t pending seen e h u p flavor is there known ok out = elim (cases_eq u t) [
    | inl eq ↦ absurd (out (rw eq (contains_first pending t)))
    | inr n ↦ h u p flavor is there (sym (inserted_apart seen t u e n) ∙ known) ok (λ c. out (contains_later t pending u c))
  ]

  -- another pointer to the same position leads there, too
  leads_too : {p : Pointer} {t : ℕ} {v : Value} (q : Pointer) {flavor : Flavor} → q.sharing ≡ Some flavor → Leads s bytes p t v → q.target ≡ pos t → p.pointee ≡ q.pointee → p.length ≡ q.length → Leads s bytes q t v
  leads_too q shared l there e f = record { target = there; fits = rw (e, f) at l.fits; contents = rw (e, f) at l.contents; ordered = shared_ordered q shared }

  settled_behind : (pending : List ℕ) (mid : Seen) {p : Pointer} {t : ℕ} {v : Value} (flavor : Flavor) → get mid t ≡ Some (entry flavor p) → Leads s bytes p t v → AllFollowed (pointers v) → Settled (t ∷ pending) mid → Settled pending mid
  settled_behind pending mid {p = p} {t = t} flavor known l own h u q other is there met ok out = elim (cases_eq u t) [
    | inl eq ↦ (
        let here : get mid t ≡ Some (entry other q) = rw eq at met in
        let same : entry flavor p ≡ entry other q = same_some (sym known ∙ here) in
        led (leads_too q is l (rw eq at there) (ap (λ (e : Entry). e.pointee) same) (ap (λ (e : Entry). e.length) same)) own ok
        )
    | inr n ↦ h u q other is there met ok (λ c. ⊎_elim (λ same. n (sym same)) out (contains_cases t pending u c))
  ]

  tour_followed : {pending : List ℕ} {seen last : Seen} {O : List Pointer} {C : List Region} → Tour s bytes pending seen O C last → Settled pending seen → AllFollowed O × All Owns C × Settled pending last
  tour_followed tour_end h = (λ p c ok. absurd (omega (arith, c.1)), All-nil Owns, h)
  tour_followed (tour_unique {p = p} {ps = ps} {t = t} {v = v} {C = C} {D = D} e l i j) h =
      let inner = tour_followed i h in
      let outer = tour_followed j (inner.2) in (
        first_or p ps (led l (inner.0)) (outer.0),
        All-append Owns C (region_of s p t ∷ D) (inner.1) (All-cons Owns (region_of s p t) D (v, l.contents, inner.0) (outer.1)),
        outer.2,
      )
  tour_followed (tour_new {pending = pending} {seen = seen} {mid = mid} {p = p} {ps = ps} {t = t} {v = v} {C = C} {D = D} {flavor = flavor} e none l i j) h =
      let inner = tour_followed i (settled_inside t pending seen (entry flavor p) h) in
      let known = tour_grows i t (entry flavor p) (inserted_has seen t (entry flavor p)) in
      let outer = tour_followed j (settled_behind pending mid flavor known l (inner.0) (inner.2)) in (
        first_or p ps (led l (inner.0)) (outer.0),
        All-append Owns C (region_of s p t ∷ D) (inner.1) (All-cons Owns (region_of s p t) D (v, l.contents, inner.0) (outer.1)),
        outer.2,
      )
  tour_followed (tour_again {pending = pending} {p = p} {ps = ps} {t = t} {flavor = flavor} e there known free j) h =
      let rest = tour_followed j h in
      (first_or p ps (λ ok. h t p flavor e there known ok (⊎_elim (λ out. out) (λ cycles. absurd (calm p flavor ok e cycles)) free)) (rest.0), rest.1, rest.2)

  pub accepted_followed : {root : ℕ} {X : Shape} (a : Accepted s bytes root X) → All Owns (regions_of a)
  accepted_followed {root = root} {X = X} a =
      let r = root_region s root X in
      let own = tour_followed a.tour (λ t p flavor is there known ok out. let none = get-empty {X = Entry} nat_cmp t in cc) in
      All-append Owns a.regions (r ∷ []) (own.1) (All-cons Owns r [] (a.value, contents_one a.flat.reads, own.0) (All-nil Owns))
