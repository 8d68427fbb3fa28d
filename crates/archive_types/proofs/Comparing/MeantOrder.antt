-- Where no flavor of what it shows allows cycles, a view means one value: so views are ordered by these.
use Rattle.std.proofs.Common.{◌≡◌, ℕ, List, Bool, not, IsTrue, Some, [], Contains, All, refl, ap, ap₂}
use Rattle.std.proofs.Math.Logic.{∥∥₁_elim, ∥∥₁_map, ∥∥₁_prop}
use Rattle.std.specs.declared.cmp.Ordering.{Ordering}
use Rattle.std.proofs.lemmas.List.Elements.{All-contains, Contains-append_left, Contains-append_right}
use Rattle.archive_check.specs.Shape.{Flavor, Pointee}
use Rattle.archive_check.specs.Value.{Pointer, Value, Values, product, case, list, box, value, pointers, all_pointers}
use Rattle.archive_check.specs.Reads.{SchemaTable}
use Rattle.archive_check.specs.Tour.{Contents, Leads}
use Rattle.archive_check.specs.Leaves.{regions_of}
use Rattle.archive_check.specs.Definitions.{Definitions, Knows}
use Rattle.archive_check.specs.Viewed.{Lies, Viewed}
use Rattle.archive_check.proofs.Elements.{contains_first}
use Rattle.archive_check.proofs.Meanings.NamesKnown.{contents_no_names}
use Rattle.archive_check.proofs.Meanings.ReachedParts.{part_of_reads}
use Rattle.archive_check.proofs.Tours.ReadingUnique.{contents_one_value, leads_position, leads_value}
use Rattle.archive_check.proofs.Unshared.{Right, contents_right, no_cycles}
use Rattle.archive_types.specs.Compared.{Standing, standing}
use Rattle.archive_types.specs.MeantOrder.{IsAcyclicPointee, MeansOne, HaveOrder}
use Rattle.archive_types.specs.ValueOrder.{Follows, FollowsAll, follows_number, follows_product, follows_case, follows_list, follows_text, follows_box, follows_null, follows_pointer, follows_no_value, follows_value, Means, OrdersValues}
use Rattle.archive_types.proofs.Comparing.FollowedPointers.{Followed, follow, Owns, accepted_followed}
use Rattle.archive_types.proofs.Comparing.OneReading.{contents_again, leads_again}

-- what follows is one value, in one schema
module _ (s : SchemaTable) (bytes : List ℕ) where
  mutual
    follows_one : {v w x : Value} → Follows s bytes v w → Follows s bytes v x → w ≡ x
    follows_one follows_number follows_number = refl
    follows_one (follows_product h) (follows_product k) = ap product (all_one h k)
    follows_one (follows_case {tag = tag} h) (follows_case k) = ap (case tag) (all_one h k)
    follows_one (follows_list h) (follows_list k) = ap list (all_one h k)
    follows_one follows_text follows_text = refl
    follows_one (follows_box h) (follows_box k) = ap box (follows_one h k)
    follows_one follows_null follows_null = refl
    follows_one (follows_pointer {p = p} {t = t} {v = v} l f) (follows_pointer {t = u} {v = w} m g) =
        let here : u ≡ t = leads_position l m in
        let there : Leads s bytes p t w = rw here at m in
        follows_one f (rw (leads_value l there) at g)

    all_one : {vs ws xs : Values} → FollowsAll s bytes vs ws → FollowsAll s bytes vs xs → ws ≡ xs
    all_one follows_no_value follows_no_value = refl
    all_one (follows_value h hs) (follows_value k ks) = ap₂ value (follows_one h k) (all_one hs ks)

-- Of definitions in which no flavor allows cycles.
module _ (D : Definitions) (P : Pointee) (h : IsAcyclicPointee D P) (bytes : List ℕ) where
  abbrev calm : Flavor → Bool
  calm flavor = not flavor.cycles

  abbrev Allowed : (s : SchemaTable) → Knows s D → Pointer → Type 0
  Allowed s k = Right calm D h.definitions s k.has bytes

  -- each pointer in it is allowed
  abbrev AllAllowed : (s : SchemaTable) → Knows s D → Value → Type 0
  AllAllowed s k v = (p : Pointer) → Contains (pointers v) p → Allowed s k p

  never : (s : SchemaTable) (k : Knows s D) (p : Pointer) (flavor : Flavor) → Allowed s k p → p.sharing ≡ Some flavor → IsTrue flavor.cycles → ⊥
  never s k p flavor ok e cycles = no_cycles flavor (ok.0 flavor e) cycles

  further : (s : SchemaTable) (k : Knows s D) (p : Pointer) (t : ℕ) (v : Value) → Allowed s k p → Contents s bytes t p.pointee p.length v → All (Allowed s k) (pointers v)
  further s k p t v ok c = contents_right calm D h.definitions s k.has bytes c (ok.1)

  all_allowed : (s : SchemaTable) (k : Knows s D) {q n : ℕ} {v : Value} → Contents s bytes q P n v → AllAllowed s k v
  all_allowed s k {v = v} c p i = All-contains (Allowed s k) (pointers v) p (contents_right calm D h.definitions s k.has bytes c h.shape) i

  -- what lies in an accepted buffer is read there, and followed
  lies_followed : (s : SchemaTable) (k : Knows s D) {q n : ℕ} → Lies s bytes q P n → (v : Value) × Contents s bytes q P n v × Followed s bytes v
  lies_followed s k l =
      let (r, c, i) = l.part in
      let owned = accepted_followed s bytes (Allowed s k) (never s k) (further s k) l.accepted in
      let (u, d, own) = All-contains (Owns s bytes (Allowed s k) (never s k) (further s k)) (regions_of l.accepted) r owned c in
      let (v, m, f) = part_of_reads s bytes i d in
      (v, m, follow s bytes v (λ t n. contents_no_names s bytes m n) (λ p j. own p (f p j) (all_allowed s k m p j)))

  -- and followed so in each other schema that knows the definitions
  module _ (s s' : SchemaTable) (k : Knows s D) (l : Knows s' D) where
    mutual
      follows_again : {v w : Value} → Follows s bytes v w → AllAllowed s k v → Follows s' bytes v w
      follows_again follows_number ok = follows_number
      follows_again (follows_product f) ok = follows_product (all_again f ok)
      follows_again (follows_case f) ok = follows_case (all_again f ok)
      follows_again (follows_list f) ok = follows_list (all_again f ok)
      follows_again follows_text ok = follows_text
      follows_again (follows_box f) ok = follows_box (follows_again f ok)
      follows_again follows_null ok = follows_null
      follows_again (follows_pointer {p = p} {t = t} {v = v} i f) ok =
          let here = ok p (contains_first [] p) in
          follows_pointer (leads_again calm D h.definitions s s' k l bytes i (here.1)) (follows_again f (λ q c. All-contains (Allowed s k) (pointers v) q (further s k p t v here i.contents) c))

      all_again : {vs ws : Values} → FollowsAll s bytes vs ws → ((p : Pointer) → Contains (all_pointers vs) p → Allowed s k p) → FollowsAll s' bytes vs ws
      all_again follows_no_value ok = follows_no_value
      all_again (follows_value {v = v} {vs = vs} f g) ok = follows_value
          (follows_again f (λ p c. ok p (Contains-append_left (pointers v) (all_pointers vs) p c)))
          (all_again g (λ p c. ok p (Contains-append_right (pointers v) (all_pointers vs) p c)))

  means_one : (q n : ℕ) (v w : Value) → Means D P (standing bytes q n) v → Means D P (standing bytes q n) w → v ≡ w
  means_one q n v w a b =
      let there = contents_again calm D h.definitions a.schema b.schema a.knows b.knows bytes a.contents h.shape in
      let same : b.value ≡ a.value = contents_one_value b.contents there in
      follows_one b.schema bytes (follows_again a.schema b.schema a.knows b.knows a.follows (all_allowed a.schema a.knows a.contents)) (rw same at b.follows)

  -- so a view means one value
  pub view_means : (q n : ℕ) → Viewed D bytes q P n → ∥ ((w : Value) × MeansOne D P (standing bytes q n) w) ∥₁
  view_means q n viewed = ∥∥₁_map viewed (λ (s, k, l).
      let r = lies_followed s k l in
      let m : Means D P (standing bytes q n) r.2.0 = record { schema = s; value = r.0; knows = k; contents = r.1; follows = r.2.1 } in
      (r.2.0, record { means = m; only = λ v o. means_one q n v r.2.0 o m }))

pub views_have_order : (D : Definitions) (P : Pointee) (R : Standing → Standing → Ordering) → OrdersValues D P R → IsAcyclicPointee D P → (a b : List ℕ) (p q m n : ℕ) → Viewed D a p P m → Viewed D b q P n
    → ∥ HaveOrder D P (standing a p m) (standing b q n) (R (standing a p m) (standing b q n)) ∥₁
views_have_order D P R ordered h a b p q m n first second =
    ∥∥₁_elim (view_means D P h a p m first) ∥∥₁_prop (λ (v, x).
    ∥∥₁_map (view_means D P h b q n second) (λ (w, y).
    record { left = v; right = w; left_meant = x; right_meant = y; order = ordered (standing a p m) (standing b q n) v w x.means y.means }))
