-- Only one list of bytes, whose first ones are given, is tight and clean from there on and has a meaning, whatever its names. Where nothing is shared, the value is enough.
use Rattle.std.proofs.Common.{◌≡◌, ℕ, List, take, Option, Some, None, IsTrue, Contains, All, Bool, false, nat_cmp, refl, sym, ap, ◌∙◌}
use Rattle.std.specs.FinMap.{get, empty, get-empty}
use Rattle.std.proofs.lemmas.List.Elements.{All-head, All-tail}
use Rattle.archive_check.specs.Shape.{Name, Flavor, Shape}
use Rattle.archive_check.specs.Value.{Pointer, Value, pointers}
use Rattle.archive_check.specs.Reads.{SchemaTable, LaidOut}
use Rattle.archive_check.specs.Tour.{Entry, Region, Contents, contents_one, Seen, Tour, tour_end, tour_unique, tour_new, tour_again, Accepted}
use Rattle.archive_check.specs.Definitions.{Definitions, listed, Has, Knows}
use Rattle.archive_check.specs.Unshared.{has_flavors, IsUnshared}
use Rattle.archive_check.specs.Denotes.{Meaning, Fills, Denotes, IsSharedValue, Same, rename}
use Rattle.archive_check.specs.Tidy.{IsTidy}
use Rattle.archive_check.proofs.Tours.Seen.{same_some}
use Rattle.archive_check.proofs.Unshared.{Right, contents_right}
use Rattle.archive_check.proofs.Meanings.SameMeanings.{rename_same}
use Rattle.archive_check.proofs.OneList.Twins.{Renamed}
use Rattle.archive_check.proofs.OneList.Tours.{KnownAlike}
use Rattle.archive_check.proofs.OneList.Buffers.{buffers_equal}
pub mod Twins
pub mod Tours
pub mod Placed
pub mod Readings
pub mod OwnBytes
pub mod Buffers

-- where nothing is shared, a tour meets no shared position
module _ (D : Definitions) (each : (name : Name) (Y : Shape) → Contains (listed D) (name, Y) → IsTrue (has_flavors (λ flavor. false) (listed D) Y)) (s : SchemaTable) (has : Has s D) (bytes : List ℕ) where
  abbrev Alone : Pointer → Type 0
  Alone = Right (λ flavor. false) D each s has bytes

  tour_alone : {pending : List ℕ} {seen last : Seen} {O : List Pointer} {C : List Region} → Tour s bytes pending seen O C last → All Alone O → last ≡ seen
  tour_alone tour_end h = refl
  tour_alone (tour_unique {p = p} {ps = O} e l i j) h =
      tour_alone j (All-tail Alone p O h) ∙ tour_alone i (contents_right (λ flavor. false) D each s has bytes l.contents ((All-head Alone p O h).1))
  tour_alone (tour_new {p = p} {ps = O} {flavor = flavor} e none l i j) h = let never = (All-head Alone p O h).0 flavor e in cc
  tour_alone (tour_again {p = p} {ps = O} {flavor = flavor} e there has free j) h = let never = (All-head Alone p O h).0 flavor e in cc

never_met : (D : Definitions) (X : Shape) (s : SchemaTable) (bytes : List ℕ) (root : ℕ) → Knows s D → IsUnshared D X → (x : Accepted s bytes root X) → (t : ℕ) (e : Entry) → get x.seen t ≡ Some e → ⊥
never_met D X s bytes root k u x t e has =
    let none : x.seen ≡ empty = tour_alone D u.definitions s k.has bytes x.tour (contents_right (λ flavor. false) D u.definitions s k.has bytes {n = 0} (contents_one x.flat.reads) u.shape) in
    let nothing = get-empty {X = Entry} nat_cmp t in cc (rw none at has)

pub one_list : (s : SchemaTable) (D : Definitions) (X : Shape) (m n : Meaning) (start : ℕ) (a b : List ℕ) → Knows s D → IsUnshared D X → IsTidy s a start X m → IsTidy s b start X n → m.value ≡ n.value → take start a ≡ take start b → a ≡ b
one_list s D X m n start a b k u x y v same =
    let none = never_met D X s a x.root k u x.denotes.accepted in
    buffers_equal s k.laid_out a b x.small y.small start x.root y.root X x.denotes.accepted y.denotes.accepted (λ t. t) (λ t q e f name has had. absurd (none t e has)) (λ t q e f has had name. name) same
    x.denotes.root_value y.denotes.root_value (record { is = sym v ∙ sym (rename_same m.value) }) x.tight x.clean y.tight y.clean

-- what a known position says
known_value : (s : SchemaTable) (bytes : List ℕ) (t : ℕ) (e : Entry) (seen : Option Entry) (known : Option (Entry × Value)) → seen ≡ Some e → IsSharedValue s bytes t seen known → IsSharedValue s bytes t (Some e) known
known_value s bytes t e seen known same h = rw same at h

found_value : (s : SchemaTable) (bytes : List ℕ) (t : ℕ) (e : Entry) (known : Option (Entry × Value)) → IsSharedValue s bytes t (Some e) known → (w : Value) × (known ≡ Some (e, w))
found_value s bytes t e known (v, w, c, f, h) = (w, h)

same_known : (s : SchemaTable) (a b : List ℕ) (to : ℕ → ℕ) (t u : ℕ) (e f : Entry) (known other : Option (Entry × Value)) → ((g : Entry) (x : Value) → known ≡ Some (g, x) → other ≡ Some (g, rename to x)) → IsSharedValue s a t (Some e) known → IsSharedValue s b u (Some f) other
    → (e ≡ f) × (v : Value) × (w : Value) × (x : Value) × (y : Value) × Contents s a t e.pointee e.length v × Contents s b u e.pointee e.length w × Fills s a v x × Fills s b w y × Renamed to x y
same_known s a b to t u e f known other there (v, x, c, h, i) (w, y, d, k, j) =
    let pair : (e, rename to x) ≡ (f, y) = same_some (sym (there e x i) ∙ j) in
    let entries : e ≡ f = ap (λ z. z.0) pair in (entries, v, w, x, y, c, rw (sym entries) at d, h, k, record { is = sym (ap (λ z. z.1) pair) })

module _ (s : SchemaTable) (laid : LaidOut s) (X : Shape) (m n : Meaning) (start : ℕ) (a b : List ℕ) (x : IsTidy s a start X m) (y : IsTidy s b start X n) (h : Same m n) where
  abbrev first : Seen
  first = x.denotes.accepted.seen

  said : (t : ℕ) (e : Entry) → get first t ≡ Some e → IsSharedValue s a t (Some e) (get m.shared t)
  said t e has = known_value s a t e (get first t) (get m.shared t) has (x.denotes.shared t)

  back : (t : ℕ) (e : Entry) → get first t ≡ Some e → h.from (h.to t) ≡ t
  back t e has = let (v, k) = found_value s a t e (get m.shared t) (said t e has) in (h.there t e v k).0

  alike : KnownAlike s a b h.to first y.denotes.accepted.seen
  alike t u e f name has had =
      same_known s a b h.to t u e f (get m.shared t) (get n.shared u) (λ g v k. ap (get n.shared) name ∙ (h.there t g v k).1) (said t e has)
      (known_value s b u f (get y.denotes.accepted.seen u) (get n.shared u) had (y.denotes.shared u))

  pub tidy_unique : take start a ≡ take start b → a ≡ b
  tidy_unique same =
      buffers_equal s laid a b x.small y.small start x.root y.root X x.denotes.accepted y.denotes.accepted h.to alike (λ t u e f has had name. sym (back t e has) ∙ ap h.from name ∙ back u f had) same
      x.denotes.root_value y.denotes.root_value (record { is = h.value }) x.tight x.clean y.tight y.clean
