-- What owns one region is read back as what the region is: under the same root, with the same keys.
use Rattle.std.proofs.Common.{◌≡◌, ⊎_elim, ℕ, pos, List, [], ◌∷◌, Some, None, Contains, arith, refl, sym, ap, ◌∙◌, Bool}
use Rattle.archive_check.specs.Shape.{Shape, Pointee, boxed, vec, one, run}
use Rattle.archive_check.specs.Value.{Pointer, Value, box, hole, pointers}
use Rattle.archive_check.specs.Reads.{SchemaTable, pointer_at, reads_boxed, reads_vec}
use Rattle.archive_check.specs.Tour.{Contents, contents_one}
use Rattle.archive_check.specs.Denotes.{Meaning, Naming, Fills, fills_box, Denotes}
use Rattle.archive_check.specs.Definitions.{Definitions, Knows}
use Rattle.archive_check.specs.Pooled.{Kept, Entries}
use Rattle.archive_check.specs.Viewed.{Lies}
use Rattle.archive_check.specs.Reached.{Reached}
use Rattle.archive_check.specs.Entries.{AreNamedByPosition, AreShared, AreRight, MeetsOpen, meets_open, meets_in_unique, meets_in_shared, IsClosed, IsCyclic, ReadsBack}
use Rattle.archive_check.proofs.Elements.{contains_cases, contains_first}
use Rattle.archive_check.proofs.Tours.ReadingUnique.{pos_one}
use Rattle.archive_check.proofs.Meanings.ReachedParts.{pointer_reached}
use Rattle.archive_check.proofs.Viewing.Viewed.{lies_reached, lies_reads, reached_lies}
use Rattle.archive_check.proofs.Viewing.ViewedValues.{hole_fills}

-- the only one of a list of one
only : (p q : Pointer) → Contains (p ∷ []) q → q ≡ p
only p q c = ⊎_elim (λ e. sym e) (λ d. absurd (omega (arith, d.1))) (contains_cases p [] q c)

module _ (D : Definitions) (bytes : List ℕ) (q n : ℕ) (P : Pointee) (p : Pointer) (t : ℕ) (around : Value → Value) (unique : p.sharing ≡ None) (there : p.target ≡ pos t)
    (owns : (s : SchemaTable) (v : Value) → Contents s bytes q P n v → (pointers v ≡ p ∷ []) × ((w : Value) → Fills s bytes (hole p) w → Fills s bytes v (around w))) where
  has_pointer : (s : SchemaTable) (v : Value) → Contents s bytes q P n v → Contains (pointers v) p
  has_pointer s v c = rw (owns s v c).0 (contains_first [] p)

  -- what it leads to is reached under the same root
  target_reached : (s : SchemaTable) (l : Lies s bytes q P n) → (x : Value) × Reached s bytes l.root l.shape t p.pointee p.length x
  target_reached s l =
      let (w, r) = lies_reached s bytes l in
      let (u, at, x, i) = pointer_reached s bytes r p (has_pointer s r.value r.reads) in
      let same : u ≡ t = pos_one (sym at ∙ there) in
      (x, rw same at i)

  -- where what it leads to meets an open position it does
  owner_cyclic : (told : Entries) → IsCyclic D bytes told t p.pointee p.length → IsCyclic D bytes told q P n
  owner_cyclic told h = record {
    meets = λ s k l.
        let (x, r) = target_reached s l in
        let (v, c) = lies_reads s bytes l in
        meets_in_unique c (has_pointer s v c) unique there (h.meets s k (reached_lies s bytes r));
  }

  module _ {keeps : Bool} (old new : Entries) (w : Value) (keys : List Naming) (h : ReadsBack keeps D bytes t p.pointee p.length old new w keys) where
    shared_there : AreNamedByPosition old → (s : SchemaTable) (m : Meaning) → Knows s D → (l : Lies s bytes q P n) → Denotes s bytes l.root l.shape m
        → AreRight m.shared old → AreShared m.shared keys × AreRight m.shared new
    unfolding reached_lies
    shared_there named s m k l d right = let (x, i) = target_reached s l in h.shared named s m k (reached_lies s bytes i) d right

    unmet_there : (s : SchemaTable) → Knows s D → Lies s bytes q P n → MeetsOpen s bytes old [] q P n → ⊥
    unmet_there s k l (meets_open {v = v} {p = o} c i e at open') = let same : o ≡ p = only p o (rw (owns s v c).0 at i) in cc
    unmet_there s k l (meets_in_unique {t = u} {v = v} {p = o} c i e at m) =
        let same : o ≡ p = only p o (rw (owns s v c).0 at i) in
        let to : o.target ≡ p.target = ap (λ (z : Pointer). z.target) same in
        let here : u ≡ t = pos_one (sym at ∙ to ∙ there) in
        let pointee : o.pointee ≡ p.pointee = ap (λ (z : Pointer). z.pointee) same in
        let length : o.length ≡ p.length = ap (λ (z : Pointer). z.length) same in
        let (x, r) = target_reached s l in
        h.unmet s k (reached_lies s bytes r) (rw (here, pointee, length) at m)
    unmet_there s k l (meets_in_shared {v = v} {p = o} c i e at none m) = let same : o ≡ p = only p o (rw (owns s v c).0 at i) in cc

    closed_there : (s : SchemaTable) → Knows s D → (l : Lies s bytes q P n) → (u : ℕ) (k : Kept) → old u ≡ None → new u ≡ Some (Some k) → IsClosed s bytes l.root l.shape old u
    unfolding reached_lies
    closed_there s k l u x none some = let (y, i) = target_reached s l in h.closed s k (reached_lies s bytes i) u x none some

    pub owner_read_back : ReadsBack keeps D bytes q P n old new (around w) keys
    owner_read_back = record {
      kept = h.kept;
      value = λ named. record { fills = λ s v k l c. (owns s v c).1 w (hole_fills s D bytes q n P v p t w k l c (has_pointer s v c) unique there (h.value named)) };
      shared = shared_there;
      unmet = unmet_there;
      closed = closed_there;
      once = h.once;
    }

box_owns : (bytes : List ℕ) (q n : ℕ) (P : Pointee) (s : SchemaTable) (v : Value) → Contents s bytes q (one (boxed P)) n v
    → (pointers v ≡ pointer_at bytes q None P ∷ []) × ((w : Value) → Fills s bytes (hole (pointer_at bytes q None P)) w → Fills s bytes v (box w))
box_owns bytes q n P s v (contents_one reads_boxed) = (refl, λ w f. fills_box f)

vec_owns : (bytes : List ℕ) (q n : ℕ) (X : Shape) (s : SchemaTable) (v : Value) → Contents s bytes q (one (vec X)) n v
    → (pointers v ≡ pointer_at bytes q None (run X) ∷ []) × ((w : Value) → Fills s bytes (hole (pointer_at bytes q None (run X))) w → Fills s bytes v w)
vec_owns bytes q n X s v (contents_one reads_vec) = (refl, λ w f. f)

-- a box, and a vector
module _ {keeps : Bool} (D : Definitions) (bytes : List ℕ) (q n t : ℕ) (old new : Entries) (w : Value) (keys : List Naming) where
  pub box_read_back : (P : Pointee) → (pointer_at bytes q None P).target ≡ pos t → ReadsBack keeps D bytes t P (pointer_at bytes q None P).length old new w keys → ReadsBack keeps D bytes q (one (boxed P)) n old new (box w) keys
  box_read_back P there h = owner_read_back D bytes q n (one (boxed P)) (pointer_at bytes q None P) t box refl there (box_owns bytes q n P) old new w keys h

  pub vec_read_back : (X : Shape) → (pointer_at bytes q None (run X)).target ≡ pos t → ReadsBack keeps D bytes t (run X) (pointer_at bytes q None (run X)).length old new w keys → ReadsBack keeps D bytes q (one (vec X)) n old new w keys
  vec_read_back X there h = owner_read_back D bytes q n (one (vec X)) (pointer_at bytes q None (run X)) t (λ z. z) refl there (vec_owns bytes q n X) old new w keys h

-- and where their regions meet an open position they do
module _ (D : Definitions) (bytes : List ℕ) (q n t : ℕ) (told : Entries) where
  pub box_cyclic : (P : Pointee) → (pointer_at bytes q None P).target ≡ pos t → IsCyclic D bytes told t P (pointer_at bytes q None P).length → IsCyclic D bytes told q (one (boxed P)) n
  box_cyclic P there h = owner_cyclic D bytes q n (one (boxed P)) (pointer_at bytes q None P) t box refl there (box_owns bytes q n P) told h

  pub vec_cyclic : (X : Shape) → (pointer_at bytes q None (run X)).target ≡ pos t → IsCyclic D bytes told t (run X) (pointer_at bytes q None (run X)).length → IsCyclic D bytes told q (one (vec X)) n
  vec_cyclic X there h = owner_cyclic D bytes q n (one (vec X)) (pointer_at bytes q None (run X)) t (λ z. z) refl there (vec_owns bytes q n X) told h
