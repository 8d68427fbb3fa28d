-- What views of boxes, vectors and slices lead to.
use Rattle.std.proofs.Common.{◌≡◌, ℕ, zero, suc, ◌+◌, ◌*◌, ◌<◌, ◌≤◌, pos, ◌+ℤ◌, List, [], ◌∷◌, length, Option, Some, None, Contains, arith, refl, sym, ap, ◌∙◌}
use Rattle.std.proofs.Math.Logic.{∥∥₁_elim, ∥∥₁_map}
use Rattle.std.proofs.Math.Nat.{mul-le-mul_right}
use Rattle.std.specs.Coded.{le_prop}
use Rattle.std.proofs.Math.IntN.{ℤ_set}
use Rattle.std.proofs.lemmas.List.Elements.{Contains-push}
use Rattle.archive_check.specs.Shape.{Key, Shape, boxed, vec, sorted_map, Pointee, one, run, entry_of}
use Rattle.archive_check.specs.Layout.{Layout, size_of, pointer_size}
use Rattle.archive_check.specs.Value.{Pointer, Value, box, list, hole, pointers, Values}
use Rattle.archive_check.specs.Reads.{SchemaTable, i32_at, u32_at, length_at, pointer_at, map_at, Reads, reads_boxed, reads_vec, reads_map, ReadsRun, reads_none, reads_element}
use Rattle.archive_check.specs.Tour.{Contents, contents_one, contents_run}
use Rattle.archive_check.specs.Denotes.{Fills, fills_box, fills_list, fills_unique, fills_shared, FillsAll, fills_no_value, fills_value}
use Rattle.archive_check.specs.Definitions.{Definitions, Knows, HasLayout}
use Rattle.archive_check.specs.Readable.{target_from}
use Rattle.archive_check.specs.Viewed.{Lies, Viewed}
use Rattle.archive_check.specs.Reached.{Reached}
use Rattle.archive_check.proofs.Meanings.MeaningUnique.{fills_one}
use Rattle.archive_check.proofs.Tours.ReadingUnique.{contents_one_value, pos_one}
use Rattle.archive_check.proofs.Meanings.ReachedParts.{pointer_reached, element_reached}
use Rattle.archive_check.proofs.Viewing.Viewed.{lies_fits, lies_reads, lies_leads, lies_reached, reached_lies}
use Rattle.archive_types.specs.Views.{boxed_in, itself, value_at, element_in, ShowsPart}

-- what a unique pointer's hole is filled with is what is reached there
hole_says : {s : SchemaTable} {bytes : List ℕ} {root t : ℕ} {X : Shape} {p : Pointer} {w u : Value} → Fills s bytes (hole p) w → p.sharing ≡ None → p.target ≡ pos t → Reached s bytes root X t p.pointee p.length u → w ≡ u
hole_says {s = s} {bytes = bytes} {t = t} (fills_unique {t = r} {v = v} e leads f) none at i =
    let same : r ≡ t = pos_one (sym leads.target ∙ at) in
    let one : v ≡ i.value = contents_one_value (rw same at leads.contents) i.reads in
    fills_one s bytes f (rw (← one) at i.filled)
hole_says (fills_shared e there) none at i = absurd (let no : Some _ ≡ None = sym e ∙ none in cc)

-- a pointer to P with its region, as a view of its owner shows it
pub record OwnerShown (D : Definitions) (bytes : List ℕ) (q : ℕ) (P : Pointee) : Type 0 where
  pub lands : pos q +ℤ i32_at bytes q ≡ pos (target_from bytes q q)
  pub fits : target_from bytes q q ≤ length bytes
  pub viewed : Viewed D bytes (target_from bytes q q) P (length_at bytes q P)

-- the pointer at q to a P, whose elements ascend by these keys where there are any
abbrev owned_at : List ℕ → ℕ → Option Key → Pointee → Pointer
owned_at bytes q o P = record { target = pos q +ℤ i32_at bytes q; sharing = None; order = o; pointee = P; length = length_at bytes q P }

-- W owns a P by the pointer at q, of which its value is made
module _ (D : Definitions) (bytes : List ℕ) (q n : ℕ) (W : Shape) (o : Option Key) (P : Pointee) (has : (s : SchemaTable) (v : Value) → Contents s bytes q (one W) n v → Contains (pointers v) (owned_at bytes q o P)) where
  leads : (s : SchemaTable) → Knows s D → Lies s bytes q (one W) n → (pos q +ℤ i32_at bytes q ≡ pos (target_from bytes q q)) × Lies s bytes (target_from bytes q q) P (length_at bytes q P)
  leads s k l =
      let (v, c) = lies_reads s bytes l in
      let (t, e, i) = lies_leads s bytes l c (owned_at bytes q o P) (has s v c) in
      let there : pos q +ℤ i32_at bytes q ≡ pos t = e in
      rw there (refl, i)

  owner_shown : Viewed D bytes q (one W) n → OwnerShown D bytes q P
  owner_shown v = record {
    lands = ∥∥₁_elim v (ℤ_set _ _) (λ (s, k, l). (leads s k l).0);
    fits = ∥∥₁_elim v le_prop (λ (s, k, l). let h = lies_fits s bytes k.laid_out (leads s k l).1 in omega (arith, h));
    viewed = ∥∥₁_map v (λ (s, k, l). (s, k, (leads s k l).1));
  }

  owner_shows : (taken : Value → Option Value) (around : Value → Value) → ((u : Value) → taken (around u) ≡ Some u)
      → ((s : SchemaTable) (v w : Value) → Contents s bytes q (one W) n v → Fills s bytes v w → (u : Value) × (w ≡ around u) × Fills s bytes (hole (owned_at bytes q o P)) u)
      → ShowsPart D bytes q (one W) n (target_from bytes q q) P (length_at bytes q P) taken
  owner_shows taken around back filled = record {
    shown = λ s root X w k r.
        let (t, e, u, i) = pointer_reached s bytes r (owned_at bytes q o P) (has s r.value r.reads) in
        let (x, is, f) = filled s r.value w r.reads r.filled in
        let same : x ≡ u = hole_says f refl e i in
        let there : pos q +ℤ i32_at bytes q ≡ pos t = e in
        (x, ap taken is ∙ back x, rw (there, same) i);
  }

pub box_has : (bytes : List ℕ) (q n : ℕ) (P : Pointee) (s : SchemaTable) (v : Value) → Contents s bytes q (one (boxed P)) n v → Contains (pointers v) (pointer_at bytes q None P)
box_has bytes q n P s v (contents_one reads_boxed) = Contains-push [] (pointer_at bytes q None P)

box_filled : (bytes : List ℕ) (q n : ℕ) (P : Pointee) (s : SchemaTable) (v w : Value) → Contents s bytes q (one (boxed P)) n v → Fills s bytes v w → (u : Value) × (w ≡ box u) × Fills s bytes (hole (pointer_at bytes q None P)) u
box_filled bytes q n P s v w (contents_one reads_boxed) (fills_box {w = u} f) = (u, refl, f)

pub vec_has : (bytes : List ℕ) (q n : ℕ) (X : Shape) (s : SchemaTable) (v : Value) → Contents s bytes q (one (vec X)) n v → Contains (pointers v) (pointer_at bytes q None (run X))
vec_has bytes q n X s v (contents_one reads_vec) = Contains-push [] (pointer_at bytes q None (run X))

vec_filled : (bytes : List ℕ) (q n : ℕ) (X : Shape) (s : SchemaTable) (v w : Value) → Contents s bytes q (one (vec X)) n v → Fills s bytes v w → (u : Value) × (w ≡ u) × Fills s bytes (hole (pointer_at bytes q None (run X))) u
vec_filled bytes q n X s v w (contents_one reads_vec) f = (w, refl, f)

pub map_has : (bytes : List ℕ) (q n : ℕ) (K : Key) (V : Shape) (s : SchemaTable) (v : Value) → Contents s bytes q (one (sorted_map K V)) n v → Contains (pointers v) (map_at bytes q K V)
map_has bytes q n K V s v (contents_one reads_map) = Contains-push [] (map_at bytes q K V)

map_filled : (bytes : List ℕ) (q n : ℕ) (K : Key) (V : Shape) (s : SchemaTable) (v w : Value) → Contents s bytes q (one (sorted_map K V)) n v → Fills s bytes v w → (u : Value) × (w ≡ u) × Fills s bytes (hole (map_at bytes q K V)) u
map_filled bytes q n K V s v w (contents_one reads_map) f = (w, refl, f)

module _ (D : Definitions) (bytes : List ℕ) (q n : ℕ) where
  -- a box
  pub box_shown : (P : Pointee) → Viewed D bytes q (one (boxed P)) n → OwnerShown D bytes q P
  box_shown P v = owner_shown D bytes q n (boxed P) None P (box_has bytes q n P) v

  pub box_shows : (P : Pointee) → ShowsPart D bytes q (one (boxed P)) n (target_from bytes q q) P (length_at bytes q P) boxed_in
  box_shows P = owner_shows D bytes q n (boxed P) None P (box_has bytes q n P) boxed_in box (λ u. refl) (box_filled bytes q n P)

  pub box_within : (P : Pointee) → Viewed D bytes q (one (boxed P)) n → q + pointer_size P ≤ length bytes
  box_within P v = ∥∥₁_elim v le_prop (λ (s, k, l). lies_fits s bytes k.laid_out l)

  -- a vector
  pub vec_shown : (X : Shape) → Viewed D bytes q (one (vec X)) n → OwnerShown D bytes q (run X)
  vec_shown X v = owner_shown D bytes q n (vec X) None (run X) (vec_has bytes q n X) v

  pub vec_shows : (X : Shape) → ShowsPart D bytes q (one (vec X)) n (target_from bytes q q) (run X) (u32_at bytes (q + 4)) itself
  vec_shows X = owner_shows D bytes q n (vec X) None (run X) (vec_has bytes q n X) itself (λ z. z) (λ u. refl) (vec_filled bytes q n X)

  pub vec_within : (X : Shape) → Viewed D bytes q (one (vec X)) n → q + 8 ≤ length bytes
  vec_within X v = ∥∥₁_elim v le_prop (λ (s, k, l). lies_fits s bytes k.laid_out l)

  -- a map
  pub map_shown : (K : Key) (V : Shape) → Viewed D bytes q (one (sorted_map K V)) n → OwnerShown D bytes q (run (entry_of K V))
  map_shown K V v = owner_shown D bytes q n (sorted_map K V) (Some K) (run (entry_of K V)) (map_has bytes q n K V) v

  pub map_shows : (K : Key) (V : Shape) → ShowsPart D bytes q (one (sorted_map K V)) n (target_from bytes q q) (run (entry_of K V)) (u32_at bytes (q + 4)) itself
  map_shows K V = owner_shows D bytes q n (sorted_map K V) (Some K) (run (entry_of K V)) (map_has bytes q n K V) itself (λ z. z) (λ u. refl) (map_filled bytes q n K V)

  pub map_within : (K : Key) (V : Shape) → Viewed D bytes q (one (sorted_map K V)) n → q + 8 ≤ length bytes
  map_within K V v = ∥∥₁_elim v le_prop (λ (s, k, l). lies_fits s bytes k.laid_out l)

  -- a slice of an X
  module _ (X : Shape) (L : Layout) (laid : HasLayout D X L) where
    sized : (s : SchemaTable) → Knows s D → size_of s.layouts X ≡ L.size
    sized s k = ap (λ l. l.size) (laid.solved s k)

    pub run_within : Viewed D bytes q (run X) n → q + n * L.size ≤ length bytes
    run_within v = ∥∥₁_elim v le_prop (λ (s, k, l). let h = lies_fits s bytes k.laid_out l in rw (sized s k) at h)

    -- the element k
    module _ (k : ℕ) (below : k < n) where
      pub element_within : Viewed D bytes q (run X) n → q + k * L.size + L.size ≤ length bytes
      element_within v = let h = run_within v in let more : (k + 1) * L.size ≤ n * L.size = mul-le-mul_right L.size (omega arith) in omega (arith, h, more)

      element_lies : (s : SchemaTable) → Knows s D → Lies s bytes q (run X) n → Lies s bytes (q + k * L.size) (one X) 0
      element_lies s kn l = let (u, r) = element_reached s bytes {k = k} (lies_reached s bytes l).1 below in let here = sized s kn in rw here at (reached_lies s bytes r)

      pub element_viewed : (P : Pointee) → P ≡ one X → Viewed D bytes q (run X) n → Viewed D bytes (q + k * L.size) P 0
      element_viewed P is v = rw is (∥∥₁_map v (λ (s, kn, l). (s, kn, element_lies s kn l)))

      -- what is read there, and what it is filled with
      pub filled_at : {s : SchemaTable} {p m : ℕ} {vs ws : Values} (i : ℕ) → i < m → ReadsRun s bytes p m X vs → FillsAll s bytes vs ws → (v u : Value) × Reads s bytes (p + i * size_of s.layouts X) X v × Fills s bytes v u × (value_at i ws ≡ Some u)
      filled_at i less reads_none fs = absurd (omega arith)
      filled_at {s = s} zero less (reads_element {p = p} {v = v} r rs) (fills_value {w = w} f fs) = let here : p + 0 * size_of s.layouts X ≡ p = omega arith in (v, w, rw here r, f, refl)
      filled_at {s = s} (suc i) less (reads_element {p = p} r rs) (fills_value f fs) =
          let (v, u, h, g, e) = filled_at i (omega arith) rs fs in
          let there : p + suc i * size_of s.layouts X ≡ p + size_of s.layouts X + i * size_of s.layouts X = omega arith in (v, u, rw there h, g, e)

      run_filled : {s : SchemaTable} {v w : Value} → Contents s bytes q (run X) n v → Fills s bytes v w → (x u : Value) × Reads s bytes (q + k * size_of s.layouts X) X x × Fills s bytes x u × (element_in k w ≡ Some u)
      run_filled (contents_run rs) (fills_list fs) = filled_at k below rs fs

      pub element_shows : (P : Pointee) → P ≡ one X → ShowsPart D bytes q (run X) n (q + k * L.size) P 0 (element_in k)
      element_shows P is = rw is (record {
        shown = λ s root Y w kn r.
            let (u, j) = element_reached s bytes {k = k} r below in
            let (x, y, d, f, e) = run_filled r.reads r.filled in
            let one_read : x ≡ j.value = contents_one_value (contents_one d) j.reads in
            let same : y ≡ u = fills_one s bytes f (rw (← one_read) at j.filled) in
            let here : Reached s bytes root Y (q + k * L.size) (one X) 0 u = at_size s root Y u (sized s kn) j in
            (u, e ∙ ap Some same, here);
      })
        where
          at_size : (s : SchemaTable) (root : ℕ) (Y : Shape) (u : Value) {a b : ℕ} → a ≡ b → Reached s bytes root Y (q + k * a) (one X) 0 u → Reached s bytes root Y (q + k * b) (one X) 0 u
          at_size s root Y u e r = rw (← e) r

-- one value lies in the buffer
pub one_within : (D : Definitions) (bytes : List ℕ) (q : ℕ) (X : Shape) (L : Layout) → HasLayout D X L → (P : Pointee) → P ≡ one X → Viewed D bytes q P 0 → q + L.size ≤ length bytes
one_within D bytes q X L laid P is v =
    let w : Viewed D bytes q (one X) 0 = rw is at v in
    let sized : (s : SchemaTable) → Knows s D → size_of s.layouts X ≡ L.size = λ s k. ap (λ l. l.size) (laid.solved s k) in
    ∥∥₁_elim w le_prop (λ (s, k, l). let h = lies_fits s bytes k.laid_out l in rw (sized s k) at h)
