-- Maps in recursive types: what their entries mean as pairs, and that these end before the map.
use Rattle.std.proofs.Common.{◌≡◌, ℕ, ◌+◌, ◌*◌, ◌≤◌, List, [], ◌∷◌, ◌++◌, length, map, refl, ap, append_assoc}
use Rattle.std.proofs.Math.Logic.{∥∥₁_elim}
use Rattle.std.specs.Coded.{le_prop}
use Rattle.archive_check.specs.Definitions.{Definitions, HasLayout}
use Rattle.archive_check.specs.Denotes.{Naming}
use Rattle.archive_check.specs.Layout.{Layout}
use Rattle.archive_check.specs.Readable.{target_from}
use Rattle.archive_check.specs.Reads.{u32_at}
use Rattle.archive_check.specs.Shape.{Key, Shape, entry_of, one, sorted_map}
use Rattle.archive_check.specs.Value.{Value, Values, value}
use Rattle.archive_check.specs.Viewed.{Viewed}
use Rattle.archive_check.specs.WriterState.{WriterState}
use Rattle.archive_check.specs.declared.format.error.Error.{Error}
use Rattle.archive_check.proofs.Tours.UniqueBefore.{lies_before}
use Rattle.archive_check.proofs.Viewing.Viewed.{lies_reads}
use Rattle.archive_write.specs.Written.{GoesOn}
use Rattle.archive_core.specs.recursive.HeldMaps.{IsMapped, IsNotMapped}
use Rattle.archive_types.specs.Causes.{IsRefused}
use Rattle.archive_types.specs.Members.PlannedOwners.{each_planned}
use Rattle.archive_types.specs.Plans.{HasPlan, Serialized}
use Rattle.archive_types.specs.Runs.{EachBelongs, IsRunRefused, each_flat, each_keys, each_meaning}
use Rattle.archive_types.proofs.Planning.Causes.{goes_both}
use Rattle.archive_types.proofs.Planning.Runs.{Continues, first_element_refused, later_element_refused, serialized_element}
use Rattle.archive_types.proofs.Viewing.PartsShown.{map_has, map_shown}
use Rattle.archive_types.proofs.Writing.Appending.{size_is}

-- what stands for pairs is read as they are, and has their resolvers

pub flats_of_pairs : {E P R : Type 0} (pair : E → P) (f : P → R → Value) (es : List E) (rs : List R) → each_flat (λ e r. f (pair e) r) es rs ≡ each_flat f (map pair es) rs
flats_of_pairs pair f [] rs = refl
flats_of_pairs pair f (e ∷ es) [] = refl
flats_of_pairs pair f (e ∷ es) (r ∷ rs) = ap (λ vs. value (f (pair e) r) vs) (flats_of_pairs pair f es rs)

pub belongs_to_pairs : {E P R : Type 0} (pair : E → P) (b : P → R → Type 0) (es : List E) (rs : List R) → EachBelongs b (map pair es) rs → EachBelongs (λ e r. b (pair e) r) es rs
belongs_to_pairs pair b [] [] h = h
belongs_to_pairs pair b [] (r ∷ rs) h = h
belongs_to_pairs pair b (e ∷ es) [] h = h
belongs_to_pairs pair b (e ∷ es) (r ∷ rs) (h, i) = (h, belongs_to_pairs pair b es rs i)

-- what is known by other names
module _ (D : Definitions) (X : Shape) (K : Key) (V : Shape) {n m : ℕ} {ks ls : List Naming} {vs ws fs gs : Values} {mid new : WriterState} where
  pub mapped_as : n ≡ m → ks ≡ ls → vs ≡ ws → fs ≡ gs → (t : ℕ) → IsMapped D X K V n ks vs fs t mid new → IsMapped D X K V m ls ws gs t mid new
  mapped_as many keys means flats t h = rw (many, keys, means, flats) at h

  pub unmapped_as : n ≡ m → ks ≡ ls → vs ≡ ws → fs ≡ gs → (e : Error) → IsNotMapped D X K V n ks vs fs mid new e → IsNotMapped D X K V m ls ws gs mid new e
  unmapped_as many keys means flats e h = rw (many, keys, means, flats) at h

-- the entries end before the map
pub map_ends : (D : Definitions) (K : Key) (V X : Shape) → X ≡ entry_of K V → (L : Layout) → HasLayout D X L → (bytes : List ℕ) (q n : ℕ)
    → Viewed D bytes q (one (sorted_map K V)) n → target_from bytes q q + u32_at bytes (q + 4) * L.size ≤ q
map_ends D K V X is L laid bytes q n v = ends (rw is at laid)
  where
    ends : HasLayout D (entry_of K V) L → target_from bytes q q + u32_at bytes (q + 4) * L.size ≤ q
    ends here = ∥∥₁_elim v le_prop (λ (s, k, l).
        let (u, c) = lies_reads s bytes l in
        let before = lies_before s bytes k.laid_out l c (map_has bytes q n K V s u c) refl (map_shown D bytes q n K V v).lands in
        rw (size_is here s k) at before)

-- A loop that serializes the entries of a map, which are taken one after another: one more, and one that is refused.
module _ {A R : Type 0} (D : Definitions) (X : Shape) (k : A → List Naming) (m : A → Value) (f : A → R → Value) (b : A → R → Type 0) (first : WriterState) (all : List A) where
  pub taken_written : (now next : WriterState) (others : List A) (rs : List R) (x : A) (r : R) → Continues D X k m f b first now all (x ∷ others) rs
      → Serialized D X (k x) (m x) (f x r) now next → b x r → GoesOn now next → Continues D X k m f b first next all others (rs ++ r ∷ [])
  taken_written now next others rs x r h step same g = record {
    goes = goes_both first now next h.goes g;
    done = λ new left q. rw (append_assoc rs (r ∷ []) left)
        (h.done new (r ∷ left) (serialized_element D X (length others) (k x) (each_keys k others) (m x) (each_meaning m others) (f x r) (each_flat f others left) now next new step q));
    refused = λ new e l q. h.refused new e (goes_both now next new g l)
        (later_element_refused D X (length others) (k x) (each_keys k others) (m x) (each_meaning m others) (f x r) now next new e step g l q);
    belongs = λ left q. rw (append_assoc rs (r ∷ []) left) (h.belongs (r ∷ left) (same, q));
  }

  pub taken_refused : (now new : WriterState) (others : List A) (rs : List R) (x : A) (e : Error) → ((y : A) → HasPlan D X (k y) (m y)) → Continues D X k m f b first now all (x ∷ others) rs
      → GoesOn now new → IsRefused D X (k x) (m x) now new e → IsRunRefused D X (length all) (each_keys k all) (each_meaning m all) first new e
  taken_refused now new others rs x e plans h g refused =
      h.refused new e g (first_element_refused D X (length others) (k x) (each_keys k others) (m x) (each_meaning m others) now new e (each_planned D X k m plans others) refused)
