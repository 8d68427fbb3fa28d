-- How what points to a region reads back: boxes, vectors and shared pointers.
use Rattle.std.proofs.Common.{◌≡◌, ℕ, ℤ, pos, ◌+ℤ◌, ◌+◌, ◌<◌, ◌^◌, List, true, false, refl, sym, ap, subst, ◌∙◌, add-zero, Option, None, Result, Ok, Err, IfErr}
use Rattle.std.specs.Prelude.{FitsSigned}
use Rattle.std.specs.Int.{w32, from_le_bytes, to_le_bytes, cast_signed, cast_unsigned}
use Rattle.std.proofs.lemmas.Nat.{from_le_bytes-to_le_bytes_4}
use Rattle.std.proofs.lemmas.Int.{to_z-of_z}
use Rattle.archive_check.specs.Shape.{Flavor, Shape, boxed, vec, Pointee, one, run, text}
use Rattle.archive_check.specs.Layout.{has_length}
use Rattle.archive_check.specs.Definitions.{Definitions}
use Rattle.archive_check.specs.Value.{Pointer, Value, box, hole}
use Rattle.archive_check.specs.Reads.{u32_at, i32_at, length_at, pointer_at, Reads, reads_boxed, reads_vec}
use Rattle.archive_check.specs.CleanRegions.{Occurs, clean_boxed, clean_vec}
use Rattle.archive_check.specs.declared.format.error.Error.{Error}
use Rattle.archive_check.proofs.Tours.StandingBytes.{stands_front, stands_back, stands_bytes}
use Rattle.archive_num.specs.Offsets.{distance, IsTooFar}
use Rattle.archive_num.specs.OwnerBytes.{owner_bytes}
use Rattle.archive_types.specs.Writing.{Resolves, to_pointee}
use Rattle.archive_types.specs.Causes.{IsOwner, owner_box, owner_vec, part_itself, too_far_from_here, HindersAt}
use Rattle.archive_types.proofs.Planning.Planned.{own_if_too_far}
use Rattle.archive_types.proofs.Writing.StringsWritten.{below_32, distance_there}

-- an offset that fits, read where it stands
pub offset_there : (bytes : List ℕ) (p t : ℕ) → FitsSigned w32 (distance p t) → Occurs bytes p (to_le_bytes w32 (cast_unsigned w32 (distance p t))) → pos p +ℤ i32_at bytes p ≡ pos t
unfolding i32_at u32_at
offset_there bytes p t small stands =
    let z : ℤ = distance p t in
    ap (λ b. pos p +ℤ cast_signed w32 (from_le_bytes w32 b)) (stands_bytes bytes p 4 (to_le_bytes w32 (cast_unsigned w32 z)) refl stands)
    ∙ ap (λ m. pos p +ℤ cast_signed w32 m) (from_le_bytes-to_le_bytes_4 (cast_unsigned w32 z) (below_32 z small))
    ∙ ap (λ y. pos p +ℤ y) (to_z-of_z w32 z small) ∙ distance_there p t

-- and a length behind it
pub length_there : (bytes : List ℕ) (p n : ℕ) → n < 2 ^ 32 → Occurs bytes (p + 4) (to_le_bytes w32 n) → u32_at bytes (p + 4) ≡ n
unfolding u32_at
length_there bytes p n small stands = ap (from_le_bytes w32) (stands_bytes bytes (p + 4) 4 (to_le_bytes w32 n) refl stands) ∙ from_le_bytes-to_le_bytes_4 n small

-- the pointer that stands there
abbrev pub pointer_to : ℕ → Option Flavor → Pointee → ℕ → Pointer
pointer_to t sharing P n = record { target = pos t; sharing = sharing; order = None; pointee = P; length = n }

module _ (bytes : List ℕ) (p t n : ℕ) (sharing : Option Flavor) (small : FitsSigned w32 (distance p t)) (few : n < 2 ^ 32) where
  without_length : (P : Pointee) → length_at bytes p P ≡ n → Occurs bytes p (owner_bytes false (distance p t) n) → pointer_at bytes p sharing P ≡ pointer_to t sharing P n
  without_length P e stands i = record { target = offset_there bytes p t small stands i; sharing = sharing; order = None; pointee = P; length = e i }

  with_length : (P : Pointee) → length_at bytes p P ≡ u32_at bytes (p + 4) → Occurs bytes p (owner_bytes true (distance p t) n) → pointer_at bytes p sharing P ≡ pointer_to t sharing P n
  with_length P e stands =
      let offset : List ℕ = to_le_bytes w32 (cast_unsigned w32 (distance p t)) in
      let many : length_at bytes p P ≡ n = e ∙ length_there bytes p n few (stands_back bytes p (p + 4) offset (to_le_bytes w32 n) refl stands) in
      λ i. record { target = offset_there bytes p t small (stands_front bytes p offset (to_le_bytes w32 n) stands) i; sharing = sharing; order = None; pointee = P; length = many i }

  pub pointer_there : (P : Pointee) → (has_length P ≡ false → n ≡ 0) → Occurs bytes p (owner_bytes (has_length P) (distance p t) n) → pointer_at bytes p sharing P ≡ pointer_to t sharing P n
  pointer_there (one X) none stands = without_length (one X) (sym (none refl)) stands
  pointer_there (run X) none stands = with_length (run X) refl stands
  pointer_there text none stands = with_length text refl stands

module _ (D : Definitions) (p t n : ℕ) (a : List ℕ) where
  pub resolves_box : (P : Pointee) → (has_length P ≡ false → n ≡ 0) → n < 2 ^ 32 → FitsSigned w32 (distance p t) → a ≡ owner_bytes (has_length P) (distance p t) n
      → Resolves D p a (boxed P) (box (hole (to_pointee t P n)))
  resolves_box P none few small e = record {
    reads = λ s bytes k stands. subst (λ h. Reads s bytes p (boxed P) (box (hole h))) (pointer_there bytes p t n None small few P none (rw e at stands)) reads_boxed;
    clean = λ s bytes k stands. clean_boxed;
  }

  pub resolves_vec : (X : Shape) → n < 2 ^ 32 → FitsSigned w32 (distance p t) → a ≡ owner_bytes true (distance p t) n → Resolves D p a (vec X) (hole (to_pointee t (run X) n))
  resolves_vec X few small e = record {
    reads = λ s bytes k stands. subst (λ h. Reads s bytes p (vec X) (hole h)) (with_length bytes p t n None small few (run X) refl (rw e at stands)) reads_vec;
    clean = λ s bytes k stands. clean_vec;
  }

-- an owner whose offset doesn't fit
pub owner_hindered_at : (D : Definitions) (X : Shape) (w : Value) (h : Pointer) (t p : ℕ) (e : Error) → IsOwner X w h → h.target ≡ pos t → IsTooFar e (distance p t) → HindersAt D X w p e
owner_hindered_at D X w h t p e is there far = record {
  named = own_if_too_far e _ far;
  cause = λ s k. (0, X, w, part_itself, too_far_from_here {h = h} {t = t} is there (subst (λ q. IsTooFar e (distance q t)) (sym (add-zero p)) far));
}

pub box_hindered_at : (D : Definitions) (P : Pointee) (n t p : ℕ) (e : Error) → IsTooFar e (distance p t) → HindersAt D (boxed P) (box (hole (to_pointee t P n))) p e
box_hindered_at D P n t p e far = owner_hindered_at D (boxed P) _ (to_pointee t P n) t p e owner_box refl far

pub vec_hindered_at : (D : Definitions) (X : Shape) (n t p : ℕ) (e : Error) → IsTooFar e (distance p t) → HindersAt D (vec X) (hole (to_pointee t (run X) n)) p e
vec_hindered_at D X n t p e far = owner_hindered_at D (vec X) _ (to_pointee t (run X) n) t p e owner_vec refl far

-- where the bytes of an owner weren't written for that

pub box_unresolved : {A : Type 0} (r : Result A Error) (D : Definitions) (P : Pointee) (n t p : ℕ) (same : Type 0) → IfErr r (λ e. same × IsTooFar e (distance p t)) → IfErr r (HindersAt D (boxed P) (box (hole (to_pointee t P n))) p)
box_unresolved (Ok a) D P n t p same h = tt
box_unresolved (Err e) D P n t p same h = box_hindered_at D P n t p e h.1

pub vec_unresolved : {A : Type 0} (r : Result A Error) (D : Definitions) (X : Shape) (n t p : ℕ) (same : Type 0) → IfErr r (λ e. same × IsTooFar e (distance p t)) → IfErr r (HindersAt D (vec X) (hole (to_pointee t (run X) n)) p)
vec_unresolved (Ok a) D X n t p same h = tt
vec_unresolved (Err e) D X n t p same h = vec_hindered_at D X n t p e h.1
