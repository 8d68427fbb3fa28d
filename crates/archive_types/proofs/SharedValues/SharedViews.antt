-- What views of shared and weak pointers lead to and say.
use Rattle.std.proofs.Common.{◌≡◌, ◌≢◌, ℕ, ◌+◌, ◌≤◌, ℤ, pos, ◌+ℤ◌, List, [], ◌∷◌, length, Some, Contains, arith, refl, sym, ◌∙◌, Bool, true, false, Option, None}
use Rattle.std.specs.Coded.{le_prop}
use Rattle.std.specs.Ordering.{int_eq}
use Rattle.std.proofs.lemmas.Bool.Decides.{Decides-int_eq}
use Rattle.std.proofs.Math.Logic.{∥∥₁_elim, ∥∥₁_map}
use Rattle.std.proofs.Math.IntN.{ℤ_set}
use Rattle.archive_check.specs.Shape.{Flavor, Shape, shared, weak, Pointee, one}
use Rattle.archive_check.specs.Layout.{pointer_size}
use Rattle.archive_check.specs.Definitions.{Definitions, Knows}
use Rattle.archive_check.specs.Value.{Value, Pointer, hole, null, shared_value, pointers}
use Rattle.archive_check.specs.Reads.{SchemaTable, i32_at, length_at, pointer_at, reads_shared, reads_weak, reads_null}
use Rattle.archive_check.specs.Tour.{Contents, contents_one}
use Rattle.archive_check.specs.Denotes.{Fills, fills_shared, fills_null}
use Rattle.archive_check.specs.Readable.{position, target_from}
use Rattle.archive_check.specs.Viewed.{Lies, Viewed, Says}
use Rattle.archive_check.proofs.Elements.{contains_first}
use Rattle.archive_check.proofs.Viewing.Viewed.{lies_fits, lies_reads, lies_leads}

-- what a pointer that is read there leads to
pub record LeadsFrom (s : SchemaTable) (bytes : List ℕ) (q : ℕ) (P : Pointee) : Type 0 where
  pub lands : pos q +ℤ i32_at bytes q ≡ pos (target_from bytes q q)
  pub there : Lies s bytes (target_from bytes q q) P (length_at bytes q P)

leads_from : (s : SchemaTable) (bytes : List ℕ) (q n : ℕ) (X : Shape) (P : Pointee) (sharing : _) → Lies s bytes q (one X) n → Contents s bytes q (one X) n (hole (pointer_at bytes q sharing P)) → LeadsFrom s bytes q P
leads_from s bytes q n X P sharing l c =
    let p : Pointer = pointer_at bytes q sharing P in
    let (t, at, i) = lies_leads s bytes l c p (contains_first [] p) in
    let there : pos q +ℤ i32_at bytes q ≡ pos t = at in
    let both : (pos q +ℤ i32_at bytes q ≡ pos (target_from bytes q q)) × Lies s bytes (target_from bytes q q) P (length_at bytes q P) = rw there (refl, i) in
    record { lands = both.0; there = both.1 }

pub shared_hole : {s : SchemaTable} {bytes : List ℕ} {q n : ℕ} {flavor : Flavor} {P : Pointee} {v : Value} → Contents s bytes q (one (shared flavor P)) n v → v ≡ hole (pointer_at bytes q (Some flavor) P)
shared_hole (contents_one reads_shared) = refl

pub weak_hole : {s : SchemaTable} {bytes : List ℕ} {q n : ℕ} {flavor : Flavor} {P : Pointee} {v : Value} → i32_at bytes q ≢ pos 1 → Contents s bytes q (one (weak flavor P)) n v → v ≡ hole (pointer_at bytes q (Some flavor) P)
weak_hole far (contents_one (reads_null e)) = absurd (far e)
weak_hole far (contents_one (reads_weak e)) = refl

weak_null : {s : SchemaTable} {bytes : List ℕ} {q n : ℕ} {flavor : Flavor} {P : Pointee} {v : Value} → i32_at bytes q ≡ pos 1 → Contents s bytes q (one (weak flavor P)) n v → v ≡ null
weak_null is (contents_one (reads_null e)) = refl
weak_null is (contents_one (reads_weak e)) = absurd (e is)

-- A view of a pointer: its bytes lie in the buffer, and it leads to a view of its own.
pub record PointerShown (D : Definitions) (bytes : List ℕ) (q : ℕ) (P : Pointee) : Type 0 where
  pub lands : pos q +ℤ i32_at bytes q ≡ pos (target_from bytes q q)
  pub ends : target_from bytes q q ≤ length bytes
  pub viewed : Viewed D bytes (target_from bytes q q) P (length_at bytes q P)

module _ (D : Definitions) (bytes : List ℕ) (q n : ℕ) (flavor : Flavor) (P : Pointee) where
  pub shared_fits : Viewed D bytes q (one (shared flavor P)) n → q + pointer_size P ≤ length bytes
  shared_fits v = ∥∥₁_elim v le_prop (λ (s, k, l). lies_fits s bytes k.laid_out l)

  pub weak_fits : Viewed D bytes q (one (weak flavor P)) n → q + pointer_size P ≤ length bytes
  weak_fits v = ∥∥₁_elim v le_prop (λ (s, k, l). lies_fits s bytes k.laid_out l)

  shared_leads : (s : SchemaTable) → Lies s bytes q (one (shared flavor P)) n → LeadsFrom s bytes q P
  shared_leads s l = let (v, c) = lies_reads s bytes l in leads_from s bytes q n (shared flavor P) P (Some flavor) l (rw (shared_hole c) at c)

  weak_leads : i32_at bytes q ≢ pos 1 → (s : SchemaTable) → Lies s bytes q (one (weak flavor P)) n → LeadsFrom s bytes q P
  weak_leads far s l = let (v, c) = lies_reads s bytes l in leads_from s bytes q n (weak flavor P) P (Some flavor) l (rw (weak_hole far c) at c)

  pub shared_shown : Viewed D bytes q (one (shared flavor P)) n → PointerShown D bytes q P
  shared_shown v = record {
    lands = ∥∥₁_elim v (ℤ_set _ _) (λ (s, k, l). (shared_leads s l).lands);
    ends = ∥∥₁_elim v le_prop (λ (s, k, l). omega (arith, lies_fits s bytes k.laid_out (shared_leads s l).there));
    viewed = ∥∥₁_map v (λ (s, k, l). (s, k, (shared_leads s l).there));
  }

  pub weak_shown : i32_at bytes q ≢ pos 1 → Viewed D bytes q (one (weak flavor P)) n → PointerShown D bytes q P
  weak_shown far v = record {
    lands = ∥∥₁_elim v (ℤ_set _ _) (λ (s, k, l). (weak_leads far s l).lands);
    ends = ∥∥₁_elim v le_prop (λ (s, k, l). omega (arith, lies_fits s bytes k.laid_out (weak_leads far s l).there));
    viewed = ∥∥₁_map v (λ (s, k, l). (s, k, (weak_leads far s l).there));
  }

  -- it says the name of what it leads to, which is its position
  pub shared_says : Says D bytes q (one (shared flavor P)) n (shared_value (target_from bytes q q))
  shared_says = record { fills = λ s v k l c. rw (shared_hole c) (fills_shared refl (shared_leads s l).lands) }

  pub weak_says : i32_at bytes q ≢ pos 1 → Says D bytes q (one (weak flavor P)) n (shared_value (target_from bytes q q))
  weak_says far = record { fills = λ s v k l c. rw (weak_hole far c) (fills_shared refl (weak_leads far s l).lands) }

  pub null_says : i32_at bytes q ≡ pos 1 → Says D bytes q (one (weak flavor P)) n null
  null_says is = record { fills = λ s v k l c. rw (weak_null is c) fills_null }

-- whether the pointer is a null, as it is tested
pub is_one : (z : ℤ) (b : Bool) → b ≡ int_eq z (pos 1) → b ≡ true → z ≡ pos 1
is_one z b e f = (Decides-int_eq z (pos 1)).0 (sym e ∙ f)

pub is_not_one : (z : ℤ) (b : Bool) → b ≡ int_eq z (pos 1) → b ≡ false → z ≢ pos 1
is_not_one z b e f g = let yes : int_eq z (pos 1) ≡ true = (Decides-int_eq z (pos 1)).1 g in cc (sym e ∙ f, yes)
