-- How the bytes of shared and weak pointers read back, and why they aren't written.
use Rattle.std.proofs.Common.{◌≡◌, ◌≢◌, inl, inr, ℕ, ℤ, pos, negsuc, suc, ◌+ℤ◌, ◌+◌, ◌<◌, ◌^◌, List, length, Bool, true, false, refl, sym, ap, subst, ◌∙◌, arith, add-zero, Option, Some, None}
use Rattle.std.specs.Prelude.{FitsSigned}
use Rattle.std.specs.Int.{w32, from_le_bytes, to_le_bytes, cast_signed, cast_unsigned}
use Rattle.std.proofs.lemmas.Nat.{from_le_bytes-to_le_bytes_4}
use Rattle.std.proofs.lemmas.Int.{to_z-of_z}
use Rattle.archive_check.specs.Shape.{Flavor, shared, weak, Pointee, one, run, text}
use Rattle.archive_check.specs.Layout.{has_length}
use Rattle.archive_check.specs.Definitions.{Definitions}
use Rattle.archive_check.specs.Value.{Value, hole, null}
use Rattle.archive_check.specs.Reads.{bytes_at, u32_at, i32_at, length_at, Reads, reads_shared, reads_weak, reads_null}
use Rattle.archive_check.specs.CleanRegions.{Occurs, clean_shared, clean_null, clean_weak}
use Rattle.archive_check.specs.declared.format.error.Error.{Error}
use Rattle.archive_check.specs.declared.format.error.Error.TheVariants.{OffsetOverflow}
use Rattle.archive_check.proofs.Tours.StandingBytes.{stands_front, stands_back, stands_bytes}
use Rattle.archive_num.specs.Offsets.{distance, IsTooFar}
use Rattle.archive_num.specs.OwnerBytes.{owner_bytes}
use Rattle.archive_types.specs.Writing.{Resolves, to_shared}
use Rattle.archive_types.specs.Causes.{IsOwner, owner_shared, owner_weak, part_itself, too_far_from_here, looks_null, HindersAt, of_offset}
use Rattle.archive_types.proofs.Planning.Planned.{own_if_too_far}
use Rattle.archive_types.proofs.Writing.StringsWritten.{below_32, distance_there}
use Rattle.archive_types.proofs.Writing.OwnersWritten.{pointer_there, owner_hindered_at}

-- the offset is at the front
offset_stands : (bytes : List ℕ) (p n : ℕ) (b : Bool) (z : ℤ) → Occurs bytes p (owner_bytes b z n) → Occurs bytes p (to_le_bytes w32 (cast_unsigned w32 z))
offset_stands bytes p n false z stands = stands
offset_stands bytes p n true z stands = stands_front bytes p (to_le_bytes w32 (cast_unsigned w32 z)) (to_le_bytes w32 n) stands

offset_is : (bytes : List ℕ) (p n : ℕ) (b : Bool) (z : ℤ) → FitsSigned w32 z → Occurs bytes p (owner_bytes b z n) → i32_at bytes p ≡ z
unfolding i32_at u32_at
offset_is bytes p n b z small stands =
    ap (λ x. cast_signed w32 (from_le_bytes w32 x)) (stands_bytes bytes p 4 (to_le_bytes w32 (cast_unsigned w32 z)) refl (offset_stands bytes p n b z stands))
    ∙ ap (cast_signed w32) (from_le_bytes-to_le_bytes_4 (cast_unsigned w32 z) (below_32 z small)) ∙ to_z-of_z w32 z small

zero_length : (bytes : List ℕ) (p : ℕ) (z : ℤ) → Occurs bytes p (owner_bytes true z 0) → u32_at bytes (p + 4) ≡ 0
unfolding u32_at
zero_length bytes p z stands =
    ap (from_le_bytes w32) (stands_bytes bytes (p + 4) 4 (to_le_bytes w32 0) refl (stands_back bytes p (p + 4) (to_le_bytes w32 (cast_unsigned w32 z)) (to_le_bytes w32 0) refl stands))

no_length : (bytes : List ℕ) (p : ℕ) (z : ℤ) (P : Pointee) → Occurs bytes p (owner_bytes (has_length P) z 0) → length_at bytes p P ≡ 0
no_length bytes p z (one X) stands = refl
no_length bytes p z (run X) stands = zero_length bytes p z stands
no_length bytes p z text stands = zero_length bytes p z stands

one_fits : FitsSigned w32 (pos 1)
one_fits = record { sfits = omega arith }

-- how far it is isn't 1
not_one : (p t : ℕ) → (t ≡ suc p → ⊥) → distance p t ≡ pos 1 → ⊥
not_one p t apart e = let there : t ≡ p + 1 = cc (sym (distance_there p t)) in apart (omega (arith, there))

module _ (D : Definitions) (p n : ℕ) (a : List ℕ) (flavor : Flavor) (P : Pointee) where
  pub resolves_shared : (t : ℕ) → (has_length P ≡ false → n ≡ 0) → n < 2 ^ 32 → FitsSigned w32 (distance p t) → a ≡ owner_bytes (has_length P) (distance p t) n
      → Resolves D p a (shared flavor P) (hole (to_shared t flavor P n))
  resolves_shared t none few small e = record {
    reads = λ s bytes k stands. subst (λ h. Reads s bytes p (shared flavor P) (hole h)) (pointer_there bytes p t n (Some flavor) small few P none (rw e at stands)) reads_shared;
    clean = λ s bytes k stands. clean_shared;
  }

  pub resolves_weak : (t : ℕ) → (t ≡ suc p → ⊥) → (has_length P ≡ false → n ≡ 0) → n < 2 ^ 32 → FitsSigned w32 (distance p t) → a ≡ owner_bytes (has_length P) (distance p t) n
      → Resolves D p a (weak flavor P) (hole (to_shared t flavor P n))
  resolves_weak t apart none few small e =
      let far : (bytes : List ℕ) → Occurs bytes p a → i32_at bytes p ≢ pos 1
      = λ bytes stands is. not_one p t apart (sym (offset_is bytes p n (has_length P) (distance p t) small (rw e at stands)) ∙ is) in
      record {
        reads = λ s bytes k stands. subst (λ h. Reads s bytes p (weak flavor P) (hole h)) (pointer_there bytes p t n (Some flavor) small few P none (rw e at stands)) (reads_weak (far bytes stands));
        clean = λ s bytes k stands. clean_weak (far bytes stands);
      }

  pub resolves_null : a ≡ owner_bytes (has_length P) (pos 1) 0 → Resolves D p a (weak flavor P) null
  resolves_null e = record {
    reads = λ s bytes k stands. reads_null (offset_is bytes p 0 (has_length P) (pos 1) one_fits (rw e at stands));
    clean = λ s bytes k stands. clean_null (offset_is bytes p 0 (has_length P) (pos 1) one_fits (rw e at stands)) (no_length bytes p (pos 1) P (rw e at stands));
  }

-- the offset doesn't fit
pub shared_hindered_at : (D : Definitions) (p n t : ℕ) (flavor : Flavor) (P : Pointee) (e : Error) → IsTooFar e (distance p t) → HindersAt D (shared flavor P) (hole (to_shared t flavor P n)) p e
shared_hindered_at D p n t flavor P e far = owner_hindered_at D (shared flavor P) _ (to_shared t flavor P n) t p e owner_shared refl far

pub weak_hindered_at : (D : Definitions) (p n t : ℕ) (flavor : Flavor) (P : Pointee) (e : Error) → IsTooFar e (distance p t) → HindersAt D (weak flavor P) (hole (to_shared t flavor P n)) p e
weak_hindered_at D p n t flavor P e far = owner_hindered_at D (weak flavor P) _ (to_shared t flavor P n) t p e owner_weak refl far

-- or would make the pointer a null
pub null_hindered_at : (D : Definitions) (p n t : ℕ) (flavor : Flavor) (P : Pointee) → t ≡ suc p → HindersAt D (weak flavor P) (hole (to_shared t flavor P n)) p OffsetOverflow
null_hindered_at D p n t flavor P e = record {
  named = of_offset;
  cause = λ s k. (0, weak flavor P, hole (to_shared t flavor P n), part_itself, looks_null {h = to_shared t flavor P n} (ap pos (e ∙ ap suc (sym (add-zero p)))));
}
