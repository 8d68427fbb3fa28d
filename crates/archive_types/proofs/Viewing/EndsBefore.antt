-- What a pointer leads to ends before the pointer.
use Rattle.std.proofs.Common.{◌≡◌, ℕ, ◌+◌, ◌*◌, ◌≤◌, List, None, refl}
use Rattle.std.proofs.Math.Logic.{∥∥₁_elim}
use Rattle.std.specs.Coded.{le_prop}
use Rattle.archive_check.specs.Definitions.{Definitions, HasLayout, Knows}
use Rattle.archive_check.specs.Layout.{Layout}
use Rattle.archive_check.specs.Readable.{target_from}
use Rattle.archive_check.specs.Reads.{SchemaTable, length_at, u32_at}
use Rattle.archive_check.specs.Shape.{Shape, Pointee, boxed, vec, one, run}
use Rattle.archive_check.specs.Tour.{pointee_size}
use Rattle.archive_check.specs.Viewed.{Viewed}
use Rattle.archive_check.proofs.Tours.UniqueBefore.{lies_before}
use Rattle.archive_check.proofs.Viewing.Viewed.{lies_reads}
use Rattle.archive_types.specs.Views.{EndsBefore}
use Rattle.archive_types.proofs.Writing.Appending.{size_is}
use Rattle.archive_types.proofs.Viewing.PartsShown.{box_has, box_shown, vec_has, vec_shown}

module _ (D : Definitions) (bytes : List ℕ) (q n : ℕ) where
  -- a box, and what it leads to has this size
  box_ends_by : (P : Pointee) → Viewed D bytes q (one (boxed P)) n → (size : ℕ) → ((s : SchemaTable) → Knows s D → pointee_size s P (length_at bytes q P) ≡ size) → target_from bytes q q + size ≤ q
  box_ends_by P v size sized = ∥∥₁_elim v le_prop (λ (s, k, l).
      let (u, c) = lies_reads s bytes l in
      let ends = lies_before s bytes k.laid_out l c (box_has bytes q n P s u c) refl (box_shown D bytes q n P v).lands in
      rw (sized s k) at ends)

  pub box_ends : (P : Pointee) → Viewed D bytes q (one (boxed P)) n → EndsBefore D P (target_from bytes q q) (length_at bytes q P) q
  box_ends P v = record {
    value = λ X L is laid. box_ends_by P v L.size (λ s k. rw is (size_is laid s k));
    elements = λ X L is laid. box_ends_by P v (length_at bytes q P * L.size) (λ s k. rw is (rw (size_is laid s k) refl));
    bytes = λ is. box_ends_by P v (length_at bytes q P) (λ s k. rw is refl);
  }

  pub vec_ends : (X : Shape) (L : Layout) → HasLayout D X L → Viewed D bytes q (one (vec X)) n → target_from bytes q q + u32_at bytes (q + 4) * L.size ≤ q
  vec_ends X L laid v = ∥∥₁_elim v le_prop (λ (s, k, l).
      let (u, c) = lies_reads s bytes l in
      let ends = lies_before s bytes k.laid_out l c (vec_has bytes q n X s u c) refl (vec_shown D bytes q n X v).lands in
      rw (size_is laid s k) at ends)
