-- What views of arrays lead to.
use Rattle.std.proofs.Common.{◌≡◌, ℕ, ◌+◌, ◌*◌, ◌<◌, ◌≤◌, List, length, Some, arith, refl, sym, ap, ◌∙◌}
use Rattle.std.proofs.Math.Logic.{∥∥₁_elim, ∥∥₁_map}
use Rattle.std.proofs.Math.Nat.{mul-le-mul_right}
use Rattle.std.specs.Coded.{le_prop}
use Rattle.archive_check.specs.Shape.{Shape, array, Pointee, one}
use Rattle.archive_check.specs.Layout.{Layout, size_of}
use Rattle.archive_check.specs.Value.{Value}
use Rattle.archive_check.specs.Reads.{SchemaTable, Reads, reads_array}
use Rattle.archive_check.specs.Tour.{Contents, contents_one}
use Rattle.archive_check.specs.Denotes.{Fills, fills_list}
use Rattle.archive_check.specs.Definitions.{Definitions, Knows, HasLayout}
use Rattle.archive_check.specs.Viewed.{Lies, Viewed}
use Rattle.archive_check.specs.Reached.{Reached}
use Rattle.archive_check.specs.Within.{whole, in_array}
use Rattle.archive_check.proofs.Meanings.MeaningUnique.{fills_one}
use Rattle.archive_check.proofs.Tours.ReadingUnique.{contents_one_value}
use Rattle.archive_check.proofs.Meanings.ReachedParts.{within_reached}
use Rattle.archive_check.proofs.Viewing.Viewed.{lies_fits, lies_reached, reached_lies}
use Rattle.archive_types.specs.Views.{element_in, ShowsPart}
use Rattle.archive_types.proofs.Viewing.PartsShown.{filled_at}

-- an array of m X
module _ (D : Definitions) (bytes : List ℕ) (q n m : ℕ) (X : Shape) (L : Layout) (laid : HasLayout D X L) where
  sized : (s : SchemaTable) → Knows s D → size_of s.layouts X ≡ L.size
  sized s k = ap (λ l. l.size) (laid.solved s k)

  pub array_within : Viewed D bytes q (one (array m X)) n → q + m * L.size ≤ length bytes
  array_within v = ∥∥₁_elim v le_prop (λ (s, k, l). let h = lies_fits s bytes k.laid_out l in rw (sized s k) at h)

  -- the element k
  module _ (k : ℕ) (below : k < m) where
    pub array_element_within : Viewed D bytes q (one (array m X)) n → q + k * L.size + L.size ≤ length bytes
    array_element_within v = let h = array_within v in let more : (k + 1) * L.size ≤ m * L.size = mul-le-mul_right L.size (omega arith) in omega (arith, h, more)

    element_lies : (s : SchemaTable) → Knows s D → Lies s bytes q (one (array m X)) n → Lies s bytes (q + k * L.size) (one X) 0
    element_lies s kn l = let (u, r) = within_reached s bytes (lies_reached s bytes l).1 (in_array {k = k} whole below) in let here = sized s kn in rw here at (reached_lies s bytes r)

    pub array_element_viewed : (P : Pointee) → P ≡ one X → Viewed D bytes q (one (array m X)) n → Viewed D bytes (q + k * L.size) P 0
    array_element_viewed P is v = rw is (∥∥₁_map v (λ (s, kn, l). (s, kn, element_lies s kn l)))

    array_filled : {s : SchemaTable} {v w : Value} → Contents s bytes q (one (array m X)) n v → Fills s bytes v w → (x u : Value) × Reads s bytes (q + k * size_of s.layouts X) X x × Fills s bytes x u × (element_in k w ≡ Some u)
    array_filled (contents_one (reads_array rs)) (fills_list fs) = filled_at D bytes q m X L laid k below k below rs fs

    at_size : (s : SchemaTable) (root : ℕ) (Y : Shape) (u : Value) {a b : ℕ} → a ≡ b → Reached s bytes root Y (q + k * a) (one X) 0 u → Reached s bytes root Y (q + k * b) (one X) 0 u
    at_size s root Y u e r = rw (← e) r

    pub array_element_shows : (P : Pointee) → P ≡ one X → ShowsPart D bytes q (one (array m X)) n (q + k * L.size) P 0 (element_in k)
    array_element_shows P is = rw is (record {
      shown = λ s root Y w kn r.
          let (u, j) = within_reached s bytes r (in_array {k = k} whole below) in
          let (x, y, d, f, e) = array_filled r.reads r.filled in
          let one_read : x ≡ j.value = contents_one_value (contents_one d) j.reads in
          let same : y ≡ u = fills_one s bytes f (rw (← one_read) at j.filled) in
          (u, e ∙ ap Some same, at_size s root Y u (sized s kn) j);
    })
