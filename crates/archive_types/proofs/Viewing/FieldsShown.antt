-- What views of records lead to.
use Rattle.std.proofs.Common.{◌≡◌, ℕ, ◌+◌, ◌≤◌, List, length, Some, arith, ap, ◌∙◌}
use Rattle.std.proofs.Math.Logic.{∥∥₁_map, ∥∥₁_elim}
use Rattle.std.specs.Coded.{le_prop}
use Rattle.archive_check.specs.Shape.{Shape, Pointee, one, Parts}
use Rattle.archive_check.specs.Value.{Value, product, Values}
use Rattle.archive_check.specs.Reads.{SchemaTable, Reads, ReadsParts}
use Rattle.archive_check.specs.Tour.{contents_one}
use Rattle.archive_check.specs.Denotes.{Fills, fills_product}
use Rattle.archive_check.specs.Definitions.{Definitions, Knows}
use Rattle.archive_check.specs.Members.PartsLayout.{part_at, definitions_at, offset_of_part, knows_at, PartsLaidOut, IsRecord}
use Rattle.archive_check.specs.Viewed.{Lies, Viewed}
use Rattle.archive_check.specs.Within.{IsPart}
use Rattle.archive_check.proofs.Meanings.MeaningUnique.{fills_one}
use Rattle.archive_check.proofs.Tours.ReadingUnique.{contents_one_value}
use Rattle.archive_check.proofs.Meanings.ReachedParts.{within_reached}
use Rattle.archive_check.proofs.Viewing.Viewed.{lies_fits, lies_reached, reached_lies}
use Rattle.archive_types.specs.Fields.{field_in}
use Rattle.archive_types.specs.Views.{ShowsPart}
use Rattle.archive_types.proofs.Viewing.ChoicesShown.{filled_part}
use Rattle.archive_types.proofs.Reading.ReadRecords.{record_contents, record_within}

product_filled : {s : SchemaTable} {bytes : List ℕ} {q : ℕ} {ps : Parts} {vs : Values} {w : Value} (i : ℕ) (Y : Shape) → part_at ps i ≡ Some Y → ReadsParts s bytes q 0 ps vs → Fills s bytes (product vs) w
    → (x u : Value) × Reads s bytes (q + offset_of_part s.layouts 0 ps i) Y x × Fills s bytes x u × (field_in i w ≡ Some u)
product_filled i Y e rs (fills_product fs) = filled_part i Y e rs fs

module _ (D : Definitions) (X : Shape) (E : Definitions) (ps : Parts) (is : IsRecord D X E ps) (bytes : List ℕ) (q n : ℕ) (P : Pointee) (one_is : P ≡ one X) (a : ℕ) (end : ℕ → ℕ) (begin : ℕ → ℕ → ℕ)
    (laid : PartsLaidOut E ps a end begin) (i : ℕ) (Y : Shape) (at : part_at ps i ≡ Some Y) where
  field_lies : (s : SchemaTable) → Knows s D → Lies s bytes q P n → Lies s bytes (q + begin 0 i) (one Y) 0
  field_lies s k l =
      let (w, r) = lies_reached s bytes (rw one_is at l) in
      let there : IsPart s q 0 ps (q + begin 0 i) Y = laid.begins s (is.known s k) q 0 i Y at in
      let (u, j) = within_reached s bytes r (record_within (is.stands s k) there) in
      reached_lies s bytes {w = u} j

  -- the part with an index
  pub field_viewed : (F : Definitions) → definitions_at E i ≡ F → Viewed D bytes q P n → Viewed F bytes (q + begin 0 i) (one Y) 0
  field_viewed F of v = ∥∥₁_map v (λ (s, k, l). (s, rw of at (knows_at s E i (is.known s k)), field_lies s k l))

  pub field_within : Viewed D bytes q P n → q + begin 0 i ≤ length bytes
  field_within v = ∥∥₁_elim v le_prop (λ (s, k, l). omega (arith, lies_fits s bytes k.laid_out (field_lies s k l)))

  pub field_shows : (Q : Pointee) → Q ≡ one Y → ShowsPart D bytes q P n (q + begin 0 i) Q 0 (field_in i)
  field_shows Q there = rw (there, one_is) (record {
    shown = λ s root Z w k r.
        let stands = is.stands s k in
        let c = record_contents stands r.reads in
        let part : IsPart s q 0 ps (q + begin 0 i) Y = laid.begins s (is.known s k) q 0 i Y at in
        let (u, j) = within_reached s bytes r (record_within stands part) in
        let (x, y, d, f, e) = product_filled i Y at c.reads (rw c.is at r.filled) in
        let here = laid.offsets s (is.known s k) 0 i in
        let one_read : x ≡ j.value = contents_one_value (contents_one (rw here at d)) j.reads in
        let same : y ≡ u = fills_one s bytes f (rw (← one_read) at j.filled) in
        (u, e ∙ ap Some same, j);
  })
