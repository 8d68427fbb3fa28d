-- How a record of nothing is written and read back.
use Rattle.std.proofs.Common.{◌≡◌, ℕ, ◌+◌, List, [], length, refl, ap, arith, Bool}
use Rattle.archive_check.specs.Shape.{one, parts, no_part}
use Rattle.archive_check.specs.Definitions.{Definitions, no_definition}
use Rattle.archive_check.specs.Value.{Value, product, no_value, pointers}
use Rattle.archive_check.specs.Reads.{SchemaTable, ReadsParts, reads_parts, reads_no_part}
use Rattle.archive_check.specs.Tour.{Contents, contents_one}
use Rattle.archive_check.specs.Denotes.{fills_product, fills_no_value}
use Rattle.archive_check.specs.CleanRegions.{clean_parts, clean_no_part}
use Rattle.archive_check.specs.Pooled.{Entries}
use Rattle.archive_check.specs.Entries.{ReadsBack}
use Rattle.archive_check.specs.WriterState.{WriterState}
use Rattle.archive_check.proofs.Reading.ReadBack.{read_back, bare}
use Rattle.archive_check.proofs.Tours.StandingBytes.{zero_nowhere}
use Rattle.archive_types.specs.Copies.{IsCopied}
use Rattle.archive_types.specs.Writing.{Resolves}
use Rattle.archive_types.specs.Plans.{cursor, plans_parts, plans_no_part, Serialized, serialized}
use Rattle.archive_types.proofs.Writing.Appending.{writes_none, writes_product}
use Rattle.archive_types.proofs.Planning.Planned.{is_here}

pub serialized_empty_product : (D : Definitions) (w : WriterState) → Serialized D (parts no_part) [] (product no_value) (product no_value) w w
serialized_empty_product D w = serialized (writes_product D w w [] no_value no_value (writes_none D w))
    (λ below s names k n. record { flat = product no_value; steps = []; stop = cursor w; plans = plans_parts plans_no_part; such = (refl, is_here w) })

pub resolves_empty_product : (D : Definitions) (p : ℕ) (a : List ℕ) → Resolves D p a (parts no_part) (product no_value)
resolves_empty_product D p a = record {
  reads = λ s bytes k stands. reads_parts reads_no_part;
  clean = λ s bytes k stands. clean_parts (clean_no_part (zero_nowhere bytes (p + 0) (p + 0) (omega arith)));
}

pub empty_product_copied : (D : Definitions) → IsCopied D (parts no_part) 0 (product no_value) []
empty_product_copied D = record { sized = refl; resolved = λ p. resolves_empty_product D p [] }

no_value_there : {s : SchemaTable} {bytes : List ℕ} {q : ℕ} {vs : _} → ReadsParts s bytes q 0 no_part vs → vs ≡ no_value
no_value_there reads_no_part = refl

empty_contents : (s : SchemaTable) (bytes : List ℕ) (q n : ℕ) (v : Value) → Contents s bytes q (one (parts no_part)) n v → v ≡ product no_value
empty_contents s bytes q n v (contents_one (reads_parts rs)) = ap (λ vs. product vs) (no_value_there rs)

pub empty_product_read_back : {keeps : Bool} (D : Definitions) (bytes : List ℕ) (q n : ℕ) (old new : Entries) → new ≡ old → ReadsBack keeps D bytes q (one (parts no_part)) n old new (product no_value) []
empty_product_read_back D bytes q n old new same = read_back D bytes q n old new same (one (parts no_part)) (product no_value)
    (record { fills = λ s v k l c. rw (empty_contents s bytes q n v c) (fills_product fills_no_value) })
    (λ s. bare D bytes q n old new same s (one (parts no_part)) (λ v c. ap pointers (empty_contents s bytes q n v c)))
