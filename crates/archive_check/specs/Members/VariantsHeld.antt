-- The parts of variants, as a type names them: how large each is, and that none ends behind the longest variant.
use Rattle.std.proofs.Common.{◌≡◌, ℕ, zero, suc, ◌+◌, ◌≤◌, max, Some, arith}
use Rattle.archive_check.specs.Shape.{Shape, Parts, Variants, no_variant, variant}
use Rattle.archive_check.specs.Layout.{size_of}
use Rattle.archive_check.specs.Reads.{SchemaTable}
use Rattle.archive_check.specs.Definitions.{Definitions, no_definition, both, Knows}
use Rattle.archive_check.specs.Members.PartsLayout.{HaveSizes, knows_left, knows_right}
use Rattle.archive_check.specs.Members.VariantsLayout.{payload_at, first_variant_or}

-- The part with an index, of the variant with a tag, has this size under each schema that knows the definitions.
abbrev pub HavePayloadSizes : Definitions → Variants → (ℕ → ℕ → ℕ) → Type 0
HavePayloadSizes D vs sizes = (s : SchemaTable) → Knows s D → (tag i : ℕ) (Y : Shape) → payload_at vs tag i ≡ Some Y → size_of s.layouts Y ≡ sizes tag i

pub no_payload_sized : HavePayloadSizes no_definition no_variant (λ tag i. 0)
no_payload_sized s k tag i Y none = absurd (cc none)

-- One variant, and others behind it.
pub payload_sized : (D E : Definitions) (ps : Parts) (sizes : ℕ → ℕ) → HaveSizes D ps sizes → (vs : Variants) (later : ℕ → ℕ → ℕ) → HavePayloadSizes E vs later
    → HavePayloadSizes (both D E) (variant ps vs) (first_variant_or sizes later)
payload_sized D E ps sizes first vs later others s k zero i Y e = first s (knows_left s D E k) i Y e
payload_sized D E ps sizes first vs later others s k (suc tag) i Y e = others s (knows_right s D E k) tag i Y e

pub no_payload_within : (tag i : ℕ) → 1 + 0 ≤ 1
no_payload_within tag i = omega arith

-- A part of the first variant ends where that does at most, and one of the others where the longest of these does.
pub payload_within : (begin sizes : ℕ → ℕ) (end : ℕ) → ((i : ℕ) → begin i + sizes i ≤ end) → (later later_sizes : ℕ → ℕ → ℕ) (last : ℕ) → ((tag i : ℕ) → later tag i + later_sizes tag i ≤ last)
    → (tag i : ℕ) → first_variant_or begin later tag i + first_variant_or sizes later_sizes tag i ≤ max end last
payload_within begin sizes end within later later_sizes last others zero i = omega (arith, within i)
payload_within begin sizes end within later later_sizes last others (suc tag) i = omega (arith, others tag i)
