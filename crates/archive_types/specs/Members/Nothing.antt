-- A record of nothing as a source: its laws.
use Rattle.std.specs.Prelude.{ℕ, []}
use Rattle.archive_check.specs.Shape.{parts, no_part}
use Rattle.archive_check.specs.Definitions.{no_definition}
use Rattle.archive_check.specs.Value.{product, no_value}
use Rattle.archive_check.specs.Reached.{Names, names_product}
use Rattle.archive_types.specs.Writing.{IsKeyed}
use Rattle.archive_types.specs.Plans.{HasPlan, plans_parts, plans_no_part}
use Rattle.archive_types.specs.Members.Keyed.{keyed_by_none}

no_name_inside : (k : ℕ) → Names k (product no_value) → ⊥
no_name_inside k (names_product n) = elim n [ ]

pub empty_product_keyed : IsKeyed [] (product no_value)
empty_product_keyed = keyed_by_none (product no_value) (λ k n. absurd (no_name_inside k n))

pub empty_product_planned : HasPlan no_definition (parts no_part) [] (product no_value)
empty_product_planned a s names k n = record { flat = product no_value; steps = []; stop = a; plans = plans_parts plans_no_part; such = tt }
