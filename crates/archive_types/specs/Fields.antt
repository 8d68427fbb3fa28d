-- What stands in a record.
use Rattle.std.specs.Prelude.{ℕ, Option, None}
use Rattle.archive_check.specs.Value.{Value, product}
use Rattle.archive_types.specs.Views.{value_at}

-- The part with this index.
abbrev pub field_in : ℕ → Value → Option Value
field_in i (product vs) = value_at i vs
field_in i _ = None
