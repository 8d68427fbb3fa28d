-- What stands behind the tag of a choice.
use Rattle.std.specs.Prelude.{ℕ, Option, None}
use Rattle.archive_check.specs.Value.{Value, case}
use Rattle.archive_types.specs.Views.{value_at}

-- The part with this index, of the variant.
abbrev pub payload_in : ℕ → Value → Option Value
payload_in i (case tag vs) = value_at i vs
payload_in i _ = None
