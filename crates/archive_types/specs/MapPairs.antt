-- The entries of maps as pairs of a key and a value: what they mean, and the keys of shared values that they hold.
use Rattle.std.specs.Prelude.{List, [], ◌++◌}
use Rattle.archive_check.specs.Value.{Value, product, no_value, value}
use Rattle.archive_check.specs.Denotes.{Naming}

-- A pair means the product of what its parts mean.
abbrev pub pair_meaning : {A B : Type 0} → (A → Value) → (B → Value) → A × B → Value
pair_meaning m n e = product (value (m e.0) (value (n e.1) no_value))

abbrev pub pair_keys : {A B : Type 0} → (A → List Naming) → (B → List Naming) → A × B → List Naming
pair_keys k l e = k e.0 ++ (l e.1 ++ [])
