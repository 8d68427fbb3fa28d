-- The order of the entries of a map, pairs of a key and a value.
use Rattle.std.specs.Prelude.{List, [], ◌∷◌, Bool, true, ◌&&◌}
use Rattle.std.specs.Ordering.{is_lt}
use Rattle.std.specs.declared.cmp.Ordering.{Ordering}

-- Whether the keys of entries ascend strictly by an order, each behind the one before it.
abbrev pub entries_ascend : {K V : Type 0} → (K → K → Ordering) → List (K × V) → Bool
entries_ascend R [] = true
entries_ascend R (e ∷ []) = true
entries_ascend R (e ∷ f ∷ es) = is_lt (R e.0 f.0) && entries_ascend R (f ∷ es)
