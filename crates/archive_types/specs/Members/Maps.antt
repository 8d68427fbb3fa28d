-- Sorted maps: the laws of their type, from those of their keys and values.
use Rattle.std.specs.Prelude.{◌≡◌, ℕ, Bool, true, IsTrue, ◌&&◌, ◌||◌}
use Rattle.std.proofs.Common.{ap}
use Rattle.archive_check.specs.Shape.{Key, Shape, sorted_map, parts, no_part, part, key_shape, entry_of}
use Rattle.archive_check.specs.Definitions.{Definitions, no_definition, both, NoOthers}
use Rattle.archive_check.specs.Members.NoOthers.{no_parts_reached, part_reached}
use Rattle.archive_check.specs.SelfCheck.Laws.{IsCheckOf}
use Rattle.archive_check.specs.SelfCheck.Lone.{tuple_direct, none_ordered, part_ordered}
use Rattle.archive_check.specs.SelfCheck.Maps.{entry_definitions, entry_each, entry_lone, map_check, map_reaches}

-- A key that is an X, and a value.
pub entry_is : (X V : Shape) (K : Key) → X ≡ key_shape K → parts (part X (part V no_part)) ≡ entry_of K V
entry_is X V K is = ap (λ Y. parts (part Y (part V no_part))) is

-- keys that are an X, with the definitions D, and values that are a V, with those of F
module _ (D : Definitions) (X : Shape) (F : Definitions) (V : Shape) (K : Key) (is : X ≡ key_shape K) where
  -- A map of them reaches what they do.
  pub entries_reached : NoOthers D X → NoOthers F V → NoOthers (entry_definitions D F) (sorted_map K V)
  entries_reached h i =
      let value = part_reached F no_definition V no_part i no_parts_reached in
      map_reaches (entry_definitions D F) K V (part X (part V no_part)) (entry_is X V K is) (part_reached D (both F no_definition) X (part V no_part) h value)

  -- And is checked where both check themselves.
  pub entries_checked : (size : ℕ) (E : Definitions) (Y : Shape) (n : ℕ) (none direct : Bool) (value_size : ℕ) (G : Definitions) (Z : Shape) (m : ℕ) (no_name own : Bool) (entry : ℕ)
      → (IsTrue direct → IsCheckOf D X size E Y n none) → (IsTrue own → IsCheckOf F V value_size G Z m no_name)
      → IsTrue (tuple_direct (entry_each direct own) (entry_lone none no_name) entry)
      → IsCheckOf (entry_definitions D F) (sorted_map K V) 8 (entry_definitions D F) (sorted_map K V) 8 (entry_each none no_name)
  entries_checked size E Y n none direct value_size G Z m no_name own entry k v says =
      let value = part_ordered F V value_size G Z m no_name no_definition no_part true true own true v (λ _. none_ordered) in
      let key = part_ordered D X size E Y n none (both F no_definition) (part V no_part) (no_name && true) (true || (no_name && true)) direct (own && true) k value in
      map_check (entry_definitions D F) K V (part X (part V no_part)) (entry_is X V K is) (entry_each direct own) (entry_each none no_name) (entry_lone none no_name) entry key says
