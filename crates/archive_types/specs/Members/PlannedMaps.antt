-- The plans of maps: their entries are planned as a slice of pairs is. Where the keys don't ascend, this is met first.
use Rattle.std.specs.Prelude.{◌≡◌, ℕ, List, ◌++◌, length}
use Rattle.archive_check.specs.Shape.{Key, Shape, parts, sorted_map, run, part, no_part, key_shape, entry_of}
use Rattle.archive_check.specs.Definitions.{Definitions}
use Rattle.archive_check.specs.SelfCheck.Maps.{entry_definitions}
use Rattle.archive_check.specs.Value.{Value, list, hole}
use Rattle.archive_check.specs.Reads.{SchemaTable}
use Rattle.archive_check.specs.Denotes.{Naming}
use Rattle.archive_types.specs.Writing.{NameMap, IsKeyed, to_map}
use Rattle.archive_types.specs.Plans.{Cursor, Step, disorders, plans_map, ValuePlan, RegionPlan, HasPlan, HasRegionPlan}
use Rattle.archive_types.specs.Runs.{each_meaning, each_keys}
use Rattle.archive_types.specs.MapPairs.{pair_meaning, pair_keys}
use Rattle.archive_types.specs.Members.Keyed.{each_keyed, nothing_keyed, part_keyed, record_keyed}
use Rattle.archive_types.specs.Members.Maps.{entry_is}
use Rattle.archive_types.specs.Members.PartsPlanned.{no_part_planned, part_planned, product_planned}
use Rattle.archive_types.specs.Members.PlannedOwners.{slice_planned}

module _ (D : Definitions) (K : Key) (V : Shape) (n : ℕ) (ks : List Naming) (v : Value) where
  pub map_plan : (s : SchemaTable) (names : NameMap) (a : Cursor) (holds : ℕ → List Step → Cursor → Type 0) (such : Value → List Step → Cursor → Type 0)
      → ((t : ℕ) (C : List Step) (b : Cursor) → holds t C b → such (hole (to_map t K V n)) (disorders v ++ C) b) → RegionPlan s names (run (entry_of K V)) n v a holds
      → ValuePlan s names (sorted_map K V) v a such
  map_plan s names a holds such f h = record { flat = hole (to_map h.begin K V n); steps = disorders v ++ h.steps; stop = h.stop; plans = plans_map h.plans; such = f h.begin h.steps h.stop h.such }

  pub map_planned : HasRegionPlan D (run (entry_of K V)) n ks v → HasPlan D (sorted_map K V) ks v
  map_planned h a s names k m = map_plan s names a (λ t C b. Unit {0}) (λ w C b. Unit {0}) (λ t C b x. tt) (h a s names k m)

-- pairs of a key that is an X and a value that is a V, with the definitions D and E

module _ {A B : Type 0} (k : A → List Naming) (l : B → List Naming) (m : A → Value) (n : B → Value) where
  pub pairs_keyed : ((x : A) → IsKeyed (k x) (m x)) → ((y : B) → IsKeyed (l y) (n y)) → (es : List (A × B)) → IsKeyed (each_keys (pair_keys k l) es) (list (each_meaning (pair_meaning m n) es))
  pairs_keyed h i es = each_keyed (pair_keys k l) (pair_meaning m n) (λ e. record_keyed (part_keyed (h e.0) (part_keyed (i e.1) nothing_keyed))) es

  module _ (D E : Definitions) (X V : Shape) (h : (x : A) → HasPlan D X (k x) (m x)) (i : (y : B) → HasPlan E V (l y) (n y)) where
    pub pair_planned : (e : A × B) → HasPlan (entry_definitions D E) (parts (part X (part V no_part))) (pair_keys k l e) (pair_meaning m n e)
    pair_planned e = product_planned _ _ _ _ (part_planned _ _ _ _ (h e.0) (part_planned _ _ _ _ (i e.1) no_part_planned))

    -- entries, and a map of them
    pub pairs_planned : (es : List (A × B)) → HasRegionPlan (entry_definitions D E) (run (parts (part X (part V no_part)))) (length es) (each_keys (pair_keys k l) es) (list (each_meaning (pair_meaning m n) es))
    pairs_planned es = slice_planned (entry_definitions D E) (parts (part X (part V no_part))) (pair_keys k l) (pair_meaning m n) pair_planned es

    pub map_of_pairs_planned : (K : Key) → X ≡ key_shape K → (es : List (A × B)) → HasPlan (entry_definitions D E) (sorted_map K V) (each_keys (pair_keys k l) es) (list (each_meaning (pair_meaning m n) es))
    map_of_pairs_planned K e es = map_planned (entry_definitions D E) K V (length es) _ _ (rw (entry_is X V K e) at pairs_planned es)
