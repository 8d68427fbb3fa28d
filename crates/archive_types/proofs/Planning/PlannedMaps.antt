-- How maps go as planned, and why they are refused: from what is known of their entries, which are written as a slice of pairs.
use Rattle.std.proofs.Common.{◌≡◌, inl, inr, ℕ, ◌<◌, ◌≤◌, Result, List, ◌++◌, true, false, refl, ap, arith, Contains}
use Rattle.std.proofs.lemmas.List.Elements.{Contains-append_right}
use Rattle.archive_check.specs.Shape.{Key, Shape, sorted_map, run, entry_of}
use Rattle.archive_check.specs.Definitions.{Definitions}
use Rattle.archive_check.specs.Value.{Value, list, hole, Values}
use Rattle.archive_check.specs.WriterState.{WriterState}
use Rattle.archive_check.specs.declared.format.error.Error.{Error}
use Rattle.archive_check.specs.declared.format.error.Error.TheVariants.{PositionTooLarge, LengthTooLarge, UnsortedKeys}
use Rattle.archive_check.proofs.Elements.{contains_first}
use Rattle.archive_check.specs.Denotes.{Naming}
use Rattle.archive_types.specs.Writing.{to_map}
use Rattle.archive_types.specs.ValueOrder.{keys_ascend}
use Rattle.archive_types.specs.Plans.{cursor, Step, disorder, disorders, Serialized, serialized, SerializedRegion, serialized_region, HasRegionPlan}
use Rattle.archive_types.specs.Members.PlannedMaps.{map_plan}
use Rattle.archive_types.specs.Outcomes.{SerializesTo}
use Rattle.archive_types.specs.Runs.{HasRunPlan}
use Rattle.archive_types.specs.Causes.{own_cause, of_position, of_order, part_itself, owner_map, stands_too_far, order_hinders, HindersSome, IsRefused, IsRegionRefused}
use Rattle.archive_types.proofs.Writing.EntriesWritten.{writes_map}
use Rattle.archive_types.proofs.Planning.Causes.{explains_sooner}
use Rattle.archive_types.proofs.Writing.RunRegions.{long_run_refused}

module _ (D : Definitions) (K : Key) (V X : Shape) (is : X ≡ entry_of K V) (n : ℕ) (ks : List Naming) (vs : Values) where
  abbrev as_entries : (old new : WriterState) (t : ℕ) → SerializedRegion D (run X) n ks (list vs) t old new → SerializedRegion D (run (entry_of K V)) n ks (list vs) t old new
  as_entries old new t h = rw is at h

  serialized_entries : (t : ℕ) (old new : WriterState) → SerializedRegion D (run (entry_of K V)) n ks (list vs) t old new → keys_ascend vs ≡ true
      → Serialized D (sorted_map K V) ks (list vs) (hole (to_map t K V n)) old new
  serialized_entries t old new (serialized_region region planned) ordered = serialized (writes_map D old new ks t K V n vs ordered region)
      (λ below s names k m. map_plan D K V n ks (list vs) s names (cursor old) _ _ (λ q C b x. (ap (λ p. hole (to_map p K V n)) x.0, x.1)) (planned below s names k m))

  pub serialized_map : (t : ℕ) (old new : WriterState) → SerializedRegion D (run X) n ks (list vs) t old new → keys_ascend vs ≡ true
      → Serialized D (sorted_map K V) ks (list vs) (hole (to_map t K V n)) old new
  serialized_map t old new h ordered = serialized_entries t old new (as_entries old new t h) ordered

  later_hinders : (s : _) (C : List Step) (e : Error) → HindersSome s C e → HindersSome s (disorders (list vs) ++ C) e
  later_hinders s C e (x, c, h) = (x, Contains-append_right (disorders (list vs)) C x c, h)

  entries_refused : (old new : WriterState) (e : Error) → IsRegionRefused D (run (entry_of K V)) n ks (list vs) old new e → IsRefused D (sorted_map K V) ks (list vs) old new e
  entries_refused old new e h = explains_sooner _ _ _ _ old new e
      (λ x. record { named = x.named; cause = λ below s names k m. map_plan D K V n ks (list vs) s names (cursor old) _ _ (λ t C b y. inl (later_hinders s C e y)) (x.cause below s names k m) })
      (λ q x below s names k m. map_plan D K V n ks (list vs) s names (cursor old) _ _ (λ t C b y. y) (x below s names k m)) h

  pub map_refused : (old new : WriterState) (e : Error) → IsRegionRefused D (run X) n ks (list vs) old new e → IsRefused D (sorted_map K V) ks (list vs) old new e
  map_refused old new e h = entries_refused old new e (rw is at h)

  -- there are more entries than a pointer can say
  pub long_map_refused : (old new : WriterState) → HasRunPlan D X n ks vs → 4294967295 < n → IsRefused D (sorted_map K V) ks (list vs) old new LengthTooLarge
  long_map_refused old new plans long = map_refused old new LengthTooLarge (long_run_refused D X n ks vs old new plans long)

  far_entries_refused : (t : ℕ) (old new : WriterState) → 4294967295 < t → SerializedRegion D (run (entry_of K V)) n ks (list vs) t old new → IsRefused D (sorted_map K V) ks (list vs) old new PositionTooLarge
  far_entries_refused t old new far (serialized_region region planned) = own_cause (record {
    named = of_position;
    cause = λ below s names k m. map_plan D K V n ks (list vs) s names (cursor old) _ _
        (λ q C b x. inr (0, sorted_map K V, hole (to_map q K V n), part_itself, stands_too_far owner_map refl (omega (arith, x.0, far)))) (planned below s names k m);
  })

  -- its region stands above 4,294,967,295
  pub far_map_refused : (t : ℕ) (old new : WriterState) → 4294967295 < t → SerializedRegion D (run X) n ks (list vs) t old new → IsRefused D (sorted_map K V) ks (list vs) old new PositionTooLarge
  far_map_refused t old new far h = far_entries_refused t old new far (as_entries old new t h)

  met_first : keys_ascend vs ≡ false → (C : List Step) → Contains (disorders (list vs) ++ C) disorder
  met_first unsorted C = rw unsorted (contains_first C disorder)

  unsorted_entries_refused : (old new : WriterState) → HasRegionPlan D (run (entry_of K V)) n ks (list vs) → keys_ascend vs ≡ false → IsRefused D (sorted_map K V) ks (list vs) old new UnsortedKeys
  unsorted_entries_refused old new plans unsorted = own_cause (record {
    named = of_order;
    cause = λ below s names k m. map_plan D K V n ks (list vs) s names (cursor old) _ _ (λ t C b x. inl (disorder, met_first unsorted C, order_hinders)) (plans (cursor old) s names k m);
  })

  -- two neighbouring keys don't ascend
  pub unsorted_map_refused : (old new : WriterState) → HasRegionPlan D (run X) n ks (list vs) → keys_ascend vs ≡ false → IsRefused D (sorted_map K V) ks (list vs) old new UnsortedKeys
  unsorted_map_refused old new plans unsorted = unsorted_entries_refused old new (rw is at plans) unsorted

-- what is serialized of entries is so of the pairs that they stand for
pub as_pairs : {R : Type 0} (D : Definitions) (K : Key) (V : Shape) (f : ℕ → R → Value) {ks ls : List Naming} {v w : Value} {n m : ℕ} {old new : WriterState} {r : Result R Error} → ks ≡ ls → v ≡ w → n ≡ m
    → SerializesTo D (sorted_map K V) ks v (f n) (λ x. n ≤ 4294967295) old new r → SerializesTo D (sorted_map K V) ls w (f m) (λ x. m ≤ 4294967295) old new r
as_pairs D K V f keys means many h = rw (keys, means, many) at h
