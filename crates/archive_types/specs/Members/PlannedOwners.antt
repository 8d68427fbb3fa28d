-- The plans of one value in a region of its own, of elements in one, and of the owners of regions.
use Rattle.std.specs.Prelude.{◌≡◌, ℕ, ◌*◌, ◌+◌, suc, List, [], ◌∷◌, ◌++◌, length, true, false}
use Rattle.std.proofs.Common.{refl, true≢false}
use Rattle.archive_check.specs.Shape.{Shape, boxed, vec, Pointee, one, run}
use Rattle.archive_check.specs.Layout.{up, size_of, align_of}
use Rattle.archive_check.specs.Definitions.{Definitions}
use Rattle.archive_check.specs.Value.{Value, list, box, hole, Values, no_value, value}
use Rattle.archive_check.specs.Reads.{SchemaTable}
use Rattle.archive_check.specs.Tour.{region_at}
use Rattle.archive_check.specs.Denotes.{Naming}
use Rattle.archive_types.specs.Writing.{NameMap, to_pointee}
use Rattle.archive_types.specs.Members.Sides.{named_left, named_right}
use Rattle.archive_types.specs.Plans.{Cursor, Step, lays, plans_boxed, plans_vec, plans_none, plans_element, plans_one, plans_run, plans_region, ValuePlan, RegionPlan, HasPlan, HasRegionPlan}
use Rattle.archive_types.specs.Runs.{RunPlan, HasRunPlan, each_meaning, each_keys}

-- one value in a region of its own
module _ (D : Definitions) (X : Shape) (ks : List Naming) (v : Value) where
  pub one_plan : (s : SchemaTable) (names : NameMap) (a : Cursor) (holds : Value → List Step → Cursor → Type 0) (such : ℕ → List Step → Cursor → Type 0) → (q : ValuePlan s names X v a holds) → (t : ℕ) → t ≡ up q.stop.position (align_of s.layouts X)
      → such t (q.steps ++ lays (region_at s t (one X) 0 false) q.flat ∷ []) (record { position = t + size_of s.layouts X; states = q.stop.states }) → RegionPlan s names (one X) 0 v a such
  one_plan s names a holds such q t here h = record {
    begin = t;
    steps = q.steps ++ lays (region_at s t (one X) 0 false) q.flat ∷ [];
    stop = record { position = t + size_of s.layouts X; states = q.stop.states };
    plans = plans_region (plans_one q.plans) here;
    such = h;
  }

  pub one_planned : HasPlan D X ks v → HasRegionPlan D (one X) 0 ks v
  one_planned h a s names k n = one_plan s names a (λ w C b. Unit {0}) (λ t C b. Unit {0}) (h a s names k n) _ refl tt

-- What is the region of one value.
pub pointee_planned : (D : Definitions) (P : Pointee) (X : Shape) → P ≡ one X → (ks : List Naming) (v : Value) → HasPlan D X ks v → HasRegionPlan D P 0 ks v
pointee_planned D P X is ks v h = rw is (one_planned D X ks v h)

-- What has a length isn't one value.
pub is_long : {A : Type 0} → true ≡ false → A
is_long e = absurd (true≢false e)

-- elements in one
module _ (D : Definitions) (X : Shape) (n : ℕ) (ks : List Naming) (vs : Values) where
  pub run_plan : (s : SchemaTable) (names : NameMap) (a : Cursor) (holds : Values → List Step → Cursor → Type 0) (such : ℕ → List Step → Cursor → Type 0) → (q : RunPlan s names n X vs a holds) → (t : ℕ) → t ≡ up q.stop.position (align_of s.layouts X)
      → such t (q.steps ++ lays (region_at s t (run X) n false) (list q.flats) ∷ []) (record { position = t + n * size_of s.layouts X; states = q.stop.states }) → RegionPlan s names (run X) n (list vs) a such
  run_plan s names a holds such q t here h = record {
    begin = t;
    steps = q.steps ++ lays (region_at s t (run X) n false) (list q.flats) ∷ [];
    stop = record { position = t + n * size_of s.layouts X; states = q.stop.states };
    plans = plans_region (plans_run q.plans) here;
    such = h;
  }

  pub run_region_planned : HasRunPlan D X n ks vs → HasRegionPlan D (run X) n ks (list vs)
  run_region_planned h a s names k m = run_plan s names a (λ ws C b. Unit {0}) (λ t C b. Unit {0}) (h a s names k m) _ refl tt

-- the elements themselves, from the plan of each
module _ (D : Definitions) (X : Shape) where
  pub none_planned : HasRunPlan D X 0 [] no_value
  none_planned a s names k m = record { flats = no_value; steps = []; stop = a; plans = plans_none; such = tt }

  pub element_planned : (n : ℕ) (ks ls : List Naming) (v : Value) (vs : Values) → HasPlan D X ks v → HasRunPlan D X n ls vs → HasRunPlan D X (suc n) (ks ++ ls) (value v vs)
  element_planned n ks ls v vs h i a s names k m =
      let q = h a s names k (named_left names ks ls m) in
      let r = i q.stop s names k (named_right names ks ls m) in
      record { flats = value q.flat r.flats; steps = q.steps ++ r.steps; stop = r.stop; plans = plans_element q.plans r.plans; such = tt }

  pub each_planned : {A : Type 0} (k : A → List Naming) (m : A → Value) → ((x : A) → HasPlan D X (k x) (m x)) → (xs : List A) → HasRunPlan D X (length xs) (each_keys k xs) (each_meaning m xs)
  each_planned k m h [] = none_planned
  each_planned k m h (x ∷ xs) = element_planned (length xs) (k x) (each_keys k xs) (m x) (each_meaning m xs) (h x) (each_planned k m h xs)

-- the owner of a region: what it owns is laid out, and it points there
module _ (D : Definitions) (P : Pointee) (n : ℕ) (ks : List Naming) (v : Value) where
  pub box_plan : (s : SchemaTable) (names : NameMap) (a : Cursor) (holds : ℕ → List Step → Cursor → Type 0) (such : Value → List Step → Cursor → Type 0)
      → ((t : ℕ) (C : List Step) (b : Cursor) → holds t C b → such (box (hole (to_pointee t P n))) C b) → RegionPlan s names P n v a holds → ValuePlan s names (boxed P) (box v) a such
  box_plan s names a holds such f h = record { flat = box (hole (to_pointee h.begin P n)); steps = h.steps; stop = h.stop; plans = plans_boxed h.plans; such = f h.begin h.steps h.stop h.such }

  pub box_planned : HasRegionPlan D P n ks v → HasPlan D (boxed P) ks (box v)
  box_planned h a s names k m = box_plan s names a (λ t C b. Unit {0}) (λ w C b. Unit {0}) (λ t C b x. tt) (h a s names k m)

-- A box of one value.
pub boxed_one_planned : (D : Definitions) (P : Pointee) (X : Shape) → P ≡ one X → (ks : List Naming) (v : Value) → HasPlan D X ks v → HasPlan D (boxed P) ks (box v)
boxed_one_planned D P X is ks v h = rw is (box_planned D (one X) 0 ks v (one_planned D X ks v h))

module _ (D : Definitions) (X : Shape) (n : ℕ) (ks : List Naming) (v : Value) where
  pub vec_plan : (s : SchemaTable) (names : NameMap) (a : Cursor) (holds : ℕ → List Step → Cursor → Type 0) (such : Value → List Step → Cursor → Type 0)
      → ((t : ℕ) (C : List Step) (b : Cursor) → holds t C b → such (hole (to_pointee t (run X) n)) C b) → RegionPlan s names (run X) n v a holds → ValuePlan s names (vec X) v a such
  vec_plan s names a holds such f h = record { flat = hole (to_pointee h.begin (run X) n); steps = h.steps; stop = h.stop; plans = plans_vec h.plans; such = f h.begin h.steps h.stop h.such }

  pub vec_planned : HasRegionPlan D (run X) n ks v → HasPlan D (vec X) ks v
  vec_planned h a s names k m = vec_plan s names a (λ t C b. Unit {0}) (λ w C b. Unit {0}) (λ t C b x. tt) (h a s names k m)

-- The region of a slice, from the plan of each element.
pub slice_planned : {A : Type 0} (D : Definitions) (X : Shape) (k : A → List Naming) (m : A → Value) → ((x : A) → HasPlan D X (k x) (m x)) → (xs : List A)
    → HasRegionPlan D (run X) (length xs) (each_keys k xs) (list (each_meaning m xs))
slice_planned D X k m h xs = run_region_planned D X (length xs) (each_keys k xs) (each_meaning m xs) (each_planned D X k m h xs)
