-- A plan goes on: it ends no earlier than it begins.
use Rattle.std.proofs.Common.{◌≡◌, inl, inr, ℕ, zero, suc, ◌+◌, ◌<◌, ◌≤◌, List, sym, ◌∙◌, arith, Bool, true, cond, ◌&&◌, nat_eq, Some, None}
use Rattle.std.proofs.lemmas.Bool.{cases_eq}
use Rattle.std.proofs.lemmas.Map.{update_here, update_apart}
use Rattle.archive_check.specs.Shape.{Shape, one, run, text, Pointee, Flavor, Parts}
use Rattle.archive_check.specs.Value.{Value, Values}
use Rattle.archive_check.specs.Reads.{SchemaTable, LaidOut}
use Rattle.archive_check.specs.Tour.{pointee_size, pointee_align}
use Rattle.archive_check.proofs.Tours.PartsInside.{up_le}
use Rattle.archive_check.proofs.Names.PositiveAlignments.{align_pos}
use Rattle.archive_types.specs.Writing.{NameMap}
use Rattle.archive_types.specs.Plans.{Cursor, AreBelow, begun, ended, Step, Plans, plans_leaf, plans_parts, plans_choice, plans_array, plans_boxed, plans_vec, plans_map, plans_inline, plans_out_of_line, plans_shared, plans_null, plans_weak, plans_named, PlansParts, plans_no_part, plans_part, PlansRun, plans_none, plans_element, PlansPointee, plans_one, plans_run, plans_text, PlansRegion, plans_region, PlansShared, plans_new, plans_finished, plans_pending}

pub pointee_align_low : (s : SchemaTable) → LaidOut s → (P : Pointee) → 1 ≤ pointee_align s P
pointee_align_low s l (one X) = align_pos s.layouts l.aligned X
pointee_align_low s l (run X) = align_pos s.layouts l.aligned X
pointee_align_low s l text = omega arith

-- a plan ends no earlier than it begins
mutual
  pub plans_forward : (s : SchemaTable) (l : LaidOut s) (names : NameMap) {X : Shape} {v w : Value} {a b : Cursor} {C : List Step} → Plans s names X v a w C b → a.position ≤ b.position
  plans_forward s l names plans_leaf = omega arith
  plans_forward s l names (plans_parts h) = parts_forward s l names h
  plans_forward s l names (plans_choice is h) = parts_forward s l names h
  plans_forward s l names (plans_array h) = run_forward s l names h
  plans_forward s l names (plans_boxed h) = region_forward s l names h
  plans_forward s l names (plans_vec h) = region_forward s l names h
  plans_forward s l names (plans_map h) = region_forward s l names h
  plans_forward s l names (plans_inline few) = omega arith
  plans_forward s l names (plans_out_of_line long h) = region_forward s l names h
  plans_forward s l names (plans_shared h) = shared_forward s l names h
  plans_forward s l names plans_null = omega arith
  plans_forward s l names (plans_weak h) = shared_forward s l names h
  plans_forward s l names (plans_named is h) = plans_forward s l names h

  pub parts_forward : (s : SchemaTable) (l : LaidOut s) (names : NameMap) {ps : Parts} {vs ws : Values} {a b : Cursor} {C : List Step} → PlansParts s names ps vs a ws C b → a.position ≤ b.position
  parts_forward s l names plans_no_part = omega arith
  parts_forward s l names (plans_part {a = a} {b = b} {c = c} {C = C} {D = D} h i) = omega (arith, plans_forward s l names h, parts_forward s l names i)

  pub run_forward : (s : SchemaTable) (l : LaidOut s) (names : NameMap) {n : ℕ} {X : Shape} {vs ws : Values} {a b : Cursor} {C : List Step} → PlansRun s names n X vs a ws C b → a.position ≤ b.position
  run_forward s l names plans_none = omega arith
  run_forward s l names (plans_element {a = a} {b = b} {c = c} {C = C} {D = D} h i) = omega (arith, plans_forward s l names h, run_forward s l names i)

  pub pointee_forward : (s : SchemaTable) (l : LaidOut s) (names : NameMap) {P : Pointee} {n : ℕ} {v w : Value} {a b : Cursor} {C : List Step} → PlansPointee s names P n v a w C b → a.position ≤ b.position
  pointee_forward s l names (plans_one h) = plans_forward s l names h
  pointee_forward s l names (plans_run h) = run_forward s l names h
  pointee_forward s l names plans_text = omega arith

  pub region_forward : (s : SchemaTable) (l : LaidOut s) (names : NameMap) {is_shared : Bool} {P : Pointee} {n t : ℕ} {v : Value} {a b : Cursor} {C : List Step} → PlansRegion s names is_shared P n v a t C b → a.position ≤ b.position
  region_forward s l names (plans_region {is_shared = is_shared} {P = P} {n = n} {t = t} {w = w} {a = a} {b = b} {C = C} h at) =
      omega (arith, at, pointee_forward s l names h, up_le b.position (pointee_align s P) (pointee_align_low s l P))

  pub shared_forward : (s : SchemaTable) (l : LaidOut s) (names : NameMap) {flavor : Flavor} {P : Pointee} {key : ℕ} {w : Value} {a b : Cursor} {C : List Step} → PlansShared s names flavor P key a w C b → a.position ≤ b.position
  shared_forward s l names (plans_new none is h) = region_forward s l names h
  shared_forward s l names (plans_finished at is) = omega arith
  shared_forward s l names (plans_pending at) = omega arith

-- a shared region ends behind its begin
pub ends_behind : (t size : ℕ) → t < t + cond (true && nat_eq size 0) 1 size
ends_behind t zero = omega arith
ends_behind t (suc size) = grind arith

pub begun_below : (a : Cursor) (key : ℕ) → AreBelow a → AreBelow (begun a key)
begun_below a key below k t is = elim (cases_eq k key) [
  | inl eq ↦ (let there : (begun a key).states k ≡ Some None = rw eq (update_here a.states key (Some None)) in cc)
  | inr n ↦ below k t (sym (update_apart a.states key (Some None) k n) ∙ is)
]

pub ended_below : (b : Cursor) (key p : ℕ) → p < b.position → AreBelow b → AreBelow (ended b key p)
ended_below b key p less below k t is = elim (cases_eq k key) [
  | inl eq ↦ (let there : (ended b key p).states k ≡ Some (Some p) = rw eq (update_here b.states key (Some (Some p))) in let same : t ≡ p = cc in omega (arith, same, less))
  | inr n ↦ below k t (sym (update_apart b.states key (Some (Some p)) k n) ∙ is)
]

pub region_ends : (s : SchemaTable) (names : NameMap) {P : Pointee} {n t : ℕ} {v : Value} {a b : Cursor} {C : List Step} → PlansRegion s names true P n v a t C b → t < b.position
region_ends s names (plans_region {P = P} {n = n} {t = t} h at) = ends_behind t (pointee_size s P n)

-- where the keys that are finished stand below, so they do where the plan ends
mutual
  pub plans_below : (s : SchemaTable) (l : LaidOut s) (names : NameMap) {X : Shape} {v w : Value} {a b : Cursor} {C : List Step} → Plans s names X v a w C b → AreBelow a → AreBelow b
  plans_below s l names plans_leaf = λ below. below
  plans_below s l names (plans_parts h) = parts_below s l names h
  plans_below s l names (plans_choice is h) = parts_below s l names h
  plans_below s l names (plans_array h) = run_below s l names h
  plans_below s l names (plans_boxed h) = region_below s l names h
  plans_below s l names (plans_vec h) = region_below s l names h
  plans_below s l names (plans_map h) = region_below s l names h
  plans_below s l names (plans_inline few) = λ below. below
  plans_below s l names (plans_out_of_line long h) = region_below s l names h
  plans_below s l names (plans_shared h) = shared_below s l names h
  plans_below s l names plans_null = λ below. below
  plans_below s l names (plans_weak h) = shared_below s l names h
  plans_below s l names (plans_named is h) = plans_below s l names h

  pub parts_below : (s : SchemaTable) (l : LaidOut s) (names : NameMap) {ps : Parts} {vs ws : Values} {a b : Cursor} {C : List Step} → PlansParts s names ps vs a ws C b → AreBelow a → AreBelow b
  parts_below s l names plans_no_part = λ below. below
  parts_below s l names (plans_part {a = a} {b = b} {c = c} {C = C} {D = D} h i) = λ below. parts_below s l names i (plans_below s l names h below)

  pub run_below : (s : SchemaTable) (l : LaidOut s) (names : NameMap) {n : ℕ} {X : Shape} {vs ws : Values} {a b : Cursor} {C : List Step} → PlansRun s names n X vs a ws C b → AreBelow a → AreBelow b
  run_below s l names plans_none = λ below. below
  run_below s l names (plans_element {a = a} {b = b} {c = c} {C = C} {D = D} h i) = λ below. run_below s l names i (plans_below s l names h below)

  pub pointee_below : (s : SchemaTable) (l : LaidOut s) (names : NameMap) {P : Pointee} {n : ℕ} {v w : Value} {a b : Cursor} {C : List Step} → PlansPointee s names P n v a w C b → AreBelow a → AreBelow b
  pointee_below s l names (plans_one h) = plans_below s l names h
  pointee_below s l names (plans_run h) = run_below s l names h
  pointee_below s l names plans_text = λ below. below

  pub region_below : (s : SchemaTable) (l : LaidOut s) (names : NameMap) {is_shared : Bool} {P : Pointee} {n t : ℕ} {v : Value} {a b : Cursor} {C : List Step} → PlansRegion s names is_shared P n v a t C b → AreBelow a → AreBelow b
  region_below s l names (plans_region {is_shared = is_shared} {P = P} {n = n} {t = t} {w = w} {a = a} {b = b} {C = C} h at) =
      λ below k q is. omega (arith, at, pointee_below s l names h below k q is, up_le b.position (pointee_align s P) (pointee_align_low s l P))

  pub shared_below : (s : SchemaTable) (l : LaidOut s) (names : NameMap) {flavor : Flavor} {P : Pointee} {key : ℕ} {w : Value} {a b : Cursor} {C : List Step} → PlansShared s names flavor P key a w C b → AreBelow a → AreBelow b
  shared_below s l names (plans_new {key = key} {t = t} {a = a} {b = b} none is h) = λ below. ended_below b key t (region_ends s names h) (region_below s l names h (begun_below a key below))
  shared_below s l names (plans_finished at is) = λ below. below
  shared_below s l names (plans_pending at) = λ below. below
