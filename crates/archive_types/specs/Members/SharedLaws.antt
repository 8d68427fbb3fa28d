-- Names, keys and plans of shared and weak pointers: what their `Portable` and `Archive` cite.
use Rattle.std.proofs.Common.{◌≡◌, ◌⊎◌, ⊎_elim, ℕ, ◌+◌, List, [], ◌∷◌, ◌++◌, refl, Option, Some, None, Bool, true, false, cond, ◌&&◌, nat_eq, Contains}
use Rattle.archive_check.specs.Shape.{Name, Flavor, boxed, shared, weak, Pointee}
use Rattle.archive_check.specs.Defined.{Holds, Mentions, mentions_held, mentions_boxed, mentions_shared, mentions_weak}
use Rattle.archive_check.specs.Definitions.{Definitions, NoOthers}
use Rattle.archive_check.specs.Members.NoOthers.{around_reached}
use Rattle.archive_check.specs.Value.{Value, null, shared_value, hole}
use Rattle.archive_check.specs.Reads.{SchemaTable}
use Rattle.archive_check.specs.Tour.{pointee_size, region_at}
use Rattle.archive_check.specs.Reached.{Names, names_itself}
use Rattle.archive_check.specs.WriterState.{KeyState}
use Rattle.archive_check.proofs.Elements.{contains_first, contains_later, contains_cases}
use Rattle.archive_check.specs.Denotes.{Naming}
use Rattle.archive_types.specs.Writing.{NameMap, HasKeys, LeadsToKey, key_at_once, key_through, IsKeyed, to_shared}
use Rattle.archive_types.specs.Plans.{Cursor, begun, ended, Step, lays, meets, Plans, plans_shared, plans_null, plans_weak, PlansRegion, plans_region, plans_new, plans_finished, plans_pending, ValuePlan, HasPlan, HasRegionPlan}
use Rattle.archive_types.specs.Members.Keyed.{keyed_by_none}
use Rattle.archive_types.specs.Members.Options.{option_keys}

-- A flavor, by its name and whether it allows cycles.
abbrev pub flavor_as : Name → Bool → Flavor
flavor_as name cycles = record { name = name; cycles = cycles }

-- The key of a shared value, with what it names.
abbrev pub naming_of : ℕ → Flavor → Pointee → ℕ → Value → Naming
naming_of key flavor P n v = (key, (record { flavor = flavor; pointee = P; length = n }, v))

-- A weak pointer to what there is, or null.
abbrev pub weak_value : {A : Type 0} → (A → Value) → Option A → Value
weak_value meaning None = null
weak_value meaning (Some x) = meaning x

-- How many elements or bytes there are.
abbrev pub weak_count : {A : Type 0} → (A → ℕ) → Option A → ℕ
weak_count count None = 0
weak_count count (Some x) = count x

-- What is read in its place, by where what it points to was written.
abbrev pub weak_flat : Flavor → Pointee → ℕ → Option ℕ → Value
weak_flat flavor P n None = null
weak_flat flavor P n (Some t) = hole (to_shared t flavor P n)

-- keys

module _ (key : ℕ) (flavor : Flavor) (P : Pointee) (n : ℕ) (ks : List Naming) (v : Value) where
  abbrev k : Naming
  k = naming_of key flavor P n v

  wider : (w : Value) → HasKeys ks w → HasKeys (k ∷ ks) w
  wider w h l name = let (x, c) = h l name in (x, contains_later k ks (l, x) c)

  -- What the pointee leads to, its pointer does.
  leads_further : (l : ℕ) → LeadsToKey ks v l → LeadsToKey (k ∷ ks) (shared_value key) l
  leads_further l (key_at_once name) = key_through (key_at_once names_itself) (contains_first ks k) name
  leads_further l (key_through {l = m} h c name) = key_through (leads_further m.0 h) (contains_later k ks m c) name

  pub shared_keyed : IsKeyed ks v → IsKeyed (k ∷ ks) (shared_value key)
  shared_keyed h = record {
    value = λ l name. itself l name;
    named = λ l c. ⊎_elim (λ e. rw (← e) (wider v h.value)) (λ later. wider l.1.1 (h.named l later)) (contains_cases k ks l c);
    only = λ l c. ⊎_elim (λ e. rw (← e) (key_at_once names_itself)) (λ later. leads_further l.0 (h.only l later)) (contains_cases k ks l c);
  }
    where
      itself : HasKeys (k ∷ ks) (shared_value key)
      itself l names_itself = (k.1, contains_first ks k)

pub weak_keyed : {A : Type 0} (keys : A → List Naming) (meaning : A → Value) → ((x : A) → IsKeyed (keys x) (meaning x)) → (o : Option A) → IsKeyed (option_keys keys o) (weak_value meaning o)
weak_keyed keys meaning h None = keyed_by_none null (λ k name. elim name [ ])
weak_keyed keys meaning h (Some x) = h x

-- plans

-- The plan of a region of its own is that of a shared one, but for the byte behind an empty one.
pub record AsShared (s : SchemaTable) (names : NameMap) (P : Pointee) (n : ℕ) (v : Value) (a : Cursor) (t : ℕ) (C : List Step) (b : Cursor) : Type 0 where
  pub before : List Step
  pub last : Value
  pub was : C ≡ before ++ lays (region_at s t P n false) last ∷ []
  pub stop : Cursor
  pub plans : PlansRegion s names true P n v a t (before ++ lays (region_at s t P n true) last ∷ []) stop
  pub size : ℕ
  pub position : b.position ≡ t + size
  pub end : stop.position ≡ t + cond (true && nat_eq size 0) 1 size
  pub states : stop.states ≡ b.states

pub as_shared : (s : SchemaTable) (names : NameMap) {P : Pointee} {n t : ℕ} {v : Value} {a b : Cursor} {C : List Step} → PlansRegion s names false P n v a t C b → AsShared s names P n v a t C b
as_shared s names (plans_region {P = P} {n = n} {w = w} {C = C} h at) =
    record { before = C; last = w; was = refl; stop = _; plans = plans_region h at; size = pointee_size s P n; position = refl; end = refl; states = refl }

module _ (D : Definitions) (P : Pointee) (n : ℕ) (ks : List Naming) (v : Value) (flavor : Flavor) (key : ℕ) where
  pub shared_planned : HasRegionPlan D P n ks v → HasPlan D (shared flavor P) (naming_of key flavor P n v ∷ ks) (shared_value key)
  shared_planned h a s names k m = by_state (a.states key) refl
    where
      by_state : (state : KeyState) → a.states key ≡ state → ValuePlan s names (shared flavor P) (shared_value key) a (λ w C b. Unit {0})
      by_state None is =
          let q = h (begun a key) s names k m.1 in
          let r = as_shared s names q.plans in
          record { flat = hole (to_shared q.begin flavor P n); steps = _; stop = ended r.stop key q.begin; plans = plans_shared (plans_new is m.0 r.plans); such = tt }
      by_state (Some None) is = record { flat = shared_value key; steps = meets key ∷ []; stop = a; plans = plans_shared (plans_pending is); such = tt }
      by_state (Some (Some t)) is = record { flat = hole (to_shared t flavor P n); steps = []; stop = a; plans = plans_shared (plans_finished is m.0); such = tt }

pub as_weak : {s : SchemaTable} {names : NameMap} {flavor : Flavor} {P : Pointee} {v w : Value} {a b : Cursor} {C : List Step} → Plans s names (shared flavor P) v a w C b → Plans s names (weak flavor P) v a w C b
as_weak (plans_shared h) = plans_weak h

pub weak_planned : {A : Type 0} (D : Definitions) (flavor : Flavor) (P : Pointee) (keys : A → List Naming) (meaning : A → Value) → ((x : A) → HasPlan D (shared flavor P) (keys x) (meaning x)) → (o : Option A)
    → HasPlan D (weak flavor P) (option_keys keys o) (weak_value meaning o)
weak_planned D flavor P keys meaning h None a s names k m = record { flat = null; steps = []; stop = a; plans = plans_null; such = tt }
weak_planned D flavor P keys meaning h (Some x) a s names k m = let q = h x a s names k m in record { flat = q.flat; steps = q.steps; stop = q.stop; plans = as_weak q.plans; such = tt }

-- names

held_nowhere : {A : Type 0} (name : Name) (P : Pointee) → Holds name (boxed P) → A
held_nowhere name P h = elim h [ ]

mentions_as_shared : (name : Name) (flavor : Flavor) (P : Pointee) → Mentions name (boxed P) → Mentions name (shared flavor P)
mentions_as_shared name flavor P (mentions_held h) = held_nowhere name P h
mentions_as_shared name flavor P (mentions_boxed m) = mentions_shared m

mentions_as_weak : (name : Name) (flavor : Flavor) (P : Pointee) → Mentions name (boxed P) → Mentions name (weak flavor P)
mentions_as_weak name flavor P (mentions_held h) = held_nowhere name P h
mentions_as_weak name flavor P (mentions_boxed m) = mentions_weak m

-- What a box of it reaches, a shared pointer to it does.
pub shared_reaches : (D : Definitions) (flavor : Flavor) (P : Pointee) → NoOthers D (boxed P) → NoOthers D (shared flavor P)
shared_reaches D flavor P h = around_reached D (boxed P) (shared flavor P) (λ n m. mentions_as_shared n flavor P m) h

pub weak_reaches : (D : Definitions) (flavor : Flavor) (P : Pointee) → NoOthers D (boxed P) → NoOthers D (weak flavor P)
weak_reaches D flavor P h = around_reached D (boxed P) (weak flavor P) (λ n m. mentions_as_weak n flavor P m) h
