-- How a shared pointer is written: its value under its key, and a byte of 0 where that has no size; and why not.
use Rattle.std.proofs.Common.{◌≡◌, ◌⊎◌, ⊎_elim, inl, inr, ℕ, zero, suc, pos, slice_index, ◌+◌, ◌<◌, ◌≤◌, List, [], ◌∷◌, ◌++◌, length, refl, sym, ap, subst, ◌∙◌, arith, Option, Some, None, Result, Ok, Err, true, false, cond, ◌&&◌, nat_eq, Contains}
use Rattle.std.proofs.lemmas.Bool.{cases_eq}
use Rattle.std.proofs.lemmas.List.Elements.{Contains-append_left, Contains-append_right, Contains-append_cases}
use Rattle.archive_check.specs.Shape.{Flavor, Shape, shared, weak, Pointee}
use Rattle.archive_check.specs.Definitions.{Definitions}
use Rattle.archive_check.specs.Value.{Pointer, Value, hole, null, shared_value}
use Rattle.archive_check.specs.Reads.{SchemaTable}
use Rattle.archive_check.specs.Tour.{Region, region_at}
use Rattle.archive_check.specs.Denotes.{Naming, fills_null}
use Rattle.archive_check.specs.CleanRegions.{IsZeroed}
use Rattle.archive_check.specs.WriterState.{KeyState, WriterState, KeepsBytes, KeepsKeys}
use Rattle.archive_check.specs.declared.format.error.Error.{Error}
use Rattle.archive_check.specs.declared.format.error.Error.TheVariants.{CyclicSerialize, PositionTooLarge, LengthTooLarge}
use Rattle.archive_check.proofs.Elements.{contains_first, contains_cases}
use Rattle.archive_write.specs.Written.{GoesOn, ExplainsRefusal}
use Rattle.archive_write.specs.Sharing.{known_answer}
use Rattle.archive_types.specs.Writing.{NameMap, to_shared}
use Rattle.archive_types.specs.Members.SharedLaws.{naming_of, as_shared, as_weak}
use Rattle.archive_types.specs.Plans.{Cursor, cursor, begun, ended, StandsAt, Step, lays, plans_shared, plans_null, plans_new, ValuePlan, RegionPlan, Serialized, serialized, SerializedShared, serialized_shared}
use Rattle.archive_types.specs.Causes.{Explains, own_cause, of_position, of_length, ValuePart, part_itself, IsOwner, owner_shared, owner_weak, HindersPart, stands_too_far, IsSharedOwner, shared_owner, weak_owner, shared_too_long, HindersStep, part_hinders, length_hinders, end_hinders, HindersSome, Hinders, HindersRegion, PlanReaches, RegionReaches, IsRefused, IsSharedRefused}
use Rattle.archive_types.proofs.Planning.Causes.{explains_sooner, explains_later, explains_write}
use Rattle.archive_types.proofs.Planning.PlansForward.{begun_below}
use Rattle.archive_types.proofs.Writing.Appending.{writes_nothing}
use Rattle.archive_types.proofs.Planning.Planned.{is_here}
use Rattle.archive_types.proofs.SharedValues.SharedPlans.{behind_empty, serialized_new, serialized_again, pending_refused}

-- what hinders a region of its own hinders the shared one

moved_step : (s : SchemaTable) (t n : ℕ) (P : Pointee) (w : Value) (e : Error) → HindersStep s (lays (region_at s t P n false) w) e → HindersStep s (lays (region_at s t P n true) w) e
moved_step s t n P w e (part_hinders {o = o} {Y = Y} {w = u} p h) = part_hinders {r = region_at s t P n true} {o = o} {Y = Y} {w = u} p h
moved_step s t n P w e (length_hinders l) = length_hinders {r = region_at s t P n true} l
moved_step s t n P w e (end_hinders l) = end_hinders {r = region_at s t P n true} l

moved_steps : (s : SchemaTable) (C : List Step) (t n : ℕ) (P : Pointee) (w : Value) (e : Error) → HindersSome s (C ++ lays (region_at s t P n false) w ∷ []) e → HindersSome s (C ++ lays (region_at s t P n true) w ∷ []) e
moved_steps s C t n P w e (x, c, h) =
    let there : Step = lays (region_at s t P n true) w in
    ⊎_elim
    (λ early. (x, Contains-append_left C (there ∷ []) x early, h))
    (λ late. ⊎_elim
    (λ is. (let last : HindersStep s (lays (region_at s t P n false) w) e = rw is h in (there, Contains-append_right C (there ∷ []) there (contains_first [] there), moved_step s t n P w e last)))
    (λ none. absurd (omega (arith, none.1)))
    (contains_cases (lays (region_at s t P n false) w) [] x late))
    (Contains-append_cases C (lays (region_at s t P n false) w ∷ []) x c)

a_byte : (t size p : ℕ) → t + size ≡ p → t ≡ p → p + 1 ≤ t + cond (true && nat_eq size 0) 1 size
a_byte t size p e f = grind arith

no_shorter : (t size : ℕ) → t + size ≤ t + cond (true && nat_eq size 0) 1 size
no_shorter t size = grind arith

module _ (D : Definitions) (P : Pointee) (n : ℕ) (ks : List Naming) (v : Value) (flavor : Flavor) (key : ℕ) where
  abbrev all : List Naming
  all = naming_of key flavor P n v ∷ ks

  new_refused : (old new : WriterState) (e : Error) → old.states key ≡ None
      → IsSharedRefused D P n key ks v old new e
      → IsRefused D (shared flavor P) all (shared_value key) old new e
  new_refused old new e none h = explains_sooner _ _ _ _ old new e
      (λ x. record {
        named = x.named;
        cause = λ below s names k m. (
            let q = x.cause (begun_below (cursor old) key below) s names k m.1 in
            let r = as_shared s names q.plans in
            record {
              flat = hole (to_shared q.begin flavor P n);
              steps = _;
              stop = ended r.stop key q.begin;
              plans = plans_shared (plans_new none m.0 r.plans);
              such = inl (moved_steps s r.before q.begin n P r.last e (subst (λ C. HindersSome s C e) r.was q.such));
            });
      })
      (λ m x below s names k l. (
      let q = x (begun_below (cursor old) key below) s names k l.1 in
      let r = as_shared s names q.plans in
      record {
        flat = hole (to_shared q.begin flavor P n);
        steps = _;
        stop = ended r.stop key q.begin;
        plans = plans_shared (plans_new none l.0 r.plans);
        such = omega (arith, q.such, r.position, r.end, no_shorter q.begin r.size);
      })) h

  -- what `serialize_shared` refuses isn't written
  pub shared_refused : (r : Result ℕ Error) (old new : WriterState) (e : Error) → r ≡ Err e → ((s : Option ℕ) → old.states key ≡ Some s → r ≡ known_answer s)
      → (old.states key ≡ None → IsSharedRefused D P n key ks v old new e)
      → IsRefused D (shared flavor P) all (shared_value key) old new e
  shared_refused r old new e is known h = by_state (old.states key) refl
    where
      by_state : (state : KeyState) → old.states key ≡ state → IsRefused D (shared flavor P) all (shared_value key) old new e
      by_state None none = new_refused old new e none (h none)
      by_state (Some None) pending = (let f = known None pending in let same : e ≡ CyclicSerialize = cc in rw same (pending_refused D P n ks v flavor key old new pending))
      by_state (Some (Some t)) done = (let f = known (Some t) done in cc)

  module _ (r : Result ℕ Error) (p : ℕ) (old mid : WriterState) (is : r ≡ Ok p) (known : (s : Option ℕ) → old.states key ≡ Some s → r ≡ known_answer s)
      (kept : (s : Option ℕ) → old.states key ≡ Some s → KeepsBytes old mid × KeepsKeys old.states mid.states) (laid : old.states key ≡ None → SerializedShared D P n key ks v p old mid) where
    -- the byte behind an empty region is planned
    planned_byte : length mid.bytes ≡ p → PlanReaches D (shared flavor P) all (shared_value key) (cursor old) (p + 1)
    planned_byte here below s names k m = by_state (old.states key) refl
      where
        with_new : old.states key ≡ None → SerializedShared D P n key ks v p old mid → ValuePlan s names (shared flavor P) (shared_value key) (cursor old) (λ flat C b. p + 1 ≤ b.position)
        with_new none (serialized_shared laid planned) =
            let q = planned (begun_below (cursor old) key below) s names k m.1 in
            let r = as_shared s names q.plans in
            let empty : q.begin + r.size ≡ p = sym r.position ∙ sym q.such.1.position ∙ here in
            record {
              flat = hole (to_shared q.begin flavor P n);
              steps = _;
              stop = ended r.stop key q.begin;
              plans = plans_shared (plans_new none m.0 r.plans);
              such = omega (arith, r.end, a_byte q.begin r.size p empty q.such.0);
            }

        by_state : (state : KeyState) → old.states key ≡ state → ValuePlan s names (shared flavor P) (shared_value key) (cursor old) (λ flat C b. p + 1 ≤ b.position)
        by_state None none = with_new none (laid none)
        by_state (Some None) pending = (let f = known None pending in cc)
        by_state (Some (Some t)) done =
            let f = known (Some t) done in
            let same : t ≡ p = cc in
            let lower = below key t done in
            let grown = ap length (kept (Some t) done).0.0 in
            absurd (omega (arith, same, lower, grown, here))

    pub byte_refused : (position : ℕ) (new : WriterState) (e : Error) → position ≡ length mid.bytes → position ≡ p → GoesOn old mid → GoesOn mid new → ExplainsRefusal 1 position (length new.bytes) mid.room mid.failures new.failures e
        → IsRefused D (shared flavor P) all (shared_value key) old new e
    byte_refused position new e here there g more h =
        explains_later (Hinders D (shared flavor P) all (shared_value key) (cursor old)) _ (PlanReaches D (shared flavor P) all (shared_value key) (cursor old)) _ old mid new e g more (λ x. x) (λ m x. x)
        (explains_write _ _ 1 position mid new e here (rw there (planned_byte (sym here ∙ there))) more h)

    -- it was written
    pub shared_serialized : (new : WriterState) (tail : List ℕ) → new.bytes ≡ mid.bytes ++ tail → IsZeroed tail → length tail ≡ cond (nat_eq (length mid.bytes) p) 1 0 → KeepsKeys mid.states new.states
        → Serialized D (shared flavor P) all (shared_value key) (hole (to_shared p flavor P n)) old new
    shared_serialized new tail more zeros few same = by_state (old.states key) refl
      where
        by_state : (state : KeyState) → old.states key ≡ state → Serialized D (shared flavor P) all (shared_value key) (hole (to_shared p flavor P n)) old new
        by_state None none = serialized_new D P n ks v flavor key p old mid new tail (laid none) more zeros few (λ i k. same k i)
        by_state (Some None) pending = (let f = known None pending in cc)
        by_state (Some (Some t)) done =
            let f = known (Some t) done in
            let there : t ≡ p = cc in
            let (bytes, keys) = kept (Some t) done in
            let at : old.states key ≡ Some (Some p) = rw there at done in
            serialized_again D P n ks v flavor key p old new tail at (more ∙ ap (λ z. z ++ tail) bytes.0) (rw (bytes.0) at few) (λ i k. (same k ∙ keys k) i)

-- what was written stands too far

pub far_refused : (D : Definitions) (X : Shape) (ks : List Naming) (v flat : Value) (h : Pointer) (t : ℕ) (old new later : WriterState) → Serialized D X ks v flat old new → IsOwner X flat h → h.target ≡ pos t → 4294967295 < t
    → IsRefused D X ks v old later PositionTooLarge
far_refused D X ks v flat h t old new later (serialized writes planned) owner there far = own_cause (record {
  named = of_position;
  cause = λ below s names k m. (
      let q = planned below s names k m in
      record { flat = q.flat; steps = q.steps; stop = q.stop; plans = q.plans; such = inr (0, X, q.flat, part_itself, subst (λ w. HindersPart X w PositionTooLarge) (sym q.such.0) (stands_too_far owner there far)) });
})

-- or is too long
pub long_refused : (D : Definitions) (X : Shape) (ks : List Naming) (v flat : Value) (h : Pointer) (old new later : WriterState) → Serialized D X ks v flat old new → IsSharedOwner X flat h → 4294967295 < h.length
    → IsRefused D X ks v old later LengthTooLarge
long_refused D X ks v flat h old new later (serialized writes planned) owner long = own_cause (record {
  named = of_length;
  cause = λ below s names k m. (
      let q = planned below s names k m in
      record { flat = q.flat; steps = q.steps; stop = q.stop; plans = q.plans; such = inr (0, X, q.flat, part_itself, subst (λ w. HindersPart X w LengthTooLarge) (sym q.such.0) (shared_too_long owner long)) });
})

-- a weak pointer is written as a shared one

pub weak_serialized : (D : Definitions) (flavor : Flavor) (P : Pointee) (ks : List Naming) (v flat : Value) (old new : WriterState) → Serialized D (shared flavor P) ks v flat old new → Serialized D (weak flavor P) ks v flat old new
weak_serialized D flavor P ks v flat old new (serialized writes planned) = serialized writes (λ below s names k m. (
    let q = planned below s names k m in
    record { flat = q.flat; steps = q.steps; stop = q.stop; plans = as_weak q.plans; such = q.such }))

weak_part : {s : SchemaTable} {flavor : Flavor} {P : Pointee} {v : Value} {o : ℕ} {Y : Shape} {w : Value} {e : Error} → ValuePart s (shared flavor P) v o Y w → HindersPart Y w e
    → (Z : Shape) × ValuePart s (weak flavor P) v o Z w × HindersPart Z w e
weak_part {flavor = flavor} {P = P} part_itself (stands_too_far owner_shared there far) = (weak flavor P, part_itself, stands_too_far owner_weak there far)
weak_part {flavor = flavor} {P = P} part_itself (shared_too_long shared_owner long) = (weak flavor P, part_itself, shared_too_long weak_owner long)

pub weak_refused : (D : Definitions) (flavor : Flavor) (P : Pointee) (ks : List Naming) (v : Value) (old new : WriterState) (e : Error) → IsRefused D (shared flavor P) ks v old new e → IsRefused D (weak flavor P) ks v old new e
weak_refused D flavor P ks v old new e h = explains_sooner _ _ _ _ old new e
    (λ x. record {
      named = x.named;
      cause = λ below s names k m. (
          let q = x.cause below s names k m in
          record {
            flat = q.flat;
            steps = q.steps;
            stop = q.stop;
            plans = as_weak q.plans;
            such = ⊎_elim inl (λ y. (let z = weak_part y.3 y.4 in inr (y.0, z.0, y.2, z.1, z.2))) q.such;
          });
    })
    (λ m x below s names k l. (let q = x below s names k l in record { flat = q.flat; steps = q.steps; stop = q.stop; plans = as_weak q.plans; such = q.such })) h

-- a null writes nothing
pub null_serialized : (D : Definitions) (flavor : Flavor) (P : Pointee) (w : WriterState) → Serialized D (weak flavor P) [] null null w w
null_serialized D flavor P w = serialized (writes_nothing D w null refl (λ k n. elim n [ ]) (λ x. fills_null))
    (λ below s names k n. record { flat = null; steps = []; stop = cursor w; plans = plans_null; such = (refl, is_here w) })

no_byte : (a p : ℕ) → (a ≡ p → ⊥) → ◌≡◌ {A = ℕ} 0 (cond (nat_eq a p) 1 0)
no_byte a p h = elim (cases_eq a p) [ inl e ↦ absurd (h e) | inr n ↦ grind arith ]

pub without_byte : (bytes : List ℕ) (position p : ℕ) → position ≡ length bytes → (position ≡ p → ⊥) → length {A = ℕ} [] ≡ cond (nat_eq (length bytes) p) 1 0
without_byte bytes position p here apart = no_byte (length bytes) p (λ e. apart (here ∙ e))

pub with_byte : (bytes : List ℕ) (position p : ℕ) → position ≡ length bytes → position ≡ p → length {A = ℕ} (0 ∷ []) ≡ cond (nat_eq (length bytes) p) 1 0
with_byte bytes position p here same = let e : length bytes ≡ p = sym here ∙ same in rw e (one_byte p)
  where
    one_byte : (p : ℕ) → ◌≡◌ {A = ℕ} 1 (cond (nat_eq p p) 1 0)
    one_byte p = grind arith

pub a_zero : IsZeroed (0 ∷ [])
a_zero = record { zero_at = λ i l. at i l }
  where
    at : (i : ℕ) → i < 1 → slice_index (0 ∷ []) i ≡ 0
    at zero l = refl
    at (suc i) l = absurd (omega arith)

-- as the calls have it
pub far_shared_refused : (D : Definitions) (flavor : Flavor) (P : Pointee) (n t : ℕ) (ks : List Naming) (v : Value) (old new : WriterState) → Serialized D (shared flavor P) ks v (hole (to_shared t flavor P n)) old new
    → 4294967295 < t → IsRefused D (shared flavor P) ks v old new PositionTooLarge
far_shared_refused D flavor P n t ks v old new h far = far_refused D (shared flavor P) ks v _ (to_shared t flavor P n) t old new new h owner_shared refl far

pub long_shared_refused : (D : Definitions) (flavor : Flavor) (P : Pointee) (n t : ℕ) (ks : List Naming) (v : Value) (old new : WriterState) → Serialized D (shared flavor P) ks v (hole (to_shared t flavor P n)) old new
    → 4294967295 < n → IsRefused D (shared flavor P) ks v old new LengthTooLarge
long_shared_refused D flavor P n t ks v old new h long = long_refused D (shared flavor P) ks v _ (to_shared t flavor P n) old new new h shared_owner long
