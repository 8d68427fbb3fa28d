-- How a shared value goes as planned: under a new key, a finished one and a pending one.
use Rattle.std.proofs.Common.{◌≡◌, inl, inr, ℕ, ◌+◌, ◌<◌, List, [], ◌∷◌, ◌++◌, length, refl, sym, ap, ◌∙◌, arith, Some, None, true, false, cond, ◌&&◌, nat_eq, length-append}
use Rattle.archive_check.specs.Shape.{Flavor, shared, Pointee}
use Rattle.archive_check.specs.Definitions.{Definitions}
use Rattle.archive_check.specs.Value.{Value, hole, shared_value}
use Rattle.archive_check.specs.Reads.{SchemaTable}
use Rattle.archive_check.specs.Tour.{Entry, pointee_size}
use Rattle.archive_check.specs.CleanRegions.{IsZeroed}
use Rattle.archive_check.specs.WriterState.{WriterState}
use Rattle.archive_check.specs.declared.format.error.Error.{Error}
use Rattle.archive_check.specs.declared.format.error.Error.TheVariants.{CyclicSerialize}
use Rattle.archive_check.proofs.Elements.{contains_first}
use Rattle.archive_check.specs.Denotes.{Naming}
use Rattle.archive_types.specs.Writing.{to_shared}
use Rattle.archive_types.specs.Members.SharedLaws.{as_shared}
use Rattle.archive_types.specs.Plans.{cursor, begun, ended, meets, plans_shared, plans_new, plans_finished, plans_pending, Serialized, serialized, SerializedShared, serialized_shared}
use Rattle.archive_types.specs.Causes.{own_cause, of_key, key_hinders, IsRefused}
use Rattle.archive_types.proofs.SharedValues.Shared.{writes_shared_new, writes_shared_again}
use Rattle.archive_types.proofs.Planning.PlansForward.{begun_below}

pub behind_empty : (t size l m : ℕ) → l ≡ t + size → m ≡ cond (nat_eq l t) 1 0 → l + m ≡ t + cond (true && nat_eq size 0) 1 size
behind_empty t size l m e f = grind arith

module _ (D : Definitions) (P : Pointee) (n : ℕ) (ks : List Naming) (v : Value) (flavor : Flavor) (key : ℕ) where
  abbrev naming : Naming
  naming = (key, (record { flavor = flavor; pointee = P; length = n }, v))

  -- a new key: a byte of 0 follows a region of no size
  pub serialized_new : (t : ℕ) (old mid new : WriterState) (tail : List ℕ) → SerializedShared D P n key ks v t old mid → new.bytes ≡ mid.bytes ++ tail → IsZeroed tail
      → length tail ≡ cond (nat_eq (length mid.bytes) t) 1 0 → new.states ≡ mid.states
      → Serialized D (shared flavor P) (naming ∷ ks) (shared_value key) (hole (to_shared t flavor P n)) old new
  serialized_new t old mid new tail (serialized_shared lays planned) more zeros few same = serialized
      (writes_shared_new D old mid new ks v P n flavor t key tail lays more zeros few same)
      (λ below s names k m. (
      let q = planned (begun_below (cursor old) key below) s names k m.1 in
      let r = as_shared s names q.plans in
      let there : q.begin ≡ t = q.such.0 in
      let position : length mid.bytes ≡ q.begin + r.size = q.such.1.position ∙ r.position in
      let last : length tail ≡ cond (nat_eq (length mid.bytes) q.begin) 1 0 = few ∙ ap (λ p. cond (nat_eq (length mid.bytes) p) 1 0) (sym there) in
      record {
        flat = hole (to_shared q.begin flavor P n);
        steps = _;
        stop = ended r.stop key q.begin;
        plans = plans_shared (plans_new lays.unknown m.0 r.plans);
        such = (
          ap (λ p. hole (to_shared p flavor P n)) there,
          record {
            position = ap length more ∙ length-append mid.bytes tail ∙ behind_empty q.begin r.size (length mid.bytes) (length tail) position last ∙ sym r.end;
            keys = λ j. ap (λ f. f j) same ∙ q.such.1.keys j ∙ (λ i. (ended (record { position = r.stop.position; states = sym r.states i }) key (sym there i)).states j);
          },
        );
      }))

  -- a finished key: nothing is written, unless the states are none that a writer can have
  pub serialized_again : (t : ℕ) (old new : WriterState) (tail : List ℕ) → old.states key ≡ Some (Some t) → new.bytes ≡ old.bytes ++ tail
      → length tail ≡ cond (nat_eq (length old.bytes) t) 1 0 → new.states ≡ old.states
      → Serialized D (shared flavor P) (naming ∷ ks) (shared_value key) (hole (to_shared t flavor P n)) old new
  serialized_again t old new tail is more few same = serialized
      (writes_shared_again D old new ks v P n flavor t key tail is more few same)
      (λ below s names k m. record {
        flat = hole (to_shared t flavor P n);
        steps = [];
        stop = cursor old;
        plans = plans_shared (plans_finished is m.0);
        such = (
          refl,
          record {
            position = stays (length old.bytes) (length new.bytes) (length tail) t (ap length more ∙ length-append old.bytes tail) few (below key t is);
            keys = λ j. ap (λ f. f j) same;
          },
        );
      })
    where
      stays : (a b l t : ℕ) → b ≡ a + l → l ≡ cond (nat_eq a t) 1 0 → t < a → b ≡ a
      stays a b l t e f less = grind arith

  -- a pending key is refused
  pub pending_refused : (old new : WriterState) → old.states key ≡ Some None → IsRefused D (shared flavor P) (naming ∷ ks) (shared_value key) old new CyclicSerialize
  pending_refused old new is = own_cause (record {
    named = of_key;
    cause = λ below s names k m. record { flat = _; steps = meets key ∷ []; stop = cursor old; plans = plans_shared (plans_pending is); such = inl (meets key, contains_first [] (meets key), key_hinders) };
  })
