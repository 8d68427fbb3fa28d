-- How the writing of a shared value goes, from that of its pointee.
use Rattle.std.proofs.Common.{◌≡◌, inl, inr, ℕ, length, refl, sym, ap, subst, ◌∙◌, List, Some, None, is_some, nat_eq, Result, Ok, Err}
use Rattle.std.specs.Map.{update}
use Rattle.std.proofs.lemmas.Bool.{cases_eq}
use Rattle.archive_check.specs.Shape.{Pointee}
use Rattle.archive_check.specs.Definitions.{Definitions}
use Rattle.archive_check.specs.Value.{Value}
use Rattle.archive_check.specs.WriterState.{KeyState, KeyStates, WriterState, KeepsBytes}
use Rattle.archive_check.specs.declared.format.error.Error.{Error}
use Rattle.archive_write.specs.Written.{GoesOn}
use Rattle.archive_write.specs.Sharing.{IsSet, KeepsKnown, started_key, start_answer}
use Rattle.archive_check.specs.context.PositionStates.{finish_answer}
use Rattle.archive_check.specs.Denotes.{Naming}
use Rattle.archive_write.specs.declared.sharing.SharingState.{SharingState}
use Rattle.archive_write.specs.declared.sharing.SharingState.TheVariants.{Started, Pending}
use Rattle.archive_types.specs.Writing.{LaysOut}
use Rattle.archive_types.specs.Plans.{cursor, begun, StandsAt, LiesAsPlanned, SerializedRegion, serialized_region, SerializedShared, serialized_shared}
use Rattle.archive_types.specs.Causes.{Explains, HindersRegion, RegionReaches, IsRegionRefused, IsSharedRefused}
use Rattle.archive_types.proofs.SharedValues.KeyStates.{set_here, set_other}
use Rattle.archive_types.proofs.Planning.Causes.{goes_kept, explains_later}

-- where a new key's value is begun
pub begun_cursor : (old mid : WriterState) (key : ℕ) → old.states key ≡ None → KeepsBytes old mid → IsSet old.states key (started_key (old.states key)) mid.states
    → cursor mid ≡ begun (cursor old) key
begun_cursor old mid key unknown same set =
    let states : mid.states ≡ update nat_eq old.states key (Some None) = (λ i k. (set k ∙ ap (λ s. update nat_eq old.states key (started_key s) k) unknown) i) in
    (λ i. record { position = length (same.0 i); states = states i })

but_states : (a b : WriterState) → KeepsBytes a b → b ≡ record a { states = b.states }
but_states a b (bytes, room, failures) = λ i. record { bytes = bytes i; room = room i; failures = failures i; states = b.states }

-- it goes on from where the key was unknown
pub begun_goes : (old mid : WriterState) (key : ℕ) → old.states key ≡ None → KeepsBytes old mid → IsSet old.states key (started_key (old.states key)) mid.states → GoesOn old mid
begun_goes old mid key unknown same set = goes_kept old mid same (λ k x is. elim (cases_eq k key) [
  | inl eq ↦ (let none : old.states k ≡ None = rw eq unknown in cc)
  | inr n ↦ set_other old.states mid.states key (started_key (old.states key)) set k n ∙ is
])

module _ (D : Definitions) (P : Pointee) (n : ℕ) (ks : List Naming) (v : Value) (key : ℕ) where
  pub shared_hindered : (old mid new : WriterState) (e : Error) → old.states key ≡ None → KeepsBytes old mid → IsSet old.states key (started_key (old.states key)) mid.states
      → GoesOn mid new → IsRegionRefused D P n ks v mid new e → IsSharedRefused D P n key ks v old new e
  shared_hindered old mid new e unknown same set g h =
      let at = begun_cursor old mid key unknown same set in
      let there = subst (λ c. Explains (HindersRegion D P n ks v c) (RegionReaches D P n ks v c) mid new e) at h in
      explains_later _ _ _ _ old mid new e (begun_goes old mid key unknown same set) g (λ x. x) (λ m x. x) there

  -- what an unknown key names was laid out, and the key finished there
  pub laid_shared : (p : ℕ) (old mid low new : WriterState) → old.states key ≡ None → KeepsBytes old mid → IsSet old.states key (started_key (old.states key)) mid.states
      → SerializedRegion D P n ks v p mid low → KeepsBytes low new → IsSet low.states key (Some (Some p)) new.states → SerializedShared D P n key ks v p old new
  laid_shared p old mid low new unknown same set (serialized_region lays planned) like finish = serialized_shared
      (record {
        unknown = unknown;
        begun = mid.states;
        begins = rw unknown at set;
        laid = low.states;
        lays = subst (λ w. LaysOut D w (record new { states = low.states }) ks p P n v) (but_states old mid same)
            (subst (λ w. LaysOut D mid w ks p P n v) (but_states new low (sym (like.0), sym (like.1), sym (like.2))) lays);
        ends = finish;
      })
      (λ below s names k l. (
      let q = (subst (λ c. LiesAsPlanned D P n ks v c p (λ b. StandsAt b low)) (begun_cursor old mid key unknown same set) planned) below s names k l in
      record {
        begin = q.begin;
        steps = q.steps;
        stop = q.stop;
        plans = q.plans;
        such = (
          q.such.0,
          record {
            position = ap length (like.0) ∙ q.such.1.position;
            keys = λ j. finish j ∙ ap (λ f. update nat_eq f key (Some (Some p)) j) (λ i m. q.such.1.keys m i);
          },
        );
      }))

-- what the answers of the calls say

pub started_unknown : (s : KeyState) (a : SharingState) → a ≡ start_answer s → a ≡ Started → s ≡ None
started_unknown None a e f = refl
started_unknown (Some None) a e f = cc
started_unknown (Some (Some p)) a e f = cc

pub pending_known : (s : KeyState) (a : SharingState) → a ≡ start_answer s → a ≡ Pending → s ≡ Some None
pending_known None a e f = cc
pending_known (Some None) a e f = refl
pending_known (Some (Some p)) a e f = cc

-- a key that was started, and stayed so, is finished
pub finished_served : (f g h : KeyStates) (key : ℕ) (r : Result (Unit {0}) Error) (e : Error) → f key ≡ None → IsSet f key (started_key (f key)) g → KeepsKnown g h → r ≡ finish_answer is_some (h key) → r ≡ Err e → ⊥
finished_served f g h key r e unknown set kept answer is =
    let here : g key ≡ Some None = set_here f g key (started_key (f key)) set ∙ ap started_key unknown in
    let there : h key ≡ Some None = kept key None here in
    let served : r ≡ Ok tt = answer ∙ ap (finish_answer is_some) there in cc
