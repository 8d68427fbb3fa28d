-- A key that is begun, and finished after what it names was written.
use Rattle.std.proofs.Common.{◌≡◌, ◌<◌, inl, inr, ℕ, List, Option, Some, None, Result, Ok, Err, IfSome, IfNone, refl, sym, ap, ◌∙◌}
use Rattle.std.proofs.lemmas.Bool.{cases_eq}
use Rattle.archive_check.specs.Definitions.{Definitions}
use Rattle.archive_check.specs.Denotes.{Naming}
use Rattle.archive_check.specs.Shape.{Flavor, Pointee, Shape, run}
use Rattle.archive_check.specs.Value.{Value, Values, list}
use Rattle.archive_check.specs.WriterState.{KeyState, WriterState, KeepsBytes}
use Rattle.archive_check.specs.declared.format.error.Error.{Error}
use Rattle.archive_check.specs.declared.format.error.Error.TheVariants.{LengthTooLarge}
use Rattle.archive_core.specs.recursive.SharedParts.{Begins, IsKnown, LiesAt, RefusedUnder}
use Rattle.archive_types.proofs.Planning.Causes.{goes_both, goes_kept, goes_nowhere}
use Rattle.archive_types.proofs.SharedValues.KeyStates.{set_here, set_other}
use Rattle.archive_types.proofs.SharedValues.SharedCauses.{shared_hindered, laid_shared}
use Rattle.archive_types.proofs.SharedValues.SharedWritten.{long_shared_refused, shared_refused}
use Rattle.archive_types.proofs.Writing.RunRegions.{long_run_refused}
use Rattle.archive_types.specs.Causes.{IsRegionRefused}
use Rattle.archive_types.specs.Plans.{SerializedRegion}
use Rattle.archive_types.specs.Runs.{HasRunPlan}
use Rattle.archive_write.specs.Sharing.{IsSet, started_key, start_answer, known_answer}
use Rattle.archive_write.specs.declared.sharing.SharingState.{SharingState}
use Rattle.archive_write.specs.declared.sharing.SharingState.TheVariants.{Finished}
use Rattle.archive_write.specs.Written.{GoesOn}

-- a start keeps what is known
pub started_goes : (old new : WriterState) (key : ℕ) → KeepsBytes old new → IsSet old.states key (started_key (old.states key)) new.states → GoesOn old new
started_goes old new key same set = goes_kept old new same (λ k x is. elim (cases_eq k key) [
  | inl eq ↦ (
      let at : old.states key ≡ Some x = rw (sym eq) is in
      rw eq (set_here old.states new.states key (started_key (old.states key)) set ∙ ap started_key at))
  | inr n ↦ set_other old.states new.states key (started_key (old.states key)) set k n ∙ is
])

pub begun_since : (old low mid : WriterState) (key : ℕ) → Begins key old low → GoesOn low mid → GoesOn old mid
begun_since old low mid key b go = goes_both old low mid (started_goes old low key b.same b.pending) go

-- what was unknown before may be finished
pub finished_since : (old low mid new : WriterState) (key p : ℕ) → Begins key old low → GoesOn low mid → KeepsBytes mid new → IsSet mid.states key (Some (Some p)) new.states → GoesOn old new
finished_since old low mid new key p b go same set =
    let g : GoesOn old mid = begun_since old low mid key b go in
    record {
      kept = rw (same.0) (g.kept);
      room = rw (same.0, same.1) (g.room);
      device = rw (same.2) (g.device);
      known = λ k x is. elim (cases_eq k key) [
        | inl eq ↦ (let none : old.states k ≡ None = rw eq (b.unknown) in cc)
        | inr n ↦ set_other mid.states new.states key (Some (Some p)) set k n ∙ g.known k x is
      ];
    }

-- what the answer of a start says
pub finished_known : (s : KeyState) (a : SharingState) (p : ℕ) → a ≡ start_answer s → a ≡ Finished p → s ≡ Some (Some p)
finished_known None a p e f = cc
finished_known (Some None) a p e f = cc
finished_known (Some (Some q)) a p e f = cc

module _ (D : Definitions) (P : Pointee) (n key : ℕ) (ks : List Naming) (v : Value) where
  -- a finished key's value lies where it did
  pub known_lies : (p : ℕ) (old new : WriterState) → old.states key ≡ Some (Some p) → KeepsBytes old new → IsSet old.states key (started_key (old.states key)) new.states → LiesAt D P n key ks v p old new
  known_lies p old new at same set = record {
    known = λ s is. (let there : Some s ≡ Some (Some p) = sym is ∙ at in known_at s there);
    kept = λ s is. (same, λ k. states k);
    laid = λ none. (let no : old.states key ≡ Some (Some p) = at in cc);
  }
    where
      known_at : (s : Option ℕ) → ◌≡◌ {A = Option (Option ℕ)} (Some s) (Some (Some p)) → ◌≡◌ {A = Result ℕ Error} (Ok p) (known_answer s)
      known_at None e = cc
      known_at (Some q) e = cc

      states : (k : ℕ) → new.states k ≡ old.states k
      states k = elim (cases_eq k key) [
        | inl eq ↦ rw eq (set_here old.states new.states key (started_key (old.states key)) set ∙ ap started_key at ∙ sym at)
        | inr d ↦ set_other old.states new.states key (started_key (old.states key)) set k d
      ]

  -- and what was laid out, where it was
  pub shared_lies : (p : ℕ) (old low mid new : WriterState) → Begins key old low → SerializedRegion D P n ks v p low mid → KeepsBytes mid new → IsSet mid.states key (Some (Some p)) new.states → LiesAt D P n key ks v p old new
  shared_lies p old low mid new b laid same set = record {
    known = λ s is. (let no : old.states key ≡ None = b.unknown in cc);
    kept = λ s is. (let no : old.states key ≡ None = b.unknown in cc);
    laid = λ none. laid_shared D P n ks v key p old low mid new none (b.same) (b.pending) laid same set;
  }

  -- what hinders the region hinders the pointer
  pub region_refused : (flavor : Flavor) (old low new : WriterState) (e : Error) → Begins key old low → GoesOn low new → IsRegionRefused D P n ks v low new e → RefusedUnder D flavor P n key ks v old new e
  region_refused flavor old low new e b go h = shared_refused D P n ks v flavor key (Err e) old new e refl (λ s is. (let no : old.states key ≡ None = b.unknown in cc))
      (λ none. shared_hindered D P n ks v key old low new e none (b.same) (b.pending) go h)

-- too many elements hinder the pointer, whether their key is known or was begun
pub long_begun : (D : Definitions) (X : Shape) (n key : ℕ) (ks : List Naming) (vs : Values) (flavor : Flavor) (old new : WriterState) (known : Option ℕ) → IfSome known (λ t. IsKnown key t old new)
    → IfNone known (Begins key old new) → HasRunPlan D X n ks vs → 4294967295 < n → RefusedUnder D flavor (run X) n key ks (list vs) old new LengthTooLarge
long_begun D X n key ks vs flavor old new (Some t) k b plans long = long_shared_refused D flavor (run X) n t _ _ old new (k.said D flavor (run X) n ks (list vs)) long
long_begun D X n key ks vs flavor old new None k b plans long = region_refused D (run X) n key ks (list vs) flavor old new new LengthTooLarge b (goes_nowhere new) (long_run_refused D X n ks vs new new plans long)
