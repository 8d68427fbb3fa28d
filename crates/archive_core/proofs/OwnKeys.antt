-- A write by a serializer that keeps the keys of one archive, told of its writer alone.
use Rattle.std.proofs.Common.{◌≡◌, ℕ, List, refl, subst}
use Rattle.archive_check.specs.Shape.{Pointee}
use Rattle.archive_check.specs.Definitions.{Definitions}
use Rattle.archive_check.specs.Value.{Value}
use Rattle.archive_check.specs.WriterState.{KeyStates, WriterState}
use Rattle.archive_check.specs.declared.format.error.Error.{Error}
use Rattle.archive_check.specs.Denotes.{Naming}
use Rattle.archive_write.specs.Written.{GoesOn}
use Rattle.archive_write.specs.Sharing.{KnowsNone}
use Rattle.archive_types.specs.Plans.{unshared}
use Rattle.archive_types.specs.Causes.{Explains, no_memory, no_room, device_failed, own_cause, IsRegionRefused}

-- what the serializer of these keys tells
abbrev pub keyed : WriterState → KeyStates → WriterState
keyed w states = record w { states = states }

-- where no key is known, it is what the writer tells
fresh_keys : (w : WriterState) (f : KeyStates) → KnowsNone f → keyed w f ≡ unshared w
fresh_keys w f h = λ i. keyed w (λ k. h k i)

pub goes_on : (a b : WriterState) (f g : KeyStates) → GoesOn (keyed a f) (keyed b g) → GoesOn (unshared a) (unshared b)
goes_on a b f g h = record { kept = h.kept; room = h.room; device = h.device; known = λ k x is. is }

told_later : (own : Error → Type 0) (reaches : ℕ → Type 0) (old new later : WriterState) (e : Error) → later.bytes ≡ new.bytes → later.room ≡ new.room → later.failures ≡ new.failures
    → Explains own reaches old new e → Explains own reaches old later e
told_later own reaches old new later e bytes room failures no_memory = no_memory
told_later own reaches old new later e bytes room failures (no_room h) = no_room (record { behind = h.behind; held = rw bytes h.held; planned = h.planned; full = h.full; left = rw room h.left })
told_later own reaches old new later e bytes room failures (device_failed h) = device_failed (rw failures h)
told_later own reaches old new later e bytes room failures (own_cause h) = own_cause h

pub refused : (D : Definitions) (P : Pointee) (n : ℕ) (ks : List Naming) (v : Value) (a b : WriterState) (f g : KeyStates) (e : Error) → KnowsNone f
    → IsRegionRefused D P n ks v (keyed a f) (keyed b g) e → IsRegionRefused D P n ks v (unshared a) (unshared b) e
refused D P n ks v a b f g e none h = subst (λ w. IsRegionRefused D P n ks v w (unshared b) e) (fresh_keys a f none) (told_later _ _ (keyed a f) (keyed b g) (unshared b) e refl refl refl h)
