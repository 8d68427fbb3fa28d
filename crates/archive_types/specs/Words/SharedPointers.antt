-- What is said of the writing of shared and weak pointers. `Both` is a parameter as a clause names it: what it was as the call began, and what it is at the
-- return.
use denote.Triple.Both.{Both}
use denote.Ref.{MutBor}
use Rattle.std.specs.Prelude.{◌≡◌, ℕ, List, ◌∷◌, Some, None, Result, IsErrOf}
use Rattle.archive_check.specs.Shape.{Flavor, Pointee, one, weak}
use Rattle.archive_check.specs.WriterState.{KeepsBytes, KeepsKeys}
use Rattle.archive_check.specs.declared.format.error.Error.{Error}
use Rattle.archive_check.specs.declared.format.error.Error.TheVariants.{CyclicSerialize}
use Rattle.archive_check.specs.Denotes.{Naming}
use Rattle.archive_check.specs.declared.format.traits.ArchivePointee as ArchivePointee
use Rattle.archive_check.specs.declared.format.traits.Keys as Keys
use Rattle.archive_types.specs.Members.SharedLaws.{flavor_as, naming_of}
use Rattle.archive_types.specs.declared.rc.Flavor as FlavorOf
use Rattle.archive_types.specs.declared.traits.ArchiveUnsized as ArchiveUnsized

-- The flavor of a type.
abbrev pub flavor_of_type : {F : Type 0} → FlavorOf.Ghosts F → Flavor
flavor_of_type f = flavor_as f.name f.ALLOW_CYCLES

-- A weak pointer of it to P.
abbrev pub weak_to : {F : Type 0} → FlavorOf.Ghosts F → Pointee → Pointee
weak_to f P = one (weak (flavor_of_type f) P)

-- Nothing was written where the key is pending, and the keys stayed.
abbrev pub AnswersPending : {T S : Type 0} → ℕ → Result T Error → Keys.Ghosts S → Both (MutBor S) (MutBor S) → Type 0
AnswersPending key result k w =
    (k.state w.entry.now).states key ≡ Some None
    → IsErrOf result CyclicSerialize × KeepsBytes (k.state w.entry.now) (k.state w.exit.now) × KeepsKeys (k.state w.entry.now).states (k.state w.exit.now).states

module _ {F P M U A N : Type 0} (f : FlavorOf.Ghosts F) (g : ArchivePointee.Ghosts P M) (u : ArchiveUnsized.Ghosts U A N) where
  -- The keys of a source under a key: its own, with what it names, and those in the source.
  abbrev pub keys_under : ℕ → U → List Naming
  keys_under key v = naming_of key (flavor_of_type f) g.pointee (u.source_length v) (u.meaning v) ∷ u.keys v
