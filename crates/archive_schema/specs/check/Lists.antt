-- The work list of a check.
use denote.Triple.Both.{Both}
use denote.Ref.{MutBor}
use Rattle.std.specs.Prelude.{◌≡◌, ◌⊎◌, ℕ, ◌+◌, ◌<◌, List, ◌∷◌, reverse, Option, Some, None}
use Rattle.archive_schema.specs.declared.check.worklist.Work.{Work}
use Rattle.archive_schema.specs.declared.check.worklist.Work.TheVariants.{Part, Elements, Leave}
use Rattle.archive_schema.specs.declared.check.worklist.Next.{Next}
use Rattle.archive_schema.specs.declared.check.worklist.Next.TheVariants.{Here, Listed}
use Rattle.archive_schema.specs.declared.check.worklist.Row.{Row}
use Rattle.archive_schema.specs.declared.check.worklist.Worklist.{Worklist}

-- What is left, the next first.
abbrev pub list_of : Worklist → List Work
list_of work = reverse work.entries.items

-- What is left where this comes next: a node, and then the list, or the list alone.
abbrev pub with_next : Next → List Work → List Work
with_next (Here i p) work = Part i p ∷ work
with_next Listed work = work

-- So a call leaves it, by its result.
abbrev pub left_next : Option Next → List Work → List Work
left_next None work = work
left_next (Some next) work = with_next next work

-- What is left where these elements of the node j come next: they, and then the list, or the list alone.
abbrev pub with_row : ℕ → Option Row → List Work → List Work
with_row j None work = work
with_row j (Some row) work = Elements j row.left row.at ∷ work

-- So a call leaves it, by its result.
abbrev pub left_row : ℕ → Option (Option Row) → List Work → List Work
left_row j None work = work
left_row j (Some row) work = with_row j row work

-- Whether such a call was taken (Some).
abbrev pub taken : {A : Type 0} → Option A → Option (Unit {0})
taken None = None
taken (Some next) = Some tt

-- A region is to be left first, from a to b: with the region around it, if that one was to be left first.
abbrev pub left_first : ℕ → ℕ → List Work → List Work
left_first a b (Leave x y n ∷ work) = Leave x y (n + 1) ∷ work
left_first a b work = Leave a b 0 ∷ work

-- One region more can be left first.
abbrev pub CanLeaveMore : List Work → Type 0
CanLeaveMore (Leave x y n ∷ work) = n + 1 < 18446744073709551616
CanLeaveMore work = Unit {0}

-- Where there is nothing to an entry the list is the old one, and else the entry was put on it.
abbrev pub IsMore : Work → Type 0 → List Work → List Work → Type 0
IsMore entry Nothing new old = ((Nothing → ⊥) × (new ≡ entry ∷ old)) ⊎ (Nothing × (new ≡ old))

-- So a call leaves the list.
abbrev pub PutsMore : Work → Type 0 → Both (MutBor Worklist) (MutBor Worklist) → Type 0
PutsMore entry Nothing w = IsMore entry Nothing (list_of w.exit.now) (list_of w.entry.now)
