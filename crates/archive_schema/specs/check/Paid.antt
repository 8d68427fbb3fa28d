-- What each call of a check pays for the regions that it enters: four bytes for each, of those that it was given in place.
use denote.Triple.Both.{Both}
use denote.Ref.{MutBor}
use Rattle.std.specs.Prelude.{ℕ, ◌+◌, ◌-◌, ◌*◌, ◌≤◌, List, [], ◌∷◌, Option, Some, None}
use Rattle.archive_check.specs.declared.context.Context as Context
use Rattle.archive_schema.specs.declared.check.Checker.{Checker}
use Rattle.archive_schema.specs.declared.check.worklist.Work.{Work}
use Rattle.archive_schema.specs.declared.check.worklist.Work.TheVariants.{Part as PartWork, Parts, Elements, Entries, Leave, Finish}
use Rattle.archive_schema.specs.declared.check.worklist.Worklist.{Worklist}
use Rattle.archive_schema.specs.declared.check.worklist.Next.{Next}
use Rattle.archive_schema.specs.declared.check.worklist.Row.{Row}
use Rattle.archive_check.specs.context.Ranges.{RangeState}
use Rattle.archive_check.specs.context.Pushes.{worth}
use Rattle.archive_check.specs.Words.Elements.{span}
use Rattle.archive_schema.specs.plan.PackedPlans.{size_at, parts_size}
use Rattle.archive_schema.specs.check.Lists.{list_of, left_next, left_row}
use Rattle.archive_check.specs.declared.format.expr.Key.{Key as KeyExpr}
use Rattle.archive_check.specs.Expressions.{key_of}
use Rattle.archive_check.specs.Layout.{key_size}

-- The bytes of these parts, and of these elements.
abbrev pub bytes_of_parts : Checker → ℕ → ℕ → ℕ
bytes_of_parts m a b = parts_size m.nodes.now (span m.parts.now a b)

abbrev pub bytes_of_elements : Checker → ℕ → ℕ → ℕ
bytes_of_elements m j n = n * size_at m.nodes.now j

-- And of these entries: those of the keys and the values.
abbrev pub bytes_of_entries : Checker → KeyExpr → ℕ → ℕ → ℕ
bytes_of_entries m key j n = n * (key_size (key_of key) + size_at m.nodes.now j)

-- The bytes that an entry has in place; for a region that is left, those that are given back.
abbrev pub bytes_of : Checker → Work → ℕ
bytes_of m (PartWork i p) = size_at m.nodes.now i
bytes_of m (Parts a b p) = bytes_of_parts m a b
bytes_of m (Elements j n p) = bytes_of_elements m j n
bytes_of m (Entries key j n p later) = bytes_of_entries m key j n
bytes_of m (Leave x y n) = y - x
bytes_of m (Finish k t) = 0

abbrev pub bytes_in : Checker → List Work → ℕ
bytes_in m [] = 0
bytes_in m (entry ∷ work) = bytes_of m entry + bytes_in m work

-- From one range and list to the next: each region that is entered takes four of these n bytes, of those that are left, or of those in which
-- regions may lie.
abbrev pub PaysFrom : Checker → ℕ → RangeState → List Work → RangeState → List Work → Type 0
PaysFrom m n s work s' work' = worth s' + bytes_in m work' ≤ n + (worth s + bytes_in m work)

-- So does a call, from one context and list to the next.
abbrev pub Pays : {A : Type 0} → Context.Ghosts A → Checker → ℕ → Both (MutBor A) (MutBor A) → Both (MutBor Worklist) (MutBor Worklist) → Type 0
Pays k m n c w = PaysFrom m n (k.state c.entry.now) (list_of w.entry.now) (k.state c.exit.now) (list_of w.exit.now)

-- So does a call that says what comes next.
abbrev pub PaysToNext : {A : Type 0} → Context.Ghosts A → Checker → ℕ → Both (MutBor A) (MutBor A) → Both (MutBor Worklist) (MutBor Worklist) → Option Next → Type 0
PaysToNext k m n c w result = PaysFrom m n (k.state c.entry.now) (list_of w.entry.now) (k.state c.exit.now) (left_next result (list_of w.exit.now))

-- So does a call that says which elements of the node j come next.
abbrev pub PaysToRow : {A : Type 0} → Context.Ghosts A → Checker → ℕ → ℕ → Both (MutBor A) (MutBor A) → Both (MutBor Worklist) (MutBor Worklist) → Option (Option Row) → Type 0
PaysToRow k m j n c w result = PaysFrom m n (k.state c.entry.now) (list_of w.entry.now) (k.state c.exit.now) (left_row j result (list_of w.exit.now))

-- Where the first k of n elements are gone through, as the result says, the bytes of the others are left.
abbrev pub left_of : ℕ → Option ℕ → ℕ
left_of n None = 0
left_of n (Some k) = n - k

-- A call goes through the first of n elements of the node j, and pays by these.
abbrev pub PaysFront : {A : Type 0} → Context.Ghosts A → Checker → ℕ → ℕ → Both (MutBor A) (MutBor A) → Both (MutBor Worklist) (MutBor Worklist) → Option ℕ → Type 0
PaysFront k m j n c w result =
    worth (k.state c.exit.now) + bytes_in m (list_of w.exit.now) + bytes_of_elements m j (left_of n result) ≤ bytes_of_elements m j n + (worth (k.state c.entry.now) + bytes_in m (list_of w.entry.now))
