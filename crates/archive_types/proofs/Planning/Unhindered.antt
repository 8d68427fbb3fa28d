-- What nothing hinders: a number of 32 bits, at the start of a buffer.
use Rattle.std.proofs.Common.{◌≡◌, ℕ, ℤ, pos, ◌+◌, ◌<◌, ◌≤◌, ◌^◌, List, [], ◌∷◌, length, refl, sym, subst, arith, false, true, Contains, inl, inr}
use Rattle.std.specs.Int.{w32}
use Rattle.std.specs.FinMap.{empty}
use Rattle.archive_check.specs.Shape.{Kind, number as number_kind, unsigned, leaf, one}
use Rattle.archive_check.specs.Definitions.{no_definition, Knows}
use Rattle.archive_check.specs.Value.{number}
use Rattle.archive_check.specs.Reads.{SchemaTable}
use Rattle.archive_check.specs.Tour.{Region, region_at}
use Rattle.archive_check.specs.declared.format.error.Error.{Error}
use Rattle.archive_check.proofs.Elements.{contains_cases}
use Rattle.archive_types.specs.Writing.{NameMap}
use Rattle.archive_types.specs.Plans.{Cursor, at_start, Step, lays, plans_leaf, plans_one, plans_region, PlansRegion}
use Rattle.archive_types.specs.Causes.{IsTooWide, part_itself, part_of_one, stands_too_far, too_wide, text_too_long, HindersPart, shared_too_long, anywhere, too_far_from_here, HindersPartAt, part_hinders, length_hinders, end_hinders, HindersStep, HindersSome, HindersRegion}

-- a schema of no names
abbrev bare : SchemaTable
bare = record { table = []; layouts = λ name. record { size = 0; align = 1 } }

knows_nothing : Knows bare no_definition
knows_nothing = record { has = tt; finite = λ name X c. absurd (omega (arith, c.1)); laid_out = record { solves = λ name X is. cc; aligned = λ name. omega arith } }

part_unhindered : (kind : Kind) (z : ℤ) (q : ℕ) (e : Error) → (IsTooWide kind z → ⊥) → HindersPartAt (leaf kind) q (number z) e → ⊥
part_unhindered kind z q e fits (anywhere (stands_too_far owner at far)) = elim owner [ ]
part_unhindered kind z q e fits (anywhere (too_wide wide)) = fits wide
part_unhindered kind z q e fits (anywhere (shared_too_long owner long)) = elim owner [ ]
part_unhindered kind z q e fits (too_far_from_here owner at far) = elim owner [ ]

step_unhindered : (s : SchemaTable) (kind : Kind) (z : ℤ) (t : ℕ) (e : Error) → (IsTooWide kind z → ⊥) → t + (region_at s t (one (leaf kind)) 0 false).size < 2 ^ 64
    → HindersStep s (lays (region_at s t (one (leaf kind)) 0 false) (number z)) e → ⊥
step_unhindered s kind z t e fits ends (part_hinders (part_of_one part_itself) at) = part_unhindered kind z _ e fits at
step_unhindered s kind z t e fits ends (length_hinders long) = omega (arith, long)
step_unhindered s kind z t e fits ends (end_hinders far) = omega (arith, far, ends)

not_too_wide : (n : ℕ) → n < 2 ^ 32 → IsTooWide (number_kind unsigned w32) (pos n) → ⊥
not_too_wide n less wide = wide n less refl

plan_unhindered : (s : SchemaTable) (names : NameMap) (n t : ℕ) (C : List Step) (b : Cursor) (e : Error) → n < 2 ^ 32
    → PlansRegion s names false (one (leaf (number_kind unsigned w32))) 0 (number (pos n)) at_start t C b → HindersSome s C e → ⊥
plan_unhindered s names n t C b e less (plans_region (plans_one plans_leaf) here) (step, among, hinders) =
    elim (contains_cases _ [] step among) [
      | inl is ↦ step_unhindered s (number_kind unsigned w32) (pos n) t e (not_too_wide n less) (omega (arith, here)) (rw (sym is) at hinders)
      | inr none ↦ absurd (omega (arith, none.1))
    ]

-- no refusal of such a number's is its own
pub number_unhindered : (n : ℕ) (e : Error) → n < 2 ^ 32 → HindersRegion no_definition (one (leaf (number_kind unsigned w32))) 0 [] (number (pos n)) at_start e → ⊥
number_unhindered n e less h = let q = h.cause (λ k t is. cc) bare empty knows_nothing tt in plan_unhindered bare empty n q.begin q.steps q.stop e less q.plans q.such
