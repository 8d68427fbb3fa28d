-- The plans of leaves, of texts and of strings.
use Rattle.std.proofs.Common.{◌≡◌, ℕ, ℤ, ◌+◌, List, [], ◌∷◌, length, sym, arith, inl, inr, false}
use Rattle.std.proofs.lemmas.Bool.{cases_lt}
use Rattle.archive_check.specs.Shape.{Kind, leaf, Shape, str, text}
use Rattle.archive_check.specs.Layout.{up}
use Rattle.archive_check.specs.Definitions.{Definitions}
use Rattle.archive_check.specs.Value.{number, text_value}
use Rattle.archive_check.specs.Reads.{SchemaTable}
use Rattle.archive_check.specs.Tour.{region_at}
use Rattle.archive_check.specs.Denotes.{Naming}
use Rattle.archive_types.specs.Writing.{NameMap}
use Rattle.archive_types.specs.Plans.{Cursor, Step, lays, plans_leaf, plans_inline, plans_out_of_line, plans_text, plans_region, RegionPlan, HasPlan, HasRegionPlan}

pub leaf_planned : (D : Definitions) (X : Shape) (kind : Kind) (keys : List Naming) (z : ℤ) → X ≡ leaf kind → HasPlan D X keys (number z)
leaf_planned D X kind keys z same a s names k n = rw same (record { flat = number z; steps = []; stop = a; plans = plans_leaf; such = tt })

pub up_one : (n : ℕ) → up n 1 ≡ n
up_one n = omega arith

-- A text's bytes come at once.
pub text_region : (s : SchemaTable) (names : NameMap) (bytes : List ℕ) (a : Cursor) (holds : ℕ → List Step → Cursor → Type 0)
    → holds a.position (lays (region_at s a.position text (length bytes) false) (text_value bytes) ∷ []) (record { position = a.position + length bytes; states = a.states })
    → RegionPlan s names text (length bytes) (text_value bytes) a holds
text_region s names bytes a holds h = record {
  begin = a.position;
  steps = lays (region_at s a.position text (length bytes) false) (text_value bytes) ∷ [];
  stop = record { position = a.position + length bytes; states = a.states };
  plans = plans_region plans_text (sym (up_one a.position));
  such = h;
}

pub text_planned : (D : Definitions) (keys : List Naming) (bytes : List ℕ) → HasRegionPlan D text (length bytes) keys (text_value bytes)
text_planned D keys bytes a s names k n = text_region s names bytes a (λ t C b. Unit {0}) tt

pub string_planned : (D : Definitions) (keys : List Naming) (bytes : List ℕ) → HasPlan D str keys (text_value bytes)
string_planned D keys bytes a s names k n = elim (cases_lt 8 (length bytes)) [
  | inl long ↦ (let q = text_planned D keys bytes a s names k n in record { flat = _; steps = q.steps; stop = q.stop; plans = plans_out_of_line long q.plans; such = tt })
  | inr few ↦ record { flat = text_value bytes; steps = []; stop = a; plans = plans_inline few; such = tt }
]
