-- The plans of parts, one after another, of records, and of what a name stands for.
use Rattle.std.proofs.Common.{◌≡◌, ℕ, List, [], ◌++◌}
use Rattle.archive_check.specs.Shape.{Name, Shape, parts, array, named, Parts, no_part, part, definition}
use Rattle.archive_check.specs.Definitions.{Definitions, both}
use Rattle.archive_check.specs.Members.PartsLayout.{StandsFor, for_itself, by_name, IsRecord}
use Rattle.archive_check.specs.Value.{Value, product, Values, no_value, value}
use Rattle.archive_check.specs.Reads.{SchemaTable}
use Rattle.archive_check.specs.Denotes.{Naming}
use Rattle.archive_types.specs.Writing.{NameMap, IsKeyed}
use Rattle.archive_types.specs.Plans.{Cursor, Step, plans_no_part, plans_part, plans_parts, plans_named, ValuePlan, HasPlan}
use Rattle.archive_types.specs.Members.Sides.{knows_left, knows_right, named_left, named_right}
use Rattle.archive_types.specs.Members.Keyed.{record_keyed}
use Rattle.archive_types.specs.Parts.{PartsPlan, HavePlan, ArePlanned, AreKeyed}

pub no_part_planned : {D : Definitions} → HavePlan D no_part [] no_value
no_part_planned = record { plan = λ a s names k n. record { flats = no_value; steps = []; stop = a; plans = plans_no_part; such = tt } }

pub part_plan : (X : Shape) (ps : Parts) (v : Value) (vs : Values) (s : SchemaTable) (names : NameMap) (a : Cursor) (holds : Value → List Step → Cursor → Type 0) (rest such : Values → List Step → Cursor → Type 0)
    → (q : ValuePlan s names X v a holds) → (r : PartsPlan s names ps vs q.stop rest) → such (value q.flat r.flats) (q.steps ++ r.steps) r.stop → PartsPlan s names (part X ps) (value v vs) a such
part_plan X ps v vs s names a holds rest such q r h = record { flats = value q.flat r.flats; steps = q.steps ++ r.steps; stop = r.stop; plans = plans_part q.plans r.plans; such = h }

pub part_planned : {E : Definitions} {ps : Parts} {ls : List Naming} {vs : Values} (D : Definitions) (X : Shape) (ks : List Naming) (v : Value) → HasPlan D X ks v → HavePlan E ps ls vs
    → HavePlan (both D E) (part X ps) (ks ++ ls) (value v vs)
part_planned {E = E} {ps = ps} {ls = ls} {vs = vs} D X ks v h i = record {
  plan = λ a s names k n. (
      let q = h a s names (knows_left s D E k) (named_left names ks ls n) in
      part_plan X ps v vs s names a _ _ _ q (i.plan q.stop s names (knows_right s D E k) (named_right names ks ls n)) tt);
}

pub product_plan : (ps : Parts) (vs : Values) (s : SchemaTable) (names : NameMap) (a : Cursor) (holds : Values → List Step → Cursor → Type 0) (such : Value → List Step → Cursor → Type 0)
    → ((ws : Values) (C : List Step) (b : Cursor) → holds ws C b → such (product ws) C b) → PartsPlan s names ps vs a holds → ValuePlan s names (parts ps) (product vs) a such
product_plan ps vs s names a holds such f h = record { flat = product h.flats; steps = h.steps; stop = h.stop; plans = plans_parts h.plans; such = f h.flats h.steps h.stop h.such }

pub product_planned : (D : Definitions) (ps : Parts) (ks : List Naming) (vs : Values) → HavePlan D ps ks vs → HasPlan D (parts ps) ks (product vs)
product_planned D ps ks vs h a s names k n = product_plan ps vs s names a _ _ (λ ws C b x. tt) (h.plan a s names k n)

pub whole_planned : {T : Type 0} {D : Definitions} {ps : Parts} (keys : T → List Naming) (meanings : T → Values) → ArePlanned D ps keys meanings → (v : T) → HasPlan D (parts ps) (keys v) (product (meanings v))
whole_planned {D = D} {ps = ps} keys meanings h v = product_planned D ps (keys v) (meanings v) (h.each v)

pub whole_keyed : {T : Type 0} (keys : T → List Naming) (meanings : T → Values) → AreKeyed keys meanings → (v : T) → IsKeyed (keys v) (product (meanings v))
whole_keyed keys meanings h v = record_keyed (h.each v)

-- A plan of a Y is one of what stands for it.
pub standing_plan : (s : SchemaTable) (names : NameMap) (Y X : Shape) (v : Value) (a : Cursor) (holds : Value → List Step → Cursor → Type 0) → StandsFor s Y X → ValuePlan s names Y v a holds → ValuePlan s names X v a holds
standing_plan s names Y X v a holds for_itself h = h
standing_plan s names Y X v a holds (by_name d) h = record { flat = h.flat; steps = h.steps; stop = h.stop; plans = plans_named d h.plans; such = h.such }

-- A record of parts is planned as they are.
pub record_planned : (D : Definitions) (X : Shape) (E : Definitions) (ps : Parts) (ks : List Naming) (vs : Values) → IsRecord D X E ps → HavePlan E ps ks vs → HasPlan D X ks (product vs)
record_planned D X E ps ks vs is h a s names k n = standing_plan s names (parts ps) X (product vs) a _ (is.stands s k) (product_planned E ps ks vs h a s names (is.known s k) n)
