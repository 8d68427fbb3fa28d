-- How the parts of a value go as planned, one after another, and why they are refused.
use Rattle.std.proofs.Common.{◌≡◌, ◌⊎◌, inl, inr, ℕ, ◌+◌, ◌≤◌, List, [], ◌++◌, refl, sym, ap, subst, arith}
use Rattle.std.proofs.lemmas.List.Elements.{Contains-append_left, Contains-append_right}
use Rattle.archive_check.specs.Shape.{Shape, parts, Parts, no_part, part}
use Rattle.archive_check.specs.Layout.{up, size_of, align_of}
use Rattle.archive_check.specs.Definitions.{Definitions, no_definition, both, Knows}
use Rattle.archive_check.specs.Value.{Value, product, Values, no_value, value}
use Rattle.archive_check.specs.Reads.{SchemaTable, LaidOut}
use Rattle.archive_check.specs.WriterState.{KeyStates, WriterState}
use Rattle.archive_check.specs.declared.format.error.Error.{Error}
use Rattle.archive_write.specs.Written.{GoesOn}
use Rattle.archive_types.specs.Writing.{NameMap, AreNamed, World, Covers, Writes, WritesAll}
use Rattle.archive_types.specs.Plans.{Cursor, cursor, StandsAt, Step, PlansParts, plans_no_part, plans_part, plans_parts, Plans, AreBelow, Whatever, Foreseen, ValuePlan, HasPlan, Serialized, serialized}
use Rattle.archive_types.specs.Causes.{Explains, ValuePart, PartOfParts, part_of_parts, in_first_part, in_later_part, HindersPart, HindersSome, IsOwnCause, Hinders, PlanReaches, IsRefused}
use Rattle.archive_check.specs.Members.PartsLayout.{StandsFor, for_itself, by_name, IsRecord, knows_left, knows_right}
use Rattle.archive_check.specs.Denotes.{Naming}
use Rattle.archive_types.specs.Parts.{PartsPlan, HavePlan, SerializedParts, serialized_parts, HindersParts, PartsReach, ArePartsRefused}
use Rattle.archive_types.specs.Members.Sides.{named_left, named_right}
use Rattle.archive_types.specs.Members.PartsPlanned.{part_plan, product_plan, standing_plan}
use Rattle.archive_types.proofs.Writing.Appending.{writes_none, writes_cons, writes_product}
use Rattle.archive_types.proofs.Planning.Causes.{explains_sooner, explains_later}
use Rattle.archive_types.proofs.Writing.ResolvedParts.{standing_part as part_standing}
use Rattle.archive_types.proofs.Planning.PlansForward.{parts_forward, plans_below}

-- a writer stands where a plan ends
pub is_at_same : (b : Cursor) (w : WriterState) → StandsAt b w → b ≡ cursor w
is_at_same b w h = λ i. record { position = sym h.position i; states = λ k. sym (h.keys k) i }

-- and the keys that are finished then stand below it
pub below_later : (s : SchemaTable) → LaidOut s → (names : NameMap) {X : Shape} {v w : Value} {a b : Cursor} {C : List Step} (mid : WriterState) → Plans s names X v a w C b → StandsAt b mid → AreBelow a
    → AreBelow (cursor mid)
below_later s l names {b = b} mid plans at below = subst AreBelow (is_at_same b mid at) (plans_below s l names plans below)

-- no part

pub serialized_no_part : (D : Definitions) (w : WriterState) → SerializedParts D no_part [] no_value no_value w w
serialized_no_part D w = serialized_parts (writes_none D w) (λ below s names k n. record { flats = no_value; steps = []; stop = cursor w; plans = plans_no_part; such = (refl, record { position = refl; keys = λ j. refl }) })

-- one part, and others behind it
module _ (D E : Definitions) (X : Shape) (ps : Parts) (ks ls : List Naming) (v : Value) (vs : Values) where
  pub serialized_part : (w : Value) (ws : Values) (old mid new : WriterState) → Serialized D X ks v w old mid → SerializedParts E ps ls vs ws mid new
      → SerializedParts (both D E) (part X ps) (ks ++ ls) (value v vs) (value w ws) old new
  serialized_part w ws old mid new (serialized writes planned) (serialized_parts others later) = serialized_parts (writes_cons D E old mid new ks ls w v ws vs writes others)
      (λ below s names k n. (
      let q = planned below s names (knows_left s D E k) (named_left names ks ls n) in
      let r = later (below_later s k.laid_out names mid q.plans q.such.1 below) s names (knows_right s D E k) (named_right names ks ls n) in
      let there : PartsPlan s names ps vs q.stop (λ us C b. (us ≡ ws) × StandsAt b new) = subst (λ c. PartsPlan s names ps vs c (λ us C b. (us ≡ ws) × StandsAt b new)) (sym (is_at_same q.stop mid q.such.1)) r in
      part_plan X ps v vs s names (cursor old) _ _ _ q there (λ i. value (q.such.0 i) (there.such.0 i), there.such.1)))

  -- the first is refused
  pub first_refused : (old new : WriterState) (e : Error) → HavePlan E ps ls vs → IsRefused D X ks v old new e → ArePartsRefused (both D E) (part X ps) (ks ++ ls) (value v vs) old new e
  first_refused old new e i h = explains_sooner _ _ _ _ old new e
      (λ x. record {
        named = x.named;
        cause = λ below s names k n. (
            let q = x.cause below s names (knows_left s D E k) (named_left names ks ls n) in
            let r = i.plan q.stop s names (knows_right s D E k) (named_right names ks ls n) in
            part_plan X ps v vs s names (cursor old) _ _ _ q r (elim q.such [
              | inl y ↦ inl (y.0, Contains-append_left q.steps r.steps y.0 y.1, y.2)
              | inr y ↦ inr (y.1, y.2, y.4, λ at. (_, in_first_part y.3))
            ]));
      })
      (λ m x below s names k n. (
      let q = x below s names (knows_left s D E k) (named_left names ks ls n) in
      let r = i.plan q.stop s names (knows_right s D E k) (named_right names ks ls n) in
      part_plan X ps v vs s names (cursor old) _ _ _ q r (omega (arith, q.such, parts_forward s k.laid_out names r.plans)))) h

  -- one of the others is
  pub later_refused : (w : Value) (old mid new : WriterState) (e : Error) → Serialized D X ks v w old mid → GoesOn old mid → GoesOn mid new → ArePartsRefused E ps ls vs mid new e
      → ArePartsRefused (both D E) (part X ps) (ks ++ ls) (value v vs) old new e
  later_refused w old mid new e (serialized writes planned) g k h = explains_later _ _ _ _ old mid new e g k
      (λ x. record {
        named = x.named;
        cause = λ below s names k n. (
            let q = planned below s names (knows_left s D E k) (named_left names ks ls n) in
            let r = x.cause (below_later s k.laid_out names mid q.plans q.such.1 below) s names (knows_right s D E k) (named_right names ks ls n) in
            let plans : PlansParts s names ps vs q.stop r.flats r.steps r.stop = subst (λ c. PlansParts s names ps vs c r.flats r.steps r.stop) (sym (is_at_same q.stop mid q.such.1)) r.plans in
            record {
              flats = value q.flat r.flats;
              steps = q.steps ++ r.steps;
              stop = r.stop;
              plans = plans_part q.plans plans;
              such = elim r.such [
                | inl y ↦ inl (y.0, Contains-append_right q.steps r.steps y.0 y.1, y.2)
                | inr y ↦ inr (y.0, y.1, y.2, λ at. (let z = y.3 (up at (align_of s.layouts X) + size_of s.layouts X) in (z.0, in_later_part z.1)))
              ];
            });
      })
      (λ m x below s names k n. (
      let q = planned below s names (knows_left s D E k) (named_left names ks ls n) in
      let r = x (below_later s k.laid_out names mid q.plans q.such.1 below) s names (knows_right s D E k) (named_right names ks ls n) in
      let plans : PlansParts s names ps vs q.stop r.flats r.steps r.stop = subst (λ c. PlansParts s names ps vs c r.flats r.steps r.stop) (sym (is_at_same q.stop mid q.such.1)) r.plans in
      record { flats = value q.flat r.flats; steps = q.steps ++ r.steps; stop = r.stop; plans = plans_part q.plans plans; such = r.such })) h

-- a record of parts
module _ (D : Definitions) (ps : Parts) (ks : List Naming) (vs : Values) where
  pub serialized_product : (ws : Values) (old new : WriterState) → SerializedParts D ps ks vs ws old new → Serialized D (parts ps) ks (product vs) (product ws) old new
  serialized_product ws old new (serialized_parts writes planned) = serialized (writes_product D old new ks ws vs writes)
      (λ below s names k n. product_plan ps vs s names (cursor old) _ _ (λ us C b x. (ap (λ z. product z) x.0, x.1)) (planned below s names k n))

  pub product_refused : (old new : WriterState) (e : Error) → ArePartsRefused D ps ks vs old new e → IsRefused D (parts ps) ks (product vs) old new e
  product_refused old new e h = explains_sooner _ _ _ _ old new e
      (λ x. record { named = x.named; cause = λ below s names k n. product_plan ps vs s names (cursor old) _ _ (λ ws C b y. elim y [ inl z ↦ inl z | inr z ↦ (let at = z.3 0 in inr (at.0, z.0, z.1, part_of_parts at.1, z.2)) ]) (x.cause below s names k n) })
      (λ m x below s names k n. product_plan ps vs s names (cursor old) _ _ (λ ws C b y. y) (x below s names k n)) h

-- A record that stands for its parts, by itself or by a name.
module _ (D : Definitions) (X : Shape) (E : Definitions) (ps : Parts) (is : IsRecord D X E ps) (ks : List Naming) (vs : Values) where
  covers_parts : (w : World) (told : List ℕ) (states : KeyStates) → Covers w D told states ks → Covers w E told states ks
  covers_parts w told states c = record { knows = is.known w.schema c.knows; rest = c.rest; begins = c.begins; placed = c.placed; named = c.named }

  writes_record : (old new : WriterState) (flat v : Value) → Writes E old new ks flat v → Writes D old new ks flat v
  writes_record old new flat v h = record {
    added = h.added;
    grown = h.grown;
    states = h.states;
    finished = h.finished;
    appends = λ w pending seen c known unseen. h.appends w pending seen (covers_parts w _ _ c) known unseen;
    fills = λ w c. h.fills w (covers_parts w _ _ c);
  }

  serialized_standing : (flat : Value) (old new : WriterState) → Serialized E (parts ps) ks (product vs) flat old new → Serialized D X ks (product vs) flat old new
  serialized_standing flat old new (serialized writes planned) = serialized (writes_record old new flat (product vs) writes)
      (λ below s names k n. standing_plan s names (parts ps) X (product vs) (cursor old) _ (is.stands s k) (planned below s names (is.known s k) n))

  pub serialized_record : (ws : Values) (old new : WriterState) → SerializedParts E ps ks vs ws old new → Serialized D X ks (product vs) (product ws) old new
  serialized_record ws old new h = serialized_standing (product ws) old new (serialized_product E ps ks vs ws old new h)

  standing_cause : (s : SchemaTable) (C : List Step) (flat : Value) (e : Error) → StandsFor s (parts ps) X
      → HindersSome s C e ⊎ ((o : ℕ) × (Y : Shape) × (w : Value) × ValuePart s (parts ps) flat o Y w × HindersPart Y w e)
      → HindersSome s C e ⊎ ((o : ℕ) × (Y : Shape) × (w : Value) × ValuePart s X flat o Y w × HindersPart Y w e)
  standing_cause s C flat e stands (inl h) = inl h
  standing_cause s C flat e stands (inr h) = inr (h.0, h.1, h.2, part_standing s (parts ps) X flat h.0 h.1 h.2 stands h.3, h.4)

  standing_refused : (old new : WriterState) (e : Error) → IsRefused E (parts ps) ks (product vs) old new e → IsRefused D X ks (product vs) old new e
  standing_refused old new e h = explains_sooner _ _ _ _ old new e
      (λ x. record {
        named = x.named;
        cause = λ below s names k n. (
            let q = x.cause below s names (is.known s k) n in
            standing_plan s names (parts ps) X (product vs) (cursor old) _ (is.stands s k)
            (record { flat = q.flat; steps = q.steps; stop = q.stop; plans = q.plans; such = standing_cause s q.steps q.flat e (is.stands s k) q.such }));
      })
      (λ m x below s names k n. standing_plan s names (parts ps) X (product vs) (cursor old) _ (is.stands s k) (x below s names (is.known s k) n)) h

  pub record_refused : (old new : WriterState) (e : Error) → ArePartsRefused E ps ks vs old new e → IsRefused D X ks (product vs) old new e
  record_refused old new e h = standing_refused old new e (product_refused E ps ks vs old new e h)
