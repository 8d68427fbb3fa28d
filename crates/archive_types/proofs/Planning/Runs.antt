-- How elements go as planned, one after another, and why they are refused.
use Rattle.std.proofs.Common.{◌≡◌, inl, inr, ℕ, suc, ◌+◌, ◌<◌, List, [], ◌∷◌, ◌++◌, length, drop, get_or, refl, sym, ap, subst, ◌∙◌, append_assoc, arith}
use Rattle.std.proofs.lemmas.List.{append-nil, drop_more}
use Rattle.std.proofs.lemmas.List.Elements.{Contains-append_left, Contains-append_right, Contains-append_cases}
use Rattle.archive_check.specs.Shape.{Shape}
use Rattle.archive_check.specs.Definitions.{Definitions, both, listed, Knows}
use Rattle.archive_check.specs.Value.{Value, Values, no_value, value}
use Rattle.archive_check.specs.Reads.{SchemaTable}
use Rattle.archive_check.specs.WriterState.{WriterState}
use Rattle.archive_check.specs.declared.format.error.Error.{Error}
use Rattle.archive_check.specs.Denotes.{Naming}
use Rattle.archive_write.specs.Written.{GoesOn}
use Rattle.archive_types.specs.Writing.{NameMap, World, Covers, WritesAll}
use Rattle.archive_types.specs.Members.Sides.{named_left, named_right}
use Rattle.archive_types.specs.Plans.{Cursor, cursor, StandsAt, Step, plans_none, plans_element, ValuePlan, HasPlan, Serialized, serialized}
use Rattle.archive_types.specs.Causes.{in_first_element, in_later_element, IsRefused}
use Rattle.archive_types.specs.Runs.{each_meaning, each_flat, each_keys, EachBelongs, RunPlan, HasRunPlan, SerializedRun, serialized_run, IsRunRefused}
use Rattle.archive_types.specs.Members.PlannedOwners.{each_planned}
use Rattle.archive_types.proofs.Writing.Appending.{writes_none, writes_cons}
use Rattle.archive_types.proofs.Planning.Causes.{explains_sooner, explains_later, goes_nowhere, goes_both}
use Rattle.archive_types.proofs.Planning.PlannedParts.{is_at_same, below_later}
use Rattle.archive_types.proofs.Planning.PlansForward.{run_forward}

-- what is twice the same is so once

knows_twice : (s : SchemaTable) (D : Definitions) → Knows s D → Knows s (both D D)
knows_twice s D k = record { has = (k.has, k.has); finite = λ name X c. elim (Contains-append_cases (listed D) (listed D) (name, X) c) [ inl d ↦ k.finite name X d | inr d ↦ k.finite name X d ]; laid_out = k.laid_out }

covers_twice : (w : World) (D : Definitions) (told : List ℕ) (states : _) (keys : List Naming) → Covers w D told states keys → Covers w (both D D) told states keys
covers_twice w D told states keys h = record { knows = knows_twice w.schema D h.knows; rest = h.rest; begins = h.begins; placed = h.placed; named = h.named }

writes_once : (D : Definitions) (old new : WriterState) (keys : List Naming) (flats values : Values) → WritesAll (both D D) old new keys flats values → WritesAll D old new keys flats values
writes_once D old new keys flats values h = record {
  added = h.added;
  grown = h.grown;
  states = h.states;
  finished = h.finished;
  appends = λ w pending seen c known unseen. h.appends w pending seen (covers_twice w D new.bytes new.states keys c) known unseen;
  fills = λ w c. h.fills w (covers_twice w D new.bytes new.states keys c);
}

-- no element, and one in front of others
module _ (D : Definitions) (X : Shape) where
  pub serialized_none : (w : WriterState) → SerializedRun D X 0 [] no_value no_value w w
  serialized_none w = serialized_run (writes_none D w) (λ below s names k m. record { flats = no_value; steps = []; stop = cursor w; plans = plans_none; such = (refl, record { position = refl; keys = λ j. refl }) })

  module _ (n : ℕ) (ks ls : List Naming) (v : Value) (vs : Values) where
    element_plan : (s : SchemaTable) (names : NameMap) (a : Cursor) (holds : Value → List Step → Cursor → Type 0) (rest such : Values → List Step → Cursor → Type 0) → (q : ValuePlan s names X v a holds)
        → (r : RunPlan s names n X vs q.stop rest) → such (value q.flat r.flats) (q.steps ++ r.steps) r.stop → RunPlan s names (suc n) X (value v vs) a such
    element_plan s names a holds rest such q r h = record { flats = value q.flat r.flats; steps = q.steps ++ r.steps; stop = r.stop; plans = plans_element q.plans r.plans; such = h }

    -- others planned from where the writer stands are planned from where the plan ends
    from_stop : (s : SchemaTable) (names : NameMap) (mid : WriterState) (b : Cursor) (such : Values → List Step → Cursor → Type 0) → StandsAt b mid → RunPlan s names n X vs (cursor mid) such → RunPlan s names n X vs b such
    from_stop s names mid b such at r = subst (λ c. RunPlan s names n X vs c such) (sym (is_at_same b mid at)) r

    pub serialized_element : (w : Value) (ws : Values) (old mid new : WriterState) → Serialized D X ks v w old mid → SerializedRun D X n ls vs ws mid new
        → SerializedRun D X (suc n) (ks ++ ls) (value v vs) (value w ws) old new
    serialized_element w ws old mid new (serialized writes planned) (serialized_run others later) = serialized_run (writes_once D old new (ks ++ ls) (value w ws) (value v vs) (writes_cons D D old mid new ks ls w v ws vs writes others))
        (λ below s names k m. (
        let q = planned below s names k (named_left names ks ls m) in
        let r = later (below_later s k.laid_out names mid q.plans q.such.1 below) s names k (named_right names ks ls m) in
        let there = from_stop s names mid q.stop _ q.such.1 r in
        element_plan s names (cursor old) _ _ _ q there (λ i. value (q.such.0 i) (there.such.0 i), there.such.1)))

    -- the first is refused
    pub first_element_refused : (old new : WriterState) (e : Error) → HasRunPlan D X n ls vs → IsRefused D X ks v old new e → IsRunRefused D X (suc n) (ks ++ ls) (value v vs) old new e
    first_element_refused old new e i h = explains_sooner _ _ _ _ old new e
        (λ x. record {
          named = x.named;
          cause = λ below s names k m. (
              let q = x.cause below s names k (named_left names ks ls m) in
              let r = i q.stop s names k (named_right names ks ls m) in
              element_plan s names (cursor old) _ _ _ q r (elim q.such [
                | inl y ↦ inl (y.0, Contains-append_left q.steps r.steps y.0 y.1, y.2)
                | inr y ↦ inr (y.0, y.1, y.2, in_first_element y.3, y.4)
              ]));
        })
        (λ p x below s names k m. (
        let q = x below s names k (named_left names ks ls m) in
        let r = i q.stop s names k (named_right names ks ls m) in
        element_plan s names (cursor old) _ _ _ q r (omega (arith, q.such, run_forward s k.laid_out names r.plans)))) h

    -- one of the others is
    pub later_element_refused : (w : Value) (old mid new : WriterState) (e : Error) → Serialized D X ks v w old mid → GoesOn old mid → GoesOn mid new → IsRunRefused D X n ls vs mid new e
        → IsRunRefused D X (suc n) (ks ++ ls) (value v vs) old new e
    later_element_refused w old mid new e (serialized writes planned) g k h = explains_later _ _ _ _ old mid new e g k
        (λ x. record {
          named = x.named;
          cause = λ below s names l m. (
              let q = planned below s names l (named_left names ks ls m) in
              let r = from_stop s names mid q.stop _ q.such.1 (x.cause (below_later s l.laid_out names mid q.plans q.such.1 below) s names l (named_right names ks ls m)) in
              element_plan s names (cursor old) _ _ _ q r (elim r.such [
                | inl y ↦ inl (y.0, Contains-append_right q.steps r.steps y.0 y.1, y.2)
                | inr y ↦ inr (_, y.1, y.2, in_later_element y.3, y.4)
              ]));
        })
        (λ p x below s names l m. (
        let q = planned below s names l (named_left names ks ls m) in
        let r = from_stop s names mid q.stop _ q.such.1 (x (below_later s l.laid_out names mid q.plans q.such.1 below) s names l (named_right names ks ls m)) in
        element_plan s names (cursor old) _ _ _ q r r.such)) h

-- A loop that serializes each: whatever serializes those that are left has serialized all, and where they are refused, all are. `rs` are the resolvers
-- of those that are done.
pub record Continues {A R : Type 0} (D : Definitions) (X : Shape) (k : A → List Naming) (m : A → Value) (f : A → R → Value) (b : A → R → Type 0)
    (first now : WriterState) (all rest : List A) (rs : List R) : Type 0 where
  pub goes : GoesOn first now
  pub done : (new : WriterState) (left : List R) → SerializedRun D X (length rest) (each_keys k rest) (each_meaning m rest) (each_flat f rest left) now new
      → SerializedRun D X (length all) (each_keys k all) (each_meaning m all) (each_flat f all (rs ++ left)) first new
  pub refused : (new : WriterState) (e : Error) → GoesOn now new → IsRunRefused D X (length rest) (each_keys k rest) (each_meaning m rest) now new e
      → IsRunRefused D X (length all) (each_keys k all) (each_meaning m all) first new e
  pub belongs : (left : List R) → EachBelongs b rest left → EachBelongs b all (rs ++ left)

module _ {A R : Type 0} (D : Definitions) (X : Shape) (k : A → List Naming) (m : A → Value) (f : A → R → Value) (b : A → R → Type 0) (first : WriterState) (all : List A) where
  pub continues_start : Continues D X k m f b first first all all []
  continues_start = record { goes = goes_nowhere first; done = λ new left h. h; refused = λ new e g h. h; belongs = λ left h. h }

  continues_rest : (now next : WriterState) (others : List A) (rs : List R) (x : A) (r : R) → Continues D X k m f b first now all (x ∷ others) rs
      → Serialized D X (k x) (m x) (f x r) now next → b x r → GoesOn now next → Continues D X k m f b first next all others (rs ++ r ∷ [])
  continues_rest now next others rs x r h step same g = record {
    goes = goes_both first now next h.goes g;
    done = λ new left q. rw (append_assoc rs (r ∷ []) left)
        (h.done new (r ∷ left) (serialized_element D X (length others) (k x) (each_keys k others) (m x) (each_meaning m others) (f x r) (each_flat f others left) now next new step q));
    refused = λ new e l q. h.refused new e (goes_both now next new g l)
        (later_element_refused D X (length others) (k x) (each_keys k others) (m x) (each_meaning m others) (f x r) now next new e step g l q);
    belongs = λ left q. rw (append_assoc rs (r ∷ []) left) (h.belongs (r ∷ left) (same, q));
  }

  -- a step at index i
  pub continues_step : (now next : WriterState) (i : ℕ) (rs ss : List R) (x : A) (r : R) → i < length all → x ≡ get_or all i x → ss ≡ rs ++ r ∷ []
      → Continues D X k m f b first now all (drop i all) rs → Serialized D X (k x) (m x) (f x r) now next → b x r → GoesOn now next → Continues D X k m f b first next all (drop (i + 1) all) ss
  continues_step now next i rs ss x r l e s h step same g =
      let there : drop i all ≡ x ∷ drop (i + 1) all = drop_more all i x l ∙ ap (λ z. z ∷ drop (i + 1) all) (sym e) in
      rw s (continues_rest now next (drop (i + 1) all) rs x r (rw there at h) step same g)

  -- the element at i is refused
  pub continues_broken : (now new : WriterState) (i : ℕ) (rs : List R) (x : A) (e : Error) → i < length all → x ≡ get_or all i x → ((y : A) → HasPlan D X (k y) (m y))
      → Continues D X k m f b first now all (drop i all) rs → GoesOn now new → IsRefused D X (k x) (m x) now new e → IsRunRefused D X (length all) (each_keys k all) (each_meaning m all) first new e
  continues_broken now new i rs x e l is plans h g refused =
      let there : drop i all ≡ x ∷ drop (i + 1) all = drop_more all i x l ∙ ap (λ z. z ∷ drop (i + 1) all) (sym is) in
      let others : List A = drop (i + 1) all in
      let c : Continues D X k m f b first now all (x ∷ others) rs = rw there at h in
      c.refused new e g (first_element_refused D X (length others) (k x) (each_keys k others) (m x) (each_meaning m others) now new e (each_planned D X k m plans others) refused)

  -- none is left
  pub continues_end : (now : WriterState) (rest : List A) (rs : List R) → rest ≡ [] → Continues D X k m f b first now all rest rs
      → SerializedRun D X (length all) (each_keys k all) (each_meaning m all) (each_flat f all rs) first now
  continues_end now rest rs none h =
      let c : Continues D X k m f b first now all [] rs = rw none at h in
      subst (λ z. SerializedRun D X (length all) (each_keys k all) (each_meaning m all) (each_flat f all z) first now) (append-nil rs) (c.done now [] (serialized_none D X now))

  pub belongs_end : (now : WriterState) (rest : List A) (rs : List R) → rest ≡ [] → Continues D X k m f b first now all rest rs → EachBelongs b all rs
  belongs_end now rest rs none h =
      let c : Continues D X k m f b first now all [] rs = rw none at h in
      subst (λ z. EachBelongs b all z) (append-nil rs) (c.belongs [] tt)
