-- How plans go together, and what hinders them: leaves, texts and strings, and the region of one value.
use Rattle.std.proofs.Common.{◌≡◌, inl, inr, ℕ, ℤ, pos, ◌+◌, ◌<◌, ◌≤◌, ◌^◌, List, [], ◌∷◌, ◌++◌, length, refl, sym, ap, subst, ◌∙◌, length-append, arith, false, IsUtf8, Contains, add-zero, Result, Ok, Err, IfOk, OnOk, IfErr, IsOk}
use Rattle.std.specs.Prelude.{FitsSigned}
use Rattle.std.proofs.lemmas.Bool.{cases_lt}
use Rattle.std.specs.Int.{w32}
use Rattle.std.proofs.lemmas.List.Elements.{Contains-append_left, Contains-append_right}
use Rattle.archive_check.specs.Shape.{Kind, number as number_kind, signed, unsigned, leaf, Shape, str, one, text}
use Rattle.archive_check.specs.Layout.{Layout, up, size_of, align_of}
use Rattle.archive_check.specs.Definitions.{Definitions, Knows, HasLayout, IsAlign}
use Rattle.archive_check.specs.Value.{Value, number, text_value, hole}
use Rattle.archive_check.specs.Reads.{SchemaTable}
use Rattle.archive_check.specs.Tour.{region_at}
use Rattle.archive_check.specs.WriterState.{WriterState, KeepsKeys, Pads}
use Rattle.archive_check.specs.declared.format.error.Error.{Error}
use Rattle.archive_check.specs.declared.format.error.Error.TheVariants.{NumberTooLarge, PositionTooLarge, LengthTooLarge, StringTooLong}
use Rattle.archive_check.proofs.Elements.{contains_first}
use Rattle.archive_check.proofs.Tours.PartsInside.{up_le}
use Rattle.archive_check.proofs.Names.PositiveAlignments.{align_pos}
use Rattle.archive_check.specs.Denotes.{Naming}
use Rattle.archive_write.specs.Written.{GoesOn, padding, ExplainsRefusal}
use Rattle.archive_write.proofs.Padding.{padded}
use Rattle.archive_num.specs.Offsets.{distance, IsTooFar}
use Rattle.archive_types.specs.Strings.{to_text, string_flat}
use Rattle.archive_types.specs.Members.Planned.{text_region}
use Rattle.archive_types.specs.Members.PlannedOwners.{one_plan}
use Rattle.archive_types.specs.TextPlans.{HindersStringAt}
use Rattle.archive_types.specs.Writing.{NameMap, AreNamed, Puts}
use Rattle.archive_types.specs.Plans.{Cursor, cursor, AreBelow, StandsAt, Step, lays, plans_leaf, plans_inline, plans_out_of_line, ValuePlan, RegionPlan, Serialized, serialized, SerializedRegion, serialized_region}
use Rattle.archive_types.specs.Causes.{Explains, own_cause, of_isize, of_offset, of_position, of_length, of_number, of_string, of_layout, IsOwnCause, ValuePart, HindersPartAt, part_itself, part_of_one, owner_string, IsTooWide, stands_too_far, too_wide, text_too_long, anywhere, too_far_from_here, part_hinders, length_hinders, end_hinders, HindersRegion, HindersAt, HindersRegionAt, RegionReaches, IsRefused, IsRegionRefused}
use Rattle.archive_types.proofs.Writing.Appending.{size_is, align_is, writes_number, lays_one}
use Rattle.archive_types.proofs.Planning.Causes.{explains_write, explains_sooner, explains_later}
use Rattle.archive_types.proofs.Writing.StringsWritten.{flat_inline, flat_out_of_line, writes_inline, lays_text, writes_out_of_line}

pub is_here : (w : WriterState) → StandsAt (cursor w) w
is_here w = record { position = refl; keys = λ k. refl }

-- leaves

pub serialized_number : (D : Definitions) (kind : Kind) (z : ℤ) (w : WriterState) → Serialized D (leaf kind) [] (number z) (number z) w w
serialized_number D kind z w = serialized (writes_number D w z)
    (λ below s names k n. record { flat = number z; steps = []; stop = cursor w; plans = plans_leaf; such = (refl, is_here w) })

pub serialized_leaf : (D : Definitions) (X : Shape) (kind : Kind) (z : ℤ) (w : WriterState) → X ≡ leaf kind → Serialized D X [] (number z) (number z) w w
serialized_leaf D X kind z w same = rw same (serialized_number D kind z w)

number_refused : (D : Definitions) (kind : Kind) (z : ℤ) (old new : WriterState) → IsTooWide kind z → IsRefused D (leaf kind) [] (number z) old new NumberTooLarge
number_refused D kind z old new wide = own_cause (record {
  named = of_number;
  cause = λ below s names k n. record { flat = number z; steps = []; stop = cursor old; plans = plans_leaf; such = inr (0, leaf kind, number z, part_itself, too_wide wide) };
})

pub usize_refused : (D : Definitions) (n : ℕ) (old new : WriterState) → (n < 2 ^ 32 → ⊥) → IsRefused D (leaf (number_kind unsigned w32)) [] (number (pos n)) old new NumberTooLarge
usize_refused D n old new h = number_refused D (number_kind unsigned w32) (pos n) old new (λ m less e. (let same : n ≡ m = cc in h (rw same less)))

pub isize_refused : (D : Definitions) (z : ℤ) (old new : WriterState) → (FitsSigned w32 z → ⊥) → IsRefused D (leaf (number_kind signed w32)) [] (number z) old new NumberTooLarge
isize_refused D z old new h = number_refused D (number_kind signed w32) z old new h

-- texts

pub serialized_text : (D : Definitions) (old new : WriterState) (bs : List ℕ) (t : ℕ) → IsUtf8 bs → new.bytes ≡ old.bytes ++ bs → t ≡ length old.bytes
    → KeepsKeys old.states new.states → SerializedRegion D text (length bs) [] (text_value bs) t old new
serialized_text D old new bs t u grown here keys = serialized_region (lays_text D old new bs t u grown here keys)
    (λ below s names k n. text_region s names bs (cursor old) _ (sym here, record { position = ap length grown ∙ length-append old.bytes bs; keys = keys }))

pub long_text_refused : (D : Definitions) (old new : WriterState) (bs : List ℕ) → 4294967295 < length bs → IsRegionRefused D text (length bs) [] (text_value bs) old new LengthTooLarge
long_text_refused D old new bs long = own_cause (record {
  named = of_length;
  cause = λ below s names k n. text_region s names bs (cursor old) _ (lays (region_at s (length old.bytes) text (length bs) false) (text_value bs), contains_first [] _, length_hinders long);
})

pub text_refused : (D : Definitions) (old new : WriterState) (bs : List ℕ) (position : ℕ) (e : Error) → position ≡ length old.bytes
    → GoesOn old new → ExplainsRefusal (length bs) position (length new.bytes) old.room old.failures new.failures e → IsRegionRefused D text (length bs) [] (text_value bs) old new e
text_refused D old new bs position e here g h =
    explains_write _ _ (length bs) position old new e here (λ below s names k n. text_region s names bs (cursor old) _ (omega (arith, here))) g h

-- strings

pub serialized_inline : (D : Definitions) (w : WriterState) (bs : List ℕ) (t : ℕ) → length bs ≤ 8 → Serialized D str [] (text_value bs) (string_flat bs t) w w
serialized_inline D w bs t few = serialized (writes_inline D w bs t few)
    (λ below s names k n. record { flat = text_value bs; steps = []; stop = cursor w; plans = plans_inline few; such = (sym (flat_inline bs t few), is_here w) })

-- a plan of a string's text is one of the string
string_plan : (s : SchemaTable) (names : NameMap) (bs : List ℕ) (a : Cursor) (holds : ℕ → List Step → Cursor → Type 0) (such : Value → List Step → Cursor → Type 0) → 8 < length bs
    → ((t : ℕ) (C : List Step) (b : Cursor) → holds t C b → such (hole (to_text t (length bs))) C b)
    → RegionPlan s names text (length bs) (text_value bs) a holds → ValuePlan s names str (text_value bs) a such
string_plan s names bs a holds such long f h = record {
  flat = hole (to_text h.begin (length bs));
  steps = h.steps;
  stop = h.stop;
  plans = plans_out_of_line long h.plans;
  such = f h.begin h.steps h.stop h.such;
}

pub serialized_out_of_line : (D : Definitions) (old new : WriterState) (bs : List ℕ) (t : ℕ) → 8 < length bs → SerializedRegion D text (length bs) [] (text_value bs) t old new
    → Serialized D str [] (text_value bs) (string_flat bs t) old new
serialized_out_of_line D old new bs t long (serialized_region region planned) = serialized (writes_out_of_line D old new bs t long region)
    (λ below s names k n. string_plan s names bs (cursor old) _ _ long (λ q C b x. (ap (λ p. hole (to_text p (length bs))) (x.0) ∙ sym (flat_out_of_line bs t long), x.1)) (planned below s names k n))

pub string_refused : (D : Definitions) (old new : WriterState) (bs : List ℕ) (e : Error) → 8 < length bs → IsRegionRefused D text (length bs) [] (text_value bs) old new e
    → IsRefused D str [] (text_value bs) old new e
string_refused D old new bs e long h = explains_sooner _ _ _ _ old new e
    (λ x. record { named = x.named; cause = λ below s names k n. string_plan s names bs (cursor old) _ _ long (λ t C b y. inl y) (x.cause below s names k n) })
    (λ m x below s names k n. string_plan s names bs (cursor old) _ _ long (λ t C b y. y) (x below s names k n)) h

pub long_string_refused : (D : Definitions) (old new : WriterState) (bs : List ℕ) → 1073741823 < length bs → IsRefused D str [] (text_value bs) old new StringTooLong
long_string_refused D old new bs long = own_cause (record {
  named = of_string;
  cause = λ below s names k n. string_plan s names bs (cursor old) (λ t C b. Unit {0}) _ (omega arith)
      (λ t C b y. inr (0, str, hole (to_text t (length bs)), part_itself, text_too_long long)) (text_region s names bs (cursor old) _ tt);
})

pub far_string_refused : (D : Definitions) (old new : WriterState) (bs : List ℕ) → 8 < length bs → 4294967295 < length old.bytes → IsRefused D str [] (text_value bs) old new PositionTooLarge
far_string_refused D old new bs long far = own_cause (record {
  named = of_position;
  cause = λ below s names k n. string_plan s names bs (cursor old) (λ t C b. 4294967295 < t) _ long
      (λ t C b y. inr (0, str, hole (to_text t (length bs)), part_itself, stands_too_far owner_string refl y)) (text_region s names bs (cursor old) _ far);
})

pub own_if_too_far : (e : Error) (z : ℤ) → IsTooFar e z → IsOwnCause e
own_if_too_far e z (inl h) = rw (h.0) of_isize
own_if_too_far e z (inr h) = rw (h.0) of_offset

pub string_hindered_at : (D : Definitions) (bs : List ℕ) (t p : ℕ) (e : Error) → HindersStringAt bs t p e → HindersAt D str (string_flat bs t) p e
string_hindered_at D bs t p e (long, far) = rw (flat_out_of_line bs t long) (record {
  named = own_if_too_far e _ far;
  cause = λ s k. (0, str, hole (to_text t (length bs)), part_itself, too_far_from_here {h = to_text t (length bs)} {t = t} owner_string refl (subst (λ q. IsTooFar e (distance q t)) (sym (add-zero p)) far));
})

-- where a long text's offset alone is refused
pub string_unresolved : {A : Type 0} (r : Result A Error) (D : Definitions) (bs : List ℕ) (t p : ℕ) (same : Type 0) → IfErr r (λ e. same × IsTooFar e (distance p t)) → (length bs ≤ 8 → IsOk r)
    → IfErr r (HindersAt D str (string_flat bs t) p)
string_unresolved (Ok a) D bs t p same far few = tt
string_unresolved (Err e) D bs t p same far few = elim (cases_lt 8 (length bs)) [
  | inl long ↦ string_hindered_at D bs t p e (long, far.1)
  | inr short ↦ (let no = few short in cc)
]

-- the region of one value, behind what it owns

in_last : (C : List Step) (x : Step) → Contains (C ++ x ∷ []) x
in_last C x = Contains-append_right C (x ∷ []) x (contains_first [] x)

module _ (D : Definitions) (X : Shape) (ks : List Naming) (v : Value) where
  pub serialized_one : (flat : Value) (L : Layout) (t : ℕ) (old mid low new : WriterState) → Serialized D X ks v flat old mid → Pads L.align mid low → Puts D low new X L flat
      → t ≡ length low.bytes → SerializedRegion D (one X) 0 ks v t old new
  serialized_one flat L t old mid low new (serialized writes planned) pads puts here = serialized_region (lays_one D old mid low new ks flat v X L t writes pads puts here)
      (λ below s names k n. (
      let q = planned below s names k n in
      one_plan D X ks v s names (cursor old) _ _ q t (here ∙ pads.aligned ∙ ap (λ m. up m L.align) q.such.1.position ∙ ap (up q.stop.position) (sym (align_is puts.layout s k))) (
        refl,
        record {
          position = omega (arith, ap length puts.grown, length-append low.bytes puts.added, puts.sized, size_is puts.layout s k, here);
          keys = λ key. ap (λ f. f key) (puts.states ∙ pads.states) ∙ q.such.1.keys key;
        },
      )))

  pub serialized_if : (r : Result ℕ Error) (flat : Value) (L : Layout) (position : ℕ) (old mid low new : WriterState) → Serialized D X ks v flat old mid → Pads L.align mid low → OnOk r (Puts D low new X L flat)
      → position ≡ length low.bytes → IfOk r (λ t. t ≡ position) → IfOk r (λ t. SerializedRegion D (one X) 0 ks v t old new)
  serialized_if (Ok t) flat L position old mid low new h pads puts here at = serialized_one flat L t old mid low new h pads puts (at ∙ here)
  serialized_if (Err e) flat L position old mid low new h pads puts here at = tt

  -- what it owns isn't written
  pub one_owned : (old new : WriterState) (e : Error) → IsRefused D X ks v old new e → IsRegionRefused D (one X) 0 ks v old new e
  one_owned old new e h = explains_sooner _ _ _ _ old new e
      (λ x. record {
        named = x.named;
        cause = λ below s names k n. (
            let q = x.cause below s names k n in
            let t : ℕ = up q.stop.position (align_of s.layouts X) in
            let last : Step = lays (region_at s t (one X) 0 false) q.flat in
            one_plan D X ks v s names (cursor old) _ _ q t refl (elim q.such [
              | inl y ↦ (y.0, Contains-append_left q.steps (last ∷ []) y.0 y.1, y.2)
              | inr y ↦ (last, in_last q.steps last, part_hinders (part_of_one y.3) (anywhere y.4))
            ]));
      })
      (λ m x below s names k n. (
      let q = x below s names k n in
      one_plan D X ks v s names (cursor old) _ _ q (up q.stop.position (align_of s.layouts X)) refl (omega (arith, q.such, up_le q.stop.position (align_of s.layouts X) (align_pos s.layouts k.laid_out.aligned X))))) h

  -- nor the zeros behind that
  pub one_padded : (flat : Value) (L : Layout) (position : ℕ) (old mid new : WriterState) (e : Error) → IsAlign L.align → HasLayout D X L → Serialized D X ks v flat old mid → GoesOn old mid → position ≡ length mid.bytes
      → GoesOn mid new → ExplainsRefusal (padding L.align position) position (length new.bytes) mid.room mid.failures new.failures e → IsRegionRefused D (one X) 0 ks v old new e
  one_padded flat L position old mid new e is layout (serialized writes planned) g here k refused =
      explains_later (HindersRegion D (one X) 0 ks v (cursor old)) _ (RegionReaches D (one X) 0 ks v (cursor old)) _ old mid new e g k (λ x. x) (λ m x. x) (explains_write _ _ (padding L.align position) position mid new e here (λ below s names l n. (
      let q = planned below s names l n in
      let t : ℕ = up q.stop.position (align_of s.layouts X) in
      let there : up position L.align ≡ t = ap (λ m. up m L.align) (here ∙ q.such.1.position) ∙ ap (up q.stop.position) (sym (align_is layout s l)) in
      one_plan D X ks v s names (cursor old) _ _ q t refl (omega (arith, padded position L.align is, there)))) k refused)

  -- nor its own region
  pub one_hindered : (flat : Value) (L : Layout) (old mid low new : WriterState) (e : Error) → HasLayout D X L → Serialized D X ks v flat old mid → Pads L.align mid low
      → GoesOn old low → GoesOn low new
      → Explains (HindersRegionAt D X L flat (length low.bytes)) (λ m. m ≤ length low.bytes + L.size) low new e → IsRegionRefused D (one X) 0 ks v old new e
  one_hindered flat L old mid low new e layout (serialized writes planned) pads g k refused =
      explains_later _ _ _ _ old low new e g k
      (λ x. elim x [
        | inl y ↦ record { named = rw (y.0) of_layout; cause = λ below s names l n. plan below s names l n _ (λ q t here is. (let ends : 2 ^ 64 ≤ t + size_of s.layouts X = omega (arith, here, y.1, size_is layout s l) in (_, in_last q.steps _, rw (y.0) (end_hinders {r = region_at s t (one X) 0 false} ends)))) }
        | inr y ↦ record {
          named = y.named;
          cause = λ below s names l n. plan below s names l n _ (λ q t here is. (let z = y.cause s l in (
            _,
            in_last q.steps _,
            part_hinders {r = region_at s t (one X) 0 false} {o = z.0} {Y = z.1} {w = z.2}
                (part_of_one (subst (λ u. ValuePart s X u z.0 z.1 z.2) (sym is) z.3)) (subst (λ p. HindersPartAt z.1 (p + z.0) z.2 e) (sym here) z.4),
          )));
        }
      ])
      (λ m x below s names l n. plan below s names l n _ (λ q t here is. omega (arith, here, x, size_is layout s l))) refused
    where
      plan : AreBelow (cursor old) → (s : SchemaTable) (names : NameMap) → Knows s D → AreNamed names ks → (such : ℕ → List Step → Cursor → Type 0)
          → ((q : ValuePlan s names X v (cursor old) (λ w C b. (w ≡ flat) × StandsAt b mid)) (t : ℕ) → t ≡ length low.bytes → q.flat ≡ flat
          → such t (q.steps ++ lays (region_at s t (one X) 0 false) q.flat ∷ []) (record { position = t + size_of s.layouts X; states = q.stop.states }))
          → RegionPlan s names (one X) 0 v (cursor old) such
      plan below s names l n such f =
          let q = planned below s names l n in
          let t : ℕ = up q.stop.position (align_of s.layouts X) in
          let here : t ≡ length low.bytes = sym (pads.aligned ∙ ap (λ m. up m L.align) q.such.1.position ∙ ap (up q.stop.position) (sym (align_is layout s l))) in
          one_plan D X ks v s names (cursor old) _ such q t refl (f q t here q.such.0)
