-- Steps of what is kept of shared positions.
use Rattle.std.proofs.Common.{◌≡◌, ◌⊎◌, inl, inr, ⊎_elim, ◌↔◌, IsTrue, ℕ, ◌<◌, ◌≤◌, ℤ, List, [], ◌∷◌, ◌++◌, length, Bool, true, false, cond, refl, sym, ap, ◌∙◌, subst, Option, Some, None, option_map, arith, zero, suc, slice_get, Result, Ok, Err, OnOk, OnErr, ◌&&◌, bytes_eq, get_or, ◌+◌, length-append}
use Rattle.std.specs.Bool.{beq}
use Rattle.std.proofs.lemmas.Bool.{cases_lt}
use Rattle.std.proofs.lemmas.Option.{slice_get_read, slice_get_within}
use mathlib.Core.Bool.{true≢false}
use Rattle.std.specs.Cmp.{signed_Decides}
use Rattle.std.specs.Ordering.{int_eq}
use Rattle.std.specs.Map.{update, lookup}
use Rattle.std.specs.HashMap.{HashMap, get, Updates, IsUnchanged}
use Rattle.std.specs.Option.{ForSome, IfNone}
use Rattle.archive_check.specs.declared.format.error.Error.TheVariants.{AlreadyFinished}
use Rattle.archive_check.specs.declared.context.positions.SharedType.{SharedType}
use Rattle.archive_check.specs.declared.context.positions.SharedPosition.{SharedPosition}
use Rattle.archive_check.specs.declared.format.expr.FlavorInfo.{FlavorInfo}
use Rattle.archive_check.specs.declared.format.expr.Pointee.{Pointee as PointeeExpr}
use Rattle.archive_check.specs.declared.format.error.Error.{Error}
use Rattle.archive_check.specs.declared.context.ValidationState.{ValidationState}
use Rattle.archive_check.specs.Shape.{Flavor, Pointee}
use Rattle.archive_check.specs.Expressions.{flavor_of, pointee_of}
use Rattle.archive_check.specs.Equality.{same_flavor-Decides}
use Rattle.archive_check.specs.Tour.{Entry}
use Rattle.archive_check.specs.context.PositionStates.{PositionState, Positions, started, started_at, finish_answer, IsStartAnswer, IsFinishedAs, IsFinishedAnswer}
use Rattle.archive_check.specs.context.SharedPositions.{met_as, met_in, positions_in, finished_as, AreKnown, AreDistinct, HasType, IsAbsent, IsGrown, IsType}

slice_get-append : {A : Type 0} (xs ys : List A) (k : ℕ) → k < length xs → slice_get (xs ++ ys) k ≡ slice_get xs k
slice_get-append [] ys k h = absurd (omega arith)
slice_get-append (x ∷ xs) ys zero h = refl
slice_get-append (x ∷ xs) ys (suc k) h = slice_get-append xs ys k (omega arith)

slice_get-some : {A : Type 0} (xs : List A) (k : ℕ) → k < length xs → (x : A) × (slice_get xs k ≡ Some x)
slice_get-some [] k h = absurd (omega arith)
slice_get-some (x ∷ xs) zero h = (x, refl)
slice_get-some (x ∷ xs) (suc k) h = slice_get-some xs k (omega arith)

slice_get-last : {A : Type 0} (xs : List A) (x : A) → slice_get (xs ++ x ∷ []) (length xs) ≡ Some x
slice_get-last [] x = refl
slice_get-last (y ∷ xs) x = slice_get-last xs x

met_in-grown : (shared_types more : List SharedType) (kept : Option SharedPosition) → ForSome kept (λ k. k.shared_type < length shared_types) → met_in (shared_types ++ more) kept ≡ met_in shared_types kept
met_in-grown shared_types more None h = refl
met_in-grown shared_types more (Some k) h = ap (option_map (met_as k)) (slice_get-append shared_types more k.shared_type (h k refl))

pub positions_in-grown : (old new : List SharedType) (f : ℤ → Option SharedPosition) → IsGrown old new → AreKnown old f → positions_in new f ≡ positions_in old f
positions_in-grown old new f g h =
    let grown : positions_in (old ++ g.more) f ≡ positions_in old f = λ i q. met_in-grown old g.more (f q) (h q) i in
    ap (λ shared_types. positions_in shared_types f) g.is ∙ grown

-- one position gets another value
met_in-cond : (shared_types : List SharedType) (b : Bool) (x y : Option SharedPosition) → met_in shared_types (cond b x y) ≡ cond b (met_in shared_types x) (met_in shared_types y)
met_in-cond shared_types true x y = refl
met_in-cond shared_types false x y = refl

pub positions_in-update : (shared_types : List SharedType) (f g : ℤ → Option SharedPosition) (p : ℤ) (x : Option SharedPosition) → ((q : ℤ) → g q ≡ cond (int_eq p q) x (f q)) → positions_in shared_types g ≡ update int_eq (positions_in shared_types f) p (met_in shared_types x)
positions_in-update shared_types f g p x e = λ i q. (ap (met_in shared_types) (e q) ∙ met_in-cond shared_types (int_eq p q) x (f q)) i

-- a position that was met stays as it was
own_value : (met : Positions) (p q : ℤ) (old : Option PositionState) (b : Bool) → (b ≡ true → p ≡ q) → met p ≡ old → met q ≡ cond b old (met q)
own_value met p q old true same e = sym (ap met (same refl)) ∙ e
own_value met p q old false same e = refl

pub started-again : (met : Positions) (p : ℤ) (old : PositionState) (new : Entry) → met p ≡ Some old → met ≡ started met p new
started-again met p old new e =
    let same : met ≡ update int_eq met p (Some old) = λ i q. own_value met p q (Some old) (int_eq p q) (signed_Decides p q).0 e i in
    same ∙ ap (λ x. update int_eq met p (Some (started_at x new))) (sym e)

-- a position that is kept was met, with its type in the list
pub met_in-kept : (shared_types : List SharedType) (f : ℤ → Option SharedPosition) (p key : ℤ) (k : SharedPosition) → AreKnown shared_types f → key ≡ p → f key ≡ Some k → (shared_type : SharedType) × (slice_get shared_types k.shared_type ≡ Some shared_type) × (positions_in shared_types f p ≡ Some (met_as k shared_type))
met_in-kept shared_types f p key k h same e =
    let (shared_type, at) = slice_get-some shared_types k.shared_type (h key k e) in
    (shared_type, at, ap (positions_in shared_types f) (sym same) ∙ ap (met_in shared_types) e ∙ ap (option_map (met_as k)) at)

pub finish_kept : (shared_types : List SharedType) (f : ℤ → Option SharedPosition) (p key : ℤ) (k : SharedPosition) (b : Bool) → AreKnown shared_types f → key ≡ p → Some k ≡ f key → k.finished ≡ b → cond b (Err AlreadyFinished) (Ok tt) ≡ finish_answer (λ met. met.finished) (positions_in shared_types f p)
finish_kept shared_types f p key k b h same e is =
    let answer : Bool → Result (Unit {0}) Error = λ b. cond b (Err AlreadyFinished) (Ok tt) in
    sym (ap (finish_answer (λ met. met.finished)) (met_in-kept shared_types f p key k h same (sym e)).2 ∙ ap answer is)

-- equal flavors
pub same_flavors : (f g : FlavorInfo) → (bytes_eq f.name.now g.name.now && beq f.cycles g.cycles) ≡ true → flavor_of f ≡ flavor_of g
same_flavors f g e = (same_flavor-Decides (flavor_of f) (flavor_of g)).0 e

pub other_flavors : (f g : FlavorInfo) → (bytes_eq f.name.now g.name.now && beq f.cycles g.cycles) ≡ false → flavor_of f ≡ flavor_of g → ⊥
other_flavors f g e s = true≢false (sym ((same_flavor-Decides (flavor_of f) (flavor_of g)).1 s) ∙ e)

pub has_type : (shared_types : List SharedType) (k : ℕ) (shared_type : SharedType) (f : FlavorInfo) (P : Pointee) → k < length shared_types → shared_type ≡ get_or shared_types k shared_type → flavor_of shared_type.flavor ≡ flavor_of f → pointee_of shared_type.pointee ≡ P → HasType shared_types k (flavor_of f) P
has_type shared_types k shared_type f P h e s t = record { type_there = shared_type; at = slice_get_read shared_types (length shared_types) k shared_type refl h e; flavor_is = s; pointee_is = t }

pub has_pushed : (shared_types new : List SharedType) (k : ℕ) (f : FlavorInfo) (p : PointeeExpr) (P : Pointee) → new ≡ shared_types ++ record { flavor = f; pointee = p } ∷ [] → k ≡ length shared_types → pointee_of p ≡ P → HasType new k (flavor_of f) P
has_pushed shared_types new k f p P grown h s =
    let shared_type : SharedType = record { flavor = f; pointee = p } in
    let here : slice_get (shared_types ++ shared_type ∷ []) k ≡ Some shared_type = ap (slice_get (shared_types ++ shared_type ∷ [])) h ∙ slice_get-last shared_types shared_type in
    record { type_there = shared_type; at = ap (λ xs. slice_get xs k) grown ∙ here; flavor_is = refl; pointee_is = s }

-- no index before n has the type
abbrev pub NoneBefore : List SharedType → Flavor → Pointee → ℕ → Type 0
NoneBefore shared_types flavor pointee n = (index : ℕ) → index < n → HasType shared_types index flavor pointee → ⊥

pub none_next : (shared_types : List SharedType) (flavor : Flavor) (pointee : Pointee) (n : ℕ) (x : SharedType) → NoneBefore shared_types flavor pointee n → n < length shared_types → x ≡ get_or shared_types n x
    → (flavor_of x.flavor ≡ flavor → pointee_of x.pointee ≡ pointee → ⊥) → NoneBefore shared_types flavor pointee (n + 1)
none_next shared_types flavor pointee n x before below is other index lt has = ⊎_elim
    (λ less. before index less has)
    (λ last.
    let here : slice_get shared_types index ≡ Some x = ap (slice_get shared_types) (omega (arith, last, lt)) ∙ slice_get_read shared_types (length shared_types) n x refl below is in
    let same : has.type_there ≡ x = cc (sym has.at ∙ here) in
    other (ap (λ (s : SharedType). flavor_of s.flavor) (sym same) ∙ has.flavor_is) (ap (λ (s : SharedType). pointee_of s.pointee) (sym same) ∙ has.pointee_is))
    (cases_lt index n)

pub none_absent : (shared_types : List SharedType) (flavor : Flavor) (pointee : Pointee) (n : ℕ) → NoneBefore shared_types flavor pointee n → length shared_types ≤ n → IsAbsent shared_types flavor pointee
none_absent shared_types flavor pointee n before end index has = before index (omega (arith, end, slice_get_within shared_types index has.type_there has.at)) has

-- in a list with one type more, a type stands where it stood, or it is the new one
has_in_pushed : (shared_types : List SharedType) (x : SharedType) (k : ℕ) (flavor : Flavor) (pointee : Pointee) → HasType (shared_types ++ x ∷ []) k flavor pointee
    → HasType shared_types k flavor pointee ⊎ ((k ≡ length shared_types) × IsType x flavor pointee)
has_in_pushed shared_types x k flavor pointee has = ⊎_elim
    (λ less. inl (record { type_there = has.type_there; at = sym (slice_get-append shared_types (x ∷ []) k less) ∙ has.at; flavor_is = has.flavor_is; pointee_is = has.pointee_is }))
    (λ more.
    let below : k < length (shared_types ++ x ∷ []) = slice_get_within (shared_types ++ x ∷ []) k has.type_there has.at in
    let size : length (shared_types ++ x ∷ []) ≡ length shared_types + 1 = length-append shared_types (x ∷ []) in
    let last : k ≡ length shared_types = omega (arith, more, below, size) in
    let same : Some x ≡ Some has.type_there = sym (ap (slice_get (shared_types ++ x ∷ [])) last ∙ slice_get-last shared_types x) ∙ has.at in
    let one : x ≡ has.type_there = cc same in
    inr (last, (ap (λ (s : SharedType). flavor_of s.flavor) one ∙ has.flavor_is, ap (λ (s : SharedType). pointee_of s.pointee) one ∙ has.pointee_is)))
    (cases_lt k (length shared_types))

-- each type still stands once where one is put at the end that wasn't there
pub distinct_pushed : (shared_types new : List SharedType) (f : FlavorInfo) (p : PointeeExpr) (P : Pointee) → IsAbsent shared_types (flavor_of f) P → new ≡ shared_types ++ record { flavor = f; pointee = p } ∷ [] → pointee_of p ≡ P
    → AreDistinct shared_types → AreDistinct new
distinct_pushed shared_types new f p P absent is pointee_is distinct = subst AreDistinct (sym is) once
  where
    x : SharedType
    x = record { flavor = f; pointee = p }

    clash : (k : ℕ) (flavor : Flavor) (pointee : Pointee) → HasType shared_types k flavor pointee → IsType x flavor pointee → ⊥
    clash k flavor pointee has is_x = absent k (record { type_there = has.type_there; at = has.at; flavor_is = has.flavor_is ∙ sym is_x.0; pointee_is = has.pointee_is ∙ sym is_x.1 ∙ pointee_is })

    once : AreDistinct (shared_types ++ x ∷ [])
    once i j flavor pointee at_i at_j = ⊎_elim
        (λ old_i. ⊎_elim (λ old_j. distinct i j flavor pointee old_i old_j) (λ new_j. absurd (clash i flavor pointee old_i new_j.1)) (has_in_pushed shared_types x j flavor pointee at_j))
        (λ new_i. ⊎_elim (λ old_j. absurd (clash j flavor pointee old_j new_i.1)) (λ new_j. new_i.0 ∙ sym new_j.0) (has_in_pushed shared_types x j flavor pointee at_j))
        (has_in_pushed shared_types x i flavor pointee at_i)

-- what is kept of a position that is finished, as one of a flavor, a pointee and a length
met_kept : (shared_types : List SharedType) (found : Option SharedPosition) (e : Entry) → ForSome found (λ k. k.shared_type < length shared_types) → IsFinishedAs (met_in shared_types found) e
    → (k : SharedPosition) × (found ≡ Some k) × (k.finished ≡ true) × (k.length ≡ e.length) × HasType shared_types k.shared_type e.flavor e.pointee
met_kept shared_types None e known is = absurd (let none : None ≡ Some (record { entry = e; finished = true }) = is in cc)
met_kept shared_types (Some k) e known is =
    let (t, at) = slice_get-some shared_types k.shared_type (known k refl) in
    let same : Some (met_as k t) ≡ Some (record { entry = e; finished = true }) = sym (ap (option_map (met_as k)) at) ∙ is in
    let met : met_as k t ≡ record { entry = e; finished = true } = cc same in (
      k,
      refl,
      ap (λ (m : PositionState). m.finished) met,
      ap (λ (m : PositionState). m.entry.length) met,
      record {
        type_there = t;
        at = at;
        flavor_is = ap (λ (m : PositionState). m.entry.flavor) met;
        pointee_is = ap (λ (m : PositionState). m.entry.pointee) met;
      },
    )

-- nothing is finished as one of a type that isn't in the list
pub absent_unfinished : (shared_types : List SharedType) (f : ℤ → Option SharedPosition) (flavor : Flavor) (pointee : Pointee) → AreKnown shared_types f → IsAbsent shared_types flavor pointee
    → (position : ℤ) (n : ℕ) → IsFinishedAs (positions_in shared_types f position) (record { flavor = flavor; pointee = pointee; length = n }) → ⊥
absent_unfinished shared_types f flavor pointee known absent position n is =
    let kept = met_kept shared_types (f position) (record { flavor = flavor; pointee = pointee; length = n }) (known position) is in
    absent kept.0.shared_type kept.4

-- a position that is recalled is finished exactly if what is kept of it is
pub finished_recalled : (f : ℤ → Option SharedPosition) (key : ℤ) (k : SharedPosition) (number n : ℕ) (answer : Bool) → f key ≡ Some k → (IsTrue answer ↔ k ≡ finished_as number n)
    → IsTrue answer ↔ f key ≡ Some (finished_as number n)
finished_recalled f key k number n answer e is = (
  λ so. e ∙ ap Some (is.0 so),
  λ h. let same : Some k ≡ Some (finished_as number n) = sym e ∙ h in let one : k ≡ finished_as number n = cc same in is.1 one,
)

-- a position is finished as one of a type exactly if it is kept so, with the type's number
pub finished_numbered : (shared_types : List SharedType) (f : ℤ → Option SharedPosition) (p key : ℤ) (number n : ℕ) (answer : Bool) → AreKnown shared_types f → AreDistinct shared_types → key ≡ p
    → (IsTrue answer ↔ f key ≡ Some (finished_as number n)) → IsFinishedAnswer (HasType shared_types number) (positions_in shared_types f p) n answer
finished_numbered shared_types f p key number n answer known distinct same is flavor pointee has = (
  λ so.
      let kept : f p ≡ Some (finished_as number n) = ap f (sym same) ∙ is.0 so in
      let entry : met_as (finished_as number n) has.type_there ≡ record { entry = record { flavor = flavor; pointee = pointee; length = n }; finished = true } =
      (λ i. record { entry = record { flavor = has.flavor_is i; pointee = has.pointee_is i; length = n }; finished = true }) in
      ap (met_in shared_types) kept ∙ ap (option_map (met_as (finished_as number n))) has.at ∙ ap Some entry,
  λ finished.
      let kept = met_kept shared_types (f p) (record { flavor = flavor; pointee = pointee; length = n }) (known p) finished in
      let type_is : kept.0.shared_type ≡ number = distinct kept.0.shared_type number flavor pointee kept.4 has in
      let whole : kept.0 ≡ finished_as number n = (λ i. record { shared_type = type_is i; length = kept.3 i; finished = kept.2 i }) in
      is.1 (ap f same ∙ kept.1 ∙ ap Some whole),
)

-- the types' list grows, and a position is entered
pub AreKnown-grown : (old new : List SharedType) (f : ℤ → Option SharedPosition) → AreKnown old f → IsGrown old new → AreKnown new f
AreKnown-grown old new f h g q k e =
    let l : length new ≡ length old + length g.more = ap length g.is ∙ length-append old g.more in
    let b : k.shared_type < length old = h q k e in
    omega arith

-- what is answered and left where a kept position is started again
start_kept : (shared_types : List SharedType) (f : ℤ → Option SharedPosition) (p key : ℤ) (k : SharedPosition) (shared_type : SharedType) → AreKnown shared_types f → key ≡ p → Some k ≡ f key → shared_type ≡ get_or shared_types k.shared_type shared_type → positions_in shared_types f p ≡ Some (met_as k shared_type)
start_kept shared_types f p key k shared_type h same e is =
    let at : slice_get shared_types k.shared_type ≡ Some shared_type = slice_get_read shared_types (length shared_types) k.shared_type shared_type refl (h key k (sym e)) is in
    ap (positions_in shared_types f) (sym same) ∙ ap (met_in shared_types) (sym e) ∙ ap (option_map (met_as k)) at

pub answer_kept : (shared_types : List SharedType) (f : ℤ → Option SharedPosition) (p key : ℤ) (k : SharedPosition) (shared_type : SharedType) (new : Entry) (r : Result ValidationState Error) → AreKnown shared_types f → key ≡ p → Some k ≡ f key → shared_type ≡ get_or shared_types k.shared_type shared_type → IsStartAnswer (Some (met_as k shared_type)) new r → IsStartAnswer (positions_in shared_types f p) new r
answer_kept shared_types f p key k shared_type new r h same e is a = subst (λ met. IsStartAnswer met new r) (sym (start_kept shared_types f p key k shared_type h same e is)) a

pub started_kept : (shared_types : List SharedType) (f : ℤ → Option SharedPosition) (p key : ℤ) (k : SharedPosition) (shared_type : SharedType) (new : Entry) → AreKnown shared_types f → key ≡ p → Some k ≡ f key → shared_type ≡ get_or shared_types k.shared_type shared_type → positions_in shared_types f ≡ started (positions_in shared_types f) p new
started_kept shared_types f p key k shared_type new h same e is = started-again (positions_in shared_types f) p (met_as k shared_type) new (start_kept shared_types f p key k shared_type h same e is)

-- a position is entered, with a type of the grown list
pub started_new : (old new : List SharedType) (f g : ℤ → Option SharedPosition) (p key put : ℤ) (k : SharedPosition) (flavor : Flavor) (pointee : Pointee)
    → AreKnown old f → IsGrown old new → HasType new k.shared_type flavor pointee → key ≡ p → put ≡ p → None ≡ f key → k.finished ≡ false
    → ((q : ℤ) → g q ≡ cond (int_eq put q) (Some k) (f q))
    → positions_in new g ≡ started (positions_in old f) p (record { flavor = flavor; pointee = pointee; length = k.length })
started_new old new f g p key put k flavor pointee known grown type same putting none pending e =
    let entry : Entry = record { flavor = flavor; pointee = pointee; length = k.length } in
    let met : met_in new (Some k) ≡ Some (record { entry = entry; finished = false }) =
    ap (option_map (met_as k)) type.at ∙ (λ i. Some (record { entry = record { flavor = type.flavor_is i; pointee = type.pointee_is i; length = k.length }; finished = pending i })) in
    let before : positions_in old f p ≡ None = ap (positions_in old f) (sym same) ∙ ap (met_in old) (sym none) in
    let stays = positions_in-grown old new f grown known in
    positions_in-update new f g put (Some k) e
    ∙ (λ i. update int_eq (stays i) (putting i) (met i))
    ∙ ap (λ x. update int_eq (positions_in old f) p (Some (started_at x entry))) (sym before)

known_cond : (shared_types : List SharedType) (b : Bool) (k x : SharedPosition) (old now : Option SharedPosition) → k.shared_type < length shared_types → ForSome old (λ k. k.shared_type < length shared_types) → now ≡ cond b (Some k) old → now ≡ Some x → x.shared_type < length shared_types
known_cond shared_types true k x old now h o e s = let same : Some k ≡ Some x = sym e ∙ s in let one : k ≡ x = cc in subst (λ y. y.shared_type < length shared_types) one h
known_cond shared_types false k x old now h o e s = o x (sym e ∙ s)

-- every position is still known where one of them was entered, or none
pub AreKnown-inserted : {S E : Type 0} (shared_types : List SharedType) (m n : HashMap ℤ SharedPosition S) (key : ℤ) (k : SharedPosition) (flavor : Flavor) (pointee : Pointee) (r : Result (Option SharedPosition) E)
    → AreKnown shared_types (get int_eq m) → HasType shared_types k.shared_type flavor pointee → OnOk r (Updates int_eq m n key (Some k)) → OnErr r (IsUnchanged m n) → AreKnown shared_types (get int_eq n)
AreKnown-inserted shared_types m n key k flavor pointee (Ok old) known type ok err q x e =
    known_cond shared_types (int_eq key q) k x (get int_eq m q) (get int_eq n q) (slice_get_within shared_types k.shared_type type.type_there type.at) (known q) (ok.0 q) e
AreKnown-inserted shared_types m n key k flavor pointee (Err e') known type ok err q x e =
    known q x (ap (λ es. lookup (int_eq q) es) (sym err) ∙ e)

pub unchanged_kept : {S : Type 0} (old new : List SharedType) (m n : HashMap ℤ SharedPosition S) → AreKnown old (get int_eq m) → IsGrown old new → IsUnchanged m n → positions_in new (get int_eq n) ≡ positions_in old (get int_eq m)
unchanged_kept old new m n known grown same =
    let stays = positions_in-grown old new (get int_eq m) grown known in
    let entries : positions_in new (get int_eq n) ≡ positions_in new (get int_eq m) = ap (λ es. positions_in new (λ q. lookup (int_eq q) es)) same in
    entries ∙ stays

pub none_weaker : {X : Type 0} (r : Option X) {P Q : Type 0} → (P → Q) → IfNone r P → IfNone r Q
none_weaker (Some x) h p = tt
none_weaker None h p = h p

pub on_ok : {T E : Type 0} {P : Type 0} (r : Result T E) → P → OnOk r P
on_ok (Ok x) p = p
on_ok (Err e) p = tt

pub on_err : {T E : Type 0} {P : Type 0} (r : Result T E) → P → OnErr r P
on_err (Ok x) p = tt
on_err (Err e) p = p

pub ruleset kept = (positions_in-grown, positions_in-update, started-again, AreKnown-grown)

pub ruleset same_type = (same_flavors, other_flavors)

-- what is said of the positions that were met is said of the same ones under another name
pub answer_same : (met before : Positions) (p : ℤ) (e : Entry) (r : Result ValidationState Error) → met ≡ before → IsStartAnswer (met p) e r → IsStartAnswer (before p) e r
answer_same met before p e r same h = subst (λ f. IsStartAnswer (f p) e r) same h

pub started_same : (met before after : Positions) (p : ℤ) (e : Entry) (r : Result ValidationState Error) → met ≡ before → OnOk r (after ≡ started met p e) → OnOk r (after ≡ started before p e)
started_same met before after p e r same h = subst (λ f. OnOk r (after ≡ started f p e)) same h
