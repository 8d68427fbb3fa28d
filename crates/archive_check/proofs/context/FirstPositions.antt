-- The first shared position that a check came to, beside a list that has it alone.
use Rattle.std.proofs.Common.{◌≡◌, ℤ, Bool, true, false, cond, refl, sym, ap, ◌∙◌, subst, Option, Some, None, option_map, Result, Ok, Err, IfErr, IsErrAnd}
use Rattle.std.specs.Cmp.{signed_Decides}
use Rattle.std.specs.Ordering.{int_eq}
use Rattle.std.specs.Map.{update}
use Rattle.archive_check.specs.declared.format.error.Error.{Error}
use Rattle.archive_check.specs.declared.format.error.Error.TheVariants.{OutOfMemory}
use Rattle.archive_check.specs.Tour.{Entry}
use Rattle.archive_check.specs.declared.context.ValidationState.{ValidationState}
use Rattle.archive_check.specs.declared.context.first.FirstPosition.{FirstPosition}
use Rattle.archive_check.specs.context.PositionStates.{PositionState, Positions, nothing_met, started, finished, finish_answer, IsStartAnswer}
use Rattle.archive_check.specs.context.FirstPositions.{first_as, first_met}

same_position : (p : ℤ) → int_eq p p ≡ true
same_position p = (signed_Decides p p).1 refl

-- one position was met
abbrev pub alone : ℤ → PositionState → Positions
alone p met = update int_eq nothing_met p (Some met)

alone_there : (p : ℤ) (met : PositionState) → alone p met p ≡ Some met
alone_there p met = ap (λ b. cond b (Some met) None) (same_position p)

twice : (b : Bool) (x y : Option PositionState) → cond b x (cond b y None) ≡ cond b x None
twice true x y = refl
twice false x y = refl

-- it is finished
abbrev done : PositionState → PositionState
done met = record { entry = met.entry; finished = true }

alone_finished : (p : ℤ) (met : PositionState) → finished (alone p met) p ≡ alone p (done met)
alone_finished p met =
    ap (λ x. update int_eq (alone p met) p (option_map done x)) (alone_there p met)
    ∙ (λ i q. twice (int_eq p q) (Some (done met)) (Some met) i)

-- what is listed where it was started there
abbrev pub pending : FirstPosition → PositionState
pending first = record { entry = (first_as first).entry; finished = false }

pub listed_pending : (first : FirstPosition) (before after : Positions) (p : ℤ) → p ≡ first.position → before ≡ nothing_met → after ≡ started before p (first_as first).entry → after ≡ alone first.position (pending first)
listed_pending first before after p here none is =
    is ∙ ap (λ f. started f p (first_as first).entry) none ∙ ap (λ q. alone q (pending first)) here

pub listed_unfinished : (first : FirstPosition) (after : Positions) → first.finished ≡ false → after ≡ alone first.position (pending first) → after ≡ first_met first
listed_unfinished first after is listed =
    listed ∙ sym (ap (λ b. alone first.position (record { entry = (first_as first).entry; finished = b })) is)

pub listed_finished : (first : FirstPosition) (before after : Positions) (p : ℤ) → p ≡ first.position → first.finished ≡ true → before ≡ alone first.position (pending first) → after ≡ finished before p → after ≡ first_met first
listed_finished first before after p here is listed then =
    then ∙ ap (λ f. finished f p) listed ∙ ap (finished (alone first.position (pending first))) here ∙ alone_finished first.position (pending first)
    ∙ sym (ap (λ b. alone first.position (record { entry = (first_as first).entry; finished = b })) is)

-- one that was started can be finished
pub finishes : (first : FirstPosition) (before : Positions) (p : ℤ) → p ≡ first.position → before ≡ alone first.position (pending first) → finish_answer (λ met. met.finished) (before p) ≡ Ok tt
finishes first before p here listed =
    ap (finish_answer (λ met. met.finished)) (ap before here ∙ ap (λ f. f first.position) listed ∙ alone_there first.position (pending first))

-- where nothing was met, a start fails for want of memory alone
pub refused_new : {A : Type 0} (before : Positions) (p : ℤ) (entry : Entry) (e : Error) (r : Result A Error) → before ≡ nothing_met → IsStartAnswer (before p) entry (Err e) → IsErrAnd r (λ d. d ≡ e) → IfErr r (λ d. d ≡ OutOfMemory)
refused_new before p entry e (Ok a) same h is = tt
refused_new before p entry e (Err d) same h is = is ∙ subst (λ f. IsStartAnswer (f p) entry (Err e)) same h

-- what was started doesn't fail to be finished
pub never_refused : {A : Type 0} (first : FirstPosition) (before : Positions) (p : ℤ) (e : Error) (r : Result A Error) → p ≡ first.position → before ≡ alone first.position (pending first)
    → Err e ≡ finish_answer (λ met. met.finished) (before p) → IfErr r (λ d. d ≡ OutOfMemory)
never_refused first before p e r here listed is = let w : Err e ≡ Ok tt = is ∙ finishes first before p here listed in cc

-- nothing was met elsewhere
elsewhere : (b : Bool) (x : Option PositionState) → (b ≡ true → ⊥) → cond b x None ≡ None
elsewhere true x other = absurd (other refl)
elsewhere false x other = refl

pub met_elsewhere : (first : FirstPosition) (p : ℤ) → (first.position ≡ p → ⊥) → first_met first p ≡ None
met_elsewhere first p other = elsewhere (int_eq first.position p) (Some (first_as first)) (λ same. other ((signed_Decides first.position p).0 same))

pub refused_elsewhere : (met : Option PositionState) (entry : Entry) (e : Error) (r : Result ValidationState Error) → met ≡ None → e ≡ OutOfMemory → IsErrAnd r (λ d. d ≡ e) → IsStartAnswer met entry r
refused_elsewhere met entry e (Ok x) none is same = absurd same
refused_elsewhere met entry e (Err d) none is same = subst (λ m. IsStartAnswer m entry (Err d)) (sym none) (same ∙ is)
