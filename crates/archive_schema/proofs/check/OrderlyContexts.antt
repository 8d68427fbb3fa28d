-- A context stays in order with what the list holds, call by call.
use Rattle.std.proofs.Common.{◌≡◌, inl, inr, ℕ, ℤ, pos, sym, ap, ◌∙◌, ◌+◌, arith, true, List, [], ◌∷◌, Option, Some, None, option_map, Ok}
use Rattle.std.proofs.lemmas.Map.Made.{Contains-tail}
use Rattle.std.proofs.lemmas.Bool.{cases_eq}
use Rattle.archive_check.specs.Depth.{inside}
use Rattle.archive_check.specs.context.Ranges.{one_more}
use Rattle.archive_check.specs.context.PositionStates.{Positions, started_at, started, finished, finish_answer}
use Rattle.archive_check.specs.Tour.{Entry}
use Rattle.archive_check.specs.context.FreshContexts.{HasLevels}
use Rattle.archive_schema.specs.check.LoopInvariant.{Orderly}
use Rattle.archive_check.proofs.Elements.{contains_first, contains_later}
use Rattle.archive_check.proofs.Checks.Depths.{levels_allow}
use Rattle.archive_schema.proofs.check.ContextAgrees.{update_here, update_apart, pos_apart, deeper_levels, deeper_few, higher_levels, higher_few}

-- a check begins in order, in each context that has levels
pub orderly_start : {d : Option ℕ} {met : Positions} → HasLevels d → Orderly d met [] 0
orderly_start h = record {
  begun = λ t here. absurd (let lt = here.1 in omega arith);
  once = tt;
  levels = h.levels;
  few = λ d is. let few = h.few d is in omega arith;
}

pub orderly_levels : {d : Option ℕ} {met : Positions} {pd : List ℕ} {r : ℕ} → Orderly d met pd r → HasLevels d
orderly_levels h = record { levels = h.levels; few = λ k is. let most = h.few k is in omega arith }

pub orderly_same : {d : Option ℕ} {met met' : Positions} {pd : List ℕ} {r : ℕ} → ((q : ℤ) → met' q ≡ met q) → Orderly d met pd r → Orderly d met' pd r
orderly_same same h = record {
  begun = λ t here. let b = h.begun t here in (b.0, same (pos t) ∙ b.1);
  once = h.once;
  levels = h.levels;
  few = h.few;
}

-- a new position is started
pub orderly_new : {d : Option ℕ} {met : Positions} {pd : List ℕ} {r : ℕ} (t : ℕ) (e : Entry) → met (pos t) ≡ None → Orderly d met pd r → Orderly d (started met (pos t) e) (t ∷ pd) r
orderly_new {met = met} {pd = pd} t e none h = record {
  begun = λ q here. elim (cases_eq t q) [
    | inl same ↦ (e, ap (λ k. started met (pos t) e (pos k)) (sym same) ∙ update_here met (pos t) (Some (started_at (met (pos t)) e)) ∙ ap (λ o. Some (started_at o e)) none)
    | inr other ↦ let b = h.begun q (Contains-tail t pd q other here) in (b.0, update_apart met (pos t) (pos q) (Some (started_at (met (pos t)) e)) (pos_apart t q other) ∙ b.1)
  ];
  once = (λ inside. let b = h.begun t inside in let clash = sym none ∙ b.1 in cc, h.once);
  levels = h.levels;
  few = h.few;
}

-- the shared position that was started last is finished
pub orderly_finished : {d : Option ℕ} {met : Positions} {t : ℕ} {rest : List ℕ} {r : ℕ} → Orderly d met (t ∷ rest) r → Orderly d (finished met (pos t)) rest r
orderly_finished {met = met} {t = t} {rest = rest} h = record {
  begun = λ q inside. elim (cases_eq t q) [
    | inl same ↦ absurd (h.once.0 (rw (← same) at inside))
    | inr other ↦ let b = h.begun q (contains_later t rest q inside) in (b.0, update_apart met (pos t) (pos q) (option_map (λ old. record { entry = old.entry; finished = true }) (met (pos t))) (pos_apart t q other) ∙ b.1)
  ];
  once = h.once.1;
  levels = h.levels;
  few = h.few;
}

-- so its finish isn't refused
pub finish_fine : {d : Option ℕ} {met : Positions} {t : ℕ} {rest : List ℕ} {r : ℕ} → Orderly d met (t ∷ rest) r → finish_answer (λ x. x.finished) (met (pos t)) ≡ Ok tt
finish_fine {t = t} {rest = rest} h = let b = h.begun t (contains_first rest t) in ap (finish_answer (λ x. x.finished)) b.1

-- a level less, in a region more
pub orderly_inside : {d : Option ℕ} {met : Positions} {pd : List ℕ} {r : ℕ} → (d ≡ Some 1 → ⊥) → Orderly d met pd r → Orderly (inside d) met pd (1 + r)
orderly_inside {d = d} {r = r} deep h =
    let allows = levels_allow d h.levels deep in
    record { begun = h.begun; once = h.once; levels = deeper_levels d allows; few = λ n is. deeper_few r d n allows h.few is }

-- a level more, in a region less
pub orderly_outside : (r : ℕ) {d : Option ℕ} {met : Positions} {pd : List ℕ} → Orderly d met pd (1 + r) → Orderly (one_more d) met pd r
orderly_outside r {d = d} h = record { begun = h.begun; once = h.once; levels = higher_levels d; few = λ n is. higher_few r d n h.few is }
