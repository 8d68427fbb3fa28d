-- What comes of elements that come next and aren't listed, and of a region that is left before them.
use Rattle.std.proofs.Common.{◌≡◌, ◌≢◌, refl, ◌+◌, sym, ap, ℕ, arith, List, ◌∷◌, Option, Some, None, IfSome, IfNone}
use Rattle.archive_check.specs.declared.format.error.Error.{Error}
use Rattle.archive_check.specs.context.Ranges.{RangeState}
use Rattle.archive_check.specs.context.PositionStates.{Positions}
use Rattle.archive_schema.specs.declared.check.Checker.{Checker}
use Rattle.archive_schema.specs.declared.check.worklist.Row.{Row}
use Rattle.archive_schema.specs.declared.check.worklist.Work.{Work}
use Rattle.archive_schema.specs.declared.check.worklist.Work.TheVariants.{Elements}
use Rattle.archive_schema.specs.check.Lists.{with_row}
use Rattle.archive_schema.specs.check.LoopInvariant.{Stage, stage, Ready, Listing, cost}
use Rattle.archive_schema.specs.check.Turns.{TurnsFrom, cost_at}
use Rattle.archive_schema.proofs.check.Openings.{opening_begins}
use Rattle.archive_schema.proofs.check.TurnExits.{turn_taken, turn_then}

-- elements that are taken from the list come next
pub row_taken : (j : ℕ) (row : Option Row) (old new : List Work) → IfSome row (λ q. old ≡ Elements j q.left q.at ∷ new) → IfNone row (new ≡ old) → with_row j row new ≡ old
row_taken j None old new some none = none
row_taken j (Some q) old new some none = sym some

-- no elements come next
pub no_row : (row : Option Row) → ((q : Row) → row ≢ Some q) → row ≡ None
no_row None other = refl
no_row (Some q) other = absurd (other q refl)

module _ {m : Checker} where
  -- nothing is left
  pub stays : {x : Stage} {u : Unit {0}} {fault : Error} → Ready m x.range x.work → TurnsFrom m (Listing m) (1 + cost_at m x) x x (Some u) fault
  stays {x = x} ready = let h = opening_begins ready in turn_taken (record { ready = ready; leads = h.leads; ends = omega (arith, h.few) })

  -- the first entry is
  pub goes_on : {s : RangeState} {met : Positions} {old rest : List Work} {entry : Work} {y : Stage} {r : Option (Unit {0})} {fault : Error} → old ≡ entry ∷ rest → Ready m s old
      → TurnsFrom m (Listing m) (cost m s.end (entry ∷ rest)) (stage s met (entry ∷ rest)) y r fault → TurnsFrom m (Listing m) (1 + cost m s.end old) (stage s met old) y r fault
  goes_on {s = s} {met = met} {old = old} same ready turn =
      turn_then turn (omega (arith, ap (cost m s.end) same)) (rw (sym same) (opening_begins {x = stage s met old} ready).leads)

  -- one turn, and then the list
  pub turn_goes_on : {most : ℕ} {x y z : Stage} {u : Unit {0}} {r : Option (Unit {0})} {e fault : Error} → TurnsFrom m (Listing m) most x y (Some u) e → TurnsFrom m (Listing m) (1 + cost_at m y) y z r fault → TurnsFrom m (Listing m) most x z r fault
  turn_goes_on turn next = turn_then next (omega (arith, turn.some.ends)) turn.some.leads
