-- Nodes that are opened one after another, each of which the one before it led to.
use Rattle.std.proofs.Common.{◌≡◌, ◌≢◌, ℕ, refl, ◌≤◌, arith, Option}
use Rattle.archive_check.specs.declared.format.error.Error.{Error}
use Rattle.archive_schema.specs.declared.check.Checker.{Checker}
use Rattle.archive_schema.specs.declared.check.worklist.Next.{Next}
use Rattle.archive_schema.specs.declared.check.worklist.Next.TheVariants.{Here, Listed}
use Rattle.archive_schema.specs.check.LoopInvariant.{Stage, Ready, Listing, TurnLeads}
use Rattle.archive_schema.specs.check.Turns.{Turned, TurnsFrom, cost_at}
use Rattle.archive_schema.proofs.check.TurnExits.{turn_taken, turn_then}

-- from one stage to where the next node is to be opened: that is safe, whatever comes of what is left came of what was before, and no more is left
pub record IsOpening (m : Checker) (x y : Stage) : Type 0 where
  pub ready : Ready m y.range y.work
  pub leads : TurnLeads m (Listing m) x y
  pub few : cost_at m y ≤ cost_at m x

module _ {m : Checker} {x : Stage} where
  pub opening_begins : Ready m x.range x.work → IsOpening m x x
  opening_begins ready = record { ready = ready; leads = record { keeps = λ h. h; leads = λ seen a. (seen, a, λ o r. r) }; few = omega arith }

  pub opening_ends : {y z : Stage} {r : Option (Unit {0})} {fault : Error} → IsOpening m x y → TurnsFrom m (Listing m) (cost_at m y) y z r fault → TurnsFrom m (Listing m) (cost_at m x) x z r fault
  opening_ends h turn = turn_then turn h.few h.leads

  pub opening_goes : {y z : Stage} → IsOpening m x y → Turned m (Listing m) (cost_at m y) y z → IsOpening m x z
  opening_goes h turn = let far = (opening_ends {fault = Error.OutOfMemory} h (turn_taken {u = tt} turn)).some in record { ready = far.ready; leads = far.leads; few = omega (arith, far.ends) }

-- what comes next is on the list, where it is no node
pub on_the_list : (next : Next) → ((i p : ℕ) → next ≢ Here i p) → next ≡ Listed
on_the_list (Here i p) other = absurd (other i p refl)
on_the_list Listed other = refl
