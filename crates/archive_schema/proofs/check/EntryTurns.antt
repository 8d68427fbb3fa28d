-- The turns of a check that take the next entry of a map: its key at once, and then its value.
use Rattle.std.proofs.Common.{◌≡◌, inl, inr, ℕ, ◌+◌, ◌-◌, ◌*◌, ◌<◌, arith, List, ◌∷◌, length, Bool, true, Option, Some, None}
use Rattle.archive_check.specs.declared.format.error.Error.{Error}
use Rattle.archive_check.specs.declared.format.expr.Key.{Key as KeyExpr}
use Rattle.archive_check.specs.context.Ranges.{RangeState}
use Rattle.archive_check.specs.context.PositionStates.{Positions}
use Rattle.archive_schema.specs.declared.check.Checker.{Checker}
use Rattle.archive_schema.specs.declared.check.worklist.Work.{Work}
use Rattle.archive_schema.specs.declared.check.worklist.Work.TheVariants.{Part as PartWork, Entries}
use Rattle.archive_schema.specs.check.Lists.{IsMore}
use Rattle.archive_schema.specs.check.Runs.{EntryTakes, before_at}
use Rattle.archive_schema.specs.check.LoopInvariant.{PartFits, EntriesFit, Ready, Stage, stage, pending_in, Listing, TurnLeads, level, cost}
use Rattle.archive_schema.specs.check.Through.{Passed, PassesFrom, order_rule}
use Rattle.archive_schema.specs.check.Turns.{TurnsFrom}
use Rattle.archive_schema.proofs.check.ContextAgrees.{levels_of}
use Rattle.archive_schema.proofs.check.EntryPlaces.{value_fits, next_room}
use Rattle.archive_schema.proofs.check.OrderlyContexts.{orderly_levels}
use Rattle.archive_schema.proofs.check.TurnExits.{turn_taken, turn_then}
use Rattle.archive_schema.proofs.check.TurnRules.{turn_entries, turn_entry_last, turn_entries_end, turn_entries_key}
use Rattle.archive_schema.proofs.check.TurnsEnd.{level_node, level_same, falls_one, falls_two, falls_none}

-- a turn of these entries
abbrev TakesEntry : Checker → RangeState → Positions → List Work → KeyExpr → ℕ → ℕ → ℕ → Bool → Stage → Option (Unit {0}) → Error → Type 0
TakesEntry m s met old key j n p later y r fault = TurnsFrom m (Listing m) (cost m s.end (Entries key j n p later ∷ old)) (stage s met (Entries key j n p later ∷ old)) y r fault

module _ {m : Checker} {s : RangeState} {old : List Work} {key : KeyExpr} {j n p : ℕ} {later : Bool} (ready : Ready m s (Entries key j n p later ∷ old)) where
  -- the value lies in the bytes, and so do the entries behind it
  module _ {offset size : ℕ} (lt : 0 < n) (takes : EntryTakes m key j offset size) where
    value_there : PartFits m j (p + offset)
    value_there = let here : p + 0 * size + offset ≡ p + offset = omega arith in rw here at (value_fits ready.fits.0 takes 0 lt)

    others_there : EntriesFit m key j (n - 1) (p + size) true
    others_there =
        record {
          offset = offset;
          size = size;
          few = omega (arith, ready.fits.0.few);
          takes = takes;
          fits = next_room ready.fits.0 takes lt;
          first = λ some. omega arith;
        }

  module _ {met : Positions} where
    pub opens_no_entry : {u : Unit {0}} {fault : Error} → n ≡ 0 → TakesEntry m s met old key j n p later (stage s met old) (Some u) fault
    opens_no_entry none = turn_taken (record {
      ready = record { below = ready.below; fits = ready.fits.1 };
      leads = record { keeps = λ k. k; leads = λ seen a. (seen, a, λ o r. turn_entries_end m ready.fits.0.takes none r) };
      ends = falls_none _ _;
    })

    pub key_refused : {offset size : ℕ} {y : Stage} {fault : Error} → EntryTakes m key j offset size → 0 < n → PassesFrom (order_rule m key j (before_at later p size) p) (stage s met old) y None fault → TakesEntry m s met old key j n p later y None fault
    key_refused takes lt h = record { some = tt; none = inr (λ k. let f = h.none (orderly_levels k) in (f.0, f.1, λ seen a. turn_entries_key m takes lt (f.2 (pending_in old) seen))) }

    module _ {w : Stage} {rest : List Work} {offset size : ℕ} (lt : 0 < n) (takes : EntryTakes m key j offset size) (passed : Passed (order_rule m key j (before_at later p size) p) (stage s met old) w) where
      pub entry_opened : IsMore (Entries key j (n - 1) (p + size) true) (n - 1 ≡ 0) rest w.work → Ready m w.range (PartWork j (p + offset) ∷ rest)
      entry_opened (inl (some, e)) = record { below = rw passed.through.end ready.below; fits = rw (e, passed.list, passed.through.end) (value_there lt takes, (others_there lt takes, ready.fits.1)) }
      entry_opened (inr (none, e)) = record { below = rw passed.through.end ready.below; fits = rw (e, passed.list, passed.through.end) (value_there lt takes, ready.fits.1) }

      entry_leads : IsMore (Entries key j (n - 1) (p + size) true) (n - 1 ≡ 0) rest w.work → TurnLeads m (Listing m) (stage s met (Entries key j n p later ∷ old)) (stage w.range w.met (PartWork j (p + offset) ∷ rest))
      entry_leads (inl (some, e)) = record {
        keeps = λ k. let back = passed.through.depth (orderly_levels k) in rw (e, passed.list, back, passed.positions) k;
        leads = λ seen a.
            let levels = levels_of a in
            let back = passed.through.depth levels in (
              seen,
              rw (e, passed.list, back, passed.positions) a,
              λ o q. turn_entries m takes lt (passed.through.runs levels (pending_in old) seen) (rw (e, passed.list, back, passed.through.end) at q),
            );
      }
      entry_leads (inr (none, e)) = record {
        keeps = λ k. let back = passed.through.depth (orderly_levels k) in rw (e, passed.list, back, passed.positions) k;
        leads = λ seen a.
            let levels = levels_of a in
            let back = passed.through.depth levels in (
              seen,
              rw (e, passed.list, back, passed.positions) a,
              λ o q. turn_entry_last m takes lt none (passed.through.runs levels (pending_in old) seen) (rw (e, passed.list, back, passed.through.end) at q),
            );
      }

      entry_ends : IsMore (Entries key j (n - 1) (p + size) true) (n - 1 ≡ 0) rest w.work → cost m w.range.end (PartWork j (p + offset) ∷ rest) < cost m s.end (Entries key j n p later ∷ old)
      entry_ends (inl (some, e)) =
          let k = length m.nodes.now in
          let few = ready.fits.0.few in
          rw (e, passed.list, passed.through.end)
          (falls_two (level k s.end j 18446744073709551616) (level k s.end (j + 1) (n - 1)) (level k s.end (j + 1) n) (cost m s.end old)
          (level_node k s.end (j + 1) n j 18446744073709551616 (omega arith) (omega arith))
          (level_same k s.end (j + 1) (j + 1) n (n - 1) (omega arith) (omega arith)))
      entry_ends (inr (none, e)) =
          let k = length m.nodes.now in
          rw (e, passed.list, passed.through.end)
          (falls_one (level k s.end j 18446744073709551616) (level k s.end (j + 1) n) (cost m s.end old) (level_node k s.end (j + 1) n j 18446744073709551616 (omega arith) (omega arith)))

      -- the key is gone through, and the value is opened
      pub opens_entry : {y : Stage} {r : Option (Unit {0})} {fault : Error} → IsMore (Entries key j (n - 1) (p + size) true) (n - 1 ≡ 0) rest w.work
          → TurnsFrom m (Listing m) (cost m w.range.end (PartWork j (p + offset) ∷ rest)) (stage w.range w.met (PartWork j (p + offset) ∷ rest)) y r fault → TakesEntry m s met old key j n p later y r fault
      opens_entry more h = turn_then h (omega (arith, entry_ends more)) (entry_leads more)
