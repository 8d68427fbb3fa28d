-- What a check that follows a type alone says of a whole buffer: the root is entered as any region is.
use Rattle.std.proofs.Common.{◌≡◌, ℕ, refl, sym, inr, ◌<◌, ◌^◌, List, [], length, Option}
use Rattle.std.specs.FinMap.{empty}
use Rattle.archive_check.specs.declared.format.error.Error.{Error}
use Rattle.archive_check.specs.Shape.{Shape}
use Rattle.archive_check.specs.Reads.{SchemaTable}
use Rattle.archive_check.specs.Tour.{root_pointer, Seen}
use Rattle.archive_check.specs.Trail.{Fault, TripsEnter, RootTrips}
use Rattle.archive_check.specs.Walk.{Enter, enter, RootWalk}
use Rattle.archive_check.specs.context.Ranges.{RangeState}
use Rattle.archive_check.specs.context.PositionStates.{Positions}
use Rattle.archive_check.specs.context.FreshContexts.{KeepsLevels, IsWhole}
use Rattle.archive_check.specs.Definitions.{Definitions, listed, NoOthers}
use Rattle.archive_check.specs.Defined.{WellFormed}
use Rattle.archive_check.specs.Archives.{IsArchiveWithin, IsRefusal, ExplainsNoArchive}
use Rattle.archive_check.specs.SelfCheck.Ways.{Way, Goes, Halts, enter_way}
use Rattle.archive_check.proofs.Tours.ReadingUnique.{pos_one}
use Rattle.archive_check.proofs.Checks.AcceptedWalks.{walked}
use Rattle.archive_check.proofs.Archives.{some_knows, refusal_no_archive}
use Rattle.archive_check.proofs.Checks.RangeLevels.{fresh_levels}

-- the root is entered where it is said to lie
entered_root : (s : SchemaTable) (bytes : List ℕ) (limit : Option ℕ) (root : ℕ) (X : Shape) {t : ℕ} {last : Seen} {later : ℕ} → Enter s bytes [] limit (length bytes) (root_pointer root X) t 0 empty later last → RootWalk s bytes limit root X
entered_root s bytes limit root X (enter {t = t} target above below aligned allowed w) =
    let same : t ≡ root = sym (pos_one target) in
    record { later = _; last = _; walk = enter {t = root} refl (rw same at above) (rw same at below) (rw same at aligned) allowed (rw same at w) }

root_trips : (t : SchemaTable) (bytes : List ℕ) (root : ℕ) (X : Shape) (s : RangeState) (met : Positions) → IsWhole s met bytes → (f : Fault) → TripsEnter t bytes [] s.depth s.end (root_pointer root X) s.start empty f → RootTrips t bytes s.depth root X f
root_trips t bytes root X s met whole f w = rw (whole.start, whole.end) at w

pub goes_levels : (D : Definitions) (W : Way) (s s' : RangeState) → Goes D W s s' → KeepsLevels s s'
goes_levels D W s s' goes some = rw (goes.depth some) some

module _ (D : Definitions) (X : Shape) (bytes : List ℕ) (root : ℕ) (s : RangeState) (met : Positions) (well : WellFormed (listed D) X) where
  pub whole_archive : NoOthers D X → (s' : RangeState) → Goes D (enter_way bytes (root_pointer root X)) s s' → IsWhole s met bytes → IsArchiveWithin D bytes s.depth root X
  whole_archive no_others s' goes whole = record {
    well_formed = well;
    known = ∣ some_knows D X well no_others ∣₁;
    accepted = λ t k.
        let w = rw (whole.start, whole.end) at (goes.runs (fresh_levels s met whole.fresh) t k [] empty) in
        ∣ walked t bytes s.depth root X (entered_root t bytes s.depth root X w.1) ∣₁;
  }

  pub whole_refusal : (e : Error) → Halts D (enter_way bytes (root_pointer root X)) s e → IsWhole s met bytes → IsRefusal D bytes s.depth root X e
  whole_refusal e halts whole =
      let f = halts (fresh_levels s met whole.fresh) in
      inr (record { well_formed = well; fault = f.0; said = f.1; trips = λ t k. ∣ root_trips t bytes root X s met whole f.0 (f.2 t k [] empty) ∣₁ })

  pub whole_exact : (e : Error) → length bytes < 2 ^ 64 → Halts D (enter_way bytes (root_pointer root X)) s e → IsWhole s met bytes → ExplainsNoArchive D bytes s.depth root X e
  whole_exact e small halts whole = refusal_no_archive D bytes s.depth root X e small (whole_refusal e halts whole)
