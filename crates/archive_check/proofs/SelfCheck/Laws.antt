-- The check that a type names is one of the type.
use Rattle.std.proofs.Common.{Bool, ℕ, ◌+◌, ◌≤◌, arith, List, Option, OnSome, IfNone}
use Rattle.std.proofs.lemmas.Bool.Decides.{nat_tests}
use Rattle.archive_check.specs.declared.format.error.Error.{Error}
use Rattle.archive_check.specs.Shape.{Shape}
use Rattle.archive_check.specs.context.Ranges.{RangeState}
use Rattle.archive_check.specs.Definitions.{Definitions}
use Rattle.archive_check.specs.SelfCheck.Ways.{Goes, Halts, shape_way}
use Rattle.archive_check.specs.SelfCheck.Laws.{IsCheckOf}
use Rattle.archive_check.proofs.SelfCheck.Ways.{goes_by, halts_by}

module _ (D E : Definitions) (X Y : Shape) (z n : ℕ) {nameless : Bool} (law : IsCheckOf D X z E Y n nameless) where
  pub span_fits : (at len : ℕ) → at + z ≤ len → at + n ≤ len
  span_fits at len h = let within = law.within in grind (arith, nat_tests)

  module _ (b : List ℕ) (p : ℕ) (s : RangeState) where
    pub checked_goes : (s' : RangeState) (r : Option (Unit {0})) → OnSome r (Goes E (shape_way b p Y) s s') → OnSome r (Goes D (shape_way b p X) s s')
    checked_goes s' r = goes_by E D (shape_way b p Y) (shape_way b p X) s law.known (λ t k pending seen o w. law.leads t k b p pending s.depth s.end s.start seen o w) s' r

    pub checked_halts : (e : Error) (r : Option (Unit {0})) → IfNone r (Halts E (shape_way b p Y) s e) → IfNone r (Halts D (shape_way b p X) s e)
    checked_halts e r = halts_by E D (shape_way b p Y) (shape_way b p X) s law.known (λ t k pending seen o w. law.leads t k b p pending s.depth s.end s.start seen o w) e r
