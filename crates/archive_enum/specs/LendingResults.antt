-- What an archived result ends as, where a reference to its value or to its error is lent for a change.
use Rattle.std.specs.Prelude.{Option}
use Rattle.std.specs.Borrow.{LendsIf, Fml, RattleType, MutBor}
use Rattle.archive_enum.specs.declared.result.ArchivedResult.{ArchivedResult}
use Rattle.archive_enum.specs.declared.result.ArchivedResult.TheVariants as result
use Rattle.archive_enum.specs.contracts.result.ArchivedResult.{the_row}

module _ (T E : RattleType) (lender : MutBor (ArchivedResult T.Denot E.Denot)) where
  -- an Ok of the last value behind the reference, and what it was where there is none.
  abbrev pub LendsOkIfAny : Option (MutBor T.Denot) → Fml
  LendsOkIfAny lent = LendsIf (the_row T E) T lender lent result.Ok lender.now

  -- The same of an Err.
  abbrev pub LendsErrIfAny : Option (MutBor E.Denot) → Fml
  LendsErrIfAny lent = LendsIf (the_row T E) E lender lent result.Err lender.now
