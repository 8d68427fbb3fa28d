-- What an archived option ends as, where a reference to its value is lent for a change.
use Rattle.std.specs.Prelude.{Option}
use Rattle.std.specs.Borrow.{Lends, LendsIf, Fml, RattleType, MutBor}
use Rattle.archive_enum.specs.declared.option.ArchivedOption.{ArchivedOption}
use Rattle.archive_enum.specs.declared.option.ArchivedOption.TheVariants as option
use Rattle.archive_enum.specs.contracts.option.ArchivedOption.{the_row}

module _ (T : RattleType) (lender : MutBor (ArchivedOption T.Denot)) where
  -- A Some of the last value behind the reference.
  abbrev pub LendsValue : MutBor T.Denot → Fml
  LendsValue lent = Lends (the_row T) T lender lent option.Some

  -- The same where there is a reference, and else what it was.
  abbrev pub LendsValueIfAny : Option (MutBor T.Denot) → Fml
  LendsValueIfAny lent = LendsIf (the_row T) T lender lent option.Some lender.now
