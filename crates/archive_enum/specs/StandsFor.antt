-- The options and results that archived ones stand for.
use Rattle.std.specs.Prelude.{Option, None, Some, Result, Ok, Err}
use Rattle.archive_enum.specs.declared.option.ArchivedOption.{ArchivedOption}
use Rattle.archive_enum.specs.declared.option.ArchivedOption.TheVariants as option
use Rattle.archive_enum.specs.declared.result.ArchivedResult.{ArchivedResult}
use Rattle.archive_enum.specs.declared.result.ArchivedResult.TheVariants as result

abbrev pub option_of : {T : Type 0} → ArchivedOption T → Option T
option_of option.None = None
option_of (option.Some x) = Some x

abbrev pub result_of : {T E : Type 0} → ArchivedResult T E → Result T E
result_of (result.Ok x) = Ok x
result_of (result.Err e) = Err e
