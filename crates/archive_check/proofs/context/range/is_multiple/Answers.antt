use Rattle.std.proofs.Common.{sym, ◌∙◌}
use Rattle.archive_check.proofs.context.PowersOfTwo.{multiple_masked}
use Rattle.archive_check.proofs.context.range.is_multiple.Goals as goal

pub returns-then-is_power_of_two : goal.returns-then-is_power_of_two
returns-then-is_power_of_two c = multiple_masked c.args.position c.args.align (sym c.is_power_of_two.ensures ∙ c.if-is_power_of_two.true)
