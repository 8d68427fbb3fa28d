use Rattle.std.proofs.Common.{length}
use Rattle.archive_check.proofs.Names.Rounds.{rounds}
use Rattle.archive_check.proofs.Names.PositiveAlignments.{rounds_pos}
use Rattle.archive_check.proofs.Names.LaidOutNames.{names_of, rounds_solve_reached}
use Rattle.archive_check.proofs.laws.layouts_exist.Goals as goal

pub returns : goal.returns
returns c table X well = (rounds table (length (names_of table)), rounds_solve_reached table X well, rounds_pos table (length (names_of table)))
