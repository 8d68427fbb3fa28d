use Rattle.std.proofs.Common.{◌+◌, ◌*◌}
use Rattle.archive_inspect.proofs.text.parser.Parser.+parser.Given as goal

abbrev pub decreases-read_type : goal.decreases-read_type
decreases-read_type l = 4 * l.levels

abbrev pub decreases-read_parts : goal.decreases-read_parts
decreases-read_parts l = 4 * l.levels + 1

abbrev pub decreases-read_target : goal.decreases-read_target
decreases-read_target l = 4 * l.levels + 1

abbrev pub decreases-read_tuple : goal.decreases-read_tuple
decreases-read_tuple l = 4 * l.levels + 2

abbrev pub decreases-read_arguments : goal.decreases-read_arguments
decreases-read_arguments l = 4 * l.levels + 2
