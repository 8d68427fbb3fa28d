-- Written by tools/derive: change the declaration, and run it again.
use Rattle.archive_core.specs.Shape.{part}
use Rattle.std.proofs.Common.{◌+◌, ◌*◌, pos}
use Rattle.std.specs.Prelude.{pos}
use Rattle.recursive_types.proofs.search.+read_search.Given as goal

abbrev pub decreases-read_box_search : goal.decreases-read_box_search
decreases-read_box_search g l = (l.part.pos + 4) * 5 + 1

abbrev pub decreases-read_option_box_search : goal.decreases-read_option_box_search
decreases-read_option_box_search g l = (l.part.pos + 8) * 5 + 2

abbrev pub decreases-read_search : goal.decreases-read_search
decreases-read_search g l = (l.part.pos + 20) * 5 + 4
