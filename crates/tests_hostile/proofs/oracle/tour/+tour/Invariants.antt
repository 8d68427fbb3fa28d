use Rattle.std.proofs.Common.{◌+◌, ◌*◌}
use Rattle.tests_hostile.proofs.oracle.tour.+tour.Given as goal

abbrev pub decreases-go_over_value : goal.decreases-go_over_value
decreases-go_over_value l = 4 * l.levels

abbrev pub decreases-go_over_parts : goal.decreases-go_over_parts
decreases-go_over_parts l = 4 * l.levels + 1

abbrev pub decreases-go_over_elements : goal.decreases-go_over_elements
decreases-go_over_elements l = 4 * l.levels + 1

abbrev pub decreases-go_over_entries : goal.decreases-go_over_entries
decreases-go_over_entries l = 4 * l.levels + 1

abbrev pub decreases-go_over_key : goal.decreases-go_over_key
decreases-go_over_key l = 4 * l.levels

abbrev pub decreases-go_over_choice : goal.decreases-go_over_choice
decreases-go_over_choice l = 4 * l.levels + 2

abbrev pub decreases-go_over_region : goal.decreases-go_over_region
decreases-go_over_region l = 4 * l.levels + 2

abbrev pub decreases-go_over_shared : goal.decreases-go_over_shared
decreases-go_over_shared l = 4 * l.levels + 3

abbrev pub decreases-go_over_string : goal.decreases-go_over_string
decreases-go_over_string l = 4 * l.levels + 3
