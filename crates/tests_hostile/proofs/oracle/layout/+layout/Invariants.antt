use Rattle.std.proofs.Common.{◌+◌, ◌*◌}
use Rattle.tests_hostile.proofs.oracle.layout.+layout.Given as goal

abbrev pub decreases-layout_within : goal.decreases-layout_within
decreases-layout_within l = 3 * l.levels

abbrev pub decreases-layout_of_parts : goal.decreases-layout_of_parts
decreases-layout_of_parts l = 3 * l.levels + 1

abbrev pub decreases-layout_of_variants : goal.decreases-layout_of_variants
decreases-layout_of_variants l = 3 * l.levels + 2
