-- Written by tools/derive: change the declaration, and run it again.
use Rattle.std.proofs.Common.{◌+◌, ◌*◌}
use Rattle.recursive_kinds.proofs.road.+read_road.Given as goal

abbrev pub decreases-read_shared_road : goal.decreases-read_shared_road
decreases-read_shared_road g l = l.levels * 5 + 1

abbrev pub decreases-read_option_shared_road : goal.decreases-read_option_shared_road
decreases-read_option_shared_road g l = l.levels * 5 + 2

abbrev pub decreases-read_weak_shared_road : goal.decreases-read_weak_shared_road
decreases-read_weak_shared_road g l = l.levels * 5 + 1

abbrev pub decreases-read_road_way : goal.decreases-read_road_way
decreases-read_road_way g l = l.levels * 5 + 3

abbrev pub decreases-read_road_detour : goal.decreases-read_road_detour
decreases-read_road_detour g l = l.levels * 5 + 3

abbrev pub decreases-read_road : goal.decreases-read_road
decreases-read_road g l = l.levels * 5 + 0
