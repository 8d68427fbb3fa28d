-- Written by tools/derive: change the declaration, and run it again.
use Rattle.recursive_kinds.proofs.road.road_expressions.Goals as goal

pub returns : goal.returns
returns c = c.first_variant.ensures _ _ c.road_way_expressions.ensures (c.first_variant-rest1.ensures _ _ c.road_detour_expressions.ensures c.no_variants-rest2.ensures)
