-- Written by tools/derive: change the declaration, and run it again.
use Rattle.recursive_kinds.specs.RoadMeaning.{road_way_opens, road_detour_opens}
use Rattle.std.proofs.Common.{◌≡◌, rules}
use Rattle.std.specs.Prelude.{◌≡◌}
use Rattle.recursive_kinds.proofs.road.RoadArchive.resolve.Goals as goal
use Rattle.recursive_kinds.proofs.road.RoadArchive.resolve.Goals.{in-Way+in-Way-resolver, in-Detour+in-Detour-resolver}

pub returns : goal.returns
returns g = elim g.match-self.branch [
  | in-Way+in-Way-resolver w ↦ let after : g.match-self.bytes ≡ w.resolve_road_2.new.place.0 = search rules in let there = rw (w.new.ensures.position) at w.resolve_road_2.ensures in rw (w.in-Way.is, w.in-Way-resolver.is, road_way_opens w.in-Way.a0 w.in-Way._a1, after, w.result-is) (record { resolved = there.resolved; refused = there.refused; same_length = search rules })
  | in-Detour+in-Detour-resolver w ↦ let after : g.match-self.bytes ≡ w.resolve_road_2-in-Detour.new.place.0 = search rules in let there = rw (w.new-in-Detour.ensures.position) at w.resolve_road_2-in-Detour.ensures in rw (w.in-Detour.is, w.in-Detour-resolver.is, road_detour_opens w.in-Detour._a0 w.in-Detour._a1, after, w.result-is) (record { resolved = there.resolved; refused = there.refused; same_length = search rules })
]
