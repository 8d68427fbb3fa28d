use Rattle.std.proofs.Common.{rules}
use Rattle.std.proofs.lemmas.Option.{IfSome_then}
use Rattle.archive_inspect.proofs.WaySteps.{box_points, shared_points, weak_points, vec_points, map_points}
use Rattle.archive_inspect.proofs.ways.pointing.pointer_from.Goals as goal

pub returns-in-Box : goal.returns-in-Box
returns-in-Box c = IfSome_then c.pointer_to.result c.pointer_to.ensures (λ p h. box_points c.args.bytes.now c.args.at (search rules) h)

pub returns-in-Shared : goal.returns-in-Shared
returns-in-Shared c = IfSome_then c.pointer_to-in-Shared.result c.pointer_to-in-Shared.ensures (λ p h. shared_points c.args.bytes.now c.args.at (search rules) h)

pub returns-then-leads_on : goal.returns-then-leads_on
returns-then-leads_on c = IfSome_then c.pointer_to-then-leads_on.result c.pointer_to-then-leads_on.ensures (λ p h. weak_points c.args.bytes.now c.args.at (search rules) (c.leads_on.ensures (search rules)) h)

pub returns-in-Vec : goal.returns-in-Vec
returns-in-Vec c = IfSome_then c.pointer_to_run.result c.pointer_to_run.ensures (λ p h. vec_points c.args.bytes.now c.args.at c.deref-in-Vec.result p (search rules) h)

pub returns-in-Map : goal.returns-in-Map
returns-in-Map c = IfSome_then c.pointer_to_run-in-Map.result c.pointer_to_run-in-Map.ensures (λ p h. map_points c.args.bytes.now c.args.at c.in-Map.key c.deref-in-Map.result p (search rules) h)
