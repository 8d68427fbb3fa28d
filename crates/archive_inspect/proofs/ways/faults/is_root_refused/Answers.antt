use Rattle.std.proofs.Common.{subst}
use Rattle.archive_inspect.specs.Points.{RegionRefused}
use Rattle.archive_inspect.proofs.ways.faults.is_root_refused.Goals as goal

pub returns : goal.returns
returns c = λ t. subst (λ P. RegionRefused c.args.form.now.schema P c.args.refusal) c.root_pointing-pointer.ensures (c.is_region_refused.ensures t)
