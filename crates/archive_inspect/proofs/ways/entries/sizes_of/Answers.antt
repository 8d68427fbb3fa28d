use Rattle.std.proofs.Common.{rules}
use Rattle.archive_inspect.proofs.WaySteps.{entry_sizes}
use Rattle.archive_inspect.proofs.ways.entries.sizes_of.Goals as goal

pub returns : goal.returns
returns c = entry_sizes c.args.form.now.schema _ _ c.in_ok-layout.layout c.in_ok-layout.ensures c.in_ok-offset.offset c.in_ok-end.end _ c.in_ok-size.size
    (search rules) (search rules) (search rules) c.in_ok-size.ensures
