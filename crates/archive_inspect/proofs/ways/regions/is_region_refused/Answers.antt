use Rattle.archive_inspect.proofs.Refused.{region_large}
use Rattle.archive_inspect.proofs.ways.regions.is_region_refused.Goals as goal

pub returns-in-LayoutTooLarge : goal.returns-in-LayoutTooLarge
returns-in-LayoutTooLarge c = λ t. rw c.in-LayoutTooLarge.is (region_large c.args.form.now.schema _ (c.are_too_large.ensures t))
