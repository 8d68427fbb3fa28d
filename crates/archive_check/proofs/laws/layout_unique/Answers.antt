use Rattle.archive_check.proofs.Names.LaidOutNames.{reached_one_layout, shape_one_layout}
use Rattle.archive_check.proofs.laws.layout_unique.Goals as goal

pub returns : goal.returns
returns c table X f g well left right = (reached_one_layout table X well f g left right, shape_one_layout table X well f g left right)
