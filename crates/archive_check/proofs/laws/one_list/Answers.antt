use Rattle.archive_check.proofs.OneList.{one_list}
use Rattle.archive_check.proofs.laws.one_list.Goals as goal

pub returns : goal.returns
returns c s D X m n start a b k u x y v same = one_list s D X m n start a b k u x y v same
