use Rattle.archive_check.proofs.OneList.{tidy_unique}
use Rattle.archive_check.proofs.laws.tidy_unique.Goals as goal

pub returns : goal.returns
returns c s X m n start a b laid x y h same = tidy_unique s laid X m n start a b x y h same
