use Rattle.archive_core.proofs.Archives.{root_said, number_named}
use Rattle.tests_whole.proofs.archive.reading.read_root.Goals as goal

pub returns : goal.returns
returns c = let e = c.in_ok-view.ensures in root_said _ _ _ _ _ (number_named _) e.answer.accepted (rw (e.buffer, e.position, e.whole) at c.get.ensures.says)
