use Rattle.std.proofs.Common.{rules}
use Rattle.archive_inspect.specs.Points.{fails_elsewhere}
use Rattle.archive_inspect.proofs.ways.faults.is_no_text.Goals as goal

pub returns-in-Text : goal.returns-in-Text
returns-in-Text c = λ t. fails_elsewhere {n = c.in-Text.length} (search rules) (search rules)
