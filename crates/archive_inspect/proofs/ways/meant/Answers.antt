use Rattle.std.proofs.Common.{refl}
use Rattle.archive_inspect.specs.Points.{means_value, means_so}
use Rattle.archive_inspect.proofs.ways.meant.Goals as goal

pub returns-in-Value-clause-means : goal.returns-in-Value-clause-means
returns-in-Value-clause-means c = λ s know. rw c.in-Value.is (means_value (c.meant.ensures s know))

pub returns-in_default : goal.returns-in_default
returns-in_default c = record { same = refl; means = λ s know. means_so }
