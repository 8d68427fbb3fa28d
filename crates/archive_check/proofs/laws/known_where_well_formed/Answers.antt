use Rattle.archive_check.proofs.Archives.{has_knows}
use Rattle.archive_check.proofs.laws.known_where_well_formed.Goals as goal

pub returns : goal.returns
returns c = λ D X well no_others s has laid. has_knows D X well no_others s has laid
