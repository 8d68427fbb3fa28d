use Rattle.archive_check.proofs.Meanings.NamesReached.{names_known}
use Rattle.archive_check.proofs.laws.names_known.Goals as goal

pub returns : goal.returns
returns c s bytes root X m h t l = names_known s bytes h t l
