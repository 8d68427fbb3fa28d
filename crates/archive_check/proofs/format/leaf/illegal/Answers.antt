use Rattle.archive_check.proofs.format.LegalBytes.{illegal_zero}
use Rattle.archive_check.proofs.format.leaf.illegal.Goals as goal

pub returns-in_default : goal.returns-in_default
returns-in_default c = let (bytes, long, not) = c.requires in illegal_zero c.args.kind bytes long c.in_default.not-Bool c.in_default.not-Char not
