use Rattle.std.proofs.Common.{arith}
use Rattle.archive_write.proofs.Padding.{padding_by_rest}
use Rattle.archive_write.proofs.ser.extension.zeros_due.Goals as goal

pub returns-clause-due : goal.returns-clause-due
returns-clause-due c = padding_by_rest c.args.pos c.args.align (omega (arith, c.requires))
