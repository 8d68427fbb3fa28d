use Rattle.std.proofs.Common.{sym}
use Rattle.archive_write.proofs.known.mapped.MappedKeys.find.Goals as goal

pub returns-in-Some-clause-state : goal.returns-in-Some-clause-state
returns-in-Some-clause-state g c = sym (c.args.self.now.recalls c.args.key c.in-Some.number.now c.in-Some.ensures)
