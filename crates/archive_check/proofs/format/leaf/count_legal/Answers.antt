use Rattle.std.proofs.Common.{◌∙◌}
use Rattle.archive_check.proofs.format.LegalBytes.{any_legal}
use Rattle.archive_check.proofs.format.leaf.count_legal.Goals as goal

pub returns-in-Unit-clause-legal : goal.returns-in-Unit-clause-legal
returns-in-Unit-clause-legal c = any_legal c.args.kind c.args.bytes.now c.args.at c.args.step c.args.count (c.if-step-size.false ∙ c.size.ensures) c.requires c.in-Unit.is
