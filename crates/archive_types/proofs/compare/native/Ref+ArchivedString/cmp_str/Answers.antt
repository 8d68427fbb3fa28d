use Rattle.archive_check.specs.Definitions.{no_definition}
use Rattle.archive_types.proofs.Comparing.ComparedValues.{string_compares}
use Rattle.archive_types.proofs.compare.native.Ref+ArchivedString.cmp_str.Goals as goal

pub returns-clause-by_value : goal.returns-clause-by_value
returns-clause-by_value c = string_compares no_definition c.args.self.bytes.now c.args.self.pos c.args.self.len c.args.text.now c.text_order.result (rw c.as_str.ensures.text at c.text_order.ensures)
