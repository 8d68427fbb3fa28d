use Rattle.archive_check.specs.Definitions.{no_definition}
use Rattle.archive_types.proofs.Comparing.ComparedValues.{string_equals}
use Rattle.archive_types.proofs.compare.native.Ref+ArchivedString.eq_str.Goals as goal

pub returns-clause-by_value : goal.returns-clause-by_value
returns-clause-by_value c = string_equals no_definition c.args.self.bytes.now c.args.self.pos c.args.self.len c.args.text.now c.eq.result (rw c.as_str.ensures.text at c.eq.ensures)
