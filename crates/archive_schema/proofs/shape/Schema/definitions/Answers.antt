use Rattle.std.proofs.Common.{ap, sym, ◌∙◌}
use Rattle.archive_check.specs.Expressions.{entries_of}
use Rattle.archive_schema.proofs.SchemaDefinitions.{listed_in}
use Rattle.archive_schema.proofs.shape.Schema.definitions.Goals as goal

pub returns : goal.returns
returns c = ap entries_of c.deref.ensures.value ∙ sym (listed_in c.args.self.now)
