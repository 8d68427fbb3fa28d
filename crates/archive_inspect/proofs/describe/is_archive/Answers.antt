use Rattle.std.proofs.Common.{rules}
use Rattle.archive_inspect.proofs.Described.{accepted_whole}
use Rattle.archive_inspect.proofs.describe.is_archive.Goals as goal

pub returns-in-Ok : goal.returns-in-Ok
returns-in-Ok c = λ t. accepted_whole c.args.form.now.schema c.args.bytes.now c.check_archive-answer.result _ (search rules) (rw c.schema.ensures at c.check_archive-answer.ensures)
