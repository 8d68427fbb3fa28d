use Rattle.std.proofs.Common.{rules}
use Rattle.archive_inspect.proofs.Contents.{null_holds}
use Rattle.archive_inspect.proofs.describe.contents.null_content.Goals as goal

pub returns : goal.returns
returns c = null_holds c.args.form.now.schema c.args.point c.args.bytes.now c.in_ok-_weak.ensures (search rules) c.in_ok-size.ensures
