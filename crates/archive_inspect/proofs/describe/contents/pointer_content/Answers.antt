use Rattle.archive_inspect.proofs.Contents.{pointer_holds}
use Rattle.archive_inspect.proofs.describe.contents.pointer_content.Goals as goal

pub returns : goal.returns
returns c = pointer_holds c.args.form.now.schema c.args.point c.args.bytes.now c.in_ok-pointer.ensures c.in_ok-region.ensures c.in_ok-size.ensures
