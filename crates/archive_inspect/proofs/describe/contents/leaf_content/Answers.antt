use Rattle.std.proofs.Common.{rules}
use Rattle.archive_inspect.proofs.Contents.{leaf_holds}
use Rattle.archive_inspect.proofs.describe.contents.leaf_content.Goals as goal

pub returns : goal.returns
returns c = leaf_holds c.args.form.now.schema c.args.point c.args.bytes.now c.in_ok-kind.ensures (search rules) c.in_ok-leaf.ensures
