use Rattle.std.proofs.Common.{rules}
use Rattle.archive_inspect.proofs.Contents.{tag_holds}
use Rattle.archive_inspect.proofs.describe.contents.tag_content.Goals as goal

pub returns : goal.returns
returns c = tag_holds c.args.form.now.schema c.args.point c.args.bytes.now c.in_ok-choice.ensures (search rules) c.in_ok-_parts.ensures.found
