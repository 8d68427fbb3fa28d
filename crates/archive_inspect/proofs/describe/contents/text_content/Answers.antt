use Rattle.std.proofs.Common.{rules}
use Rattle.archive_inspect.proofs.Contents.{text_holds}
use Rattle.archive_inspect.proofs.describe.contents.text_content.Goals as goal

pub returns : goal.returns
returns c = text_holds c.args.form.now.schema c.args.point c.args.bytes.now (search rules) c.in_ok-text.ensures
