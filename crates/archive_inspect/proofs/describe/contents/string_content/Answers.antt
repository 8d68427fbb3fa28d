use Rattle.std.proofs.Common.{rules, ◌∙◌}
use Rattle.archive_inspect.proofs.Contents.{string_holds}
use Rattle.archive_inspect.proofs.describe.contents.string_content.Goals as goal

pub returns : goal.returns
returns c = string_holds c.args.form.now.schema c.args.point c.args.bytes.now (c.is_string.ensures (search rules)) (search rules) (c.in_ok-text.ensures ∙ c.inline_length.ensures.text)
