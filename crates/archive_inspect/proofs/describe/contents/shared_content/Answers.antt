use Rattle.std.proofs.Common.{ap, option_map}
use Rattle.archive_check.specs.Expressions.{flavor_of}
use Rattle.archive_inspect.proofs.Contents.{again_holds}
use Rattle.archive_inspect.proofs.describe.contents.shared_content.Goals as goal

pub returns : goal.returns
returns c = again_holds c.args.form.now.schema c.args.point c.args.bytes.now c.in_ok-pointer.ensures (ap (option_map flavor_of) c.in_ok-_flavor.was) c.in_ok-region.ensures c.in_ok-size.ensures
