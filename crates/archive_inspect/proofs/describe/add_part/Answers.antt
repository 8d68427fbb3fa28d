use Rattle.std.proofs.lemmas.List.Elements.{All-push, All-same}
use Rattle.archive_inspect.specs.Described.{IsPiece}
use Rattle.archive_inspect.proofs.describe.add_part.Goals as goal

pub returns : goal.returns
returns c = λ root all reached.
    All-same (IsPiece c.args.form.now.schema c.args.bytes.now root) _ _ c.in_ok-push.ensures.items
    (All-push (IsPiece c.args.form.now.schema c.args.bytes.now root) c.args.parts.now.items c.in-Some.part all (c.in-Some.ensures root reached))
