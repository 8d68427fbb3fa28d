use Rattle.std.proofs.lemmas.List.Elements.{All-push, All-same}
use Rattle.archive_inspect.specs.Described.{IsReached}
use Rattle.archive_inspect.proofs.describe.keep_holder.Goals as goal

pub returns-in_ok-push : goal.returns-in_ok-push
returns-in_ok-push c = λ f bytes root all here. All-same (IsReached f bytes root) _ _ c.in_ok-push.ensures.items (All-push (IsReached f bytes root) c.args.holders.now.items c.args.point all here)
