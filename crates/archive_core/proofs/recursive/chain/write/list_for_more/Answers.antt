use Rattle.std.proofs.Common.{◌≡◌, ◌++◌, ◌∷◌, [], arith}
use Rattle.std.proofs.lemmas.Grind.{common_steps}
use Rattle.archive_core.proofs.recursive.ChainsWritten.{in_lists_full}
use Rattle.archive_core.proofs.recursive.chain.write.list_for_more.Goals as goal

pub returns : goal.returns
returns g c =
    let pushed : c.push.new.self.items ≡ c.args.full.now.items ++ c.args.list ∷ [] = grind (arith, common_steps) in
    rw (pushed, c.new.ensures.items) (in_lists_full c.args.full.now.items c.args.list)
