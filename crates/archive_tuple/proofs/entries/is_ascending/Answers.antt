use Rattle.std.proofs.Common.{◌≤◌, ◌+◌, length, arith, sym, ◌∙◌}
use Rattle.archive_tuple.proofs.Ascending.{last_ascends}
use Rattle.archive_tuple.proofs.entries.is_ascending.Goals as goal

pub returns : goal.returns
returns g c =
    let few : length c.args.entries.now ≤ c.loop-index.index + 1 = omega (arith, c.loop-index-test.false, c.in-Some.ensures) in
    sym (c.loop-index.invariant ∙ last_ascends g.K.Ord.cmp c.args.entries.now c.loop-index.index few)
