use Rattle.std.proofs.Common.{◌<◌, arith, length, subst, sym, Contains}
use Rattle.std.proofs.lemmas.List.Elements.{Contains-get_or}
use Rattle.archive_inspect.proofs.describe.told.is_told.Goals as goal

pub returns : goal.returns
returns c = λ t.
    let xs = c.args.pieces.now in
    let i = c.partition_point-number.result in
    let x = c.index-pieces-number.result in
    let below : i < length xs = omega arith in
    (x, subst (Contains xs) (sym c.index-pieces-number.is) (Contains-get_or xs i x below), c.tells.ensures t)
