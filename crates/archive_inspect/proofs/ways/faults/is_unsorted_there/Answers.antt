use Rattle.std.proofs.Common.{◌++◌, ◌∷◌, [], sym, ap, ◌∙◌, take, length, ◌+◌, ◌<◌, arith}
use Rattle.std.proofs.lemmas.List.{take_more, take_all}
use Rattle.archive_inspect.proofs.Refused.{refused_order}
use Rattle.archive_inspect.proofs.ways.faults.is_unsorted_there.Goals as goal

pub returns-in-Some-follow : goal.returns-in-Some-follow
returns-in-Some-follow c =
    let xs = c.args.steps.now in
    let n = c.in-Some.count in
    let below : n < length xs = omega arith in
    λ t. refused_order c.args.form.now.schema c.args.bytes.now c.args.root xs c.args.position (take n xs) c.in-Some-follow.map c.in-Key.number c.in-Some-follow.ensures (c.is_unsorted_at.ensures t)
    (sym (take_all (n + 1) xs (omega arith)) ∙ take_more xs n _ below ∙ ap (λ x. take n xs ++ x ∷ []) c.in-Key.is)
