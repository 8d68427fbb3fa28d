use Rattle.std.proofs.Common.{rules, ◌≡◌, length, arith}
use Rattle.std.proofs.lemmas.Bool.Decides.{nat_tests}
use Rattle.archive_inspect.proofs.Refused.{refused_root}
use Rattle.archive_inspect.proofs.ways.faults.is_refused_by.Goals as goal

pub returns-in-UnsortedKeys : goal.returns-in-UnsortedKeys
returns-in-UnsortedKeys c = λ t. rw c.in-UnsortedKeys.is (c.is_unsorted_there.ensures t)

pub returns-then-is_root_refused : goal.returns-then-is_root_refused
returns-then-is_root_refused c = λ t.
    let empty : length c.args.steps.now ≡ 0 = grind (arith, nat_tests) in
    refused_root c.args.form.now.schema c.args.bytes.now c.args.root c.args.steps.now c.args.position c.args.refusal (c.is_at.ensures (search rules)) empty (c.is_root_refused.ensures (search rules))
