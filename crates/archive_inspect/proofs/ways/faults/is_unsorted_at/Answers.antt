use Rattle.std.proofs.Common.{arith, rules}
use Rattle.archive_check.specs.Expressions.{shape_of, key_of}
use Rattle.archive_inspect.proofs.Refused.{key_fails}
use Rattle.archive_inspect.proofs.ways.faults.is_unsorted_at.Goals as goal

pub returns : goal.returns
returns c = λ t. key_fails c.args.form.now.schema c.args.bytes.now c.args.map (key_of c.in-Some.kinds.0) (shape_of c.in-Some.kinds.1.now) c.in-Some-checked_sub.earlier c.args.number
    c.in-Some-entry_from.first c.in-Some-entry_from-2.second c.args.position c.in-Some.ensures (omega arith) c.in-Some-entry_from.ensures c.in-Some-entry_from-2.ensures (c.is_at.ensures (search rules)) (c.is_behind_none.ensures t)
