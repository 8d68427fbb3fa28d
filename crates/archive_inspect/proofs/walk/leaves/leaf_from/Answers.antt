use Rattle.std.proofs.Common.{rules}
use Rattle.archive_inspect.proofs.LeafReads.{bool_below, unit_read, bool_read, char_read, number_reads, non_zero_reads, offset_reads}
use Rattle.archive_inspect.proofs.walk.leaves.leaf_from.Goals as goal

pub is_true-requires-clause-legal : goal.is_true-requires-clause-legal
is_true-requires-clause-legal c = bool_below c.args.bytes.now c.args.at (search rules) (search rules)

pub returns-in-Unit : goal.returns-in-Unit
returns-in-Unit c = unit_read c.args.bytes.now c.args.at c.args.kind (search rules) (search rules)

pub returns-in-Bool : goal.returns-in-Bool
returns-in-Bool c = bool_read c.args.bytes.now c.args.at c.args.kind (search rules) _ (search rules) (search rules) c.is_true.ensures

pub returns-in_ok-code-in-Char : goal.returns-in_ok-code-in-Char
returns-in_ok-code-in-Char c = char_read c.args.bytes.now c.args.at c.args.kind (search rules) _ (search rules) (search rules)

pub returns-in-Number : goal.returns-in-Number
returns-in-Number c = number_reads c.args.bytes.now c.args.at c.args.kind (search rules) c.in-Number.integer _ c.integer_at.ensures (search rules)

pub returns-in-NonZero : goal.returns-in-NonZero
returns-in-NonZero c = non_zero_reads c.args.bytes.now c.args.at c.args.kind (search rules) c.in-NonZero.integer _ c.integer_at-in-NonZero.ensures (search rules)

pub returns-in-RawRel : goal.returns-in-RawRel
returns-in-RawRel c = offset_reads c.args.bytes.now c.args.at c.args.kind (search rules) c.in-RawRel.integer _ c.integer_at-in-RawRel.ensures (search rules)
