use Rattle.std.proofs.Common.{IsTrue}
use Rattle.archive_check.specs.Expressions.{kind_of}
use Rattle.archive_check.specs.Words.LegalRuns.{AreLegal}
use Rattle.archive_check.proofs.format.leaf.is_legal_block.Given as goal

abbrev pub invariant-loop-index : goal.invariant-loop-index
invariant-loop-index l = IsTrue l.all → AreLegal (kind_of l.kind) l.bytes l.at l.size l.index
