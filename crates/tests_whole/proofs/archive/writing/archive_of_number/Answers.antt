use Rattle.std.proofs.Common.{inl, inr, arith}
use Rattle.archive_core.proofs.Causes.{err_from}
use Rattle.archive_core.proofs.Unhindered.{number_unhindered}
use Rattle.tests_whole.proofs.archive.writing.archive_of_number.Goals as goal

pub returns : goal.returns
returns c = err_from c.to_bytes.result c.to_bytes.ensures.refused (λ e h. elim h [ inl x ↦ x | inr y ↦ absurd (number_unhindered c.args.number e (omega (arith, c.ranges.number)) y) ])
