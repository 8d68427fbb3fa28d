use Rattle.archive_check.specs.Expressions.{integer_of}
use Rattle.archive_check.proofs.format.LegalBytes.{legal_non_zero}
use Rattle.archive_check.proofs.format.leaf.is_legal_at_once.Goals as goal

pub returns-in-NonZero : goal.returns-in-NonZero
returns-in-NonZero c =
    let integer = integer_of c.in-NonZero.field-0 in
    let size = rw c.in-NonZero.is at c.requires.size in
    let room = rw size at c.requires.fits in
    rw c.in-NonZero.is (λ some. (legal_non_zero integer.0 integer.1 c.args.bytes.now c.args.at c.args.size size room).0 (c.has_bits_at_once.ensures some))
