use Rattle.archive_check.proofs.format.BytesAt.{ascii_ends}
use Rattle.archive_check.proofs.format.bytes.are_ends_ascii.Goals as goal

pub returns-then-are_ascii : goal.returns-then-are_ascii
returns-then-are_ascii g c last =
    ascii_ends c.args.bytes.now c.args.p c.args.n g.row.N c.requires.meet.0 c.requires.meet.1 c.requires.fits (c.are_ascii.ensures c.if-are_ascii.true) (c.are_ascii-then-are_ascii.ensures last)
