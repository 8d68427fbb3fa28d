use Rattle.std.proofs.Common.{◌∙◌, ap, sym}
use Rattle.archive_check.specs.Value.{pointers}
use Rattle.archive_check.proofs.Tours.ReadingUnique.{reads_one}
use Rattle.archive_check.proofs.laws.reading_unique.Goals as goal

pub returns : goal.returns
returns c s bytes p X v w O Q h k = let same = reads_one s bytes h.reads k.reads in (same, h.holes ∙ ap pointers same ∙ sym k.holes)
