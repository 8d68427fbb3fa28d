use Rattle.archive_types.proofs.Viewing.Shown.{number_says}
use Rattle.archive_types.proofs.view.Ref+LittleEndian+N.get.Goals as goal

pub returns-clause-says : goal.returns-clause-says
returns-clause-says g c =
    number_says g.N.Native.value_of g.N.Native.number_of _ _ _ c.args.self.len g.N.Native.byte_count g.N.Native.kind _ g.met.N.Native.size_law g.met.N.Native.value_law
    (rw (c.part.ensures.buffer, c.part.ensures.position) at c.read_leaf.ensures)
