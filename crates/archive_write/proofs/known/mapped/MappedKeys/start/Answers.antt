use Rattle.std.proofs.Common.{BuildHasherDefault, FoldHasher}
use Rattle.archive_write.proofs.FinishedKeys.{finished_inserted}
use Rattle.archive_write.proofs.known.mapped.MappedKeys.start.Goals as goal

pub invariant_of-self : goal.invariant_of-self
invariant_of-self g c =
    record { recalls = finished_inserted {S = BuildHasherDefault FoldHasher} c.args.self.now.repeats.slots c.args.self.now.states c.insert.new.self c.args.key _ c.requires c.insert.ensures.updates c.insert.ensures.err c.args.self.now.recalls }
