use Rattle.std.proofs.Common.{refl}
use Rattle.archive_types.proofs.Writing.Resolving.{resolves_number}
use Rattle.archive_types.proofs.primitive.write_leaf.Goals as goal

pub returns-clause-resolved : goal.returns-clause-resolved
returns-clause-resolved g c = λ D p.
    resolves_number g.N.Native.value_of g.N.Native.number_of g.N.Native.bytes_of g.N.Native.kind _ D p c.write_to.new.out c.args.value
    g.met.N.Native.value_law (g.met.N.Native.number_law c.args.value c.write_to.ensures.fits) (g.met.N.Native.leaf_law c.args.value c.write_to.ensures.fits) refl c.write_to.ensures.bytes

pub returns-clause-legal : goal.returns-clause-legal
returns-clause-legal g c = g.met.N.Native.leaf_law c.args.value c.write_to.ensures.fits

pub returns-clause-back : goal.returns-clause-back
returns-clause-back g c = g.met.N.Native.number_law c.args.value c.write_to.ensures.fits
