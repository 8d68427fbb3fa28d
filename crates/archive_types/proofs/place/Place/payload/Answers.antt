use Rattle.std.proofs.Common.{◌≡◌, ◌+◌, ◌-◌, arith, refl}
use Rattle.archive_check.specs.Reads.{bytes_at}
use Rattle.archive_types.proofs.place.Place.payload.Goals as goal

pub returns-clause-buffer : goal.returns-clause-buffer
unfolding bytes_at
returns-clause-buffer g c =
    let inside = g.met.T.Variants.PortableVariants.within c.args.tag c.args.i in
    let holds = g.met.T.Choice.holds in
    let begin : c.offset-begin.result ≡ g.T.Variants.PortableVariants.begin c.args.tag c.args.i = omega (arith, c.offset-begin.ensures, inside, holds, c.requires.size, c.requires.sized, c.requires.ends) in
    let size : c.size.result ≡ g.U.Portable.layout.size = omega (arith, c.size.ensures, inside, holds, c.requires.size, c.requires.sized, c.requires.ends) in
    let count : c.offset-begin.result + c.size.result - c.offset-begin.result ≡ c.size.result = omega arith in
    rw (c.new.ensures.buffer, count, begin, size) refl
