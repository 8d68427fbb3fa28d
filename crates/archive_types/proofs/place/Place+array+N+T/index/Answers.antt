use Rattle.std.proofs.Common.{◌≡◌, ◌+◌, ◌-◌, ◌*◌, ◌≤◌, arith, refl}
use Rattle.std.proofs.Math.Nat.{mul-le-mul_right}
use Rattle.archive_check.specs.Reads.{bytes_at}
use Rattle.archive_types.proofs.place.Place+array+N+T.index.Goals as goal

pub returns-clause-buffer : goal.returns-clause-buffer
unfolding bytes_at
returns-clause-buffer g c =
    let z = g.T.Portable.layout.size in
    let k = c.args.index in
    let more : (k + 1) * z ≤ g.row.N * z = mul-le-mul_right z (omega (arith, c.requires.in_bounds)) in
    let size : c.size.result ≡ z = omega (arith, c.size.ensures, more, c.requires.ends) in
    let again : c.size-2.result ≡ z = omega (arith, c.size-2.ensures, more, c.requires.ends) in
    let count : k * z + z - k * z ≡ z = omega arith in
    rw (c.new.ensures.buffer, size, again, count) refl
