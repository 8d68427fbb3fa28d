use Rattle.std.proofs.Common.{◌≡◌, ◌∙◌, w64, to_z-of_z}
use Rattle.archive_types.proofs.Writing.Pointers.{number_is_offset}
use Rattle.archive_types.proofs.rel_ptr.raw.write_offset.Goals as goal

pub returns-in-Ok : goal.returns-in-Ok
returns-in-Ok g c =
    let number = c.in-Ok.number in
    let fits = c.write_to.ensures.fits in
    let offset = number_is_offset g.N.Native.value_of g.N.Native.number_of number (g.N.Native.bytes_of number) g.N.Integer.sign g.N.Integer.width g.N.Native.kind g.met.N.Integer.integer_law
    (g.met.N.Native.bytes_law number) (g.met.N.Native.leaf_law number fits) (g.met.N.Native.number_law number fits) g.met.N.Native.value_law in
    let value : g.N.Native.value_of number ≡ c.args.distance = c.in-Ok.ensures ∙ to_z-of_z c.ranges.distance in
    rw (← value) (offset.fits, c.write_to.ensures.bytes ∙ offset.bytes)
