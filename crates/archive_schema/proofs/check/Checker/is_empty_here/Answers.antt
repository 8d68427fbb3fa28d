use Rattle.std.proofs.Common.{rules, ◌+◌, ◌≤◌, arith, length}
use Rattle.archive_schema.proofs.check.HollowRecords.{last_fits}
use Rattle.archive_schema.proofs.check.TurnInvariants.{node_fits}
use Rattle.archive_schema.proofs.check.Checker.is_empty_here.Goals as goal

pub overflow_add-at : goal.overflow_add-at
overflow_add-at c =
    let f = last_fits c.requires.sound c.requires.hollow c.requires.fits in
    let h : c.args.at + c.args.parts.offset ≤ length c.args.self.now.bytes.now = omega (arith, f.fits) in search rules

pub overflow_add-at-2 : goal.overflow_add-at-2
overflow_add-at-2 c =
    let f = last_fits c.requires.sound c.requires.hollow c.requires.fits in
    let eight = (node_fits c.requires.sound c.requires.hollow.pointer_is f).0 in
    let h : c.args.at + c.args.parts.offset + 4 ≤ length c.args.self.now.bytes.now = omega (arith, f.fits, eight) in search rules

pub read_u32-requires : goal.read_u32-requires
read_u32-requires c =
    let f = last_fits c.requires.sound c.requires.hollow c.requires.fits in
    let eight = (node_fits c.requires.sound c.requires.hollow.pointer_is f).0 in
    omega (arith, f.fits, eight)
