use Rattle.std.proofs.Common.{◌≡◌, arith, inr, pos, to_z}
use Rattle.std.proofs.lemmas.Int.{to_z_pos}
use mir.Syntax.{w128}
use Rattle.archive_check.proofs.SelfCheck.Orders.{ordered_well}
use Rattle.archive_check.proofs.SelfCheck.Roots.{goes_levels, whole_archive, whole_refusal, whole_exact}
use Rattle.archive_check.proofs.self_check.roots.check_root.Goals as goal

pub returns-in-Some-clause-accepted : goal.returns-in-Some-clause-accepted
returns-in-Some-clause-accepted g c d =
    let at : to_z w128 c.args.pos ≡ pos c.args.pos = to_z_pos w128 c.args.pos (omega (arith, c.ranges.pos.fits)) in
    let X = g.T.Portable.shape in
    let D = g.T.ArchivePointee.definitions in
    let well = ordered_well D X (g.met.T.Portable.checks d).order (g.met.T.Portable.checks d).ordered g.met.T.Portable.no_others in
    whole_archive D X c.args.bytes.now c.args.pos (g.C.Context.state c.args.context.now) (g.C.Context.positions c.args.context.now) well g.met.T.Portable.no_others (g.C.Context.state c.check_one.new.context) (rw at at c.in-Some.ensures.through)

pub returns-in-Some-clause-meaning : goal.returns-in-Some-clause-meaning
returns-in-Some-clause-meaning g c d = ordered_well _ _ (g.met.T.Portable.checks d).order (g.met.T.Portable.checks d).ordered g.met.T.Portable.no_others

pub returns-in-None-clause-meaning : goal.returns-in-None-clause-meaning
returns-in-None-clause-meaning g c d = ordered_well _ _ (g.met.T.Portable.checks d).order (g.met.T.Portable.checks d).ordered g.met.T.Portable.no_others

pub returns-in-None-clause-exact : goal.returns-in-None-clause-exact
returns-in-None-clause-exact g c d =
    let at : to_z w128 c.args.pos ≡ pos c.args.pos = to_z_pos w128 c.args.pos (omega (arith, c.ranges.pos.fits)) in
    let X = g.T.Portable.shape in
    let D = g.T.ArchivePointee.definitions in
    let well = ordered_well D X (g.met.T.Portable.checks d).order (g.met.T.Portable.checks d).ordered g.met.T.Portable.no_others in
    whole_exact D X c.args.bytes.now c.args.pos (g.C.Context.state c.args.context.now) (g.C.Context.positions c.args.context.now) well c.check_one.new.refusal (omega (arith, c.if-prove.false)) (rw at at (c.in-None.ensures.stops d))

pub returns-in-None-clause-refused : goal.returns-in-None-clause-refused
returns-in-None-clause-refused g c d =
    let at : to_z w128 c.args.pos ≡ pos c.args.pos = to_z_pos w128 c.args.pos (omega (arith, c.ranges.pos.fits)) in
    let X = g.T.Portable.shape in
    let D = g.T.ArchivePointee.definitions in
    let well = ordered_well D X (g.met.T.Portable.checks d).order (g.met.T.Portable.checks d).ordered g.met.T.Portable.no_others in
    whole_refusal D X c.args.bytes.now c.args.pos (g.C.Context.state c.args.context.now) (g.C.Context.positions c.args.context.now) well c.check_one.new.refusal (rw at at (c.in-None.ensures.stops d))

pub returns-in-Some-clause-levels : goal.returns-in-Some-clause-levels
returns-in-Some-clause-levels g c = goes_levels _ _ (g.C.Context.state c.args.context.now) (g.C.Context.state c.check_one.new.context) c.in-Some.ensures.through

pub returns-in-None-clause-of_check : goal.returns-in-None-clause-of_check
returns-in-None-clause-of_check g c d some = let f = c.in-None.ensures.stops d some in inr (f.0, f.1)
