use Rattle.std.proofs.Common.{◌≡◌, ◌+◌, ◌≤◌, ◌-◌, arith, rules, slice_index_or, length}
use Rattle.archive_check.proofs.Elements.{at_default}
use Rattle.archive_schema.specs.declared.check.worklist.Work.TheVariants.{Parts}
use Rattle.archive_schema.specs.check.Lists.{list_of}
use Rattle.archive_schema.specs.check.Paid.{bytes_of_parts, PaysFrom}
use Rattle.archive_schema.proofs.check.LegalParts.{part_fits}
use Rattle.archive_schema.proofs.check.Paid.{pays_more, parts_next_is, parts_few_from}
use Rattle.archive_schema.proofs.check.TurnExits.{turn_taken, opens_no_part, part_next}
use Rattle.archive_schema.proofs.check.Checker.next_part.Goals as goal

pub returns-then-next-last-clause-turn : goal.returns-then-next-last-clause-turn
returns-then-next-last-clause-turn g c =
    opens_no_part c.requires.ready c.first_to_open-next.ensures.skipped c.first_to_open-next.ensures.below c.if-next-last.true

pub overflow_add-result : goal.overflow_add-result
overflow_add-result g c =
    let m = c.args.self.now in
    let k = c.first_to_open-next.result in
    let x = slice_index_or m.parts.now k (record { offset = 0; node = 0 }) in
    let at = at_default m.parts.now k (record { offset = 0; node = 0 }) (omega (arith, c.requires.ready.fits.0.last, c.if-next-last.false)) in
    let f = part_fits m c.args.base c.args.first c.args.last k x c.requires.ready.fits.0 (c.first_to_open-next.ensures.above c.if-next-last.false) c.if-next-last.false at in
    let h : c.args.base + x.offset ≤ length m.bytes.now = omega (arith, f.fits) in search rules

pub returns-clause-turn : goal.returns-clause-turn
returns-clause-turn g c =
    let m = c.args.self.now in
    let k = c.first_to_open-next.result in
    let at = at_default m.parts.now k (record { offset = 0; node = 0 }) (omega (arith, c.requires.ready.fits.0.last, c.if-next-last.false)) in
    turn_taken (part_next c.requires.ready c.first_to_open-next.ensures.skipped (c.first_to_open-next.ensures.above c.if-next-last.false) c.if-next-last.false at c.in_ok-more_parts.ensures.some)

-- what is paid for regions

pub returns-clause-pays : goal.returns-clause-pays
returns-clause-pays g c =
    let m = c.args.self.now in
    let k = c.first_to_open-next.result in
    let s = g.C.Context.state c.args._context.now in
    let last = c.requires.ready.fits.0.last in
    let at = at_default m.parts.now k (record { offset = 0; node = 0 }) (omega (arith, last, c.if-next-last.false)) in
    let from = c.first_to_open-next.ensures.above c.if-next-last.false in
    let next = parts_next_is m k c.args.last _ c.if-next-last.false last at in
    let there : c.args.first + (k - c.args.first) ≡ k = omega (arith, from) in
    let few : bytes_of_parts m k c.args.last ≤ bytes_of_parts m c.args.first c.args.last = rw there at (parts_few_from m (k - c.args.first) c.args.first c.args.last (omega (arith, from, c.if-next-last.false)) last) in
    let more : PaysFrom m (bytes_of_parts m (k + 1) c.args.last) s (list_of c.args.work.now) s (list_of c.more_parts.new.self) = pays_more m s (list_of c.args.work.now) (list_of c.more_parts.new.self) (Parts (k + 1) c.args.last c.args.base) c.in_ok-more_parts.ensures.some in
    omega (arith, next, few, more)
