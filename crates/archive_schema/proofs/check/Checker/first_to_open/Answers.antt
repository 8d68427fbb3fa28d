use Rattle.std.proofs.Common.{rules, ◌+◌, ◌≤◌, arith, length, slice_index_or}
use Rattle.archive_check.proofs.Checks.TestedAnswers.{is_true, not_true}
use Rattle.archive_check.proofs.Elements.{at_default, same_at}
use Rattle.archive_schema.proofs.check.LegalParts.{part_fits, stays_more}
use Rattle.archive_schema.proofs.check.Checker.first_to_open.Goals as goal

pub overflow_add-base : goal.overflow_add-base
overflow_add-base c =
    let m = c.args.self.now in
    let x = slice_index_or m.parts.now c.loop-index.index (record { offset = 0; node = 0 }) in
    let at = at_default m.parts.now c.loop-index.index (record { offset = 0; node = 0 }) (omega (arith, c.requires.fits.last)) in
    let f = part_fits m c.args.base c.args.first c.args.last c.loop-index.index x c.requires.fits c.loop-index.auto.index c.loop-index-test.true at in
    let h : c.args.base + x.offset ≤ length m.bytes.now = omega (arith, f.fits) in search rules

pub is_legal_here-requires-clause-fits : goal.is_legal_here-requires-clause-fits
is_legal_here-requires-clause-fits c =
    let m = c.args.self.now in
    let x = slice_index_or m.parts.now c.loop-index.index (record { offset = 0; node = 0 }) in
    let at = at_default m.parts.now c.loop-index.index (record { offset = 0; node = 0 }) (omega (arith, c.requires.fits.last)) in
    part_fits m c.args.base c.args.first c.args.last c.loop-index.index x c.requires.fits c.loop-index.auto.index c.loop-index-test.true at

pub loop-index-preserved : goal.loop-index-preserved
loop-index-preserved c =
    let m = c.args.self.now in
    let x = slice_index_or m.parts.now c.loop-index.index (record { offset = 0; node = 0 }) in
    let at = at_default m.parts.now c.loop-index.index (record { offset = 0; node = 0 }) (omega (arith, c.requires.fits.last)) in
    stays_more m c.args.base c.args.first c.loop-index.index c.loop-index.invariant (record { part = x; at = at; stays = c.is_legal_here.ensures.legal (is_true c.is_legal_here.result c.if-not-is_legal_here.false) })

pub returns-then-not-is_legal_here-clause-opened : goal.returns-then-not-is_legal_here-clause-opened
returns-then-not-is_legal_here-clause-opened c =
    let m = c.args.self.now in
    let at = at_default m.parts.now c.loop-index.index (record { offset = 0; node = 0 }) (omega (arith, c.requires.fits.last)) in
    λ x lt is legal. let same = same_at is at in not_true c.is_legal_here.result c.if-not-is_legal_here.true (c.is_legal_here.ensures.opened (rw same at legal))
