use Rattle.std.proofs.Common.{rules, ◌≡◌, ◌+◌, ◌-◌, ◌≤◌, arith, sym, ◌∙◌, length, slice_index_or}
use Rattle.archive_check.proofs.Elements.{at_default}
use Rattle.archive_schema.proofs.check.LegalParts.{part_fits}
use Rattle.archive_schema.proofs.check.AtOnce.{part_marked, alone}
use Rattle.archive_schema.proofs.check.Checker.check_alone.Goals as goal

pub overflow_add-at : goal.overflow_add-at
overflow_add-at g c =
    let m = c.args.self.now in
    let x = c.args.variant in
    let one : x.last - x.first ≡ 1 = sym c.saturating_sub.ensures ∙ c.if-saturating_sub-eq1.true in
    let y = slice_index_or m.parts.now x.first (record { offset = 0; node = 0 }) in
    let at = at_default m.parts.now x.first (record { offset = 0; node = 0 }) (omega (arith, one, c.requires.fits.last)) in
    let part = part_fits m c.args.at x.first x.last x.first y c.requires.fits (omega arith) (omega (arith, one)) at in
    let h : c.args.at + y.offset ≤ length m.bytes.now = omega (arith, part.fits) in search rules

pub check_single-requires-clause-shallow : goal.check_single-requires-clause-shallow
check_single-requires-clause-shallow g c =
    let m = c.args.self.now in
    let x = c.args.variant in
    let one : x.last - x.first ≡ 1 = sym c.saturating_sub.ensures ∙ c.if-saturating_sub-eq1.true in
    let y = slice_index_or m.parts.now x.first (record { offset = 0; node = 0 }) in
    let at = at_default m.parts.now x.first (record { offset = 0; node = 0 }) (omega (arith, one, c.requires.fits.last)) in
    let mark = part_marked m.shallow.now m.parts.now x.last 0 x.first x.first y (omega arith) (omega (arith, one)) c.requires.fits.last c.requires.shallow at in
    λ z here. c.requires.plan.marked.shallow y.node z here mark

pub check_single-requires-clause-fits : goal.check_single-requires-clause-fits
check_single-requires-clause-fits g c =
    let m = c.args.self.now in
    let x = c.args.variant in
    let one : x.last - x.first ≡ 1 = sym c.saturating_sub.ensures ∙ c.if-saturating_sub-eq1.true in
    let y = slice_index_or m.parts.now x.first (record { offset = 0; node = 0 }) in
    let at = at_default m.parts.now x.first (record { offset = 0; node = 0 }) (omega (arith, one, c.requires.fits.last)) in
    part_fits m c.args.at x.first x.last x.first y c.requires.fits (omega arith) (omega (arith, one)) at

pub returns-then-saturating_sub-eq1-clause-passes : goal.returns-then-saturating_sub-eq1-clause-passes
returns-then-saturating_sub-eq1-clause-passes g c =
    let m = c.args.self.now in
    let x = c.args.variant in
    let one : x.last - x.first ≡ 1 = sym c.saturating_sub.ensures ∙ c.if-saturating_sub-eq1.true in
    alone one (at_default m.parts.now x.first (record { offset = 0; node = 0 }) (omega (arith, one, c.requires.fits.last))) c.check_single.ensures.passes
