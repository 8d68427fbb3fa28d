use Rattle.std.proofs.Common.{sym, ◌∙◌, length, arith}
use Rattle.archive_check.proofs.SelfCheck.Laws.{span_fits, checked_goes, checked_halts}
use Rattle.archive_check.proofs.self_check.values.check_value.Goals as goal

pub check_at-requires-clause-fits : goal.check_at-requires-clause-fits
check_at-requires-clause-fits g c = span_fits _ _ _ _ _ _ (g.met.T.Portable.checks (sym c.is_direct.ensures ∙ c.if-not-is_direct.false)) c.args.at (length c.args.bytes.now) c.requires.fits

pub returns-clause-through : goal.returns-clause-through
returns-clause-through g c = checked_goes _ _ _ _ _ _ (g.met.T.Portable.checks (sym c.is_direct.ensures ∙ c.if-not-is_direct.false)) c.args.bytes.now c.args.at (g.C.Context.state c.args.context.now) (g.C.Context.state c.check_at.new.context) c.check_at.result c.check_at.ensures.through

pub returns-clause-stops : goal.returns-clause-stops
returns-clause-stops g c d = checked_halts _ _ _ _ _ _ (g.met.T.Portable.checks d) c.args.bytes.now c.args.at (g.C.Context.state c.args.context.now) c.check_at.new.refusal c.check_at.result (c.check_at.ensures.stops d)

pub returns-clause-spends : goal.returns-clause-spends
returns-clause-spends g c =
    let few = span_fits _ _ _ _ _ _ (g.met.T.Portable.checks (sym c.is_direct.ensures ∙ c.if-not-is_direct.false)) 0 g.T.Portable.layout.size (omega arith) in
    omega (arith, c.check_at.ensures.spends, few)
