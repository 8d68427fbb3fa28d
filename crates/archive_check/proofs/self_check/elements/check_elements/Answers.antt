use Rattle.std.proofs.Common.{◌≡◌, ◌+◌, ◌*◌, ◌<◌, ◌≤◌, ℕ, zero, suc, min, arith, refl, ◌∙◌, length}
use Rattle.archive_check.proofs.SelfCheck.Elements.{toward_element, element_halts, elements_gone, toward_good}
use Rattle.archive_check.proofs.SelfCheck.Spent.{next_spends, fewer_spend}
use Rattle.archive_check.proofs.self_check.elements.check_elements.Goals as goal

-- an element that lies in bytes has its size
its_own : (z n k len at w : ℕ) → k < n → at + n * z ≤ len → len ≤ 18446744073709551615 → w ≡ min z 18446744073709551615 → w ≡ z
its_own z zero k len at w lt fits small e = absurd (omega arith)
its_own z (suc n) k len at w lt fits small e = let more : suc n * z ≡ z + n * z = omega arith in omega arith

pub loop-index-init : goal.loop-index-init
loop-index-init g c = (
  refl,
  toward_good g.T.ArchivePointee.definitions g.T.Portable.shape g.T.Portable.layout g.met.T.Portable.has_layout c.args.bytes.now c.args.at c.args.count c.size-size.result (g.C.Context.state c.args.context.now) c.count_good-good.result c.count_good-good.ensures.few
      (λ some. its_own g.T.Portable.layout.size c.args.count 0 (length c.args.bytes.now) c.args.at c.size-size.result some c.requires.fits (omega (arith, c.if-prove.false)) c.size-size.ensures) c.count_good-good.ensures.good,
  omega (arith, fewer_spend g.T.Portable.layout.size c.args.count c.count_good-good.result),
)

pub returns-in_err-check_value-clause-stops : goal.returns-in_err-check_value-clause-stops
returns-in_err-check_value-clause-stops g c d =
    rw c.from_residual.ensures (element_halts g.T.ArchivePointee.definitions g.T.Portable.shape g.T.Portable.layout g.met.T.Portable.has_layout c.args.bytes.now c.args.at c.args.count c.size-size.result (g.C.Context.state c.args.context.now) (g.C.Context.state c.loop-index.context) c.loop-index.index c.loop-index-test.true c.loop-index.invariant.1 c.check_value.new.refusal (c.in_err-check_value.ensures.stops d))

pub loop-index-preserved : goal.loop-index-preserved
loop-index-preserved g c = (
  c.in_ok-check_value.ensures.positions ∙ c.loop-index.invariant.0,
  toward_element g.T.ArchivePointee.definitions g.T.Portable.shape g.T.Portable.layout g.met.T.Portable.has_layout c.args.bytes.now c.args.at c.args.count c.size-size.result (g.C.Context.state c.args.context.now) (g.C.Context.state c.loop-index.context) c.loop-index.index c.loop-index-test.true c.loop-index.invariant.1 (g.C.Context.state c.check_value.new.context)
      (its_own g.T.Portable.layout.size c.args.count c.loop-index.index (length c.args.bytes.now) c.args.at c.size-size.result c.loop-index-test.true c.requires.fits (omega (arith, c.if-prove.false)) c.size-size.ensures) c.in_ok-check_value.ensures.through,
  omega (arith, c.in_ok-check_value.ensures.spends, c.loop-index.invariant.2, next_spends g.T.Portable.layout.size c.args.count c.loop-index.index c.loop-index-test.true),
)

pub returns-clause-through : goal.returns-clause-through
returns-clause-through g c = elements_gone g.T.ArchivePointee.definitions g.T.Portable.shape c.args.bytes.now c.args.at c.args.count c.size-size.result (g.C.Context.state c.args.context.now) (g.C.Context.state c.loop-index.context) c.loop-index.index (omega (arith, c.loop-index-test.false)) c.loop-index.invariant.1

pub returns-in_err-check_value-clause-spends : goal.returns-in_err-check_value-clause-spends
returns-in_err-check_value-clause-spends g c =
    omega (arith, c.in_err-check_value.ensures.spends, c.loop-index.invariant.2, next_spends g.T.Portable.layout.size c.args.count c.loop-index.index c.loop-index-test.true)

pub returns-clause-spends : goal.returns-clause-spends
returns-clause-spends g c = omega (arith, c.loop-index.invariant.2)
