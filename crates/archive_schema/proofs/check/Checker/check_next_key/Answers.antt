use Rattle.archive_check.proofs.Checks.TestedAnswers.{not_true, is_true}
use Rattle.archive_schema.proofs.check.KeysAtOnce.{order_stopped, order_refused, order_passed}
use Rattle.archive_schema.proofs.check.Checker.check_next_key.Goals as goal

pub returns-in_err-check_key-clause-passes : goal.returns-in_err-check_key-clause-passes
returns-in_err-check_key-clause-passes g c = rw c.from_residual.ensures (order_stopped c.in_err-check_key.ensures.passes)

pub returns-then-not-comes_behind-clause-passes : goal.returns-then-not-comes_behind-clause-passes
returns-then-not-comes_behind-clause-passes g c =
    order_refused c.in_ok-check_key.ensures.passes.some (λ u. not_true c.comes_behind.result c.if-not-comes_behind.true (c.comes_behind.ensures.1 u)) c.refuse.ensures.none c.refuse.ensures.fault

pub returns-clause-passes : goal.returns-clause-passes
returns-clause-passes g c = order_passed c.in_ok-check_key.ensures.passes.some (c.comes_behind.ensures.0 (is_true c.comes_behind.result c.if-not-comes_behind.false))
