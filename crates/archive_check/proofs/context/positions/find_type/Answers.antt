use Rattle.std.proofs.Common.{◌≡◌, ◌∙◌, sym, arith, true, false}
use Rattle.archive_check.proofs.context.SharedPositions.{has_type, none_next, none_absent}
use Rattle.archive_check.proofs.context.positions.find_type.Goals as goal

pub returns-then-is_of-clause-found : goal.returns-then-is_of-clause-found
returns-then-is_of-clause-found c =
    let s = c.is_of.ensures.0 c.if-is_of.true in
    has_type _ _ c.index-shared_types-index.result c.args.flavor.now _ c.loop-index-test.true c.index-shared_types-index.is s.0 s.1

pub loop-index-preserved : goal.loop-index-preserved
loop-index-preserved c = none_next _ _ _ c.loop-index.index c.index-shared_types-index.result c.loop-index.invariant c.loop-index-test.true c.index-shared_types-index.is
    (λ s t. let w : false ≡ true = sym c.if-is_of.false ∙ c.is_of.ensures.1 (s, t) in cc)

pub returns-clause-absent : goal.returns-clause-absent
returns-clause-absent c = none_absent _ _ _ c.loop-index.index c.loop-index.invariant (omega (arith, c.loop-index-test.false))
