use Rattle.std.proofs.Common.{IsSome, ◌≡◌, ◌+◌, ap, sym, ◌∙◌, subst, arith, slice_index_or}
use Rattle.archive_check.specs.declared.format.defs.Def.{Def}
use Rattle.archive_check.specs.Expressions.{shape_of}
use Rattle.archive_check.specs.Words.Elements.{IsAt}
use Rattle.archive_schema.specs.plan.NodeCounts.{count_of}
use Rattle.archive_schema.specs.plan.NodeNumbers.{IsExpressionNode, def_shapes}
use Rattle.archive_check.proofs.Elements.{same_at}
use Rattle.archive_schema.proofs.plan.NodeNumbers.{numbered_next, start_next, def_at, prefix_found}
use Rattle.archive_check.specs.Shape.{named}
use Rattle.archive_check.specs.Defined.{Holds, holds_name}
use Rattle.archive_schema.specs.plan.PlanGrowth.{node_of}
use Rattle.archive_schema.proofs.plan.numbering.number.Goals as goal

pub loop-i-preserved : goal.loop-i-preserved
loop-i-preserved c =
    let at : IsAt c.args.defs.now c.loop-i.i c.index-defs-i.result = record { below = c.loop-i-test.true; is = c.index-defs-i.is } in
    let again : IsAt c.args.defs.now c.loop-i.i c.index-defs-i-in-loop-i.result = record { below = c.loop-i-test.true; is = c.index-defs-i-in-loop-i.is } in
    let root : IsExpressionNode c.deref.result.now c.loop-i.start (shape_of c.index-defs-i.result.expr) c.in_ok-node.node =
    subst (λ (y : Def). IsExpressionNode c.deref.result.now c.loop-i.start (shape_of y.expr) c.in_ok-node.node) (sym c.index-defs-i.is) c.in_ok-node.ensures.0 in
    let end : c.in_ok-node.end ≡ c.loop-i.start + count_of (shape_of c.index-defs-i.result.expr) =
    subst (λ (y : Def). c.in_ok-node.end ≡ c.loop-i.start + count_of (shape_of y.expr)) (sym c.index-defs-i.is) c.in_ok-node.ensures.1 in
    let there : Def = slice_index_or c.args.defs.now c.loop-i.i c.index-defs-i-in-loop-i.result in (
      numbered_next (record { name = there.name; node = c.in_ok-node.node }) c.loop-i.invariant.0 c.loop-i.invariant.1 at (ap (λ (d : Def). d.name.now) (sym again.is ∙ same_at again at))
          (subst (λ ks. IsExpressionNode ks c.loop-i.start (shape_of c.index-defs-i.result.expr) c.in_ok-node.node) c.deref.ensures.value root) c.in_ok-push.ensures.items,
      omega (arith, end, c.loop-i.invariant.1, start_next (def_shapes c.args.defs.now) c.loop-i.i (shape_of c.index-defs-i.result.expr) (def_at c.args.defs.now c.loop-i.i at)),
    )

pub root-requires : goal.root-requires
root-requires c =
    let at : IsAt c.args.defs.now c.loop-i.i c.index-defs-i.result = record { below = c.loop-i-test.true; is = c.index-defs-i.is } in
    λ name e.
    let is : shape_of c.index-defs-i.result.expr ≡ named name = ap (λ (y : Def). shape_of y.expr) c.index-defs-i.is ∙ e in
    let holds : Holds name (shape_of c.index-defs-i.result.expr) = subst (λ X. Holds name X) (sym is) holds_name in
    subst (λ ks. IsSome (node_of ks name)) (sym c.deref.ensures.value) (prefix_found c.loop-i.i name c.loop-i.invariant.0 (c.requires.earlier c.loop-i.i c.index-defs-i.result at name holds))
