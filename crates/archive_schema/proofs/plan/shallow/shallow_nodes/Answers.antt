use Rattle.std.proofs.Common.{arith, sym, subst, ap, ◌∙◌, length, length-append, ◌∷◌, [], List, Bool, IsTrue}
use Rattle.archive_schema.specs.declared.plan.Node.{Node}
use Rattle.archive_check.specs.Words.Elements.{IsAt}
use Rattle.archive_schema.specs.plan.Shallow.{AreShallow, AreAllMarked, HasIndexes, kind_shallow}
use Rattle.archive_schema.proofs.plan.ShallowMarks.{shallow_more, all_more}
use Rattle.archive_schema.proofs.plan.shallow.shallow_nodes.Goals as goal

pub loop-node-preserved : goal.loop-node-preserved
loop-node-preserved c =
    let plan = c.args.plan.now in
    let marks = c.loop-node.marks.items in
    let x = c.node-item.result in
    let pushed = c.in_ok-push.ensures.items in
    let here = subst (λ (xs : List Node). IsAt xs c.loop-node.node-index x) c.deref-node-items.ensures.value (record { below = c.loop-node-test.true; is = c.node-item.is }) in
    let is_shallow = λ (bs : List Bool). kind_shallow plan.nodes.items plan.parts.items plan.variants.items bs x.kind in
    let shallow = subst (λ (bs : List Bool). IsTrue c.is_shallow-shallow.result → IsTrue (is_shallow bs)) c.deref.ensures.value c.is_shallow-shallow.ensures.sound in
    let found = subst (λ (bs : List Bool). HasIndexes plan.parts.items plan.variants.items x.kind → IsTrue (is_shallow bs) → IsTrue c.is_shallow-shallow.result) c.deref.ensures.value c.is_shallow-shallow.ensures.found in
    let sound = shallow_more plan.nodes.items plan.parts.items plan.variants.items marks c.loop-node.node-index x c.is_shallow-shallow.result c.loop-node.invariant.1 c.loop-node.invariant.0 here shallow in
    let all = all_more plan.nodes.items plan.parts.items plan.variants.items marks c.loop-node.node-index x c.is_shallow-shallow.result c.loop-node.invariant.2 c.loop-node.invariant.0 here found in (
      ap length pushed ∙ length-append marks (c.is_shallow-shallow.result ∷ []) ∙ omega arith,
      subst (λ (bs : List Bool). AreShallow plan.nodes.items plan.parts.items plan.variants.items bs) (sym pushed) sound,
      subst (λ (bs : List Bool). AreAllMarked plan.nodes.items plan.parts.items plan.variants.items bs) (sym pushed) all,
    )
