use Rattle.std.proofs.Common.{slice_index_or, ap, ◌∙◌}
use Rattle.archive_schema.specs.declared.plan.NodeKind.TheVariants.{Free, Leaf}
use Rattle.archive_schema.specs.check.Runs.{IsNode, run_free, run_leaf}
use Rattle.archive_check.proofs.Elements.{at_default}
use Rattle.archive_schema.proofs.check.LegalElements.{legal_leaf, legal_none}
use Rattle.archive_schema.proofs.check.Checker.is_legal_here.Goals as goal

pub returns-in-Free-clause-legal : goal.returns-in-Free-clause-legal
returns-in-Free-clause-legal c =
    let is : IsNode c.args.self.now c.args.node Free = record { node = c.index-self-node.result; at = record { below = c.requires.fits.takes.at.below; is = c.index-self-node.is }; kind_is = ap (λ q. q.kind) c.index-self-node.is ∙ c.in-Free.is } in
    λ yes pending depth stop start seen. run_free is c.requires.fits.takes c.requires.fits.fits

pub returns-in-Leaf-clause-legal : goal.returns-in-Leaf-clause-legal
returns-in-Leaf-clause-legal c =
    let is : IsNode c.args.self.now c.args.node (Leaf c.in-Leaf.kind) = record { node = c.index-self-node.result; at = record { below = c.requires.fits.takes.at.below; is = c.index-self-node.is }; kind_is = ap (λ q. q.kind) c.index-self-node.is ∙ c.in-Leaf.is } in
    λ yes pending depth stop start seen. run_leaf is (c.is_legal.ensures.0 yes)

pub returns-in-Leaf-clause-opened : goal.returns-in-Leaf-clause-opened
returns-in-Leaf-clause-opened c =
    let is : IsNode c.args.self.now c.args.node (Leaf c.in-Leaf.kind) = record { node = c.index-self-node.result; at = record { below = c.requires.fits.takes.at.below; is = c.index-self-node.is }; kind_is = ap (λ q. q.kind) c.index-self-node.is ∙ c.in-Leaf.is } in
    λ legal. c.is_legal.ensures.1 (legal_leaf c.args.self.now c.args.node c.args.at c.in-Leaf.kind is legal)

pub returns-in_default-clause-opened : goal.returns-in_default-clause-opened
returns-in_default-clause-opened c =
    let m = c.args.self.now in
    let x = slice_index_or m.nodes.now c.args.node c.index-self-node.result in
    let at = at_default m.nodes.now c.args.node c.index-self-node.result c.requires.fits.takes.at.below in
    λ legal. absurd (legal_none m c.args.node c.args.at x at c.in_default.not-Free c.in_default.not-Leaf legal)
