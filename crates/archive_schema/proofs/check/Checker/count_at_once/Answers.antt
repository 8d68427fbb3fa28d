use Rattle.std.proofs.Common.{◌∙◌, ap}
use Rattle.archive_schema.specs.declared.plan.NodeKind.TheVariants.{Free, Leaf}
use Rattle.archive_schema.specs.check.Runs.{IsNode, run_free, run_leaf}
use Rattle.archive_schema.proofs.check.LegalElements.{element_fits, elements_fit}
use Rattle.archive_schema.proofs.check.Checker.count_at_once.Goals as goal

pub count_legal-requires : goal.count_legal-requires
count_legal-requires c = elements_fit c.args.self.now c.args.node c.args.size c.requires.size c.args.count c.args.at c.requires.fits

pub returns-in-Free-clause-passed : goal.returns-in-Free-clause-passed
returns-in-Free-clause-passed c k lt =
    let is : IsNode c.args.self.now c.args.node Free = record { node = c.index-self-node.result; at = record { below = c.requires.fits.takes.at.below; is = c.index-self-node.is }; kind_is = ap (λ q. q.kind) c.index-self-node.is ∙ c.in-Free.is } in
    let here = element_fits c.args.self.now c.args.node c.args.size c.requires.size c.args.count c.args.at k c.requires.fits lt in
    λ pending depth stop start seen. run_free is here.takes here.fits

pub returns-in-Leaf-clause-passed : goal.returns-in-Leaf-clause-passed
returns-in-Leaf-clause-passed c k lt =
    let is : IsNode c.args.self.now c.args.node (Leaf c.in-Leaf.kind) = record { node = c.index-self-node.result; at = record { below = c.requires.fits.takes.at.below; is = c.index-self-node.is }; kind_is = ap (λ q. q.kind) c.index-self-node.is ∙ c.in-Leaf.is } in
    λ pending depth stop start seen. run_leaf is (c.count_legal.ensures.legal k lt)
