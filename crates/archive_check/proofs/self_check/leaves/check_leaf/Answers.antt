use Rattle.std.proofs.Common.{◌∙◌, refl, arith}
use Rattle.archive_check.specs.Shape.{leaf}
use Rattle.archive_check.specs.Layout.{kind_size}
use Rattle.archive_check.specs.Reads.{bytes_at}
use Rattle.archive_check.specs.Expressions.{kind_of}
use Rattle.archive_check.specs.Words.Faults.{illegal_error}
use Rattle.archive_check.specs.Definitions.{no_definition}
use Rattle.archive_check.specs.Walk.{walk_leaf}
use Rattle.archive_check.specs.Trail.{trips_leaf, illegal}
use Rattle.archive_check.specs.SelfCheck.Ways.{Halts, shape_way}
use Rattle.archive_check.proofs.Editing.EditedBytes.{bytes_long}
use Rattle.archive_check.proofs.SelfCheck.Outcomes.{if_none}
use Rattle.archive_check.proofs.Checks.TestedAnswers.{not_true, is_true}
use Rattle.archive_check.proofs.SelfCheck.Ways.{goes_same}
use Rattle.archive_check.proofs.self_check.leaves.check_leaf.Goals as goal

pub illegal-requires : goal.illegal-requires
illegal-requires g c =
    let b = c.args.bytes.now in
    let n = kind_size (kind_of c.args.kind) in
    (bytes_at b c.args.at n, bytes_long b c.args.at n (omega (arith, c.requires)), (λ u. not_true c.is_legal.result c.if-not-is_legal.true (c.is_legal.ensures.1 u)))

pub returns-then-not-is_legal-clause-stops : goal.returns-then-not-is_legal-clause-stops
returns-then-not-is_legal-clause-stops g c =
    let k = kind_of c.args.kind in
    let s = g.C.Context.state c.args._context.now in
    if_none (λ e. Halts no_definition (shape_way c.args.bytes.now c.args.at (leaf k)) s e) c.refuse.result c.refuse.new.refusal (illegal_error k) (c.refuse.ensures.fault ∙ c.illegal.ensures)
    (λ some. (illegal k, refl, λ t kn pending seen. trips_leaf (λ u. not_true c.is_legal.result c.if-not-is_legal.true (c.is_legal.ensures.1 u))))

pub returns-clause-through : goal.returns-clause-through
returns-clause-through g c = goes_same _ _ (g.C.Context.state c.args._context.now) (λ t k pending seen. walk_leaf (c.is_legal.ensures.0 (is_true c.is_legal.result c.if-not-is_legal.false)))
