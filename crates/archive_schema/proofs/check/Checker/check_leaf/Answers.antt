use Rattle.std.proofs.Common.{arith}
use Rattle.archive_check.specs.Expressions.{kind_of}
use Rattle.archive_check.specs.Layout.{kind_size}
use Rattle.archive_check.specs.Reads.{bytes_at}
use Rattle.archive_check.specs.Trail.{illegal}
use Rattle.archive_schema.specs.check.Runs.{run_leaf, run_illegal}
use Rattle.archive_check.proofs.Editing.EditedBytes.{bytes_long}
use Rattle.archive_check.proofs.Checks.TestedAnswers.{not_true, is_true}
use Rattle.archive_schema.proofs.check.TurnInvariants.{node_fits}
use Rattle.archive_schema.proofs.check.AtOnce.{passes_refused, passes_same}
use Rattle.archive_schema.proofs.check.Checker.check_leaf.Goals as goal

pub illegal-requires : goal.illegal-requires
illegal-requires g c =
    let fits = node_fits c.requires.sound c.requires.kind c.requires.fits in
    let size = kind_size (kind_of c.args.kind) in
    (bytes_at c.args.self.now.bytes.now c.args.at size, bytes_long c.args.self.now.bytes.now c.args.at size (omega (arith, fits, c.requires.fits.fits)), λ u. not_true c.is_legal.result c.if-not-is_legal.true (c.is_legal.ensures.1 u))

pub returns-then-not-is_legal-clause-passes : goal.returns-then-not-is_legal-clause-passes
returns-then-not-is_legal-clause-passes g c =
    passes_refused c.refuse.ensures.none c.refuse.ensures.fault (λ some. (illegal (kind_of c.args.kind), c.illegal.ensures, λ pending seen. run_illegal c.requires.kind (λ u. not_true c.is_legal.result c.if-not-is_legal.true (c.is_legal.ensures.1 u))))

pub returns-clause-passes : goal.returns-clause-passes
returns-clause-passes g c = passes_same (λ pending seen. run_leaf c.requires.kind (c.is_legal.ensures.0 (is_true c.is_legal.result c.if-not-is_legal.false)))
