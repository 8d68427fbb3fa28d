use Rattle.archive_check.specs.Expressions.{kind_of}
use Rattle.archive_check.specs.Layout.{kind_size}
use Rattle.archive_check.specs.Reads.{bytes_at}
use Rattle.archive_check.specs.Trail.{illegal}
use Rattle.archive_schema.specs.check.Runs.{key_leaf, key_illegal, key_string}
use Rattle.archive_check.proofs.Editing.EditedBytes.{bytes_long}
use Rattle.archive_check.proofs.Checks.TestedAnswers.{not_true, is_true}
use Rattle.archive_schema.proofs.check.AtOnce.{passes_by, passes_refused, passes_same}
use Rattle.archive_schema.proofs.check.Checker.check_key.Goals as goal

pub illegal-requires : goal.illegal-requires
illegal-requires g c =
    let size = kind_size (kind_of c.in-Leaf.kind) in
    (bytes_at c.args.self.now.bytes.now c.args.at size, bytes_long c.args.self.now.bytes.now c.args.at size (rw c.in-Leaf.is at c.requires.fits), λ u. not_true c.is_legal.result c.if-not-is_legal.true (c.is_legal.ensures.1 u))

pub returns-then-not-is_legal-clause-passes : goal.returns-then-not-is_legal-clause-passes
returns-then-not-is_legal-clause-passes g c =
    rw c.in-Leaf.is (passes_refused c.refuse.ensures.none c.refuse.ensures.fault (λ some. (illegal (kind_of c.in-Leaf.kind), c.illegal.ensures, λ pending seen. key_illegal (λ u. not_true c.is_legal.result c.if-not-is_legal.true (c.is_legal.ensures.1 u)))))

pub returns-else-not-is_legal-clause-passes : goal.returns-else-not-is_legal-clause-passes
returns-else-not-is_legal-clause-passes g c = rw c.in-Leaf.is (passes_same (λ pending seen. key_leaf (c.is_legal.ensures.0 (is_true c.is_legal.result c.if-not-is_legal.false))))

pub returns-in-Str-clause-passes : goal.returns-in-Str-clause-passes
returns-in-Str-clause-passes g c = rw c.in-Str.is (passes_by c.check_string.ensures.passes (λ pending seen o r. key_string r))
