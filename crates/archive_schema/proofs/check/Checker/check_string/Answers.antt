use Rattle.std.proofs.Common.{arith, refl}
use Rattle.archive_check.specs.Trail.{no_text, no_string}
use Rattle.archive_schema.specs.check.Runs.{string_inline, string_no_text, string_short, string_out_of_line}
use Rattle.archive_check.proofs.Checks.TestedAnswers.{not_true, is_true}
use Rattle.archive_schema.proofs.check.Entries.{read_at}
use Rattle.archive_schema.proofs.check.AtOnce.{passes_by, passes_refused, passes_same}
use Rattle.archive_schema.proofs.check.Checker.check_string.Goals as goal

pub returns-then-length-le8-clause-passes : goal.returns-then-length-le8-clause-passes
returns-then-length-le8-clause-passes g c =
    let out = c.is_out_of_line.ensures.0 (is_true c.is_out_of_line.result c.if-is_out_of_line.true) in
    passes_refused c.refuse.ensures.none c.refuse.ensures.fault (λ some. (no_string, refl, λ pending seen. string_short out (rw c.read_coded_length-length.ensures at c.if-length-le8.true)))

pub read_position-position-requires : goal.read_position-position-requires
read_position-position-requires g c = omega (arith, c.requires.fits)

pub check_shallow_region-requires-clause-pointee : goal.check_shallow_region-requires-clause-pointee
check_shallow_region-requires-clause-pointee g c = record { known = c.requires.known; few = omega (arith, c.read_coded_length-length.type_inv); one = λ e. cc }

pub returns-then-is_out_of_line-clause-passes : goal.returns-then-is_out_of_line-clause-passes
returns-then-is_out_of_line-clause-passes g c =
    let out = c.is_out_of_line.ensures.0 (is_true c.is_out_of_line.result c.if-is_out_of_line.true) in
    let position = read_at (record { sfits = c.read_position-position.type_inv }) c.read_position-position.ensures in
    let length = c.read_coded_length-length.ensures in
    passes_by (rw (length, position) at c.check_shallow_region.ensures.passes) (λ pending seen o r. string_out_of_line out (rw length at c.if-length-le8.false) r)

pub is_inline_text-requires : goal.is_inline_text-requires
is_inline_text-requires g c = omega (arith, c.requires.fits)

pub returns-then-not-is_inline_text-clause-passes : goal.returns-then-not-is_inline_text-clause-passes
returns-then-not-is_inline_text-clause-passes g c =
    passes_refused c.refuse-then-not-is_inline_text.ensures.none c.refuse-then-not-is_inline_text.ensures.fault
    (λ some. (no_text, refl, λ pending seen. string_no_text (λ u. not_true c.is_out_of_line.result c.if-is_out_of_line.false (c.is_out_of_line.ensures.1 u)) (λ u. not_true c.is_inline_text.result c.if-not-is_inline_text.true (c.is_inline_text.ensures.1 u))))

pub returns-clause-passes : goal.returns-clause-passes
returns-clause-passes g c =
    passes_same (λ pending seen. string_inline (λ u. not_true c.is_out_of_line.result c.if-is_out_of_line.false (c.is_out_of_line.ensures.1 u)) (c.is_inline_text.ensures.0 (is_true c.is_inline_text.result c.if-not-is_inline_text.false)))
