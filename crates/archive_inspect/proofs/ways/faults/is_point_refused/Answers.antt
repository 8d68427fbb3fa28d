use Rattle.archive_check.specs.Trail.{other_type, other_length, cyclic}
use Rattle.archive_inspect.specs.Ways.{fails_type, fails_length, fails_cycle}
use Rattle.archive_inspect.proofs.Refused.{leaf_refused, text_refused, string_refused, tag_refused, shared_refused}
use Rattle.archive_inspect.proofs.ways.faults.is_point_refused.Goals as goal

pub returns-in-InvalidBool : goal.returns-in-InvalidBool
returns-in-InvalidBool c = λ t. let h = c.is_leaf_refused.ensures t in leaf_refused c.args.form.now.schema c.args.bytes.now c.args.point h.kind c.args.refusal h.fails h.said

pub returns-in-InvalidDiscriminant : goal.returns-in-InvalidDiscriminant
returns-in-InvalidDiscriminant c = λ t. rw c.in-InvalidDiscriminant.is (tag_refused c.args.form.now.schema c.args.bytes.now c.args.point _ _ (c.has_no_variant.ensures t))

pub returns-in-InvalidUtf8 : goal.returns-in-InvalidUtf8
returns-in-InvalidUtf8 c = λ t. rw c.in-InvalidUtf8.is (text_refused c.args.form.now.schema c.args.bytes.now c.args.point (c.is_no_text.ensures t))

pub returns-in-InvalidStringRepr : goal.returns-in-InvalidStringRepr
returns-in-InvalidStringRepr c = λ t. rw c.in-InvalidStringRepr.is (string_refused c.args.form.now.schema c.args.bytes.now c.args.point (c.is_no_string.ensures t))

pub returns-in-TypeMismatch : goal.returns-in-TypeMismatch
returns-in-TypeMismatch c = λ t. let (flavor, shared) = c.is_shared.ensures t in shared_refused c.args.form.now.schema c.args.bytes.now c.args.point flavor other_type c.args.refusal shared fails_type c.in-TypeMismatch.is

pub returns-in-MetadataMismatch : goal.returns-in-MetadataMismatch
returns-in-MetadataMismatch c = λ t. let (flavor, shared) = c.is_shared-in-MetadataMismatch.ensures t in shared_refused c.args.form.now.schema c.args.bytes.now c.args.point flavor other_length c.args.refusal shared fails_length c.in-MetadataMismatch.is

pub returns-in-CyclicValidate : goal.returns-in-CyclicValidate
returns-in-CyclicValidate c = λ t. let (flavor, shared, never) = c.forbids_cycles.ensures t in shared_refused c.args.form.now.schema c.args.bytes.now c.args.point flavor cyclic c.args.refusal shared (fails_cycle never) c.in-CyclicValidate.is
