use Rattle.std.proofs.Common.{arith, ◌∙◌}
use Rattle.archive_types.proofs.Writing.Owned.{pointer_some}
use Rattle.archive_types.proofs.SharedValues.SharedViews.{weak_fits, weak_shown, weak_says, null_says, is_one, is_not_one}
use Rattle.archive_types.proofs.Viewing.ViewsTogether.{weak_with}
use Rattle.archive_types.proofs.rc.views.Ref+ArchivedRcWeak+T+F.upgrade.Goals as goal

pub is_null-requires : goal.is_null-requires
is_null-requires g c = omega (arith, weak_fits _ _ _ _ _ _ c.part-pos.ensures.viewed, pointer_some g.T.ArchivePointee.pointee)

pub returns-then-is_null-clause-none : goal.returns-then-is_null-clause-none
returns-then-is_null-clause-none g c = rw (← c.part-pos.ensures.buffer, ← c.part-pos.ensures.position) (null_says _ _ _ _ _ _ (is_one _ _ c.is_null.ensures c.if-is_null.true))

pub returns-then-is_null-clause-is_null : goal.returns-then-is_null-clause-is_null
returns-then-is_null-clause-is_null g c = rw (← c.part-pos.ensures.buffer, ← c.part-pos.ensures.position) (is_one _ _ c.is_null.ensures c.if-is_null.true)

pub read_target-target-requires-clause-within : goal.read_target-target-requires-clause-within
read_target-target-requires-clause-within g c = omega (arith, weak_fits _ _ _ _ _ _ c.part-pos.ensures.viewed, pointer_some g.T.ArchivePointee.pointee)

pub read_target-target-requires-clause-lands : goal.read_target-target-requires-clause-lands
read_target-target-requires-clause-lands g c = (weak_shown _ _ _ _ _ _ (is_not_one _ _ c.is_null.ensures c.if-is_null.false) c.part-pos.ensures.viewed).lands

pub read_target-target-requires-clause-fits : goal.read_target-target-requires-clause-fits
read_target-target-requires-clause-fits g c = (weak_shown _ _ _ _ _ _ (is_not_one _ _ c.is_null.ensures c.if-is_null.false) c.part-pos.ensures.viewed).ends

pub read_length-requires : goal.read_length-requires
read_length-requires g c = weak_fits _ _ _ _ _ _ c.part-pos.ensures.viewed

pub at-requires : goal.at-requires
at-requires g c = rw (c.read_target-target.ensures, c.read_length.ensures) (weak_shown _ _ _ _ _ _ (is_not_one _ _ c.is_null.ensures c.if-is_null.false) c.part-pos.ensures.viewed).viewed

pub returns-clause-some : goal.returns-clause-some
returns-clause-some g c = (
  c.at.ensures.buffer ∙ c.part-pos.ensures.buffer,
  c.at.ensures.position ∙ rw (← c.part-pos.ensures.buffer, ← c.part-pos.ensures.position) c.read_target-target.ensures,
  c.at.ensures.length ∙ rw (← c.part-pos.ensures.buffer, ← c.part-pos.ensures.position) c.read_length.ensures,
  rw (c.at.ensures.position, c.read_target-target.ensures, ← c.part-pos.ensures.buffer, ← c.part-pos.ensures.position) (weak_says _ _ _ _ _ _ (is_not_one _ _ c.is_null.ensures c.if-is_null.false)),
)

pub returns-clause-beside : goal.returns-clause-beside
returns-clause-beside g c =
    rw (c.at.ensures.position, c.at.ensures.length, c.read_target-target.ensures, c.read_length.ensures, ← c.part-pos.ensures.buffer, ← c.part-pos.ensures.position)
    (weak_with _ _ _ _ _ _ (is_not_one _ _ c.is_null.ensures c.if-is_null.false))
