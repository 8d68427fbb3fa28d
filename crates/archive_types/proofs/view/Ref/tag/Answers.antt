use Rattle.archive_check.proofs.Viewing.ViewedPayloads.{choice_tag_fits, choice_tag_known}
use Rattle.archive_types.proofs.view.Ref.tag.Goals as goal

pub bounds-bytes-pos : goal.bounds-bytes-pos
bounds-bytes-pos g c = choice_tag_fits _ _ _ _ _ g.met.T.Choice.has_variants _ _ _ _ g.met.T.Portable.is_one c.part-pos.ensures.viewed

pub returns-clause-known : goal.returns-clause-known
returns-clause-known g c = choice_tag_known _ _ _ _ _ g.met.T.Choice.has_variants _ _ _ _ g.met.T.Portable.is_one c.part-pos.ensures.viewed
