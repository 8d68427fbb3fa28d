use Rattle.std.proofs.Common.{refl, rules}
use Rattle.archive_schema.proofs.plan.growing.push.Goals as goal

pub returns : goal.returns
returns c = record { node = _; nodes = c.in_ok-push.ensures.items; parts = refl; variants = refl; shared_types = refl; is = search rules; size_is = refl; align_is = refl; kind_is = refl }
