use Rattle.std.proofs.Common.{rules, ◌<◌, arith}
use Rattle.std.proofs.lemmas.Grind.{common_steps}
use Rattle.archive_core.proofs.SharedOnes.{far_shared_one_refused}
use Rattle.archive_core.proofs.rc.sources.SharedSerialize.serialize.Goals as goal

pub returns-in_default : goal.returns-in_default
returns-in_default g c =
    let far : 4294967295 < c.in-Ok.pos = grind (arith, common_steps) in
    record {
      serialized = search rules;
      same_value = search rules;
      goes_on = c.write_shared.ensures.outcome.goes_on;
      refused = far_shared_one_refused _ _ _ _ g.met.T.Archived.Portable.is_one _ _ _ _ c.in-Ok.pos _ _ far (rw (c.deref.ensures) at c.in-Ok.ensures.outcome.serialized);
    }
