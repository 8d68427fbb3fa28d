use Rattle.std.proofs.Common.{arith}
use Rattle.std.proofs.Math.ListN.{drop_of_length-le}
use Rattle.std.proofs.lemmas.Grind.{common_steps}
use Rattle.archive_check.specs.declared.format.error.Error.TheVariants.{OutOfMemory}
use Rattle.archive_types.specs.Causes.{no_memory}
use Rattle.archive_types.proofs.Planning.Causes.{err_by, goes_both}
use Rattle.archive_types.proofs.Planning.Runs.{continues_step, continues_broken, continues_end, belongs_end}
use Rattle.archive_types.proofs.slice.sources.serialize_each.Goals as goal

pub returns-in_err-resolvers-clause-refused : goal.returns-in_err-resolvers-clause-refused
returns-in_err-resolvers-clause-refused g c = err_by c.from_residual.result OutOfMemory _ c.from_residual.ensures.1 no_memory

pub returns-in-Err-clause-goes_on : goal.returns-in-Err-clause-goes_on
returns-in-Err-clause-goes_on g c = goes_both _ _ _ c.loop-value.invariant.continues.goes c.serialize.ensures.goes_on

pub returns-in-Err-clause-refused : goal.returns-in-Err-clause-refused
returns-in-Err-clause-refused g c = rw (c.by_words.ensures)
    (continues_broken _ _ _ _ _ _ _ _ _ _ c.loop-value.value-index _ _ _ c.loop-value-test.true c.value-item.is g.met.T.Archive.planned c.loop-value.invariant.continues
    c.serialize.ensures.goes_on c.in-Err.ensures.refused)

pub loop-value-preserved : goal.loop-value-preserved
loop-value-preserved g c = record {
  count = omega (arith, c.loop-value.invariant.count, c.push_reserved.ensures.len);
  room = omega (arith, c.loop-value.invariant.room, c.push_reserved.ensures.capacity);
  continues = continues_step _ _ _ _ _ _ _ _ _ _ c.loop-value.value-index _ _ _ _ c.loop-value-test.true c.value-item.is (grind (arith, common_steps)) c.loop-value.invariant.continues
      c.in-Ok.ensures.serialized c.in-Ok.ensures.same_value c.serialize.ensures.goes_on;
}

pub returns-clause-serialized : goal.returns-clause-serialized
returns-clause-serialized g c = continues_end _ _ _ _ _ _ _ _ _ _ _ (drop_of_length-le _ c.loop-value-test.false) c.loop-value.invariant.continues

pub returns-clause-same_values : goal.returns-clause-same_values
returns-clause-same_values g c = belongs_end _ _ _ _ _ _ _ _ _ _ _ (drop_of_length-le _ c.loop-value-test.false) c.loop-value.invariant.continues
