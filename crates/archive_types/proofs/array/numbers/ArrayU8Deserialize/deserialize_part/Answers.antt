use Rattle.std.proofs.Common.{rules}
use Rattle.archive_types.proofs.array.numbers.ArrayU8Deserialize.deserialize_part.Goals as goal

pub returns-in-Ok : goal.returns-in-Ok
returns-in-Ok g c = rw (c.into_array.ensures) record {
  read = c.in-Ok.ensures.read;
  refused = search rules;
}
