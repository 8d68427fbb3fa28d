-- Written by tools/derive: change the declaration, and run it again.
use Rattle.std.proofs.Common.{rules}
use Rattle.derived_types.proofs.track.EitherSerialize.serialize.Goals as goal

pub returns-in-Ok : goal.returns-in-Ok
returns-in-Ok g c = rw (c.in-Alone.is) record { serialized = c.in-Ok.ensures.serialized; same_value = c.in-Ok.ensures.same_values; goes_on = c.serialize_case_1.ensures.goes_on; refused = search rules }

pub returns-in-Ok-serialize_case_3 : goal.returns-in-Ok-serialize_case_3
returns-in-Ok-serialize_case_3 g c = rw (c.in-Together.is) record { serialized = c.in-Ok-serialize_case_3.ensures.serialized; same_value = c.in-Ok-serialize_case_3.ensures.same_values; goes_on = c.serialize_case_3.ensures.goes_on; refused = search rules }
