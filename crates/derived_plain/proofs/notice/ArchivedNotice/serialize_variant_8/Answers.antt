-- Written by tools/derive: change the declaration, and run it again.
use Rattle.std.proofs.Common.{rules}
use Rattle.derived_plain.proofs.notice.ArchivedNotice.serialize_variant_8.Goals as goal

pub returns-in-Ok : goal.returns-in-Ok
returns-in-Ok g c = record { serialized = c.in-Ok.ensures.serialized; same_value = c.in-Ok.ensures.same_values; goes_on = c.serialize_case_3.ensures.goes_on; refused = search rules }
