use Rattle.archive_check.specs.Expressions.{shapes_in}
use Rattle.std.specs.Prelude.{◌≡◌}
use Rattle.archive_core.proofs.recursive.expressions.define_record.Goals as goal

pub returns-clause-added : goal.returns-clause-added
returns-clause-added c ps h = let said : shapes_in c.in-Ok.list.items ≡ ps = rw c.in-Ok.is at h in rw (c.record_of.ensures, said) at c.define_name.ensures.added

pub returns-clause-refused : goal.returns-clause-refused
returns-clause-refused c ps h = let said : shapes_in c.in-Ok.list.items ≡ ps = rw c.in-Ok.is at h in rw (c.record_of.ensures, said) at c.define_name.ensures.refused
