use Rattle.archive_check.specs.Expressions.{variants_in}
use Rattle.std.specs.Prelude.{◌≡◌}
use Rattle.archive_core.proofs.recursive.expressions.define_choice.Goals as goal

pub returns-clause-added : goal.returns-clause-added
returns-clause-added c vs h = let said : variants_in c.in-Ok.variants.items ≡ vs = rw c.in-Ok.is at h in rw (c.choice_of.ensures, said) at c.define_name.ensures.added

pub returns-clause-refused : goal.returns-clause-refused
returns-clause-refused c vs h = let said : variants_in c.in-Ok.variants.items ≡ vs = rw c.in-Ok.is at h in rw (c.choice_of.ensures, said) at c.define_name.ensures.refused
