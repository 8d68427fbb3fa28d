use Rattle.std.proofs.Common.{refl}
use Rattle.archive_schema.proofs.plan.Restated.{ok_map}
use Rattle.archive_schema.proofs.plan.compile.copy_shared_type.Goals as goal

pub returns : goal.returns
returns c = ok_map c.push_shared_type.result c.push_shared_type.ensures (λ k p. record { shared_type = _; sorted = p; flavor_is = refl; pointee_is = c.in_ok-copy.ensures.cases })
