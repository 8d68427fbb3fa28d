use Rattle.archive_check.specs.Shape.{run}
use Rattle.archive_check.specs.Value.{list}
use Rattle.archive_core.proofs.recursive.KeysBegun.{long_begun}
use Rattle.archive_core.proofs.recursive.sharing.begin_shared_slice.Goals as goal

pub returns-in-Err-clause-refused : goal.returns-in-Err-clause-refused
returns-in-Err-clause-refused g c = record { said = λ D flavor X ks vs plans. c.in-Err.ensures.refused.said D flavor (run X) c.args.len ks (list vs) }

pub returns-then-len-gt4294967295-clause-refused : goal.returns-then-len-gt4294967295-clause-refused
returns-then-len-gt4294967295-clause-refused g c = record {
  said = λ D flavor X ks vs plans. long_begun D X c.args.len c.args.key ks vs flavor _ _ c.in-Ok.known c.in-Ok.ensures.known c.in-Ok.ensures.begun plans c.if-len-gt4294967295.true;
}
