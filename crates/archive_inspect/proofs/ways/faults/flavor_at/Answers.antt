use Rattle.std.proofs.Common.{ap, option_map}
use Rattle.archive_check.specs.Expressions.{flavor_of}
use Rattle.archive_inspect.specs.Points.{pointer_told}
use Rattle.archive_inspect.proofs.ways.faults.flavor_at.Goals as goal

pub returns : goal.returns
returns c = record {
  pointer = pointer_told c.in_ok-pointer.pointer;
  target = c.in_ok-_target._target;
  points = c.in_ok-pointer.ensures;
  shared = ap (option_map flavor_of) c.in_ok-flavor.was;
  leads = c.in_ok-_target.ensures;
}
