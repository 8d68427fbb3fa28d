use Rattle.archive_inspect.specs.Points.{held_element, held_value}
use Rattle.archive_inspect.proofs.ways.pointing.held_of.Goals as goal

pub returns-in-Run : goal.returns-in-Run
returns-in-Run c = rw c.in-Run.is held_element

pub returns-in-Entries : goal.returns-in-Entries
returns-in-Entries c = rw c.in-Entries.is (held_value _)
