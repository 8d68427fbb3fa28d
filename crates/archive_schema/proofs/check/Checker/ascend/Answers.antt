use Rattle.archive_schema.specs.check.Lists.{list_of}
use Rattle.archive_schema.proofs.check.Rows.{row_taken}
use Rattle.archive_schema.proofs.check.TurnExits.{turn_taken}
use Rattle.archive_schema.proofs.check.Checker.ascend.Goals as goal

pub returns-clause-turn : goal.returns-clause-turn
returns-clause-turn g c =
    let next = row_taken c.args.node c.pop_row.result (list_of c.leave_next.new.work) (list_of c.pop_row.new.self) c.pop_row.ensures.some c.pop_row.ensures.none in
    rw next (turn_taken c.in_ok-leave_next.ensures.turn.some)
