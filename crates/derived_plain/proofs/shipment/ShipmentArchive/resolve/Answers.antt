-- Written by tools/derive: change the declaration, and run it again.
use Rattle.std.proofs.Common.{rules}
use Rattle.derived_plain.proofs.shipment.ShipmentArchive.resolve.Goals as goal

pub returns : goal.returns
returns g =
    let there = rw (g.new.ensures.position) at g.resolve_record.ensures in
    record { resolved = search (rules, there.resolved); refused = there.refused; same_length = search rules }
