use Rattle.std.proofs.Common.{◌≡◌, length}
use Rattle.std.specs.List.{AllWithin}
use Rattle.archive_check.specs.Slots.{IsFreeSlot}
use Rattle.archive_check.proofs.slots.Slots.clear.Given as goal

abbrev pub invariant-loop-index : goal.invariant-loop-index
invariant-loop-index g l = AllWithin IsFreeSlot l.self.slots.items 0 l.index × (length l.self.slots.items ≡ l.index-end)
