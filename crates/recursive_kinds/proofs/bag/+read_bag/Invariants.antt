-- Written by tools/derive: change the declaration, and run it again.
use Rattle.archive_core.proofs.ReadElements.{FirstElements}
use Rattle.archive_core.specs.Shape.{run}
use Rattle.archive_core.specs.Value.{list}
use Rattle.recursive_kinds.specs.BagMeaning.{bag_meaning, bag_keys}
use Rattle.recursive_kinds.specs.BagShape.{bag_layout, bag_shape, bag_definitions}
use Rattle.std.proofs.Common.{◌≡◌, ◌≤◌, ◌+◌, ◌*◌, length, pos}
use Rattle.std.specs.Prelude.{◌≡◌, ◌≤◌, pos, length}
use Rattle.std.specs.Vec.{vec_len, vec_capacity}
use Rattle.recursive_kinds.proofs.bag.+read_bag.Given as goal

abbrev pub decreases-read_box_bag : goal.decreases-read_box_bag
decreases-read_box_bag g l = l.levels * 5 + 1

abbrev pub decreases-read_option_box_bag : goal.decreases-read_option_box_bag
decreases-read_option_box_bag g l = l.levels * 5 + 2

abbrev pub decreases-read_shared_slice_bag : goal.decreases-read_shared_slice_bag
decreases-read_shared_slice_bag g l = l.levels * 5 + 2

abbrev pub decreases-read_items_bag : goal.decreases-read_items_bag
decreases-read_items_bag g l = l.levels * 5 + 1

abbrev pub decreases-read_bag : goal.decreases-read_bag
decreases-read_bag g l = l.levels * 5 + 0

abbrev pub invariant-read_items_bag-loop-index : goal.invariant-read_items_bag-loop-index
invariant-read_items_bag-loop-index g l = (length l.items.items ≡ l.index) × (vec_len l.items ≡ l.index) × (l.list.len ≤ vec_capacity l.items) × FirstElements g.D.Entries.keeps bag_definitions bag_shape bag_layout l.list.bytes.now l.list.pos (run bag_shape) l.list.len bag_meaning bag_keys (g.D.Entries.entry_of l.initial.deserializer) (g.D.Entries.entry_of l.deserializer) l.items.items
