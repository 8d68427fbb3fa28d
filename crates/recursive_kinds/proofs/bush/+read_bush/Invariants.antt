-- Written by tools/derive: change the declaration, and run it again.
use Rattle.archive_core.proofs.ReadElements.{FirstElements}
use Rattle.archive_core.specs.Choices.{option_shape}
use Rattle.archive_core.specs.Options.{option_keys, option_meaning}
use Rattle.archive_core.specs.Shape.{boxed, one, run, part}
use Rattle.archive_core.specs.Value.{list, box, value}
use Rattle.recursive_kinds.specs.BushMeaning.{bush_meaning, bush_keys}
use Rattle.recursive_kinds.specs.BushShape.{bush_shape, bush_definitions}
use Rattle.std.proofs.Common.{◌≡◌, ◌≤◌, ◌+◌, ◌*◌, length, pos}
use Rattle.std.specs.Prelude.{◌≡◌, ◌≤◌, pos, length}
use Rattle.std.specs.Vec.{vec_len, vec_capacity}
use Rattle.recursive_kinds.proofs.bush.+read_bush.Given as goal

abbrev pub decreases-read_box_bush : goal.decreases-read_box_bush
decreases-read_box_bush g l = (l.part.pos + 4) * 6 + 1

abbrev pub decreases-read_option_box_bush : goal.decreases-read_option_box_bush
decreases-read_option_box_bush g l = (l.part.pos + 8) * 6 + 2

abbrev pub decreases-read_vec_option_box_bush : goal.decreases-read_vec_option_box_bush
decreases-read_vec_option_box_bush g l = (l.part.pos + 8) * 6 + 3

abbrev pub decreases-read_vec_box_bush : goal.decreases-read_vec_box_bush
decreases-read_vec_box_bush g l = (l.part.pos + 8) * 6 + 2

abbrev pub decreases-read_bush : goal.decreases-read_bush
decreases-read_bush g l = (l.part.pos + 20) * 6 + 5

abbrev pub invariant-read_vec_option_box_bush-loop-index : goal.invariant-read_vec_option_box_bush-loop-index
invariant-read_vec_option_box_bush-loop-index g l = (length l.items.items ≡ l.index) × (vec_len l.items ≡ l.index) × (l.list.len ≤ vec_capacity l.items) × FirstElements g.D.Entries.keeps bush_definitions (option_shape (boxed (one bush_shape))) (record { size = 8; align = 4 }) l.list.bytes.now l.list.pos (run (option_shape (boxed (one bush_shape)))) l.list.len (λ y. (option_meaning (λ y. (box (bush_meaning y.value))) y)) (λ y. (option_keys (λ y. (bush_keys y.value)) y)) (g.D.Entries.entry_of l.initial.deserializer) (g.D.Entries.entry_of l.deserializer) l.items.items

abbrev pub invariant-read_vec_box_bush-loop-index : goal.invariant-read_vec_box_bush-loop-index
invariant-read_vec_box_bush-loop-index g l = (length l.items.items ≡ l.index) × (vec_len l.items ≡ l.index) × (l.list.len ≤ vec_capacity l.items) × FirstElements g.D.Entries.keeps bush_definitions (boxed (one bush_shape)) (record { size = 4; align = 4 }) l.list.bytes.now l.list.pos (run (boxed (one bush_shape))) l.list.len (λ y. (box (bush_meaning y.value))) (λ y. (bush_keys y.value)) (g.D.Entries.entry_of l.initial.deserializer) (g.D.Entries.entry_of l.deserializer) l.items.items
