-- Written by tools/derive: change the declaration, and run it again.
use Rattle.archive_core.proofs.ReadElements.{FirstElements}
use Rattle.archive_core.specs.Shape.{run, part}
use Rattle.archive_core.specs.Value.{list}
use Rattle.recursive_kinds.specs.RuleMeaning.{rule_meaning, rule_keys}
use Rattle.recursive_kinds.specs.RuleShape.{rule_layout, rule_shape, rule_definitions}
use Rattle.std.proofs.Common.{◌≡◌, ◌≤◌, ◌+◌, ◌*◌, length, pos}
use Rattle.std.specs.Prelude.{◌≡◌, ◌≤◌, pos, length}
use Rattle.std.specs.Vec.{vec_len, vec_capacity}
use Rattle.recursive_kinds.proofs.rule.+read_rule.Given as goal

abbrev pub decreases-read_box_slice_rule : goal.decreases-read_box_slice_rule
decreases-read_box_slice_rule g l = (l.part.pos + 8) * 4 + 1

abbrev pub decreases-read_rule : goal.decreases-read_rule
decreases-read_rule g l = (l.part.pos + 32) * 4 + 3

abbrev pub invariant-read_box_slice_rule-loop-index : goal.invariant-read_box_slice_rule-loop-index
invariant-read_box_slice_rule-loop-index g l = (length l.items.items ≡ l.index) × (vec_len l.items ≡ l.index) × (l.list.len ≤ vec_capacity l.items) × FirstElements g.D.Entries.keeps rule_definitions rule_shape rule_layout l.list.bytes.now l.list.pos (run rule_shape) l.list.len rule_meaning rule_keys (g.D.Entries.entry_of l.initial.deserializer) (g.D.Entries.entry_of l.deserializer) l.items.items
