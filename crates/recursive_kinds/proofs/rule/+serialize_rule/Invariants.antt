-- Written by tools/derive: change the declaration, and run it again.
use Rattle.archive_core.proofs.Runs.{Continues}
use Rattle.recursive_kinds.specs.RuleMeaning.{rule_meaning, rule_keys, rule_flat, rule_belongs}
use Rattle.recursive_kinds.specs.RuleShape.{rule_shape, rule_definitions}
use Rattle.std.proofs.Common.{◌≡◌, ◌≤◌, length, drop}
use Rattle.std.specs.Prelude.{◌≡◌, ◌≤◌, length}
use Rattle.std.specs.Vec.{vec_len, vec_capacity}
use Rattle.recursive_kinds.proofs.rule.+serialize_rule.Given as goal

abbrev pub invariant-serialize_each_rule-loop-value : goal.invariant-serialize_each_rule-loop-value
invariant-serialize_each_rule-loop-value g l = record { continues : Continues rule_definitions rule_shape rule_keys rule_meaning rule_flat rule_belongs (g.S.Keys.state l.initial.serializer) (g.S.Keys.state l.serializer) l.values (drop l.value-index l.values) l.resolvers.items; reserved : (vec_len l.resolvers ≡ l.value-index) × (length l.values ≤ vec_capacity l.resolvers) }
