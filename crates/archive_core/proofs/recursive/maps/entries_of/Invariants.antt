use Rattle.std.proofs.Common.{◌≡◌, ◌+◌, ◌≤◌, ◌++◌, length, map}
use Rattle.std.specs.Vec.{vec_len, vec_capacity}
use Rattle.archive_core.proofs.recursive.maps.entries_of.Given as goal

abbrev pub invariant-loop-key : goal.invariant-loop-key
invariant-loop-key g l = (map (λ e. (e.key.now, e.value.now)) l.entries.items ++ l.key-iterator ≡ l.source.entries) × (vec_len l.entries + length l.key-iterator ≤ vec_capacity l.entries)
