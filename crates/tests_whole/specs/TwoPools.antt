-- Two pools as one: what the first one knows of a position, and else what the second one does.
use Rattle.std.specs.Prelude.{ℕ, Option, Some, None}
use Rattle.archive_core.specs.Pooled.{EntryState, Entries}

abbrev pub either_known : EntryState → EntryState → EntryState
either_known None second = second
either_known (Some known) second = Some known

abbrev pub both_pools : Entries → Entries → Entries
both_pools first second t = either_known (first t) (second t)
