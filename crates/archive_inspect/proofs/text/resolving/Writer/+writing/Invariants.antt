use Rattle.std.proofs.Common.{◌+◌, ◌*◌}
use Rattle.archive_inspect.proofs.text.resolving.Writer.+writing.Given as goal

abbrev pub decreases-write : goal.decreases-write
decreases-write l = 4 * l.levels

abbrev pub decreases-write_boxed : goal.decreases-write_boxed
decreases-write_boxed l = 4 * l.levels + 1

abbrev pub decreases-write_pointee : goal.decreases-write_pointee
decreases-write_pointee l = 4 * l.levels + 1

abbrev pub decreases-write_parts : goal.decreases-write_parts
decreases-write_parts l = 4 * l.levels + 1

abbrev pub decreases-write_named : goal.decreases-write_named
decreases-write_named l = 4 * l.levels + 1

abbrev pub decreases-write_variants : goal.decreases-write_variants
decreases-write_variants l = 4 * l.levels + 2
