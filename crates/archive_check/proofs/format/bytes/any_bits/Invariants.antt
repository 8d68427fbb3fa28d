use Rattle.std.proofs.Common.{◌<◌, take}
use Rattle.std.specs.Str.{IsAscii}
use Rattle.archive_check.proofs.format.bytes.any_bits.Given as goal

abbrev pub invariant-loop-k : goal.invariant-loop-k
invariant-loop-k l = l.bits < 128 → IsAscii (take l.k l.bytes)
