use Rattle.std.proofs.Common.{◌≡◌, length, All, take}
use Rattle.archive_types.proofs.array.sources.each_is_whole.Given as goal

abbrev pub invariant-loop-array : goal.invariant-loop-array
invariant-loop-array g l = All (λ v. length v ≡ g.row.N) (take l.array-index l.arrays)
