use Rattle.std.proofs.Common.{take}
use Rattle.archive_inspect.specs.Described.{Tiles}
use Rattle.archive_inspect.proofs.describe.are_tiles.Given as goal

abbrev pub invariant-loop-index : goal.invariant-loop-index
invariant-loop-index l = Tiles (take l.index l.pieces) l.end
