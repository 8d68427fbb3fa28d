-- A list that a record may have, and where an element of it stands.
use Rattle.archive_core.specs.Shape.{Shape, Pointee, vec}
use Rattle.archive_core.specs.ArchivePointee as ArchivePointee
use Rattle.archive_core.specs.Choices.{option_shape}
use Rattle.archive_core.specs.SealsKept.{ComesWith}
use Rattle.archive_core.specs.Standing.{view}
use Rattle.archive_core.specs.declared.seal.Spot.{Spot}
use Rattle.archive_core.specs.Ref.{Ref}

-- Nothing, or elements.
abbrev pub optional_list : Shape → Shape
optional_list X = option_shape (vec X)

-- Wherever seals come to what the view shows, they come to the P at the spot.
abbrev pub SpotBeside : {T M U : Type 0} {g : ArchivePointee.Ghosts T M} → Pointee → Spot U → Ref T M g → Type 0
SpotBeside {g = g} P s v = ComesWith g.definitions v.bytes.now (view v.pos g.pointee v.len) (view s.pos P s.len)
