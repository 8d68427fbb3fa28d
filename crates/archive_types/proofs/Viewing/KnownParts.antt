-- What is viewed under some definitions is viewed under those that they bring.
use Rattle.std.proofs.Common.{ℕ, List}
use Rattle.std.proofs.Math.Logic.{∥∥₁_map}
use Rattle.archive_check.specs.Definitions.{Definitions}
use Rattle.archive_check.specs.Shape.{Pointee}
use Rattle.archive_check.specs.Viewed.{Viewed}
use Rattle.archive_types.specs.Members.KnownParts.{KnowsAlso}

pub viewed_also : {D F : Definitions} {bytes : List ℕ} {p n : ℕ} {P : Pointee} → KnowsAlso D F → Viewed D bytes p P n → Viewed F bytes p P n
viewed_also also v = ∥∥₁_map v (λ (s, k, l). (s, also s k, l))
