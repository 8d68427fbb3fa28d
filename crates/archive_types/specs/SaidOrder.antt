-- The order of two views, by what is said of what they show.
use Rattle.std.specs.Prelude.{◌≡◌, ℕ}
use Rattle.std.specs.declared.cmp.Ordering.{Ordering}
use Rattle.archive_check.specs.Reached.{Names}
use Rattle.archive_check.specs.Value.{Value}
use Rattle.archive_check.specs.declared.format.traits.ArchivePointee as ArchivePointee
use Rattle.archive_types.specs.Words.Seen.{ShowsValue}
use Rattle.archive_types.specs.ValueOrder.{value_cmp}
use Rattle.archive_types.specs.declared.view.Ref.{Ref}

-- No name of a shared value stands in it.
abbrev pub SharesNothing : Value → Type 0
SharesNothing w = (t : ℕ) → Names t w → ⊥

-- r is the order of the values that the archives say of what two views show, where these share nothing.
abbrev pub OrdersSaid : {T M : Type 0} {g : ArchivePointee.Ghosts T M} → Ref T M g → Ref T M g → Ordering → Type 0
OrdersSaid a b r = (v w : Value) → ShowsValue a v → ShowsValue b w → SharesNothing v → SharesNothing w → r ≡ value_cmp v w
