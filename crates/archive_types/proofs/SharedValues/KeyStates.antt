-- The states of keys, where that of one is set.
use Rattle.std.proofs.Common.{◌≡◌, ℕ, ◌∙◌}
use Rattle.std.proofs.lemmas.Map.{update_here, update_apart}
use Rattle.archive_check.specs.WriterState.{KeyState, KeyStates}
use Rattle.archive_write.specs.Sharing.{IsSet}

-- it is this one now
pub set_here : (f g : KeyStates) (key : ℕ) (x : KeyState) → IsSet f key x g → g key ≡ x
set_here f g key x h = h key ∙ update_here f key x

-- and the others are as before
pub set_other : (f g : KeyStates) (key : ℕ) (x : KeyState) → IsSet f key x g → (k : ℕ) → (k ≡ key → ⊥) → g k ≡ f k
set_other f g key x h k n = h k ∙ update_apart f key x k n
