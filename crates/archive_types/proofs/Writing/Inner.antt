-- The region of a value that was serialized before, and a box of it.
use Rattle.std.proofs.Common.{◌≡◌, inl, inr, ℕ, ◌+◌, ◌<◌, ◌≤◌, List, length}
use Rattle.archive_check.specs.Shape.{Shape, one}
use Rattle.archive_check.specs.Layout.{Layout}
use Rattle.archive_check.specs.Definitions.{Definitions, HasLayout, IsAlign}
use Rattle.archive_check.specs.Value.{Value}
use Rattle.archive_check.specs.WriterState.{WriterState, Pads}
use Rattle.archive_check.specs.declared.format.error.Error.{Error}
use Rattle.archive_check.specs.declared.format.error.Error.TheVariants.{PositionTooLarge}
use Rattle.archive_check.specs.Denotes.{Naming}
use Rattle.archive_write.specs.Written.{GoesOn, ExplainsRefusal, padding}
use Rattle.archive_types.specs.Writing.{Puts}
use Rattle.archive_types.specs.Causes.{Explains, HindersRegionAt, IsOwnCause, of_layout, IsOfWriting}
use Rattle.archive_types.specs.Inner.{IsBoxed, IsPutAt, IsNotBoxed}
use Rattle.archive_types.proofs.Planning.Causes.{goes_both, explains_write, explains_named}
use Rattle.archive_types.proofs.Planning.Planned.{serialized_one, one_padded, one_hindered}
use Rattle.archive_types.proofs.Planning.Owners.{serialized_box, box_refused, far_box_refused}

module _ (D : Definitions) (X : Shape) (ks : List Naming) (v flat : Value) (L : Layout) where
  pub boxed_there : (t : ℕ) (mid low new : WriterState) → Pads L.align mid low → Puts D low new X L flat → t ≡ length low.bytes → IsBoxed D X ks v flat t mid new
  boxed_there t mid low new pads puts at = record { since = λ old g h. serialized_box D (one X) 0 ks v t old new (serialized_one D X ks v flat L t old mid low new h pads puts at) }

  -- there is no room for the padding
  pub unpadded : (position : ℕ) (mid new : WriterState) (e : Error) → IsAlign L.align → HasLayout D X L → position ≡ length mid.bytes → GoesOn mid new
      → ExplainsRefusal (padding L.align position) position (length new.bytes) mid.room mid.failures new.failures e → IsNotBoxed D X ks v flat mid new e
  unpadded position mid new e is layout at k refusal = record { since = λ old g h. box_refused D (one X) 0 ks v old new e (one_padded D X ks v flat L position old mid new e is layout h g at k refusal) }

  -- the region isn't written
  pub unresolved : (mid low new : WriterState) (e : Error) → HasLayout D X L → Pads L.align mid low → GoesOn mid low → GoesOn low new
      → Explains (HindersRegionAt D X L flat (length low.bytes)) (λ m. m ≤ length low.bytes + L.size) low new e → IsNotBoxed D X ks v flat mid new e
  unresolved mid low new e layout pads g k refused = record { since = λ old f h. box_refused D (one X) 0 ks v old new e (one_hindered D X ks v flat L old mid low new e layout h pads (goes_both old mid low f g) k refused) }

  -- it stands above 4,294,967,295
  pub too_far_inner : (t : ℕ) (mid low new : WriterState) → 4294967295 < t → Pads L.align mid low → Puts D low new X L flat → t ≡ length low.bytes → IsNotBoxed D X ks v flat mid new PositionTooLarge
  too_far_inner t mid low new far pads puts at = record { since = λ old g h. far_box_refused D (one X) 0 ks v t old new far (serialized_one D X ks v flat L t old mid low new h pads puts at) }

pub put_there : {D : Definitions} {X : Shape} {L : Layout} {flat : Value} {t : ℕ} {mid low new : WriterState} → Pads L.align mid low → Puts D low new X L flat → t ≡ length low.bytes → IsPutAt D X L flat t mid new
put_there {low = low} pads puts at = record { low = low; pads = pads; at = at; puts = puts }

-- a refusal has the number of one of writing: of zeros in front, and of the region

pub padding_number : (n position : ℕ) {mid new : WriterState} {e : Error} → position ≡ length mid.bytes → GoesOn mid new → ExplainsRefusal n position (length new.bytes) mid.room mid.failures new.failures e → IsOfWriting e
padding_number n position {mid = mid} {new = new} {e = e} at g refusal =
    explains_named (λ d. ⊥) (λ m. Unit {0}) mid new e (λ d h. absurd h) (explains_write (λ d. ⊥) (λ m. Unit {0}) n position mid new e at tt g refusal)

region_named : (D : Definitions) (X : Shape) (L : Layout) (flat : Value) (p : ℕ) (d : Error) → HindersRegionAt D X L flat p d → IsOwnCause d
region_named D X L flat p d (inl h) = rw h.0 of_layout
region_named D X L flat p d (inr h) = h.named

pub region_number : (D : Definitions) (X : Shape) (L : Layout) (flat : Value) (p : ℕ) (reaches : ℕ → Type 0) (low new : WriterState) (e : Error)
    → Explains (HindersRegionAt D X L flat p) reaches low new e → IsOfWriting e
region_number D X L flat p reaches low new e h = explains_named (HindersRegionAt D X L flat p) reaches low new e (region_named D X L flat p) h
