-- Arrays: their layout, and the laws of their types, from those of an element.
use Rattle.std.specs.Prelude.{◌≡◌, ℕ, ◌*◌, Bool, ◌&&◌, Some, IsTrue, nat_lt}
use Rattle.std.proofs.Common.{refl, arith}
use Rattle.std.proofs.lemmas.Bool.{and_parts}
use Rattle.std.proofs.lemmas.Bool.Decides.{nat_tests}
use Rattle.archive_check.specs.Shape.{Shape, array}
use Rattle.archive_check.specs.Layout.{Layout}
use Rattle.archive_check.specs.Defined.{mentions_array}
use Rattle.archive_check.specs.Definitions.{Definitions, NoOthers, HasLayout}
use Rattle.archive_check.specs.Members.NoOthers.{around_reached}
use Rattle.archive_check.specs.SelfCheck.Laws.{IsCheckOf, own_check}
use Rattle.archive_check.specs.SelfCheck.Owners.{owned_order}
use Rattle.archive_check.specs.Words.BoundedSizes.{fits}

-- n elements, one behind another.
abbrev pub array_layout : ℕ → Layout → Layout
array_layout n L = record { size = n * L.size; align = L.align }

-- Whether an array checks itself: its elements do, and its size is below usize::MAX.
abbrev pub array_direct : Bool → ℕ → Layout → Bool
array_direct direct n L = direct && nat_lt (n * L.size) 18446744073709551615

small_fits : (n : ℕ) → IsTrue (nat_lt n 18446744073709551615) → fits n ≡ Some n
small_fits n h = grind (arith, nat_tests)

module _ (n : ℕ) (D : Definitions) (X : Shape) (L : Layout) where
  pub array_has_layout : HasLayout D X L → HasLayout D (array n X) (array_layout n L)
  array_has_layout h = record { solved = λ s k. (let l = h.solved s k in λ i. record { size = n * (l i).size; align = (l i).align }) }

  pub array_reaches : NoOthers D X → NoOthers D (array n X)
  array_reaches h = around_reached D X (array n X) (λ name m. mentions_array m) h

  -- Where its elements check themselves.
  pub array_check : (direct : Bool) (E : Definitions) (Y : Shape) (m : ℕ) (nameless : Bool) → (IsTrue direct → IsCheckOf D X L.size E Y m nameless) → IsTrue (array_direct direct n L)
      → IsCheckOf D (array n X) (n * L.size) D (array n X) (n * L.size) nameless
  array_check direct E Y m nameless h says =
      let (own, small) = and_parts direct (nat_lt (n * L.size) 18446744073709551615) says in
      let i = h own in
      own_check D (array n X) (n * L.size) i.order nameless (small_fits (n * L.size) small) (owned_order D X (array n X) i.order refl i.ordered) i.plain
