-- What is said of what a view shows is what it means, where nothing is shared: so views are ordered by what is said.
use Rattle.std.proofs.Common.{◌≡◌, ℕ, List, ◌∙◌}
use Rattle.std.proofs.Math.Logic.{∥∥₁_elim, ∥∥₁_map}
use Rattle.std.specs.Ordering.{Ordering-set}
use Rattle.std.specs.declared.cmp.Ordering.{Ordering}
use Rattle.archive_check.specs.Shape.{Pointee}
use Rattle.archive_check.specs.Definitions.{Definitions}
use Rattle.archive_check.specs.Value.{Value, Values}
use Rattle.archive_check.specs.Reads.{SchemaTable}
use Rattle.archive_check.specs.Denotes.{Fills, fills_number, fills_product, fills_case, fills_list, fills_text, fills_box, fills_null, fills_shared_value, fills_unique, fills_shared, FillsAll, fills_no_value, fills_value}
use Rattle.archive_check.specs.Reached.{NamesAmong, names_itself, names_product, names_case, names_list, names_box, names_first, names_later}
use Rattle.archive_check.specs.Viewed.{Viewed, Says}
use Rattle.archive_check.proofs.Viewing.Viewed.{lies_reads}
use Rattle.archive_types.specs.Compared.{Standing, standing}
use Rattle.archive_types.specs.SaidOrder.{SharesNothing}
use Rattle.archive_types.specs.ValueOrder.{value_cmp, Follows, FollowsAll, follows_number, follows_product, follows_case, follows_list, follows_text, follows_box, follows_null, follows_pointer, follows_no_value, follows_value, Means, OrdersValues}

mutual
  follows_said : (s : SchemaTable) (bytes : List ℕ) {v w : Value} → Fills s bytes v w → SharesNothing w → Follows s bytes v w
  follows_said s bytes fills_number h = follows_number
  follows_said s bytes (fills_product f) h = follows_product (all_said s bytes f (λ t n. h t (names_product n)))
  follows_said s bytes (fills_case f) h = follows_case (all_said s bytes f (λ t n. h t (names_case n)))
  follows_said s bytes (fills_list f) h = follows_list (all_said s bytes f (λ t n. h t (names_list n)))
  follows_said s bytes fills_text h = follows_text
  follows_said s bytes (fills_box f) h = follows_box (follows_said s bytes f (λ t n. h t (names_box n)))
  follows_said s bytes fills_null h = follows_null
  follows_said s bytes (fills_shared_value {t = t}) h = absurd (h t names_itself)
  follows_said s bytes (fills_unique own leads f) h = follows_pointer leads (follows_said s bytes f h)
  follows_said s bytes (fills_shared {t = t} e is) h = absurd (h t names_itself)

  all_said : (s : SchemaTable) (bytes : List ℕ) {vs ws : Values} → FillsAll s bytes vs ws → ((t : ℕ) → NamesAmong t ws → ⊥) → FollowsAll s bytes vs ws
  all_said s bytes fills_no_value h = follows_no_value
  all_said s bytes (fills_value f g) h = follows_value (follows_said s bytes f (λ t n. h t (names_first n))) (all_said s bytes g (λ t n. h t (names_later n)))

-- what is said there, where nothing is shared, is what it means
pub says_as_meant : (D : Definitions) (P : Pointee) (bytes : List ℕ) (q n : ℕ) (w : Value) → Viewed D bytes q P n → Says D bytes q P n w → SharesNothing w → ∥ Means D P (standing bytes q n) w ∥₁
says_as_meant D P bytes q n w viewed says h = ∥∥₁_map viewed (λ (s, k, l).
    let r = lies_reads s bytes l in
    record { schema = s; value = r.0; knows = k; contents = r.1; follows = follows_said s bytes (says.fills s r.0 k l r.1) h })

pub order_said : (D : Definitions) (P : Pointee) (R : Standing → Standing → Ordering) → OrdersValues D P R → (a b : List ℕ) (p q m n : ℕ) (v w : Value) → Viewed D a p P m → Viewed D b q P n
    → Says D a p P m v → Says D b q P n w → SharesNothing v → SharesNothing w → R (standing a p m) (standing b q n) ≡ value_cmp v w
order_said D P R ordered a b p q m n v w first second says also h i =
    ∥∥₁_elim (says_as_meant D P a p m v first says h) (Ordering-set _ _) (λ x.
    ∥∥₁_elim (says_as_meant D P b q n w second also i) (Ordering-set _ _) (λ y. ordered (standing a p m) (standing b q n) v w x y))
