-- When a key is below another one, as a test tells.
use Rattle.std.proofs.Common.{◌≡◌, ◌↔◌, ℕ, ℤ, pos, refl, Bool, true, false, cond, IsTrue, nat_lt}
use Rattle.std.specs.declared.cmp.Ordering.{Ordering}
use Rattle.std.specs.declared.cmp.Ordering.TheVariants.{Less, Equal, Greater}
use Rattle.std.specs.Ordering.{is_lt, int_cmp}
use Rattle.std.specs.Prelude.{int_lt}

below : (t u : Bool) → IsTrue t ↔ cond t Less (cond u Greater Equal) ≡ Less
below true u = (λ h. refl, λ e. refl)
below false true = (λ h. cc, λ e. cc)
below false false = (λ h. cc, λ e. cc)

pub signed_below : (x y : ℤ) → IsTrue (int_lt x y) ↔ int_cmp x y ≡ Less
signed_below x y = below (int_lt x y) (int_lt y x)

pub unsigned_below : (a b : ℕ) → IsTrue (nat_lt a b) ↔ int_cmp (pos a) (pos b) ≡ Less
unsigned_below a b = below (nat_lt a b) (nat_lt b a)

pub less_told : (r : Ordering) → IsTrue (is_lt r) ↔ r ≡ Less
less_told Less = (λ h. refl, λ e. refl)
less_told Equal = (λ h. cc, λ e. cc)
less_told Greater = (λ h. cc, λ e. cc)

pub ruleset key_order = (signed_below, unsigned_below, less_told)
