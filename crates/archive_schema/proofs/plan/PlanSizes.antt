-- What the nodes of a plan take, and so many of them.
use Rattle.std.proofs.Common.{◌≡◌, ℕ, sym, ap, ◌∙◌, ◌*◌, ◌<◌, ◌≤◌, arith, Option, Some, None, suc, zero}
use Rattle.archive_schema.specs.declared.check.Checker.{Checker}
use Rattle.archive_check.specs.Words.BoundedSizes.{times, fits}
use Rattle.archive_check.specs.declared.format.expr.Key.{Key as KeyExpr}
use Rattle.archive_schema.specs.declared.plan.PointeeKind.TheVariants.{Entries}
use Rattle.archive_schema.specs.check.Runs.{Takes, EntryTakes, unit_size}
use Rattle.archive_schema.specs.plan.Represents.{Sized}
use Rattle.archive_check.proofs.Elements.{same_at}
use Rattle.archive_check.proofs.BoundedSizes.{fits_some, some_is, some_below, none_is, times_fits}

pub take_same : {m : Checker} {j y z : ℕ} → Takes m j y → Takes m j z → y ≡ z
take_same {y = y} {z = z} t u = let same : Some y ≡ Some z = sym t.size_is ∙ ap (λ q. q.size) (same_at t.at u.at) ∙ u.size_is in cc

pub entry_sizes : {m : Checker} {key : KeyExpr} {j a b y z : ℕ} → EntryTakes m key j a y → EntryTakes m key j b z → y ≡ z
entry_sizes {key = key} {y = y} {z = z} t u =
    let both : Some y ≡ Some z = sym t.size_is ∙ ap (λ q. unit_size (Entries key) q) (same_at t.at u.at) ∙ u.size_is in cc

-- so many of a size that may not fit
pub times_some : (size n z : ℕ) (o : Option ℕ) → o ≡ fits size → times o n ≡ Some z → (z ≡ n * size) × (z < 18446744073709551616)
times_some size n z o e h =
    let all : fits (n * size) ≡ Some z = sym (times_fits size n) ∙ ap (λ p. times p n) (sym e) ∙ h in
    (sym (some_is all), some_below (n * size) all)

pub times_many : (size n : ℕ) (o : Option ℕ) → o ≡ fits size → times o n ≡ None → 18446744073709551616 ≤ n * size
times_many size n o e h = none_is (sym (times_fits size n) ∙ ap (λ p. times p n) (sym e) ∙ h)

-- a size that fits is taken
pub sized_takes : {m : Checker} {j size align : ℕ} → Sized m j size align → size < 18446744073709551616 → Takes m j size
sized_takes {size = size} k few = record { node = k.node; at = k.at; size_is = k.size_is ∙ fits_some size few }

-- one of some is no more than all
pub element_few : (n l z size : ℕ) → n ≡ l → z ≡ l * size → z < 18446744073709551616 → 0 < z → size < 18446744073709551616
element_few n zero z size c e few lt = absurd (omega (arith, e))
element_few n (suc l) z size c e few lt = omega (arith, e)
