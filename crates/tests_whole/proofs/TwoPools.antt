-- What a call on one of two pools does to both, where the other one doesn't know the position.
use Rattle.std.proofs.Common.{◌≡◌, ◌⊎◌, inl, inr, ℕ, refl, sym, ap, ◌∙◌, Option, Some, None, Result, Ok, Err, IfOk, OnOk, OnErr}
use Rattle.std.specs.Prelude.{is_some, true, false}
use Rattle.std.proofs.lemmas.Bool.{cases_eq}
use Rattle.std.proofs.lemmas.Map.{update_here, update_apart}
use Rattle.archive_core.specs.Pooled.{Kept, EntryState, Entries, pooled}
use Rattle.archive_core.specs.Pooling.{IsPut, IsSame}
use Rattle.tests_whole.specs.TwoPools.{either_known, both_pools}

-- what is unknown to one of them is known as the other one knows it
pub unknown_first : (a b : Entries) (t : ℕ) → is_some (a t) ≡ false → both_pools a b t ≡ b t
unknown_first a b t none = go (a t) none
  where
    go : (x : EntryState) → is_some x ≡ false → either_known x (b t) ≡ b t
    go None e = refl
    go (Some known) e = cc

pub unknown_second : (a b : Entries) (t : ℕ) → is_some (b t) ≡ false → both_pools a b t ≡ a t
unknown_second a b t none = go (a t) (b t) none
  where
    go : (x y : EntryState) → is_some y ≡ false → either_known x y ≡ x
    go None None e = refl
    go None (Some known) e = cc
    go (Some known) y e = refl

-- a position that the first one puts is put in both
put_known : (a c b : Entries) (t : ℕ) (known : Option Kept) → IsPut a t (Some known) c → IsPut (both_pools a b) t (Some known) (both_pools c b)
put_known a c b t known put u = elim (cases_eq u t) [
  | inl eq ↦ rw eq ((let here : c t ≡ Some known = put t ∙ update_here a t (Some known) in ap (λ x. either_known x (b t)) here) ∙ sym (update_here (both_pools a b) t (Some known)))
  | inr n ↦ (let there : c u ≡ a u = put u ∙ update_apart a t (Some known) u n in ap (λ x. either_known x (b u)) there) ∙ sym (update_apart (both_pools a b) t (Some known) u n)
]

pub put_first : (a c b : Entries) (t : ℕ) (state : EntryState) → is_some state ≡ true → IsPut a t state c → IsPut (both_pools a b) t state (both_pools c b)
put_first a c b t None some put = cc
put_first a c b t (Some known) some put = put_known a c b t known put

-- and so is one that the second one puts, where the first one doesn't know it
pub put_second : (a b c : Entries) (t : ℕ) (state : EntryState) → is_some (a t) ≡ false → IsPut b t state c → IsPut (both_pools a b) t state (both_pools a c)
put_second a b c t state none put u = elim (cases_eq u t) [
  | inl eq ↦ rw eq (unknown_first a c t none ∙ put t ∙ update_here b t state ∙ sym (update_here (both_pools a b) t state))
  | inr n ↦ (let there : c u ≡ b u = put u ∙ update_apart b t state u n in ap (λ y. either_known (a u) y) there) ∙ sym (update_apart (both_pools a b) t state u n)
]

-- a start makes a position known
pub pooled_known : (x : EntryState) → is_some (pooled x) ≡ true
pooled_known None = refl
pooled_known (Some known) = refl

-- where the other one doesn't know it, as it is known to both
pub started_first : (a c b : Entries) (t : ℕ) → is_some (b t) ≡ false → IsPut a t (pooled (a t)) c → IsPut (both_pools a b) t (pooled (both_pools a b t)) (both_pools c b)
started_first a c b t none put = rw (unknown_second a b t none) (put_first a c b t (pooled (a t)) (pooled_known (a t)) put)

pub started_second : (a b c : Entries) (t : ℕ) → is_some (a t) ≡ false → IsPut b t (pooled (b t)) c → IsPut (both_pools a b) t (pooled (both_pools a b t)) (both_pools a c)
started_second a b c t none put = rw (unknown_first a b t none) (put_second a b c t (pooled (b t)) none put)

-- nothing changes in both where nothing changes in either
pub same_first : (a c b : Entries) → IsSame a c → IsSame (both_pools a b) (both_pools c b)
same_first a c b same u = ap (λ x. either_known x (b u)) (same u)

pub same_second : (a b c : Entries) → IsSame b c → IsSame (both_pools a b) (both_pools a c)
same_second a b c same u = ap (λ y. either_known (a u) y) (same u)
