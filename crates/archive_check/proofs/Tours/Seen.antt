-- What a map by position has, with one entry more.
use Rattle.std.proofs.Common.{◌≡◌, ℕ, Option, Some, None, Bool, true, false, cond, nat_cmp, refl, ap, ◌∙◌}
use Rattle.std.proofs.lemmas.Bool.{false_from_ne_true}
use Rattle.std.specs.FinMap.{FinMap, get, insert, get-insert, nat_cmp-IsAntisymmetric}
use Rattle.std.specs.Cmp.{nat_cmp_total, eq_by_cmp_equiv, Equal-is}
use Rattle.std.specs.Ordering.{eq_by_cmp}
use Rattle.archive_check.specs.Tour.{Entry, Seen}

-- a key has one entry
pub same_some : {A : Type 0} {a b : A} → ◌≡◌ {A = Option A} (Some a) (Some b) → a ≡ b
same_some e = cc

-- keys that the map doesn't tell apart are one
pub same_key : (q t : ℕ) → eq_by_cmp nat_cmp q t ≡ true → q ≡ t
same_key q t e = nat_cmp-IsAntisymmetric q t ((Equal-is (nat_cmp q t)).0 e)

pub inserted_has : {X : Type 0} (m : FinMap nat_cmp X) (t : ℕ) (x : X) → get (insert m t x) t ≡ Some x
inserted_has m t x = get-insert nat_cmp_total m t x t ∙ ap (λ b. cond b (Some x) (get m t)) ((eq_by_cmp_equiv nat_cmp_total).refl t)

pub inserted_apart : {X : Type 0} (m : FinMap nat_cmp X) (t q : ℕ) (x : X) → (q ≡ t → ⊥) → get (insert m t x) q ≡ get m q
inserted_apart m t q x other = get-insert nat_cmp_total m t x q ∙ ap (λ b. cond b (Some x) (get m q)) (false_from_ne_true (eq_by_cmp nat_cmp q t) (λ s. other (same_key q t s)))

pub inserted_keeps : (seen : Seen) (t : ℕ) (e : Entry) (q : ℕ) (f : Entry) → get seen t ≡ None → get seen q ≡ Some f → get (insert seen t e) q ≡ Some f
inserted_keeps seen t e q f none h = rw (get-insert nat_cmp_total seen t e q) (by_key (eq_by_cmp nat_cmp q t) refl)
  where
    by_key : (b : Bool) → eq_by_cmp nat_cmp q t ≡ b → cond b (Some e) (get seen q) ≡ Some f
    by_key true is = let here : q ≡ t = same_key q t is in cc (rw here at h)
    by_key false is = h
