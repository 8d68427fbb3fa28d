-- The laws of comparisons and hashes of options and results, from those of what they hold.
use Rattle.std.specs.Prelude.{◌≡◌, ℕ, Bool, true, IsTrue, List, ◌++◌, Option, None, Some, Result, Ok, Err, pos}
use Rattle.std.proofs.Common.{refl, sym, ap}
use mathlib.Core.Bool.{true≢false}
use Rattle.std.specs.Option.{option_eq, option_cmp, option_partial_cmp}
use Rattle.std.specs.Result.{result_eq, result_cmp, result_partial_cmp}
use Rattle.std.specs.Ordering.{is_eq, is_gt, is_some_and, eq_by_cmp}
use Rattle.std.specs.Hash as fed
use Rattle.std.specs.Cmp.{IsPartialEquivalence, IsEquivalence, IsPartialOrder, IsTotalOrder, Agrees, total, equiv, partial_equiv_from_equiv, partial_order_from_total}
use Rattle.std.specs.declared.cmp.Ordering.{Ordering}

-- results: an `Ok` is less than an `Err`

module _ {T E : Type 0} where
  pub results_per : {A : T → T → Bool} {B : E → E → Bool} → IsPartialEquivalence A → IsPartialEquivalence B → IsPartialEquivalence (result_eq A B)
  results_per {A = A} {B = B} a b = record { symm = symm; trans = trans }
    where
      symm : (x y : Result T E) → result_eq A B x y ≡ result_eq A B y x
      symm (Ok x) (Ok y) = a.symm x y
      symm (Ok x) (Err d) = refl
      symm (Err e) (Ok y) = refl
      symm (Err e) (Err d) = b.symm e d

      trans : (x y z : Result T E) → result_eq A B x y ≡ true → result_eq A B y z ≡ true → result_eq A B x z ≡ true
      trans (Ok x) (Ok y) (Ok z) h k = a.trans x y z h k
      trans (Ok x) (Ok y) (Err f) h k = k
      trans (Ok x) (Err d) z h k = absurd (true≢false (sym h))
      trans (Err e) (Ok y) z h k = absurd (true≢false (sym h))
      trans (Err e) (Err d) (Ok z) h k = k
      trans (Err e) (Err d) (Err f) h k = b.trans e d f h k

  pub results_equiv : {A : T → T → Bool} {B : E → E → Bool} → IsEquivalence A → IsEquivalence B → IsEquivalence (result_eq A B)
  results_equiv {A = A} {B = B} a b = equiv (results_per (partial_equiv_from_equiv a) (partial_equiv_from_equiv b)) itself
    where
      itself : (x : Result T E) → result_eq A B x x ≡ true
      itself (Ok x) = a.refl x
      itself (Err e) = b.refl e

  pub results_po : {A : T → T → Bool} {B : E → E → Bool} {C : T → T → Option Ordering} {D : E → E → Option Ordering} → IsPartialOrder A C → IsPartialOrder B D
      → IsPartialOrder (result_eq A B) (result_partial_cmp C D)
  results_po o p = record {
    antisymm = elim [
      | Ok x ↦ elim [ Ok y ↦ o.antisymm x y | Err d ↦ refl ]
      | Err e ↦ elim [ Ok y ↦ refl | Err d ↦ p.antisymm e d ]
    ];
    trans = elim [
      | Ok x ↦ elim [
        | Ok y ↦ elim [ Ok z ↦ o.trans x y z | Err f ↦ λ h k. refl ]
        | Err d ↦ elim [ Ok z ↦ λ h k. absurd (true≢false (ap (is_some_and is_gt) k)) | Err f ↦ λ h k. refl ]
      ]
      | Err e ↦ elim [
        | Ok y ↦ λ z h k. absurd (true≢false (ap (is_some_and is_gt) h))
        | Err d ↦ elim [ Ok z ↦ λ h k. absurd (true≢false (ap (is_some_and is_gt) k)) | Err f ↦ p.trans e d f ]
      ]
    ];
    matches_eq = elim [
      | Ok x ↦ elim [ Ok y ↦ o.matches_eq x y | Err d ↦ (λ e. absurd (true≢false (sym e)), λ e. ap (is_some_and is_eq) e) ]
      | Err e ↦ elim [ Ok y ↦ (λ e. absurd (true≢false (sym e)), λ e. ap (is_some_and is_eq) e) | Err d ↦ p.matches_eq e d ]
    ];
    congr = elim [
      | Ok x ↦ elim [
        | Ok y ↦ elim [ Ok z ↦ o.congr x y z | Err f ↦ λ h. refl ]
        | Err d ↦ λ z h. absurd (true≢false (sym h))
      ]
      | Err e ↦ elim [
        | Ok y ↦ λ z h. absurd (true≢false (sym h))
        | Err d ↦ elim [ Ok z ↦ λ h. refl | Err f ↦ p.congr e d f ]
      ]
    ];
  }

  pub results_agree : {C : T → T → Option Ordering} {D : E → E → Option Ordering} {R : T → T → Ordering} {S : E → E → Ordering} → Agrees C R → Agrees D S
      → Agrees (result_partial_cmp C D) (result_cmp R S)
  results_agree a b (Ok x) (Ok y) = a x y
  results_agree a b (Ok x) (Err d) = refl
  results_agree a b (Err e) (Ok y) = refl
  results_agree a b (Err e) (Err d) = b e d

  pub results_total : {R : T → T → Ordering} {S : E → E → Ordering} → IsTotalOrder R → IsTotalOrder S → IsTotalOrder (result_cmp R S)
  results_total o p = total (results_po (partial_order_from_total o) (partial_order_from_total p)) (results_agree (λ x y. refl) (λ x y. refl))

  pub results_tie : {A : T → T → Bool} {B : E → E → Bool} (R : T → T → Ordering) (S : E → E → Ordering) → ((x y : T) → A x y ≡ eq_by_cmp R x y) → ((x y : E) → B x y ≡ eq_by_cmp S x y)
      → (x y : Result T E) → result_eq A B x y ≡ eq_by_cmp (result_cmp R S) x y
  results_tie R S a b (Ok x) (Ok y) = a x y
  results_tie R S a b (Ok x) (Err d) = refl
  results_tie R S a b (Err e) (Ok y) = refl
  results_tie R S a b (Err e) (Err d) = b e d

  pub results_fed : {A : T → T → Bool} {B : E → E → Bool} (F : T → List (List ℕ)) (G : E → List (List ℕ)) → ((x y : T) → IsTrue (A x y) → F x ≡ F y) → ((x y : E) → IsTrue (B x y) → G x ≡ G y)
      → (x y : Result T E) → IsTrue (result_eq A B x y) → fed.result F G x ≡ fed.result F G y
  results_fed F G a b (Ok x) (Ok y) h = ap (λ us. fed.isize (pos 0) ++ us) (a x y h)
  results_fed F G a b (Ok x) (Err d) h = absurd (true≢false (sym h))
  results_fed F G a b (Err e) (Ok y) h = absurd (true≢false (sym h))
  results_fed F G a b (Err e) (Err d) h = ap (λ us. fed.isize (pos 1) ++ us) (b e d h)

-- options: a `None` is less than a `Some`

module _ {T : Type 0} where
  pub options_per : {A : T → T → Bool} → IsPartialEquivalence A → IsPartialEquivalence (option_eq A)
  options_per a = record {
    symm = elim [
      | None ↦ elim [ None ↦ refl | Some y ↦ refl ]
      | Some x ↦ elim [ None ↦ refl | Some y ↦ a.symm x y ]
    ];
    trans = elim [
      | None ↦ elim [ None ↦ λ z h k. k | Some y ↦ λ z h k. absurd (true≢false (sym h)) ]
      | Some x ↦ elim [
        | None ↦ λ z h k. absurd (true≢false (sym h))
        | Some y ↦ elim [ None ↦ λ h k. k | Some z ↦ a.trans x y z ]
      ]
    ];
  }

  pub options_po : {A : T → T → Bool} {C : T → T → Option Ordering} → IsPartialOrder A C → IsPartialOrder (option_eq A) (option_partial_cmp C)
  options_po o = record {
    antisymm = elim [
      | None ↦ elim [ None ↦ refl | Some y ↦ refl ]
      | Some x ↦ elim [ None ↦ refl | Some y ↦ o.antisymm x y ]
    ];
    trans = elim [
      | None ↦ elim [
        | None ↦ λ z h k. k
        | Some y ↦ elim [ None ↦ λ h k. absurd (true≢false (ap (is_some_and is_gt) k)) | Some z ↦ λ h k. refl ]
      ]
      | Some x ↦ elim [
        | None ↦ λ z h k. absurd (true≢false (ap (is_some_and is_gt) h))
        | Some y ↦ elim [ None ↦ λ h k. absurd (true≢false (ap (is_some_and is_gt) k)) | Some z ↦ o.trans x y z ]
      ]
    ];
    matches_eq = elim [
      | None ↦ elim [ None ↦ (λ e. refl, λ e. refl) | Some y ↦ (λ e. absurd (true≢false (sym e)), λ e. ap (is_some_and is_eq) e) ]
      | Some x ↦ elim [ None ↦ (λ e. absurd (true≢false (sym e)), λ e. ap (is_some_and is_eq) e) | Some y ↦ o.matches_eq x y ]
    ];
    congr = elim [
      | None ↦ elim [ None ↦ λ z h. refl | Some y ↦ λ z h. absurd (true≢false (sym h)) ]
      | Some x ↦ elim [
        | None ↦ λ z h. absurd (true≢false (sym h))
        | Some y ↦ elim [ None ↦ λ h. refl | Some z ↦ o.congr x y z ]
      ]
    ];
  }

  pub options_agree : {C : T → T → Option Ordering} {R : T → T → Ordering} → Agrees C R → Agrees (option_partial_cmp C) (option_cmp R)
  options_agree a None None = refl
  options_agree a None (Some y) = refl
  options_agree a (Some x) None = refl
  options_agree a (Some x) (Some y) = a x y

  pub options_tie : {A : T → T → Bool} (R : T → T → Ordering) → ((x y : T) → A x y ≡ eq_by_cmp R x y) → (x y : Option T) → option_eq A x y ≡ eq_by_cmp (option_cmp R) x y
  options_tie R a None None = refl
  options_tie R a None (Some y) = refl
  options_tie R a (Some x) None = refl
  options_tie R a (Some x) (Some y) = a x y

  pub options_fed : {A : T → T → Bool} (F : T → List (List ℕ)) → ((x y : T) → IsTrue (A x y) → F x ≡ F y) → (x y : Option T) → IsTrue (option_eq A x y) → fed.option F x ≡ fed.option F y
  options_fed F a None None h = refl
  options_fed F a None (Some y) h = absurd (true≢false (sym h))
  options_fed F a (Some x) None h = absurd (true≢false (sym h))
  options_fed F a (Some x) (Some y) h = ap (λ us. fed.isize (pos 1) ++ us) (a x y h)
