-- What is compared or hashed through references is what they lead to.
use Rattle.std.proofs.Common.{◌≡◌, ℕ, Bool, List, Option, Some, None, Result, Ok, Err, refl}
use Rattle.std.specs.Option.{option_copied, option_eq, option_cmp, option_partial_cmp}
use Rattle.std.specs.Result.{result_copied, result_eq, result_cmp, result_partial_cmp}
use Rattle.std.specs.Hash as fed
use Rattle.std.specs.declared.cmp.Ordering.{Ordering}
use denote.Ref.{Bor}

module _ {T : Type 0} where
  pub options_equal : (E : T → T → Bool) (p q : Option (Bor T)) → option_eq (λ x y. E x.now y.now) p q ≡ option_eq E (option_copied p) (option_copied q)
  options_equal E None None = refl
  options_equal E None (Some y) = refl
  options_equal E (Some x) None = refl
  options_equal E (Some x) (Some y) = refl

  pub options_partly_ordered : (C : T → T → Option Ordering) (p q : Option (Bor T)) → option_partial_cmp (λ x y. C x.now y.now) p q ≡ option_partial_cmp C (option_copied p) (option_copied q)
  options_partly_ordered C None None = refl
  options_partly_ordered C None (Some y) = refl
  options_partly_ordered C (Some x) None = refl
  options_partly_ordered C (Some x) (Some y) = refl

  pub options_ordered : (R : T → T → Ordering) (p q : Option (Bor T)) → option_cmp (λ x y. R x.now y.now) p q ≡ option_cmp R (option_copied p) (option_copied q)
  options_ordered R None None = refl
  options_ordered R None (Some y) = refl
  options_ordered R (Some x) None = refl
  options_ordered R (Some x) (Some y) = refl

  pub option_fed : (F : T → List (List ℕ)) (p : Option (Bor T)) → fed.option (λ x. F x.now) p ≡ fed.option F (option_copied p)
  option_fed F None = refl
  option_fed F (Some x) = refl

module _ {T E : Type 0} where
  pub results_equal : (A : T → T → Bool) (B : E → E → Bool) (p q : Result (Bor T) (Bor E)) → result_eq (λ x y. A x.now y.now) (λ x y. B x.now y.now) p q ≡ result_eq A B (result_copied p) (result_copied q)
  results_equal A B (Ok x) (Ok y) = refl
  results_equal A B (Ok x) (Err d) = refl
  results_equal A B (Err e) (Ok y) = refl
  results_equal A B (Err e) (Err d) = refl

  pub results_partly_ordered : (A : T → T → Option Ordering) (B : E → E → Option Ordering) (p q : Result (Bor T) (Bor E))
      → result_partial_cmp (λ x y. A x.now y.now) (λ x y. B x.now y.now) p q ≡ result_partial_cmp A B (result_copied p) (result_copied q)
  results_partly_ordered A B (Ok x) (Ok y) = refl
  results_partly_ordered A B (Ok x) (Err d) = refl
  results_partly_ordered A B (Err e) (Ok y) = refl
  results_partly_ordered A B (Err e) (Err d) = refl

  pub results_ordered : (A : T → T → Ordering) (B : E → E → Ordering) (p q : Result (Bor T) (Bor E)) → result_cmp (λ x y. A x.now y.now) (λ x y. B x.now y.now) p q ≡ result_cmp A B (result_copied p) (result_copied q)
  results_ordered A B (Ok x) (Ok y) = refl
  results_ordered A B (Ok x) (Err d) = refl
  results_ordered A B (Err e) (Ok y) = refl
  results_ordered A B (Err e) (Err d) = refl

  pub result_fed : (F : T → List (List ℕ)) (G : E → List (List ℕ)) (p : Result (Bor T) (Bor E)) → fed.result (λ x. F x.now) (λ x. G x.now) p ≡ fed.result F G (result_copied p)
  result_fed F G (Ok x) = refl
  result_fed F G (Err e) = refl
