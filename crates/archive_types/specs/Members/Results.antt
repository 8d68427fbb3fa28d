-- Results as sources: what they mean, and their laws.
use Rattle.std.specs.Prelude.{List, Result, Ok, Err}
use Rattle.std.proofs.Common.{refl}
use Rattle.archive_check.specs.Shape.{Shape}
use Rattle.archive_check.specs.Definitions.{Definitions, both}
use Rattle.archive_check.specs.Members.PartsLayout.{knows_left, knows_right}
use Rattle.archive_check.specs.Value.{Value, case, no_value}
use Rattle.archive_check.specs.Denotes.{Naming}
use Rattle.archive_enum.specs.ResultShapes.{result_shape}
use Rattle.archive_types.specs.Writing.{IsKeyed}
use Rattle.archive_types.specs.Plans.{HasPlan}
use Rattle.archive_types.specs.Members.Variants.{case_of, one_keyed, case_planned}

-- Ok has the tag 0, Err the tag 1.
abbrev pub result_meaning : {A B : Type 0} → (A → Value) → (B → Value) → Result A B → Value
result_meaning m n (Ok x) = case_of 0 (m x)
result_meaning m n (Err e) = case_of 1 (n e)

abbrev pub result_keys : {A B : Type 0} → (A → List Naming) → (B → List Naming) → Result A B → List Naming
result_keys k l (Ok x) = k x
result_keys k l (Err e) = l e

-- What is read in its place, where its resolver is that of what it holds.
abbrev pub result_flat : {A B R S : Type 0} → (A → R → Value) → (B → S → Value) → Result A B → Result R S → Value
result_flat f g (Ok x) (Ok r) = case_of 0 (f x r)
result_flat f g (Ok x) (Err s) = case 0 no_value
result_flat f g (Err e) (Ok r) = case 1 no_value
result_flat f g (Err e) (Err s) = case_of 1 (g e s)

abbrev pub ResultBelongs : {A B R S : Type 0} → (A → R → Type 0) → (B → S → Type 0) → Result A B → Result R S → Type 0
ResultBelongs b c (Ok x) (Ok r) = b x r
ResultBelongs b c (Ok x) (Err s) = ⊥
ResultBelongs b c (Err e) (Ok r) = ⊥
ResultBelongs b c (Err e) (Err s) = c e s

module _ {A B : Type 0} (k : A → List Naming) (l : B → List Naming) (m : A → Value) (n : B → Value) where
  pub result_keyed : ((x : A) → IsKeyed (k x) (m x)) → ((e : B) → IsKeyed (l e) (n e)) → (r : Result A B) → IsKeyed (result_keys k l r) (result_meaning m n r)
  result_keyed h i (Ok x) = one_keyed (k x) 0 (m x) (h x)
  result_keyed h i (Err e) = one_keyed (l e) 1 (n e) (i e)

  pub result_planned : (D E : Definitions) (X Y : Shape) → ((x : A) → HasPlan D X (k x) (m x)) → ((e : B) → HasPlan E Y (l e) (n e)) → (r : Result A B)
      → HasPlan (both D E) (result_shape X Y) (result_keys k l r) (result_meaning m n r)
  result_planned D E X Y h i (Ok x) = case_planned _ _ 0 X refl (m x) (both D E) D (λ s known. knows_left s D E known) (k x) (h x)
  result_planned D E X Y h i (Err e) = case_planned _ _ 1 Y refl (n e) (both D E) E (λ s known. knows_right s D E known) (l e) (i e)
