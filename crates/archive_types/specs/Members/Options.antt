-- Options as sources: what they mean, and their laws.
use Rattle.std.specs.Prelude.{ℕ, List, [], Option, Some, None}
use Rattle.std.proofs.Common.{refl}
use Rattle.archive_check.specs.Shape.{Shape}
use Rattle.archive_check.specs.Definitions.{Definitions}
use Rattle.archive_check.specs.Value.{Value, case, no_value}
use Rattle.archive_check.specs.Reached.{Names, names_case}
use Rattle.archive_check.specs.Denotes.{Naming}
use Rattle.archive_enum.specs.Choices.{option_shape}
use Rattle.archive_types.specs.Writing.{IsKeyed}
use Rattle.archive_types.specs.Plans.{HasPlan}
use Rattle.archive_types.specs.Members.Keyed.{keyed_by_none}
use Rattle.archive_types.specs.Members.Variants.{case_of, one_keyed, case_planned, empty_planned}

-- None has the tag 0, Some the tag 1.
abbrev pub option_meaning : {A : Type 0} → (A → Value) → Option A → Value
option_meaning m None = case 0 no_value
option_meaning m (Some x) = case_of 1 (m x)

abbrev pub option_keys : {A : Type 0} → (A → List Naming) → Option A → List Naming
option_keys k None = []
option_keys k (Some x) = k x

-- What is read in its place, where its resolver is that of its value.
abbrev pub option_flat : {A R : Type 0} → (A → R → Value) → Option A → Option R → Value
option_flat f None r = case 0 no_value
option_flat f (Some x) None = case 0 no_value
option_flat f (Some x) (Some r) = case_of 1 (f x r)

abbrev pub OptionBelongs : {A R : Type 0} → (A → R → Type 0) → Option A → Option R → Type 0
OptionBelongs b None None = Unit {0}
OptionBelongs b None (Some r) = ⊥
OptionBelongs b (Some x) None = ⊥
OptionBelongs b (Some x) (Some r) = b x r

-- keys

no_name : (tag k : ℕ) → Names k (case tag no_value) → ⊥
no_name tag k (names_case n) = elim n [ ]

pub option_keyed : {A : Type 0} (k : A → List Naming) (m : A → Value) → ((x : A) → IsKeyed (k x) (m x)) → (o : Option A) → IsKeyed (option_keys k o) (option_meaning m o)
option_keyed k m h None = keyed_by_none (case 0 no_value) (λ j n. absurd (no_name 0 j n))
option_keyed k m h (Some x) = one_keyed (k x) 1 (m x) (h x)

-- plans

pub option_planned : {A : Type 0} (D : Definitions) (X : Shape) (k : A → List Naming) (m : A → Value) → ((x : A) → HasPlan D X (k x) (m x)) → (o : Option A) → HasPlan D (option_shape X) (option_keys k o) (option_meaning m o)
option_planned D X k m h None = empty_planned _ _ 0 refl D []
option_planned D X k m h (Some x) = case_planned _ _ 1 X refl (m x) D D (λ s known. known) (k x) (h x)
