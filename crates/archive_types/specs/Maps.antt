-- The entries of sorted maps: where their keys and values stand, what these are of the list of pairs that a map is, and which keys are the same.
use Rattle.std.proofs.Common.{◌≡◌, ℤ, refl, sym, ap, ◌∙◌}
use Rattle.std.proofs.lemmas.Map.Lookups.{exact_signed, exact_bytes}
use Rattle.std.specs.Cmp.Lexicographic.{slice_cmp}
use Rattle.std.specs.Prelude.{ℕ, ◌+◌, Bool, true, ◌&&◌, List, [], ◌∷◌, Option, Some, None}
use Rattle.std.specs.Ordering.{is_lt, nat_cmp, int_cmp}
use Rattle.std.specs.declared.cmp.Ordering.{Ordering}
use Rattle.std.specs.declared.cmp.Ordering.TheVariants.{Equal}
use Rattle.archive_check.specs.Denotes.{Naming}
use Rattle.archive_check.specs.Layout.{Layout, up}
use Rattle.archive_check.specs.Value.{Value, number, text_value}
use Rattle.archive_types.specs.Fields.{field_in}
use Rattle.archive_types.specs.Views.{element_in}

-- Where the value of an entry begins, counted from the entry, of a key and a value with these layouts.
abbrev pub entry_value_begin : Layout → Layout → ℕ
entry_value_begin k v = up (up 0 k.align + k.size) v.align

-- The part j of a pair, if it is there.
abbrev pub entry_part : ℕ → Option Value → Option Value
entry_part j None = None
entry_part j (Some pair) = field_in j pair

-- The key and the value of the pair i of a list.
abbrev pub key_in : ℕ → Value → Option Value
key_in i w = entry_part 0 (element_in i w)

abbrev pub value_in : ℕ → Value → Option Value
value_in i w = entry_part 1 (element_in i w)

-- Whether the keys of pairs ascend strictly, from behind a key on; and from the first one on.
abbrev pub ascending_from : {A B : Type 0} → (A → A → Ordering) → A → List (A × B) → Bool
ascending_from cmp k [] = true
ascending_from cmp k (x ∷ xs) = is_lt (cmp k x.0) && ascending_from cmp x.0 xs

abbrev pub ascending : {A B : Type 0} → (A → A → Ordering) → List (A × B) → Bool
ascending cmp [] = true
ascending cmp (x ∷ xs) = ascending_from cmp x.0 xs

-- Two keys with these meanings and shared keys are the same in an archive.
abbrev pub AreSame : Value → Value → List Naming → List Naming → Type 0
AreSame v w ks ls = (v ≡ w) × (ks ≡ ls)

-- Numbers are, by an order that is that of the numbers.
pub numbers_exact : {A : Type 0} (R : A → A → Ordering) (value : A → ℤ) → ((x y : A) → R x y ≡ int_cmp (value x) (value y))
    → (x y : A) → R x y ≡ Equal → AreSame (number (value x)) (number (value y)) [] []
numbers_exact R value is x y e = (ap number (exact_signed (value x) (value y) (sym (is x y) ∙ e)), refl)

-- And texts are, by the order of their bytes.
pub texts_exact : (xs ys : List ℕ) → slice_cmp nat_cmp xs ys ≡ Equal → AreSame (text_value xs) (text_value ys) [] []
texts_exact xs ys e = (ap text_value (exact_bytes xs ys e), refl)
