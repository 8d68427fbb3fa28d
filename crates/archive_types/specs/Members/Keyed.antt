-- The keys of values: of one without keys, of an owner, and of values one after another.
use Rattle.std.proofs.Common.{ℕ, ℤ, List, [], ◌∷◌, ◌++◌, arith, inl, inr, Contains}
use Rattle.std.proofs.lemmas.List.Elements.{Contains-append_left, Contains-append_right, Contains-append_cases}
use Rattle.archive_check.specs.Value.{Value, number, text_value, product, case, list, box, Values, no_value, value}
use Rattle.archive_check.specs.Reached.{Names, names_product, names_case, names_list, names_box, names_first, names_later}
use Rattle.archive_check.specs.Denotes.{Naming}
use Rattle.archive_types.specs.Writing.{HasKeys, LeadsToKey, key_at_once, key_through, IsKeyed}
use Rattle.archive_types.specs.Runs.{each_keys, each_meaning}

pub keyed_by_none : (v : Value) → HasKeys [] v → IsKeyed [] v
keyed_by_none v h = record { value = h; named = λ k c. absurd (omega (arith, c.1)); only = λ k c. absurd (omega (arith, c.1)) }

pub number_keyed : (z : ℤ) → IsKeyed [] (number z)
number_keyed z = keyed_by_none (number z) (λ k n. elim n [ ])

pub text_keyed : (bytes : List ℕ) → IsKeyed [] (text_value bytes)
text_keyed bytes = keyed_by_none (text_value bytes) (λ k n. elim n [ ])

-- What leads to a key leads there among more names and keys.
leads_more : (ks ls : List Naming) (v w : Value) → ((x : Naming) → Contains ks x → Contains ls x) → ((k : ℕ) → Names k v → Names k w) → (k : ℕ) → LeadsToKey ks v k → LeadsToKey ls w k
leads_more ks ls v w f g k (key_at_once n) = key_at_once (g k n)
leads_more ks ls v w f g k (key_through {l = l} h c n) = key_through (leads_more ks ls v w f g l.0 h) (f l c) n

-- Values with the same names have the same keys.
pub keyed_same : (ks : List Naming) (v w : Value) → ((k : ℕ) → Names k v → Names k w) → ((k : ℕ) → Names k w → Names k v) → IsKeyed ks v → IsKeyed ks w
keyed_same ks v w f g h = record { value = λ k n. h.value k (g k n); named = h.named; only = λ k c. leads_more ks ks v w (λ x d. d) f k.0 (h.only k c) }

pub box_keyed : (ks : List Naming) (v : Value) → IsKeyed ks v → IsKeyed ks (box v)
box_keyed ks v h = keyed_same ks v (box v) (λ k n. names_box n) (λ k n. elim n [ names_box m ↦ m ]) h

-- values one after another, as a list has them

pub product_keyed : (ks : List Naming) (vs : Values) → IsKeyed ks (list vs) → IsKeyed ks (product vs)
product_keyed ks vs h = keyed_same ks (list vs) (product vs) (λ k n. elim n [ names_list m ↦ names_product m ]) (λ k n. elim n [ names_product m ↦ names_list m ]) h

pub case_keyed : (ks : List Naming) (tag : ℕ) (vs : Values) → IsKeyed ks (list vs) → IsKeyed ks (case tag vs)
case_keyed ks tag vs h = keyed_same ks (list vs) (case tag vs) (λ k n. elim n [ names_list m ↦ names_case m ]) (λ k n. elim n [ names_case m ↦ names_list m ]) h

none_named : (k : ℕ) → Names k (list no_value) → ⊥
none_named k (names_list n) = elim n [ ]

pub nothing_keyed : IsKeyed [] (list no_value)
nothing_keyed = keyed_by_none (list no_value) (λ k n. absurd (none_named k n))

has_keys_left : (ks ls : List Naming) (v : Value) → HasKeys ks v → HasKeys (ks ++ ls) v
has_keys_left ks ls v h k n = (let x = h k n in (x.0, Contains-append_left ks ls (k, x.0) x.1))

has_keys_right : (ks ls : List Naming) (v : Value) → HasKeys ls v → HasKeys (ks ++ ls) v
has_keys_right ks ls v h k n = (let x = h k n in (x.0, Contains-append_right ks ls (k, x.0) x.1))

first_or_later : (ks ls : List Naming) (v : Value) (vs : Values) → IsKeyed ks v → IsKeyed ls (list vs) → HasKeys (ks ++ ls) (list (value v vs))
first_or_later ks ls v vs h i k (names_list (names_first n)) = has_keys_left ks ls v h.value k n
first_or_later ks ls v vs h i k (names_list (names_later n)) = has_keys_right ks ls (list vs) i.value k (names_list n)

pub value_keyed : (ks ls : List Naming) (v : Value) (vs : Values) → IsKeyed ks v → IsKeyed ls (list vs) → IsKeyed (ks ++ ls) (list (value v vs))
value_keyed ks ls v vs h i = record {
  value = first_or_later ks ls v vs h i;
  named = λ k c. elim (Contains-append_cases ks ls k c) [
    | inl d ↦ has_keys_left ks ls k.1.1 (h.named k d)
    | inr d ↦ has_keys_right ks ls k.1.1 (i.named k d)
  ];
  only = λ k c. elim (Contains-append_cases ks ls k c) [
    | inl d ↦ leads_more ks (ks ++ ls) v (list (value v vs)) (λ x e. Contains-append_left ks ls x e) (λ j n. names_list (names_first n)) k.0 (h.only k d)
    | inr d ↦ leads_more ls (ks ++ ls) (list vs) (list (value v vs)) (λ x e. Contains-append_right ks ls x e) (λ j n. elim n [ names_list m ↦ names_list (names_later m) ]) k.0 (i.only k d)
  ];
}

-- Elements, from the keys of each.
pub each_keyed : {A : Type 0} (k : A → List Naming) (m : A → Value) → ((x : A) → IsKeyed (k x) (m x)) → (xs : List A) → IsKeyed (each_keys k xs) (list (each_meaning m xs))
each_keyed k m h [] = nothing_keyed
each_keyed k m h (x ∷ xs) = value_keyed (k x) (each_keys k xs) (m x) (each_meaning m xs) (h x) (each_keyed k m h xs)

-- parts, one after another, and a record of them

pub part_keyed : {ks ls : List Naming} {v : Value} {vs : Values} → IsKeyed ks v → IsKeyed ls (list vs) → IsKeyed (ks ++ ls) (list (value v vs))
part_keyed {ks = ks} {ls = ls} {v = v} {vs = vs} h i = value_keyed ks ls v vs h i

pub record_keyed : {ks : List Naming} {vs : Values} → IsKeyed ks (list vs) → IsKeyed ks (product vs)
record_keyed {ks = ks} {vs = vs} h = product_keyed ks vs h
