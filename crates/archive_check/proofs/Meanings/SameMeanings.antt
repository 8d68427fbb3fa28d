-- Meanings that are the same but for names.
use Rattle.std.proofs.Common.{◌≡◌, ℕ, refl, sym, ap, ap₂, ◌∙◌}
use Rattle.archive_check.specs.Value.{Value, Values, number, product, case, list, text_value, box, null, shared_value, hole, no_value, value}
use Rattle.archive_check.specs.Denotes.{Meaning, rename, rename_all, Same}
use Rattle.archive_check.specs.Reached.{Names, names_itself, names_product, names_case, names_list, names_box, NamesAmong, names_first, names_later}

mutual
  pub rename_same : (v : Value) → rename (λ t. t) v ≡ v
  rename_same (number z) = refl
  rename_same (product vs) = ap product (rename_all_same vs)
  rename_same (case tag vs) = ap (case tag) (rename_all_same vs)
  rename_same (list vs) = ap list (rename_all_same vs)
  rename_same (text_value text) = refl
  rename_same (box v) = ap box (rename_same v)
  rename_same null = refl
  rename_same (shared_value name) = refl
  rename_same (hole p) = refl

  pub rename_all_same : (vs : Values) → rename_all (λ t. t) vs ≡ vs
  rename_all_same no_value = refl
  rename_all_same (value v vs) = ap₂ value (rename_same v) (rename_all_same vs)

mutual
  pub rename_again : (f g : ℕ → ℕ) (v : Value) → rename g (rename f v) ≡ rename (λ t. g (f t)) v
  rename_again f g (number z) = refl
  rename_again f g (product vs) = ap product (rename_all_again f g vs)
  rename_again f g (case tag vs) = ap (case tag) (rename_all_again f g vs)
  rename_again f g (list vs) = ap list (rename_all_again f g vs)
  rename_again f g (text_value text) = refl
  rename_again f g (box v) = ap box (rename_again f g v)
  rename_again f g null = refl
  rename_again f g (shared_value name) = refl
  rename_again f g (hole p) = refl

  pub rename_all_again : (f g : ℕ → ℕ) (vs : Values) → rename_all g (rename_all f vs) ≡ rename_all (λ t. g (f t)) vs
  rename_all_again f g no_value = refl
  rename_all_again f g (value v vs) = ap₂ value (rename_again f g v) (rename_all_again f g vs)

pub same_reflexive : (a : Meaning) → Same a a
same_reflexive a = record {
  to = λ t. t;
  from = λ t. t;
  value = sym (rename_same a.value);
  value_back = sym (rename_same a.value);
  there = λ t e v h. (refl, rw (rename_same v) h);
  back = λ t e v h. (refl, rw (rename_same v) h);
}

pub same_symmetric : {a b : Meaning} → Same a b → Same b a
same_symmetric h = record { to = h.from; from = h.to; value = h.value_back; value_back = h.value; there = h.back; back = h.there }

pub same_transitive : {a b c : Meaning} → Same a b → Same b c → Same a c
same_transitive {a} {b} {c} h k = record {
  to = λ t. k.to (h.to t);
  from = λ t. h.from (k.from t);
  value = k.value ∙ ap (rename k.to) h.value ∙ rename_again h.to k.to a.value;
  value_back = h.value_back ∙ ap (rename h.from) k.value_back ∙ rename_again k.from h.from c.value;
  there = λ t e v known.
      let first = h.there t e v known in
      let second = k.there (h.to t) e (rename h.to v) (first.1) in
      (ap h.from (second.0) ∙ first.0, rw (← rename_again h.to k.to v) (second.1));
  back = λ t e v known.
      let first = k.back t e v known in
      let second = h.back (k.from t) e (rename k.from v) (first.1) in
      (ap k.to (second.0) ∙ first.0, rw (← rename_again k.from h.from v) (second.1));
}

-- where the names in a value stay, the value does
mutual
  pub rename_stays : (f : ℕ → ℕ) (v : Value) → ((t : ℕ) → Names t v → f t ≡ t) → rename f v ≡ v
  rename_stays f (number z) h = refl
  rename_stays f (product vs) h = ap product (rename_all_stays f vs (λ t n. h t (names_product n)))
  rename_stays f (case tag vs) h = ap (case tag) (rename_all_stays f vs (λ t n. h t (names_case n)))
  rename_stays f (list vs) h = ap list (rename_all_stays f vs (λ t n. h t (names_list n)))
  rename_stays f (text_value text) h = refl
  rename_stays f (box v) h = ap box (rename_stays f v (λ t n. h t (names_box n)))
  rename_stays f null h = refl
  rename_stays f (shared_value name) h = ap shared_value (h name names_itself)
  rename_stays f (hole p) h = refl

  pub rename_all_stays : (f : ℕ → ℕ) (vs : Values) → ((t : ℕ) → NamesAmong t vs → f t ≡ t) → rename_all f vs ≡ vs
  rename_all_stays f no_value h = refl
  rename_all_stays f (value v vs) h = ap₂ value (rename_stays f v (λ t n. h t (names_first n))) (rename_all_stays f vs (λ t n. h t (names_later n)))
