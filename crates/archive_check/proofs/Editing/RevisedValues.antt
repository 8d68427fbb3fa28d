-- Where a leaf is written over, what its bytes mean changes in that leaf alone.
use Rattle.std.proofs.Common.{◌≡◌, ◌⊎◌, inl, inr, ℕ, List, [], ◌∷◌, ◌++◌, refl}
use Rattle.archive_check.specs.Value.{Pointer, Value, Values, number, product, case, list, text_value, box, null, shared_value, hole, no_value, value, pointers, all_pointers}
use Rattle.archive_check.specs.Reads.{SchemaTable}
use Rattle.archive_check.specs.Leaves.{PlacedLeaf, number_leaf, text_leaf, leaf_value, Altered, altered_here, altered_product, altered_case, altered_list, altered_box, AlteredAmong, altered_first, altered_later}
use Rattle.archive_check.specs.Denotes.{Fills, fills_number, fills_product, fills_case, fills_list, fills_text, fills_box, fills_null, fills_shared_value, FillsAll, fills_no_value, fills_value}

-- what is filled of a value before and after
module _ (s : SchemaTable) (bytes new : List ℕ) (x y : PlacedLeaf) where
  abbrev pub Same : Value → Type 0
  Same v = (w : Value) × Fills s bytes v w × Fills s new v w

  abbrev pub Turned : Value → Value → Type 0
  Turned v u = (w : Value) × (z : Value) × Fills s bytes v w × Fills s new u z × Altered x y w z

  abbrev pub SameAll : List Pointer → Type 0
  SameAll [] = Unit {0}
  SameAll (p ∷ O) = Same (hole p) × SameAll O

  -- one of the pointers leads to what is altered
  pub data TurnedOne : List Pointer → Type 0 where
    turned_here : {p : Pointer} {O : List Pointer} → Turned (hole p) (hole p) → SameAll O → TurnedOne (p ∷ O)
    turned_later : {p : Pointer} {O : List Pointer} → Same (hole p) → TurnedOne O → TurnedOne (p ∷ O)

  same_first : (O P : List Pointer) → SameAll (O ++ P) → SameAll O
  same_first [] P h = tt
  same_first (p ∷ O) P h = (h.0, same_first O P (h.1))

  same_transitive : (O P : List Pointer) → SameAll (O ++ P) → SameAll P
  same_transitive [] P h = h
  same_transitive (p ∷ O) P h = same_transitive O P (h.1)

  turned_split : (O P : List Pointer) → TurnedOne (O ++ P) → (TurnedOne O × SameAll P) ⊎ (SameAll O × TurnedOne P)
  turned_split [] P h = inr (tt, h)
  turned_split (p ∷ O) P (turned_here c h) = inl (turned_here c (same_first O P h), same_transitive O P h)
  turned_split (p ∷ O) P (turned_later c h) = more (turned_split O P h)
    where
      more : (TurnedOne O × SameAll P) ⊎ (SameAll O × TurnedOne P) → (TurnedOne (p ∷ O) × SameAll P) ⊎ (SameAll (p ∷ O) × TurnedOne P)
      more (inl k) = inl (turned_later c (k.0), k.1)
      more (inr k) = inr ((c, k.0), k.1)

  abbrev SameValues : Values → Type 0
  SameValues vs = (ws : Values) × FillsAll s bytes vs ws × FillsAll s new vs ws

  abbrev TurnedAmong : Values → Values → Type 0
  TurnedAmong vs us = (ws : Values) × (zs : Values) × FillsAll s bytes vs ws × FillsAll s new us zs × AlteredAmong x y ws zs

  mutual
    pub fill_same : (v : Value) → SameAll (pointers v) → Same v
    fill_same (number z) h = (_, fills_number, fills_number)
    fill_same (product vs) h = let r = fill_same_all vs h in (_, fills_product (r.1), fills_product (r.2))
    fill_same (case tag vs) h = let r = fill_same_all vs h in (_, fills_case (r.1), fills_case (r.2))
    fill_same (list vs) h = let r = fill_same_all vs h in (_, fills_list (r.1), fills_list (r.2))
    fill_same (text_value text) h = (_, fills_text, fills_text)
    fill_same (box v) h = let r = fill_same v h in (_, fills_box (r.1), fills_box (r.2))
    fill_same null h = (_, fills_null, fills_null)
    fill_same (shared_value t) h = (_, fills_shared_value, fills_shared_value)
    fill_same (hole p) h = h.0

    pub fill_same_all : (vs : Values) → SameAll (all_pointers vs) → SameValues vs
    fill_same_all no_value h = (_, fills_no_value, fills_no_value)
    fill_same_all (value v vs) h =
        let r = fill_same v (same_first (pointers v) (all_pointers vs) h) in
        let q = fill_same_all vs (same_transitive (pointers v) (all_pointers vs) h) in
        (_, fills_value (r.1) (q.1), fills_value (r.2) (q.2))

  values_join : (v : Value) (vs : Values) → (TurnedOne (pointers v) × SameAll (all_pointers vs)) ⊎ (SameAll (pointers v) × TurnedOne (all_pointers vs))
      → (TurnedOne (pointers v) → Turned v v) → (TurnedOne (all_pointers vs) → TurnedAmong vs vs) → TurnedAmong (value v vs) (value v vs)
  values_join v vs (inl h) first later =
      let r = first (h.0) in let q = fill_same_all vs (h.1) in
      (_, _, fills_value (r.2) (q.1), fills_value (r.3) (q.2), altered_first (r.4))
  values_join v vs (inr h) first later =
      let r = fill_same v (h.0) in let q = later (h.1) in
      (_, _, fills_value (r.1) (q.2), fills_value (r.2) (q.3), altered_later (q.4))

  none_turned : {O : List Pointer} → O ≡ [] → TurnedOne O → ⊥
  none_turned e (turned_here c h) = cc
  none_turned e (turned_later c h) = cc

  alone_turned : {p : Pointer} → TurnedOne (p ∷ []) → Turned (hole p) (hole p)
  alone_turned (turned_here c h) = c
  alone_turned (turned_later c h) = absurd (none_turned refl h)

  mutual
    pub fill_turned : (v : Value) → TurnedOne (pointers v) → Turned v v
    fill_turned (number z) h = absurd (none_turned refl h)
    fill_turned (product vs) h = let r = fill_turned_all vs h in (_, _, fills_product (r.2), fills_product (r.3), altered_product (r.4))
    fill_turned (case tag vs) h = let r = fill_turned_all vs h in (_, _, fills_case (r.2), fills_case (r.3), altered_case (r.4))
    fill_turned (list vs) h = let r = fill_turned_all vs h in (_, _, fills_list (r.2), fills_list (r.3), altered_list (r.4))
    fill_turned (text_value text) h = absurd (none_turned refl h)
    fill_turned (box v) h = let r = fill_turned v h in (_, _, fills_box (r.2), fills_box (r.3), altered_box (r.4))
    fill_turned null h = absurd (none_turned refl h)
    fill_turned (shared_value t) h = absurd (none_turned refl h)
    fill_turned (hole p) h = alone_turned h

    fill_turned_all : (vs : Values) → TurnedOne (all_pointers vs) → TurnedAmong vs vs
    fill_turned_all no_value h = absurd (none_turned refl h)
    fill_turned_all (value v vs) h = values_join v vs (turned_split (pointers v) (all_pointers vs) h) (λ k. fill_turned v k) (λ k. fill_turned_all vs k)

  leaf_filled : (b : List ℕ) (z : PlacedLeaf) → Fills s b (leaf_value z) (leaf_value z)
  leaf_filled b (number_leaf p kind n) = fills_number
  leaf_filled b (text_leaf p text) = fills_text

  mutual
    pub fill_altered : {v u : Value} → Altered x y v u → SameAll (pointers v) → Turned v u
    fill_altered altered_here h = (_, _, leaf_filled bytes x, leaf_filled new y, altered_here)
    fill_altered (altered_product a) h = let r = fill_altered_all a h in (_, _, fills_product (r.2), fills_product (r.3), altered_product (r.4))
    fill_altered (altered_case a) h = let r = fill_altered_all a h in (_, _, fills_case (r.2), fills_case (r.3), altered_case (r.4))
    fill_altered (altered_list a) h = let r = fill_altered_all a h in (_, _, fills_list (r.2), fills_list (r.3), altered_list (r.4))
    fill_altered (altered_box a) h = let r = fill_altered a h in (_, _, fills_box (r.2), fills_box (r.3), altered_box (r.4))

    fill_altered_all : {vs us : Values} → AlteredAmong x y vs us → SameAll (all_pointers vs) → TurnedAmong vs us
    fill_altered_all (altered_first {v = v} {vs = vs} a) h =
        let r = fill_altered a (same_first (pointers v) (all_pointers vs) h) in let q = fill_same_all vs (same_transitive (pointers v) (all_pointers vs) h) in
        (_, _, fills_value (r.2) (q.1), fills_value (r.3) (q.2), altered_first (r.4))
    fill_altered_all (altered_later {v = v} {vs = vs} a) h =
        let r = fill_same v (same_first (pointers v) (all_pointers vs) h) in let q = fill_altered_all a (same_transitive (pointers v) (all_pointers vs) h) in
        (_, _, fills_value (r.1) (q.2), fills_value (r.2) (q.3), altered_later (q.4))
