-- Definitions by name.
use Rattle.std.proofs.Common.{◌≡◌, ◌≢◌, ◌⊎◌, inl, inr, ⊎_elim, ℕ, suc, ◌+◌, ◌<◌, List, [], ◌∷◌, ◌++◌, length, drop, get_or, refl, sym, ap, ◌∙◌, arith, Bool, true, false, cond, Option, Some, None}
use Rattle.std.proofs.Math.Seq.{drop-cons}
use Rattle.std.proofs.lemmas.Slice.Eq.{bytes_eq-Decides}
use Rattle.std.specs.Str.{bytes_eq}
use Rattle.std.specs.Bool.{Decides}
use Rattle.std.proofs.lemmas.Bool.{false_from_ne_true}
use Rattle.archive_check.specs.declared.format.defs.Def.{Def}
use Rattle.archive_check.specs.Shape.{Name, Shape, Table, definition}
use Rattle.archive_check.specs.Expressions.{shape_of, entries_of}

-- the definition at i, and the rest
pub entries_of-drop : (xs : List Def) (i : ℕ) (x : Def) → i < length xs → x ≡ get_or xs i x → entries_of (drop i xs) ≡ (x.name.now, shape_of x.expr) ∷ entries_of (drop (i + 1) xs)
entries_of-drop xs i x h e =
    let s : i + 1 ≡ suc i = omega arith in
    ap entries_of (drop-cons xs i x h) ∙ ap (λ y. (y.name.now, shape_of y.expr) ∷ entries_of (drop (suc i) xs)) (sym e) ∙ ap (λ j. (x.name.now, shape_of x.expr) ∷ entries_of (drop j xs)) (sym s)

pub entries_of-append : (xs ys : List Def) → entries_of (xs ++ ys) ≡ entries_of xs ++ entries_of ys
entries_of-append [] ys = refl
entries_of-append (x ∷ xs) ys = ap (λ es. (x.name.now, shape_of x.expr) ∷ es) (entries_of-append xs ys)

-- a name is another one, or it isn't
pub other_name : (a b : Name) → a ≢ b → bytes_eq a b ≡ false
other_name a b n = false_from_ne_true (bytes_eq a b) (λ e. n ((bytes_eq-Decides a b).0 e))

pub same_name : (a b : Name) → a ≡ b → bytes_eq a b ≡ true
same_name a b e = (bytes_eq-Decides a b).1 e

pub names_decided : (a b : Name) → (a ≡ b) ⊎ (a ≢ b)
names_decided a b = by (bytes_eq a b) (bytes_eq-Decides a b)
  where
    by : (t : Bool) → Decides t (a ≡ b) → (a ≡ b) ⊎ (a ≢ b)
    by true d = inl (d.0 refl)
    by false d = inr (λ e. cc (d.1 e))

pub definition_here : (a n : Name) (X : Shape) (ds : Table) → a ≡ n → definition ((a, X) ∷ ds) n ≡ Some X
definition_here a n X ds e = ap (λ b. cond b (Some X) (definition ds n)) (same_name a n e)

pub definition_other : (a n : Name) (X : Shape) (ds : Table) → a ≢ n → definition ((a, X) ∷ ds) n ≡ definition ds n
definition_other a n X ds h = ap (λ b. cond b (Some X) (definition ds n)) (other_name a n h)

-- what is defined stays so where more definitions follow
pub append_known : (ds es : Table) (n : Name) (X : Shape) → definition ds n ≡ Some X → definition (ds ++ es) n ≡ Some X
append_known [] es n X h = cc
append_known ((a, Y) ∷ ds) es n X h = ⊎_elim
    (λ e. definition_here a n Y (ds ++ es) e ∙ sym (definition_here a n Y ds e) ∙ h)
    (λ o. definition_other a n Y (ds ++ es) o ∙ append_known ds es n X (sym (definition_other a n Y ds o) ∙ h))
    (names_decided a n)

-- and what isn't is looked for there
pub append_unknown : (ds es : Table) (n : Name) → definition ds n ≡ None → definition (ds ++ es) n ≡ definition es n
append_unknown [] es n h = refl
append_unknown ((a, Y) ∷ ds) es n h = ⊎_elim
    (λ e. cc (sym (definition_here a n Y ds e) ∙ h))
    (λ o. definition_other a n Y (ds ++ es) o ∙ append_unknown ds es n (sym (definition_other a n Y ds o) ∙ h))
    (names_decided a n)

-- one more definition, of a name that had none
pub push_some : (ds : Table) (a : Name) (X : Shape) (n : Name) (Y : Shape) → definition (ds ++ (a, X) ∷ []) n ≡ Some Y → (definition ds n ≡ Some Y) ⊎ ((a ≡ n) × (X ≡ Y))
push_some ds a X n Y e = by (definition ds n) refl
  where
    by : (o : Option Shape) → definition ds n ≡ o → (definition ds n ≡ Some Y) ⊎ ((a ≡ n) × (X ≡ Y))
    by None is = ⊎_elim
        (λ s. inr (s, cc (sym (definition_here a n X [] s) ∙ sym (append_unknown ds ((a, X) ∷ []) n is) ∙ e)))
        (λ o. cc (sym (definition_other a n X [] o) ∙ sym (append_unknown ds ((a, X) ∷ []) n is) ∙ e))
        (names_decided a n)
    by (Some Z) is = inl (is ∙ sym (append_known ds ((a, X) ∷ []) n Z is) ∙ e)

-- one definition more, and the first one of those that are left
pub entries_of-push : (xs : List Def) (d : Def) → entries_of (xs ++ d ∷ []) ≡ entries_of xs ++ (d.name.now, shape_of d.expr) ∷ []
entries_of-push xs d = entries_of-append xs (d ∷ [])

pub definition-drop : (name : Name) (xs : List Def) (i : ℕ) (d : Def) → i < length xs → d ≡ get_or xs i d →
    definition (entries_of (drop i xs)) name ≡ cond (bytes_eq d.name.now name) (Some (shape_of d.expr)) (definition (entries_of (drop (i + 1) xs)) name)
definition-drop name xs i d h e = ap (λ ds. definition ds name) (entries_of-drop xs i d h e)

pub ruleset tables = (entries_of-push, definition-drop)
