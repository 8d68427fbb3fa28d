-- Definitions by name.
use Rattle.std.proofs.Common.{◌≡◌, ◌≢◌, ⊎_elim, ℕ, zero, suc, ◌+◌, ◌<◌, List, [], ◌∷◌, ◌++◌, length, drop, get_or, refl, sym, ap, ◌∙◌, arith, cond, Option, Some, None, Contains}
use Rattle.std.proofs.Math.Seq.{drop-length}
use Rattle.std.specs.Str.{bytes_eq}
use Rattle.std.specs.List.{remove}
use Rattle.std.proofs.lemmas.List.Elements.{Contains-push_cases}
use Rattle.archive_check.specs.declared.format.defs.Def.{Def}
use Rattle.archive_check.specs.Shape.{Name, Shape, Table, definition}
use Rattle.archive_check.specs.Expressions.{shape_of, entries_of}
use Rattle.archive_check.proofs.Elements.{contains_cases, contains_later}
use Rattle.archive_schema.specs.plan.Names.{Taken}
use Rattle.archive_check.proofs.Names.Named.{append_known, append_unknown, definition_here, definition_other, entries_of-drop}

pub entries_of-end : (xs : List Def) (i : ℕ) → length xs ≡ i → entries_of (drop i xs) ≡ []
entries_of-end xs i e = ap (λ j. entries_of (drop j xs)) (sym e) ∙ ap entries_of (drop-length xs)

pub push_none : (ds : Table) (a : Name) (X : Shape) (n : Name) → definition (ds ++ (a, X) ∷ []) n ≡ None → (definition ds n ≡ None) × (a ≢ n)
push_none ds a X n e = by (definition ds n) refl
  where
    by : (o : Option Shape) → definition ds n ≡ o → (definition ds n ≡ None) × (a ≢ n)
    by None is = (is, λ s. cc (sym (definition_here a n X [] s) ∙ sym (append_unknown ds ((a, X) ∷ []) n is) ∙ e))
    by (Some Z) is = cc (sym (append_known ds ((a, X) ∷ []) n Z is) ∙ e)

pub push_once : (ds : Table) (a : Name) (X : Shape) (n : Name) (Y : Shape) → definition ds a ≡ None → ((m : Name) (Z : Shape) → Contains ds (m, Z) → definition ds m ≡ Some Z)
    → Contains (ds ++ (a, X) ∷ []) (n, Y) → definition (ds ++ (a, X) ∷ []) n ≡ Some Y
push_once ds a X n Y new once c = ⊎_elim
    (λ old. append_known ds ((a, X) ∷ []) n Y (once n Y old))
    (λ same. let na : a ≡ n = ap (λ (p : Name × Shape). p.0) same in
    append_unknown ds ((a, X) ∷ []) n (ap (definition ds) (sym na) ∙ new) ∙ definition_here a n X [] na ∙ ap (λ (p : Name × Shape). Some p.1) same)
    (Contains-push_cases ds (a, X) (n, Y) c)

-- other names are defined as before where one is taken out
pub definition-remove : (xs : List Def) (i : ℕ) (x : Def) → i < length xs → x ≡ get_or xs i x → (n : Name) → n ≢ x.name.now → definition (entries_of (remove xs i)) n ≡ definition (entries_of xs) n
definition-remove [] i x h e n o = absurd (omega arith)
definition-remove (d ∷ ds) zero x h e n o =
    sym (definition_other d.name.now n (shape_of d.expr) (entries_of ds) (λ s. o (sym s ∙ ap (λ (y : Def). y.name.now) (sym e))))
definition-remove (d ∷ ds) (suc i) x h e n o =
    ap (λ t. cond (bytes_eq d.name.now n) (Some (shape_of d.expr)) t) (definition-remove ds i x (omega arith) e n o)

pub length-remove : (xs : List Def) (i : ℕ) → i < length xs → suc (length (remove xs i)) ≡ length xs
length-remove [] i h = absurd (omega arith)
length-remove (d ∷ ds) zero h = refl
length-remove (d ∷ ds) (suc i) h = ap suc (length-remove ds i (omega arith))

-- there is one element at i
pub one_at : {A : Type 0} (xs : List A) (i : ℕ) (x y : A) → i < length xs → x ≡ get_or xs i x → y ≡ get_or xs i y → x ≡ y
one_at [] i x y h e f = absurd (omega arith)
one_at (z ∷ xs) zero x y h e f = e ∙ sym f
one_at (z ∷ xs) (suc i) x y h e f = one_at xs i x y (omega arith) e f

entries_none : (i : ℕ) → remove {X = Def} [] i ≡ []
entries_none zero = refl
entries_none (suc i) = refl

none_there : (i k : ℕ) → k < 0 → ⊥
none_there i k h = omega arith

-- what is left was there
pub contains-remove : (xs : List Def) (i : ℕ) (p : Name × Shape) → Contains (entries_of (remove xs i)) p → Contains (entries_of xs) p
contains-remove [] i p c = absurd (none_there i c.0 (rw (entries_none i) at c.1))
contains-remove (d ∷ ds) zero p c = contains_later (d.name.now, shape_of d.expr) (entries_of ds) p c
contains-remove (d ∷ ds) (suc i) p c = ⊎_elim
    (λ here. (0, omega arith, here))
    (λ later. contains_later (d.name.now, shape_of d.expr) (entries_of ds) p (contains-remove ds i p later))
    (contains_cases (d.name.now, shape_of d.expr) (entries_of (remove ds i)) p c)

-- the definition at i is in the list
pub contains-at : (xs : List Def) (i : ℕ) (d : Def) → i < length xs → d ≡ get_or xs i d → Contains (entries_of xs) (d.name.now, shape_of d.expr)
contains-at [] i d h e = absurd (omega arith)
contains-at (x ∷ xs) zero d h e = (0, omega arith, ap (λ (y : Def). (y.name.now, shape_of y.expr)) (sym e))
contains-at (x ∷ xs) (suc i) d h e = contains_later (x.name.now, shape_of x.expr) (entries_of xs) (d.name.now, shape_of d.expr) (contains-at xs i d (omega arith) e)

-- the definition at i is that of the name, and is taken out
pub taken : (old mid new : List Def) (i : ℕ) (x : Def) (name : Name) → mid ≡ old → i < length mid → x ≡ get_or mid i x → x.name.now ≡ name
    → definition (entries_of (drop i mid)) name ≡ definition (entries_of mid) name → new ≡ remove mid i → Taken old name (Some x) new
taken old mid new i x name same h e is found left =
    rw (← same, left) (
      is,
      sym found ∙ ap (λ t. definition t name) (entries_of-drop mid i x h e) ∙ definition_here x.name.now name (shape_of x.expr) (entries_of (drop (i + 1) mid)) is,
      length-remove mid i h,
      λ n o. definition-remove mid i x h e n (λ s. o (s ∙ is)),
    )

pub not_taken : (old mid : List Def) (i : ℕ) (name : Name) → mid ≡ old → length mid ≡ i → definition (entries_of (drop i mid)) name ≡ definition (entries_of mid) name → Taken old name None mid
not_taken old mid i name same e found = (rw (← same) (sym found ∙ ap (λ t. definition t name) (entries_of-end mid i e)), same)

pub ruleset named = (entries_of-drop, entries_of-end, definition_here, definition_other, length-remove)
