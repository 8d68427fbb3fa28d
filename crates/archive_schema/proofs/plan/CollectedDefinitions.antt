-- Definitions are collected one by one.
use Rattle.std.proofs.Common.{◌≡◌, ◌⊎◌, inl, inr, ⊎_elim, ℕ, zero, suc, ◌-◌, ◌<◌, ◌≤◌, List, [], ◌∷◌, ◌++◌, length, get_or, refl, sym, ap, ◌∙◌, subst, arith, length-append, true, Option, Some, None, Contains}
use Rattle.archive_check.specs.declared.format.defs.Def.{Def}
use Rattle.archive_check.specs.Shape.{Name, Shape, Table, definition}
use Rattle.archive_check.specs.Expressions.{shape_of, entries_of}
use Rattle.archive_check.specs.Defined.{Mentions, Reaches, reaches}
use Rattle.archive_check.specs.MissingNames.{missing, Collected}
use Rattle.archive_schema.specs.plan.Names.{Taken, shapes_from}
use Rattle.archive_schema.specs.plan.NodeNumbers.{def_shapes}
use Rattle.archive_check.proofs.Names.Named.{append_known, definition_here, definition_other, names_decided, entries_of-append, push_some}
use Rattle.archive_schema.proofs.plan.Named.{push_none, push_once}
use Rattle.std.proofs.lemmas.List.{get_or_default}
use Rattle.archive_check.proofs.Elements.{contains_later}
use Rattle.archive_check.proofs.Names.MissingNames.{missed_mentioned, none_missed}
use Rattle.archive_check.proofs.Names.LaidOutNames.{reaches_next}
use Rattle.archive_schema.proofs.plan.NodeNumbers.{def_count}

-- the shape behind the root's, at its definition
shape_at : (ds : List Def) (i : ℕ) (d : Def) (X : Shape) → i < length ds → d ≡ get_or ds i d → X ≡ get_or (def_shapes ds) i X → shape_of d.expr ≡ X
shape_at [] i d X h e f = absurd (omega arith)
shape_at (x ∷ ds) zero d X h e f = ap (λ (y : Def). shape_of y.expr) e ∙ sym f
shape_at (x ∷ ds) (suc i) d X h e f = shape_at ds i d X (omega arith) e f

pub shape_behind : (X : Shape) (ds : List Def) (at : ℕ) (d : Def) (Y : Shape) → (at ≡ 0 → ⊥) → at ≤ length ds → d ≡ get_or ds (at - 1) d → Y ≡ get_or (shapes_from X ds) at Y → shape_of d.expr ≡ Y
shape_behind X ds zero d Y some h e f = absurd (some refl)
shape_behind X ds (suc i) d Y some h e f =
    let j : suc i - 1 ≡ i = omega arith in
    shape_at ds i d Y (omega arith) (e ∙ ap (λ k. get_or ds k d) j) f

-- what the next names are
abbrev AllKnown : Shape → List Def → ℕ → Type 0
AllKnown X found at = (k : ℕ) (Y : Shape) → k < at → Y ≡ get_or (shapes_from X found) k Y → missing true (entries_of found) Y ≡ None

-- definitions are moved from `rest` to `found`, and the shapes before `at` miss none
pub record Gathering (old : Table) (X : Shape) (found rest : List Def) (at : ℕ) : Type 0 where
  pub kept : (name : Name) (Y : Shape) → definition (entries_of found) name ≡ Some Y → definition old name ≡ Some Y
  pub reached : (name : Name) (Y : Shape) → definition (entries_of found) name ≡ Some Y → Reaches old name X
  pub once : (name : Name) (Y : Shape) → Contains (entries_of found) (name, Y) → definition (entries_of found) name ≡ Some Y
  pub left : (name : Name) → definition (entries_of found) name ≡ None → definition (entries_of rest) name ≡ definition old name
  pub known : AllKnown X found at
  pub within : at ≤ suc (length found)

-- the shape at a place is the root's or that of a definition
place : (X : Shape) (ds : List Def) (k : ℕ) (Y : Shape) → k ≤ length ds → Y ≡ get_or (shapes_from X ds) k Y → (Y ≡ X) ⊎ ((name : Name) × Contains (entries_of ds) (name, Y))
place X ds zero Y h e = inl e
place X ds (suc k) Y h e = inr (item ds k (omega arith) e)
  where
    item : (ds : List Def) (k : ℕ) → k < length ds → Y ≡ get_or (def_shapes ds) k Y → (name : Name) × Contains (entries_of ds) (name, Y)
    item [] k h e = absurd (omega arith)
    item (d ∷ ds) zero h e = (d.name.now, (0, omega arith, ap (λ Z. (d.name.now, Z)) (sym e)))
    item (d ∷ ds) (suc k) h e = let i = item ds k (omega arith) e in (i.0, contains_later (d.name.now, shape_of d.expr) (entries_of ds) (i.0, Y) i.1)

shapes_before : (X : Shape) (found : List Def) (d : Def) (k : ℕ) (Z : Shape) → k ≤ length found → get_or (shapes_from X (found ++ d ∷ [])) k Z ≡ get_or (shapes_from X found) k Z
shapes_before X found d zero Z h = refl
shapes_before X [] d (suc k) Z h = absurd (omega arith)
shapes_before X (x ∷ found) d (suc k) Z h = shapes_before (shape_of x.expr) found d k Z (omega arith)

-- where a defined name's definition stands
shape_of_name : (ds : List Def) (n : Name) (Y : Shape) → definition (entries_of ds) n ≡ Some Y → (k : ℕ) × (k < length ds) × (Y ≡ get_or (def_shapes ds) k Y)
shape_of_name [] n Y e = cc
shape_of_name (d ∷ ds) n Y e = ⊎_elim
    (λ s. (0, omega arith, cc (sym (definition_here d.name.now n (shape_of d.expr) (entries_of ds) s) ∙ e)))
    (λ o. let p = shape_of_name ds n Y (sym (definition_other d.name.now n (shape_of d.expr) (entries_of ds) o) ∙ e) in (suc p.0, omega (arith, p.1), p.2))
    (names_decided d.name.now n)

shapes_end : (X : Shape) (ds : List Def) (at : ℕ) → at ≤ length ds → at < length (shapes_from X ds)
shapes_end X ds at h = omega (arith, def_count ds)

-- there is a shape
pub shape_here : (X : Shape) (ds : List Def) (at : ℕ) → at ≤ length ds → (Y : Shape) × (Y ≡ get_or (shapes_from X ds) at Y)
shape_here X ds at h = (get_or (shapes_from X ds) at X, get_or_default (shapes_from X ds) at X (get_or (shapes_from X ds) at X) (shapes_end X ds at h))

module _ (old : Table) (X : Shape) (found rest : List Def) (at : ℕ) (g : Gathering old X found rest at) (Y : Shape) (is : Y ≡ get_or (shapes_from X found) at Y) (in_list : at ≤ length found) where
  reached_there : (name : Name) → Mentions name Y → Reaches old name X
  reached_there name h = ⊎_elim
      (λ e. reaches (subst (λ Z. Mentions name Z) e h))
      (λ p. let d = g.once p.0 Y p.1 in reaches_next old (g.reached p.0 Y d) (g.kept p.0 Y d) h)
      (place X found at Y in_list is)

  module _ (name : Name) (missed : missing true (entries_of found) Y ≡ Some name) where
    -- a name without a definition is reached
    pub gather_lost : definition (entries_of rest) name ≡ None → Reaches old name X × (definition old name ≡ None)
    gather_lost none =
        let h = missed_mentioned (entries_of found) Y name missed in
        (reached_there name h.0, sym (g.left name h.1) ∙ none)

    module _ (d : Def) (less : List Def) (t : Taken rest name (Some d) less) where
      new_name : definition (entries_of found) d.name.now ≡ None
      new_name = ap (definition (entries_of found)) t.0 ∙ (missed_mentioned (entries_of found) Y name missed).1

      from_old : definition old d.name.now ≡ Some (shape_of d.expr)
      from_old = sym (g.left d.name.now new_name) ∙ ap (definition (entries_of rest)) t.0 ∙ t.1

      reached_now : Reaches old d.name.now X
      reached_now = reached_there d.name.now (subst (λ n. Mentions n Y) (sym t.0) (missed_mentioned (entries_of found) Y name missed).0)

      abbrev now : Table
      now = entries_of found ++ (d.name.now, shape_of d.expr) ∷ []

      pushed_left : (n : Name) → definition now n ≡ None → definition (entries_of less) n ≡ definition old n
      pushed_left n none =
          let p = push_none (entries_of found) d.name.now (shape_of d.expr) n none in
          t.3 n (λ e. p.1 (t.0 ∙ sym e)) ∙ g.left n p.0

      pushed_known : (k : ℕ) (Z : Shape) → k < at → Z ≡ get_or (shapes_from X (found ++ d ∷ [])) k Z → missing true now Z ≡ None
      pushed_known k Z h e = none_missed (entries_of found) now (λ n W f. (W, append_known (entries_of found) ((d.name.now, shape_of d.expr) ∷ []) n W f)) true Z
          (g.known k Z h (e ∙ shapes_before X found d k Z (omega (arith, g.within, h))))

      pub gather_found : Gathering old X (found ++ d ∷ []) less at
      gather_found = record {
        kept = λ n Z e. ⊎_elim (g.kept n Z) (λ p. subst (λ m. definition old m ≡ Some Z) p.0 (from_old ∙ ap Some p.1))
            (push_some (entries_of found) d.name.now (shape_of d.expr) n Z (subst (λ es. definition es n ≡ Some Z) (entries_of-append found (d ∷ [])) e));
        reached = λ n Z e. ⊎_elim (g.reached n Z) (λ p. subst (λ m. Reaches old m X) p.0 reached_now)
            (push_some (entries_of found) d.name.now (shape_of d.expr) n Z (subst (λ es. definition es n ≡ Some Z) (entries_of-append found (d ∷ [])) e));
        once = λ n Z c. subst (λ es. definition es n ≡ Some Z) (sym (entries_of-append found (d ∷ []))) (push_once (entries_of found) d.name.now (shape_of d.expr) n Z new_name g.once (subst (λ es. Contains es (n, Z)) (entries_of-append found (d ∷ [])) c));
        left = λ n e. pushed_left n (subst (λ es. definition es n ≡ None) (entries_of-append found (d ∷ [])) e);
        known = λ k Z h e. subst (λ es. missing true es Z ≡ None) (sym (entries_of-append found (d ∷ []))) (pushed_known k Z h e);
        within = omega (arith, g.within, length-append found (d ∷ []));
      }

-- what a call says of the shape at a place
abbrev pub SaysAt : Shape → List Def → ℕ → Option Name → Type 0
SaysAt X ds at o = (Y : Shape) → Y ≡ get_or (shapes_from X ds) at Y → o ≡ missing true (entries_of ds) Y

module _ (old : Table) (X : Shape) (found rest : List Def) (at : ℕ) (g : Gathering old X found rest at) (in_list : at ≤ length found) (ds : List Def) (same : ds ≡ found) where
  pub lost_says : (name : Name) → SaysAt X ds at (Some name) → definition (entries_of rest) name ≡ None → Reaches old name X × (definition old name ≡ None)
  lost_says name says none = let here = shape_here X found at in_list in gather_lost old X found rest at g here.0 here.1 in_list name (sym (subst (λ es. SaysAt X es at (Some name)) same says here.0 here.1)) none

  pub found_says : (name : Name) → SaysAt X ds at (Some name) → (d : Def) (less : List Def) → Taken rest name (Some d) less → Gathering old X (found ++ d ∷ []) less at
  found_says name says d less t = let here = shape_here X found at in_list in gather_found old X found rest at g here.0 here.1 in_list name (sym (subst (λ es. SaysAt X es at (Some name)) same says here.0 here.1)) d less t

-- all are supplied
pub gather_end : (old : Table) (X : Shape) (found rest : List Def) (at : ℕ) → Gathering old X found rest at → length found < at → Collected old X (entries_of found)
gather_end old X found rest at g over = record {
  kept = g.kept;
  reached = g.reached;
  once = g.once;
  root = g.known 0 X (omega (arith, over)) refl;
  closed = λ n Y e. let p = shape_of_name found n Y e in g.known (suc p.0) Y (omega (arith, over, p.1)) p.2;
}
