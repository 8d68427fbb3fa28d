-- What was compiled, restated: of an equal expression, of parts written another way, of a refusal that is handed on.
use Rattle.std.proofs.Common.{◌≡◌, ℕ, sym, subst, List, Bool, Option, Result, Ok, Err, IfOk, IfErr, IsErrAnd}
use Rattle.archive_schema.specs.declared.plan.PointeeKind.{PointeeKind}
use Rattle.archive_schema.specs.declared.plan.Part.{Part}
use Rattle.archive_schema.specs.declared.plan.Span.{Span}
use Rattle.archive_schema.specs.declared.plan.growing.NamedNode.{NamedNode}
use Rattle.archive_check.specs.Shape.{Shape, Pointee, Parts, Variants}
use Rattle.archive_schema.specs.plan.PlanGrowth.{PlanLists}
use Rattle.archive_schema.specs.plan.CompileQueue.{Waits}
use Rattle.archive_schema.specs.plan.Compiled.{Compiled, CompiledPointee, RowIs, SpansAre}

pub ok_map : {T E : Type 0} {P Q : T → Type 0} (r : Result T E) → IfOk r P → ((x : T) → P x → Q x) → IfOk r Q
ok_map (Ok x) p f = f x p
ok_map (Err e) p f = tt

-- a refusal that is handed on
pub handed_as : {T E : Type 0} (r : Result T E) (x : E) (P : E → Type 0) → IsErrAnd r (λ e. e ≡ x) → P x → IfErr r P
handed_as (Ok v) x P h p = absurd h
handed_as (Err e) x P h p = subst P (sym h) p

module _ {names : List NamedNode} {v w : Waits} {a b : PlanLists} {j : ℕ} where
  pub as_shape : {done : ℕ} {X Y : Shape} → X ≡ Y → Compiled names done Y v w a b j → Compiled names done X v w a b j
  as_shape {done} e c = subst (λ Z. Compiled names done Z v w a b j) (sym e) c

  pub as_done : {done n : ℕ} {X : Shape} → done ≡ n → Compiled names done X v w a b j → Compiled names n X v w a b j
  as_done {X = X} e c = subst (λ n. Compiled names n X v w a b j) e c

  pub as_pointee : {P Q : Pointee} {target : PointeeKind} → P ≡ Q → CompiledPointee names Q v w a b target j → CompiledPointee names P v w a b target j
  as_pointee {target = target} e c = subst (λ Z. CompiledPointee names Z v w a b target j) (sym e) c

-- the parts that are left, written another way
pub row_left : {names : List NamedNode} {done start : ℕ} {all rest other : Parts} {v w : Waits} {a b : PlanLists} {row : List Part} {end : Option ℕ} {align : ℕ} {free : Bool}
    → rest ≡ other → RowIs names done start all rest v w a b row end align free → RowIs names done start all other v w a b row end align free
row_left {names} {done} {start} {all} {rest} {other} {v} {w} {a} {b} {row} {end} {align} {free} e r = subst (λ x. RowIs names done start all x v w a b row end align free) e r

pub spans_left : {names : List NamedNode} {done : ℕ} {all rest other : Variants} {v w : Waits} {a b : PlanLists} {row : List Span} {end : Option ℕ} {align : ℕ}
    → rest ≡ other → SpansAre names done all rest v w a b row end align → SpansAre names done all other v w a b row end align
spans_left {names} {done} {all} {rest} {other} {v} {w} {a} {b} {row} {end} {align} e r = subst (λ x. SpansAre names done all x v w a b row end align) e r
