-- Expressions that wait to be compiled, and the nodes that are kept for them.
use Rattle.std.proofs.Common.{◌≡◌, inl, inr, ⊎_elim, ℕ, refl, sym, ap, subst, ◌+◌, ◌≤◌, arith, List, [], ◌∷◌, ◌++◌, length, Some, Bor}
use Rattle.archive_schema.specs.declared.plan.growing.NamedNode.{NamedNode}
use Rattle.archive_check.specs.declared.format.expr.Expr.{Expr}
use Rattle.archive_check.specs.declared.format.expr.Expr.TheVariants as expr
use Rattle.archive_schema.specs.declared.plan.queue.Waiting.{Waiting}
use Rattle.archive_check.specs.Expressions.{shape_of}
use Rattle.archive_check.specs.Shape.{Name, Shape, named}
use Rattle.archive_schema.specs.plan.NodeCounts.{count_of}
use Rattle.archive_check.specs.Words.Elements.{IsAt}
use Rattle.archive_schema.specs.plan.PlanGrowth.{node_of, PlanLists}
use Rattle.archive_schema.specs.plan.Compilable.{CanWait}
use Rattle.archive_schema.specs.plan.CompileQueue.{Wait, Waits, waits_in, wait_shapes, measure_of_waits, Reserved, IsWaiting, IsQueued}
use Rattle.archive_schema.specs.plan.Compiled.{CompiledPointeeKind}
use Rattle.archive_schema.proofs.plan.GrowingPlans.{at_less, grows_refl}
use Rattle.archive_check.proofs.Elements.{at_end, at_last}
use Rattle.archive_schema.proofs.plan.AddedNodes.{adds_refl}

pub reserved_append : (base : ℕ) (xs : List Wait) (mid : ℕ) (x : Wait) (next : ℕ) → Reserved base xs mid → x.node + 1 ≡ mid + count_of x.shape → mid ≤ x.node → next ≡ mid + count_of x.shape → Reserved base (xs ++ x ∷ []) next
reserved_append base [] mid x next r e le n = (omega (arith, r, e), omega (arith, r, le), omega (arith, r, n))
reserved_append base (y ∷ xs) mid x next r e le n = (r.0, r.1, reserved_append (base + count_of y.shape) xs mid x next r.2 e le n)

pub measure_of_waits-append : (xs ys : List Wait) → measure_of_waits (xs ++ ys) ≡ measure_of_waits xs + measure_of_waits ys
measure_of_waits-append [] ys = omega arith
measure_of_waits-append (x ∷ xs) ys = omega (arith, measure_of_waits-append xs ys)

pub wait_shapes-append : (xs ys : List Wait) → wait_shapes (xs ++ ys) ≡ wait_shapes xs ++ wait_shapes ys
wait_shapes-append [] ys = refl
wait_shapes-append (x ∷ xs) ys = ap (λ l. x.shape ∷ l) (wait_shapes-append xs ys)

pub targets_name : {names : List NamedNode} {name : Name} {v : Waits} {a : PlanLists} {j : ℕ} → node_of names name ≡ Some j → CompiledPointeeKind names (named name) v v a j
targets_name {names = names} {name = name} {v = v} {a = a} {j = j} e = record {
  adds = adds_refl names v a;
  waits_few = omega arith;
  known = λ all can. all;
  below = λ m w. w.names_below name j e;
  sized = λ s shapes m t. t.sized name j e;
  stands = λ s shapes m t. t.stand name j e;
}

pub targets_waiting : {names : List NamedNode} {X : Shape} {v w : Waits} {a : PlanLists} {j : ℕ} → IsWaiting X v w j → CompiledPointeeKind names X v w a j
targets_waiting {names} {X} {v} {w} {a} {j} q =
    let x : Wait = record { shape = X; node = j } in
    let here : IsAt w.items (length v.items) x = subst (λ xs. IsAt xs (length v.items) x) (sym q.items_are) (at_end v.items x) in
    record {
      adds = record {
        grows = grows_refl a;
        waits_go = record { more = x ∷ []; is = q.items_are };
        reserved = λ base r. subst (λ xs. Reserved base xs w.next) (sym q.items_are) (reserved_append base v.items v.next x w.next r q.node_is q.begins q.next_is);
        count = omega arith;
        sound = λ m g below k. k;
        made = λ s shapes m g t given k. k;
      };
      waits_few = omega (arith, ap measure_of_waits q.items_are, measure_of_waits-append v.items (x ∷ []));
      known = λ all can. record {
        each = λ k y at. ⊎_elim
            (λ lt. all.each k y (at_less (record { more = x ∷ []; is = refl }) lt (subst (λ xs. IsAt xs k y) q.items_are at)))
            (λ h. subst (λ (z : Wait). CanWait names z.shape) (sym h.1) can)
            (at_last v.items x y k (subst (λ xs. IsAt xs k y) q.items_are at));
      };
      below = λ m below. below.waits_below (length v.items) x here;
      sized = λ s shapes m t. t.waits_sized (length v.items) x here;
      stands = λ s shapes m t. t.waits_stand (length v.items) x here;
    }

pub targets_queued : {names : List NamedNode} {a : PlanLists} (X : Shape) (v w : Waits) (j : ℕ) → IsQueued names X v w j → CompiledPointeeKind names X v w a j
targets_queued {names} {a} X v w j (inl h) = subst (λ Y. CompiledPointeeKind names Y v w a j) (sym h.1) (subst (λ u. CompiledPointeeKind names (named h.0) v u a j) (sym h.3) (targets_name h.2))
targets_queued {names} {a} X v w j (inr h) = targets_waiting h

pub waits_in-append : (xs ys : List Waiting) → waits_in (xs ++ ys) ≡ waits_in xs ++ waits_in ys
waits_in-append [] ys = refl
waits_in-append (x ∷ xs) ys = ap (λ l. record { shape = shape_of x.expr.now; node = x.node } ∷ l) (waits_in-append xs ys)

-- an expression that is no name stands for none
pub no_name : (x : Expr) → ((b : Bor (List ℕ)) → x ≡ expr.Named b → ⊥) → (name : Name) → shape_of x ≡ named name → ⊥
no_name (expr.Leaf kind) h name e = cc e
no_name (expr.Record' v row) h name e = cc e
no_name (expr.Choice' n v rows) h name e = cc e
no_name (expr.Array' n p x) h name e = cc e
no_name (expr.Box' p x) h name e = cc e
no_name (expr.Vec' p x) h name e = cc e
no_name (expr.Map' k p x) h name e = cc e
no_name expr.Str h name e = cc e
no_name (expr.Shared' f p x) h name e = cc e
no_name (expr.Weak' f p x) h name e = cc e
no_name (expr.Named b) h name e = h b refl
