-- The definitions that a schema keeps are in order, so that a plan of them is refused for want of memory alone.
use Rattle.std.proofs.Common.{◌≡◌, ℕ, zero, suc, refl, ap, subst, arith, List, [], ◌∷◌, take, is_some, IsSome, false}
use Rattle.archive_check.specs.declared.format.defs.Def.{Def}
use Rattle.archive_check.specs.Shape.{Name, Shape, Table, definition}
use Rattle.archive_check.specs.Expressions.{shape_of, entries_of}
use Rattle.archive_schema.specs.plan.Names.{HasAll}
use Rattle.archive_check.specs.MissingNames.{Arranged}
use Rattle.archive_check.specs.Words.Elements.{IsAt}
use Rattle.archive_schema.specs.plan.Planned.{InOrder}
use Rattle.archive_check.proofs.Names.MissingNames.{IsDefined, held_defined, mentioned_defined}
use Rattle.archive_schema.proofs.plan.Named.{contains-at}

entry_at : (ds : List Def) (i : ℕ) (d : Def) → IsAt ds i d → IsAt (entries_of ds) i (d.name.now, shape_of d.expr)
entry_at [] i d h = absurd (omega (arith, h.below))
entry_at (x ∷ ds) zero d h = record { below = omega arith; is = ap (λ (y : Def). (y.name.now, shape_of y.expr)) h.is }
entry_at (x ∷ ds) (suc i) d h = let a = entry_at ds i d (record { below = omega (arith, h.below); is = h.is }) in record { below = omega (arith, a.below); is = a.is }

entries_take : (ds : List Def) (i : ℕ) → take i (entries_of ds) ≡ entries_of (take i ds)
entries_take ds zero = refl
entries_take [] (suc i) = refl
entries_take (d ∷ ds) (suc i) = ap (λ l. (d.name.now, shape_of d.expr) ∷ l) (entries_take ds i)

defined_some : (table : Table) (name : Name) → IsDefined table name → IsSome (definition table name)
defined_some table name h = ap is_some h.1

pub in_order_of : (ds : List Def) (X : Shape) → HasAll (entries_of ds) X → Arranged (entries_of ds) (entries_of ds) → InOrder ds X
in_order_of ds X all order = record {
  definitions = record {
    defined = λ i d at name m.
        let has = order.once d.name.now (shape_of d.expr) (contains-at ds i d at.below at.is) in
        defined_some (entries_of ds) name (mentioned_defined (entries_of ds) name m (all.closed d.name.now (shape_of d.expr) has));
    earlier = λ i d at name h.
        let e = entry_at ds i d at in
        let none = order.earlier i d.name.now (shape_of d.expr) e.below e.is in
        subst (λ table. IsSome (definition table name)) (entries_take ds i) (defined_some (take i (entries_of ds)) name (held_defined (take i (entries_of ds)) false name h none));
  };
  root = λ name m. defined_some (entries_of ds) name (mentioned_defined (entries_of ds) name m all.root);
}
