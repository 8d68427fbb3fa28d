-- The queue of expressions that are still to be compiled, each with its node.
use Rattle.std.specs.Prelude.{◌≡◌, ◌⊎◌, ℕ, ◌+◌, ◌≤◌, List, [], ◌∷◌, ◌++◌, Some}
use Rattle.archive_schema.specs.declared.plan.growing.NamedNode.{NamedNode}
use Rattle.archive_schema.specs.declared.plan.queue.Waiting.{Waiting}
use Rattle.archive_schema.specs.declared.plan.queue.Queue.{Queue}
use Rattle.archive_check.specs.Shape.{Name, Shape, named}
use Rattle.archive_check.specs.Measure.{measure_of}
use Rattle.archive_check.specs.Expressions.{shape_of}
use Rattle.archive_schema.specs.plan.NodeCounts.{count_of}
use Rattle.archive_schema.specs.plan.PlanGrowth.{node_of}

-- an expression, and its node.
pub record Wait : Type 0 where
  pub shape : Shape
  pub node : ℕ

-- Expressions in their order, and where the nodes of the next would begin.
pub record Waits : Type 0 where
  pub items : List Wait
  pub next : ℕ

abbrev pub waits_in : List Waiting → List Wait
waits_in [] = []
waits_in (x ∷ xs) = record { shape = shape_of x.expr.now; node = x.node } ∷ waits_in xs

abbrev pub waits_of : Queue → Waits
waits_of q = record { items = waits_in q.items.items; next = q.next }

abbrev pub no_waits : ℕ → Waits
no_waits next = record { items = []; next = next }

abbrev pub wait_shapes : List Wait → List Shape
wait_shapes [] = []
wait_shapes (x ∷ xs) = x.shape ∷ wait_shapes xs

-- How much is left to compile.
abbrev pub measure_of_waits : List Wait → ℕ
measure_of_waits [] = 0
measure_of_waits (x ∷ xs) = measure_of x.shape + 1 + measure_of_waits xs

-- Each has the nodes behind those of the one before it, from `base` up to `next`, and the last is its own.
abbrev pub Reserved : ℕ → List Wait → ℕ → Type 0
Reserved base [] next = base ≡ next
Reserved base (x ∷ xs) next = (x.node + 1 ≡ base + count_of x.shape) × (base ≤ x.node) × Reserved (base + count_of x.shape) xs next

-- One more waits.
pub record IsWaiting (X : Shape) (v w : Waits) (j : ℕ) : Type 0 where
  pub node_is : j + 1 ≡ v.next + count_of X
  pub begins : v.next ≤ j
  pub items_are : w.items ≡ v.items ++ record { shape = X; node = j } ∷ []
  pub next_is : w.next ≡ v.next + count_of X

-- A name has its node, and what isn't one waits.
abbrev pub IsQueued : List NamedNode → Shape → Waits → Waits → ℕ → Type 0
IsQueued names X v w j = ((name : Name) × (X ≡ named name) × (node_of names name ≡ Some j) × (w ≡ v)) ⊎ IsWaiting X v w j
