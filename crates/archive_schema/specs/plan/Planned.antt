-- Plans of an expression and the definitions of its names.
use denote.Triple.Both.{Both}
use denote.Ref.{MutBor}
use Rattle.std.specs.Prelude.{◌≡◌, ℕ, ◌<◌, List, ◌++◌, length, take, Some, IsSome, is_some}
use Rattle.archive_check.specs.declared.format.defs.Def.{Def}
use Rattle.archive_schema.specs.declared.plan.Plan.{Plan}
use Rattle.archive_schema.specs.declared.check.Checker.{Checker}
use Rattle.archive_schema.specs.declared.plan.growing.NamedNode.{NamedNode}
use Rattle.archive_schema.specs.declared.plan.queue.Queue.{Queue}
use Rattle.archive_schema.specs.declared.plan.Node.{Node}
use Rattle.archive_check.specs.Shape.{Name, Shape, definition}
use Rattle.archive_check.specs.Expressions.{shape_of, entries_of}
use Rattle.archive_check.specs.Defined.{Holds, Mentions}
use Rattle.archive_check.specs.Reads.{SchemaTable, LaidOut}
use Rattle.archive_check.specs.Words.Elements.{IsAt}
use Rattle.archive_schema.specs.plan.SoundPlans.{IsSound}
use Rattle.archive_schema.specs.check.PlanChecks.{PlanOf}
use Rattle.archive_check.specs.Words.BoundedSizes.{fits}
use Rattle.archive_schema.specs.plan.PlanGrowth.{node_of, PlanLists, lists_of, no_lists, Grows}
use Rattle.archive_schema.specs.plan.CompileQueue.{Waits, waits_of, no_waits, wait_shapes}
use Rattle.archive_schema.specs.plan.Compilable.{Can, AllKnown}
use Rattle.archive_schema.specs.plan.Compiled.{Given, Adds, Compiled}
use Rattle.archive_schema.specs.plan.NodeNumbers.{start_of}

-- The checker's lists are the plan's.
pub record IsOf (m : Checker) (plan : Plan) : Type 0 where
  pub nodes : m.nodes.now ≡ plan.nodes.items
  pub parts : m.parts.now ≡ plan.parts.items
  pub variants : m.variants.now ≡ plan.variants.items
  pub shared_types : m.shared_types.now ≡ plan.shared_types.items

-- The plan is sound. Under each schema of these definitions whose layouts solve it, its nodes stand for shapes, and its node j for X.
pub record IsPlan (defs : List Def) (X : Shape) (plan : Plan) (j : ℕ) : Type 0 where
  pub below : j < length plan.nodes.items
  pub sound : (m : Checker) → IsOf m plan → IsSound m
  pub plan_of : (m : Checker) (s : SchemaTable) → IsOf m plan → s.table ≡ entries_of defs → LaidOut s → PlanOf m j s X

-- Each name that a definition mentions is defined, and each that it holds, and stands behind no pointer, before it.
pub record DefsInOrder (defs : List Def) : Type 0 where
  pub defined : (i : ℕ) (d : Def) → IsAt defs i d → (name : Name) → Mentions name (shape_of d.expr) → IsSome (definition (entries_of defs) name)
  pub earlier : (i : ℕ) (d : Def) → IsAt defs i d → (name : Name) → Holds name (shape_of d.expr) → IsSome (definition (entries_of (take i defs)) name)

-- So is each that the root mentions.
pub record InOrder (defs : List Def) (X : Shape) : Type 0 where
  pub definitions : DefsInOrder defs
  pub root : (name : Name) → Mentions name X → IsSome (definition (entries_of defs) name)

-- Each can be compiled where its nodes begin.
abbrev pub CanChain : List NamedNode → List Shape → Type 0
CanChain names Xs = (i : ℕ) (X : Shape) → IsAt Xs i X → Can names (start_of Xs i) X

-- What waits can be compiled behind all names.
pub record CanFinish (names : List NamedNode) (w : Waits) (b : PlanLists) : Type 0 where
  pub known : AllKnown names w.items
  pub below : (name : Name) (j : ℕ) → node_of names name ≡ Some j → j < length b.nodes

-- The names that are defined have nodes in the plan. Under each schema of these definitions whose layouts solve it, those have the names' layouts.
pub record HasNames (defs : List Def) (names : List NamedNode) (plan : Plan) : Type 0 where
  pub known : (name : Name) → is_some (node_of names name) ≡ is_some (definition (entries_of defs) name)
  pub there : (name : Name) (j : ℕ) → node_of names name ≡ Some j → j < length plan.nodes.items
  pub sizes : (s : SchemaTable) → s.table ≡ entries_of defs → LaidOut s → (name : Name) (j : ℕ) (node : Node) → node_of names name ≡ Some j → IsAt plan.nodes.items j node → node.size ≡ fits (s.layouts name).size
  pub aligns : (s : SchemaTable) → s.table ≡ entries_of defs → LaidOut s → (name : Name) (j : ℕ) (node : Node) → node_of names name ≡ Some j → IsAt plan.nodes.items j node → node.align ≡ (s.layouts name).align

-- X was compiled from the node `start` on, on the way to the plan.
pub record CompiledFrom (names : List NamedNode) (X : Shape) (start : ℕ) (w : Waits) (b : PlanLists) (gives : List Shape) : Type 0 where
  pub before : PlanLists
  pub after : PlanLists
  pub waits : Waits
  pub later : Waits
  pub node : ℕ
  pub compiled : Compiled names (length before.nodes) X waits later before after node
  pub starts : length before.nodes ≡ start
  pub grows : Grows after b
  pub given : (shapes : ℕ → Shape) → Given shapes 0 gives → Given shapes (length before.nodes) compiled.gives

-- These were compiled, one after another; what they lead to waits for the nodes from `base` on.
pub record Chained (names : List NamedNode) (Xs : List Shape) (base : ℕ) (w : Waits) (b : PlanLists) : Type 0 where
  pub gives : List Shape
  pub gives_count : length gives ≡ start_of Xs (length Xs)
  pub adds : Adds names gives (no_waits base) w no_lists b
  pub each : (i : ℕ) (X : Shape) → IsAt Xs i X → CompiledFrom names X (start_of Xs i) w b gives
  pub all_known : CanChain names Xs → AllKnown names w.items

-- From v and a on, all that waits is compiled: behind whatever was before, if nothing of v was.
pub record Finishes (names : List NamedNode) (v w : Waits) (a b : PlanLists) : Type 0 where
  pub grows : Grows a b
  pub chained : (Xs : List Shape) (base : ℕ) → Chained names Xs base v a → Chained names (Xs ++ wait_shapes w.items) base w b

-- The same, as far as the first i.
pub record FinishesTo (names : List NamedNode) (i : ℕ) (v w : Waits) (a b : PlanLists) : Type 0 where
  pub can_to : CanFinish names v a → CanFinish names w b
  pub grows_to : Grows a b
  pub chained_to : (Xs : List Shape) (base : ℕ) → Chained names Xs base v a → Chained names (Xs ++ wait_shapes (take i w.items)) base w b

-- Likewise, of calls with this queue and this plan. `Both` is a parameter as a clause names it: what it was as the call began, and what it is at the return.
abbrev pub IsChained : List NamedNode → List Shape → Both (MutBor Queue) (MutBor Queue) → Both (MutBor Plan) (MutBor Plan) → Type 0
IsChained names Xs q p = Chained names Xs q.entry.now.next (waits_of q.exit.now) (lists_of p.exit.now)

abbrev pub IsFinished : List NamedNode → Both (MutBor Queue) (MutBor Queue) → Both (MutBor Plan) (MutBor Plan) → Type 0
IsFinished names q p = Finishes names (waits_of q.entry.now) (waits_of q.exit.now) (lists_of p.entry.now) (lists_of p.exit.now)
