-- The nodes of names, known by counting before anything is compiled.
use Rattle.std.specs.Prelude.{◌≡◌, ◌⊎◌, ℕ, zero, suc, ◌+◌, ◌<◌, ◌≤◌, List, [], ◌∷◌, length, true, false, bytes_eq, Some}
use Rattle.archive_check.specs.declared.format.defs.Def.{Def}
use Rattle.archive_schema.specs.declared.plan.growing.NamedNode.{NamedNode}
use Rattle.archive_check.specs.Shape.{Name, Shape, named}
use Rattle.archive_check.specs.Expressions.{shape_of}
use Rattle.archive_check.specs.Words.Elements.{IsAt}
use Rattle.archive_schema.specs.plan.PlanGrowth.{node_of}
use Rattle.archive_schema.specs.plan.NodeCounts.{count_of}

-- The shapes of definitions.
abbrev pub def_shapes : List Def → List Shape
def_shapes [] = []
def_shapes (d ∷ ds) = shape_of d.expr ∷ def_shapes ds

-- Where the nodes of the i-th begin, of shapes that are compiled one after another.
abbrev pub start_of : List Shape → ℕ → ℕ
start_of Xs zero = 0
start_of [] (suc i) = 0
start_of (X ∷ Xs) (suc i) = count_of X + start_of Xs i

-- The first entry of a name is at q, and its node is j.
pub record FirstAt (names : List NamedNode) (name : Name) (q j : ℕ) : Type 0 where
  pub known : NamedNode
  pub at : IsAt names q known
  pub node_is : known.node ≡ j
  pub same : bytes_eq known.name.now name ≡ true
  pub others : (p : ℕ) (k : NamedNode) → p < q → IsAt names p k → bytes_eq k.name.now name ≡ false

-- The definition i is a name, which stands before it and has the node j; or its nodes begin at `start`, and j is the last.
abbrev pub IsDefinitionNode : List NamedNode → ℕ → ℕ → Shape → ℕ → Type 0
IsDefinitionNode names i start X j =
    ((name : Name) × (X ≡ named name) × ((q : ℕ) × (q < i) × FirstAt names name q j))
    ⊎ ((j + 1 ≡ start + count_of X) × (start ≤ j))

-- The node of an expression whose nodes begin at `start`: a name's is known.
abbrev pub IsExpressionNode : List NamedNode → ℕ → Shape → ℕ → Type 0
IsExpressionNode names start X j = ((name : Name) × (X ≡ named name) × (node_of names name ≡ Some j)) ⊎ ((j + 1 ≡ start + count_of X) × (start ≤ j))

-- The same, and where its nodes end.
abbrev pub IsNumberedFrom : List NamedNode → ℕ → Shape → ℕ → ℕ → Type 0
IsNumberedFrom names start X j end = IsExpressionNode names start X j × (end ≡ start + count_of X)

-- The first n definitions have their entries.
pub record IsNumbered (defs : List Def) (names : List NamedNode) (n : ℕ) : Type 0 where
  pub count : length names ≡ n
  pub name_is : (i : ℕ) (d : Def) (k : NamedNode) → IsAt defs i d → IsAt names i k → k.name.now ≡ d.name.now
  pub root_is : (i : ℕ) (d : Def) (k : NamedNode) → IsAt defs i d → IsAt names i k → IsDefinitionNode names i (start_of (def_shapes defs) i) (shape_of d.expr) k.node

-- All have, and this is the number of their nodes.
abbrev pub AreNumbered : List Def → List NamedNode → ℕ → Type 0
AreNumbered defs names count = IsNumbered defs names (length defs) × (count ≡ start_of (def_shapes defs) (length defs))
