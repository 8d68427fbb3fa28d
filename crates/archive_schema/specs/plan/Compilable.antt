-- Expressions whose names are all found where they are compiled.
use Rattle.std.specs.Prelude.{◌≡◌, ℕ, ◌<◌, List, Some, IsSome}
use Rattle.archive_schema.specs.declared.plan.growing.NamedNode.{NamedNode}
use Rattle.archive_check.specs.Shape.{Name, Shape, Pointee, Parts, Variants}
use Rattle.archive_check.specs.Defined.{Holds, PartsHold, VariantsHold, Mentions, PointeeMentions, PartsMention, VariantsMention}
use Rattle.archive_check.specs.Words.Elements.{IsAt}
use Rattle.archive_schema.specs.plan.PlanGrowth.{node_of}
use Rattle.archive_schema.specs.plan.CompileQueue.{Wait}

-- Each name that is mentioned has a node, and each that is held, and stands behind no pointer, one before `done`.
pub record Can (names : List NamedNode) (done : ℕ) (X : Shape) : Type 0 where
  pub known : (name : Name) → Mentions name X → IsSome (node_of names name)
  pub placed : (name : Name) (j : ℕ) → Holds name X → node_of names name ≡ Some j → j < done

pub record CanParts (names : List NamedNode) (done : ℕ) (ps : Parts) : Type 0 where
  pub parts_known : (name : Name) → PartsMention name ps → IsSome (node_of names name)
  pub parts_placed : (name : Name) (j : ℕ) → PartsHold name ps → node_of names name ≡ Some j → j < done

pub record CanVariants (names : List NamedNode) (done : ℕ) (vs : Variants) : Type 0 where
  pub variants_known : (name : Name) → VariantsMention name vs → IsSome (node_of names name)
  pub variants_placed : (name : Name) (j : ℕ) → VariantsHold name vs → node_of names name ≡ Some j → j < done

-- Each name behind a pointer has a node.
pub record CanPoint (names : List NamedNode) (P : Pointee) : Type 0 where
  pub pointee_known : (name : Name) → PointeeMentions name P → IsSome (node_of names name)

pub record CanWait (names : List NamedNode) (X : Shape) : Type 0 where
  pub shape_known : (name : Name) → Mentions name X → IsSome (node_of names name)

-- So has each in what waits.
pub record AllKnown (names : List NamedNode) (waits : List Wait) : Type 0 where
  pub each : (k : ℕ) (x : Wait) → IsAt waits k x → CanWait names x.shape
