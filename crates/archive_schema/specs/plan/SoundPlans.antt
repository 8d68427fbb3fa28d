-- Which plans are sound: each index leads to something, and what is in a node lies within its bytes and stands before it.
use Rattle.std.specs.Prelude.{◌≡◌, ℕ, ◌+◌, ◌*◌, ◌<◌, ◌≤◌, List, [], ◌∷◌, length, Some}
use Rattle.archive_schema.specs.declared.plan.NodeKind.{NodeKind}
use Rattle.archive_schema.specs.declared.plan.NodeKind.TheVariants.{Free, Leaf, Record, Choice, Array, Pointer as PointerNode, Str, Shared, Weak}
use Rattle.archive_schema.specs.declared.plan.Node.{Node}
use Rattle.archive_schema.specs.declared.plan.Part.{Part}
use Rattle.archive_schema.specs.declared.plan.Span.{Span}
use Rattle.archive_schema.specs.declared.check.Checker.{Checker}
use Rattle.archive_check.specs.Layout.{kind_size}
use Rattle.archive_check.specs.Expressions.{kind_of}
use Rattle.archive_schema.specs.check.Runs.{pointer_bytes, Takes}
use Rattle.archive_check.specs.Words.Elements.{IsAt, span}

-- Each part lies in the z bytes of the node i, and comes before it.
abbrev pub PartsWithin : Checker → ℕ → ℕ → List Part → Type 0
PartsWithin m i z [] = Unit {0}
PartsWithin m i z (x ∷ xs) = ((y : ℕ) × (x.node < i) × Takes m x.node y × (x.offset + y ≤ z)) × PartsWithin m i z xs

-- The parts from a up to b are there, and lie in the z bytes of the node i.
pub record SpanFits (m : Checker) (i z a b : ℕ) : Type 0 where
  pub last : b ≤ length m.parts.now
  pub few : b < 18446744073709551616
  pub within : PartsWithin m i z (span m.parts.now a b)

-- n of the node j lie in the z bytes of the node i.
pub record ArrayFits (m : Checker) (i z n j : ℕ) : Type 0 where
  pub element : ℕ
  pub earlier : j < i
  pub few : n < 18446744073709551616
  pub takes : Takes m j element
  pub within : n * element ≤ z

-- Behind a tag, each variant from a up to b lies in the z bytes of the node i.
pub record VariantsFit (m : Checker) (i z a b : ℕ) : Type 0 where
  pub tag : 0 < z
  pub last : b ≤ length m.variants.now
  pub few : b < 18446744073709551616
  pub fits : (k : ℕ) (x : Span) → a ≤ k → k < b → IsAt m.variants.now k x → SpanFits m i z x.first x.last

-- What the node i of z bytes does, it does within them.
abbrev pub NodeKindFits : Checker → ℕ → ℕ → NodeKind → Type 0
NodeKindFits m i z Free = Unit {0}
NodeKindFits m i z (Leaf kind) = kind_size (kind_of kind) ≤ z
NodeKindFits m i z (Record a b) = (0 < z) × SpanFits m i z a b
NodeKindFits m i z (Choice name a b) = VariantsFit m i z a b
NodeKindFits m i z (Array n j) = (0 < z) × ArrayFits m i z n j
NodeKindFits m i z (PointerNode target j) = (pointer_bytes target ≤ z) × (j < length m.nodes.now)
NodeKindFits m i z (Str j) = (8 ≤ z) × (j < length m.nodes.now)
NodeKindFits m i z (Shared k target j) = (pointer_bytes target ≤ z) × (k < length m.shared_types.now) × (j < length m.nodes.now)
NodeKindFits m i z (Weak k target j) = (pointer_bytes target ≤ z) × (k < length m.shared_types.now) × (j < length m.nodes.now)

-- Each node that can be entered fits.
pub record IsSound (m : Checker) : Type 0 where
  pub fits : (i : ℕ) (node : Node) (z : ℕ) → IsAt m.nodes.now i node → node.size ≡ Some z → NodeKindFits m i z node.kind
