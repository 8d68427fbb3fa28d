-- Which plans are packed: the parts of a node take no more bytes together than it has.
use Rattle.std.specs.Prelude.{◌≡◌, ℕ, zero, suc, ◌+◌, ◌≤◌, max, List, [], ◌∷◌, Some, unwrap_or}
use Rattle.archive_schema.specs.declared.plan.NodeKind.{NodeKind}
use Rattle.archive_schema.specs.declared.plan.NodeKind.TheVariants.{Free, Leaf, Record, Choice, Array, Pointer as PointerNode, Str, Shared, Weak}
use Rattle.archive_schema.specs.declared.plan.Node.{Node}
use Rattle.archive_schema.specs.declared.plan.Part.{Part}
use Rattle.archive_schema.specs.declared.plan.Span.{Span}
use Rattle.archive_check.specs.Words.Elements.{IsAt, span}

-- The bytes that the node at i takes; 0 where there is none, or it takes more than usize::MAX.
abbrev pub size_at : List Node → ℕ → ℕ
size_at [] i = 0
size_at (x ∷ xs) zero = unwrap_or x.size 0
size_at (x ∷ xs) (suc i) = size_at xs i

-- The bytes that these parts take together.
abbrev pub parts_size : List Node → List Part → ℕ
parts_size nodes [] = 0
parts_size nodes (x ∷ xs) = size_at nodes x.node + parts_size nodes xs

-- The bytes that the parts of the largest of these variants take together.
abbrev pub variants_size : List Node → List Part → List Span → ℕ
variants_size nodes parts [] = 0
variants_size nodes parts (x ∷ xs) = max (parts_size nodes (span parts x.first x.last)) (variants_size nodes parts xs)

-- The bytes that a node's parts take together, or those of its largest variant.
abbrev pub held_size : List Node → List Part → List Span → NodeKind → ℕ
held_size nodes parts variants Free = 0
held_size nodes parts variants (Leaf kind) = 0
held_size nodes parts variants (Record a b) = parts_size nodes (span parts a b)
held_size nodes parts variants (Choice name a b) = variants_size nodes parts (span variants a b)
held_size nodes parts variants (Array n j) = 0
held_size nodes parts variants (PointerNode target j) = 0
held_size nodes parts variants (Str j) = 0
held_size nodes parts variants (Shared k target j) = 0
held_size nodes parts variants (Weak k target j) = 0

-- These are no more than the node has, in each node that can be entered.
abbrev pub ArePacked : List Node → List Part → List Span → Type 0
ArePacked nodes parts variants = (i : ℕ) (x : Node) (z : ℕ) → IsAt nodes i x → x.size ≡ Some z → held_size nodes parts variants x.kind ≤ z
