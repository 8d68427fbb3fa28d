-- Which nodes are shallow: they lead to nothing but bytes that are legal whatever they are, and texts. A shallow node is checked at once.
use Rattle.std.specs.Prelude.{◌≡◌, ℕ, suc, zero, length, Bool, true, false, ◌&&◌, List, [], ◌∷◌, take, drop, ◌-◌, ◌<◌, ◌≤◌, slice_index_or, IsTrue}
use Rattle.archive_schema.specs.declared.plan.PointeeKind.{PointeeKind}
use Rattle.archive_schema.specs.declared.plan.PointeeKind.TheVariants.{One, Run, Text, Entries}
use Rattle.archive_schema.specs.declared.plan.NodeKind.{NodeKind}
use Rattle.archive_schema.specs.declared.plan.NodeKind.TheVariants.{Free, Leaf, Record, Choice, Array, Pointer as PointerNode, Str, Shared, Weak}
use Rattle.archive_schema.specs.declared.plan.Node.{Node}
use Rattle.archive_schema.specs.declared.plan.Part.{Part}
use Rattle.archive_schema.specs.declared.plan.Span.{Span}
use Rattle.archive_schema.specs.declared.plan.Plan.{Plan}
use Rattle.archive_schema.specs.declared.check.Checker.{Checker}
use Rattle.archive_check.specs.Words.Elements.{IsAt, span}

-- Whether a node is marked as shallow.
abbrev pub marked : List Bool → ℕ → Bool
marked marks i = slice_index_or marks i false

abbrev pub is_free : NodeKind → Bool
is_free Free = true
is_free (Leaf kind) = false
is_free (Record a b) = false
is_free (Choice name a b) = false
is_free (Array n j) = false
is_free (PointerNode target j) = false
is_free (Str j) = false
is_free (Shared k target j) = false
is_free (Weak k target j) = false

-- Whether the node at i may be any bytes.
abbrev pub free_at : List Node → ℕ → Bool
free_at [] i = false
free_at (x ∷ xs) zero = is_free x.kind
free_at (x ∷ xs) (suc i) = free_at xs i

-- Whether all these parts may be any bytes; those from a up to b are.
abbrev pub parts_free : List Node → List Part → Bool
parts_free nodes [] = true
parts_free nodes (x ∷ xs) = free_at nodes x.node && parts_free nodes xs

abbrev pub IsFreeSpan : List Node → List Part → ℕ → ℕ → Type 0
IsFreeSpan nodes parts a b = IsTrue (parts_free nodes (span parts a b))

-- Whether what such a pointer leads to is a text or may be any bytes.
abbrev pub target_shallow : List Node → PointeeKind → ℕ → Bool
target_shallow nodes One j = free_at nodes j
target_shallow nodes Run j = free_at nodes j
target_shallow nodes Text j = true
target_shallow nodes (Entries key) j = false

abbrev pub parts_shallow : List Bool → List Part → Bool
parts_shallow marks [] = true
parts_shallow marks (x ∷ xs) = marked marks x.node && parts_shallow marks xs

abbrev pub variants_shallow : List Bool → List Part → List Span → Bool
variants_shallow marks parts [] = true
variants_shallow marks parts (x ∷ xs) = parts_shallow marks (span parts x.first x.last) && variants_shallow marks parts xs

-- The parts from a up to b are marked; those of these variants.
abbrev pub IsShallowSpan : List Bool → List Part → ℕ → ℕ → Type 0
IsShallowSpan marks parts a b = IsTrue (parts_shallow marks (span parts a b))

abbrev pub AreShallowVariants : List Bool → List Part → List Span → Type 0
AreShallowVariants marks parts xs = IsTrue (variants_shallow marks parts xs)

-- Whether so much is known to be shallow: what the kind leads to is a text or may be any bytes, and what it holds is marked.
abbrev pub kind_shallow : List Node → List Part → List Span → List Bool → NodeKind → Bool
kind_shallow nodes parts variants marks Free = true
kind_shallow nodes parts variants marks (Leaf kind) = true
kind_shallow nodes parts variants marks (Record a b) = parts_shallow marks (span parts a b)
kind_shallow nodes parts variants marks (Choice name a b) = variants_shallow marks parts (span variants a b)
kind_shallow nodes parts variants marks (Array n j) = marked marks j
kind_shallow nodes parts variants marks (PointerNode target j) = target_shallow nodes target j
kind_shallow nodes parts variants marks (Str j) = true
kind_shallow nodes parts variants marks (Shared k target j) = false
kind_shallow nodes parts variants marks (Weak k target j) = false

-- Each node that is marked is shallow.
abbrev pub AreShallow : List Node → List Part → List Span → List Bool → Type 0
AreShallow nodes parts variants marks = (i : ℕ) (x : Node) → IsAt nodes i x → IsTrue (marked marks i) → IsTrue (kind_shallow nodes parts variants marks x.kind)

-- The elements from a up to b are in a list.
abbrev pub HasRange : {A : Type 0} → List A → ℕ → ℕ → Type 0
HasRange xs a b = (a ≤ b) × (b ≤ length xs)

-- The parts of all these variants are there.
abbrev pub HasSpans : List Part → List Span → Type 0
HasSpans parts [] = Unit {0}
HasSpans parts (x ∷ xs) = HasRange parts x.first x.last × HasSpans parts xs

-- The parts and variants of a kind are there.
abbrev pub HasIndexes : List Part → List Span → NodeKind → Type 0
HasIndexes parts variants (Record a b) = HasRange parts a b
HasIndexes parts variants (Choice name a b) = HasRange variants a b × HasSpans parts (take (b - a) (drop a variants))
HasIndexes parts variants Free = Unit {0}
HasIndexes parts variants (Leaf kind) = Unit {0}
HasIndexes parts variants (Array n j) = Unit {0}
HasIndexes parts variants (PointerNode target j) = Unit {0}
HasIndexes parts variants (Str j) = Unit {0}
HasIndexes parts variants (Shared k target j) = Unit {0}
HasIndexes parts variants (Weak k target j) = Unit {0}

-- Each node is marked that is shallow by the marks of those before it.
abbrev pub AreAllMarked : List Node → List Part → List Span → List Bool → Type 0
AreAllMarked nodes parts variants marks = (i : ℕ) (x : Node) → i < length marks → IsAt nodes i x → HasIndexes parts variants x.kind → IsTrue (kind_shallow nodes parts variants (take i marks) x.kind) → IsTrue (marked marks i)

-- A checker's marks, one for each node, are sound.
pub record IsMarked (m : Checker) : Type 0 where
  pub shallow : AreShallow m.nodes.now m.parts.now m.variants.now m.shallow.now
  pub all : length m.shallow.now ≡ length m.nodes.now

-- The node i is shallow.
abbrev pub IsShallow : Checker → ℕ → Type 0
IsShallow m i = (x : Node) → IsAt m.nodes.now i x → IsTrue (kind_shallow m.nodes.now m.parts.now m.variants.now m.shallow.now x.kind)

-- The same of a plan's own lists.
abbrev pub shallow_in : Plan → List Bool → NodeKind → Bool
shallow_in plan marks kind = kind_shallow plan.nodes.items plan.parts.items plan.variants.items marks kind

abbrev pub HasItsIndexes : Plan → NodeKind → Type 0
HasItsIndexes plan kind = HasIndexes plan.parts.items plan.variants.items kind

abbrev pub AreShallowIn : Plan → List Bool → Type 0
AreShallowIn plan marks = AreShallow plan.nodes.items plan.parts.items plan.variants.items marks

abbrev pub AreAllMarkedIn : Plan → List Bool → Type 0
AreAllMarkedIn plan marks = AreAllMarked plan.nodes.items plan.parts.items plan.variants.items marks
