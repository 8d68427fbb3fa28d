-- A plan's nodes stand for shapes.
use Rattle.std.specs.Prelude.{◌≡◌, ℕ, ◌+◌, ◌<◌, ◌≤◌, List, length, Option, Some, None, nat_lt, if◌then◌else◌}
use Rattle.std.specs.Borrow.{Bor}
use Rattle.archive_check.specs.declared.format.expr.Kind.{Kind as KindExpr}
use Rattle.archive_check.specs.declared.format.expr.Key.{Key as KeyExpr}
use Rattle.archive_schema.specs.declared.plan.PointeeKind.{PointeeKind}
use Rattle.archive_schema.specs.declared.plan.PointeeKind.TheVariants.{One, Run, Text, Entries}
use Rattle.archive_schema.specs.declared.plan.NodeKind.{NodeKind}
use Rattle.archive_schema.specs.declared.plan.NodeKind.TheVariants.{Free, Leaf, Record, Choice, Array, Pointer as PointerNode, Str, Shared, Weak}
use Rattle.archive_schema.specs.declared.plan.Node.{Node}
use Rattle.archive_schema.specs.declared.plan.Part.{Part as PlanPart}
use Rattle.archive_schema.specs.declared.plan.Span.{Span}
use Rattle.archive_check.specs.declared.context.positions.SharedType.{SharedType}
use Rattle.archive_schema.specs.declared.check.Checker.{Checker}
use Rattle.archive_check.specs.Shape.{Name, Key, Shape, leaf, parts, choice, array, boxed, vec, sorted_map, entry_of, str, shared, weak, named, Pointee, one, run, text, Parts, no_part, part, Variants, definition, variant_at}
use Rattle.archive_check.specs.Layout.{up, size_of, align_of}
use Rattle.archive_check.specs.Reads.{SchemaTable}
use Rattle.archive_check.specs.Tour.{Seen}
use Rattle.archive_check.specs.Trail.{Fault}
use Rattle.archive_check.specs.Walk.{Walk}
use Rattle.archive_check.specs.Expressions.{kind_of, key_of, flavor_of, pointee_of}
use Rattle.archive_check.specs.Words.Elements.{IsAt}
use Rattle.archive_schema.specs.check.Runs.{Takes}
use Rattle.archive_check.specs.Outcomes.{Outcome, done, refused}

-- A node stands for a shape; a name for its definition's node.
pub data NodeStandsFor (s : SchemaTable) (shapes : ℕ → Shape) : Shape → ℕ → Type 0 where
  stands : {X : Shape} {j : ℕ} → shapes j ≡ X → NodeStandsFor s shapes X j
  stands_named : {name : Name} {X : Shape} {j : ℕ} → definition s.table name ≡ Some X → NodeStandsFor s shapes X j → NodeStandsFor s shapes (named name) j

-- The parts from a to b, laid out from an offset on.
pub data PartsStand (s : SchemaTable) (shapes : ℕ → Shape) (m : Checker) : ℕ → ℕ → ℕ → Parts → Type 0 where
  parts_over : {a b at : ℕ} → b ≤ a → PartsStand s shapes m a b at no_part
  parts_more : {a b at : ℕ} {x : PlanPart} {X : Shape} {ps : Parts}
      → a < b → IsAt m.parts.now a x → x.offset ≡ up at (align_of s.layouts X) → NodeStandsFor s shapes X x.node → Takes m x.node (size_of s.layouts X)
      → PartsStand s shapes m (a + 1) b (up at (align_of s.layouts X) + size_of s.layouts X) ps
      → PartsStand s shapes m a b at (part X ps)

-- The node at j takes so much, or (None) more than usize::MAX.
pub record Sized (m : Checker) (j size align : ℕ) : Type 0 where
  pub node : Node
  pub at : IsAt m.nodes.now j node
  pub size_is : node.size ≡ (if nat_lt size 18446744073709551616 then Some size else None)
  pub align_is : node.align ≡ align

-- What a pointer leads to, and in which order: entries, whose values have the node j, by their keys.
pub data Points (s : SchemaTable) (shapes : ℕ → Shape) (m : Checker) : PointeeKind → Option Key → ℕ → Pointee → Type 0 where
  points_one : {j : ℕ} {X : Shape} → Sized m j (size_of s.layouts X) (align_of s.layouts X) → NodeStandsFor s shapes X j → Points s shapes m One None j (one X)
  points_run : {j : ℕ} {X : Shape} → Sized m j (size_of s.layouts X) (align_of s.layouts X) → NodeStandsFor s shapes X j → Points s shapes m Run None j (run X)
  points_entries : {j : ℕ} {key : KeyExpr} {V : Shape} → Sized m j (size_of s.layouts V) (align_of s.layouts V) → NodeStandsFor s shapes V j → Points s shapes m (Entries key) (Some (key_of key)) j (run (entry_of (key_of key) V))
  points_text : {j : ℕ} → Points s shapes m Text None j text

pub data Made (s : SchemaTable) (shapes : ℕ → Shape) (m : Checker) : NodeKind → Shape → Type 0 where
  -- Any bytes are an X, and hold no pointer.
  made_free : {X : Shape}
      → ((bytes pending : List ℕ) (depth : Option ℕ) (stop p start : ℕ) (seen : Seen) → p + size_of s.layouts X ≤ length bytes → Walk s bytes pending depth stop p X start seen start seen)
      → Made s shapes m Free X
  made_leaf : {kind : KindExpr} → Made s shapes m (Leaf kind) (leaf (kind_of kind))
  made_record : {a b : ℕ} {ps : Parts} → PartsStand s shapes m a b 0 ps → Made s shapes m (Record a b) (parts ps)
  made_choice : {name : Bor (List ℕ)} {a b : ℕ} {vs : Variants}
      → ((tag : ℕ) (x : Span) → a + tag < b → IsAt m.variants.now (a + tag) x → (ps : Parts) × (variant_at vs tag ≡ Some ps) × PartsStand s shapes m x.first x.last 1 ps)
      → ((tag : ℕ) → b ≤ a + tag → variant_at vs tag ≡ None)
      → Made s shapes m (Choice name a b) (choice name.now vs)
  made_array : {n j : ℕ} {X : Shape} → NodeStandsFor s shapes X j → Takes m j (size_of s.layouts X) → Made s shapes m (Array n j) (array n X)
  made_boxed : {target : PointeeKind} {j : ℕ} {P : Pointee} → Points s shapes m target None j P → Made s shapes m (PointerNode target j) (boxed P)
  made_vec : {j : ℕ} {X : Shape} → Points s shapes m Run None j (run X) → Made s shapes m (PointerNode Run j) (vec X)
  made_map : {j : ℕ} {key : KeyExpr} {V : Shape} → Points s shapes m (Entries key) (Some (key_of key)) j (run (entry_of (key_of key) V)) → Made s shapes m (PointerNode (Entries key) j) (sorted_map (key_of key) V)
  made_str : {j : ℕ} → Sized m j 1 1 → Made s shapes m (Str j) str
  made_shared : {k j : ℕ} {target : PointeeKind} {shared_type : SharedType} → IsAt m.shared_types.now k shared_type → Points s shapes m target None j (pointee_of shared_type.pointee) → Made s shapes m (Shared k target j) (shared (flavor_of shared_type.flavor) (pointee_of shared_type.pointee))
  made_weak : {k j : ℕ} {target : PointeeKind} {shared_type : SharedType} → IsAt m.shared_types.now k shared_type → Points s shapes m target None j (pointee_of shared_type.pointee) → Made s shapes m (Weak k target j) (weak (flavor_of shared_type.flavor) (pointee_of shared_type.pointee))

-- Each node that can be entered stands for its shape.
pub record Represents (s : SchemaTable) (shapes : ℕ → Shape) (m : Checker) : Type 0 where
  pub made : (i : ℕ) (node : Node) (z : ℕ) → IsAt m.nodes.now i node → node.size ≡ Some z → (size_of s.layouts (shapes i) ≡ z) × Made s shapes m node.kind (shapes i)

-- What an outcome means.
abbrev pub OutcomeSays : (ℕ → Seen → Type 0) → (Fault → Type 0) → Outcome → Type 0
OutcomeSays Walks Faults (done later last) = Walks later last
OutcomeSays Walks Faults (refused e) = Faults e
