-- Compiling: what an expression adds to a plan, and what the new nodes stand for. All is said of a checker whose lists go on from the plan's.
use denote.Triple.Both.{Both}
use denote.Ref.{MutBor}
use Rattle.std.specs.Prelude.{◌≡◌, ◌⊎◌, ℕ, ◌+◌, ◌<◌, ◌≤◌, max, List, [], length, Bool, true, false, Option, Some, None}
use Rattle.archive_schema.specs.declared.plan.PointeeKind.{PointeeKind}
use Rattle.archive_schema.specs.declared.plan.NodeKind.TheVariants.{Free}
use Rattle.archive_schema.specs.declared.plan.Node.{Node}
use Rattle.archive_schema.specs.declared.plan.Part.{Part as PlanPart}
use Rattle.archive_schema.specs.declared.plan.Span.{Span}
use Rattle.archive_schema.specs.declared.check.Checker.{Checker}
use Rattle.archive_schema.specs.declared.plan.Plan.{Plan}
use Rattle.archive_schema.specs.declared.plan.compile.Scope.{Scope}
use Rattle.archive_schema.specs.declared.plan.queue.Queue.{Queue}
use Rattle.archive_schema.specs.declared.plan.growing.NamedNode.{NamedNode}
use Rattle.archive_schema.specs.declared.plan.growing.LaidRange.{LaidRange}
use Rattle.archive_check.specs.Shape.{Name, Shape, str, named, shared, weak, Flavor, Pointee, Parts, Variants, variant_at}
use Rattle.archive_check.specs.Layout.{Layouts, size_of, align_of, parts_end, parts_align, variants_end, variants_align, pointer_size}
use Rattle.archive_check.specs.Reads.{SchemaTable, LaidOut}
use Rattle.archive_check.specs.Words.Elements.{IsAt}
use Rattle.archive_schema.specs.check.Runs.{IsNode, Takes, pointer_bytes}
use Rattle.archive_schema.specs.plan.SoundPlans.{NodeKindFits, SpanFits}
use Rattle.archive_schema.specs.plan.Represents.{NodeStandsFor, PartsStand, Sized, Points, Made}
use Rattle.archive_check.specs.Words.BoundedSizes.{fits}
use Rattle.archive_schema.specs.plan.NodeCounts.{count_of, count_pointee, counts_of, variant_counts_of}
use Rattle.archive_check.specs.Measure.{measure_of, measure_of_parts, measure_of_variants, measure_of_pointee}
use Rattle.archive_schema.specs.plan.PlanGrowth.{node_of, PlanLists, lists_of, lists_in, IsPrefix, Grows}
use Rattle.archive_schema.specs.plan.Compilable.{Can, CanParts, CanVariants, CanPoint, CanWait, AllKnown}
use Rattle.archive_schema.specs.plan.CompileQueue.{Wait, Waits, waits_of, Reserved, measure_of_waits}

-- A pointer to what others may point to as well: a weak one may be null.
abbrev pub counted : Bool → Flavor → Pointee → Shape
counted true flavor P = weak flavor P
counted false flavor P = shared flavor P

-- The checker's lists go on from a plan's.
abbrev pub GrowsInto : PlanLists → Checker → Type 0
GrowsInto b m = Grows b (lists_in m)

-- The nodes of names, and of what waits, are there.
pub record Below (names : List NamedNode) (waits : List Wait) (m : Checker) : Type 0 where
  pub names_below : (name : Name) (j : ℕ) → node_of names name ≡ Some j → j < length m.nodes.now
  pub waits_below : (k : ℕ) (x : Wait) → IsAt waits k x → x.node < length m.nodes.now

-- The names' nodes before `done` have the names' layouts.
abbrev pub NamesSized : List NamedNode → Layouts → ℕ → Checker → Type 0
NamesSized names l done m = (name : Name) (j : ℕ) → node_of names name ≡ Some j → j < done → Sized m j (l name).size (l name).align

-- The nodes before n are sound.
pub record SoundTo (m : Checker) (n : ℕ) : Type 0 where
  pub fits : (i : ℕ) (node : Node) (z : ℕ) → i < n → IsAt m.nodes.now i node → node.size ≡ Some z → NodeKindFits m i z node.kind

-- The nodes of names, and of what waits, stand for it.
pub record Settled (names : List NamedNode) (waits : List Wait) (s : SchemaTable) (shapes : ℕ → Shape) (m : Checker) : Type 0 where
  pub laid_out : LaidOut s
  pub waits_sized : (k : ℕ) (x : Wait) → IsAt waits k x → Sized m x.node (size_of s.layouts x.shape) (align_of s.layouts x.shape)
  pub waits_stand : (k : ℕ) (x : Wait) → IsAt waits k x → NodeStandsFor s shapes x.shape x.node
  pub sized : (name : Name) (j : ℕ) → node_of names name ≡ Some j → Sized m j (s.layouts name).size (s.layouts name).align
  pub stand : (name : Name) (j : ℕ) → node_of names name ≡ Some j → NodeStandsFor s shapes (named name) j

-- The shapes of n nodes, from one on.
pub record Given (shapes : ℕ → Shape) (from : ℕ) (xs : List Shape) : Type 0 where
  pub are : (k : ℕ) (X : Shape) → IsAt xs k X → shapes (from + k) ≡ X

-- The nodes before n stand for their shapes; those without a byte are free.
pub record MadeTo (s : SchemaTable) (shapes : ℕ → Shape) (m : Checker) (n : ℕ) : Type 0 where
  pub made : (i : ℕ) (node : Node) (z : ℕ) → i < n → IsAt m.nodes.now i node → node.size ≡ Some z → (size_of s.layouts (shapes i) ≡ z) × Made s shapes m node.kind (shapes i)
  pub empty : (i : ℕ) (node : Node) → i < n → IsAt m.nodes.now i node → node.size ≡ Some 0 → node.kind ≡ Free

-- A plan grows by nodes of these shapes, and what waits by what they lead to. The plan stays sound, and its nodes stand for their shapes.
pub record Adds (names : List NamedNode) (gives : List Shape) (v w : Waits) (a b : PlanLists) : Type 0 where
  pub grows : Grows a b
  pub waits_go : IsPrefix v.items w.items
  pub reserved : (base : ℕ) → Reserved base v.items v.next → Reserved base w.items w.next
  pub count : length b.nodes ≡ length a.nodes + length gives
  pub sound : (m : Checker) → GrowsInto b m → Below names w.items m → SoundTo m (length a.nodes) → SoundTo m (length b.nodes)
  pub made : (s : SchemaTable) (shapes : ℕ → Shape) (m : Checker) → GrowsInto b m → Settled names w.items s shapes m → Given shapes (length a.nodes) gives
      → MadeTo s shapes m (length a.nodes) → MadeTo s shapes m (length b.nodes)

-- an expression's node: a name's, or the last.
abbrev pub IsRoot : List NamedNode → Shape → PlanLists → PlanLists → List Shape → ℕ → Type 0
IsRoot names X a b gives j =
    ((name : Name) × (X ≡ named name) × (node_of names name ≡ Some j))
    ⊎ ((j + 1 ≡ length b.nodes) × (length a.nodes ≤ j) × ((shapes : ℕ → Shape) → Given shapes (length a.nodes) gives → shapes j ≡ X))

-- an expression's node is j, with the expression's layout.
pub record Compiled (names : List NamedNode) (done : ℕ) (X : Shape) (v w : Waits) (a b : PlanLists) (j : ℕ) : Type 0 where
  pub gives : List Shape
  pub gives_count : length gives ≡ count_of X
  pub adds : Adds names gives v w a b
  pub waits_few : measure_of_waits w.items ≤ measure_of_waits v.items + measure_of X
  pub known : AllKnown names v.items → Can names done X → AllKnown names w.items
  pub below : j < length b.nodes
  pub root : IsRoot names X a b gives j
  pub lays : (m : Checker) (l : Layouts) → GrowsInto b m → NamesSized names l done m → Sized m j (size_of l X) (align_of l X)

-- A node behind a pointer, which may come later.
pub record CompiledPointeeKind (names : List NamedNode) (X : Shape) (v w : Waits) (a : PlanLists) (j : ℕ) : Type 0 where
  pub adds : Adds names [] v w a a
  pub waits_few : measure_of_waits w.items ≤ measure_of_waits v.items + measure_of X + 1
  pub known : AllKnown names v.items → CanWait names X → AllKnown names w.items
  pub below : (m : Checker) → Below names w.items m → j < length m.nodes.now
  pub sized : (s : SchemaTable) (shapes : ℕ → Shape) (m : Checker) → Settled names w.items s shapes m → Sized m j (size_of s.layouts X) (align_of s.layouts X)
  pub stands : (s : SchemaTable) (shapes : ℕ → Shape) (m : Checker) → Settled names w.items s shapes m → NodeStandsFor s shapes X j

-- What a pointer leads to.
pub record CompiledPointee (names : List NamedNode) (P : Pointee) (v w : Waits) (a b : PlanLists) (target : PointeeKind) (j : ℕ) : Type 0 where
  pub gives : List Shape
  pub gives_count : length gives ≡ count_pointee P
  pub adds : Adds names gives v w a b
  pub waits_few : measure_of_waits w.items ≤ measure_of_waits v.items + measure_of_pointee P
  pub known : AllKnown names v.items → CanPoint names P → AllKnown names w.items
  pub below : (m : Checker) → GrowsInto b m → Below names w.items m → j < length m.nodes.now
  pub size_is : pointer_bytes target ≡ pointer_size P
  pub points : (s : SchemaTable) (shapes : ℕ → Shape) (m : Checker) → GrowsInto b m → Settled names w.items s shapes m → Given shapes (length a.nodes) gives → Points s shapes m target None j P

-- A part lies in z bytes, and its node comes before i.
pub record IsPartWithin (m : Checker) (i z : ℕ) (x : PlanPart) : Type 0 where
  pub size : ℕ
  pub earlier : x.node < i
  pub takes : Takes m x.node size
  pub within : x.offset + size ≤ z

-- Parts laid out so far, from an offset on, and those that are left.
pub record RowIs (names : List NamedNode) (done start : ℕ) (all rest : Parts) (v w : Waits) (a b : PlanLists) (row : List PlanPart) (end : Option ℕ) (align : ℕ) (free : Bool) : Type 0 where
  pub gives : List Shape
  pub adds : Adds names gives v w a b
  pub waits_few : measure_of_waits w.items + measure_of_parts rest ≤ measure_of_waits v.items + measure_of_parts all
  pub known : AllKnown names v.items → CanParts names done all → AllKnown names w.items
  pub can_rest : CanParts names done all → CanParts names done rest
  pub left : length gives + counts_of rest ≡ counts_of all
  pub positive : 0 < align
  pub row_fits : (m : Checker) → GrowsInto b m → (e : ℕ) → end ≡ Some e → (k : ℕ) (x : PlanPart) → IsAt row k x → IsPartWithin m (length b.nodes) e x
  pub row_free : free ≡ true → (m : Checker) → GrowsInto b m → (k : ℕ) (x : PlanPart) → IsAt row k x → IsNode m x.node Free
  pub lays : (m : Checker) (l : Layouts) → GrowsInto b m → NamesSized names l done m
      → ((at : ℕ) × (end ≡ fits at) × (parts_end l start all ≡ parts_end l at rest)) × (parts_align l all ≡ max align (parts_align l rest))
  pub stand : (s : SchemaTable) (shapes : ℕ → Shape) (m : Checker) → GrowsInto b m → Settled names w.items s shapes m → Given shapes (length a.nodes) gives
      → (e : ℕ) → end ≡ Some e → (first last : ℕ) → ((k : ℕ) (x : PlanPart) → IsAt row k x → IsAt m.parts.now (first + k) x) → first + length row ≤ last
      → PartsStand s shapes m (first + length row) last e rest → PartsStand s shapes m first last start all

-- Parts that are laid out.
pub record CompiledParts (names : List NamedNode) (done start : ℕ) (ps : Parts) (v w : Waits) (a b : PlanLists) (laid : LaidRange) : Type 0 where
  pub gives : List Shape
  pub gives_count : length gives ≡ counts_of ps
  pub adds : Adds names gives v w a b
  pub waits_few : measure_of_waits w.items ≤ measure_of_waits v.items + measure_of_parts ps
  pub known : AllKnown names v.items → CanParts names done ps → AllKnown names w.items
  pub positive : 0 < laid.align
  pub last : laid.last ≤ length b.parts
  pub few : laid.last < 18446744073709551616
  pub parts_fit : (m : Checker) → GrowsInto b m → (e : ℕ) → laid.end ≡ Some e → (k : ℕ) (x : PlanPart) → laid.first ≤ k → k < laid.last → IsAt m.parts.now k x → IsPartWithin m (length b.nodes) e x
  pub parts_free : laid.free ≡ true → (m : Checker) → GrowsInto b m → (k : ℕ) (x : PlanPart) → laid.first ≤ k → k < laid.last → IsAt m.parts.now k x → IsNode m x.node Free
  pub lays : (m : Checker) (l : Layouts) → GrowsInto b m → NamesSized names l done m → (laid.end ≡ fits (parts_end l start ps)) × (laid.align ≡ parts_align l ps)
  pub stand : (s : SchemaTable) (shapes : ℕ → Shape) (m : Checker) → GrowsInto b m → Settled names w.items s shapes m → Given shapes (length a.nodes) gives
      → (e : ℕ) → laid.end ≡ Some e → PartsStand s shapes m laid.first laid.last start ps

-- The parts of a variant's span are these, behind a tag.
abbrev pub VariantStands : SchemaTable → (ℕ → Shape) → Checker → Variants → ℕ → Span → Type 0
VariantStands s shapes m vs tag x = (ps : Parts) × (variant_at vs tag ≡ Some ps) × PartsStand s shapes m x.first x.last 1 ps

-- Variants laid out so far, and those that are left.
pub record SpansAre (names : List NamedNode) (done : ℕ) (all rest : Variants) (v w : Waits) (a b : PlanLists) (row : List Span) (end : Option ℕ) (align : ℕ) : Type 0 where
  pub gives : List Shape
  pub adds : Adds names gives v w a b
  pub waits_few : measure_of_waits w.items + measure_of_variants rest ≤ measure_of_waits v.items + measure_of_variants all
  pub known : AllKnown names v.items → CanVariants names done all → AllKnown names w.items
  pub can_rest : CanVariants names done all → CanVariants names done rest
  pub left : length gives + variant_counts_of rest ≡ variant_counts_of all
  pub positive : 0 < align
  pub tag : (e : ℕ) → end ≡ Some e → 0 < e
  pub row_fits : (m : Checker) → GrowsInto b m → (e : ℕ) → end ≡ Some e → (k : ℕ) (x : Span) → IsAt row k x → SpanFits m (length b.nodes) e x.first x.last
  pub lays : (m : Checker) (l : Layouts) → GrowsInto b m → NamesSized names l done m
      → ((at : ℕ) × (1 ≤ at) × (end ≡ fits at) × (variants_end l all ≡ max at (variants_end l rest))) × (variants_align l all ≡ max align (variants_align l rest))
  pub stand : (s : SchemaTable) (shapes : ℕ → Shape) (m : Checker) → GrowsInto b m → Settled names w.items s shapes m → Given shapes (length a.nodes) gives
      → (e : ℕ) → end ≡ Some e → (k : ℕ) (x : Span) → IsAt row k x → VariantStands s shapes m all k x
  pub others : (k : ℕ) → variant_at all (length row + k) ≡ variant_at rest k

-- Variants that are laid out.
pub record CompiledVariants (names : List NamedNode) (done : ℕ) (vs : Variants) (v w : Waits) (a b : PlanLists) (laid : LaidRange) : Type 0 where
  pub gives : List Shape
  pub gives_count : length gives ≡ variant_counts_of vs
  pub adds : Adds names gives v w a b
  pub waits_few : measure_of_waits w.items ≤ measure_of_waits v.items + measure_of_variants vs
  pub known : AllKnown names v.items → CanVariants names done vs → AllKnown names w.items
  pub positive : 0 < laid.align
  pub last : laid.last ≤ length b.variants
  pub few : laid.last < 18446744073709551616
  pub tag : (e : ℕ) → laid.end ≡ Some e → 0 < e
  pub variants_fit : (m : Checker) → GrowsInto b m → (e : ℕ) → laid.end ≡ Some e → (k : ℕ) (x : Span) → laid.first ≤ k → k < laid.last → IsAt m.variants.now k x → SpanFits m (length b.nodes) e x.first x.last
  pub lays : (m : Checker) (l : Layouts) → GrowsInto b m → NamesSized names l done m → (laid.end ≡ fits (variants_end l vs)) × (laid.align ≡ variants_align l vs)
  pub stand : (s : SchemaTable) (shapes : ℕ → Shape) (m : Checker) → GrowsInto b m → Settled names w.items s shapes m → Given shapes (length a.nodes) gives
      → (e : ℕ) → laid.end ≡ Some e → (tag : ℕ) (x : Span) → laid.first + tag < laid.last → IsAt m.variants.now (laid.first + tag) x → VariantStands s shapes m vs tag x
  pub others : (tag : ℕ) → laid.last ≤ laid.first + tag → variant_at vs tag ≡ None

-- An X was compiled to the node j, by a call with this queue and this plan. `Both` is a parameter as a clause names it: what it was as the call began,
-- and what it is at the return.
abbrev pub IsCompiled : Scope → Shape → Both (MutBor Queue) (MutBor Queue) → Both (MutBor Plan) (MutBor Plan) → ℕ → Type 0
IsCompiled scope X q p j = Compiled scope.names.now scope.done X (waits_of q.entry.now) (waits_of q.exit.now) (lists_of p.entry.now) (lists_of p.exit.now) j

-- Likewise, whichever names are there.
abbrev pub IsCompiledAnywhere : List NamedNode → Shape → Both (MutBor Queue) (MutBor Queue) → Both (MutBor Plan) (MutBor Plan) → ℕ → Type 0
IsCompiledAnywhere names X q p j = (done : ℕ) → Compiled names done X (waits_of q.entry.now) (waits_of q.exit.now) (lists_of p.entry.now) (lists_of p.exit.now) j

abbrev pub IsCountedAnywhere : List NamedNode → Bool → Flavor → Pointee → Both (MutBor Queue) (MutBor Queue) → Both (MutBor Plan) (MutBor Plan) → ℕ → Type 0
IsCountedAnywhere names is_weak flavor P q p = IsCompiledAnywhere names (counted is_weak flavor P) q p

-- A string, whatever the names and what waits.
abbrev pub IsStringCompiled : PlanLists → PlanLists → ℕ → Type 0
IsStringCompiled a b j = (names : List NamedNode) (done : ℕ) (w : Waits) → Compiled names done str w w a b j

-- What a pointer leads to.
abbrev pub IsPointeeCompiled : List NamedNode → Pointee → Both (MutBor Queue) (MutBor Queue) → Both (MutBor Plan) (MutBor Plan) → PointeeKind → ℕ → Type 0
IsPointeeCompiled names P q p target j = CompiledPointee names P (waits_of q.entry.now) (waits_of q.exit.now) (lists_of p.entry.now) (lists_of p.exit.now) target j

-- Parts from an offset on, and variants.
abbrev pub ArePartsCompiled : Scope → ℕ → Parts → Both (MutBor Queue) (MutBor Queue) → Both (MutBor Plan) (MutBor Plan) → LaidRange → Type 0
ArePartsCompiled scope start ps q p laid = CompiledParts scope.names.now scope.done start ps (waits_of q.entry.now) (waits_of q.exit.now) (lists_of p.entry.now) (lists_of p.exit.now) laid

abbrev pub AreVariantsCompiled : Scope → Variants → Both (MutBor Queue) (MutBor Queue) → Both (MutBor Plan) (MutBor Plan) → LaidRange → Type 0
AreVariantsCompiled scope vs q p laid = CompiledVariants scope.names.now scope.done vs (waits_of q.entry.now) (waits_of q.exit.now) (lists_of p.entry.now) (lists_of p.exit.now) laid
