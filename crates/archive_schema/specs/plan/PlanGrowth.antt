-- How a plan grows: its lists go on, by a node, a shared type, parts or variants.
use Rattle.std.specs.Prelude.{◌≡◌, ℕ, ◌<◌, max, List, [], ◌∷◌, ◌++◌, length, Bool, true, false, ◌&&◌, nat_eq, Option, Some, None, cond, bytes_eq}
use Rattle.archive_schema.specs.declared.plan.NodeKind.{NodeKind}
use Rattle.archive_schema.specs.declared.plan.NodeKind.TheVariants.{Free, Leaf}
use Rattle.archive_schema.specs.declared.plan.Node.{Node}
use Rattle.archive_schema.specs.declared.plan.Part.{Part}
use Rattle.archive_schema.specs.declared.plan.Span.{Span}
use Rattle.archive_check.specs.declared.context.positions.SharedType.{SharedType}
use Rattle.archive_schema.specs.declared.plan.Plan.{Plan}
use Rattle.archive_schema.specs.declared.check.Checker.{Checker}
use Rattle.archive_schema.specs.declared.plan.growing.NamedNode.{NamedNode}
use Rattle.archive_schema.specs.declared.plan.growing.LaidParts.{LaidParts}
use Rattle.archive_schema.specs.declared.plan.growing.LaidVariants.{LaidVariants}
use Rattle.archive_schema.specs.declared.plan.growing.LaidRange.{LaidRange}
use Rattle.archive_check.specs.Shape.{Name, Pointee}
use Rattle.archive_check.specs.Expressions.{kind_of, pointee_of}
use Rattle.archive_check.specs.Layout.{kind_size, kind_align}
use Rattle.archive_check.specs.declared.format.expr.Kind.{Kind as KindExpr}
use Rattle.archive_check.specs.Words.PlainData.{is_plain_kind}
use Rattle.archive_check.specs.declared.format.expr.FlavorInfo.{FlavorInfo}
use Rattle.archive_check.specs.declared.format.expr.Pointee.{Pointee as PointeeExpr}
use Rattle.archive_check.specs.Words.BoundedSizes.{rounded}
use Rattle.archive_schema.specs.plan.BoundedSizes.{sum_of, greater_of}
use Rattle.archive_schema.specs.plan.Shallow.{is_free}

-- The node of a name: of the first that is called so.
abbrev pub node_of : List NamedNode → Name → Option ℕ
node_of [] name = None
node_of (k ∷ ks) name = cond (bytes_eq k.name.now name) (Some k.node) (node_of ks name)

pub record PlanLists : Type 0 where
  pub nodes : List Node
  pub parts : List Part
  pub variants : List Span
  pub shared_types : List SharedType

abbrev pub lists_of : Plan → PlanLists
lists_of p = record { nodes = p.nodes.items; parts = p.parts.items; variants = p.variants.items; shared_types = p.shared_types.items }

abbrev pub lists_in : Checker → PlanLists
lists_in m = record { nodes = m.nodes.now; parts = m.parts.now; variants = m.variants.now; shared_types = m.shared_types.now }

-- A plan without anything.
abbrev pub no_lists : PlanLists
no_lists = record { nodes = []; parts = []; variants = []; shared_types = [] }

-- One list goes on from another.
pub record IsPrefix {A : Type 0} (xs ys : List A) : Type 0 where
  pub more : List A
  pub is : ys ≡ xs ++ more

-- So do all of a plan's.
pub record Grows (a b : PlanLists) : Type 0 where
  pub nodes : IsPrefix a.nodes b.nodes
  pub parts : IsPrefix a.parts b.parts
  pub variants : IsPrefix a.variants b.variants
  pub shared_types : IsPrefix a.shared_types b.shared_types

-- One node more.
pub record IsPushed (a b : PlanLists) (size : Option ℕ) (align : ℕ) (kind : NodeKind) (j : ℕ) : Type 0 where
  pub node : Node
  pub nodes : b.nodes ≡ a.nodes ++ node ∷ []
  pub parts : b.parts ≡ a.parts
  pub variants : b.variants ≡ a.variants
  pub shared_types : b.shared_types ≡ a.shared_types
  pub is : j ≡ length a.nodes
  pub size_is : node.size ≡ size
  pub align_is : node.align ≡ align
  pub kind_is : node.kind ≡ kind

-- The shared type of these.
abbrev pub type_of : FlavorInfo → PointeeExpr → SharedType
type_of flavor pointee = record { flavor = flavor; pointee = pointee }

-- One shared type more.
pub record IsTypeAdded (a b : PlanLists) (shared_type : SharedType) (k : ℕ) : Type 0 where
  pub shared_types : b.shared_types ≡ a.shared_types ++ shared_type ∷ []
  pub nodes : b.nodes ≡ a.nodes
  pub parts : b.parts ≡ a.parts
  pub variants : b.variants ≡ a.variants
  pub is : k ≡ length a.shared_types

-- One shared type more, of this flavor and this pointee.
pub record IsTypeCopied (a b : PlanLists) (flavor : FlavorInfo) (P : Pointee) (k : ℕ) : Type 0 where
  pub shared_type : SharedType
  pub sorted : IsTypeAdded a b shared_type k
  pub flavor_is : shared_type.flavor ≡ flavor
  pub pointee_is : pointee_of shared_type.pointee ≡ P

-- This many parts and variants more.
pub record IsExtended (a b : PlanLists) (parts : List Part) (variants : List Span) : Type 0 where
  pub nodes_are : b.nodes ≡ a.nodes
  pub parts_are : b.parts ≡ a.parts ++ parts
  pub variants_are : b.variants ≡ a.variants ++ variants
  pub shared_types_are : b.shared_types ≡ a.shared_types

-- Whether there is nothing to check of what has this size, where `free` says whether any bytes are legal: there are none, or they are free.
abbrev pub nothing_to_check : Bool → Option ℕ → Bool
nothing_to_check free None = true
nothing_to_check free (Some n) = cond (nat_eq n 0) true free

-- The node of what is laid out: its kind is free exactly where there is nothing to check.
pub record IsMade (a b : PlanLists) (size : Option ℕ) (align : ℕ) (free : Bool) (kind : NodeKind) (j : ℕ) : Type 0 where
  pub made : NodeKind
  pub made_is : made ≡ cond (nothing_to_check free size) Free kind
  pub pushed : IsPushed a b size align made j

-- The node of a leaf.
abbrev pub IsLeafMade : PlanLists → PlanLists → KindExpr → ℕ → Type 0
IsLeafMade a b kind j = IsMade a b (Some (kind_size (kind_of kind))) (kind_align (kind_of kind)) (is_plain_kind (kind_of kind)) (Leaf kind) j

-- A part more, behind the laid ones.
pub record IsPartAdded (node : ℕ) (here : Node) (row next : LaidParts) : Type 0 where
  pub last : Part
  pub offset : Option ℕ
  pub offset_is : offset ≡ rounded row.extent.end here.align
  pub node_is : last.node ≡ node
  pub begins : (o : ℕ) → offset ≡ Some o → last.offset ≡ o
  pub parts_are : next.parts.items ≡ row.parts.items ++ last ∷ []
  pub end_is : next.extent.end ≡ sum_of offset here.size
  pub align_is : next.extent.align ≡ max row.extent.align here.align
  pub free_is : next.free ≡ (row.free && is_free here.kind)

-- A variant more.
pub record IsVariantAdded (laid : LaidRange) (spans next : LaidVariants) : Type 0 where
  pub span : Span
  pub first_is : span.first ≡ laid.first
  pub last_is : span.last ≡ laid.last
  pub items_are : next.items.items ≡ spans.items.items ++ span ∷ []
  pub end_is : next.extent.end ≡ greater_of spans.extent.end laid.end
  pub align_is : next.extent.align ≡ max spans.extent.align laid.align

-- Laid parts stand in a plan.
pub record PartsLaid (a b : PlanLists) (row : LaidParts) (laid : LaidRange) : Type 0 where
  pub extended : IsExtended a b row.parts.items []
  pub first_is : laid.first ≡ length a.parts
  pub last_is : laid.last ≡ length b.parts
  pub few : laid.last < 18446744073709551616
  pub end_is : laid.end ≡ row.extent.end
  pub align_is : laid.align ≡ row.extent.align
  pub free_is : laid.free ≡ row.free

-- So do variants.
pub record VariantsLaid (a b : PlanLists) (spans : LaidVariants) (laid : LaidRange) : Type 0 where
  pub extended : IsExtended a b [] spans.items.items
  pub first_is : laid.first ≡ length a.variants
  pub last_is : laid.last ≡ length b.variants
  pub few : laid.last < 18446744073709551616
  pub end_is : laid.end ≡ spans.extent.end
  pub align_is : laid.align ≡ spans.extent.align
  pub not_free : laid.free ≡ false
