-- A plan of lists of bools whose rest is their own or shared: a name that holds itself behind two kinds of pointers.
use Rattle.std.proofs.Common.{◌≡◌, ℕ, refl, sym, ap, ◌∙◌, ◌+◌, ◌<◌, ◌≤◌, arith, List, [], ◌∷◌, length, slice_index_or, Some, None, suc, zero, true, Bor, bytes_eq}
use Rattle.std.proofs.lemmas.Slice.Eq.{bytes_eq-Decides}
use Rattle.archive_check.specs.declared.format.expr.Kind.TheVariants.{Bool as BoolKind}
use Rattle.archive_check.specs.declared.format.expr.FlavorInfo.{FlavorInfo}
use Rattle.archive_check.specs.declared.format.expr.Pointee.TheVariants as pointee
use Rattle.archive_check.specs.declared.format.expr.Expr.TheVariants as expr
use Rattle.archive_schema.specs.declared.plan.PointeeKind.TheVariants.{One}
use Rattle.archive_schema.specs.declared.plan.NodeKind.TheVariants.{Leaf, Choice, Pointer as PointerNode, Shared}
use Rattle.archive_schema.specs.declared.plan.Node.{Node}
use Rattle.archive_schema.specs.declared.plan.Part.{Part as PlanPart}
use Rattle.archive_schema.specs.declared.plan.Span.{Span}
use Rattle.archive_check.specs.declared.context.positions.SharedType.{SharedType}
use Rattle.archive_schema.specs.declared.check.Checker.{Checker}
use Rattle.archive_check.specs.Shape.{Shape, leaf, bool, choice, boxed, shared, named, one, Parts, no_part, part, Variants, no_variant, variant, variant_at, definition}
use Rattle.archive_check.specs.Layout.{size_of}
use Rattle.archive_check.specs.Reads.{SchemaTable}
use Rattle.archive_check.specs.Expressions.{flavor_of}
use Rattle.archive_check.specs.Words.Elements.{IsAt, span}
use Rattle.archive_schema.specs.check.Runs.{Takes}
use Rattle.archive_schema.specs.plan.SoundPlans.{PartsWithin, NodeKindFits, SpanFits, IsSound}
use Rattle.archive_schema.specs.plan.Represents.{NodeStandsFor, stands, stands_named, PartsStand, parts_over, parts_more, Sized, points_one, Made, made_leaf, made_choice, made_boxed, made_shared}
use Rattle.archive_schema.specs.check.PlanChecks.{PlanOf}

module _ (name : Bor (List ℕ)) (flavor : FlavorInfo) where
  abbrev own : Parts
  own = part (leaf bool) (part (boxed (one (named name.now))) no_part)

  abbrev common : Parts
  common = part (leaf bool) (part (shared (flavor_of flavor) (one (named name.now))) no_part)

  abbrev either : Variants
  either = variant no_part (variant own (variant common no_variant))

  abbrev lists : SchemaTable
  lists = record { table = (name.now, choice name.now either) ∷ []; layouts = λ n. record { size = 8; align = 4 } }

  abbrev bool_node : Node
  bool_node = record { size = Some 1; align = 1; kind = Leaf BoolKind; positive = omega arith }

  abbrev own_node : Node
  own_node = record { size = Some 4; align = 4; kind = PointerNode One 3; positive = omega arith }

  abbrev common_node : Node
  common_node = record { size = Some 4; align = 4; kind = Shared 0 One 3; positive = omega arith }

  abbrev list_node : Node
  list_node = record { size = Some 8; align = 4; kind = Choice name 0 3; positive = omega arith }

  abbrev the_nodes : List Node
  the_nodes = bool_node ∷ own_node ∷ common_node ∷ list_node ∷ []

  abbrev bool_part : PlanPart
  bool_part = record { offset = 1; node = 0 }

  abbrev own_part : PlanPart
  own_part = record { offset = 4; node = 1 }

  abbrev common_part : PlanPart
  common_part = record { offset = 4; node = 2 }

  abbrev the_parts : List PlanPart
  the_parts = bool_part ∷ own_part ∷ bool_part ∷ common_part ∷ []

  abbrev no_span : Span
  no_span = record { first = 0; last = 0 }

  abbrev own_span : Span
  own_span = record { first = 0; last = 2 }

  abbrev common_span : Span
  common_span = record { first = 2; last = 4 }

  abbrev the_variants : List Span
  the_variants = no_span ∷ own_span ∷ common_span ∷ []

  abbrev the_shared_type : SharedType
  the_shared_type = record { flavor = flavor; pointee = pointee.One (expr.Named name) }

  abbrev shape_at : ℕ → Shape
  shape_at zero = leaf bool
  shape_at (suc zero) = boxed (one (named name.now))
  shape_at (suc (suc zero)) = shared (flavor_of flavor) (one (named name.now))
  shape_at (suc (suc (suc i))) = choice name.now either

  module _ (m : Checker) (nodes_are : m.nodes.now ≡ the_nodes) (parts_are : m.parts.now ≡ the_parts) (variants_are : m.variants.now ≡ the_variants) (shared_types_are : m.shared_types.now ≡ the_shared_type ∷ []) where
    node_at : (i : ℕ) (x : Node) → i < length the_nodes → x ≡ slice_index_or the_nodes i x → IsAt m.nodes.now i x
    node_at i x lt e = record { below = rw nodes_are lt; is = rw nodes_are e }

    part_at : (i : ℕ) (x : PlanPart) → i < length the_parts → x ≡ slice_index_or the_parts i x → IsAt m.parts.now i x
    part_at i x lt e = record { below = rw parts_are lt; is = rw parts_are e }

    shared_type_at : IsAt m.shared_types.now 0 the_shared_type
    shared_type_at = record { below = rw shared_types_are (omega arith); is = rw shared_types_are refl }

    bool_takes : Takes m 0 1
    bool_takes = record { node = bool_node; at = node_at 0 bool_node (omega arith) refl; size_is = refl }

    own_takes : Takes m 1 4
    own_takes = record { node = own_node; at = node_at 1 own_node (omega arith) refl; size_is = refl }

    common_takes : Takes m 2 4
    common_takes = record { node = common_node; at = node_at 2 common_node (omega arith) refl; size_is = refl }

    list_sized : Sized m 3 8 4
    list_sized = record { node = list_node; at = node_at 3 list_node (omega arith) refl; size_is = refl; align_is = refl }

    defined : definition lists.table name.now ≡ Some (choice name.now either)
    defined = let same : bytes_eq name.now name.now ≡ true = (bytes_eq-Decides name.now name.now).1 refl in rw same refl

    list_stands : NodeStandsFor lists shape_at (named name.now) 3
    list_stands = stands_named defined (stands refl)

    variant_stands : (tag : ℕ) (x : Span) → 0 + tag < 3 → IsAt m.variants.now (0 + tag) x → (ps : Parts) × (variant_at either tag ≡ Some ps) × PartsStand lists shape_at m x.first x.last 1 ps
    variant_stands zero x lt h = let is : x ≡ no_span = rw variants_are at h.is in (no_part, refl, rw is (parts_over {a = 0} {b = 0} (omega arith)))
    variant_stands (suc zero) x lt h =
        let is : x ≡ own_span = rw variants_are at h.is in
        let one : 0 < 2 = omega arith in
        let two : 1 < 2 = omega arith in
        (own, refl, rw is (parts_more one (part_at 0 bool_part (omega arith) refl) refl (stands refl) bool_takes (parts_more two (part_at 1 own_part (omega arith) refl) refl (stands refl) own_takes (parts_over {a = 2} {b = 2} (omega arith)))))
    variant_stands (suc (suc zero)) x lt h =
        let is : x ≡ common_span = rw variants_are at h.is in
        let one : 2 < 4 = omega arith in
        let two : 3 < 4 = omega arith in
        (common, refl, rw is (parts_more one (part_at 2 bool_part (omega arith) refl) refl (stands refl) bool_takes (parts_more two (part_at 3 common_part (omega arith) refl) refl (stands refl) common_takes (parts_over {a = 4} {b = 4} (omega arith)))))
    variant_stands (suc (suc (suc tag))) x lt h = absurd (omega arith)

    no_more : (tag : ℕ) → 3 ≤ 0 + tag → variant_at either tag ≡ None
    no_more zero h = absurd (omega arith)
    no_more (suc zero) h = absurd (omega arith)
    no_more (suc (suc zero)) h = absurd (omega arith)
    no_more (suc (suc (suc tag))) h = refl

    all_made : (i : ℕ) (node : Node) (z : ℕ) → IsAt m.nodes.now i node → node.size ≡ Some z → (size_of lists.layouts (shape_at i) ≡ z) × Made lists shape_at m node.kind (shape_at i)
    all_made zero node z h e =
        let is : node ≡ bool_node = rw nodes_are at h.is in
        let sized : Some 1 ≡ Some z = sym (ap (λ q. q.size) is) ∙ e in
        (cc, rw is made_leaf)
    all_made (suc zero) node z h e =
        let is : node ≡ own_node = rw nodes_are at h.is in
        let sized : Some 4 ≡ Some z = sym (ap (λ q. q.size) is) ∙ e in
        (cc, rw is (made_boxed (points_one list_sized list_stands)))
    all_made (suc (suc zero)) node z h e =
        let is : node ≡ common_node = rw nodes_are at h.is in
        let sized : Some 4 ≡ Some z = sym (ap (λ q. q.size) is) ∙ e in
        (cc, rw is (made_shared shared_type_at (points_one list_sized list_stands)))
    all_made (suc (suc (suc zero))) node z h e =
        let is : node ≡ list_node = rw nodes_are at h.is in
        let sized : Some 8 ≡ Some z = sym (ap (λ q. q.size) is) ∙ e in
        (cc, rw is (made_choice variant_stands no_more))
    all_made (suc (suc (suc (suc i)))) node z h e = absurd (let below : suc (suc (suc (suc i))) < length the_nodes = rw nodes_are at h.below in omega (arith, below))

    pub list_plan : PlanOf m 3 lists (named name.now)
    list_plan = record { shapes = shape_at; represents = record { made = all_made }; points = points_one list_sized list_stands }

    all_within : (xs : List PlanPart) → xs ≡ bool_part ∷ own_part ∷ [] → PartsWithin m 3 8 xs
    all_within xs e = rw e ((1, omega arith, bool_takes, omega arith), ((4, omega arith, own_takes, omega arith), tt))

    rest_within : (xs : List PlanPart) → xs ≡ bool_part ∷ common_part ∷ [] → PartsWithin m 3 8 xs
    rest_within xs e = rw e ((1, omega arith, bool_takes, omega arith), ((4, omega arith, common_takes, omega arith), tt))

    span_fits : (k : ℕ) (x : Span) → 0 ≤ k → k < 3 → IsAt m.variants.now k x → SpanFits m 3 8 x.first x.last
    span_fits zero x le lt h =
        let is : x ≡ no_span = rw variants_are at h.is in
        rw is (record { last = omega arith; few = omega arith; within = tt })
    span_fits (suc zero) x le lt h =
        let is : x ≡ own_span = rw variants_are at h.is in
        rw is (record { last = rw parts_are (omega arith); few = omega arith; within = all_within (span m.parts.now 0 2) (rw parts_are refl) })
    span_fits (suc (suc zero)) x le lt h =
        let is : x ≡ common_span = rw variants_are at h.is in
        rw is (record { last = rw parts_are (omega arith); few = omega arith; within = rest_within (span m.parts.now 2 4) (rw parts_are refl) })
    span_fits (suc (suc (suc k))) x le lt h = absurd (omega arith)

    all_fit : (i : ℕ) (node : Node) (z : ℕ) → IsAt m.nodes.now i node → node.size ≡ Some z → NodeKindFits m i z node.kind
    all_fit zero node z h e =
        let is : node ≡ bool_node = rw nodes_are at h.is in
        let sized : Some 1 ≡ Some z = sym (ap (λ q. q.size) is) ∙ e in
        let same : z ≡ 1 = cc in
        rw (is, same) (omega arith)
    all_fit (suc zero) node z h e =
        let is : node ≡ own_node = rw nodes_are at h.is in
        let sized : Some 4 ≡ Some z = sym (ap (λ q. q.size) is) ∙ e in
        let same : z ≡ 4 = cc in
        rw (is, same) (omega arith, rw nodes_are (omega arith))
    all_fit (suc (suc zero)) node z h e =
        let is : node ≡ common_node = rw nodes_are at h.is in
        let sized : Some 4 ≡ Some z = sym (ap (λ q. q.size) is) ∙ e in
        let same : z ≡ 4 = cc in
        rw (is, same) (omega arith, rw shared_types_are (omega arith), rw nodes_are (omega arith))
    all_fit (suc (suc (suc zero))) node z h e =
        let is : node ≡ list_node = rw nodes_are at h.is in
        let sized : Some 8 ≡ Some z = sym (ap (λ q. q.size) is) ∙ e in
        let same : z ≡ 8 = cc in
        rw (is, same) (record { tag = omega arith; last = rw variants_are (omega arith); few = omega arith; fits = span_fits })
    all_fit (suc (suc (suc (suc i)))) node z h e = absurd (let below : suc (suc (suc (suc i))) < length the_nodes = rw nodes_are at h.below in omega (arith, below))

    pub list_sound : IsSound m
    list_sound = record { fits = all_fit }
