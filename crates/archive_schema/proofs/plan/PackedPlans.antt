-- A plan is packed: the parts of each node take no more bytes together than it has.
use Rattle.std.proofs.Common.{◌≡◌, ℕ, zero, suc, refl, sym, ap, ◌∙◌, ◌+◌, ◌-◌, ◌<◌, ◌≤◌, arith, List, [], ◌∷◌, length, drop, Option, unwrap_or}
use Rattle.archive_schema.specs.declared.plan.NodeKind.{NodeKind}
use Rattle.archive_schema.specs.declared.plan.Node.{Node}
use Rattle.archive_schema.specs.declared.plan.Part.{Part}
use Rattle.archive_schema.specs.declared.plan.Span.{Span}
use Rattle.archive_schema.specs.declared.plan.Plan.{Plan}
use Rattle.archive_check.specs.declared.format.defs.Def.{Def}
use Rattle.archive_schema.specs.declared.check.Checker.{Checker}
use Rattle.archive_check.specs.Shape.{Shape, Table, Parts}
use Rattle.archive_check.specs.Expressions.{entries_of}
use Rattle.archive_check.specs.Layout.{align_of, parts_align, variants_align, size_of, parts_end, variants_end}
use Rattle.archive_check.specs.Reads.{SchemaTable, LaidOut}
use Rattle.archive_check.specs.Words.Elements.{IsAt, span}
use Rattle.archive_schema.specs.check.Runs.{Takes}
use Rattle.archive_schema.specs.plan.SoundPlans.{NodeKindFits, IsSound}
use Rattle.archive_schema.specs.plan.Represents.{PartsStand, parts_over, parts_more, Made, made_free, made_leaf, made_record, made_choice, made_array, made_boxed, made_vec, made_map, made_str, made_shared, made_weak, Represents}
use Rattle.archive_schema.specs.plan.PackedPlans.{size_at, parts_size, variants_size, held_size, ArePacked}
use Rattle.archive_check.specs.MissingNames.{Arranged}
use Rattle.archive_schema.specs.plan.Planned.{IsOf, IsPlan}
use Rattle.archive_check.proofs.Elements.{span_next, at_span, at_taken, at_dropped}
use Rattle.archive_check.proofs.Names.Rounds.{rounds}
use Rattle.archive_check.proofs.Names.PositiveAlignments.{rounds_pos, parts_align_pos, variants_align_pos}
use Rattle.archive_check.proofs.Names.LaidOutNames.{names_of, defined_named, ordered_placed, placed_solved}
use Rattle.archive_check.proofs.Names.WellFormed.{arranged_ordered}
use Rattle.archive_check.proofs.Tours.PartsInside.{up_le, positive, variant_end_le}
use Rattle.archive_schema.proofs.plan.Planned.{checker_of}

-- the size at an index is that of the node there
pub size_is : (nodes : List Node) (i : ℕ) (x : Node) → IsAt nodes i x → size_at nodes i ≡ unwrap_or x.size 0
size_is [] i x at = absurd (omega (arith, at.below))
size_is (y ∷ ys) zero x at = ap (λ (q : Node). unwrap_or q.size 0) (sym at.is)
size_is (y ∷ ys) (suc i) x at = size_is ys i x (record { below = omega (arith, at.below); is = at.is })

pub taken : {m : Checker} {j z : ℕ} → Takes m j z → size_at m.nodes.now j ≡ z
taken {m = m} {j = j} t = size_is m.nodes.now j t.node t.at ∙ ap (λ (o : Option ℕ). unwrap_or o 0) t.size_is

-- each variant's parts take no more than the largest ones
each_few : (nodes : List Node) (parts : List Part) (xs : List Span) (k : ℕ) (x : Span) → IsAt xs k x → parts_size nodes (span parts x.first x.last) ≤ variants_size nodes parts xs
each_few nodes parts [] k x at = absurd (omega (arith, at.below))
each_few nodes parts (y ∷ ys) zero x at = rw at.is (omega arith)
each_few nodes parts (y ∷ ys) (suc k) x at = omega (arith, each_few nodes parts ys k x (record { below = omega (arith, at.below); is = at.is }))

pub variant_least : (nodes : List Node) (parts : List Part) (variants : List Span) (a b n : ℕ) (x : Span) → a + n < b → IsAt variants (a + n) x → parts_size nodes (span parts x.first x.last) ≤ variants_size nodes parts (span variants a b)
variant_least nodes parts variants a b n x lt at = each_few nodes parts (span variants a b) n x (at_span variants a b n x lt at)

span_none : (xs : List Part) (a b : ℕ) → b ≤ a → span xs a b ≡ []
span_none xs a b le = let none : b - a ≡ 0 = omega arith in rw none refl

module _ (s : SchemaTable) (laid : LaidOut s) (shapes : ℕ → Shape) (m : Checker) where
  -- parts that are laid out one behind another
  parts_few : {a b at : ℕ} {ps : Parts} → b ≤ length m.parts.now → PartsStand s shapes m a b at ps → parts_size m.nodes.now (span m.parts.now a b) + at ≤ parts_end s.layouts at ps
  parts_few {a = a} {b = b} le (parts_over ge) = rw (span_none m.parts.now a b ge) (omega arith)
  parts_few {a = a} {b = b} {at = at} le (parts_more {x = x} {X = X} lt is offset element takes more) =
      let rest = parts_few le more in
      let here = taken takes in
      rw (span_next m.parts.now a b x lt le is) (omega (arith, rest, here, up_le at (align_of s.layouts X) (positive s laid X)))

  variants_few : (z : ℕ) (xs : List Span) → ((k : ℕ) (x : Span) → IsAt xs k x → parts_size m.nodes.now (span m.parts.now x.first x.last) ≤ z) → variants_size m.nodes.now m.parts.now xs ≤ z
  variants_few z [] each = omega arith
  variants_few z (x ∷ xs) each =
      let rest = variants_few z xs (λ k y at. each (suc k) y (record { below = omega (arith, at.below); is = at.is })) in
      omega (arith, each 0 x (record { below = omega arith; is = refl }), rest)

  holds_few : (i z : ℕ) {kind : NodeKind} {X : Shape} → size_of s.layouts X ≡ z → NodeKindFits m i z kind → Made s shapes m kind X → held_size m.nodes.now m.parts.now m.variants.now kind ≤ z
  holds_few i z e fits (made_free h) = omega arith
  holds_few i z e fits made_leaf = omega arith
  holds_few i z e fits (made_record {ps = ps} w) = omega (arith, e, parts_few fits.1.last w, up_le (parts_end s.layouts 0 ps) (parts_align s.layouts ps) (parts_align_pos s.layouts ps))
  holds_few i z e fits (made_choice {a = a} {b = b} {vs = vs} some none) =
      variants_few z (span m.variants.now a b) (λ k x at.
      let in_rest = at_taken (b - a) (drop a m.variants.now) k x at in
      let here = at_dropped a m.variants.now k x in_rest.1 in
      let lt : a + k < b = omega (arith, in_rest.0) in
      let h = some k x lt here in
      omega (arith, e, parts_few (fits.fits (a + k) x (omega arith) lt here).last h.2, variant_end_le s laid vs k h.0 h.1, up_le (variants_end s.layouts vs) (variants_align s.layouts vs) (variants_align_pos s.layouts vs)))
  holds_few i z e fits (made_array element takes) = omega arith
  holds_few i z e fits (made_boxed p) = omega arith
  holds_few i z e fits (made_vec p) = omega arith
  holds_few i z e fits (made_map p) = omega arith
  holds_few i z e fits (made_str p) = omega arith
  holds_few i z e fits (made_shared at p) = omega arith
  holds_few i z e fits (made_weak at p) = omega arith

  packed : IsSound m → Represents s shapes m → ArePacked m.nodes.now m.parts.now m.variants.now
  packed sound represents i x z at e =
      let made = represents.made i x z at e in
      holds_few i z made.0 (sound.fits i x z at e) made.1

-- definitions in order have layouts
arranged_laid : (table : Table) → Arranged table table → LaidOut (record { table = table; layouts = rounds table (length (names_of table)) })
arranged_laid table order = record {
  solves = λ name X e. placed_solved table (length (names_of table)) name X (ordered_placed table (arranged_ordered table table order) name (defined_named table name X e)) e;
  aligned = rounds_pos table (length (names_of table));
}

-- so a plan of them is packed
pub plan_packed : (defs : List Def) (X : Shape) (plan : Plan) (j : ℕ) → Arranged (entries_of defs) (entries_of defs) → IsPlan defs X plan j → ArePacked plan.nodes.items plan.parts.items plan.variants.items
plan_packed defs X plan j order is =
    let m = checker_of plan in
    let of : IsOf m plan = record { nodes = refl; parts = refl; variants = refl; shared_types = refl } in
    let s : SchemaTable = record { table = entries_of defs; layouts = rounds (entries_of defs) (length (names_of (entries_of defs))) } in
    let laid = arranged_laid (entries_of defs) order in
    let p = is.plan_of m s of refl laid in
    packed s laid p.shapes m (is.sound m of) p.represents
