-- What expressions take under the definitions of a schema.
use Rattle.std.proofs.Math.Logic.{∥∥₁_elim}
use Rattle.std.proofs.Math.Nat.{ℕ_set}
use Rattle.std.specs.Coded.{le_prop}
use Rattle.std.proofs.Props.{props}
use Rattle.std.proofs.Common.{◌≡◌, ℕ, refl, sym, ap, ap₂, ◌∙◌, subst, ◌+◌, ◌<◌, max, arith, length, Option, Some}
use Rattle.archive_schema.specs.declared.plan.Node.{Node}
use Rattle.archive_schema.specs.declared.plan.extents.Extent.{Extent}
use Rattle.archive_schema.specs.declared.shape.Schema.{Schema as RustSchema}
use Rattle.archive_check.specs.Shape.{Name, Shape, named, Pointee, one, run, text, Parts, no_part, part, Variants, no_variant, variant}
use Rattle.archive_check.specs.Layout.{Layouts, up, pointer_size, size_of, align_of, parts_end, parts_align, variants_end, variants_align}
use Rattle.archive_check.specs.Reads.{SchemaTable, LaidOut}
use Rattle.archive_check.specs.Words.Elements.{IsAt}
use Rattle.archive_check.specs.Expressions.{entries_of}
use Rattle.archive_check.specs.Words.BoundedSizes.{fits, rounded}
use Rattle.archive_schema.specs.plan.BoundedSizes.{sum_of, greater_of}
use Rattle.archive_schema.specs.plan.PlanGrowth.{node_of}
use Rattle.archive_schema.specs.plan.Extents.{Ends, HasExtent, PartsSoFar, VariantsSoFar}
use Rattle.archive_check.proofs.BoundedSizes.{fits_some, rounded_fits}
use Rattle.archive_schema.proofs.plan.BoundedSizes.{sum_fits, greater_fits}
use Rattle.archive_schema.proofs.plan.CompiledParts.{ends_positive}
use Rattle.archive_check.proofs.Names.PositiveAlignments.{parts_align_pos, variants_align_pos}
use Rattle.archive_schema.proofs.SchemaDefinitions.{own_laid_out}

-- what ends nowhere is too large
pub pointer_fits : (P : Pointee) → fits (pointer_size P) ≡ Some (pointer_size P)
pointer_fits (one X) = fits_some 4 (omega arith)
pointer_fits (run X) = fits_some 8 (omega arith)
pointer_fits text = fits_some 8 (omega arith)

-- what a case comes to is that of the shape in it
pub arm : {X Y : Shape} (l : Layouts) (r : Option ℕ × (ℕ × Unit {0})) {end : Option ℕ} {align : ℕ} {positive : 0 < r.1.0} → r ≡ (end, (align, tt)) → X ≡ Y → end ≡ fits (size_of l Y) → align ≡ align_of l Y
    → Ends (record { end = r.0; align = r.1.0; positive = positive }) (size_of l X) (align_of l X)
arm l r is same size align = record {
  end_is = ap (λ (q : Option ℕ × (ℕ × Unit {0})). q.0) is ∙ size ∙ ap (λ X. fits (size_of l X)) (sym same);
  align_is = ap (λ (q : Option ℕ × (ℕ × Unit {0})). q.1.0) is ∙ align ∙ ap (align_of l) (sym same);
}

-- the end, rounded up
pub whole_ends : {e w : Extent} {end align : ℕ} → Ends e end align → w.end ≡ rounded e.end e.align → w.align ≡ e.align → Ends w (up end align) align
whole_ends {e} {w} {end} {align} h q a = record {
  end_is = q ∙ ap₂ rounded h.end_is h.align_is ∙ rounded_fits end align (omega (arith, e.positive, h.align_is));
  align_is = a ∙ h.align_is;
}

-- no part yet
pub parts_start : (l : Layouts) (start : ℕ) (ps : Parts) (e : Extent) → start < 18446744073709551616 → e.end ≡ Some start → e.align ≡ 1 → PartsSoFar l start ps ps e
parts_start l start ps e few q a = record { at = start; ends = q ∙ sym (fits_some start few); same_end = refl; same_align = omega (arith, a, parts_align_pos l ps) }

-- one part more
pub parts_next : {l : Layouts} {start : ℕ} {all ps : Parts} {X : Shape} {e here next : Extent} → PartsSoFar l start all (part X ps) e → Ends here (size_of l X) (align_of l X)
    → next.end ≡ sum_of (rounded e.end here.align) here.end → next.align ≡ max e.align here.align → PartsSoFar l start all ps next
parts_next {l} {start} {all} {ps} {X} {e} {here} {next} r h q a = record {
  at = up r.at (align_of l X) + size_of l X;
  ends = q ∙ ap₂ sum_of (ap₂ rounded r.ends h.align_is ∙ rounded_fits r.at (align_of l X) (omega (arith, here.positive, h.align_is))) h.end_is ∙ sum_fits (up r.at (align_of l X)) (size_of l X);
  same_end = r.same_end;
  same_align = omega (arith, r.same_align, a, h.align_is);
}

-- the parts that are left, written another way
pub parts_left : {l : Layouts} {start : ℕ} {all rest other : Parts} {e : Extent} → rest ≡ other → PartsSoFar l start all rest e → PartsSoFar l start all other e
parts_left {l} {start} {all} {e = e} same r = subst (λ ps. PartsSoFar l start all ps e) same r

pub variants_left : {l : Layouts} {all rest other : Variants} {e : Extent} → rest ≡ other → VariantsSoFar l all rest e → VariantsSoFar l all other e
variants_left {l} {all} {e = e} same r = subst (λ vs. VariantsSoFar l all vs e) same r

-- no part is left
pub parts_done : {l : Layouts} {start : ℕ} {all : Parts} {e : Extent} → PartsSoFar l start all no_part e → Ends e (parts_end l start all) (parts_align l all)
parts_done {e = e} r = record { end_is = r.ends ∙ sym (ap fits r.same_end); align_is = omega (arith, r.same_align, e.positive) }

-- no variant yet: the tag alone
pub variants_start : (l : Layouts) (vs : Variants) (e : Extent) → e.end ≡ Some 1 → e.align ≡ 1 → VariantsSoFar l vs vs e
variants_start l vs e q a = record {
  at = 1;
  tag = omega arith;
  ends = q ∙ sym (fits_some 1 (omega arith));
  same_end = omega (arith, ends_positive l vs);
  same_align = omega (arith, a, variants_align_pos l vs);
}

-- one variant more
pub variants_next : {l : Layouts} {all vs : Variants} {ps : Parts} {e here next : Extent} → VariantsSoFar l all (variant ps vs) e → Ends here (parts_end l 1 ps) (parts_align l ps)
    → next.end ≡ greater_of e.end here.end → next.align ≡ max e.align here.align → VariantsSoFar l all vs next
variants_next {l} {all} {vs} {ps} {e} {here} {next} r h q a = record {
  at = max r.at (parts_end l 1 ps);
  tag = omega (arith, r.tag);
  ends = q ∙ ap₂ greater_of r.ends h.end_is ∙ greater_fits r.at (parts_end l 1 ps);
  same_end = omega (arith, r.same_end);
  same_align = omega (arith, r.same_align, a, h.align_is);
}

-- no variant is left
pub variants_done : {l : Layouts} {all : Variants} {e : Extent} → VariantsSoFar l all no_variant e → Ends e (variants_end l all) (variants_align l all)
variants_done {e = e} r = record { end_is = r.ends ∙ ap fits (omega (arith, r.same_end, r.tag)); align_is = omega (arith, r.same_align, e.positive) }

module _ (s : RustSchema) (name : Name) where
  module _ {j : ℕ} (is : node_of s.names.items name ≡ Some j) where
    pub name_there : j < length s.plan.nodes.items
    name_there = ∥∥₁_elim s.named le_prop (λ h. h.there name j is)

    pub name_extent : {node : Node} {e : Extent} → IsAt s.plan.nodes.items j node → e.end ≡ node.size → e.align ≡ node.align → HasExtent s (named name) e
    name_extent {node} {e} at q a t knows =
        let own : SchemaTable = record { table = entries_of s.definitions.items; layouts = t.layouts } in
        let laid : LaidOut own = own_laid_out (entries_of s.definitions.items) t knows in
        record {
          end_is = q ∙ ∥∥₁_elim s.named (hlevel (props, ℕ_set)) (λ h. h.sizes own refl laid name j node is at);
          align_is = a ∙ ∥∥₁_elim s.named (ℕ_set _ _) (λ h. h.aligns own refl laid name j node is at);
        }
