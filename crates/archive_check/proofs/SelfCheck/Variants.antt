-- The variants of a choice.
use Rattle.std.proofs.Common.{◌≡◌, ℕ, zero, suc, refl, ◌-◌, ◌<◌, arith, List, slice_index, Option, Some, None}
use Rattle.archive_check.specs.Shape.{Name, Parts, Variants, variant, variant_at, choice}
use Rattle.archive_check.specs.Reads.{SchemaTable}
use Rattle.archive_check.specs.Tour.{Seen}
use Rattle.archive_check.specs.Walk.{walk_choice}
use Rattle.archive_check.specs.Trail.{no_such_variant, trips_choice, trips_tag}
use Rattle.archive_check.specs.Outcomes.{Outcome, done, refused}
use Rattle.archive_check.specs.declared.format.error.Error.{Error}
use Rattle.archive_check.specs.context.Ranges.{RangeState}
use Rattle.archive_check.specs.Definitions.{Definitions, both}
use Rattle.archive_check.specs.Words.Faults.{IsFor}
use Rattle.archive_check.specs.SelfCheck.Ways.{VariantGoes, VariantHalts, Goes, Halts, shape_way, parts_way}
use Rattle.archive_check.proofs.SelfCheck.Ways.{goes_from, halts_from}
use Rattle.archive_check.proofs.SelfCheck.Parts.{knows_left, knows_right}

-- a variant of several
pub choice_way : (bytes : List ℕ) (s : SchemaTable) (pending : List ℕ) (depth : Option ℕ) (stop start : ℕ) (seen : Seen) (p : ℕ) (name : Name) (vs : Variants) (ps : Parts) (o : Outcome) → variant_at vs (slice_index bytes p) ≡ Some ps
    → parts_way bytes p 1 ps s pending depth stop start seen o → shape_way bytes p (choice name vs) s pending depth stop start seen o
choice_way bytes s pending depth stop start seen p name vs ps (done l k) is w = walk_choice is w
choice_way bytes s pending depth stop start seen p name vs ps (refused f) is w = trips_choice is w

module _ (D E : Definitions) (b : List ℕ) (base : ℕ) (ps : Parts) (vs : Variants) (s : RangeState) where
  pub first_variant : (s' : RangeState) (tag : ℕ) → tag ≡ 0 → Goes D (parts_way b base 1 ps) s s' → VariantGoes (both D E) b base (variant ps vs) tag s s'
  first_variant s' tag e goes = record { parts = ps; at = rw e refl; goes = goes_from D (both D E) (parts_way b base 1 ps) (parts_way b base 1 ps) s (λ t. knows_left t D E) (λ t k pending seen o w. w) s' goes }

  pub first_variant_halts : (tag : ℕ) (e : Error) → tag ≡ 0 → Halts D (parts_way b base 1 ps) s e → VariantHalts (both D E) b base (variant ps vs) tag s e
  first_variant_halts tag e z halts = record { parts = ps; at = rw z refl; halts = halts_from D (both D E) (parts_way b base 1 ps) (parts_way b base 1 ps) s (λ t. knows_left t D E) (λ t k pending seen o w. w) e halts }

  pub other_variant : (s' : RangeState) (tag : ℕ) → 0 < tag → VariantGoes E b base vs (tag - 1) s s' → VariantGoes (both D E) b base (variant ps vs) tag s s'
  other_variant s' zero lt g = absurd (omega arith)
  other_variant s' (suc n) lt g =
      let less : suc n - 1 ≡ n = omega arith in
      record { parts = g.parts; at = rw less at g.at; goes = goes_from E (both D E) (parts_way b base 1 g.parts) (parts_way b base 1 g.parts) s (λ t. knows_right t D E) (λ t k pending seen o w. w) s' g.goes }

  pub other_variant_halts : (tag : ℕ) (e : Error) → 0 < tag → VariantHalts E b base vs (tag - 1) s e → VariantHalts (both D E) b base (variant ps vs) tag s e
  other_variant_halts zero e lt g = absurd (omega arith)
  other_variant_halts (suc n) e lt g =
      let less : suc n - 1 ≡ n = omega arith in
      record { parts = g.parts; at = rw less at g.at; halts = halts_from E (both D E) (parts_way b base 1 g.parts) (parts_way b base 1 g.parts) s (λ t. knows_right t D E) (λ t k pending seen o w. w) e g.halts }

pub choice_goes : (D : Definitions) (b : List ℕ) (p : ℕ) (name : Name) (vs : Variants) (s s' : RangeState) → VariantGoes D b p vs (slice_index b p) s s' → Goes D (shape_way b p (choice name vs)) s s'
choice_goes D b p name vs s s' g = goes_from D D (parts_way b p 1 g.parts) (shape_way b p (choice name vs)) s (λ t k. k) (λ t k pending seen o w. choice_way b t pending s.depth s.end s.start seen p name vs g.parts o g.at w) s' g.goes

pub choice_halts : (D : Definitions) (b : List ℕ) (p : ℕ) (name : Name) (vs : Variants) (s : RangeState) (e : Error) → VariantHalts D b p vs (slice_index b p) s e → Halts D (shape_way b p (choice name vs)) s e
choice_halts D b p name vs s e g = halts_from D D (parts_way b p 1 g.parts) (shape_way b p (choice name vs)) s (λ t k. k) (λ t k pending seen o w. choice_way b t pending s.depth s.end s.start seen p name vs g.parts o g.at w) e g.halts

pub tag_halts : (D : Definitions) (b : List ℕ) (p : ℕ) (name : Name) (vs : Variants) (s : RangeState) (e : Error) → variant_at vs (slice_index b p) ≡ None → IsFor (no_such_variant name (slice_index b p)) e → Halts D (shape_way b p (choice name vs)) s e
tag_halts D b p name vs s e none is some = (no_such_variant name (slice_index b p), is, λ t k pending seen. trips_tag none)
