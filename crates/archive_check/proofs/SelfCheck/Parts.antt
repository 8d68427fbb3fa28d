-- One part, and then the others.
use Rattle.std.proofs.Common.{◌≡◌, ℕ, refl, ap, ◌+◌, List}
use Rattle.archive_check.specs.Shape.{Shape, Parts, part}
use Rattle.archive_check.specs.Layout.{up, size_of, align_of, Layout}
use Rattle.archive_check.specs.Reads.{SchemaTable}
use Rattle.archive_check.specs.declared.format.error.Error.{Error}
use Rattle.archive_check.specs.context.Ranges.{RangeState}
use Rattle.archive_check.specs.Definitions.{Definitions, both, Knows, HasLayout}
pub use Rattle.archive_check.specs.Members.PartsLayout.{knows_left, knows_right}
use Rattle.archive_check.specs.SelfCheck.Ways.{Goes, Halts, shape_way, parts_way}
use Rattle.archive_check.proofs.SelfCheck.Ways.{Toward, toward_same, toward_then, toward_halts, toward_goes}
use Rattle.archive_check.proofs.SelfCheck.Layouts.{its_size, its_align}
use Rattle.archive_check.proofs.SelfCheck.Steps.{part_way, part_stop}

module _ (D E : Definitions) (X : Shape) (L : Layout) (laid : HasLayout D X L) (ps : Parts) (b : List ℕ) (base start offset size : ℕ) (o_is : offset ≡ up start L.align) (s : RangeState) where
  here_is : (t : SchemaTable) → Knows t (both D E) → base + offset ≡ base + up start (align_of t.layouts X)
  here_is t k = rw (its_align D X L laid L.align refl t (knows_left t D E k)) (ap (λ n. base + n) o_is)

  module _ (s_is : size ≡ L.size) (s1 : RangeState) (goes : Goes D (shape_way b (base + offset) X) s s1) where
    after_is : (t : SchemaTable) → Knows t (both D E) → offset + size ≡ up start (align_of t.layouts X) + size_of t.layouts X
    after_is t k = rw (its_align D X L laid L.align refl t (knows_left t D E k), its_size D X L laid t (knows_left t D E k), o_is, s_is) refl

    past_first : Toward (both D E) (parts_way b base start (part X ps)) (parts_way b base (offset + size) ps) s s1
    past_first = toward_then D (both D E) (parts_way b base start (part X ps)) (parts_way b base start (part X ps)) (shape_way b (base + offset) X) s s (λ t. knows_left t D E) (toward_same (both D E) (parts_way b base start (part X ps)) s) (parts_way b base (offset + size) ps) s1
        (λ t k pending seen o w q. part_way b t pending s.depth s.end s.start seen base start (base + offset) (offset + size) s1.start X ps o (here_is t k) (after_is t k) w q) goes

    pub part_goes : (s2 : RangeState) → Goes E (parts_way b base (offset + size) ps) s1 s2 → Goes (both D E) (parts_way b base start (part X ps)) s s2
    part_goes = toward_goes E (both D E) (parts_way b base start (part X ps)) (parts_way b base (offset + size) ps) s s1 (λ t. knows_right t D E) past_first

    pub part_halts : (e : Error) → Halts E (parts_way b base (offset + size) ps) s1 e → Halts (both D E) (parts_way b base start (part X ps)) s e
    part_halts e = toward_halts E (both D E) (parts_way b base start (part X ps)) (parts_way b base (offset + size) ps) (parts_way b base (offset + size) ps) s s1 (λ t. knows_right t D E) past_first e (λ t k pending seen f w. w)

  pub first_halts : (e : Error) → Halts D (shape_way b (base + offset) X) s e → Halts (both D E) (parts_way b base start (part X ps)) s e
  first_halts e halts some = let f = halts some in (f.0, f.1, λ t k pending seen. part_stop b t pending s.depth s.end s.start seen base start (base + offset) X ps f.0 (here_is t k) (f.2 t (knows_left t D E k) pending seen))
