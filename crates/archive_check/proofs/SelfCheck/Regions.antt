-- Regions are entered, and what they hold is gone through or refused.
use Rattle.std.proofs.Common.{◌≡◌, ℕ, sym, ap, ◌∙◌, ◌+◌, ◌≤◌, arith, List, Option, Some, Err}
use Rattle.archive_check.specs.declared.format.error.Error.{Error}
use Rattle.archive_check.specs.declared.context.range.Region.{Region}
use Rattle.archive_check.specs.Value.{Pointer}
use Rattle.archive_check.specs.Reads.{SchemaTable}
use Rattle.archive_check.specs.context.Ranges.{RangeState, one_more, pop_answer, popped}
use Rattle.archive_check.specs.Tour.{Seen, region_of, pointee_size, pointee_align}
use Rattle.archive_check.specs.Keys.{order_of}
use Rattle.archive_check.specs.Walk.{enter}
use Rattle.archive_check.specs.Trail.{Fault, TripsEnter, trips_size, trips_range, trips_align, trips_depth, trips_within}
use Rattle.archive_check.specs.Definitions.{Definitions, Knows}
use Rattle.archive_check.specs.Outcomes.{refused}
use Rattle.archive_check.specs.context.FreshContexts.{HasLevels}
use Rattle.archive_check.specs.Words.BoundedSizes.{fits}
use Rattle.archive_check.specs.context.EnteredRegions.{NotEntered, not_sized, not_within, not_aligned, not_allowed, EntersNot, Begun}
use Rattle.archive_check.specs.SelfCheck.Ways.{Goes, Halts, enter_way}
use Rattle.archive_check.specs.SelfCheck.Regions.{contents_way}
use Rattle.archive_check.proofs.BoundedSizes.{some_is, some_below, none_is}
use Rattle.archive_check.proofs.Checks.RangeLevels.{taken_back, not_taken, levels_inside, inside_few, level_back}
use Rattle.archive_check.proofs.Checks.Depths.{levels_allow}

-- a region of N bytes, aligned so, whatever schema knows the definitions
module _ (D : Definitions) (bytes : List ℕ) (p : Pointer) (N align : ℕ)
    (sized : (t : SchemaTable) → Knows t D → pointee_size t p.pointee p.length ≡ N)
    (aligned : (t : SchemaTable) → Knows t D → pointee_align t p.pointee ≡ align)
    (s : RangeState) where
  trips_not : (size : Option ℕ) (f : Fault) → size ≡ fits N → NotEntered s p.target align size f → (t : SchemaTable) → Knows t D → (pending : List ℕ) (seen : Seen) → TripsEnter t bytes pending s.depth s.end p s.start seen f
  trips_not _ _ e not_sized t k pending seen = trips_size {stop = s.end} {start = s.start} {p = p} (omega (arith, none_is (sym e), sized t k))
  trips_not _ _ e (not_within {n = n} out) t k pending seen =
      let same : pointee_size t p.pointee p.length ≡ n = sized t k ∙ some_is (sym e) in
      rw (← same) (trips_range {stop = s.end} {start = s.start} {p = p} (omega (arith, same, some_below N (sym e))) (λ q is above below. out q is above (omega (arith, same, below))))
  trips_not _ _ e (not_aligned {n = n} {t = q} is above below not) t k pending seen =
      let same : pointee_size t p.pointee p.length ≡ n = sized t k ∙ some_is (sym e) in
      let al : pointee_align t p.pointee ≡ align = aligned t k in
      rw (← al) (trips_align {stop = s.end} {start = s.start} {p = p} is above (omega (arith, same, below)) (λ h. not (rw al at h)))
  trips_not _ _ e (not_allowed {n = n} {t = q} at not) t k pending seen =
      let same : pointee_size t p.pointee p.length ≡ n = sized t k ∙ some_is (sym e) in
      let al : pointee_align t p.pointee ≡ align = aligned t k in
      trips_depth {stop = s.end} {start = s.start} {p = p} at.target at.above (omega (arith, same, at.below)) (rw al at.aligned) not

  pub enters_not : (size : Option ℕ) (e : Error) → size ≡ fits N → EntersNot s p.target align size e → Halts D (enter_way bytes p) s e
  enters_not size e is not some = let f = not some in (f.0, f.1, trips_not size f.0 is f.2)

  module _ (s' : RangeState) (r : Region) (is : Some r.size ≡ fits N) (h : Begun s s' p.target align r) where
    within : HasLevels s.depth → HasLevels s'.depth
    within some = rw h.depth (levels_inside s.depth some h.deep)

    room : (t : SchemaTable) → Knows t D → r.begin + (region_of t p r.begin).size ≤ s.end
    room t k = omega (arith, sized t k, some_is (sym is), h.lands.below)

    -- what the region holds is gone through, and it is left
    pub region_goes : (s1 s2 : RangeState) → Goes D (contents_way bytes r.begin (order_of p) p.pointee p.length) s' s1 → s2 ≡ popped s1 r.outer_start r.outer_end → Goes D (enter_way bytes p) s s2
    region_goes s1 s2 goes left = record {
      end = ap (λ q. q.end) left ∙ h.outer_end;
      depth = λ some. ap (λ q. q.depth) left ∙ ap one_more (goes.depth (within some) ∙ h.depth) ∙ level_back s.depth some.levels;
      runs = λ some t k pending seen.
          let c = rw (h.depth, h.end, h.start) at (goes.runs (within some) t k pending seen) in
          let al : pointee_align t p.pointee ≡ align = aligned t k in
          let start : s2.start ≡ r.begin + (region_of t p r.begin).size = ap (λ q. q.start) left ∙ h.outer_start ∙ ap (λ n. r.begin + n) (sym (sized t k ∙ some_is (sym is))) in
          (r.begin, rw start (enter {p = p} h.lands.target h.lands.above (room t k) (rw al h.lands.aligned) (levels_allow s.depth some.levels h.deep) c));
    }

    -- a region whose contents are gone through can be left
    pub region_left : (s1 : RangeState) (e : Error) → Goes D (contents_way bytes r.begin (order_of p) p.pointee p.length) s' s1 → pop_answer s1 r.outer_start ≡ Err e → Halts D (enter_way bytes p) s e
    region_left s1 e goes fails some =
        let end : s1.end ≡ r.begin = goes.end ∙ h.end in
        let fine = taken_back s1 r.outer_start (omega (arith, end, h.outer_start)) (λ d f. inside_few s.depth some d (sym (goes.depth (within some) ∙ h.depth) ∙ f)) in
        absurd (not_taken s1 r.outer_start e fails fine)

    -- what the region holds is refused
    trips_inner : HasLevels s.depth → (f : Fault) (t : SchemaTable) → Knows t D → (pending : List ℕ) (seen : Seen) → contents_way bytes r.begin (order_of p) p.pointee p.length t pending s'.depth s'.end s'.start seen (refused f) → TripsEnter t bytes pending s.depth s.end p s.start seen f
    trips_inner some f t k pending seen w =
        let al : pointee_align t p.pointee ≡ align = aligned t k in
        trips_within {p = p} h.lands.target h.lands.above (room t k) (rw al h.lands.aligned) (levels_allow s.depth some.levels h.deep) (rw (h.depth, h.end, h.start) at w)

    pub region_halts : (e : Error) → Halts D (contents_way bytes r.begin (order_of p) p.pointee p.length) s' e → Halts D (enter_way bytes p) s e
    region_halts e halts some = let f = halts (within some) in (f.0, f.1, λ t k pending seen. trips_inner some f.0 t k pending seen (f.2 t k pending seen))
