-- A region is entered: what the range calls say, and what is left to do.
use Rattle.std.proofs.Common.{◌≡◌, ◌≢◌, ℕ, ℤ, pos, refl, sym, ap, ap₂, ◌∙◌, ◌+◌, ◌*◌, ◌<◌, ◌≤◌, nat_eq, Bool, true, false, arith, List, [], ◌∷◌, length, Option, Some, None, Err, IsUtf8}
use Rattle.std.proofs.lemmas.Bool.Decides.{nat_tests}
use Rattle.archive_check.specs.declared.format.error.Error.{Error}
use Rattle.archive_check.specs.declared.format.expr.Key.{Key as KeyExpr}
use Rattle.archive_schema.specs.declared.plan.PointeeKind.{PointeeKind}
use Rattle.archive_schema.specs.declared.plan.PointeeKind.TheVariants.{One, Run, Text, Entries as EntriesOf}
use Rattle.archive_schema.specs.declared.plan.NodeKind.TheVariants.{Free}
use Rattle.archive_schema.specs.declared.check.Checker.{Checker}
use Rattle.archive_schema.specs.declared.check.worklist.Work.{Work}
use Rattle.archive_schema.specs.declared.check.worklist.Work.TheVariants.{Part as PartWork, Elements, Entries, Leave}
use Rattle.archive_check.specs.Depth.{inside}
use Rattle.archive_check.specs.context.Ranges.{RangeState, one_more, pop_answer, popped}
use Rattle.archive_check.specs.context.PositionStates.{Positions}
use Rattle.archive_check.specs.Reads.{bytes_at}
use Rattle.archive_check.specs.Tour.{Seen}
use Rattle.archive_check.specs.Words.BoundedSizes.{times, rounded}
use Rattle.archive_schema.specs.plan.BoundedSizes.{sum_of}
use Rattle.archive_check.specs.Outcomes.{Outcome, done}
use Rattle.archive_schema.specs.check.Runs.{Takes, EntryTakes, RegionIs, unit_size, unit_align, value_begin, enter_stop, contents_text, contents_empty, contents_one, contents_run, run_free, elements_free, IsNode, enter_within, ListRuns}
use Rattle.archive_check.specs.declared.context.range.Region.{Region}
use Rattle.archive_schema.specs.check.Lists.{left_first, CanLeaveMore}
use Rattle.archive_schema.specs.check.Entered.{Entered}
use Rattle.archive_schema.specs.check.Through.{Rule, Through, Stops, region_rule, contents_rule}
use Rattle.archive_schema.specs.check.LoopInvariant.{and_then, RegionIsLegalHere, Ready, ListFits, stage, pending_in, regions_in, Agreeing, IsOrderly, Listing, Entering, TurnLeads, power, level, cost}
use Rattle.archive_check.specs.context.FreshContexts.{HasLevels}
use Rattle.archive_schema.proofs.check.TurnRules.{enter_one, enter_run, enter_entries}
use Rattle.archive_schema.proofs.check.ContextAgrees.{allows, agrees_inside, levels_of}
use Rattle.archive_check.proofs.Checks.RangeLevels.{taken_back, not_taken, levels_inside, inside_few, level_back}
use Rattle.archive_schema.proofs.check.OrderlyContexts.{orderly_levels, orderly_inside}
use Rattle.archive_schema.proofs.check.TurnsEnd.{level_end, falls_enter}
use Rattle.archive_check.proofs.Checks.Depths.{levels_allow}

pub times_size : (size : Option ℕ) (n z : ℕ) → times size n ≡ Some z → 0 < z → (y : ℕ) × (size ≡ Some y) × (n * y ≡ z)
times_size None n z e lt = absurd (grind (arith, nat_tests))
times_size (Some y) n z e lt = (y, refl, grind (arith, nat_tests))

-- whether each that a pointer leads to is its node
abbrev pub is_node_itself : PointeeKind → Bool
is_node_itself One = true
is_node_itself Run = true
is_node_itself Text = false
is_node_itself (EntriesOf key) = false

-- each of the region takes what the node does
pub node_takes : {m : Checker} {target : PointeeKind} {j n z align : ℕ} → is_node_itself target ≡ true → RegionIs m target j n (Some z) align → 0 < z → (y : ℕ) × Takes m j y × (n * y ≡ z)
node_takes {target = One} {n = n} {z = z} is region lt =
    let k = times_size region.node.size n z region.size_is lt in
    (k.0, record { node = region.node; at = region.at; size_is = k.1 }, k.2)
node_takes {target = Run} {n = n} {z = z} is region lt =
    let k = times_size region.node.size n z region.size_is lt in
    (k.0, record { node = region.node; at = region.at; size_is = k.1 }, k.2)
node_takes {target = Text} is region lt = cc
node_takes {target = EntriesOf key} is region lt = cc

-- an entry takes its size, where there are any; and then there are some
pub entry_takes : {m : Checker} {key : KeyExpr} {j n z align : ℕ} → RegionIs m (EntriesOf key) j n (Some z) align → 0 < z → (offset size : ℕ) × EntryTakes m key j offset size × (n * size ≡ z)
entry_takes {key = key} {n = n} {z = z} region lt =
    let k = times_size (unit_size (EntriesOf key) region.node) n z region.size_is lt in
    let o = begins (value_begin key region.node.align) region.node.size (unit_align (EntriesOf key) region.node) k.1 in
    (o.0, k.0, record { node = region.node; at = region.at; offset_is = o.1; size_is = k.1 }, k.2)
  where
    begins : (offset size : Option ℕ) {y : ℕ} (align : ℕ) → rounded (sum_of offset size) align ≡ Some y → (o : ℕ) × (offset ≡ Some o)
    begins (Some o) size align e = (o, refl)
    begins None size align e = cc

-- what a region holds that is legal as it lies, and leads nowhere
module _ (m : Checker) (j n z t : ℕ) where
  pub passes_text : IsUtf8 (bytes_at m.bytes.now t z) → RegionIsLegalHere m Text j n z t
  passes_text utf pending depth start seen = contents_text utf

  pub passes_empty : (target : PointeeKind) → z ≡ 0 → ((key : KeyExpr) → target ≢ EntriesOf key) → RegionIsLegalHere m target j n z t
  passes_empty target none plain pending depth start seen = contents_empty none plain

  pub passes_free : (target : PointeeKind) (align : ℕ) → (target ≡ Text → ⊥) → (target ≡ One → n ≡ 1) → ((key : KeyExpr) → target ≢ EntriesOf key) → RegionIs m target j n (Some z) align → IsNode m j Free → t + z ≤ length m.bytes.now → RegionIsLegalHere m target j n z t
  passes_free target align other one plain region free fits = by_size (nat_eq z 0) refl
    where
      filled : (target : PointeeKind) → (target ≡ Text → ⊥) → (target ≡ One → n ≡ 1) → ((key : KeyExpr) → target ≢ EntriesOf key) → RegionIs m target j n (Some z) align → 0 < z → RegionIsLegalHere m target j n z t
      filled Text other one plain here lt = absurd (other refl)
      filled One other one plain here lt = λ pending depth start seen.
          let k = node_takes refl here lt in
          let same : n * k.0 ≡ k.0 = (ap (λ q. q * k.0) (one refl) ∙ omega arith) in
          contents_one lt (run_free free k.1 (omega (arith, k.2)))
      filled Run other one plain here lt = λ pending depth start seen. let k = node_takes refl here lt in contents_run lt (elements_free free k.1 (omega (arith, k.2)))
      filled (EntriesOf key) other one plain here lt = absurd (plain key refl)

      by_size : (b : Bool) → nat_eq z 0 ≡ b → RegionIsLegalHere m target j n z t
      by_size true e = passes_empty target (grind (arith, nat_tests)) plain
      by_size false e = filled target other one plain region (let some : z ≢ 0 = grind (arith, nat_tests) in omega arith)

-- a target of neither one value nor a text is a run
pub run_left : (target : PointeeKind) → (target ≡ One → ⊥) → target ≢ Text → ((key : KeyExpr) → target ≢ EntriesOf key) → target ≡ Run
run_left One one text plain = absurd (one refl)
run_left Run one text plain = refl
run_left Text one text plain = absurd (text refl)
run_left (EntriesOf key) one text plain = absurd (plain key refl)

-- nothing of the range changes
pub through_same : (R : Rule) (s : RangeState) → ((pending : List ℕ) (seen : Seen) → R pending s.depth s.end s.start seen (done s.start seen)) → Through R s s
through_same R s runs = record { end = refl; depth = λ some. refl; runs = λ some. runs }

module _ (m : Checker) (target : PointeeKind) (j n : ℕ) (z : ℤ) (s s' : RangeState) (r : Region) (h : Entered m target j n z s s' r) where
  -- what the region holds is gone through, and it is left
  pub region_through : (s1 s2 : RangeState) → Through (contents_rule m target j n r.size r.begin) s' s1 → s2 ≡ popped s1 r.outer_start r.outer_end → Through (region_rule m target j n z) s s2
  region_through s1 s2 through left =
      let stop : s2.end ≡ s.end = ap (λ q. q.end) left ∙ h.outer_end in
      let start : s2.start ≡ r.begin + r.size = ap (λ q. q.start) left ∙ h.outer_start in
      let within : HasLevels s.depth → HasLevels s'.depth = λ some. rw h.depth (levels_inside s.depth some h.deep) in
      record {
        end = stop;
        depth = λ some. ap (λ q. q.depth) left ∙ ap one_more (through.depth (within some) ∙ h.depth) ∙ level_back s.depth some.levels;
        runs = λ some pending seen.
            let inward : s'.depth ≡ inside s.depth = h.depth in
            let c = rw (inward, h.start) at (through.runs (within some) pending seen) in
            rw start (enter_within h.region h.lands.target h.lands.above h.lands.below h.lands.aligned (levels_allow s.depth some.levels h.deep) c);
      }

  -- a region whose contents are gone through can be left
  pub region_left : (s1 : RangeState) (e : Error) → Through (contents_rule m target j n r.size r.begin) s' s1 → pop_answer s1 r.outer_start ≡ Err e → Stops (region_rule m target j n z) s e
  region_left s1 e through is some =
      let within : HasLevels s'.depth = rw h.depth (levels_inside s.depth some h.deep) in
      let end : s1.end ≡ r.begin = through.end ∙ h.end in
      let fine = taken_back s1 r.outer_start (omega (arith, end, h.outer_start)) (λ d f. inside_few s.depth some d (sym (through.depth within ∙ h.depth) ∙ f)) in
      absurd (not_taken s1 r.outer_start e is fine)

  -- what the region holds is refused
  pub region_stops : (e : Error) → Stops (contents_rule m target j n r.size r.begin) s' e → Stops (region_rule m target j n z) s e
  region_stops e stops some =
      let within : HasLevels s'.depth = rw h.depth (levels_inside s.depth some h.deep) in
      let f = stops within in
      let inward : s'.depth ≡ inside s.depth = h.depth in
      (f.0, f.1, λ pending seen. enter_stop h.region h.lands.target h.lands.above h.lands.below h.lands.aligned (levels_allow s.depth some.levels h.deep) (rw (inward, h.start) at (f.2 pending seen)))

-- a region that is gone through is no longer to be entered
pub region_leads : (m : Checker) (target : PointeeKind) (j n : ℕ) (z : ℤ) (s s' : RangeState) (met met' : Positions) (old : List Work) → Through (region_rule m target j n z) s s' → met' ≡ met → TurnLeads m (Entering m target j n z) (stage s met old) (stage s' met' old)
region_leads m target j n z s s' met met' old through same = record {
  keeps = λ h. let back = through.depth (orderly_levels h) in rw (back, same) h;
  leads = λ seen a.
      let some = levels_of a in
      let back = through.depth some in (
        seen,
        rw (back, same) a,
        λ o r. and_then (through.runs some (pending_in old) seen) (rw (back, through.end) at r),
      );
}

-- where a region is left first
module _ (m : Checker) (a b : ℕ) where
  left_pending : (work : List Work) → pending_in (left_first a b work) ≡ pending_in work
  left_pending [] = refl
  left_pending (entry ∷ work) = by_entry entry
    where
      by_entry : (entry : Work) → pending_in (left_first a b (entry ∷ work)) ≡ pending_in (entry ∷ work)
      by_entry (Leave x y n) = refl
      by_entry entry = refl

  left_regions : (work : List Work) → regions_in (left_first a b work) ≡ 1 + regions_in work
  left_regions [] = refl
  left_regions (entry ∷ work) = by_entry entry
    where
      by_entry : (entry : Work) → regions_in (left_first a b (entry ∷ work)) ≡ 1 + regions_in (entry ∷ work)
      by_entry (Leave x y n) = omega arith
      by_entry entry = refl

  left_costs : (stop : ℕ) (work : List Work) → cost m stop (left_first a b work) ≤ 1 + cost m b work
  left_costs stop [] = omega arith
  left_costs stop (entry ∷ work) = by_entry entry
    where
      by_entry : (entry : Work) → cost m stop (left_first a b (entry ∷ work)) ≤ 1 + cost m b (entry ∷ work)
      by_entry (Leave x y n) = omega arith
      by_entry entry = omega arith

  left_fits : (stop : ℕ) (work : List Work) → stop < a → a ≤ b → b ≤ length m.bytes.now → ListFits m b work → ListFits m stop (left_first a b work)
  left_fits stop [] above ordered below fits = (omega arith, ordered, below, fits)
  left_fits stop (entry ∷ work) above ordered below fits = by_entry entry fits
    where
      by_entry : (entry : Work) → ListFits m b (entry ∷ work) → ListFits m stop (left_first a b (entry ∷ work))
      by_entry (Leave x y n) f = (omega (arith, f.0), f.1, f.2, f.3)
      by_entry entry f = (omega arith, ordered, below, f)

-- one region more can be left first
pub can_leave_more : (m : Checker) (stop : ℕ) (work : List Work) → length m.bytes.now < 18446744073709551616 → ListFits m stop work → CanLeaveMore work
can_leave_more m stop [] small fits = tt
can_leave_more m stop (entry ∷ work) small fits = by_entry entry fits
  where
    by_entry : (entry : Work) → ListFits m stop (entry ∷ work) → CanLeaveMore (entry ∷ work)
    by_entry (Leave x y n) f = omega (arith, f.0, f.1, f.2)
    by_entry entry f = tt

module _ (m : Checker) {target : PointeeKind} (j n : ℕ) (z : ℤ) (s s' : RangeState) (met met' : Positions) (old mid : List Work) (r : Region) (h : Entered m target j n z s s' r) (same : met' ≡ met) (lt : 0 < r.size) (list : mid ≡ left_first r.outer_start r.outer_end old) where
  listed : mid ≡ left_first (r.begin + r.size) s.end old
  listed = list ∙ ap₂ (λ a b. left_first a b old) h.outer_start h.outer_end

  entered_ready : Ready m s old → Ready m s' mid
  entered_ready ready = record {
    below = omega (arith, h.end, h.lands.below, ready.below);
    fits = rw listed (left_fits m (r.begin + r.size) s.end s'.end old (omega (arith, h.end, lt)) h.lands.below ready.below ready.fits);
  }

  mid_pending : pending_in mid ≡ pending_in old
  mid_pending = ap pending_in listed ∙ left_pending m (r.begin + r.size) s.end old

  mid_regions : regions_in mid ≡ 1 + regions_in old
  mid_regions = ap regions_in listed ∙ left_regions m (r.begin + r.size) s.end old

  mid_costs : cost m s'.end mid ≤ 1 + cost m s.end old
  mid_costs = rw listed (left_costs m (r.begin + r.size) s.end s'.end old)

  moved : {w w' : List Work} {seen : Seen} {o : Outcome} → w ≡ w' → pending_in w' ≡ pending_in old → Listing m (stage s' met' w) seen o → ListRuns m (pending_in old) (inside s.depth) r.begin w' s.start seen o
  moved e f r = let inward : s'.depth ≡ inside s.depth = h.depth in rw (h.start, h.end, inward, e, f) at r

  entering : {seen : Seen} {o : Outcome} → Entering m target j n (pos r.begin) (stage s met old) seen o → Entering m target j n z (stage s met old) seen o
  entering q = rw h.lands.target q

  agreed : {seen : Seen} (new : List Work) → pending_in new ≡ pending_in old → regions_in new ≡ 1 + regions_in old → Agreeing (stage s met old) seen → Agreeing (stage s' met' new) seen
  agreed new e f a = rw (h.depth, same, e, f) (agrees_inside a (allows a h.deep))

  ordered : (new : List Work) → pending_in new ≡ pending_in old → regions_in new ≡ 1 + regions_in old → IsOrderly (stage s met old) → IsOrderly (stage s' met' new)
  ordered new e f k = rw (h.depth, same, e, f) (orderly_inside h.deep k)

  module _ (new : List Work) where
    pub entered_one : target ≡ One → new ≡ PartWork j r.begin ∷ mid → TurnLeads m (Entering m target j n z) (stage s met old) (stage s' met' new)
    entered_one is e =
        let whole : new ≡ PartWork j r.begin ∷ left_first (r.begin + r.size) s.end old = e ∙ ap (λ w. PartWork j r.begin ∷ w) listed in
        record {
          keeps = ordered new (ap pending_in e ∙ mid_pending) (ap regions_in e ∙ mid_regions);
          leads = λ seen a. (
            seen,
            agreed new (ap pending_in e ∙ mid_pending) (ap regions_in e ∙ mid_regions) a,
            λ o q. entering (rw is (enter_one m (rw is at h.region) h.lands.above h.lands.below h.lands.aligned (allows a h.deep) lt (moved whole (left_pending m (r.begin + r.size) s.end old) q))),
          );
        }

    pub entered_run : target ≡ Run → new ≡ Elements j n r.begin ∷ mid → TurnLeads m (Entering m target j n z) (stage s met old) (stage s' met' new)
    entered_run is e =
        let whole : new ≡ Elements j n r.begin ∷ left_first (r.begin + r.size) s.end old = e ∙ ap (λ w. Elements j n r.begin ∷ w) listed in
        record {
          keeps = ordered new (ap pending_in e ∙ mid_pending) (ap regions_in e ∙ mid_regions);
          leads = λ seen a. (
            seen,
            agreed new (ap pending_in e ∙ mid_pending) (ap regions_in e ∙ mid_regions) a,
            λ o q. entering (rw is (enter_run m (rw is at h.region) h.lands.above h.lands.below h.lands.aligned (allows a h.deep) lt (moved whole (left_pending m (r.begin + r.size) s.end old) q))),
          );
        }

    pub entered_one_ready : target ≡ One → Ready m s old → n ≡ 1 → new ≡ PartWork j r.begin ∷ mid → Ready m s' new
    entered_one_ready is q one e =
        let k = node_takes (ap is_node_itself is) h.region lt in
        let all = entered_ready q in
        record {
          below = all.below;
          fits = rw e (record { size = k.0; takes = k.1; fits = let f : n * k.0 ≡ k.0 = (ap (λ x. x * k.0) one ∙ omega arith) in omega (arith, k.2, h.lands.below, q.below, f) }, all.fits);
        }

    pub entered_run_ready : target ≡ Run → Ready m s old → n < 18446744073709551616 → new ≡ Elements j n r.begin ∷ mid → Ready m s' new
    entered_run_ready is q few e =
        let k = node_takes (ap is_node_itself is) h.region lt in
        let all = entered_ready q in
        record {
          below = all.below;
          fits = rw e (record { size = k.0; few = few; takes = k.1; fits = omega (arith, k.2, h.lands.below, q.below) }, all.fits);
        }

    pub entered_one_ends : j < length m.nodes.now → new ≡ PartWork j r.begin ∷ mid → cost m s'.end new ≤ power (level (length m.nodes.now) s.end 0 0) + cost m s.end old
    entered_one_ends known e =
        rw e (falls_enter (level (length m.nodes.now) s'.end j 18446744073709551616) (level (length m.nodes.now) s.end 0 0) (cost m s'.end mid) (cost m s.end old) mid_costs
        (level_end (length m.nodes.now) s.end s'.end 0 0 j 18446744073709551616 (omega (arith, h.end, h.lands.below)) (omega arith) (omega arith)))

    pub entered_run_ends : j < length m.nodes.now → n < 18446744073709551616 → new ≡ Elements j n r.begin ∷ mid → cost m s'.end new ≤ power (level (length m.nodes.now) s.end 0 0) + cost m s.end old
    entered_run_ends known few e =
        rw e (falls_enter (level (length m.nodes.now) s'.end (j + 1) n) (level (length m.nodes.now) s.end 0 0) (cost m s'.end mid) (cost m s.end old) mid_costs
        (level_end (length m.nodes.now) s.end s'.end 0 0 (j + 1) n (omega (arith, h.end, h.lands.below)) (omega arith) (omega arith)))

    module _ {key : KeyExpr} (is : target ≡ EntriesOf key) (e : new ≡ Entries key j n r.begin false ∷ mid) where
      pub entered_entries : TurnLeads m (Entering m target j n z) (stage s met old) (stage s' met' new)
      entered_entries =
          let whole : new ≡ Entries key j n r.begin false ∷ left_first (r.begin + r.size) s.end old = e ∙ ap (λ w. Entries key j n r.begin false ∷ w) listed in
          record {
            keeps = ordered new (ap pending_in e ∙ mid_pending) (ap regions_in e ∙ mid_regions);
            leads = λ seen a. (
              seen,
              agreed new (ap pending_in e ∙ mid_pending) (ap regions_in e ∙ mid_regions) a,
              λ o q. entering (rw is (enter_entries m (rw is at h.region) h.lands.above h.lands.below h.lands.aligned (allows a h.deep) lt (moved whole (left_pending m (r.begin + r.size) s.end old) q))),
            );
          }

      pub entered_entries_ready : Ready m s old → n < 18446744073709551616 → Ready m s' new
      entered_entries_ready q few =
          let k = entry_takes (rw is at h.region) lt in
          let all = entered_ready q in
          record {
            below = all.below;
            fits = rw e (record { offset = k.0; size = k.1; few = few; takes = k.2; fits = omega (arith, k.3, h.lands.below, q.below); first = λ none. cc }, all.fits);
          }

      pub entered_entries_ends : j < length m.nodes.now → n < 18446744073709551616 → cost m s'.end new ≤ power (level (length m.nodes.now) s.end 0 0) + cost m s.end old
      entered_entries_ends known few =
          rw e (falls_enter (level (length m.nodes.now) s'.end (j + 1) n) (level (length m.nodes.now) s.end 0 0) (cost m s'.end mid) (cost m s.end old) mid_costs
          (level_end (length m.nodes.now) s.end s'.end 0 0 (j + 1) n (omega (arith, h.end, h.lands.below)) (omega arith) (omega arith)))
