-- What each turn of a check's loop keeps.
use Rattle.std.proofs.Common.{◌≡◌, inl, inr, ℕ, zero, suc, add-one, ℤ, pos, sym, ap, ◌∙◌, ◌+◌, ◌-◌, ◌*◌, ◌<◌, ◌≤◌, max, arith, List, [], ◌∷◌, length, slice_index, slice_index_or, Bor, Option, Some, Err}
use Rattle.archive_check.specs.declared.format.error.Error.{Error}
use Rattle.archive_schema.specs.declared.plan.NodeKind.{NodeKind}
use Rattle.archive_schema.specs.declared.plan.NodeKind.TheVariants.{Free, Record, Choice}
use Rattle.archive_schema.specs.declared.plan.Node.{Node}
use Rattle.archive_schema.specs.declared.plan.Part.{Part}
use Rattle.archive_schema.specs.declared.plan.Span.{Span}
use Rattle.archive_schema.specs.declared.check.Checker.{Checker}
use Rattle.archive_schema.specs.declared.check.worklist.Work.{Work}
use Rattle.archive_schema.specs.declared.check.worklist.Work.TheVariants.{Part as PartWork, Parts, Elements, Leave, Finish}
use Rattle.archive_check.specs.Depth.{inside}
use Rattle.archive_check.specs.context.Ranges.{RangeState, one_more, pop_answer, popped}
use Rattle.archive_check.specs.context.PositionStates.{Positions, finished, finish_answer}
use Rattle.archive_check.specs.Tour.{Seen}
use Rattle.archive_check.specs.Trail.{Fault}
use Rattle.archive_check.specs.Outcomes.{Outcome, done, refused}
use Rattle.archive_check.specs.Words.Elements.{IsAt, span}
use Rattle.archive_schema.specs.check.Runs.{IsNode, IsVariant, Takes, NodeRuns, ListRuns, list_part, list_part_stop, list_leave, list_finish}
use Rattle.archive_schema.specs.check.Lists.{IsMore}
use Rattle.archive_schema.specs.plan.SoundPlans.{PartsWithin, SpanFits, ArrayFits, NodeKindFits, IsSound}
use Rattle.archive_check.specs.Words.Faults.{IsFor}
use Rattle.archive_schema.specs.check.LoopInvariant.{PartsHere, PartFits, Ready, stage, pending_in, regions_in, Listing, TurnLeads, TurnRefuses, level, rank, cost}
use Rattle.archive_schema.proofs.check.TurnRules.{turn_parts, turn_elements, turn_part_last, turn_element_last, turn_elements_free}
use Rattle.archive_schema.proofs.check.ContextAgrees.{agrees_finished, agrees_outside, inside_more}
use Rattle.archive_check.proofs.Checks.RangeLevels.{taken_back}
use Rattle.archive_schema.proofs.check.OrderlyContexts.{orderly_finished, finish_fine, orderly_outside}
use Rattle.archive_schema.proofs.check.TurnsEnd.{level_node, level_same, falls_one, falls_two}
use Rattle.archive_check.proofs.Elements.{same_at, span_next}

split_count : (n y : ℕ) → 0 < n → n * y ≡ y + (n - 1) * y
split_count zero y h = absurd (omega arith)
split_count (suc k) y h = let e : suc k - 1 ≡ k = omega arith in rw e (omega arith)

later : (n r : ℕ) → 1 + (n + 1) + r ≡ 1 + (1 + n + r)
later n r = omega arith

-- what comes of a region more that is left first
left_later : {m : Checker} {pd : List ℕ} {d : Option ℕ} {e e' x y n s s' : ℕ} {k : Seen} {o : Outcome} {w : List Work} → ListRuns m pd (one_more d) e' (Leave x y n ∷ w) s' k o → ListRuns m pd d e (Leave x y (n + 1) ∷ w) s k o
left_later {d = d} {n = n} (list_leave same r) = list_leave (rw add-one (inside_more d ∙ ap inside same)) r

module _ (m : Checker) (s : RangeState) (met : Positions) where
  -- a turn that meets nothing, and enters and leaves nothing
  pub same_leads : (old new : List Work) → pending_in new ≡ pending_in old → regions_in new ≡ regions_in old
      → ((seen : Seen) (o : Outcome) → ListRuns m (pending_in old) s.depth s.end new s.start seen o → ListRuns m (pending_in old) s.depth s.end old s.start seen o)
      → TurnLeads m (Listing m) (stage s met old) (stage s met new)
  same_leads old new e f turn = record { keeps = λ h. rw (e, f) h; leads = λ seen a. (seen, rw (e, f) a, λ o r. turn seen o (rw e at r)) }

  pub node_leads : (old : List Work) (i p : ℕ) → ((seen : Seen) → NodeRuns m (pending_in old) s.depth s.end i p s.start seen (done s.start seen)) → TurnLeads m (Listing m) (stage s met (PartWork i p ∷ old)) (stage s met old)
  node_leads old i p run = record { keeps = λ h. h; leads = λ seen a. (seen, a, λ o r. list_part (run seen) r) }

  pub node_refuses : (old : List Work) (i p : ℕ) (f : Fault) (e : Error) → IsFor f e → ((seen : Seen) → NodeRuns m (pending_in old) s.depth s.end i p s.start seen (refused f)) → TurnRefuses (Listing m) (stage s met (PartWork i p ∷ old)) e
  node_refuses old i p f e is run = inr (λ h. (f, is, λ seen a. list_part_stop (run seen)))

  module _ (old new : List Work) where
    two_parts_ready : (a b p : ℕ) (x : Part) → Ready m s (Parts a b p ∷ old) → a < b → IsAt m.parts.now a x → new ≡ PartWork x.node (p + x.offset) ∷ Parts (a + 1) b p ∷ old → Ready m s new
    two_parts_ready a b p x r lt at e =
        let here = rw (span_next m.parts.now a b x lt r.fits.0.last at) at r.fits.0.here in
        record {
          below = r.below;
          fits = rw e (record { size = here.0.0; takes = here.0.1; fits = here.0.2 }, (record { last = r.fits.0.last; few = r.fits.0.few; here = here.1 }, r.fits.1));
        }

    parts_leads : (a b p : ℕ) (x : Part) → a < b → IsAt m.parts.now a x → new ≡ PartWork x.node (p + x.offset) ∷ Parts (a + 1) b p ∷ old → TurnLeads m (Listing m) (stage s met (Parts a b p ∷ old)) (stage s met new)
    parts_leads a b p x lt at e = same_leads (Parts a b p ∷ old) new (ap pending_in e) (ap regions_in e) (λ seen o r. turn_parts m lt at (rw e at r))

    parts_ends : (a b p : ℕ) (x : Part) → a < b → b ≤ length m.parts.now → b < 18446744073709551616 → IsAt m.parts.now a x → new ≡ PartWork x.node (p + x.offset) ∷ Parts (a + 1) b p ∷ old → cost m s.end new < cost m s.end (Parts a b p ∷ old)
    parts_ends a b p x lt le few at e =
        let n = length m.nodes.now in
        let xs = span m.parts.now (a + 1) b in
        rw (e, span_next m.parts.now a b x lt le at)
        (falls_two (level n s.end x.node 18446744073709551616) (level n s.end (rank xs) (b - (a + 1))) (level n s.end (max (x.node + 1) (rank xs)) (b - a)) (cost m s.end old)
        (level_node n s.end (max (x.node + 1) (rank xs)) (b - a) x.node 18446744073709551616 (omega arith) (omega arith))
        (level_same n s.end (max (x.node + 1) (rank xs)) (rank xs) (b - a) (b - (a + 1)) (omega arith) (omega arith)))

    elements_ready : (j n p z : ℕ) (x : Node) → Ready m s (Elements j n p ∷ old) → 0 < n → IsAt m.nodes.now j x → ((y : ℕ) → x.size ≡ Some y → z ≡ y) → new ≡ PartWork j p ∷ Elements j (n - 1) (p + z) ∷ old → Ready m s new
    elements_ready j n p z x r lt at size e =
        let f = r.fits.0 in
        let same = size f.size (ap (λ q. q.size) (same_at at f.takes.at) ∙ f.takes.size_is) in
        let all = split_count n f.size lt in
        record {
          below = r.below;
          fits = rw e (record { size = f.size; takes = f.takes; fits = omega (arith, f.fits, all) }, (record { size = f.size; few = omega (arith, f.few); takes = f.takes; fits = omega (arith, f.fits, all, same) }, r.fits.1));
        }

    elements_leads : (j n p z : ℕ) (x : Node) → Ready m s (Elements j n p ∷ old) → 0 < n → IsAt m.nodes.now j x → ((y : ℕ) → x.size ≡ Some y → z ≡ y) → new ≡ PartWork j p ∷ Elements j (n - 1) (p + z) ∷ old → TurnLeads m (Listing m) (stage s met (Elements j n p ∷ old)) (stage s met new)
    elements_leads j n p z x r lt at size e =
        let f = r.fits.0 in
        let same = size f.size (ap (λ q. q.size) (same_at at f.takes.at) ∙ f.takes.size_is) in
        same_leads (Elements j n p ∷ old) new (ap pending_in e) (ap regions_in e) (λ seen o v. turn_elements m lt f.takes (rw (e, same) at v))

    elements_ends : (j n p q : ℕ) → n < 18446744073709551616 → 0 < n → new ≡ PartWork j p ∷ Elements j (n - 1) q ∷ old → cost m s.end new < cost m s.end (Elements j n p ∷ old)
    elements_ends j n p q few lt e =
        let k = length m.nodes.now in
        rw e (falls_two (level k s.end j 18446744073709551616) (level k s.end (j + 1) (n - 1)) (level k s.end (j + 1) n) (cost m s.end old)
        (level_node k s.end (j + 1) n j 18446744073709551616 (omega arith) (omega arith))
        (level_same k s.end (j + 1) (j + 1) n (n - 1) (omega arith) (omega arith)))

  -- the same, where nothing may be behind the part or the element
  module _ (old rest : List Work) where
    pub part_ready : (a b p : ℕ) (x : Part) → Ready m s (Parts a b p ∷ old) → a < b → IsAt m.parts.now a x → IsMore (Parts (a + 1) b p) (b ≤ a + 1) rest old → Ready m s (PartWork x.node (p + x.offset) ∷ rest)
    part_ready a b p x r lt at (inl (some, e)) = two_parts_ready old (PartWork x.node (p + x.offset) ∷ rest) a b p x r lt at (ap (λ w. PartWork x.node (p + x.offset) ∷ w) e)
    part_ready a b p x r lt at (inr (ge, e)) =
        let here = rw (span_next m.parts.now a b x lt r.fits.0.last at) at r.fits.0.here in
        record { below = r.below; fits = rw e (record { size = here.0.0; takes = here.0.1; fits = here.0.2 }, r.fits.1) }

    pub part_leads : (a b p : ℕ) (x : Part) → a < b → IsAt m.parts.now a x → IsMore (Parts (a + 1) b p) (b ≤ a + 1) rest old → TurnLeads m (Listing m) (stage s met (Parts a b p ∷ old)) (stage s met (PartWork x.node (p + x.offset) ∷ rest))
    part_leads a b p x lt at (inl (some, e)) = parts_leads old (PartWork x.node (p + x.offset) ∷ rest) a b p x lt at (ap (λ w. PartWork x.node (p + x.offset) ∷ w) e)
    part_leads a b p x lt at (inr (ge, e)) = same_leads (Parts a b p ∷ old) (PartWork x.node (p + x.offset) ∷ rest) (ap pending_in e) (ap regions_in e) (λ seen o r. turn_part_last m lt ge at (rw e at r))

    pub part_ends : (a b p : ℕ) (x : Part) → a < b → b ≤ length m.parts.now → b < 18446744073709551616 → IsAt m.parts.now a x → IsMore (Parts (a + 1) b p) (b ≤ a + 1) rest old → cost m s.end (PartWork x.node (p + x.offset) ∷ rest) < cost m s.end (Parts a b p ∷ old)
    part_ends a b p x lt le few at (inl (some, e)) = parts_ends old (PartWork x.node (p + x.offset) ∷ rest) a b p x lt le few at (ap (λ w. PartWork x.node (p + x.offset) ∷ w) e)
    part_ends a b p x lt le few at (inr (ge, e)) =
        let n = length m.nodes.now in
        let xs = span m.parts.now (a + 1) b in
        rw (e, span_next m.parts.now a b x lt le at)
        (falls_one (level n s.end x.node 18446744073709551616) (level n s.end (max (x.node + 1) (rank xs)) (b - a)) (cost m s.end old)
        (level_node n s.end (max (x.node + 1) (rank xs)) (b - a) x.node 18446744073709551616 (omega arith) (omega arith)))

    pub element_ready : (j n p z : ℕ) (x : Node) → Ready m s (Elements j n p ∷ old) → 0 < n → IsAt m.nodes.now j x → ((y : ℕ) → x.size ≡ Some y → z ≡ y) → IsMore (Elements j (n - 1) (p + z)) (n - 1 ≡ 0) rest old → Ready m s (PartWork j p ∷ rest)
    element_ready j n p z x r lt at size (inl (some, e)) = elements_ready old (PartWork j p ∷ rest) j n p z x r lt at size (ap (λ w. PartWork j p ∷ w) e)
    element_ready j n p z x r lt at size (inr (none, e)) =
        let f = r.fits.0 in
        let all = split_count n f.size lt in
        record { below = r.below; fits = rw e (record { size = f.size; takes = f.takes; fits = omega (arith, f.fits, all) }, r.fits.1) }

    pub element_leads : (j n p z : ℕ) (x : Node) → Ready m s (Elements j n p ∷ old) → 0 < n → IsAt m.nodes.now j x → ((y : ℕ) → x.size ≡ Some y → z ≡ y) → IsMore (Elements j (n - 1) (p + z)) (n - 1 ≡ 0) rest old → TurnLeads m (Listing m) (stage s met (Elements j n p ∷ old)) (stage s met (PartWork j p ∷ rest))
    element_leads j n p z x r lt at size (inl (some, e)) = elements_leads old (PartWork j p ∷ rest) j n p z x r lt at size (ap (λ w. PartWork j p ∷ w) e)
    element_leads j n p z x r lt at size (inr (none, e)) = same_leads (Elements j n p ∷ old) (PartWork j p ∷ rest) (ap pending_in e) (ap regions_in e) (λ seen o v. turn_element_last m lt none r.fits.0.takes (rw e at v))

    pub element_ends : (j n p q : ℕ) → n < 18446744073709551616 → 0 < n → IsMore (Elements j (n - 1) q) (n - 1 ≡ 0) rest old → cost m s.end (PartWork j p ∷ rest) < cost m s.end (Elements j n p ∷ old)
    element_ends j n p q few lt (inl (some, e)) = elements_ends old (PartWork j p ∷ rest) j n p q few lt (ap (λ w. PartWork j p ∷ w) e)
    element_ends j n p q few lt (inr (none, e)) =
        let k = length m.nodes.now in
        rw e (falls_one (level k s.end j 18446744073709551616) (level k s.end (j + 1) n) (cost m s.end old) (level_node k s.end (j + 1) n j 18446744073709551616 (omega arith) (omega arith)))

  module _ (old : List Work) where
    pub elements_free_leads : (j n p : ℕ) → IsNode m j Free → Ready m s (Elements j n p ∷ old) → TurnLeads m (Listing m) (stage s met (Elements j n p ∷ old)) (stage s met old)
    elements_free_leads j n p is ready = record { keeps = λ h. h; leads = λ seen a. (seen, a, λ o r. turn_elements_free m is ready.fits.0.takes ready.fits.0.fits r) }

    -- one of several regions is left, whose range is overwritten at once
    pub inner_leads : (s' : RangeState) (met' : Positions) (x y n : ℕ) → s' ≡ popped s x x → met' ≡ met → TurnLeads m (Listing m) (stage s met (Leave x y (n + 1) ∷ old)) (stage s' met' (Leave x y n ∷ old))
    inner_leads s' met' x y n e same = record {
      keeps = λ h. rw (e, same) (orderly_outside (1 + n + regions_in old) (rw (later n (regions_in old)) at h));
      leads = λ seen a. (
        seen,
        rw (e, same) (agrees_outside (1 + n + regions_in old) (rw (later n (regions_in old)) at a)),
        λ o r. left_later (rw e at r),
      );
    }

    pub leave_leads : (s' : RangeState) (met' : Positions) (x y : ℕ) → s' ≡ popped s x y → met' ≡ met → TurnLeads m (Listing m) (stage s met (Leave x y 0 ∷ old)) (stage s' met' old)
    leave_leads s' met' x y e same = record {
      keeps = λ h. rw (e, same) (orderly_outside (regions_in old) h);
      leads = λ seen a. (seen, rw (e, same) (agrees_outside (regions_in old) a), λ o r. list_leave (inside_more s.depth) (rw e at r));
    }

    pub leave_refuses : (x y n : ℕ) (e : Error) → s.end ≤ x → pop_answer s x ≡ Err e → TurnRefuses (Listing m) (stage s met (Leave x y n ∷ old)) e
    leave_refuses x y n e le is = inr (λ h. absurd (let fine = taken_back s x le (λ d same. omega (arith, h.few d same)) in let clash = sym is ∙ fine in cc))

    pub finish_leads : (s' : RangeState) (met' : Positions) (k t : ℕ) (z : ℤ) → z ≡ pos t → s' ≡ s → met' ≡ finished met z → TurnLeads m (Listing m) (stage s met (Finish k t ∷ old)) (stage s' met' old)
    finish_leads s' met' k t z at same e = record {
      keeps = λ h. rw (same, e, at) (orderly_finished h);
      leads = λ seen a. (seen, rw (same, e, at) (agrees_finished a), λ o r. list_finish (rw same at r));
    }

    pub finish_refuses : (k t : ℕ) (z : ℤ) (e : Error) → z ≡ pos t → Err e ≡ finish_answer (λ x. x.finished) (met z) → TurnRefuses (Listing m) (stage s met (Finish k t ∷ old)) e
    finish_refuses k t z e at is = inr (λ h. absurd (let fine = is ∙ ap (λ q. finish_answer (λ x. x.finished) (met q)) at ∙ finish_fine h in cc))

pub here_from : (m : Checker) (i p z : ℕ) (xs : List Part) → PartsWithin m i z xs → p + z ≤ length m.bytes.now → PartsHere m p xs
here_from m i p z [] h room = tt
here_from m i p z (x ∷ xs) h room = ((h.0.0, h.0.2, omega (arith, h.0.3)), here_from m i p z xs h.1 room)

rank_from : (m : Checker) (i z : ℕ) (xs : List Part) → PartsWithin m i z xs → rank xs ≤ i
rank_from m i z [] h = omega arith
rank_from m i z (x ∷ xs) h = omega (arith, h.0.1, rank_from m i z xs h.1)

pub kind_fits : {m : Checker} {i z : ℕ} {kind : NodeKind} → IsSound m → IsNode m i kind → Takes m i z → NodeKindFits m i z kind
kind_fits {i = i} {z = z} sound h takes =
    let fits = sound.fits i h.node z h.at (ap (λ q. q.size) (same_at h.at takes.at) ∙ takes.size_is) in rw h.kind_is at fits

pub node_fits : {m : Checker} {i p : ℕ} {kind : NodeKind} → IsSound m → IsNode m i kind → (f : PartFits m i p) → NodeKindFits m i f.size kind
node_fits sound h f = kind_fits sound h f.takes

-- what the list's index says of a node
pub node_there : {m : Checker} {i z : ℕ} {x : Node} {kind : NodeKind} → Takes m i z → x ≡ slice_index_or m.nodes.now i x → (slice_index_or m.nodes.now i x).kind ≡ kind → IsNode m i kind
node_there {x = x} takes is kind_is = record { node = x; at = record { below = takes.at.below; is = is }; kind_is = ap (λ q. q.kind) is ∙ kind_is }

pub node_is : {m : Checker} {i p : ℕ} {x : Node} {kind : NodeKind} → PartFits m i p → x ≡ slice_index_or m.nodes.now i x → (slice_index_or m.nodes.now i x).kind ≡ kind → IsNode m i kind
node_is f is kind_is = node_there f.takes is kind_is

-- the parts of a record, and of a variant
pub record_fits : {m : Checker} {i p a b : ℕ} → IsSound m → IsNode m i (Record a b) → (f : PartFits m i p) → SpanFits m i f.size a b
record_fits sound is f = (node_fits sound is f).1

pub variant_fits : {m : Checker} {i p a b : ℕ} {name : Bor (List ℕ)} {x : Span} → IsSound m → IsNode m i (Choice name a b) → IsVariant m a b p x → (f : PartFits m i p) → SpanFits m i f.size x.first x.last
variant_fits {m = m} {p = p} {a = a} {x = x} sound is variant f = (node_fits sound is f).fits (a + slice_index m.bytes.now p) x (omega arith) variant.0 variant.1

pub parts_ready : {m : Checker} {s : RangeState} {old : List Work} {i p a b : ℕ} → (r : Ready m s (PartWork i p ∷ old)) → SpanFits m i r.fits.0.size a b → Ready m s (Parts a b p ∷ old)
parts_ready {m = m} {i = i} {p = p} {a = a} {b = b} r fits = record {
  below = r.below;
  fits = (record { last = fits.last; few = fits.few; here = here_from m i p r.fits.0.size (span m.parts.now a b) fits.within r.fits.0.fits }, r.fits.1);
}

pub parts_less : {m : Checker} {i z a b : ℕ} (e p : ℕ) (old : List Work) → SpanFits m i z a b → cost m e (Parts a b p ∷ old) < cost m e (PartWork i p ∷ old)
parts_less {m = m} {i = i} {z = z} {a = a} {b = b} e p old fits =
    let n = length m.nodes.now in
    falls_one (level n e (rank (span m.parts.now a b)) (b - a)) (level n e i 18446744073709551616) (cost m e old)
    (level_same n e i (rank (span m.parts.now a b)) 18446744073709551616 (b - a) (rank_from m i z (span m.parts.now a b) fits.within) (omega (arith, fits.few)))

-- the calls that nest end: a node's parts have lower numbers
pub rank_less : {m : Checker} {i z a b : ℕ} → SpanFits m i z a b → rank (span m.parts.now a b) * 2 < i * 2 + 1
rank_less {m = m} {i = i} {z = z} {a = a} {b = b} fits = omega (arith, rank_from m i z (span m.parts.now a b) fits.within)

pub less_by : {a b n : ℕ} → b ≡ n → a < b → a < n
less_by e lt = omega (arith, e, lt)

pub elements_less : {m : Checker} {i z n j : ℕ} (e p : ℕ) (old : List Work) → ArrayFits m i z n j → cost m e (Elements j n p ∷ old) < cost m e (PartWork i p ∷ old)
elements_less {m = m} {i = i} {n = n} {j = j} e p old fits =
    let k = length m.nodes.now in
    falls_one (level k e (j + 1) n) (level k e i 18446744073709551616) (cost m e old)
    (level_same k e i (j + 1) 18446744073709551616 n (omega (arith, fits.earlier)) fits.few)
