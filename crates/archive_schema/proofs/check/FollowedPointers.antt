-- A shared pointer is followed: what the context answers, and what is left to do.
use Rattle.std.proofs.Common.{◌≡◌, ◌⊎◌, inl, inr, ℕ, ℤ, pos, negsuc, ◌+ℤ◌, refl, sym, ap, ◌∙◌, ◌<◌, Bool, true, false, IsTrue, List, ◌∷◌, Option, Some, None, Result, Err, ◌≤ℤ◌, nat_abs, arith, length, slice_index_or}
use Rattle.std.proofs.lemmas.Int.{ints}
use Rattle.std.specs.Int.{FitsUnsigned}
use Rattle.archive_check.specs.declared.context.ValidationState.{ValidationState}
use mir.Syntax.{w64}
use Rattle.std.specs.FinMap.{insert}
use Rattle.archive_check.specs.declared.format.error.Error.{Error}
use Rattle.archive_check.specs.declared.format.error.Error.TheVariants.{CyclicValidate, TypeMismatch, MetadataMismatch}
use Rattle.archive_schema.specs.declared.plan.PointeeKind.{PointeeKind}
use Rattle.archive_schema.specs.declared.plan.NodeKind.TheVariants.{Shared, Weak}
use Rattle.archive_check.specs.declared.context.positions.SharedType.{SharedType}
use Rattle.archive_schema.specs.declared.check.Checker.{Checker}
use Rattle.archive_schema.specs.declared.check.worklist.Work.{Work}
use Rattle.archive_schema.specs.declared.check.worklist.Work.TheVariants.{Finish}
use Rattle.archive_check.specs.context.Ranges.{RangeState}
use Rattle.archive_check.specs.context.PositionStates.{PositionState, Positions, IsStartAnswer, IsFinishedAnswer, started}
use Rattle.std.specs.Option.{IfSome}
use Rattle.archive_check.specs.Expressions.{flavor_of, pointee_of}
use Rattle.archive_check.specs.Shape.{Flavor, Pointee}
use Rattle.archive_check.specs.Reads.{i32_at}
use Rattle.archive_check.specs.Tour.{Seen, Entry}
use Rattle.archive_check.specs.Trail.{Fault, cyclic, other_type, other_length}
use Rattle.archive_check.specs.Outcomes.{Outcome, done, refused}
use Rattle.archive_check.specs.Words.Elements.{IsAt}
use Rattle.archive_schema.specs.check.Runs.{IsNode, run_shared, run_weak, run_null, pointee_count, pointee_length, entry_for, EnterRuns, FollowRuns, follow_before, follow_new, follow_again, follow_type, follow_length, follow_cycle}
use Rattle.archive_schema.specs.check.LoopInvariant.{Stage, stage, pending_in, Ready, Agrees, Agreeing, HasNumber, LeadsBack, LeadsBackOrIsNull, LeadsNowhere, IsOrderly, Then, and_then, stops, Entering, Following, TurnLeads, TurnRefuses, IsStopped}
use Rattle.archive_schema.specs.check.Turns.{ComesInto}
use Rattle.archive_schema.proofs.check.ContextAgrees.{agrees_same, SeenAs, seen_as, met_none, agrees_new, started_again}
use Rattle.archive_schema.proofs.check.OrderlyContexts.{orderly_levels, orderly_same, orderly_new}
use Rattle.archive_schema.proofs.check.TurnRules.{turn_new}
use Rattle.archive_schema.proofs.check.TurnExits.{turn_refused, turn_taken, FollowsThere}
use Rattle.archive_check.proofs.Elements.{at_default}

module _ (m : Checker) (s : RangeState) (met : Positions) (old : List Work) (k j p n l : ℕ) (target : PointeeKind) (z : ℤ) (shared_type : SharedType)
    (at : IsAt m.shared_types.now k shared_type) (n_is : n ≡ pointee_count m.bytes.now p target) (l_is : l ≡ pointee_length m.bytes.now p target) (z_is : z ≡ pos p +ℤ i32_at m.bytes.now p) where
  abbrev here : Entry
  here = entry_for shared_type l

  following : {seen : Seen} {o : Outcome} → Then m (pending_in old) s.depth s.end (FollowRuns m (pending_in old) s.depth s.end k target j n l z s.start seen) old o → Following m k target j p (stage s met old) seen o
  following r = rw (n_is, l_is, z_is) at r

  -- what was met lies in the buffer, and is seen so
  record Seen_at (seen : Seen) (e : Entry) (over : Bool) (a : Agreeing (stage s met old) seen) : Type 0 where
    t : ℕ
    target_is : z ≡ pos t
    seen_is : SeenAs a t e over

  seen_at : (seen : Seen) (e : Entry) (over : Bool) (a : Agreeing (stage s met old) seen) → met z ≡ Some (record { entry = e; finished = over }) → Seen_at seen e over a
  seen_at seen e over a is = seen_at_by z refl
    where
      seen_at_by : (q : ℤ) → z ≡ q → Seen_at seen e over a
      seen_at_by (pos t) same = record { t = t; target_is = same; seen_is = seen_as a t e over (ap met (sym same) ∙ is) }
      seen_at_by (negsuc t) same = absurd (let none = a.before t in let some = ap met (sym same) ∙ is in cc)

  follow_refuses : (e : Error) → IsStartAnswer (met z) here (Err e) → TurnRefuses (Following m k target j p) (stage s met old) e
  follow_refuses e h = answered (met z) refl e h
    where
      answered : (o : Option PositionState) → met z ≡ o → (e : Error) → IsStartAnswer o here (Err e) → TurnRefuses (Following m k target j p) (stage s met old) e
      answered None is e h = inl h
      answered (Some was) is TypeMismatch h = inr (λ k. (
        other_type,
        refl,
        λ seen a.
            let at_t = seen_at seen was.entry was.finished a is in
            following (stops (follow_type at at_t.target_is at_t.seen_is.is h)),
      ))
      answered (Some was) is MetadataMismatch h = inr (λ k. (
        other_length,
        refl,
        λ seen a.
            let at_t = seen_at seen was.entry was.finished a is in
            following (stops (follow_length at at_t.target_is at_t.seen_is.is h.0 h.1)),
      ))
      answered (Some was) is e h = absurd h

  follow_cyclic : met z ≡ Some (record { entry = here; finished = false }) → shared_type.flavor.cycles ≡ false → TurnRefuses (Following m k target j p) (stage s met old) CyclicValidate
  follow_cyclic is none = inr (λ k. (
    cyclic,
    refl,
    λ seen a.
        let at_t = seen_at seen here false a is in
        following (stops (follow_cycle at at_t.target_is at_t.seen_is.is (at_t.seen_is.here refl) none)),
  ))

  module _ (s1 : RangeState) (met1 : Positions) (same : s1 ≡ s) (starts : met1 ≡ started met z here) where
    follow_known : (over : Bool) → met z ≡ Some (record { entry = here; finished = over }) → (over ≡ false → IsTrue shared_type.flavor.cycles) → TurnLeads m (Following m k target j p) (stage s met old) (stage s1 met1 old)
    follow_known over is free = record {
      keeps = λ h. rw (same, starts) (orderly_same (started_again met z here _ is) h);
      leads = λ seen a.
          let at_t = seen_at seen here over a is in
          let again : Agreeing (stage s1 met1 old) seen = rw (same, starts) (agrees_same (started_again met z here _ is) a) in
          (seen, again, λ o r. following (and_then (follow_again at at_t.target_is at_t.seen_is.is (free_of over at_t.seen_is.gone free)) (rw same at r)));
    }
      where
        free_of : {A : Type 0} (b : Bool) → (b ≡ true → A → ⊥) → (b ≡ false → IsTrue shared_type.flavor.cycles) → (A → ⊥) ⊎ IsTrue shared_type.flavor.cycles
        free_of true gone cycles = inl (gone refl)
        free_of false gone cycles = inr (cycles refl)

    module _ (new : met z ≡ None) where
      refused_by : {f : Fault} → ((pending : List ℕ) (seen : Seen) → EnterRuns m pending s.depth s.end target j n z s.start seen (refused f)) → (seen : Seen) → Agreeing (stage s met old) seen → (q : ℤ) → z ≡ q → FollowRuns m (pending_in old) s.depth s.end k target j n l z s.start seen (refused f)
      refused_by runs seen a (pos t) is = follow_new at is (met_none a t (ap met (sym is) ∙ new)) (runs (t ∷ pending_in old) (insert seen t here))
      refused_by runs seen a (negsuc q) is = follow_before (λ t e. let clash : negsuc q ≡ pos t = sym is ∙ e in cc) (runs (pending_in old) seen)

      -- a region that isn't entered, wherever its position is
      refuses_new : (e : Error) → IsStopped m target j n z s1 e → TurnRefuses (Following m k target j p) (stage s met old) e
      refuses_new e (inl memory) = inl memory
      refuses_new e (inr stopped) = inr (λ h.
          let f = (rw same at stopped) (orderly_levels h) in
          (f.0, f.1, λ seen a. following (stops (refused_by f.2 seen a z refl))))

      module _ (t : ℕ) (target_is : z ≡ pos t) (mid : List Work) (list : mid ≡ Finish k t ∷ old) where
        entered_leads : (x : Stage) → TurnLeads m (Entering m target j n z) (stage s1 met1 mid) x → TurnLeads m (Following m k target j p) (stage s met old) x
        entered_leads x entering = record {
          keeps = λ h.
              let begun = rw (← target_is) at (orderly_new t here (ap met (sym target_is) ∙ new) h) in
              let more : IsOrderly (stage s1 met1 mid) = rw (same, starts, list) begun in
              entering.keeps more;
          leads = λ seen a.
              let none = met_none a t (ap met (sym target_is) ∙ new) in
              let begun = rw (← target_is) at (agrees_new a t here (ap met (sym target_is) ∙ new)) in
              let more : Agreeing (stage s1 met1 mid) (insert seen t here) = rw (same, starts, list) begun in
              let go = entering.leads (insert seen t here) more in
              (go.0, go.1, λ o r. following (turn_new m at target_is none (rw (same, list) at (go.2 o r))));
        }

-- what was met before and is finished leads nowhere, whatever is pending
follow_back : {m : Checker} {met : Positions} {k p : ℕ} {target : PointeeKind} (j : ℕ) → LeadsBack m met k target p → {depth : Option ℕ} {pending : List ℕ} {regions : ℕ} (stop start : ℕ) {seen : Seen} → Agrees depth met pending regions seen
    → FollowRuns m pending depth stop k target j (pointee_count m.bytes.now p target) (pointee_length m.bytes.now p target) (pos p +ℤ i32_at m.bytes.now p) start seen (done start seen)
follow_back {m = m} {met = met} {k = k} {p = p} {target = target} j back {depth = depth} {pending = pending} stop start {seen = seen} a = by_place (pos p +ℤ i32_at m.bytes.now p) back.finished
  where
    by_place : (z : ℤ) → met z ≡ Some (record { entry = entry_for back.shared_type (pointee_length m.bytes.now p target); finished = true }) → FollowRuns m pending depth stop k target j (pointee_count m.bytes.now p target) (pointee_length m.bytes.now p target) z start seen (done start seen)
    by_place (pos t) is =
        let known = seen_as a t (entry_for back.shared_type (pointee_length m.bytes.now p target)) true is in
        follow_again back.at refl known.is (inl (known.gone refl))
    by_place (negsuc t) is = absurd (let none = a.before t in cc)

pub shared_nowhere : {m : Checker} {met : Positions} {i k j p : ℕ} {target : PointeeKind} → IsNode m i (Shared k target j) → LeadsBack m met k target p → LeadsNowhere m met i p
shared_nowhere {j = j} is back depth pending regions stop start seen a = run_shared is (follow_back j back stop start a)

pub weak_nowhere : {m : Checker} {met : Positions} {i k j p : ℕ} {target : PointeeKind} → IsNode m i (Weak k target j) → LeadsBackOrIsNull m met k target p → LeadsNowhere m met i p
weak_nowhere is (inl null) depth pending regions stop start seen a = run_null is null
weak_nowhere {j = j} is (inr (other, back)) depth pending regions stop start seen a = run_weak is other (follow_back j back stop start a)

-- positions as indices

pub index_of : (z : ℤ) (b : ℕ) → pos 0 ≤ℤ z → b ≡ nat_abs z → z ≡ pos b
index_of (pos t) b least is = ap pos (sym is)
index_of (negsuc t) b least is = absurd (omega (arith, ints))

fits_index : (z : ℤ) (t : ℕ) → z ≡ pos t → t < 18446744073709551616 → FitsUnsigned w64 z
fits_index z t is small = rw is (omega (arith, ints), omega (arith, ints))

-- what is read where a shared pointer lies: its type, how many there are behind it, the length, and where it points
pub record SharedAt (m : Checker) (k p : ℕ) (target : PointeeKind) (n l : ℕ) (z : ℤ) (x : SharedType) : Type 0 where
  pub type_is : IsAt m.shared_types.now k x
  pub count_is : n ≡ pointee_count m.bytes.now p target
  pub length_is : l ≡ pointee_length m.bytes.now p target
  pub position_is : z ≡ pos p +ℤ i32_at m.bytes.now p

pub shared_at : (m : Checker) (q : SharedType) {k p n l : ℕ} {target : PointeeKind} {z : ℤ} → k < length m.shared_types.now → n ≡ pointee_count m.bytes.now p target → l ≡ pointee_length m.bytes.now p target → z ≡ pos p +ℤ i32_at m.bytes.now p
    → SharedAt m k p target n l z (slice_index_or m.shared_types.now k q)
shared_at m q {k = k} below count_is length_is position_is = record { type_is = at_default m.shared_types.now k q below; count_is = count_is; length_is = length_is; position_is = position_is }

-- the context refuses
pub follows_no_start : {m : Checker} {s : RangeState} {met : Positions} {old : List Work} {k j p n l : ℕ} {target : PointeeKind} {z : ℤ} {x : SharedType} {y : Stage} {result : Option (Unit {0})} {fault e : Error}
    → SharedAt m k p target n l z x → result ≡ None → fault ≡ e → IsStartAnswer (met z) (entry_for x l) (Err e) → FollowsThere m s met old k target j p y result fault
follows_no_start {m = m} {s = s} {met = met} {old = old} {k = k} {j = j} {p = p} {n = n} {l = l} {target = target} {z = z} {x = x} {e = e} r none is answer =
    turn_refused none is (follow_refuses m s met old k j p n l target z x r.type_is r.count_is r.length_is r.position_is e answer)

-- the position is pending, and the flavor allows no cycle
pub follows_no_cycle : {m : Checker} {s : RangeState} {met : Positions} {old : List Work} {k j p n l : ℕ} {target : PointeeKind} {z : ℤ} {x : SharedType} {y : Stage} {result : Option (Unit {0})} {fault : Error}
    → SharedAt m k p target n l z x → result ≡ None → fault ≡ CyclicValidate → met z ≡ Some (record { entry = entry_for x l; finished = false }) → x.flavor.cycles ≡ false → FollowsThere m s met old k target j p y result fault
follows_no_cycle {m = m} {s = s} {met = met} {old = old} {k = k} {j = j} {p = p} {n = n} {l = l} {target = target} {z = z} {x = x} r none is pending cycles =
    turn_refused none is (follow_cyclic m s met old k j p n l target z x r.type_is r.count_is r.length_is r.position_is pending cycles)

-- the position was met before
pub follows_known : {m : Checker} {s : RangeState} {met : Positions} {old : List Work} {k j p n l : ℕ} {target : PointeeKind} {z : ℤ} {x : SharedType} {s1 : RangeState} {met1 : Positions} {over : Bool} {u : Unit {0}} {fault : Error}
    → SharedAt m k p target n l z x → Ready m s old → s1 ≡ s → met1 ≡ started met z (entry_for x l) → met z ≡ Some (record { entry = entry_for x l; finished = over }) → (over ≡ false → IsTrue x.flavor.cycles) → FollowsThere m s met old k target j p (stage s1 met1 old) (Some u) fault
follows_known {m = m} {s = s} {met = met} {old = old} {k = k} {j = j} {p = p} {n = n} {l = l} {target = target} {z = z} {x = x} {s1 = s1} {met1 = met1} {over = over} r ready same starts is free = turn_taken (record {
  ready = rw same ready;
  leads = follow_known m s met old k j p n l target z x r.type_is r.count_is r.length_is r.position_is s1 met1 same starts over is free;
  ends = rw same (omega arith);
})

-- the position isn't one of the buffer's, so no region is entered
pub follows_nowhere : {m : Checker} {s : RangeState} {met : Positions} {old : List Work} {k j p n l : ℕ} {target : PointeeKind} {z : ℤ} {x : SharedType} {s1 : RangeState} {met1 : Positions} {y : Stage} {result : Option (Unit {0})} {fault : Error}
    → SharedAt m k p target n l z x → s1 ≡ s → met1 ≡ started met z (entry_for x l) → met z ≡ None → (FitsUnsigned w64 z → ⊥) → ComesInto m target j n z (stage s1 met1 old) y result fault → FollowsThere m s met old k target j p y result fault
follows_nowhere {result = Some u} r same starts new not h = absurd (let in_buffer = h.inside in not (fits_index _ in_buffer.0 in_buffer.1 in_buffer.2))
follows_nowhere {m = m} {s = s} {met = met} {old = old} {k = k} {j = j} {p = p} {n = n} {l = l} {target = target} {z = z} {x = x} {s1 = s1} {met1 = met1} {result = None} {fault = fault} r same starts new not h =
    record { some = tt; none = refuses_new m s met old k j p n l target z x r.type_is r.count_is r.length_is r.position_is s1 met1 same starts new fault h.none }

-- the region is entered, and the position is finished behind it
pub follows_started : {m : Checker} {s : RangeState} {met : Positions} {old : List Work} {k j p n l : ℕ} {target : PointeeKind} {z : ℤ} {x : SharedType} {s1 : RangeState} {met1 : Positions} {t : ℕ} {mid : List Work} {y : Stage} {result : Option (Unit {0})} {fault : Error}
    → SharedAt m k p target n l z x → s1 ≡ s → met1 ≡ started met z (entry_for x l) → met z ≡ None → z ≡ pos t → mid ≡ Finish k t ∷ old → ComesInto m target j n z (stage s1 met1 mid) y result fault → FollowsThere m s met old k target j p y result fault
follows_started {m = m} {s = s} {met = met} {old = old} {k = k} {j = j} {p = p} {n = n} {l = l} {target = target} {z = z} {x = x} {s1 = s1} {met1 = met1} {t = t} {mid = mid} {y = y} {result = Some u} r same starts new at list h = turn_taken (record {
  ready = h.some.ready;
  leads = entered_leads m s met old k j p n l target z x r.type_is r.count_is r.length_is r.position_is s1 met1 same starts new t at mid list y h.some.leads;
  ends = let least = rw (same, list) at h.some.ends in omega (arith, least);
})
follows_started {m = m} {s = s} {met = met} {old = old} {k = k} {j = j} {p = p} {n = n} {l = l} {target = target} {z = z} {x = x} {s1 = s1} {met1 = met1} {result = None} {fault = fault} r same starts new at list h =
    record { some = tt; none = refuses_new m s met old k j p n l target z x r.type_is r.count_is r.length_is r.position_is s1 met1 same starts new fault h.none }

-- the number that a context has of a shared type
pub numbered_at : (m : Checker) (numbered : ℕ → Flavor → Pointee → Type 0) (k : ℕ) (r : Option ℕ) (x : SharedType) → IsAt m.shared_types.now k x
    → IfSome r (λ n. numbered n (flavor_of x.flavor) (pointee_of x.pointee)) → IfSome r (λ n. HasNumber m (numbered n) k)
numbered_at m numbered k None x at h = h
numbered_at m numbered k (Some n) x at h = record { shared_type = x; at = at; numbered_is = h }

-- what a context says to be finished
pub leads_back : {m : Checker} {met : Positions} {numbered : Flavor → Pointee → Type 0} {k p l : ℕ} {target : PointeeKind} {z : ℤ} {y : Bool}
    → l ≡ pointee_length m.bytes.now p target → z ≡ pos p +ℤ i32_at m.bytes.now p → IsFinishedAnswer numbered (met z) l y → HasNumber m numbered k → IsTrue y → LeadsBack m met k target p
leads_back length_is position_is answer k so = record { shared_type = k.shared_type; at = k.at; finished = rw (← length_is, ← position_is) ((answer _ _ k.numbered_is).0 so) }

pub answer_of : (o : Option PositionState) (e : Entry) {r r' : Result ValidationState Error} → r ≡ r' → IsStartAnswer o e r → IsStartAnswer o e r'
answer_of o e is h = rw is at h
