-- What the calls of a turn answer, one lemma an exit.
use Rattle.std.proofs.Common.{◌≡◌, ◌≢◌, inl, inr, ℕ, ℤ, pos, ◌+ℤ◌, refl, sym, ◌∙◌, ◌+◌, ◌-◌, ◌*◌, ◌<◌, ◌≤◌, arith, List, ◌∷◌, length, slice_index_or, ap, Bor, Option, Some, None, Err, OnSome, IfNone}
use Rattle.archive_check.specs.declared.format.error.Error.{Error}
use Rattle.archive_check.specs.declared.format.error.Error.TheVariants.{OutOfMemory}
use Rattle.archive_schema.specs.declared.plan.PointeeKind.{PointeeKind}
use Rattle.archive_schema.specs.declared.plan.NodeKind.{NodeKind}
use Rattle.archive_schema.specs.declared.plan.NodeKind.TheVariants.{Free, Record, Choice, Array, Pointer as PointerNode, Shared, Weak}
use Rattle.archive_schema.specs.declared.plan.Node.{Node}
use Rattle.archive_schema.specs.declared.plan.Part.{Part}
use Rattle.archive_schema.specs.declared.plan.Span.{Span}
use Rattle.archive_schema.specs.declared.check.Checker.{Checker}
use Rattle.archive_schema.specs.declared.check.worklist.Work.{Work}
use Rattle.archive_schema.specs.declared.check.worklist.Work.TheVariants.{Part as PartWork, Parts, Elements, Leave, Finish}
use Rattle.archive_check.specs.context.Ranges.{RangeState}
use Rattle.archive_check.specs.context.PositionStates.{Positions, finished, finish_answer}
use Rattle.archive_check.specs.Tour.{Seen}
use Rattle.archive_check.specs.Trail.{no_such_variant}
use Rattle.archive_check.specs.Reads.{i32_at}
use Rattle.archive_schema.specs.plan.SoundPlans.{IsSound}
use Rattle.archive_schema.specs.check.Lists.{IsMore}
use Rattle.archive_check.specs.Outcomes.{Outcome, refused}
use Rattle.archive_check.specs.Words.Elements.{IsAt}
use Rattle.archive_schema.specs.check.Runs.{IsNode, IsVariant, IsNoVariant, Takes, pointee_count, run_tag, run_null}
use Rattle.archive_schema.specs.check.LoopInvariant.{Stage, stage, Ready, PartIsLegalHere, LeadsNowhere, Listing, Entering, Following, TurnLeads, TurnRefuses, IsStopped, ListFits, stops, pending_in, power, level, cost}
use Rattle.archive_schema.specs.check.Entered.{LeavesFrom}
use Rattle.archive_schema.specs.check.Turns.{Turned, TurnsFrom, ComesInto, with_entry}
use Rattle.archive_schema.proofs.check.OrderlyContexts.{orderly_levels}
use Rattle.archive_schema.proofs.check.TurnRules.{turn_record, turn_choice, turn_array, turn_pointer, turn_shared, turn_weak}
use Rattle.archive_schema.proofs.check.TurnsEnd.{level_same, falls_none, falls_under, falls_shared}
use Rattle.archive_schema.proofs.check.TurnInvariants.{node_fits, record_fits, variant_fits, parts_less, elements_less, node_leads, node_refuses, elements_free_leads, part_ready, part_leads, part_ends, element_ready, element_leads, element_ends, inner_leads, leave_leads, leave_refuses, finish_leads, finish_refuses}
use Rattle.archive_schema.proofs.check.LegalParts.{skip_all, skip_leads, skip_ready, skip_costs}
use Rattle.archive_schema.proofs.check.LegalElements.{pass_all, pass_leads, pass_ready, pass_costs}

-- any turn

-- it is refused
pub turn_refused : {m : Checker} {Before : Stage → Seen → Outcome → Type 0} {most : ℕ} {x y : Stage} {r : Option (Unit {0})} {fault e : Error} → r ≡ None → fault ≡ e → TurnRefuses Before x e → TurnsFrom m Before most x y r fault
turn_refused {r = Some u} none is h = absurd (let clash = none in cc)
turn_refused {r = None} none is h = record { some = tt; none = rw is h }

-- there is no room for an entry
pub no_room : {m : Checker} {Before : Stage → Seen → Outcome → Type 0} {most : ℕ} {x y : Stage} {fault : Error} → fault ≡ OutOfMemory → TurnsFrom m Before most x y None fault
no_room is = record { some = tt; none = inl is }

-- it is taken
pub turn_taken : {m : Checker} {Before : Stage → Seen → Outcome → Type 0} {most : ℕ} {x y : Stage} {u : Unit {0}} {fault : Error} → Turned m Before most x y → TurnsFrom m Before most x y (Some u) fault
turn_taken h = record { some = h; none = tt }

-- it is an entry more
turn_pushed : {E : Type 0} {m : Checker} {Before : Stage → Seen → Outcome → Type 0} {most : ℕ} {x y : Stage} {r : Option (Unit {0})} {fault : Error} → OnSome r E → IfNone r (fault ≡ OutOfMemory) → (E → Turned m Before most x y) → TurnsFrom m Before most x y r fault
turn_pushed {r = Some u} e memory taken = record { some = taken e; none = tt }
turn_pushed {r = None} e memory taken = record { some = tt; none = inl memory }

leads_then : (m : Checker) (Before : Stage → Seen → Outcome → Type 0) (x y z : Stage) → TurnLeads m Before x y → TurnLeads m (Listing m) y z → TurnLeads m Before x z
leads_then m Before x y z first next = record {
  keeps = λ h. next.keeps (first.keeps h);
  leads = λ seen a. let b = first.leads seen a in let c = next.leads b.0 b.1 in (c.0, c.1, λ o q. b.2 o (c.2 o q));
}

refuses_then : (m : Checker) (Before : Stage → Seen → Outcome → Type 0) (x y : Stage) (e : Error) → TurnLeads m Before x y → TurnRefuses (Listing m) y e → TurnRefuses Before x e
refuses_then m Before x y e first (inl memory) = inl memory
refuses_then m Before x y e first (inr stopped) = inr (λ h.
    let f = stopped (first.keeps h) in
    (f.0, f.1, λ seen a. let b = first.leads seen a in b.2 (refused f.0) (f.2 b.0 b.1)))

-- it is one step, and then another turn
pub turn_then : {m : Checker} {Before : Stage → Seen → Outcome → Type 0} {most less : ℕ} {x y z : Stage} {r : Option (Unit {0})} {fault : Error} → TurnsFrom m (Listing m) less y z r fault → less ≤ most → TurnLeads m Before x y → TurnsFrom m Before most x z r fault
turn_then {m = m} {Before = Before} {x = x} {y = y} {z = z} {r = Some u} next le first =
    record { some = record { ready = next.some.ready; leads = leads_then m Before x y z first next.some.leads; ends = omega (arith, next.some.ends, le) }; none = tt }
turn_then {m = m} {Before = Before} {x = x} {y = y} {r = None} {fault = fault} next le first = record { some = tt; none = refuses_then m Before x y fault first next.none }

-- a node is opened

abbrev Opens : Checker → RangeState → Positions → List Work → ℕ → ℕ → Stage → Option (Unit {0}) → Error → Type 0
Opens m s met old i p y r fault = TurnsFrom m (Listing m) (cost m s.end (PartWork i p ∷ old)) (stage s met (PartWork i p ∷ old)) y r fault

abbrev OpensParts : Checker → RangeState → Positions → List Work → ℕ → ℕ → ℕ → Stage → Option (Unit {0}) → Error → Type 0
OpensParts m s met old a b p y r fault = TurnsFrom m (Listing m) (cost m s.end (Parts a b p ∷ old)) (stage s met (Parts a b p ∷ old)) y r fault

pub opens_record : {m : Checker} {s : RangeState} {met : Positions} {old : List Work} {i p a b : ℕ} {y : Stage} {r : Option (Unit {0})} {fault : Error}
    → IsSound m → Ready m s (PartWork i p ∷ old) → IsNode m i (Record a b) → OpensParts m s met old a b p y r fault → Opens m s met old i p y r fault
opens_record {m = m} {s = s} {old = old} {p = p} sound ready is h =
    let less = parts_less s.end p old (record_fits sound is ready.fits.0) in
    turn_then h (omega (arith, less)) (record { keeps = λ k. k; leads = λ seen a. (seen, a, λ o q. turn_record m is q) })

pub opens_variant : {m : Checker} {s : RangeState} {met : Positions} {old old' : List Work} {i p a b : ℕ} {name : Bor (List ℕ)} {x : Span} {y : Stage} {r : Option (Unit {0})} {fault : Error}
    → IsSound m → Ready m s (PartWork i p ∷ old) → IsNode m i (Choice name a b) → IsVariant m a b p x → old' ≡ old → OpensParts m s met old' x.first x.last p y r fault → Opens m s met old i p y r fault
opens_variant {m = m} {s = s} {old = old} {p = p} sound ready is variant same h =
    let less = parts_less s.end p old (variant_fits sound is variant ready.fits.0) in
    turn_then (rw same at h) (omega (arith, less)) (record { keeps = λ k. k; leads = λ seen a. (seen, a, λ o q. turn_choice m is variant.0 variant.1 q) })

pub opens_no_variant : {m : Checker} {s : RangeState} {met : Positions} {old : List Work} {i p a b : ℕ} {name : Bor (List ℕ)} {y : Stage} {e : Error}
    → IsNode m i (Choice name a b) → IsNoVariant m name a b p e → Opens m s met old i p y None e
opens_no_variant {m = m} {s = s} {met = met} {old = old} {i = i} {p = p} {name = name} is none =
    record { some = tt; none = rw none.1 (node_refuses m s met old i p (no_such_variant name.now _) _ (name, refl, refl) (λ known. run_tag is none.0)) }

pub opens_array : {m : Checker} {s : RangeState} {met : Positions} {old new : List Work} {i p n j : ℕ} {r : Option (Unit {0})} {fault : Error}
    → IsSound m → Ready m s (PartWork i p ∷ old) → IsNode m i (Array n j) → OnSome r (new ≡ Elements j n p ∷ old) → IfNone r (fault ≡ OutOfMemory) → Opens m s met old i p (stage s met new) r fault
opens_array {m = m} {s = s} {old = old} {p = p} sound ready is some none =
    let fits = (node_fits sound is ready.fits.0).1 in
    turn_pushed some none (λ e. record {
      ready = record { below = ready.below; fits = rw e (record { size = fits.element; few = fits.few; takes = fits.takes; fits = omega (arith, fits.within, ready.fits.0.fits) }, ready.fits.1) };
      leads = record { keeps = λ k. rw e k; leads = λ seen a. (seen, rw e a, λ o q. turn_array m is (rw e at q)) };
      ends = rw e (elements_less s.end p old fits);
    })

refuses_entering : (m : Checker) (s : RangeState) (met : Positions) (old : List Work) (i p j n : ℕ) (z : ℤ) (target : PointeeKind) (e : Error)
    → ((seen : Seen) (o : Outcome) → Entering m target j n z (stage s met old) seen o → Listing m (stage s met (PartWork i p ∷ old)) seen o) → IsStopped m target j n z s e → TurnRefuses (Listing m) (stage s met (PartWork i p ∷ old)) e
refuses_entering m s met old i p j n z target e turn (inl memory) = inl memory
refuses_entering m s met old i p j n z target e turn (inr stopped) = inr (λ h.
    let f = stopped (orderly_levels h) in (f.0, f.1, λ seen a. turn seen (refused f.0) (stops (f.2 (pending_in old) seen))))

pub opens_pointer : {m : Checker} {s : RangeState} {met : Positions} {old : List Work} {i p j n : ℕ} {z : ℤ} {target : PointeeKind} {y : Stage} {r : Option (Unit {0})} {fault : Error}
    → IsNode m i (PointerNode target j) → n ≡ pointee_count m.bytes.now p target → z ≡ pos p +ℤ i32_at m.bytes.now p → ComesInto m target j n z (stage s met old) y r fault → Opens m s met old i p y r fault
opens_pointer {m = m} {s = s} {old = old} {i = i} {y = y} {r = Some u} is en ez h = turn_taken (record {
  ready = h.some.ready;
  leads = record {
    keeps = h.some.leads.keeps;
    leads = λ seen a. let go = h.some.leads.leads seen a in (go.0, go.1, λ o q. turn_pointer m is (rw (en, ez) at (go.2 o q)));
  };
  ends = falls_under (cost m y.range.end y.work) (level (length m.nodes.now) s.end 0 0) (level (length m.nodes.now) s.end i 18446744073709551616) (cost m s.end old) (omega (arith, h.some.ends))
      (level_same (length m.nodes.now) s.end i 0 18446744073709551616 0 (omega arith) (omega arith));
})
opens_pointer {m = m} {s = s} {met = met} {old = old} {i = i} {p = p} {j = j} {n = n} {z = z} {target = target} {r = None} {fault = fault} is en ez h =
    record { some = tt; none = refuses_entering m s met old i p j n z target fault (λ seen o q. turn_pointer m is (rw (en, ez) at q)) h.none }

-- the shared pointer at p is followed
abbrev pub FollowsThere : Checker → RangeState → Positions → List Work → ℕ → PointeeKind → ℕ → ℕ → Stage → Option (Unit {0}) → Error → Type 0
FollowsThere m s met old k target j p y r fault = TurnsFrom m (Following m k target j p) (2 + (power (level (length m.nodes.now) s.end 0 0) + cost m s.end old)) (stage s met old) y r fault

opens_following : {m : Checker} {s : RangeState} {met : Positions} {old : List Work} {i p k j : ℕ} {target : PointeeKind} {y : Stage} {r : Option (Unit {0})} {fault : Error}
    → FollowsThere m s met old k target j p y r fault → ((seen : Seen) (o : Outcome) → Following m k target j p (stage s met old) seen o → Listing m (stage s met (PartWork i p ∷ old)) seen o) → Opens m s met old i p y r fault
opens_following {m = m} {s = s} {old = old} {i = i} {y = y} {r = Some u} h turn = turn_taken (record {
  ready = h.some.ready;
  leads = record {
    keeps = h.some.leads.keeps;
    leads = λ seen a. let go = h.some.leads.leads seen a in (go.0, go.1, λ o q. turn seen o (go.2 o q));
  };
  ends = falls_shared (cost m y.range.end y.work) (level (length m.nodes.now) s.end 0 0) (level (length m.nodes.now) s.end i 18446744073709551616) (cost m s.end old) (omega (arith, h.some.ends))
      (level_same (length m.nodes.now) s.end i 0 18446744073709551616 0 (omega arith) (omega arith));
})
opens_following {m = m} {s = s} {met = met} {old = old} {i = i} {p = p} {k = k} {j = j} {target = target} {r = None} {fault = fault} h turn = record { some = tt; none = by_cause h.none }
  where
    by_cause : TurnRefuses (Following m k target j p) (stage s met old) fault → TurnRefuses (Listing m) (stage s met (PartWork i p ∷ old)) fault
    by_cause (inl memory) = inl memory
    by_cause (inr stopped) = inr (λ k. let f = stopped k in (f.0, f.1, λ seen a. turn seen (refused f.0) (f.2 seen a)))

pub opens_shared : {m : Checker} {s : RangeState} {met : Positions} {old : List Work} {i p k j : ℕ} {target : PointeeKind} {y : Stage} {r : Option (Unit {0})} {fault : Error}
    → IsNode m i (Shared k target j) → FollowsThere m s met old k target j p y r fault → Opens m s met old i p y r fault
opens_shared {m = m} is h = opens_following h (λ seen o q. turn_shared m is q)

pub opens_weak : {m : Checker} {s : RangeState} {met : Positions} {old : List Work} {i p k j : ℕ} {target : PointeeKind} {y : Stage} {r : Option (Unit {0})} {fault : Error}
    → IsNode m i (Weak k target j) → i32_at m.bytes.now p ≢ pos 1 → FollowsThere m s met old k target j p y r fault → Opens m s met old i p y r fault
opens_weak {m = m} is other h = opens_following h (λ seen o q. turn_weak m is other q)

pub opens_null : {m : Checker} {s : RangeState} {met : Positions} {old : List Work} {i p k j : ℕ} {target : PointeeKind} {u : Unit {0}} {fault : Error}
    → Ready m s (PartWork i p ∷ old) → IsNode m i (Weak k target j) → i32_at m.bytes.now p ≡ pos 1 → Opens m s met old i p (stage s met old) (Some u) fault
opens_null {m = m} {s = s} {met = met} {old = old} {i = i} {p = p} ready is null =
    turn_taken (record { ready = record { below = ready.below; fits = ready.fits.1 }; leads = node_leads m s met old i p (λ known. run_null is null); ends = falls_none _ _ })

-- parts are opened

pub opens_no_part : {m : Checker} {s : RangeState} {met : Positions} {old : List Work} {a b c p : ℕ} {u : Unit {0}} {fault : Error}
    → Ready m s (Parts a b p ∷ old) → ((k : ℕ) → a ≤ k → k < c → PartIsLegalHere m p k) → c ≤ b → b ≤ c → OpensParts m s met old a b p (stage s met old) (Some u) fault
opens_no_part {m = m} {s = s} {met = met} {old = old} {a = a} {b = b} {c = c} {p = p} ready skipped le ge =
    turn_taken (record { ready = record { below = ready.below; fits = ready.fits.1 }; leads = skip_all m p old s met a b c skipped le ge; ends = falls_none _ _ })

-- the part c comes next, where no part before it is to be opened
pub part_next : {m : Checker} {s : RangeState} {met : Positions} {old rest : List Work} {a b c p : ℕ} {x : Part}
    → Ready m s (Parts a b p ∷ old) → ((k : ℕ) → a ≤ k → k < c → PartIsLegalHere m p k) → a ≤ c → c < b → IsAt m.parts.now c x → IsMore (Parts (c + 1) b p) (b ≤ c + 1) rest old
    → Turned m (Listing m) (cost m s.end (Parts a b p ∷ old)) (stage s met (Parts a b p ∷ old)) (stage s met (PartWork x.node (p + x.offset) ∷ rest))
part_next {m = m} {s = s} {met = met} {old = old} {rest = rest} {a = a} {b = b} {c = c} {p = p} {x = x} ready skipped from lt at more =
    let from_c = skip_ready m p old s met a b c skipped ready from (omega arith) in
    let less = skip_costs m p old (c - a) a b c s.end (omega arith) (omega arith) ready.fits.0.last in
    let falls = part_ends m s met old rest c b p x lt from_c.fits.0.last from_c.fits.0.few at more in
    record {
      ready = part_ready m s met old rest c b p x from_c lt at more;
      leads = leads_then m (Listing m) (stage s met (Parts a b p ∷ old)) (stage s met (Parts c b p ∷ old)) (stage s met (PartWork x.node (p + x.offset) ∷ rest)) (skip_leads m p old s met a b c skipped from (omega arith)) (part_leads m s met old rest c b p x lt at more);
      ends = omega (arith, less, falls);
    }

pub opens_part : {m : Checker} {s : RangeState} {met : Positions} {old rest : List Work} {a b c p : ℕ} {x : Part} {y : Stage} {r : Option (Unit {0})} {fault : Error}
    → Ready m s (Parts a b p ∷ old) → ((k : ℕ) → a ≤ k → k < c → PartIsLegalHere m p k) → a ≤ c → c < b → IsAt m.parts.now c x → IsMore (Parts (c + 1) b p) (b ≤ c + 1) rest old
    → Opens m s met rest x.node (p + x.offset) y r fault → OpensParts m s met old a b p y r fault
opens_part {met = met} ready skipped from lt at more h = let next = part_next {met = met} ready skipped from lt at more in turn_then h (omega (arith, next.ends)) next.leads

-- the element c is next, where none before it is to be opened
pub element_opened : {m : Checker} {s : RangeState} {old rest : List Work} {j n p c z : ℕ}
    → Ready m s (Elements j n p ∷ old) → (takes : Takes m j z) → c < n → IsMore (Elements j (n - c - 1) (p + c * z + z)) (n - c - 1 ≡ 0) rest old → Ready m s (PartWork j (p + c * z) ∷ rest)
element_opened {m = m} {s = s} {old = old} {rest = rest} {j = j} {n = n} {p = p} {c = c} {z = z} ready takes lt more =
    element_ready m s none_met old rest j (n - c) (p + c * z) z takes.node (pass_ready m j z takes old s n p c (omega arith) ready) (omega arith) takes.at (λ v q. let same : Some z ≡ Some v = sym takes.size_is ∙ q in cc) more
  where
    none_met : Positions
    none_met position = None

-- an entry is taken

abbrev OpensElements : Checker → RangeState → Positions → List Work → ℕ → ℕ → ℕ → Stage → Option (Unit {0}) → Error → Type 0
OpensElements m s met old j n p y r fault = TurnsFrom m (Listing m) (cost m s.end (Elements j n p ∷ old)) (stage s met (Elements j n p ∷ old)) y r fault

-- what the list's index says of the elements' node
pub element_node : {m : Checker} {s : RangeState} {old : List Work} {j n p : ℕ} {x : Node} {kind : NodeKind}
    → Ready m s (Elements j n p ∷ old) → x ≡ slice_index_or m.nodes.now j x → (slice_index_or m.nodes.now j x).kind ≡ kind → IsNode m j kind
element_node {x = x} ready is kind_is = record { node = x; at = record { below = ready.fits.0.takes.at.below; is = is }; kind_is = ap (λ q. q.kind) is ∙ kind_is }

pub opens_free : {m : Checker} {s : RangeState} {met : Positions} {old : List Work} {j n p : ℕ} {u : Unit {0}} {fault : Error}
    → Ready m s (Elements j n p ∷ old) → IsNode m j Free → OpensElements m s met old j n p (stage s met old) (Some u) fault
opens_free {m = m} {s = s} {met = met} {old = old} {j = j} {n = n} {p = p} ready is =
    turn_taken (record { ready = record { below = ready.below; fits = ready.fits.1 }; leads = elements_free_leads m s met old j n p is ready; ends = falls_none _ _ })

pub opens_no_element : {m : Checker} {s : RangeState} {met : Positions} {old : List Work} {j n p c z : ℕ} {u : Unit {0}} {fault : Error}
    → Ready m s (Elements j n p ∷ old) → Takes m j z → ((k : ℕ) → k < c → LeadsNowhere m met j (p + k * z)) → c ≤ n → c ≡ n → OpensElements m s met old j n p (stage s met old) (Some u) fault
opens_no_element {m = m} {s = s} {met = met} {old = old} {j = j} {n = n} {p = p} {c = c} {z = z} ready takes passed le all =
    turn_taken (record { ready = record { below = ready.below; fits = ready.fits.1 }; leads = pass_all m j z takes old s n p c le met passed all; ends = falls_none _ _ })

pub opens_element : {m : Checker} {s : RangeState} {met : Positions} {old rest : List Work} {j n p c z : ℕ} {y : Stage} {r : Option (Unit {0})} {fault : Error}
    → Ready m s (Elements j n p ∷ old) → (takes : Takes m j z) → ((k : ℕ) → k < c → LeadsNowhere m met j (p + k * z)) → c < n → IsMore (Elements j (n - c - 1) (p + c * z + z)) (n - c - 1 ≡ 0) rest old
    → Opens m s met rest j (p + c * z) y r fault → OpensElements m s met old j n p y r fault
opens_element {m = m} {s = s} {met = met} {old = old} {rest = rest} {j = j} {n = n} {p = p} {c = c} {z = z} ready takes passed lt more h =
    let from_c = pass_ready m j z takes old s n p c (omega arith) ready in
    let less = pass_costs m j z takes old s n p c (omega arith) s.end in
    let falls = element_ends m s met old rest j (n - c) (p + c * z) (p + c * z + z) from_c.fits.0.few (omega arith) more in
    turn_then h (omega (arith, less, falls))
    (leads_then m (Listing m) (stage s met (Elements j n p ∷ old)) (stage s met (Elements j (n - c) (p + c * z) ∷ old)) (stage s met (PartWork j (p + c * z) ∷ rest)) (pass_leads m j z takes old s n p c (omega arith) met passed)
    (element_leads m s met old rest j (n - c) (p + c * z) z takes.node from_c (omega arith) takes.at (λ v q. let same : Some z ≡ Some v = sym takes.size_is ∙ q in cc) more))

-- regions are left, of which the last and n in it are still to be left
pub record AreLeaving (m : Checker) (x : Stage) (a b n : ℕ) (y : Stage) : Type 0 where
  pub below : y.range.end ≤ a
  pub leads : TurnLeads m (Listing m) x (with_entry (Leave a b n) y)

pub leaving_begins : {m : Checker} {x : Stage} {a b n k : ℕ} → k ≡ n → Ready m x.range (Leave a b n ∷ x.work) → AreLeaving m (with_entry (Leave a b n) x) a b k x
leaving_begins all ready = rw all (record { below = omega (arith, ready.fits.0); leads = record { keeps = λ h. h; leads = λ seen a. (seen, a, λ o r. r) } })

pub leaving_next : {m : Checker} {x y z : Stage} {a b n k : ℕ} {u : Unit {0}} {fault : Error} → k < n → AreLeaving m x a b (n - k) y → LeavesFrom a a y z (Some u) fault → AreLeaving m x a b (n - (k + 1)) z
leaving_next {m = m} {x = x} {y = y} {z = z} {a = a} {b = b} {n = n} {k = k} lt h left =
    let one : n - k ≡ n - (k + 1) + 1 = omega arith in
    record {
      below = rw left.range (omega arith);
      leads = leads_then m (Listing m) x (with_entry (Leave a b (n - (k + 1) + 1)) y) (with_entry (Leave a b (n - (k + 1))) z) (rw one at h.leads)
          (rw left.list (inner_leads m y.range y.met y.work z.range z.met a b (n - (k + 1)) left.range left.positions));
    }

pub leaving_stops : {m : Checker} {x y z z' : Stage} {a b c n most : ℕ} {fault : Error} → AreLeaving m x a b n y → LeavesFrom a c y z None fault → TurnsFrom m (Listing m) most x z' None fault
leaving_stops {m = m} {x = x} {y = y} {a = a} {b = b} {n = n} {fault = fault} h left =
    record { some = tt; none = refuses_then m (Listing m) x (with_entry (Leave a b n) y) fault h.leads (leave_refuses m y.range y.met y.work a b n fault h.below left.none) }

pub leaving_ends : {m : Checker} {x y z : Stage} {a b n most : ℕ} {r : Option (Unit {0})} {fault : Error}
    → n ≡ 0 → AreLeaving m x a b n y → b ≤ length m.bytes.now → ListFits m b y.work → 1 + cost m b y.work ≤ most → LeavesFrom a b y z r fault → TurnsFrom m (Listing m) most x z r fault
leaving_ends {m = m} {x = x} {y = y} {z = z} {a = a} {b = b} {n = n} {r = Some u} last h below fits few left = turn_taken (record {
  ready = rw (left.range, left.list) (record { below = below; fits = fits });
  leads = leads_then m (Listing m) x (with_entry (Leave a b 0) y) z (rw last at h.leads) (rw left.list (leave_leads m y.range y.met y.work z.range z.met a b left.range left.positions));
  ends = rw (left.range, left.list) (omega (arith, few));
})
leaving_ends {r = None} last h below fits few left = leaving_stops h left

pub finishes : {m : Checker} {s s' : RangeState} {met met' : Positions} {old : List Work} {k t : ℕ} {z : ℤ} {u : Unit {0}} {fault : Error}
    → Ready m s (Finish k t ∷ old) → z ≡ pos t → s' ≡ s → met' ≡ finished met z → TurnsFrom m (Listing m) (cost m s.end (Finish k t ∷ old)) (stage s met (Finish k t ∷ old)) (stage s' met' old) (Some u) fault
finishes {m = m} {s = s} {s' = s'} {met = met} {met' = met'} {old = old} {k = k} {t = t} {z = z} ready at same is = turn_taken (record {
  ready = rw same (record { below = ready.below; fits = ready.fits.1 });
  leads = finish_leads m s met old s' met' k t z at same is;
  ends = rw same (omega arith);
})

pub not_finished : {m : Checker} {s : RangeState} {met : Positions} {old : List Work} {k t : ℕ} {z : ℤ} {y : Stage} {r : Option (Unit {0})} {fault e : Error}
    → r ≡ None → fault ≡ e → z ≡ pos t → Err e ≡ finish_answer (λ x. x.finished) (met z) → TurnsFrom m (Listing m) (cost m s.end (Finish k t ∷ old)) (stage s met (Finish k t ∷ old)) y r fault
not_finished {m = m} {s = s} {met = met} {old = old} {k = k} {t = t} {z = z} {e = e} none is at answer = turn_refused none is (finish_refuses m s met old k t z e at answer)
