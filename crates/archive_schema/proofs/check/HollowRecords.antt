-- Records that end in a run of no elements: what comes of their parts, and of elements of which the first ones are such records.
use Rattle.std.proofs.Common.{inr, ◌≡◌, ◌≢◌, ◌+ℤ◌, pos, ℕ, zero, suc, refl, ◌+◌, ◌-◌, ◌*◌, ◌<◌, ◌≤◌, arith, Bool, true, false, nat_le, IsTrue, List, [], ◌∷◌, length, Option, Some, None, slice_index_or}
use Rattle.std.proofs.lemmas.Bool.{and_parts}
use Rattle.std.proofs.lemmas.Bool.Decides.{nat_tests}
use Rattle.archive_check.specs.declared.format.error.Error.{Error}
use Rattle.archive_check.specs.Words.BoundedSizes.{times}
use Rattle.archive_check.specs.Words.Elements.{IsAt, span}
use Rattle.archive_check.specs.context.Ranges.{RangeState}
use Rattle.archive_check.specs.context.PositionStates.{Positions}
use Rattle.archive_check.specs.Tour.{Seen}
use Rattle.archive_check.specs.Trail.{Fault}
use Rattle.archive_check.specs.Outcomes.{Outcome, done, refused}
use Rattle.archive_schema.specs.declared.plan.Node.{Node}
use Rattle.archive_schema.specs.declared.plan.Part.{Part}
use Rattle.archive_schema.specs.declared.plan.PointeeKind.{PointeeKind}
use Rattle.archive_schema.specs.declared.plan.PointeeKind.TheVariants.{Run, Entries as EntriesOf}
use Rattle.archive_schema.specs.declared.plan.NodeKind.TheVariants.{Pointer as PointerNode}
use Rattle.archive_check.specs.declared.format.expr.Key.{Key as KeyExpr}
use Rattle.archive_check.specs.Reads.{i32_at}
use Rattle.archive_schema.specs.declared.check.Checker.{Checker}
use Rattle.archive_schema.specs.declared.check.hollow.Hollow.{Hollow}
use Rattle.archive_schema.specs.declared.check.worklist.Work.{Work}
use Rattle.archive_schema.specs.declared.check.worklist.Work.TheVariants.{Elements}
use Rattle.archive_schema.specs.check.Runs.{IsNode, Takes, RegionIs, NodeRuns, PartsRun, ElementsRun, EnterRuns, ListRuns, run_pointer, parts_end, parts_next, parts_stop, run_free, run_record, list_elements, list_elements_stop}
use Rattle.archive_schema.specs.check.Hollow.{HasAlign, IsHollow, IsEmptyAt}
use Rattle.archive_schema.specs.plan.Shallow.{free_at, parts_free, IsFreeSpan}
use Rattle.archive_schema.specs.plan.SoundPlans.{IsSound, PartsWithin, SpanFits}
use Rattle.archive_schema.specs.check.LoopInvariant.{PartsHere, PartFits, PartsFit, PartIsLegalHere, Stage, stage, pending_in, Ready, Listing, TurnLeads, cost}
use Rattle.archive_schema.specs.check.Paid.{bytes_of_parts}
use Rattle.archive_schema.specs.plan.PackedPlans.{size_at}
use Rattle.archive_schema.specs.check.Through.{Passed, PassesFrom, Towards, FrontPassed, FrontFrom, node_rule, parts_rule, elements_rule}
use Rattle.archive_schema.specs.check.Turns.{TurnsFrom}
use Rattle.archive_check.proofs.Elements.{at_default, at_span, span_next}
use Rattle.archive_schema.proofs.check.AtOnce.{free_is, part_below, passes_by, passes_same, parts_here, parts_over, part_stops, towards_part}
use Rattle.archive_schema.proofs.check.ContextAgrees.{levels_of}
use Rattle.archive_schema.proofs.check.LegalElements.{pass_costs, pass_ready}
use Rattle.archive_schema.proofs.check.LegalParts.{part_fits}
use Rattle.archive_schema.proofs.check.OrderlyContexts.{orderly_levels}
use Rattle.archive_schema.proofs.check.Paid.{parts_next_is}
use Rattle.archive_schema.proofs.check.TurnExits.{turn_then}
use Rattle.archive_schema.proofs.check.TurnInvariants.{kind_fits, record_fits, rank_less}

-- no elements take no bytes
none_take_none : (size : Option ℕ) {z : ℕ} → times size 0 ≡ Some z → z ≡ 0
none_take_none None is = cc
none_take_none (Some y) is = let nothing : y * 0 ≡ 0 = omega arith in let small : times (Some y) 0 ≡ Some 0 = rw nothing refl in cc

pub region_none : {m : Checker} {j z align : ℕ} → RegionIs m Run j 0 (Some z) align → z ≡ 0
region_none region = none_take_none region.node.size region.size_is

-- the region of no elements is entered so, whatever they take
nothing_taken : (size : Option ℕ) → times size 0 ≡ Some 0
nothing_taken None = refl
nothing_taken (Some y) = let nothing : y * 0 ≡ 0 = omega arith in rw nothing refl

pub empty_region : {m : Checker} {j align : ℕ} → HasAlign m j align → RegionIs m Run j 0 (Some 0) align
empty_region h = record { node = h.node; at = h.at; size_is = nothing_taken h.node.size; align_is = h.align_is }

pub no_entries : (key : KeyExpr) → Run ≢ EntriesOf key
no_entries key e = cc

-- a pointer to them
pub empty_run : {m : Checker} {pending : List ℕ} {depth : Option ℕ} {stop i j p start : ℕ} {seen : Seen} {o : Outcome} → IsNode m i (PointerNode Run j) → IsEmptyAt m p → EnterRuns m pending depth stop Run j 0 (pos p +ℤ i32_at m.bytes.now p) start seen o → NodeRuns m pending depth stop i p start seen o
empty_run is none r = run_pointer is (rw none r)

-- some parts, and then others
parts_append : {m : Checker} {pd : List ℕ} {d : Option ℕ} {e a b c p s mid : ℕ} {seen known : Seen} {o : Outcome} → PartsRun m pd d e a b p s seen (done mid known) → PartsRun m pd d e b c p mid known o → a ≤ b → b ≤ c → PartsRun m pd d e a c p s seen o
parts_append {a = a} {b = b} (parts_end ge) r le more = let same : b ≡ a = omega arith in rw same at r
parts_append (parts_next lt at v vs) r le more = parts_next (omega arith) at v (parts_append vs r (omega arith) more)

parts_longer : {m : Checker} {pd : List ℕ} {d : Option ℕ} {e a b c p s : ℕ} {seen : Seen} {f : Fault} → PartsRun m pd d e a b p s seen (refused f) → b ≤ c → PartsRun m pd d e a c p s seen (refused f)
parts_longer (parts_next lt at v vs) more = parts_next (omega arith) at v (parts_longer vs more)
parts_longer (parts_stop lt at v) more = parts_stop (omega arith) at v

parts_legal : (m : Checker) (p n a b : ℕ) {pd : List ℕ} {d : Option ℕ} {e s : ℕ} {seen : Seen} → b ≡ a + n → ((k : ℕ) → a ≤ k → k < b → PartIsLegalHere m p k) → PartsRun m pd d e a b p s seen (done s seen)
parts_legal m p zero a b is h = parts_end (omega arith)
parts_legal m p (suc n) a b {pd = pd} {d = d} {e = e} {s = s} {seen = seen} is h =
    let here = h a (omega arith) (omega arith) in
    parts_next (omega arith) here.at (here.stays pd d e s seen) (parts_legal m p n (a + 1) b (omega arith) (λ k from to. h k (omega arith) to))

-- parts that are legal as they lie
pub front_legal : {m : Checker} {a b c p : ℕ} {x : Stage} {u : Unit {0}} {fault : Error} → ((k : ℕ) → a ≤ k → k < c → PartIsLegalHere m p k) → b ≤ c → PassesFrom (parts_rule m a b p) x x (Some u) fault
front_legal {m = m} {a = a} {b = b} {p = p} {x = x} legal le = passes_same (λ pending seen. over pending seen (nat_le a b) refl)
  where
    over : (pending : List ℕ) (seen : Seen) (t : Bool) → nat_le a b ≡ t → PartsRun m pending x.range.depth x.range.end a b p x.range.start seen (done x.range.start seen)
    over pending seen true e = let under : a ≤ b = grind (arith, nat_tests) in parts_legal m p (b - a) a b (omega arith) (λ k from to. legal k from (omega arith))
    over pending seen false e = let beyond : b < a = grind (arith, nat_tests) in parts_end (omega arith)

-- parts that may be any bytes

each_free : (nodes : List Node) (parts : List Part) (k : ℕ) (x : Part) → IsTrue (parts_free nodes parts) → IsAt parts k x → IsTrue (free_at nodes x.node)
each_free nodes [] k x h at = absurd (omega (arith, at.below))
each_free nodes (y ∷ ys) zero x h at = rw at.is (and_parts _ _ h).0
each_free nodes (y ∷ ys) (suc k) x h at = each_free nodes ys k x (and_parts _ _ h).1 (record { below = omega (arith, at.below); is = at.is })

part_is_free : (nodes : List Node) (parts : List Part) (b n a k : ℕ) (x : Part) → k ≡ a + n → k < b → b ≤ length parts → IsFreeSpan nodes parts a b → IsAt parts k x → IsTrue (free_at nodes x.node)
part_is_free nodes parts b n a k x e lt le h at = each_free nodes (span parts a b) n x h (at_span parts a b n x (omega arith) (rw e at at))

pub part_free : (m : Checker) (p a b k : ℕ) → PartsFit m a b p → IsFreeSpan m.nodes.now m.parts.now a b → a ≤ k → k < b → PartIsLegalHere m p k
part_free m p a b k fit free from to =
    let x = slice_index_or m.parts.now k (record { offset = 0; node = 0 }) in
    let at = at_default m.parts.now k (record { offset = 0; node = 0 }) (omega (arith, fit.last)) in
    let f = part_fits m p a b k x fit from to at in
    let is = free_is m x.node (part_is_free m.nodes.now m.parts.now b (k - a) a k x (omega arith) to fit.last free at) in
    record { part = x; at = at; stays = λ pending depth stop start seen. run_free is f.takes f.fits }

pub front_free : {m : Checker} {a b p : ℕ} {x : Stage} {u : Unit {0}} {fault : Error} → PartsFit m a b p → IsFreeSpan m.nodes.now m.parts.now a b → PassesFrom (parts_rule m a b p) x x (Some u) fault
front_free {m = m} {a = a} {b = b} {p = p} fit free = front_legal {c = b} (λ k from to. part_free m p a b k fit free from to) (omega arith)

-- behind the parts in front
pub behind_front : {m : Checker} {a b c p : ℕ} {x y : Stage} → Passed (parts_rule m a b p) x y → a ≤ b → b ≤ c → Towards (parts_rule m a c p) (parts_rule m b c p) x y
behind_front passed le more = record {
  end = passed.through.end;
  depth = passed.through.depth;
  leads = λ some pending seen o q. parts_append (passed.through.runs some pending seen) q le more;
  list = passed.list;
  positions = passed.positions;
}

-- the parts in front are refused
pub hollow_refused : {m : Checker} {i p : ℕ} {h : Hollow} {x y z : Stage} {fault : Error} → IsHollow m i h → PassesFrom (parts_rule m h.first h.end p) x y None fault → PassesFrom (node_rule m i p) x z None fault
hollow_refused is front = record {
  some = tt;
  none = λ some. let f = front.none some in (f.0, f.1, λ pending seen. run_record is.record_is (parts_longer (f.2 pending seen) (omega arith)));
}

-- behind them the last one is gone through, or is refused
pub hollow_passes : {m : Checker} {i p : ℕ} {h : Hollow} {x y z : Stage} {r : Option (Unit {0})} {fault : Error} → IsHollow m i h → Passed (parts_rule m h.first h.end p) x y → PassesFrom (node_rule m h.node (p + h.offset)) y z r fault → PassesFrom (node_rule m i p) x z r fault
hollow_passes {m = m} {p = p} {h = h} {r = Some u} is front last =
    let towards = behind_front {c = h.end + 1} front is.order (omega arith) in
    passes_by (parts_over {m = m} {a = h.first} {b = h.end + 1} {p = p} {k = h.end + 1} (omega arith) (towards_part (omega arith) is.part towards last.some)) (λ pending seen o r. run_record is.record_is r)
hollow_passes {m = m} {p = p} {h = h} {r = None} is front last =
    let towards = behind_front {c = h.end + 1} front is.order (omega arith) in
    passes_by (part_stops {m = m} {a = h.first} {b = h.end + 1} {p = p} {k = h.end} (omega arith) is.part towards last) (λ pending seen o r. run_record is.record_is r)

-- the parts of such a record lie in the bytes

front_here : (m : Checker) (p n a b : ℕ) → b ≡ a + n → b + 1 ≤ length m.parts.now → PartsHere m p (span m.parts.now a (b + 1)) → PartsHere m p (span m.parts.now a b)
front_here m p zero a b is le h = let none : b - a ≡ 0 = omega arith in rw none tt
front_here m p (suc n) a b is le h =
    let at = at_default m.parts.now a (record { offset = 0; node = 0 }) (omega arith) in
    let whole = rw (span_next m.parts.now a (b + 1) _ (omega arith) le at) at h in
    rw (span_next m.parts.now a b _ (omega arith) (omega arith) at) (whole.0, front_here m p n (a + 1) b (omega arith) le whole.1)

module _ {m : Checker} {i p : ℕ} {h : Hollow} (sound : IsSound m) (is : IsHollow m i h) (f : PartFits m i p) where
  hollow_fit : PartsFit m h.first (h.end + 1) p
  hollow_fit = parts_here (record_fits sound is.record_is f) f.fits

  pub front_fit : PartsFit m h.first h.end p
  front_fit =
      let fit = hollow_fit in
      record { last = omega (arith, fit.last); few = omega (arith, fit.few); here = front_here m p (h.end - h.first) h.first h.end (omega (arith, is.order)) fit.last fit.here }

  pub last_fits : PartFits m h.node (p + h.offset)
  last_fits = part_fits m p h.first (h.end + 1) h.end (record { offset = h.offset; node = h.node }) hollow_fit is.order (omega arith) is.part

-- a record whose parts in front may be any bytes
pub free_passes : {m : Checker} {i p : ℕ} {h : Hollow} {x y : Stage} {r : Option (Unit {0})} {fault : Error} → IsSound m → IsHollow m i h → IsTrue h.is_free → PartFits m i p → PassesFrom (node_rule m h.node (p + h.offset)) x y r fault → PassesFrom (node_rule m i p) x y r fault
free_passes {p = p} {h = h} {x = x} sound is free f last = hollow_passes is (front_free {u = tt} {fault = Error.OutOfMemory} (front_fit sound is f) (is.free free)).some last

-- the last part's node is there
pub last_known : {m : Checker} {i z a b : ℕ} → Takes m i z → SpanFits m i z a b → a < b → (slice_index_or m.parts.now (b - 1) (record { offset = 0; node = 0 })).node < length m.nodes.now
last_known {m = m} {a = a} {b = b} takes fits lt =
    let at = at_default m.parts.now (b - 1) (record { offset = 0; node = 0 }) (omega (arith, fits.last)) in
    omega (arith, part_below m.parts.now b (b - 1 - a) a (b - 1) _ (omega arith) (omega arith) fits.last at, rank_less fits, takes.at.below)

-- each part of a node takes a size
within_at : (m : Checker) (i z k : ℕ) (xs : List Part) (x : Part) → PartsWithin m i z xs → IsAt xs k x → (y : ℕ) × Takes m x.node y
within_at m i z k [] x h at = absurd (omega (arith, at.below))
within_at m i z zero (y ∷ ys) x h at = rw at.is (h.0.0, h.0.2)
within_at m i z (suc k) (y ∷ ys) x h at = within_at m i z k ys x h.1 (record { below = omega (arith, at.below); is = at.is })

-- and so the node that the last part leads to is there
pub pointee_known : {m : Checker} {i z a b j : ℕ} {x : Part} {target : PointeeKind} → IsSound m → SpanFits m i z a b → a < b → IsAt m.parts.now (b - 1) x → IsNode m x.node (PointerNode target j) → j < length m.nodes.now
pointee_known {m = m} {i = i} {z = z} {a = a} {b = b} {x = x} sound fits lt at is =
    let same : a + (b - 1 - a) ≡ b - 1 = omega arith in
    let part = at_span m.parts.now a b (b - 1 - a) x (omega arith) (rw same at) in
    (kind_fits sound is (within_at m i z (b - 1 - a) (span m.parts.now a b) x fits.within part).1).1

none_between : (m : Checker) (a b : ℕ) → b ≤ a → bytes_of_parts m a b ≡ 0
none_between m a b le = let none : b - a ≡ 0 = omega arith in rw none refl

front_bytes : (m : Checker) (n a b : ℕ) (x : Part) → b ≡ a + n → b + 1 ≤ length m.parts.now → IsAt m.parts.now b x → bytes_of_parts m a (b + 1) ≡ bytes_of_parts m a b + size_at m.nodes.now x.node
front_bytes m zero a b x is le at =
    let same : b ≡ a = omega arith in
    let there : IsAt m.parts.now a x = rw same at at in
    omega (arith, parts_next_is m a (b + 1) x (omega arith) le there, none_between m (a + 1) (b + 1) (omega arith), none_between m a b (omega arith))
front_bytes m (suc n) a b x is le at =
    let first = at_default m.parts.now a (record { offset = 0; node = 0 }) (omega arith) in
    omega (arith, parts_next_is m a (b + 1) _ (omega arith) le first, parts_next_is m a b _ (omega arith) (omega arith) first, front_bytes m n (a + 1) b x (omega arith) le at)

-- what its parts take
pub hollow_bytes : {m : Checker} {i p : ℕ} {h : Hollow} → IsSound m → IsHollow m i h → PartFits m i p → bytes_of_parts m h.first (h.end + 1) ≡ bytes_of_parts m h.first h.end + size_at m.nodes.now h.node
hollow_bytes {m = m} {h = h} sound is f =
    let fit = hollow_fit sound is f in
    front_bytes m (h.end - h.first) h.first h.end (record { offset = h.offset; node = h.node }) (omega (arith, is.order)) fit.last is.part

-- the first of some elements

pub front_stops : {m : Checker} {j n p z : ℕ} {x y w : Stage} {r : Option ℕ} {fault : Error} → r ≡ None → PassesFrom (elements_rule m j n p) x w None fault → FrontFrom m j n p z x y r fault
front_stops {r = Some k} none h = absurd (let clash = none in cc)
front_stops {r = None} none h = record { some = tt; none = h.none }

elements_lead : {m : Checker} {pd : List ℕ} {d : Option ℕ} {e j n p n' q s s' : ℕ} {seen : Seen} {o : Outcome} {old : List Work}
    → ((o : Outcome) → ElementsRun m pd d e j n' q s' seen o → ElementsRun m pd d e j n p s seen o) → ListRuns m pd d e (Elements j n' q ∷ old) s' seen o → ListRuns m pd d e (Elements j n p ∷ old) s seen o
elements_lead to (list_elements vs r) = list_elements (to _ vs) r
elements_lead to (list_elements_stop vs) = list_elements_stop (to _ vs)

module _ {m : Checker} {s : RangeState} {met : Positions} {old : List Work} {j n p z k : ℕ} {y : Stage} (ready : Ready m s (Elements j n p ∷ old)) (takes : Takes m j z) (front : FrontPassed m j n p z (stage s met old) y k) where
  -- the others are next
  pub others_ready : Ready m y.range (Elements j (n - k) (p + k * z) ∷ y.work)
  others_ready =
      let r = pass_ready m j z takes old s n p k front.few ready in
      record { below = rw front.towards.end r.below; fits = rw (front.towards.end, front.towards.list) r.fits }

  others_lead : TurnLeads m (Listing m) (stage s met (Elements j n p ∷ old)) (stage y.range y.met (Elements j (n - k) (p + k * z) ∷ y.work))
  others_lead = record {
    keeps = λ h. let back = front.towards.depth (orderly_levels h) in rw (back, front.towards.positions, front.towards.list) h;
    leads = λ seen a.
        let some = levels_of a in
        let back = front.towards.depth some in (
          seen,
          rw (back, front.towards.positions, front.towards.list) a,
          λ o q. elements_lead (λ o v. front.towards.leads some (pending_in old) seen o v) (rw (back, front.towards.end, front.towards.list) at q),
        );
  }

  -- and so is what comes of the whole
  pub others_turn : {w : Stage} {r : Option (Unit {0})} {fault : Error} → TurnsFrom m (Listing m) (cost m y.range.end (Elements j (n - k) (p + k * z) ∷ y.work)) (stage y.range y.met (Elements j (n - k) (p + k * z) ∷ y.work)) w r fault
      → TurnsFrom m (Listing m) (cost m s.end (Elements j n p ∷ old)) (stage s met (Elements j n p ∷ old)) w r fault
  others_turn h = turn_then h (rw (front.towards.end, front.towards.list) (pass_costs m j z takes old s n p k front.few s.end)) others_lead

-- an element is refused
pub front_refused : {m : Checker} {s : RangeState} {met : Positions} {old : List Work} {j n p z : ℕ} {y w : Stage} {most : ℕ} {fault : Error}
    → FrontFrom m j n p z (stage s met old) y None fault → TurnsFrom m (Listing m) most (stage s met (Elements j n p ∷ old)) w None fault
front_refused {old = old} h = record {
  some = tt;
  none = inr (λ k. let f = h.none (orderly_levels k) in (f.0, f.1, λ seen a. list_elements_stop (f.2 (pending_in old) seen)));
}
