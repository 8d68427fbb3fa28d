-- What is checked at once: what a shallow node holds is shallow, and what comes of its parts and elements.
use Rattle.std.proofs.Common.{inr, ◌≡◌, ◌≢◌, ℕ, zero, suc, refl, ap, ◌∙◌, ◌+◌, ◌-◌, ◌*◌, ◌<◌, ◌≤◌, arith, Bool, true, false, List, [], ◌∷◌, length, slice_index, slice_index_or, Bor, Option, Some, None, IsTrue}
use Rattle.archive_check.specs.declared.format.error.Error.{Error}
use Rattle.archive_check.specs.declared.format.expr.Key.{Key as KeyExpr}
use Rattle.archive_schema.specs.declared.plan.NodeKind.TheVariants.{Free, Record, Choice, Array, Pointer as PointerNode}
use Rattle.archive_schema.specs.declared.plan.PointeeKind.{PointeeKind}
use Rattle.archive_schema.specs.declared.plan.PointeeKind.TheVariants.{One, Run, Text, Entries as EntriesOf}
use Rattle.archive_schema.specs.declared.plan.Node.{Node}
use Rattle.archive_schema.specs.declared.plan.Part.{Part}
use Rattle.archive_schema.specs.declared.plan.Span.{Span}
use Rattle.archive_schema.specs.declared.check.Checker.{Checker}
use Rattle.archive_schema.specs.declared.check.worklist.Work.{Work}
use Rattle.archive_schema.specs.declared.check.worklist.Work.TheVariants.{Part as PartWork}
use Rattle.archive_check.specs.context.Ranges.{RangeState}
use Rattle.archive_check.specs.context.PositionStates.{Positions}
use Rattle.archive_check.specs.Tour.{Seen}
use Rattle.archive_check.specs.Trail.{Fault, no_such_variant}
use Rattle.archive_check.specs.Outcomes.{Outcome, done, refused}
use Rattle.archive_check.specs.Words.Elements.{IsAt, span}
use Rattle.archive_schema.specs.check.Runs.{IsNode, IsVariant, IsNoVariant, Takes, run_tag, run_choice, RegionIs, ElementsRun, parts_end, parts_next, parts_stop, elements_end, elements_next, elements_stop, list_part, list_part_stop}
use Rattle.archive_schema.specs.plan.SoundPlans.{SpanFits, ArrayFits, IsSound}
use Rattle.archive_schema.specs.plan.Shallow.{marked, free_at, target_shallow, parts_shallow, variants_shallow, IsShallow}
use Rattle.archive_schema.specs.check.LoopInvariant.{IsLegalHere, PartFits, PartsFit, ElementsFit, EntriesFit, Stage, stage, pending_in, Ready, Listing, cost, rank}
use Rattle.archive_check.specs.context.FreshContexts.{HasLevels}
use Rattle.archive_schema.specs.check.Through.{Rule, Stops, Passed, PassesFrom, TestsFrom, Towards, node_rule, parts_rule, span_rule, elements_rule}
use Rattle.archive_schema.specs.check.Turns.{TurnsFrom}
use Rattle.std.proofs.lemmas.Bool.{and_parts}
use Rattle.archive_check.proofs.Elements.{same_at, at_default, at_span}
use Rattle.archive_schema.proofs.plan.ShallowMarks.{kind_free}
use Rattle.archive_schema.proofs.check.TurnInvariants.{here_from, node_fits}
use Rattle.archive_schema.proofs.check.TurnsEnd.{falls_none}
use Rattle.archive_schema.proofs.check.EnteredRegions.{is_node_itself, node_takes, entry_takes, through_same}
use Rattle.archive_schema.proofs.check.ContextAgrees.{levels_of}
use Rattle.archive_schema.proofs.check.OrderlyContexts.{orderly_levels}

-- what is shallow

free_node : (nodes : List Node) (i : ℕ) → IsTrue (free_at nodes i) → (x : Node) × IsAt nodes i x × (x.kind ≡ Free)
free_node [] i h = absurd (let none : IsTrue false = h in cc)
free_node (x ∷ xs) zero h = (x, record { below = omega arith; is = refl }, kind_free x.kind h)
free_node (x ∷ xs) (suc i) h = let f = free_node xs i h in (f.0, record { below = omega (arith, f.1.below); is = f.1.is }, f.2)

-- a node that may be any bytes
pub free_is : (m : Checker) (j : ℕ) → IsTrue (free_at m.nodes.now j) → IsNode m j Free
free_is m j h = let f = free_node m.nodes.now j h in record { node = f.0; at = f.1; kind_is = f.2 }

-- each part of shallow ones is marked
each_marked : (marks : List Bool) (parts : List Part) (k : ℕ) (x : Part) → IsTrue (parts_shallow marks parts) → IsAt parts k x → IsTrue (marked marks x.node)
each_marked marks [] k x h at = absurd (omega (arith, at.below))
each_marked marks (y ∷ ys) zero x h at = rw at.is (and_parts _ _ h).0
each_marked marks (y ∷ ys) (suc k) x h at = each_marked marks ys k x (and_parts _ _ h).1 (record { below = omega (arith, at.below); is = at.is })

-- the parts of each variant of shallow ones are shallow
each_shallow : (marks : List Bool) (parts : List Part) (variants : List Span) (k : ℕ) (x : Span) → IsTrue (variants_shallow marks parts variants) → IsAt variants k x → IsTrue (parts_shallow marks (span parts x.first x.last))
each_shallow marks parts [] k x h at = absurd (omega (arith, at.below))
each_shallow marks parts (y ∷ ys) zero x h at = rw at.is (and_parts _ _ h).0
each_shallow marks parts (y ∷ ys) (suc k) x h at = each_shallow marks parts ys k x (and_parts _ _ h).1 (record { below = omega (arith, at.below); is = at.is })

-- each part is below the rank of all
each_below : (parts : List Part) (k : ℕ) (x : Part) → IsAt parts k x → x.node < rank parts
each_below [] k x at = absurd (omega (arith, at.below))
each_below (y ∷ ys) zero x at = rw at.is (omega arith)
each_below (y ∷ ys) (suc k) x at = omega (arith, each_below ys k x (record { below = omega (arith, at.below); is = at.is }))

-- what a shallow pointer leads to is a text, or may be any bytes
pub pointer_shallow : {m : Checker} {i j : ℕ} {target : PointeeKind} → IsShallow m i → IsNode m i (PointerNode target j) → IsTrue (target_shallow m.nodes.now target j)
pointer_shallow shallow is = let h = shallow is.node is.at in rw is.kind_is at h

pub target_free : (nodes : List Node) (j : ℕ) (target : PointeeKind) → IsTrue (target_shallow nodes target j) → target ≢ Text → IsTrue (free_at nodes j)
target_free nodes j One h other = h
target_free nodes j Run h other = h
target_free nodes j Text h other = absurd (other refl)
target_free nodes j (EntriesOf key) h other = absurd (let no : IsTrue false = h in cc)

pub target_plain : (nodes : List Node) (j : ℕ) (target : PointeeKind) → IsTrue (target_shallow nodes target j) → (key : KeyExpr) → target ≢ EntriesOf key
target_plain nodes j One h key e = cc
target_plain nodes j Run h key e = cc
target_plain nodes j Text h key e = cc
target_plain nodes j (EntriesOf other) h key e = let no : IsTrue false = h in cc

-- the same of a span
pub part_marked : (marks : List Bool) (parts : List Part) (b : ℕ) (n a k : ℕ) (x : Part) → k ≡ a + n → k < b → b ≤ length parts → IsTrue (parts_shallow marks (span parts a b)) → IsAt parts k x → IsTrue (marked marks x.node)
part_marked marks parts b n a k x e lt le h at = each_marked marks (span parts a b) n x h (at_span parts a b n x (omega arith) (rw e at at))

variant_shallow : (marks : List Bool) (parts : List Part) (variants : List Span) (b : ℕ) (n a k : ℕ) (x : Span) → k ≡ a + n → k < b → b ≤ length variants → IsTrue (variants_shallow marks parts (span variants a b)) → IsAt variants k x → IsTrue (parts_shallow marks (span parts x.first x.last))
variant_shallow marks parts variants b n a k x e lt le h at = each_shallow marks parts (span variants a b) n x h (at_span variants a b n x (omega arith) (rw e at at))

pub part_below : (parts : List Part) (b n a k : ℕ) (x : Part) → k ≡ a + n → k < b → b ≤ length parts → IsAt parts k x → x.node < rank (span parts a b)
part_below parts b n a k x e lt le at = each_below (span parts a b) n x (at_span parts a b n x (omega arith) (rw e at at))

-- what a node holds is shallow where the node is
pub record_shallow : {m : Checker} {i a b : ℕ} → IsShallow m i → IsNode m i (Record a b) → IsTrue (parts_shallow m.shallow.now (span m.parts.now a b))
record_shallow shallow is = let h = shallow is.node is.at in rw is.kind_is at h

pub array_shallow : {m : Checker} {i n j : ℕ} → IsShallow m i → IsNode m i (Array n j) → IsTrue (marked m.shallow.now j)
array_shallow shallow is = let h = shallow is.node is.at in rw is.kind_is at h

pub choice_shallow : {m : Checker} {i p a b : ℕ} {name : Bor (List ℕ)} {x : Span} → IsSound m → PartFits m i p → IsShallow m i → IsNode m i (Choice name a b) → IsVariant m a b p x → IsTrue (parts_shallow m.shallow.now (span m.parts.now x.first x.last))
choice_shallow {m = m} {p = p} {a = a} {b = b} {x = x} sound fits shallow is variant =
    let h = shallow is.node is.at in
    let tag = slice_index m.bytes.now p in
    variant_shallow m.shallow.now m.parts.now m.variants.now b tag a (a + tag) x refl variant.0 (node_fits sound is fits).last (rw is.kind_is at h) variant.1

-- what comes of rules

-- nothing changes
pub passed_same : {R : Rule} {x : Stage} → ((pending : List ℕ) (seen : Seen) → R pending x.range.depth x.range.end x.range.start seen (done x.range.start seen)) → Passed R x x
passed_same {R = R} {x = x} runs = record { through = through_same R x.range runs; list = refl; positions = refl }

pub passes_same : {R : Rule} {x : Stage} {u : Unit {0}} {fault : Error} → ((pending : List ℕ) (seen : Seen) → R pending x.range.depth x.range.end x.range.start seen (done x.range.start seen)) → PassesFrom R x x (Some u) fault
passes_same runs = record { some = passed_same runs; none = tt }

-- a refusal
pub passes_refused : {R : Rule} {x y : Stage} {r : Option (Unit {0})} {fault e : Error} → r ≡ None → fault ≡ e → Stops R x.range e → PassesFrom R x y r fault
passes_refused {r = Some u} none is h = absurd (let clash = none in cc)
passes_refused {r = None} none is h = record { some = tt; none = rw is h }

pub passes_stopped : {R : Rule} {x y : Stage} {r : Option (Unit {0})} {fault : Error} → r ≡ None → Stops R x.range fault → PassesFrom R x y r fault
passes_stopped none h = passes_refused none refl h

pub passes_known : {R : Rule} {x y : Stage} {u : Unit {0}} {fault : Error} → Passed R x y → PassesFrom R x y (Some u) fault
passes_known h = record { some = h; none = tt }

-- what comes of one rule comes of another
pub passed_by : {R Q : Rule} {x y : Stage} → Passed R x y → ((pending : List ℕ) (seen : Seen) (o : Outcome) → R pending x.range.depth x.range.end x.range.start seen o → Q pending x.range.depth x.range.end x.range.start seen o) → Passed Q x y
passed_by {y = y} h to = record {
  through = record { end = h.through.end; depth = h.through.depth; runs = λ some pending seen. to pending seen (done y.range.start seen) (h.through.runs some pending seen) };
  list = h.list;
  positions = h.positions;
}

stops_by : (R Q : Rule) (s : RangeState) (e : Error) → Stops R s e → ((pending : List ℕ) (seen : Seen) (o : Outcome) → R pending s.depth s.end s.start seen o → Q pending s.depth s.end s.start seen o) → Stops Q s e
stops_by R Q s e stops to some = let f = stops some in (f.0, f.1, λ pending seen. to pending seen (refused f.0) (f.2 pending seen))

pub passes_by : {R Q : Rule} {x y : Stage} {r : Option (Unit {0})} {fault : Error} → PassesFrom R x y r fault → ((pending : List ℕ) (seen : Seen) (o : Outcome) → R pending x.range.depth x.range.end x.range.start seen o → Q pending x.range.depth x.range.end x.range.start seen o) → PassesFrom Q x y r fault
passes_by {r = Some u} h to = record { some = passed_by h.some to; none = tt }
passes_by {R = R} {Q = Q} {x = x} {r = None} {fault = fault} h to = record { some = tt; none = stops_by R Q x.range fault h.none to }

-- where nothing changed before
pub passes_from : {R : Rule} {x x' y : Stage} {r : Option (Unit {0})} {fault : Error} → x' ≡ x → PassesFrom R x' y r fault → PassesFrom R x y r fault
passes_from same h = rw same at h

pub passes_behind : {R : Rule} {s : RangeState} {met : Positions} {w w' : List Work} {y : Stage} {r : Option (Unit {0})} {fault : Error} → w' ≡ w → PassesFrom R (stage s met w') y r fault → PassesFrom R (stage s met w) y r fault
passes_behind same h = rw same at h

-- a choice: its tag names no variant, or what its variant has is gone through
pub no_variant : {m : Checker} {i p a b : ℕ} {name : Bor (List ℕ)} {x y : Stage} {e : Error} → IsNode m i (Choice name a b) → IsNoVariant m name a b p e → PassesFrom (node_rule m i p) x y None e
no_variant {m = m} {p = p} {name = name} is none = record {
  some = tt;
  none = rw none.1 (λ some. (no_such_variant name.now (slice_index m.bytes.now p), (name, refl, refl), λ pending seen. run_tag is none.0));
}

pub variant_passed : {m : Checker} {i p a b : ℕ} {name : Bor (List ℕ)} {q : Span} {x y : Stage} {r : Option (Unit {0})} {fault : Error} → IsNode m i (Choice name a b) → IsVariant m a b p q → PassesFrom (span_rule m q p) x y r fault → PassesFrom (node_rule m i p) x y r fault
variant_passed is variant h = passes_by h (λ pending seen o v. run_choice is variant.0 variant.1 v)

-- a test: what it knows, what it leaves, and what is refused
pub test_known : {R : Rule} {Other : Type 0} {x y : Stage} {fault : Error} → Passed R x y → TestsFrom R Other x y (Some true) fault
test_known h = record { known = λ yes. h; other = λ no. cc; none = tt }

pub test_other : {R : Rule} {Other : Type 0} {x y : Stage} {fault : Error} → Other → y ≡ x → TestsFrom R Other x y (Some false) fault
test_other h same = record { known = λ yes. absurd (let no : IsTrue false = yes in cc); other = λ no. (h, same); none = tt }

pub test_refused : {R : Rule} {Other : Type 0} {x y : Stage} {r : Option Bool} {fault e : Error} → r ≡ None → fault ≡ e → Stops R x.range e → TestsFrom R Other x y r fault
test_refused {r = Some u} none is h = absurd (let clash = none in cc)
test_refused {r = None} none is h = record { known = tt; other = tt; none = rw is h }

-- what it looks at is refused
pub test_stopped : {R : Rule} {Other : Type 0} {x y : Stage} {r : Option Bool} {fault : Error} → r ≡ None → Stops R x.range fault → TestsFrom R Other x y r fault
test_stopped none h = test_refused none refl h

-- likewise by a rule of which it comes
pub test_fails : {R Q : Rule} {Other : Type 0} {x y : Stage} {fault : Error} → PassesFrom R x y None fault → ((pending : List ℕ) (seen : Seen) (o : Outcome) → R pending x.range.depth x.range.end x.range.start seen o → Q pending x.range.depth x.range.end x.range.start seen o) → TestsFrom Q Other x y None fault
test_fails {R = R} {Q = Q} {x = x} {fault = fault} h to = record { known = tt; other = tt; none = stops_by R Q x.range fault h.none to }

test_by : {R Q : Rule} {Other : Type 0} {x y : Stage} {r : Option Bool} {fault : Error} → TestsFrom R Other x y r fault → ((y : Stage) → Passed R x y → Passed Q x y) → (Stops R x.range fault → Stops Q x.range fault) → TestsFrom Q Other x y r fault
test_by {y = y} {r = Some b} h passed stopped = record { known = λ yes. passed y (h.known yes); other = h.other; none = tt }
test_by {r = None} h passed stopped = record { known = tt; other = tt; none = stopped h.none }

-- a rule comes to whatever another one comes to

pub towards_same : {R : Rule} {x : Stage} → Towards R R x x
towards_same = record { end = refl; depth = λ some. refl; leads = λ some pending seen o q. q; list = refl; positions = refl }

pub towards_then : {R Q N Q2 : Rule} {x y z : Stage} → Towards R Q x y → Passed N y z → ((pending : List ℕ) (seen : Seen) (o : Outcome) → N pending x.range.depth x.range.end y.range.start seen (done z.range.start seen) → Q2 pending x.range.depth x.range.end z.range.start seen o → Q pending x.range.depth x.range.end y.range.start seen o) → Towards R Q2 x z
towards_then {x = x} {y = y} towards passed to =
    let within : HasLevels x.range.depth → HasLevels y.range.depth = λ some. rw (towards.depth some) some in
    record {
      end = passed.through.end ∙ towards.end;
      depth = λ some. passed.through.depth (within some) ∙ towards.depth some;
      leads = λ some pending seen o q. towards.leads some pending seen o (to pending seen o (rw (towards.depth some, towards.end) at (passed.through.runs (within some) pending seen)) q);
      list = passed.list ∙ towards.list;
      positions = passed.positions ∙ towards.positions;
    }

pub towards_stops : {R Q : Rule} {x y : Stage} (N : Rule) (e : Error) → Towards R Q x y → Stops N y.range e → ((pending : List ℕ) (seen : Seen) (f : Fault) → N pending x.range.depth x.range.end y.range.start seen (refused f) → Q pending x.range.depth x.range.end y.range.start seen (refused f)) → Stops R x.range e
towards_stops N e towards stops to some =
    let f = stops (rw (towards.depth some) some) in
    (f.0, f.1, λ pending seen. towards.leads some pending seen (refused f.0) (to pending seen f.0 (rw (towards.depth some, towards.end) at (f.2 pending seen))))

-- nothing is left of the other one
pub towards_end : {R Q : Rule} {x y : Stage} → Towards R Q x y → ((pending : List ℕ) (seen : Seen) → Q pending x.range.depth x.range.end y.range.start seen (done y.range.start seen)) → Passed R x y
towards_end {y = y} towards over = record {
  through = record { end = towards.end; depth = towards.depth; runs = λ some pending seen. towards.leads some pending seen (done y.range.start seen) (over pending seen) };
  list = towards.list;
  positions = towards.positions;
}

-- the node that is checked at once is taken off the list
pub once_turns : {m : Checker} {x y : Stage} {i p : ℕ} {r : Option (Unit {0})} {fault : Error} → PassesFrom (node_rule m i p) x y r fault → Ready m x.range (PartWork i p ∷ x.work)
    → TurnsFrom m (Listing m) (cost m x.range.end (PartWork i p ∷ x.work)) (stage x.range x.met (PartWork i p ∷ x.work)) y r fault
once_turns {m = m} {x = x} {y = y} {i = i} {p = p} {r = Some u} h ready =
    let through = h.some.through in
    record {
      some = record {
        ready = rw (through.end, h.some.list) (record { below = ready.below; fits = ready.fits.1 });
        leads = record {
          keeps = λ k. let back = through.depth (orderly_levels k) in rw (back, h.some.positions, h.some.list) k;
          leads = λ seen a.
              let some = levels_of a in
              let back = through.depth some in (
                seen,
                rw (back, h.some.positions, h.some.list) a,
                λ o q. list_part (through.runs some (pending_in x.work) seen) (rw (back, through.end, h.some.list) at q),
              );
        };
        ends = rw (through.end, h.some.list) (falls_none _ _);
      };
      none = tt;
    }
once_turns {x = x} {i = i} {p = p} {r = None} h ready = record {
  some = tt;
  none = inr (λ k. let f = h.none (orderly_levels k) in (f.0, f.1, λ seen a. list_part_stop (f.2 (pending_in x.work) seen)));
}

-- the parts of a node lie in the bytes where it does, and so do its elements
pub parts_here : {m : Checker} {i p z a b : ℕ} → SpanFits m i z a b → p + z ≤ length m.bytes.now → PartsFit m a b p
parts_here {m = m} {i = i} {p = p} {z = z} {a = a} {b = b} fits room = record { last = fits.last; few = fits.few; here = here_from m i p z (span m.parts.now a b) fits.within room }

pub elements_here : {m : Checker} {i p z n j : ℕ} → ArrayFits m i z n j → p + z ≤ length m.bytes.now → ElementsFit m j n p
elements_here fits room = record { size = fits.element; few = fits.few; takes = fits.takes; fits = omega (arith, fits.within, room) }

-- elements that are legal as they lie are gone through
module _ (m : Checker) (j z : ℕ) (takes : Takes m j z) where
  elements_pass : (c n p : ℕ) {pending : List ℕ} {depth : Option ℕ} {stop start : ℕ} {seen : Seen} {o : Outcome} → c ≤ n → ((k : ℕ) → k < c → IsLegalHere m j (p + k * z)) → ElementsRun m pending depth stop j (n - c) (p + c * z) start seen o → ElementsRun m pending depth stop j n p start seen o
  elements_pass zero n p le stays r = let same : n - 0 ≡ n = omega arith in let there : p + 0 * z ≡ p = omega arith in rw (same, there) at r
  elements_pass (suc c) n p {pending = pending} {depth = depth} {stop = stop} {start = start} {seen = seen} le stays r =
      let here : p + 0 * z ≡ p = omega arith in
      let first : IsLegalHere m j p = rw here at (stays 0 (omega arith)) in
      let count : n - suc c ≡ n - 1 - c = omega arith in
      let there : p + suc c * z ≡ p + z + c * z = omega arith in
      elements_next (omega arith) takes (first pending depth stop start seen)
      (elements_pass c (n - 1) (p + z) (omega arith) (λ k lt. let there : p + (k + 1) * z ≡ p + z + k * z = omega arith in rw there at (stays (k + 1) (omega arith))) (rw (count, there) at r))

  pub towards_passed : {x : Stage} {n p c : ℕ} → c ≤ n → ((k : ℕ) → k < c → IsLegalHere m j (p + k * z)) → Towards (elements_rule m j n p) (elements_rule m j (n - c) (p + c * z)) x x
  towards_passed {n = n} {p = p} {c = c} le stays = record { end = refl; depth = λ some. refl; leads = λ some pending seen o q. elements_pass c n p le stays q; list = refl; positions = refl }

  -- one element more
  pub towards_element : {x y w : Stage} {n p k : ℕ} → k < n → Towards (elements_rule m j n p) (elements_rule m j (n - k) (p + k * z)) x y → Passed (node_rule m j (p + k * z)) y w → Towards (elements_rule m j n p) (elements_rule m j (n - (k + 1)) (p + (k + 1) * z)) x w
  towards_element {n = n} {p = p} {k = k} lt towards passed =
      let count : n - (k + 1) ≡ n - k - 1 = omega arith in
      let there : p + (k + 1) * z ≡ p + k * z + z = omega arith in
      towards_then {Q2 = elements_rule m j (n - (k + 1)) (p + (k + 1) * z)} towards passed (λ pending seen o v q. elements_next (omega arith) takes v (rw (count, there) at q))

-- the next element is refused
pub element_stops : {m : Checker} {j n p k : ℕ} {x y w : Stage} {e : Error} (z : ℕ) → k < n → Towards (elements_rule m j n p) (elements_rule m j (n - k) (p + k * z)) x y → PassesFrom (node_rule m j (p + k * z)) y w None e → PassesFrom (elements_rule m j n p) x w None e
element_stops {m = m} {j = j} {n = n} {p = p} {k = k} {e = e} z lt towards h =
    record { some = tt; none = towards_stops (node_rule m j (p + k * z)) e towards h.none (λ pending seen f r. elements_stop (omega arith) r) }

pub elements_over : {m : Checker} {j n p k : ℕ} {x y : Stage} {u : Unit {0}} {fault : Error} (z : ℕ) → n ≤ k → Towards (elements_rule m j n p) (elements_rule m j (n - k) (p + k * z)) x y → PassesFrom (elements_rule m j n p) x y (Some u) fault
elements_over z ge towards = record { some = towards_end towards (λ pending seen. elements_end (omega arith)); none = tt }

-- one part more
pub towards_part : {m : Checker} {a b p k : ℕ} {q : Part} {x y w : Stage} → k < b → IsAt m.parts.now k q → Towards (parts_rule m a b p) (parts_rule m k b p) x y → Passed (node_rule m q.node (p + q.offset)) y w → Towards (parts_rule m a b p) (parts_rule m (k + 1) b p) x w
towards_part {m = m} {b = b} {p = p} {k = k} lt at towards passed = towards_then {Q2 = parts_rule m (k + 1) b p} towards passed (λ pending seen o v r. parts_next lt at v r)

-- the next part is refused
pub part_stops : {m : Checker} {a b p k : ℕ} {q : Part} {x y w : Stage} {e : Error} → k < b → IsAt m.parts.now k q → Towards (parts_rule m a b p) (parts_rule m k b p) x y → PassesFrom (node_rule m q.node (p + q.offset)) y w None e → PassesFrom (parts_rule m a b p) x w None e
part_stops {m = m} {p = p} {q = q} {e = e} lt at towards h = record { some = tt; none = towards_stops (node_rule m q.node (p + q.offset)) e towards h.none (λ pending seen f r. parts_stop lt at r) }

pub parts_over : {m : Checker} {a b p k : ℕ} {x y : Stage} {u : Unit {0}} {fault : Error} → b ≤ k → Towards (parts_rule m a b p) (parts_rule m k b p) x y → PassesFrom (parts_rule m a b p) x y (Some u) fault
parts_over ge towards = record { some = towards_end towards (λ pending seen. parts_end ge); none = tt }

-- a part that stands alone
pub alone : {m : Checker} {a b p : ℕ} {q : Part} {x y : Stage} {r : Option Bool} {fault : Error} → b - a ≡ 1 → IsAt m.parts.now a q → TestsFrom (node_rule m q.node (p + q.offset)) (Unit {0}) x y r fault → TestsFrom (parts_rule m a b p) (Unit {0}) x y r fault
alone {m = m} {a = a} {b = b} {p = p} {q = q} {x = x} {fault = fault} one at h =
    let lt : a < b = omega arith in
    test_by h (λ y passed. towards_end (towards_part {m = m} {a = a} {b = b} {p = p} {k = a} {q = q} {x = x} {y = x} {w = y} lt at towards_same passed) (λ pending seen. parts_end (omega arith)))
    (λ stops. towards_stops {R = parts_rule m a b p} {Q = parts_rule m a b p} {x = x} {y = x} (node_rule m q.node (p + q.offset)) fault towards_same stops (λ pending seen f r. parts_stop lt at r))

-- what a region holds lies in it
module _ (m : Checker) {target : PointeeKind} (j n z p align : ℕ) (is : is_node_itself target ≡ true) (region : RegionIs m target j n (Some z) align) (lt : 0 < z) (room : p + z ≤ length m.bytes.now) where
  pub region_part : n ≡ 1 → PartFits m j p
  region_part one =
      let k = node_takes is region lt in
      let same : n * k.0 ≡ k.0 = (ap (λ q. q * k.0) one ∙ omega arith) in
      record { size = k.0; takes = k.1; fits = omega (arith, k.2, same) }

  pub region_elements : n < 18446744073709551616 → ElementsFit m j n p
  region_elements few =
      let k = node_takes is region lt in
      record { size = k.0; few = few; takes = k.1; fits = omega (arith, k.2) }

pub region_entries : (m : Checker) {key : KeyExpr} (j n z p align : ℕ) → RegionIs m (EntriesOf key) j n (Some z) align → 0 < z → p + z ≤ length m.bytes.now → n < 18446744073709551616 → EntriesFit m key j n p false
region_entries m j n z p align region lt room few =
    let (offset, size, takes, is) = entry_takes region lt in
    record { offset = offset; size = size; few = few; takes = takes; fits = omega (arith, is, room); first = λ none. cc }

pub mark_is : (marks : List Bool) (i : ℕ) (d : Bool) → i < length marks → slice_index_or marks i d ≡ true → IsTrue (marked marks i)
mark_is marks i d below e = same_at (at_default marks i false below) (at_default marks i d below) ∙ e
