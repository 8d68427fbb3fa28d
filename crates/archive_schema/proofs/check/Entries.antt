-- What the calls that enter a region answer, one lemma an exit.
use Rattle.std.proofs.Common.{◌≡◌, ◌≢◌, inl, inr, ℕ, ℤ, ap, ◌∙◌, ◌+◌, ◌<◌, ◌≤◌, arith, List, ◌∷◌, length, false, slice_index_or, Option, Some, None, Ok, Err, OnSome, IfSome, IfNone, to_z, of_z, SFits}
use mir.Syntax.{w128}
use Rattle.std.proofs.lemmas.Int.{to_z-of_z}
use Rattle.archive_check.specs.declared.format.error.Error.{Error}
use Rattle.archive_check.specs.declared.format.expr.Key.{Key as KeyExpr}
use Rattle.archive_check.specs.declared.format.error.Error.TheVariants.{OutOfMemory}
use Rattle.archive_schema.specs.declared.plan.PointeeKind.{PointeeKind}
use Rattle.archive_schema.specs.declared.plan.PointeeKind.TheVariants.{One, Run, Text, Entries as EntriesOf}
use Rattle.archive_schema.specs.declared.plan.NodeKind.TheVariants.{Free}
use Rattle.archive_schema.specs.declared.plan.Node.{Node}
use Rattle.archive_schema.specs.declared.check.Checker.{Checker}
use Rattle.archive_check.specs.declared.context.range.Region.{Region}
use Rattle.archive_schema.specs.declared.check.worklist.Work.{Work}
use Rattle.archive_schema.specs.declared.check.worklist.Work.TheVariants.{Part as PartWork, Elements, Entries}
use Rattle.archive_check.specs.context.Ranges.{RangeState, pop_answer, popped}
use Rattle.archive_check.specs.context.EnteredRegions.{NotEntered, not_sized, not_within, not_aligned, not_allowed, Enters, EntersNot}
use Rattle.archive_check.specs.Tour.{Seen}
use Rattle.archive_check.specs.Trail.{Fault}
use Rattle.archive_check.specs.Outcomes.{refused}
use Rattle.archive_check.specs.Words.BoundedSizes.{times}
use Rattle.archive_schema.specs.check.Runs.{RegionIs, unit_size, unit_align, EnterRuns, enter_too_large, enter_outside, enter_unaligned, enter_too_deep}
use Rattle.archive_schema.specs.check.LoopInvariant.{Stage, stage, PointeeFits, Ready, RegionIsLegalHere}
use Rattle.archive_schema.specs.check.Through.{Stops, Passed, PassesFrom, TestsFrom, region_rule, contents_rule}
use Rattle.archive_schema.specs.check.Lists.{left_first}
use Rattle.archive_schema.specs.check.Entered.{Entered, EntersFrom, LeavesFrom}
use Rattle.archive_schema.specs.check.Turns.{ComesInto}
use Rattle.archive_schema.proofs.check.EnteredRegions.{passes_free, region_through, region_left, region_stops, region_leads, entered_one, entered_run, entered_entries, entered_entries_ready, entered_entries_ends, entered_one_ready, entered_run_ready, entered_one_ends, entered_run_ends}

-- a position that was read
pub read_at : {q z : ℤ} → SFits w128 q → q ≡ z → to_z w128 (of_z w128 q) ≡ z
read_at {q = q} fits is = to_z-of_z w128 q fits ∙ is

-- the region of so many of a node
pub region_is : (m : Checker) {target : PointeeKind} {j n : ℕ} {x : Node} {size : Option ℕ} → j < length m.nodes.now → x ≡ slice_index_or m.nodes.now j x → times (unit_size target (slice_index_or m.nodes.now j x)) n ≡ size → RegionIs m target j n size (unit_align target (slice_index_or m.nodes.now j x))
region_is m {target = target} {n = n} {x = x} known is size = record { node = x; at = record { below = known; is = is }; size_is = ap (λ q. times (unit_size target q) n) is ∙ size; align_is = ap (λ q. unit_align target q) is }

-- what keeps a region from being entered is what the plan's rule is refused with
not_entered : {m : Checker} {target : PointeeKind} {j n align : ℕ} {size : Option ℕ} {s : RangeState} {z : ℤ} {f : Fault} (pending : List ℕ) (seen : Seen)
    → RegionIs m target j n size align → NotEntered s z align size f → EnterRuns m pending s.depth s.end target j n z s.start seen (refused f)
not_entered pending seen region not_sized = enter_too_large region
not_entered pending seen region (not_within out) = enter_outside region out
not_entered pending seen region (not_aligned is above below not) = enter_unaligned region is above below not
not_entered pending seen region (not_allowed at not) = enter_too_deep region at.target at.above at.below at.aligned not

-- a region of this size and alignment is entered, or not, where it is that of so many of a node
pub enters_so : {m : Checker} {target : PointeeKind} {j n align : ℕ} {size : Option ℕ} {z : ℤ} {x y : Stage} (r : Option Region) {fault : Error} → RegionIs m target j n size align
    → IfSome r (λ q. Enters x.range y.range z align size q) → IfNone r (EntersNot x.range z align size fault) → OnSome r (y.met ≡ x.met) → y.work ≡ x.work
    → EntersFrom m target j n z x y r fault
enters_so {align = align} (Some q) region some none met work = record {
  entered = record {
    align = align;
    region = record { node = region.node; at = region.at; size_is = region.size_is ∙ some.0; align_is = region.align_is };
    lands = some.1.lands;
    start = some.1.start;
    end = some.1.end;
    depth = some.1.depth;
    deep = some.1.deep;
    outer_start = some.1.outer_start;
    outer_end = some.1.outer_end;
  };
  list = work;
  positions = met;
  none = tt;
}
enters_so None region some none met work = record {
  entered = tt;
  list = tt;
  positions = tt;
  none = λ levels. let f = none levels in (f.0, f.1, λ pending seen. not_entered pending seen region f.2);
}

-- the range is given back, or isn't
pub leaves_so : {start end : ℕ} {x y : Stage} (r : Option (Unit {0})) {fault : Error} → OnSome r (pop_answer x.range start ≡ Ok tt)
    → OnSome r (y.range ≡ popped x.range start end) → IfNone r (pop_answer x.range start ≡ Err fault) → OnSome r (y.met ≡ x.met) → y.work ≡ x.work
    → LeavesFrom start end x y r fault
leaves_so (Some u) taken left none met work = record { range = left; taken = taken; list = work; positions = met; none = tt }
leaves_so None taken left none met work = record { range = tt; taken = tt; list = tt; positions = tt; none = none }

-- what a region holds that may be any bytes
pub free_region : {m : Checker} {target : PointeeKind} {j n size align t : ℕ} {x : Node} → PointeeFits m target j n → x ≡ slice_index_or m.nodes.now j x → (slice_index_or m.nodes.now j x).kind ≡ Free → target ≢ Text → ((key : KeyExpr) → target ≢ EntriesOf key) → RegionIs m target j n (Some size) align → t + size ≤ length m.bytes.now → RegionIsLegalHere m target j n size t
free_region {m = m} {target = target} {j = j} {n = n} {size = size} {align = align} {t = t} {x = x} fits is free other plain region room =
    passes_free m j n size t target align other fits.one plain region (record { node = x; at = record { below = fits.known; is = is }; kind_is = ap (λ q. q.kind) is ∙ free }) room

-- a region is gone through

pub region_shut : {m : Checker} {target : PointeeKind} {j n : ℕ} {z : ℤ} {x y : Stage} {fault : Error} → EntersFrom m target j n z x y None fault → PassesFrom (region_rule m target j n z) x y None fault
region_shut h = record { some = tt; none = h.none }

pub region_refused : {m : Checker} {target : PointeeKind} {j n : ℕ} {z : ℤ} {x x1 y : Stage} {r : Region} {e fault fault' : Error} {result : Option (Unit {0})}
    → EntersFrom m target j n z x x1 (Some r) e → result ≡ None → fault ≡ fault' → Stops (contents_rule m target j n r.size r.begin) x1.range fault' → PassesFrom (region_rule m target j n z) x y result fault
region_refused {result = Some u} h none is stops = absurd (let clash = none in cc)
region_refused {m = m} {target = target} {j = j} {n = n} {z = z} {x = x} {x1 = x1} {r = r} {fault' = fault'} {result = None} h none is stops =
    record { some = tt; none = rw is (region_stops m target j n z x.range x1.range r h.entered fault' stops) }

pub region_passes : {m : Checker} {target : PointeeKind} {j n : ℕ} {z : ℤ} {x x1 x2 y : Stage} {r : Region} {e fault : Error} {result : Option (Unit {0})}
    → EntersFrom m target j n z x x1 (Some r) e → Passed (contents_rule m target j n r.size r.begin) x1 x2 → LeavesFrom r.outer_start r.outer_end x2 y result fault → PassesFrom (region_rule m target j n z) x y result fault
region_passes {m = m} {target = target} {j = j} {n = n} {z = z} {x = x} {x1 = x1} {x2 = x2} {y = y} {r = r} {result = Some u} h contents left = record {
  some = record {
    through = region_through m target j n z x.range x1.range r h.entered x2.range y.range contents.through left.range;
    list = left.list ∙ contents.list ∙ h.list;
    positions = left.positions ∙ contents.positions ∙ h.positions;
  };
  none = tt;
}
region_passes {m = m} {target = target} {j = j} {n = n} {z = z} {x = x} {x1 = x1} {x2 = x2} {r = r} {fault = fault} {result = None} h contents left =
    record { some = tt; none = region_left m target j n z x.range x1.range r h.entered x2.range fault contents.through left.none }

-- a region is come into

pub kept_out : {m : Checker} {target : PointeeKind} {j n : ℕ} {z : ℤ} {x y : Stage} {fault : Error} → EntersFrom m target j n z x y None fault → ComesInto m target j n z x y None fault
kept_out h = record { some = tt; inside = tt; none = inr h.none }

pub contents_refused : {m : Checker} {target : PointeeKind} {j n : ℕ} {z : ℤ} {Other : Type 0} {x x1 y : Stage} {r : Region} {e fault : Error}
    → EntersFrom m target j n z x x1 (Some r) e → TestsFrom (contents_rule m target j n r.size r.begin) Other x1 y None fault → ComesInto m target j n z x y None fault
contents_refused {m = m} {target = target} {j = j} {n = n} {z = z} {x = x} {x1 = x1} {r = r} {fault = fault} h t =
    record { some = tt; inside = tt; none = inr (region_stops m target j n z x.range x1.range r h.entered fault t.none) }

-- what the region holds was gone through, and it is left at once
pub passed_at_once : {m : Checker} {target : PointeeKind} {j n : ℕ} {z : ℤ} {x x1 x2 y : Stage} {r : Region} {e fault : Error} {result : Option (Unit {0})}
    → EntersFrom m target j n z x x1 (Some r) e → Ready m x.range x.work → r.begin < 18446744073709551616 → Passed (contents_rule m target j n r.size r.begin) x1 x2 → LeavesFrom r.outer_start r.outer_end x2 y result fault → ComesInto m target j n z x y result fault
passed_at_once {m = m} {target = target} {j = j} {n = n} {z = z} {x = x} {y = y} {r = r} {result = Some u} h ready small contents left =
    let passed = (region_passes h contents left).some in
    record {
      some = record {
        ready = rw (passed.through.end, passed.list) (record { below = ready.below; fits = ready.fits });
        leads = rw passed.list (region_leads m target j n z x.range y.range x.met y.met x.work passed.through passed.positions);
        ends = rw (passed.through.end, passed.list) (omega arith);
      };
      inside = (r.begin, h.entered.lands.target, small);
      none = tt;
    }
passed_at_once {result = None} h ready small contents left = record { some = tt; inside = tt; none = inr (region_passes h contents left).none }

pub no_room_there : {m : Checker} {target : PointeeKind} {j n : ℕ} {z : ℤ} {x y : Stage} {fault : Error} → fault ≡ OutOfMemory → ComesInto m target j n z x y None fault
no_room_there is = record { some = tt; inside = tt; none = inl is }

module _ {m : Checker} {target : PointeeKind} {j n : ℕ} {z : ℤ} {x x1 x2 : Stage} {r : Region} {e : Error} (h : EntersFrom m target j n z x x1 (Some r) e) (ready : Ready m x.range x.work) (small : r.begin < 18446744073709551616) (same : x2 ≡ x1) (lt : 0 < r.size) (mid new : List Work) (list : mid ≡ left_first r.outer_start r.outer_end x2.work) where
  within : Entered m target j n z x.range x2.range r
  within = let range = ap (λ q. q.range) same in rw range h.entered

  behind : mid ≡ left_first r.outer_start r.outer_end x.work
  behind = list ∙ ap (left_first r.outer_start r.outer_end) (ap (λ q. q.work) same ∙ h.list)

  unmet : x2.met ≡ x.met
  unmet = ap (λ q. q.met) same ∙ h.positions

  pub comes_into_one : {result : Option (Unit {0})} {fault : Error} → target ≡ One → PointeeFits m target j n → OnSome result (new ≡ PartWork j r.begin ∷ mid) → IfNone result (fault ≡ OutOfMemory) → ComesInto m target j n z x (stage x2.range x2.met new) result fault
  comes_into_one {result = Some u} is fits some none = record {
    some = record {
      ready = entered_one_ready m j n z x.range x2.range x.met x2.met x.work mid r within unmet lt behind new is ready (fits.one is) some;
      leads = entered_one m j n z x.range x2.range x.met x2.met x.work mid r within unmet lt behind new is some;
      ends = omega (arith, entered_one_ends m j n z x.range x2.range x.met x2.met x.work mid r within unmet lt behind new fits.known some);
    };
    inside = (r.begin, within.lands.target, small);
    none = tt;
  }
  comes_into_one {result = None} is fits some none = no_room_there none

  pub comes_into_run : {result : Option (Unit {0})} {fault : Error} → target ≡ Run → PointeeFits m target j n → OnSome result (new ≡ Elements j n r.begin ∷ mid) → IfNone result (fault ≡ OutOfMemory) → ComesInto m target j n z x (stage x2.range x2.met new) result fault
  comes_into_run {result = Some u} is fits some none = record {
    some = record {
      ready = entered_run_ready m j n z x.range x2.range x.met x2.met x.work mid r within unmet lt behind new is ready fits.few some;
      leads = entered_run m j n z x.range x2.range x.met x2.met x.work mid r within unmet lt behind new is some;
      ends = omega (arith, entered_run_ends m j n z x.range x2.range x.met x2.met x.work mid r within unmet lt behind new fits.known fits.few some);
    };
    inside = (r.begin, within.lands.target, small);
    none = tt;
  }
  comes_into_run {result = None} is fits some none = no_room_there none

  pub comes_into_entries : {result : Option (Unit {0})} {fault : Error} {key : KeyExpr} → target ≡ EntriesOf key → PointeeFits m target j n → OnSome result (new ≡ Entries key j n r.begin false ∷ mid) → IfNone result (fault ≡ OutOfMemory) → ComesInto m target j n z x (stage x2.range x2.met new) result fault
  comes_into_entries {result = Some u} is fits some none = record {
    some = record {
      ready = entered_entries_ready m j n z x.range x2.range x.met x2.met x.work mid r within unmet lt behind new is some ready fits.few;
      leads = entered_entries m j n z x.range x2.range x.met x2.met x.work mid r within unmet lt behind new is some;
      ends = omega (arith, entered_entries_ends m j n z x.range x2.range x.met x2.met x.work mid r within unmet lt behind new is some fits.known fits.few);
    };
    inside = (r.begin, within.lands.target, small);
    none = tt;
  }
  comes_into_entries {result = None} is fits some none = no_room_there none
