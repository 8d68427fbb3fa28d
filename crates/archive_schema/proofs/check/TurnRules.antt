-- Each turn of a check's loop is a rule of the run over the plan.
use Rattle.std.proofs.Common.{◌≡◌, ◌≢◌, ℕ, ℤ, pos, ◌+ℤ◌, refl, sym, ap, ◌∙◌, add-one, ◌+◌, ◌-◌, ◌*◌, ◌%◌, ◌<◌, ◌≤◌, arith, List, [], ◌∷◌, length, Bool, true, false, Option, Some, None, slice_index, Bor}
use Rattle.std.specs.FinMap.{get, insert}
use Rattle.archive_check.specs.declared.format.expr.Key.{Key as KeyExpr}
use Rattle.archive_schema.specs.declared.plan.PointeeKind.{PointeeKind}
use Rattle.archive_schema.specs.declared.plan.PointeeKind.TheVariants.{One, Run, Entries as EntriesOf}
use Rattle.archive_schema.specs.declared.plan.NodeKind.TheVariants.{Free, Record, Choice, Array, Pointer as PointerNode, Shared, Weak}
use Rattle.archive_schema.specs.declared.plan.Part.{Part}
use Rattle.archive_schema.specs.declared.plan.Span.{Span}
use Rattle.archive_check.specs.declared.context.positions.SharedType.{SharedType}
use Rattle.archive_schema.specs.declared.check.Checker.{Checker}
use Rattle.archive_schema.specs.declared.check.worklist.Work.{Work}
use Rattle.archive_schema.specs.declared.check.worklist.Work.TheVariants.{Part as PartWork, Parts, Elements, Entries, Leave, Finish}
use Rattle.archive_check.specs.Depth.{Allows, inside}
use Rattle.archive_check.specs.Reads.{i32_at}
use Rattle.archive_check.specs.Tour.{Seen}
use Rattle.archive_check.specs.Outcomes.{Outcome, done, refused}
use Rattle.archive_check.specs.Trail.{Fault}
use Rattle.archive_check.specs.Words.Elements.{IsAt}
use Rattle.archive_schema.specs.check.Lists.{left_first}
use Rattle.archive_schema.specs.check.Runs.{deeper, IsNode, Takes, EntryTakes, before_at, RegionIs, OrderRuns, EntriesRun, pointee_count, pointee_length, entry_for, run_record, run_choice, run_array, run_pointer, run_shared, run_weak, FollowRuns, follow_new, parts_end, parts_next, parts_stop, elements_end, elements_next, elements_free, elements_stop, entries_end, entries_key, entries_value, entries_next, EnterRuns, enter_within, enter_stop, contents_one, contents_run, contents_entries, ListRuns, list_end, list_part, list_part_stop, list_parts, list_parts_stop, list_elements, list_elements_stop, list_entries, list_entries_stop, list_leave, list_finish}
use Rattle.archive_schema.specs.check.LoopInvariant.{Then, and_then, stops}
use Rattle.archive_schema.proofs.plan.PlanSizes.{entry_sizes}

-- one level of depth is got back
pub inside_same : (d outer : Option ℕ) → Allows d 1 → inside d ≡ inside outer → outer ≡ d
inside_same None None h e = refl
inside_same None (Some n) h e = cc
inside_same (Some n) None h e = cc
inside_same (Some n) (Some k) h e = let same : n - 1 ≡ k - 1 = cc in let less : n ≡ k = omega arith in ap Some (sym less)

module _ (m : Checker) where
  pub turn_record : {pd : List ℕ} {d : Option ℕ} {e i p a b s : ℕ} {k : Seen} {o : Outcome} {w : List Work} → IsNode m i (Record a b) → ListRuns m pd d e (Parts a b p ∷ w) s k o → ListRuns m pd d e (PartWork i p ∷ w) s k o
  turn_record h (list_parts v r) = list_part (run_record h v) r
  turn_record h (list_parts_stop v) = list_part_stop (run_record h v)

  pub turn_choice : {pd : List ℕ} {d : Option ℕ} {e i p a b s : ℕ} {k : Seen} {o : Outcome} {w : List Work} {name : Bor (List ℕ)} {x : Span} → IsNode m i (Choice name a b) → a + slice_index m.bytes.now p < b → IsAt m.variants.now (a + slice_index m.bytes.now p) x → ListRuns m pd d e (Parts x.first x.last p ∷ w) s k o → ListRuns m pd d e (PartWork i p ∷ w) s k o
  turn_choice h lt at (list_parts v r) = list_part (run_choice h lt at v) r
  turn_choice h lt at (list_parts_stop v) = list_part_stop (run_choice h lt at v)

  pub turn_array : {pd : List ℕ} {d : Option ℕ} {e i p n j s : ℕ} {k : Seen} {o : Outcome} {w : List Work} → IsNode m i (Array n j) → ListRuns m pd d e (Elements j n p ∷ w) s k o → ListRuns m pd d e (PartWork i p ∷ w) s k o
  turn_array h (list_elements v r) = list_part (run_array h v) r
  turn_array h (list_elements_stop v) = list_part_stop (run_array h v)

  pub turn_pointer : {pd : List ℕ} {d : Option ℕ} {e i p j s : ℕ} {k : Seen} {o : Outcome} {w : List Work} {target : PointeeKind} → IsNode m i (PointerNode target j) → Then m pd d e (EnterRuns m pd d e target j (pointee_count m.bytes.now p target) (pos p +ℤ i32_at m.bytes.now p) s k) w o → ListRuns m pd d e (PartWork i p ∷ w) s k o
  turn_pointer h (and_then v r) = list_part (run_pointer h v) r
  turn_pointer h (stops v) = list_part_stop (run_pointer h v)

  pub turn_shared : {pd : List ℕ} {d : Option ℕ} {e i p c j s : ℕ} {k : Seen} {o : Outcome} {w : List Work} {target : PointeeKind} → IsNode m i (Shared c target j) → Then m pd d e (FollowRuns m pd d e c target j (pointee_count m.bytes.now p target) (pointee_length m.bytes.now p target) (pos p +ℤ i32_at m.bytes.now p) s k) w o → ListRuns m pd d e (PartWork i p ∷ w) s k o
  turn_shared h (and_then v r) = list_part (run_shared h v) r
  turn_shared h (stops v) = list_part_stop (run_shared h v)

  pub turn_weak : {pd : List ℕ} {d : Option ℕ} {e i p c j s : ℕ} {k : Seen} {o : Outcome} {w : List Work} {target : PointeeKind} → IsNode m i (Weak c target j) → i32_at m.bytes.now p ≢ pos 1 → Then m pd d e (FollowRuns m pd d e c target j (pointee_count m.bytes.now p target) (pointee_length m.bytes.now p target) (pos p +ℤ i32_at m.bytes.now p) s k) w o → ListRuns m pd d e (PartWork i p ∷ w) s k o
  turn_weak h other (and_then v r) = list_part (run_weak h other v) r
  turn_weak h other (stops v) = list_part_stop (run_weak h other v)

  pub turn_parts : {pd : List ℕ} {d : Option ℕ} {e a b p s : ℕ} {k : Seen} {o : Outcome} {w : List Work} {x : Part} → a < b → IsAt m.parts.now a x → ListRuns m pd d e (PartWork x.node (p + x.offset) ∷ Parts (a + 1) b p ∷ w) s k o → ListRuns m pd d e (Parts a b p ∷ w) s k o
  turn_parts lt at (list_part v (list_parts vs r)) = list_parts (parts_next lt at v vs) r
  turn_parts lt at (list_part v (list_parts_stop vs)) = list_parts_stop (parts_next lt at v vs)
  turn_parts lt at (list_part_stop v) = list_parts_stop (parts_stop lt at v)

  pub turn_elements : {pd : List ℕ} {d : Option ℕ} {e j n z p s : ℕ} {k : Seen} {o : Outcome} {w : List Work} → 0 < n → Takes m j z → ListRuns m pd d e (PartWork j p ∷ Elements j (n - 1) (p + z) ∷ w) s k o → ListRuns m pd d e (Elements j n p ∷ w) s k o
  turn_elements lt at (list_part v (list_elements vs r)) = list_elements (elements_next lt at v vs) r
  turn_elements lt at (list_part v (list_elements_stop vs)) = list_elements_stop (elements_next lt at v vs)
  turn_elements lt at (list_part_stop v) = list_elements_stop (elements_stop lt v)

  pub turn_part_last : {pd : List ℕ} {d : Option ℕ} {e a b p s : ℕ} {k : Seen} {o : Outcome} {w : List Work} {x : Part} → a < b → b ≤ a + 1 → IsAt m.parts.now a x → ListRuns m pd d e (PartWork x.node (p + x.offset) ∷ w) s k o → ListRuns m pd d e (Parts a b p ∷ w) s k o
  turn_part_last lt ge at (list_part v r) = list_parts (parts_next lt at v (parts_end ge)) r
  turn_part_last lt ge at (list_part_stop v) = list_parts_stop (parts_stop lt at v)

  pub turn_element_last : {pd : List ℕ} {d : Option ℕ} {e j n z p s : ℕ} {k : Seen} {o : Outcome} {w : List Work} → 0 < n → n - 1 ≡ 0 → Takes m j z → ListRuns m pd d e (PartWork j p ∷ w) s k o → ListRuns m pd d e (Elements j n p ∷ w) s k o
  turn_element_last lt none at (list_part v r) = list_elements (elements_next lt at v (elements_end none)) r
  turn_element_last lt none at (list_part_stop v) = list_elements_stop (elements_stop lt v)

  module _ {key : KeyExpr} {j offset size : ℕ} (takes : EntryTakes m key j offset size) where
    pub turn_entries_end : {pd : List ℕ} {d : Option ℕ} {e n p s : ℕ} {later : Bool} {k : Seen} {o : Outcome} {w : List Work} → n ≡ 0 → ListRuns m pd d e w s k o → ListRuns m pd d e (Entries key j n p later ∷ w) s k o
    turn_entries_end none r = list_entries takes (entries_end none) r

    pub turn_entries_key : {pd : List ℕ} {d : Option ℕ} {e n p s : ℕ} {later : Bool} {k : Seen} {f : Fault} {w : List Work} → 0 < n → OrderRuns m pd d e key j (before_at later p size) p s k (refused f) → ListRuns m pd d e (Entries key j n p later ∷ w) s k (refused f)
    turn_entries_key lt v = list_entries_stop takes (entries_key lt v)

    -- behind an entry, the one before is that entry
    behind : {pd : List ℕ} {d : Option ℕ} {e n p s place whole : ℕ} {k : Seen} {o : Outcome} → EntryTakes m key j place whole → EntriesRun m pd d e key j (Some (p + size - whole)) n (p + size) s k o → EntriesRun m pd d e key j (Some p) n (p + size) s k o
    behind {p = p} {whole = whole} same r = let there : p + size - whole ≡ p = omega (arith, entry_sizes takes same) in rw there at r

    pub turn_entries : {pd : List ℕ} {d : Option ℕ} {e n p s mid : ℕ} {later : Bool} {k known : Seen} {o : Outcome} {w : List Work} → 0 < n → OrderRuns m pd d e key j (before_at later p size) p s k (done mid known)
        → ListRuns m pd d e (PartWork j (p + offset) ∷ Entries key j (n - 1) (p + size) true ∷ w) mid known o → ListRuns m pd d e (Entries key j n p later ∷ w) s k o
    turn_entries lt first (list_part v (list_entries same vs r)) = list_entries takes (entries_next lt first takes v (behind same vs)) r
    turn_entries lt first (list_part v (list_entries_stop same vs)) = list_entries_stop takes (entries_next lt first takes v (behind same vs))
    turn_entries lt first (list_part_stop v) = list_entries_stop takes (entries_value lt first takes v)

    pub turn_entry_last : {pd : List ℕ} {d : Option ℕ} {e n p s mid : ℕ} {later : Bool} {k known : Seen} {o : Outcome} {w : List Work} → 0 < n → n - 1 ≡ 0 → OrderRuns m pd d e key j (before_at later p size) p s k (done mid known)
        → ListRuns m pd d e (PartWork j (p + offset) ∷ w) mid known o → ListRuns m pd d e (Entries key j n p later ∷ w) s k o
    turn_entry_last lt none first (list_part v r) = list_entries takes (entries_next lt first takes v (entries_end none)) r
    turn_entry_last lt none first (list_part_stop v) = list_entries_stop takes (entries_value lt first takes v)

  pub turn_elements_free : {pd : List ℕ} {d : Option ℕ} {e j n p z s : ℕ} {k : Seen} {o : Outcome} {w : List Work} → IsNode m j Free → Takes m j z → p + n * z ≤ length m.bytes.now → ListRuns m pd d e w s k o → ListRuns m pd d e (Elements j n p ∷ w) s k o
  turn_elements_free h at fits r = list_elements (elements_free h at fits) r

  outer_same : {pd : List ℕ} {d outer : Option ℕ} {e s : ℕ} {k : Seen} {o : Outcome} {w : List Work} → Allows d 1 → inside d ≡ inside outer → ListRuns m pd outer e w s k o → ListRuns m pd d e w s k o
  outer_same {d = d} {outer = outer} deep same r = rw (inside_same d outer deep same) at r

  -- a region that is left first is left, and then comes the list that it was put on
  left_alone : {pd : List ℕ} {d : Option ℕ} {e a t s : ℕ} {k : Seen} {o : Outcome} {w : List Work} → Allows d 1 → ListRuns m pd (inside d) t (Leave a e 0 ∷ w) s k o → ListRuns m pd d e w a k o
  left_alone deep (list_leave same r) = outer_same deep same r

  left_with_outer : {pd : List ℕ} {d : Option ℕ} {e a t s x y n : ℕ} {k : Seen} {o : Outcome} {w : List Work} → Allows d 1 → ListRuns m pd (inside d) t (Leave x y (n + 1) ∷ w) s k o → ListRuns m pd d e (Leave x y n ∷ w) a k o
  left_with_outer {d = d} {n = n} deep (list_leave {outer = outer} same r) =
      let one_more : inside d ≡ inside (deeper n outer) = same ∙ ap (λ (l : ℕ). deeper l outer) (add-one n) in list_leave (sym (inside_same d (deeper n outer) deep one_more)) r

  left_runs : {pd : List ℕ} {d : Option ℕ} {e a t s : ℕ} {k : Seen} {o : Outcome} (w : List Work) → Allows d 1 → ListRuns m pd (inside d) t (left_first a e w) s k o → ListRuns m pd d e w a k o
  left_runs [] deep r = left_alone deep r
  left_runs {pd = pd} {d = d} {e = e} {a = a} {t = t} {s = s} {k = k} {o = o} (entry ∷ w) deep r = by_entry entry r
    where
      by_entry : (entry : Work) → ListRuns m pd (inside d) t (left_first a e (entry ∷ w)) s k o → ListRuns m pd d e (entry ∷ w) a k o
      by_entry (Leave x y n) r = left_with_outer deep r
      by_entry entry r = left_alone deep r

  pub enter_one : {pd : List ℕ} {d : Option ℕ} {e j n z align t s : ℕ} {k : Seen} {o : Outcome} {w : List Work} → RegionIs m One j n (Some z) align → s ≤ t → t + z ≤ e → t % align ≡ 0 → Allows d 1 → 0 < z → ListRuns m pd (inside d) t (PartWork j t ∷ left_first (t + z) e w) s k o → Then m pd d e (EnterRuns m pd d e One j n (pos t) s k) w o
  enter_one {w = w} reg above below aligned deep lt (list_part v r) = and_then (enter_within reg refl above below aligned deep (contents_one lt v)) (left_runs w deep r)
  enter_one reg above below aligned deep lt (list_part_stop v) = stops (enter_stop reg refl above below aligned deep (contents_one lt v))

  pub enter_run : {pd : List ℕ} {d : Option ℕ} {e j n z align t s : ℕ} {k : Seen} {o : Outcome} {w : List Work} → RegionIs m Run j n (Some z) align → s ≤ t → t + z ≤ e → t % align ≡ 0 → Allows d 1 → 0 < z → ListRuns m pd (inside d) t (Elements j n t ∷ left_first (t + z) e w) s k o → Then m pd d e (EnterRuns m pd d e Run j n (pos t) s k) w o
  enter_run {w = w} reg above below aligned deep lt (list_elements v r) = and_then (enter_within reg refl above below aligned deep (contents_run lt v)) (left_runs w deep r)
  enter_run reg above below aligned deep lt (list_elements_stop v) = stops (enter_stop reg refl above below aligned deep (contents_run lt v))

  pub enter_entries : {pd : List ℕ} {d : Option ℕ} {e j n z align t s : ℕ} {k : Seen} {o : Outcome} {w : List Work} {key : KeyExpr} → RegionIs m (EntriesOf key) j n (Some z) align → s ≤ t → t + z ≤ e → t % align ≡ 0 → Allows d 1 → 0 < z → ListRuns m pd (inside d) t (Entries key j n t false ∷ left_first (t + z) e w) s k o → Then m pd d e (EnterRuns m pd d e (EntriesOf key) j n (pos t) s k) w o
  enter_entries {w = w} reg above below aligned deep lt (list_entries takes v r) = and_then (enter_within reg refl above below aligned deep (contents_entries lt v)) (left_runs w deep r)
  enter_entries reg above below aligned deep lt (list_entries_stop takes v) = stops (enter_stop reg refl above below aligned deep (contents_entries lt v))

  -- a list that begins with the end of a shared position runs within it
  record Finishing (pd : List ℕ) (d : Option ℕ) (e t : ℕ) (w : List Work) (s : ℕ) (k : Seen) (o : Outcome) : Type 0 where
    rest : List ℕ
    is : pd ≡ t ∷ rest
    runs : ListRuns m rest d e w s k o

  finishing : {pd : List ℕ} {d : Option ℕ} {e c t s : ℕ} {k : Seen} {o : Outcome} {w : List Work} → ListRuns m pd d e (Finish c t ∷ w) s k o → Finishing pd d e t w s k o
  finishing (list_finish {pending = pending} r) = record { rest = pending; is = refl; runs = r }

  tail_same : (t : ℕ) (xs ys : List ℕ) → t ∷ xs ≡ t ∷ ys → ys ≡ xs
  tail_same t xs ys e = cc

  finished_runs : {pd : List ℕ} {d : Option ℕ} {e c t s : ℕ} {k : Seen} {o : Outcome} {w : List Work} → ListRuns m (t ∷ pd) d e (Finish c t ∷ w) s k o → ListRuns m pd d e w s k o
  finished_runs {pd = pd} {t = t} r = let f = finishing r in rw (tail_same t pd f.rest f.is) at f.runs

  pub turn_new : {pd : List ℕ} {d : Option ℕ} {e c j n l t s : ℕ} {k : Seen} {o : Outcome} {w : List Work} {target : PointeeKind} {z : ℤ} {shared_type : SharedType} → IsAt m.shared_types.now c shared_type → z ≡ pos t → get k t ≡ None
      → Then m (t ∷ pd) d e (EnterRuns m (t ∷ pd) d e target j n z s (insert k t (entry_for shared_type l))) (Finish c t ∷ w) o → Then m pd d e (FollowRuns m pd d e c target j n l z s k) w o
  turn_new at is none (and_then v r) = and_then (follow_new at is none v) (finished_runs r)
  turn_new at is none (stops v) = stops (follow_new at is none v)

  pub then_end : {pd : List ℕ} {d : Option ℕ} {e : ℕ} {First : Outcome → Type 0} {o : Outcome} → Then m pd d e First [] o → First o
  then_end (and_then v list_end) = v
  then_end (stops v) = v
