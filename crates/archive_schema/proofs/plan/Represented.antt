-- A run over a plan goes as a walk of the shapes that its nodes stand for, or comes to the same fault.
use Rattle.std.proofs.Common.{◌≡◌, ◌≢◌, ◌⊎◌, inl, inr, ℕ, ℤ, pos, ◌+ℤ◌, refl, sym, ap, ◌∙◌, ◌+◌, ◌-◌, ◌*◌, ◌%◌, ◌<◌, ◌≤◌, ◌^◌, arith, List, ◌∷◌, length, slice_index, Option, Some, None, cond, is_some, suc, zero, false, Bor, IsTrue, Contains}
use Rattle.std.specs.FinMap.{get, insert}
use Rattle.archive_check.specs.declared.format.expr.Kind.{Kind as KindExpr}
use Rattle.archive_check.specs.declared.format.expr.Key.{Key as KeyExpr}
use Rattle.archive_schema.specs.declared.plan.Node.{Node}
use Rattle.archive_schema.specs.declared.plan.PointeeKind.{PointeeKind}
use Rattle.archive_schema.specs.declared.plan.PointeeKind.TheVariants.{One, Run, Text, Entries as EntriesOf}
use Rattle.archive_schema.specs.declared.plan.NodeKind.{NodeKind}
use Rattle.archive_schema.specs.declared.plan.NodeKind.TheVariants.{Free, Leaf, Record, Choice, Array, Pointer as PointerNode, Str, Shared, Weak}
use Rattle.archive_schema.specs.declared.plan.Span.{Span}
use Rattle.archive_check.specs.declared.context.positions.SharedType.{SharedType}
use Rattle.archive_schema.specs.declared.check.Checker.{Checker}
use Rattle.archive_check.specs.Shape.{Key, key_shape, entry_of, str, Flavor, Shape, Pointee, one, run, text, Parts, part, variant_at}
use Rattle.archive_check.specs.Layout.{kind_size, key_size, up, size_of, align_of}
use Rattle.archive_check.specs.Keys.{ComesBehind, Ascend}
use Rattle.archive_check.specs.Value.{Pointer}
use Rattle.archive_check.specs.Reads.{SchemaTable, bytes_at, u32_at, i32_at, IsLegal, kind_number, IsOutOfLine, decoded_length, length_at, string_at}
use Rattle.archive_check.specs.Depth.{Allows, inside}
use Rattle.archive_check.specs.Tour.{Seen, Entry, pointee_size, pointee_align}
use Rattle.archive_check.specs.Trail.{Fault, too_large, outside, unaligned, too_deep, cyclic, other_type, other_length, illegal, no_such_variant, unsorted, Trips, trips_leaf, trips_parts, trips_tag, trips_choice, trips_array, trips_boxed, trips_vec, trips_map, trips_inline, trips_short, trips_out_of_line, trips_shared, trips_weak, trips_named, TripsParts, trips_first, trips_later, TripsRun, trips_element, trips_later_element, TripsEntries, trips_key, trips_order, trips_value, trips_later_entry, TripsFollow, trips_unique, trips_before, trips_new, trips_type, trips_length, trips_cycle, TripsEnter, trips_size, trips_range, trips_align, trips_depth, trips_within, TripsContents, trips_one, trips_run, trips_entries, trips_text}
use Rattle.archive_check.specs.Walk.{Walk, walk_leaf, walk_parts, walk_choice, walk_array, walk_boxed, walk_vec, walk_map, walk_inline, walk_out_of_line, walk_shared, walk_null, walk_weak, walk_named, WalkParts, walk_no_part, walk_part, WalkRun, walk_none, walk_element, Follow, follow_unique, follow_new, follow_again, Enter, enter, WalkContents, walk_one, walk_run, walk_entries, walk_text}
use Rattle.archive_check.specs.Expressions.{kind_of, key_of, flavor_of, pointee_of}
use Rattle.archive_check.specs.context.PositionStates.{SameType}
use Rattle.archive_schema.specs.check.Runs.{pointee_count, pointee_length, entry_for, IsNode, Takes, EntryTakes, unit_size, unit_align, RegionIs, NodeRuns, run_free, run_leaf, run_illegal, run_record, run_choice, run_tag, run_array, run_pointer, run_str, run_shared, run_null, run_weak, FollowRuns, follow_before, follow_new as runs_new, follow_again as runs_again, follow_type, follow_length, follow_cycle, PartsRun, parts_end, parts_next, parts_stop, ElementsRun, elements_end, elements_next, elements_free, elements_stop, StringRuns, string_inline, string_no_text, string_short, string_out_of_line, KeyRuns, key_leaf, key_illegal, key_string, OrderRuns, order_key, order_wrong, order_kept, EntriesRun, entries_end, entries_key, entries_value, entries_next, EnterRuns, enter_too_large, enter_outside, enter_unaligned, enter_too_deep, enter_within, enter_stop, ContentsRun, contents_empty, contents_one, contents_run, contents_entries, contents_lone, contents_equal, contents_text, contents_no_text}
use Rattle.archive_check.specs.Words.Elements.{IsAt}
use Rattle.archive_check.specs.Outcomes.{Outcome, done, refused}
use Rattle.archive_schema.specs.plan.SoundPlans.{IsSound}
use Rattle.archive_schema.specs.plan.Represents.{NodeStandsFor, stands, stands_named, PartsStand, parts_over, parts_more, Sized, Points, points_one, points_run, points_entries, points_text, Made, made_free, made_leaf, made_record, made_choice, made_array, made_boxed, made_vec, made_map, made_str, made_shared, made_weak, Represents, OutcomeSays}
use Rattle.archive_check.proofs.Tours.ReadingUnique.{pos_one}
use Rattle.archive_schema.proofs.plan.EmptyNodes.{Nothing, empty_number, empty_length, empty_kind, empty_text, empty_key, empty_order}
use Rattle.archive_schema.proofs.plan.EntryLayouts.{key_takes, value_sized, walk_entry, entry_fits, empty_parts}
use Rattle.archive_check.specs.Words.BoundedSizes.{fits}
use Rattle.archive_check.proofs.BoundedSizes.{some_is}
use Rattle.archive_schema.proofs.plan.PlanSizes.{take_same, times_some, times_many, sized_takes, element_few}
use Rattle.archive_check.proofs.Elements.{same_at}
use Rattle.std.proofs.Math.Nat.{eq_of_mul-eq-mul_left, mul-zero}

pub says_map : {W V : ℕ → Seen → Type 0} {T F : Fault → Type 0} (o : Outcome) → ((a : ℕ) (k : Seen) → W a k → V a k) → ((e : Fault) → T e → F e) → OutcomeSays W T o → OutcomeSays V F o
says_map (done a k) f g h = f a k h
says_map (refused e) f g h = g e h

-- a pointer to one value leads to one, and says no length
abbrev pub Counts : PointeeKind → ℕ → ℕ → Type 0
Counts One n l = n ≡ 1
Counts Run n l = n ≡ l
Counts Text n l = n ≡ l
Counts (EntriesOf key) n l = n ≡ l

counts_of : (bytes : List ℕ) (p : ℕ) (target : PointeeKind) → Counts target (pointee_count bytes p target) (pointee_length bytes p target)
counts_of bytes p One = refl
counts_of bytes p Run = refl
counts_of bytes p Text = refl
counts_of bytes p (EntriesOf key) = refl

abbrev pub leading : Option Flavor → Option Key → ℤ → Pointee → ℕ → Pointer
leading sharing order where_to P l = record { target = where_to; sharing = sharing; order = order; pointee = P; length = l }

-- a shared pointer, as its shared_type says
abbrev pub sorted : SharedType → ℤ → ℕ → Pointer
sorted shared_type where_to l = leading (Some (flavor_of shared_type.flavor)) None where_to (pointee_of shared_type.pointee) l

module _ (s : SchemaTable) (shapes : ℕ → Shape) (m : Checker) where
  pub stands_walk : {X : Shape} {j : ℕ} {pending : List ℕ} {depth : Option ℕ} {stop p start later : ℕ} {seen last : Seen} → NodeStandsFor s shapes X j → Walk s m.bytes.now pending depth stop p (shapes j) start seen later last → Walk s m.bytes.now pending depth stop p X start seen later last
  stands_walk (stands e) w = rw e at w
  stands_walk (stands_named d h) w = walk_named d (stands_walk h w)

  pub stands_trips : {X : Shape} {j : ℕ} {pending : List ℕ} {depth : Option ℕ} {stop p start : ℕ} {seen : Seen} {e : Fault} → NodeStandsFor s shapes X j → Trips s m.bytes.now pending depth stop p (shapes j) start seen e → Trips s m.bytes.now pending depth stop p X start seen e
  stands_trips (stands e) w = rw e at w
  stands_trips (stands_named d h) w = trips_named d (stands_trips h w)

  -- what each kind of run says: with each outcome a walk or a fault
  abbrev pub ShapeSays : Shape → List ℕ → Option ℕ → ℕ → ℕ → ℕ → Seen → Outcome → Type 0
  ShapeSays X pending depth stop p start seen o = OutcomeSays (Walk s m.bytes.now pending depth stop p X start seen) (Trips s m.bytes.now pending depth stop p X start seen) o

  abbrev pub NodeSays : List ℕ → Option ℕ → ℕ → ℕ → ℕ → ℕ → Seen → Outcome → Type 0
  NodeSays pending depth stop i p start seen o = ShapeSays (shapes i) pending depth stop p start seen o

  abbrev pub PartsSay : ℕ → Parts → List ℕ → Option ℕ → ℕ → ℕ → ℕ → Seen → Outcome → Type 0
  PartsSay at ps pending depth stop p start seen o = OutcomeSays (WalkParts s m.bytes.now pending depth stop p at ps start seen) (TripsParts s m.bytes.now pending depth stop p at ps start seen) o

  abbrev pub RunSays : ℕ → Shape → List ℕ → Option ℕ → ℕ → ℕ → ℕ → Seen → Outcome → Type 0
  RunSays n X pending depth stop p start seen o = OutcomeSays (WalkRun s m.bytes.now pending depth stop p n X start seen) (TripsRun s m.bytes.now pending depth stop p n X start seen) o

  abbrev pub FollowSays : Pointer → List ℕ → Option ℕ → ℕ → ℕ → Seen → Outcome → Type 0
  FollowSays ptr pending depth stop start seen o = OutcomeSays (Follow s m.bytes.now pending depth stop ptr start seen) (TripsFollow s m.bytes.now pending depth stop ptr start seen) o

  abbrev pub EnterSays : Pointer → List ℕ → Option ℕ → ℕ → ℕ → Seen → Outcome → Type 0
  EnterSays ptr pending depth stop start seen o = OutcomeSays (λ later last. (t : ℕ) × Enter s m.bytes.now pending depth stop ptr t start seen later last) (TripsEnter s m.bytes.now pending depth stop ptr start seen) o

  abbrev pub ContentsSay : Option Key → Pointee → ℕ → ℕ → List ℕ → Option ℕ → ℕ → Seen → Outcome → Type 0
  ContentsSay order P l t pending depth start seen o = OutcomeSays (WalkContents s m.bytes.now pending depth t t order P l start seen) (TripsContents s m.bytes.now pending depth t t order P l start seen) o

  made_of : {i z : ℕ} {kind : NodeKind} → Represents s shapes m → IsNode m i kind → Takes m i z → (size_of s.layouts (shapes i) ≡ z) × Made s shapes m kind (shapes i)
  made_of {i = i} {z = z} r h t =
      let made = r.made i h.node z h.at (ap (λ q. q.size) (same_at h.at t.at) ∙ t.size_is) in rw h.kind_is at made

  free_case : {X : Shape} {pending : List ℕ} {depth : Option ℕ} {stop p start : ℕ} {seen : Seen} → Made s shapes m Free X → p + size_of s.layouts X ≤ length m.bytes.now → Walk s m.bytes.now pending depth stop p X start seen start seen
  free_case (made_free h) room = h _ _ _ _ _ _ _ room

  leaf_case : {X : Shape} {kind : KindExpr} {pending : List ℕ} {depth : Option ℕ} {stop p start : ℕ} {seen : Seen} → Made s shapes m (Leaf kind) X → IsLegal (kind_of kind) (bytes_at m.bytes.now p (kind_size (kind_of kind))) → Walk s m.bytes.now pending depth stop p X start seen start seen
  leaf_case made_leaf h = walk_leaf h

  illegal_case : {X : Shape} {kind : KindExpr} {pending : List ℕ} {depth : Option ℕ} {stop p start : ℕ} {seen : Seen} → Made s shapes m (Leaf kind) X → (IsLegal (kind_of kind) (bytes_at m.bytes.now p (kind_size (kind_of kind))) → ⊥) → Trips s m.bytes.now pending depth stop p X start seen (illegal (kind_of kind))
  illegal_case made_leaf h = trips_leaf h

  record_case : {X : Shape} {a b : ℕ} (pending : List ℕ) (depth : Option ℕ) (stop p start : ℕ) (seen : Seen) (o : Outcome) → Made s shapes m (Record a b) X → ((ps : Parts) → PartsStand s shapes m a b 0 ps → PartsSay 0 ps pending depth stop p start seen o) → ShapeSays X pending depth stop p start seen o
  record_case pending depth stop p start seen o (made_record h) says = says_map o (λ a k w. walk_parts w) (λ e t. trips_parts t) (says _ h)

  part_case : {X : Shape} {j mid : ℕ} {pending : List ℕ} {depth : Option ℕ} {stop start : ℕ} {seen known : Seen} (ps : Parts) (at p : ℕ) (o : Outcome) → NodeStandsFor s shapes X j → Walk s m.bytes.now pending depth stop (p + up at (align_of s.layouts X)) (shapes j) start seen mid known → PartsSay (up at (align_of s.layouts X) + size_of s.layouts X) ps pending depth stop p mid known o → PartsSay at (part X ps) pending depth stop p start seen o
  part_case ps at p o st w rest = says_map o (λ a k ws. walk_part (stands_walk st w) ws) (λ e t. trips_later (stands_walk st w) t) rest

  choice_case : {X : Shape} {a b tag : ℕ} {name : Bor (List ℕ)} {x : Span} (pending : List ℕ) (depth : Option ℕ) (stop p start : ℕ) (seen : Seen) (o : Outcome) → Made s shapes m (Choice name a b) X → tag ≡ slice_index m.bytes.now p → a + tag < b → IsAt m.variants.now (a + tag) x → ((ps : Parts) → PartsStand s shapes m x.first x.last 1 ps → PartsSay 1 ps pending depth stop p start seen o) → ShapeSays X pending depth stop p start seen o
  choice_case {tag = tag} {x = x} pending depth stop p start seen o (made_choice {vs = vs} f g) e lt at says =
      let h = f tag x lt at in
      let is = ap (variant_at vs) (sym e) ∙ h.1 in
      says_map o (λ a k w. walk_choice is w) (λ e t. trips_choice is t) (says h.0 h.2)

  tag_case : {X : Shape} {a b p : ℕ} {name : Bor (List ℕ)} {pending : List ℕ} {depth : Option ℕ} {stop start : ℕ} {seen : Seen} → Made s shapes m (Choice name a b) X → b ≤ a + slice_index m.bytes.now p → Trips s m.bytes.now pending depth stop p X start seen (no_such_variant name.now (slice_index m.bytes.now p))
  tag_case (made_choice f g) le = trips_tag (g _ le)

  array_case : {X : Shape} {n j : ℕ} (pending : List ℕ) (depth : Option ℕ) (stop p start : ℕ) (seen : Seen) (o : Outcome) → Made s shapes m (Array n j) X → ((Y : Shape) → NodeStandsFor s shapes Y j → Takes m j (size_of s.layouts Y) → RunSays n Y pending depth stop p start seen o) → ShapeSays X pending depth stop p start seen o
  array_case pending depth stop p start seen o (made_array st t) says = says_map o (λ a k w. walk_array w) (λ e t. trips_array t) (says _ st t)

  none_case : {X : Shape} {pending : List ℕ} {depth : Option ℕ} {stop p start : ℕ} {seen : Seen} (n : ℕ) → n ≡ 0 → WalkRun s m.bytes.now pending depth stop p n X start seen start seen
  none_case n e = rw e walk_none

  element_case : {X : Shape} {j z mid : ℕ} {pending : List ℕ} {depth : Option ℕ} {stop start : ℕ} {seen known : Seen} (n p : ℕ) (o : Outcome) → 0 < n → NodeStandsFor s shapes X j → size_of s.layouts X ≡ z → Walk s m.bytes.now pending depth stop p (shapes j) start seen mid known → RunSays (n - 1) X pending depth stop (p + z) mid known o → RunSays n X pending depth stop p start seen o
  element_case zero p o lt st e w rest = absurd (omega arith)
  element_case {X = X} (suc n) p o lt st e w rest =
      let less : suc n - 1 ≡ n = omega arith in
      says_map o (λ a k ws. walk_element (stands_walk st w) (rw (less, ← e) at ws)) (λ f t. trips_later_element (stands_walk st w) (rw (less, ← e) at t)) rest

  element_stop_case : {X : Shape} {j : ℕ} {pending : List ℕ} {depth : Option ℕ} {stop start : ℕ} {seen : Seen} {e : Fault} (n p : ℕ) → 0 < n → NodeStandsFor s shapes X j → Trips s m.bytes.now pending depth stop p (shapes j) start seen e → TripsRun s m.bytes.now pending depth stop p n X start seen e
  element_stop_case zero p lt st w = absurd (omega arith)
  element_stop_case (suc n) p lt st w = trips_element (stands_trips st w)

  -- any bytes are such elements
  free_run : {X : Shape} {j : ℕ} {pending : List ℕ} {depth : Option ℕ} {stop start : ℕ} {seen : Seen} (n p : ℕ) → NodeStandsFor s shapes X j → Made s shapes m Free (shapes j) → size_of s.layouts (shapes j) ≡ size_of s.layouts X → p + n * size_of s.layouts X ≤ length m.bytes.now → WalkRun s m.bytes.now pending depth stop p n X start seen start seen
  free_run zero p st made e room = walk_none
  free_run {X = X} (suc n) p st made e room = walk_element (stands_walk st (free_case made (omega (arith, e)))) (free_run n (p + size_of s.layouts X) st made e (omega arith))

  -- a pointer of its own is followed by entering its region
  unique_case : (order : Option Key) (pending : List ℕ) (depth : Option ℕ) (stop start : ℕ) (seen : Seen) (where_to : ℤ) (P : Pointee) (l : ℕ) (o : Outcome) → EnterSays (leading None order where_to P l) pending depth stop start seen o → FollowSays (leading None order where_to P l) pending depth stop start seen o
  unique_case order pending depth stop start seen where_to P l o says = says_map o (λ a k w. follow_unique refl w.1) (λ e t. trips_unique refl t) says

  -- the plan and the shapes read the same length
  length_is : {target : PointeeKind} {order : Option Key} {j : ℕ} {P : Pointee} (p : ℕ) → Points s shapes m target order j P → pointee_length m.bytes.now p target ≡ length_at m.bytes.now p P
  length_is p (points_one k st) = refl
  length_is p (points_run k st) = refl
  length_is p (points_entries k st) = refl
  length_is p points_text = refl

  pointer_case : {X : Shape} {target : PointeeKind} {j : ℕ} (pending : List ℕ) (depth : Option ℕ) (stop p start : ℕ) (seen : Seen) (o : Outcome) → Made s shapes m (PointerNode target j) X → ((order : Option Key) (P : Pointee) → Points s shapes m target order j P → EnterSays (leading None order (pos p +ℤ i32_at m.bytes.now p) P (length_at m.bytes.now p P)) pending depth stop start seen o) → ShapeSays X pending depth stop p start seen o
  pointer_case pending depth stop p start seen o (made_boxed h) says = says_map o (λ a k w. walk_boxed w) (λ e t. trips_boxed t) (unique_case None pending depth stop start seen _ _ _ o (says _ _ h))
  pointer_case pending depth stop p start seen o (made_vec h) says = says_map o (λ a k w. walk_vec w) (λ e t. trips_vec t) (unique_case None pending depth stop start seen _ _ _ o (says _ _ h))
  pointer_case pending depth stop p start seen o (made_map {key = key} h) says = says_map o (λ a k w. walk_map w) (λ e t. trips_map t) (unique_case (Some (key_of key)) pending depth stop start seen _ _ _ o (says _ _ h))

  string_case : (pending : List ℕ) (depth : Option ℕ) (stop p start : ℕ) (seen : Seen) (o : Outcome) → IsOutOfLine m.bytes.now p → 8 < decoded_length (u32_at m.bytes.now p) → EnterSays (string_at m.bytes.now p) pending depth stop start seen o → ShapeSays str pending depth stop p start seen o
  string_case pending depth stop p start seen o out long says = says_map o (λ a k w. walk_out_of_line out long w) (λ e t. trips_out_of_line out long t) (unique_case None pending depth stop start seen _ _ _ o says)

  str_case : {X : Shape} {j : ℕ} (pending : List ℕ) (depth : Option ℕ) (stop p start : ℕ) (seen : Seen) (o : Outcome) → Made s shapes m (Str j) X → ShapeSays str pending depth stop p start seen o → ShapeSays X pending depth stop p start seen o
  str_case pending depth stop p start seen o (made_str k) says = says

  -- what comes of following a shared pointer at p of a shared_type
  abbrev pub SharedTypeSays : ℕ → PointeeKind → ℕ → List ℕ → Option ℕ → ℕ → ℕ → ℕ → Seen → Outcome → Type 0
  SharedTypeSays k target j pending depth stop p start seen o =
      (shared_type : SharedType) → IsAt m.shared_types.now k shared_type → Points s shapes m target None j (pointee_of shared_type.pointee) → FollowSays (sorted shared_type (pos p +ℤ i32_at m.bytes.now p) (pointee_length m.bytes.now p target)) pending depth stop start seen o

  shared_case : {X : Shape} {target : PointeeKind} {k j : ℕ} (pending : List ℕ) (depth : Option ℕ) (stop p start : ℕ) (seen : Seen) (o : Outcome) → Made s shapes m (Shared k target j) X → SharedTypeSays k target j pending depth stop p start seen o → ShapeSays X pending depth stop p start seen o
  shared_case pending depth stop p start seen o (made_shared at h) says = says_map o (λ a k w. walk_shared w) (λ e t. trips_shared t) (rw (length_is p h) at (says _ at h))

  weak_case : {X : Shape} {target : PointeeKind} {k j : ℕ} (pending : List ℕ) (depth : Option ℕ) (stop p start : ℕ) (seen : Seen) (o : Outcome) → Made s shapes m (Weak k target j) X → i32_at m.bytes.now p ≢ pos 1 → SharedTypeSays k target j pending depth stop p start seen o → ShapeSays X pending depth stop p start seen o
  weak_case pending depth stop p start seen o (made_weak at h) some says = says_map o (λ a k w. walk_weak some w) (λ e t. trips_weak some t) (rw (length_is p h) at (says _ at h))

  null_case : {X : Shape} {target : PointeeKind} {k j p : ℕ} {pending : List ℕ} {depth : Option ℕ} {stop start : ℕ} {seen : Seen} → Made s shapes m (Weak k target j) X → i32_at m.bytes.now p ≡ pos 1 → Walk s m.bytes.now pending depth stop p X start seen start seen
  null_case (made_weak at h) e = walk_null e

  enter_target : {pending : List ℕ} {depth : Option ℕ} {stop t start : ℕ} {ptr : Pointer} {seen last : Seen} {later : ℕ} → Enter s m.bytes.now pending depth stop ptr t start seen later last → ptr.target ≡ pos t
  enter_target (enter e above below aligned allowed w) = e

  before_case : (pending : List ℕ) (depth : Option ℕ) (stop start : ℕ) (seen : Seen) (shared_type : SharedType) (where_to : ℤ) (l : ℕ) (o : Outcome) → ((t : ℕ) → where_to ≢ pos t) → EnterSays (sorted shared_type where_to l) pending depth stop start seen o → FollowSays (sorted shared_type where_to l) pending depth stop start seen o
  before_case pending depth stop start seen shared_type where_to l o nowhere says = says_map o (λ a k w. absurd (nowhere w.0 (enter_target w.1))) (λ e t. trips_before refl nowhere t) says

  new_case : {t : ℕ} {old : SharedType} (pending : List ℕ) (depth : Option ℕ) (stop start : ℕ) (seen : Seen) (shared_type : SharedType) (where_to : ℤ) (l : ℕ) (o : Outcome) → old ≡ shared_type → where_to ≡ pos t → get seen t ≡ None → EnterSays (sorted shared_type where_to l) (t ∷ pending) depth stop start (insert seen t (entry_for old l)) o → FollowSays (sorted shared_type where_to l) pending depth stop start seen o
  new_case {t = t} pending depth stop start seen shared_type where_to l o alike e none says =
      says_map o (λ a k w. let same : w.0 ≡ t = pos_one (sym (enter_target w.1) ∙ e) in follow_new refl none (rw same at w.1)) (λ f u. trips_new refl e none u) (rw alike at says)

  again_case : {t start stop : ℕ} {pending : List ℕ} {depth : Option ℕ} {seen : Seen} {old : SharedType} (shared_type : SharedType) (where_to : ℤ) (l : ℕ) → old ≡ shared_type → where_to ≡ pos t → get seen t ≡ Some (entry_for old l) → (Contains pending t → ⊥) ⊎ IsTrue old.flavor.cycles → Follow s m.bytes.now pending depth stop (sorted shared_type where_to l) start seen start seen
  again_case shared_type where_to l same e known free = follow_again refl e (rw same at known) (rw same at free)

  type_case : {t start stop : ℕ} {pending : List ℕ} {depth : Option ℕ} {seen : Seen} {old : SharedType} {met : Entry} (shared_type : SharedType) (where_to : ℤ) (l : ℕ) → old ≡ shared_type → where_to ≡ pos t → get seen t ≡ Some met → (SameType met (entry_for old l) → ⊥) → TripsFollow s m.bytes.now pending depth stop (sorted shared_type where_to l) start seen other_type
  type_case shared_type where_to l same e known other = trips_type refl e known (rw same at other)

  length_case : {t start stop : ℕ} {pending : List ℕ} {depth : Option ℕ} {seen : Seen} {old : SharedType} {met : Entry} (shared_type : SharedType) (where_to : ℤ) (l : ℕ) → old ≡ shared_type → where_to ≡ pos t → get seen t ≡ Some met → SameType met (entry_for old l) → met.length ≢ l → TripsFollow s m.bytes.now pending depth stop (sorted shared_type where_to l) start seen other_length
  length_case shared_type where_to l same e known alike other = trips_length refl e known (rw same at alike) other

  cycle_case : {t start stop : ℕ} {pending : List ℕ} {depth : Option ℕ} {seen : Seen} {old : SharedType} (shared_type : SharedType) (where_to : ℤ) (l : ℕ) → old ≡ shared_type → where_to ≡ pos t → get seen t ≡ Some (entry_for old l) → Contains pending t → old.flavor.cycles ≡ false → TripsFollow s m.bytes.now pending depth stop (sorted shared_type where_to l) start seen cyclic
  cycle_case shared_type where_to l same e known within none = trips_cycle refl e (rw same at known) within (rw same at none)

  -- what a region takes
  abbrev element_size : Pointee → ℕ
  element_size (one X) = size_of s.layouts X
  element_size (run X) = size_of s.layouts X
  element_size text = 1

  unit_fits : {target : PointeeKind} {order : Option Key} {j : ℕ} {P : Pointee} → Points s shapes m target order j P → (node : Node) → IsAt m.nodes.now j node → (unit_size target node ≡ fits (element_size P)) × (unit_align target node ≡ pointee_align s P)
  unit_fits (points_one k st) node at = let same = same_at at k.at in (ap (λ q. q.size) same ∙ k.size_is, ap (λ q. q.align) same ∙ k.align_is)
  unit_fits (points_run k st) node at = let same = same_at at k.at in (ap (λ q. q.size) same ∙ k.size_is, ap (λ q. q.align) same ∙ k.align_is)
  unit_fits (points_entries {key = key} {V = V} k st) node at =
      let same = same_at at k.at in
      entry_fits s.layouts key V node (ap (λ q. q.size) same ∙ k.size_is) (ap (λ q. q.align) same ∙ k.align_is)
  unit_fits points_text node at = (refl, refl)

  size_counted : {target : PointeeKind} {order : Option Key} {j : ℕ} {P : Pointee} (n l : ℕ) → Points s shapes m target order j P → Counts target n l → n * element_size P ≡ pointee_size s P l
  size_counted {P = one X} n l (points_one k st) c = ap (λ x. x * size_of s.layouts X) c ∙ omega arith
  size_counted {P = run X} n l (points_run k st) c = ap (λ x. x * size_of s.layouts X) c
  size_counted n l (points_entries {key = key} {V = V} k st) c = ap (λ x. x * size_of s.layouts (entry_of (key_of key) V)) c
  size_counted n l points_text c = omega (arith, c)

  region_many : {target : PointeeKind} {order : Option Key} {j : ℕ} {P : Pointee} {align : ℕ} (n l : ℕ) → Points s shapes m target order j P → Counts target n l → RegionIs m target j n None align → 18446744073709551616 ≤ pointee_size s P l
  region_many {target = target} {P = P} n l h c g = rw (size_counted n l h c) at (times_many (element_size P) n (unit_size target g.node) (unit_fits h g.node g.at).0 g.size_is)

  region_some : {target : PointeeKind} {order : Option Key} {j : ℕ} {P : Pointee} {align z : ℕ} (n l : ℕ) → Points s shapes m target order j P → Counts target n l → RegionIs m target j n (Some z) align → (z ≡ pointee_size s P l) × (z < 18446744073709551616) × (align ≡ pointee_align s P)
  region_some {target = target} {P = P} {z = z} n l h c g =
      let u = unit_fits h g.node g.at in
      let t = times_some (element_size P) n z (unit_size target g.node) u.0 g.size_is in
      (t.0 ∙ size_counted n l h c, t.1, sym g.align_is ∙ u.1)

  too_large_case : {target : PointeeKind} {order : Option Key} {j : ℕ} {P : Pointee} {align start : ℕ} {pending : List ℕ} {depth : Option ℕ} {stop : ℕ} {seen : Seen} (sharing : Option Flavor) (where_to : ℤ) (n l : ℕ) → Points s shapes m target order j P → Counts target n l → RegionIs m target j n None align → TripsEnter s m.bytes.now pending depth stop (leading sharing order where_to P l) start seen too_large
  too_large_case sharing where_to n l h c g = trips_size (region_many n l h c g)

  outside_case : {target : PointeeKind} {order : Option Key} {j : ℕ} {P : Pointee} {z align start : ℕ} {pending : List ℕ} {depth : Option ℕ} {stop : ℕ} {seen : Seen} (sharing : Option Flavor) (where_to : ℤ) (n l : ℕ) → Points s shapes m target order j P → Counts target n l → RegionIs m target j n (Some z) align → ((t : ℕ) → where_to ≡ pos t → start ≤ t → t + z ≤ stop → ⊥) → TripsEnter s m.bytes.now pending depth stop (leading sharing order where_to P l) start seen (outside where_to z start stop)
  outside_case {order = order} {P = P} {start = start} {stop = stop} sharing where_to n l h c g f =
      let k = region_some n l h c g in
      let few : pointee_size s P l < 2 ^ 64 = omega (arith, k.0, k.1) in
      let nowhere : (t : ℕ) → where_to ≡ pos t → start ≤ t → t + pointee_size s P l ≤ stop → ⊥ = λ t e above below. f t e above (omega (arith, k.0, below)) in
      rw k.0 (trips_range {p = leading sharing order where_to P l} few nowhere)

  unaligned_case : {target : PointeeKind} {order : Option Key} {j : ℕ} {P : Pointee} {z align start t : ℕ} {pending : List ℕ} {depth : Option ℕ} {stop : ℕ} {seen : Seen} (sharing : Option Flavor) (where_to : ℤ) (n l : ℕ) → Points s shapes m target order j P → Counts target n l → RegionIs m target j n (Some z) align → where_to ≡ pos t → start ≤ t → t + z ≤ stop → t % align ≢ 0 → TripsEnter s m.bytes.now pending depth stop (leading sharing order where_to P l) start seen (unaligned t align)
  unaligned_case {order = order} {P = P} {t = t} {stop = stop} sharing where_to n l h c g e above below f =
      let k = region_some n l h c g in
      let within : t + pointee_size s P l ≤ stop = omega (arith, k.0, below) in
      rw k.2 (trips_align {p = leading sharing order where_to P l} e above within (rw k.2 at f))

  deep_case : {target : PointeeKind} {order : Option Key} {j : ℕ} {P : Pointee} {z align start t : ℕ} {pending : List ℕ} {depth : Option ℕ} {stop : ℕ} {seen : Seen} (sharing : Option Flavor) (where_to : ℤ) (n l : ℕ) → Points s shapes m target order j P → Counts target n l → RegionIs m target j n (Some z) align → where_to ≡ pos t → start ≤ t → t + z ≤ stop → t % align ≡ 0 → (Allows depth 1 → ⊥) → TripsEnter s m.bytes.now pending depth stop (leading sharing order where_to P l) start seen too_deep
  deep_case {order = order} {P = P} {t = t} {stop = stop} sharing where_to n l h c g e above below aligned f =
      let k = region_some n l h c g in
      let within : t + pointee_size s P l ≤ stop = omega (arith, k.0, below) in
      trips_depth {p = leading sharing order where_to P l} e above within (rw k.2 at aligned) f

  within_case : {target : PointeeKind} {order : Option Key} {j : ℕ} {P : Pointee} {z align start mid t : ℕ} {pending : List ℕ} {depth : Option ℕ} {stop : ℕ} {seen known : Seen} (sharing : Option Flavor) (where_to : ℤ) (n l : ℕ) → Points s shapes m target order j P → Counts target n l → RegionIs m target j n (Some z) align → where_to ≡ pos t → start ≤ t → t + z ≤ stop → t % align ≡ 0 → Allows depth 1 → cond (is_some sharing) None order ≡ order → WalkContents s m.bytes.now pending (inside depth) t t order P l start seen mid known → (u : ℕ) × Enter s m.bytes.now pending depth stop (leading sharing order where_to P l) u start seen (t + z) known
  within_case {order = order} {P = P} {t = t} {stop = stop} sharing where_to n l h c g e above below aligned allowed kept w =
      let k = region_some n l h c g in
      let within : t + pointee_size s P l ≤ stop = omega (arith, k.0, below) in
      rw k.0 (t, enter {p = leading sharing order where_to P l} e above within (rw k.2 at aligned) allowed (rw (sym kept) at w))

  stop_case : {target : PointeeKind} {order : Option Key} {j : ℕ} {P : Pointee} {z align start t : ℕ} {pending : List ℕ} {depth : Option ℕ} {stop : ℕ} {seen : Seen} {f : Fault} (sharing : Option Flavor) (where_to : ℤ) (n l : ℕ) → Points s shapes m target order j P → Counts target n l → RegionIs m target j n (Some z) align → where_to ≡ pos t → start ≤ t → t + z ≤ stop → t % align ≡ 0 → Allows depth 1 → cond (is_some sharing) None order ≡ order → TripsContents s m.bytes.now pending (inside depth) t t order P l start seen f → TripsEnter s m.bytes.now pending depth stop (leading sharing order where_to P l) start seen f
  stop_case {order = order} {P = P} {t = t} {stop = stop} sharing where_to n l h c g e above below aligned allowed kept w =
      let k = region_some n l h c g in
      let within : t + pointee_size s P l ≤ stop = omega (arith, k.0, below) in
      trips_within {p = leading sharing order where_to P l} e above within (rw k.2 at aligned) allowed (rw (sym kept) at w)

  run_case : (X : Shape) (pending : List ℕ) (depth : Option ℕ) (t start : ℕ) (seen : Seen) (l : ℕ) (o : Outcome) → RunSays l X pending depth t t start seen o → ContentsSay None (run X) l t pending depth start seen o
  run_case X pending depth t start seen l o h = says_map o (λ a k w. walk_run w) (λ e t. trips_run t) h

  one_case : {X : Shape} {j : ℕ} (pending : List ℕ) (depth : Option ℕ) (t start : ℕ) (seen : Seen) (l : ℕ) (o : Outcome) → NodeStandsFor s shapes X j → NodeSays pending depth t j t start seen o → ContentsSay None (one X) l t pending depth start seen o
  one_case pending depth t start seen l o st h = says_map o (λ a k w. walk_one (stands_walk st w)) (λ e t. trips_one (stands_trips st t)) h

  -- entries: a walk of them and that their keys ascend, or a fault
  abbrev pub EntriesSay : ℕ → Key → Shape → Option ℕ → List ℕ → Option ℕ → ℕ → ℕ → ℕ → Seen → Outcome → Type 0
  EntriesSay n K V before pending depth stop p start seen o =
      OutcomeSays (λ later last. WalkRun s m.bytes.now pending depth stop p n (entry_of K V) start seen later last × Ascend K m.bytes.now before p (size_of s.layouts (entry_of K V)) n)
      (TripsEntries s m.bytes.now pending depth stop before p n K V start seen) o

  entries_case : (K : Key) (V : Shape) (pending : List ℕ) (depth : Option ℕ) (t start : ℕ) (seen : Seen) (l : ℕ) (o : Outcome) → EntriesSay l K V None pending depth t t start seen o → ContentsSay (Some K) (run (entry_of K V)) l t pending depth start seen o
  entries_case K V pending depth t start seen l o h = says_map o (λ a k w. walk_entries w.0 w.1) (λ e t. trips_entries t) h

  entries_none : (K : Key) (before : Option ℕ) {V : Shape} {pending : List ℕ} {depth : Option ℕ} {stop p start : ℕ} {seen : Seen} (n : ℕ) → n ≡ 0 → EntriesSay n K V before pending depth stop p start seen (done start seen)
  entries_none K before zero e = (walk_none, tt)
  entries_none K before (suc n) e = absurd (omega arith)

  entries_key_case : {K : Key} {V : Shape} {before : Option ℕ} {pending : List ℕ} {depth : Option ℕ} {stop p start : ℕ} {seen : Seen} {e : Fault} (n : ℕ) → 0 < n → ((n : ℕ) → TripsEntries s m.bytes.now pending depth stop before p (suc n) K V start seen e) → TripsEntries s m.bytes.now pending depth stop before p n K V start seen e
  entries_key_case zero lt t = absurd (omega arith)
  entries_key_case (suc n) lt t = t n

  entries_value_case : {K : Key} {V : Shape} {before : Option ℕ} {pending : List ℕ} {depth : Option ℕ} {stop p start mid offset : ℕ} {seen known : Seen} {e : Fault} (n : ℕ) → 0 < n → Walk s m.bytes.now pending depth stop p (key_shape K) start seen mid known → ComesBehind K m.bytes.now before p → offset ≡ up (size_of s.layouts (key_shape K)) (align_of s.layouts V)
      → Trips s m.bytes.now pending depth stop (p + offset) V mid known e → TripsEntries s m.bytes.now pending depth stop before p n K V start seen e
  entries_value_case zero lt w b is t = absurd (omega arith)
  entries_value_case (suc n) lt w b is t = trips_value w b (rw is at t)

  entries_next_case : (K : Key) (before : Option ℕ) {V : Shape} {pending : List ℕ} {depth : Option ℕ} {stop p start mid later offset size : ℕ} {seen known more : Seen} (n : ℕ) (o : Outcome) → 0 < n → Walk s m.bytes.now pending depth stop p (key_shape K) start seen mid known → ComesBehind K m.bytes.now before p → offset ≡ up (size_of s.layouts (key_shape K)) (align_of s.layouts V) → size ≡ size_of s.layouts (entry_of K V)
      → Walk s m.bytes.now pending depth stop (p + offset) V mid known later more → EntriesSay (n - 1) K V (Some p) pending depth stop (p + size) later more o → EntriesSay n K V before pending depth stop p start seen o
  entries_next_case K before zero o lt w b is all v rest = absurd (omega arith)
  entries_next_case K before {V = V} (suc n) o lt w b is all v rest =
      let less : suc n - 1 ≡ n = omega arith in
      let entry = walk_entry s m.bytes.now K V w (rw is at v) in
      says_map o (λ a k ws. let q = rw (less, all) at ws in (walk_element entry q.0, (b, q.1))) (λ f t. trips_later_entry entry b (rw (less, all) at t)) rest

  entry_is : {key : KeyExpr} (V : Shape) {j offset size : ℕ} → Sized m j (size_of s.layouts V) (align_of s.layouts V) → EntryTakes m key j offset size → (offset ≡ up (size_of s.layouts (key_shape (key_of key))) (align_of s.layouts V)) × (size ≡ size_of s.layouts (entry_of (key_of key) V)) × Takes m j (size_of s.layouts V)
  entry_is {key = key} V {offset = offset} k takes =
      let same = same_at takes.at k.at in
      let sized = ap (λ q. q.size) same ∙ k.size_is in
      let aligned = ap (λ q. q.align) same ∙ k.align_is in
      let begin : fits (up (key_size (key_of key)) (align_of s.layouts V)) ≡ Some offset = ap (λ a. fits (up (key_size (key_of key)) a)) (sym aligned) ∙ takes.offset_is in
      let all = entry_fits s.layouts key V takes.node sized aligned in
      let (value, value_is) = value_sized key takes.node takes.size_is in (
        sym (some_is begin) ∙ ap (λ n. up n (align_of s.layouts V)) (sym (key_takes s.layouts (key_of key))),
        sym (some_is (sym all.0 ∙ takes.size_is)),
        record { node = takes.node; at = takes.at; size_is = value_is ∙ ap Some (sym (some_is (sym sized ∙ value_is))) },
      )

  -- what takes nothing is there
  empty_node : {X : Shape} {pending : List ℕ} {depth : Option ℕ} {stop p start : ℕ} {seen : Seen} (kind : NodeKind) → Nothing kind → Made s shapes m kind X → p + size_of s.layouts X ≤ length m.bytes.now → Walk s m.bytes.now pending depth stop p X start seen start seen
  empty_node kind (inl free) made room = free_case (rw free at made) room
  empty_node {p = p} kind (inr (leaf_kind, is, none)) made room =
      leaf_case (rw is at made) (record { size = empty_length m.bytes.now p (kind_size (kind_of leaf_kind)) none; number = empty_number (kind_of leaf_kind) (kind_number (kind_of leaf_kind) (bytes_at m.bytes.now p (kind_size (kind_of leaf_kind)))) none })

  module _ (r : Represents s shapes m) (sound : IsSound m) where
    empty_walk : {X : Shape} {j align : ℕ} {pending : List ℕ} {depth : Option ℕ} {stop p start : ℕ} {seen : Seen} → NodeStandsFor s shapes X j → Sized m j (size_of s.layouts X) align → size_of s.layouts X ≡ 0 → p ≤ length m.bytes.now → Walk s m.bytes.now pending depth stop p X start seen start seen
    empty_walk {j = j} st k e room =
        let t = sized_takes k (omega (arith, e)) in
        let size_is = t.size_is ∙ ap Some e in
        let made = r.made j t.node 0 t.at size_is in
        stands_walk st (empty_node t.node.kind (empty_kind m j t.node.kind (sound.fits j t.node 0 t.at size_is)) made.1 (omega (arith, made.0, room)))

    empty_run : {X : Shape} {j align : ℕ} {pending : List ℕ} {depth : Option ℕ} {stop start : ℕ} {seen : Seen} (n p : ℕ) → NodeStandsFor s shapes X j → Sized m j (size_of s.layouts X) align → size_of s.layouts X ≡ 0 → p ≤ length m.bytes.now → WalkRun s m.bytes.now pending depth stop p n X start seen start seen
    empty_run zero p st k e room = walk_none
    empty_run (suc n) p st k e room = walk_element (empty_walk st k e room) (empty_run n _ st k e (omega (arith, e)))

    empty_some : {X : Shape} {j align : ℕ} {pending : List ℕ} {depth : Option ℕ} {stop start : ℕ} {seen : Seen} (n p : ℕ) → NodeStandsFor s shapes X j → Sized m j (size_of s.layouts X) align → n * size_of s.layouts X ≡ 0 → p ≤ length m.bytes.now → WalkRun s m.bytes.now pending depth stop p n X start seen start seen
    empty_some zero p st k e room = walk_none
    empty_some {X = X} (suc n) p st k e room = empty_run (suc n) p st k (eq_of_mul-eq-mul_left (suc n) (omega arith) (size_of s.layouts X) 0 (e ∙ sym (mul-zero (suc n)))) room

    empty_case : {target : PointeeKind} {order : Option Key} {j : ℕ} {P : Pointee} {pending : List ℕ} {depth : Option ℕ} {t start : ℕ} {seen : Seen} (l : ℕ) → ((key : KeyExpr) → target ≢ EntriesOf key) → Points s shapes m target order j P → pointee_size s P l ≡ 0 → t ≤ length m.bytes.now → WalkContents s m.bytes.now pending depth t t order P l start seen start seen
    empty_case l plain (points_one k st) e room = walk_one (empty_walk st k e room)
    empty_case l plain (points_run k st) e room = walk_run (empty_some l _ st k e room)
    empty_case l plain (points_entries {key = key} k st) e room = absurd (plain key refl)
    empty_case {t = t} l plain points_text e room = walk_text (empty_text m.bytes.now t l e)

    -- entries without a byte: a key and a value that are there, and a second key that isn't behind the first
    empty_entry : {V : Shape} {j align : ℕ} {pending : List ℕ} {depth : Option ℕ} {stop p start : ℕ} {seen : Seen} (K : Key) → (key_size K ≡ 0) × (size_of s.layouts V ≡ 0) × (up (size_of s.layouts (key_shape K)) (align_of s.layouts V) ≡ 0) → NodeStandsFor s shapes V j → Sized m j (size_of s.layouts V) align → p ≤ length m.bytes.now
        → Walk s m.bytes.now pending depth stop p (entry_of K V) start seen start seen
    empty_entry {V = V} K none st k room = walk_entry s m.bytes.now K V (empty_key s m.bytes.now K none.0) (rw none.2 (empty_walk st k none.1 (omega (arith, room))))

    lone_case : {V : Shape} {j : ℕ} {pending : List ℕ} {depth : Option ℕ} {t start : ℕ} {seen : Seen} (K : Key) (l : ℕ) → l ≤ 1 → l * size_of s.layouts (entry_of K V) ≡ 0 → NodeStandsFor s shapes V j → Sized m j (size_of s.layouts V) (align_of s.layouts V) → t ≤ length m.bytes.now
        → WalkContents s m.bytes.now pending depth t t (Some K) (run (entry_of K V)) l start seen start seen
    lone_case K zero few e st k room = walk_entries walk_none tt
    lone_case {V = V} K (suc zero) few e st k room =
        let none = empty_parts s.layouts K V (rw (← k.align_is) k.node.positive) (omega (arith, e)) in
        walk_entries (walk_element (empty_entry K none st k room) walk_none) (tt, tt)
    lone_case K (suc (suc l)) few e st k room = absurd (omega arith)

    equal_case : {V : Shape} {j : ℕ} {pending : List ℕ} {depth : Option ℕ} {t start : ℕ} {seen : Seen} (K : Key) (l : ℕ) → 1 < l → l * size_of s.layouts (entry_of K V) ≡ 0 → NodeStandsFor s shapes V j → Sized m j (size_of s.layouts V) (align_of s.layouts V) → t ≤ length m.bytes.now
        → TripsContents s m.bytes.now pending depth t t (Some K) (run (entry_of K V)) l start seen unsorted
    equal_case K zero many e st k room = absurd (omega arith)
    equal_case K (suc zero) many e st k room = absurd (omega arith)
    equal_case {V = V} K (suc (suc l)) many e st k room =
        let lt : 0 < align_of s.layouts V = rw (← k.align_is) k.node.positive in
        let whole : size_of s.layouts (entry_of K V) ≡ 0 = eq_of_mul-eq-mul_left (suc (suc l)) (omega arith) (size_of s.layouts (entry_of K V)) 0 (e ∙ sym (mul-zero (suc (suc l)))) in
        let none = empty_parts s.layouts K V lt whole in
        trips_entries (trips_later_entry (empty_entry K none st k room) tt (trips_order (empty_key s m.bytes.now K none.0) (empty_order m.bytes.now _ _ K none.0)))

    mutual
      pub node_says : {pending : List ℕ} {depth : Option ℕ} {stop i p start z : ℕ} {seen : Seen} {o : Outcome} → NodeRuns m pending depth stop i p start seen o → Takes m i z → stop ≤ length m.bytes.now → NodeSays pending depth stop i p start seen o
      node_says (run_free h t room) k le = let made = made_of r h t in free_case made.1 (omega (arith, made.0, room))
      node_says (run_leaf h legal) k le = leaf_case (made_of r h k).1 legal
      node_says (run_illegal h wrong) k le = illegal_case (made_of r h k).1 wrong
      node_says (run_record {o = o} h v) k le = record_case _ _ _ _ _ _ o (made_of r h k).1 (λ ps st. parts_say v st le)
      node_says (run_choice {o = o} h lt at v) k le = choice_case _ _ _ _ _ _ o (made_of r h k).1 refl lt at (λ ps st. parts_say v st le)
      node_says (run_tag h none) k le = tag_case (made_of r h k).1 none
      node_says (run_array {o = o} h v) k le = array_case _ _ _ _ _ _ o (made_of r h k).1 (λ Y st t. elements_say v st t le)
      node_says (run_pointer {p = p} {o = o} {target = target} h v) k le =
          pointer_case _ _ _ p _ _ o (made_of r h k).1 (λ order P points. rw (length_is p points) at (enter_says None refl _ v points (counts_of m.bytes.now p target) le))
      node_says (run_str {o = o} h v) k le = str_case _ _ _ _ _ _ o (made_of r h k).1 (string_says v le)
      node_says (run_shared {p = p} {o = o} {target = target} h v) k le = shared_case _ _ _ p _ _ o (made_of r h k).1 (λ shared_type at points. follow_says shared_type v at points (counts_of m.bytes.now p target) le)
      node_says (run_null h e) k le = null_case (made_of r h k).1 e
      node_says (run_weak {p = p} {o = o} {target = target} h some v) k le = weak_case _ _ _ p _ _ o (made_of r h k).1 some (λ shared_type at points. follow_says shared_type v at points (counts_of m.bytes.now p target) le)

      pub string_says : {pending : List ℕ} {depth : Option ℕ} {stop j p start : ℕ} {seen : Seen} {o : Outcome} → StringRuns m pending depth stop j p start seen o → stop ≤ length m.bytes.now → ShapeSays str pending depth stop p start seen o
      string_says (string_inline out utf) le = walk_inline out utf
      string_says (string_no_text out wrong) le = trips_inline out wrong
      string_says (string_short out few) le = trips_short out few
      string_says (string_out_of_line {o = o} out long v) le = string_case _ _ _ _ _ _ o out long (enter_says None refl _ v points_text refl le)

      pub key_says : {pending : List ℕ} {depth : Option ℕ} {stop j p start : ℕ} {seen : Seen} {key : KeyExpr} {o : Outcome} → KeyRuns m pending depth stop key j p start seen o → stop ≤ length m.bytes.now → ShapeSays (key_shape (key_of key)) pending depth stop p start seen o
      key_says (key_leaf legal) le = walk_leaf legal
      key_says (key_illegal wrong) le = trips_leaf wrong
      key_says (key_string v) le = string_says v le

      -- a key for itself, and its order: a walk of it and that it comes behind, or a fault of the entries
      pub order_says : {pending : List ℕ} {depth : Option ℕ} {stop j p start : ℕ} {before : Option ℕ} {seen : Seen} {key : KeyExpr} {o : Outcome} (V : Shape) → OrderRuns m pending depth stop key j before p start seen o → stop ≤ length m.bytes.now
          → OutcomeSays (λ later last. Walk s m.bytes.now pending depth stop p (key_shape (key_of key)) start seen later last × ComesBehind (key_of key) m.bytes.now before p) (λ e. (n : ℕ) → TripsEntries s m.bytes.now pending depth stop before p (suc n) (key_of key) V start seen e) o
      order_says V (order_key v) le = λ n. trips_key (key_says v le)
      order_says V (order_wrong v wrong) le = λ n. trips_order (key_says v le) wrong
      order_says V (order_kept v behind) le = (key_says v le, behind)

      pub entries_say : {pending : List ℕ} {depth : Option ℕ} {stop j n p start : ℕ} {before : Option ℕ} {seen : Seen} {key : KeyExpr} {V : Shape} {o : Outcome} → EntriesRun m pending depth stop key j before n p start seen o → NodeStandsFor s shapes V j → Sized m j (size_of s.layouts V) (align_of s.layouts V) → stop ≤ length m.bytes.now → EntriesSay n (key_of key) V before pending depth stop p start seen o
      entries_say (entries_end {n = n} {before = before} {key = key} e) st k le = entries_none (key_of key) before n e
      entries_say {V = V} (entries_key {n = n} lt v) st k le = entries_key_case n lt (order_says V v le)
      entries_say {V = V} (entries_value {n = n} lt v takes w) st k le =
          let q = order_says V v le in let at = entry_is V k takes in
          entries_value_case n lt q.0 q.1 at.0 (stands_trips st (node_says w at.2 le))
      entries_say {V = V} (entries_next {n = n} {before = before} {key = key} {o = o} lt v takes w vs) st k le =
          let q = order_says V v le in let at = entry_is V k takes in
          entries_next_case (key_of key) before n o lt q.0 q.1 at.0 at.1 (stands_walk st (node_says w at.2 le)) (entries_say vs st k le)

      pub follow_says : {pending : List ℕ} {depth : Option ℕ} {stop k j n l start : ℕ} {target : PointeeKind} {where_to : ℤ} {seen : Seen} {o : Outcome} (shared_type : SharedType) → FollowRuns m pending depth stop k target j n l where_to start seen o → IsAt m.shared_types.now k shared_type → Points s shapes m target None j (pointee_of shared_type.pointee) → Counts target n l → stop ≤ length m.bytes.now → FollowSays (sorted shared_type where_to l) pending depth stop start seen o
      follow_says shared_type (follow_before {l = l} {o = o} {where_to = where_to} nowhere v) at h c le = before_case _ _ _ _ _ shared_type where_to l o nowhere (enter_says (Some (flavor_of shared_type.flavor)) refl l v h c le)
      follow_says shared_type (runs_new {l = l} {o = o} {where_to = where_to} is e none v) at h c le =
          new_case _ _ _ _ _ shared_type where_to l o (same_at is at) e none (enter_says (Some (flavor_of shared_type.flavor)) refl l v h c le)
      follow_says shared_type (runs_again {l = l} {where_to = where_to} is e known free) at h c le = again_case shared_type where_to l (same_at is at) e known free
      follow_says shared_type (follow_type {l = l} {where_to = where_to} is e known other) at h c le = type_case shared_type where_to l (same_at is at) e known other
      follow_says shared_type (follow_length {l = l} {where_to = where_to} is e known alike other) at h c le = length_case shared_type where_to l (same_at is at) e known alike other
      follow_says shared_type (follow_cycle {l = l} {where_to = where_to} is e known within none) at h c le = cycle_case shared_type where_to l (same_at is at) e known within none

      pub parts_say : {pending : List ℕ} {depth : Option ℕ} {stop a b p start at : ℕ} {seen : Seen} {o : Outcome} {ps : Parts} → PartsRun m pending depth stop a b p start seen o → PartsStand s shapes m a b at ps → stop ≤ length m.bytes.now → PartsSay at ps pending depth stop p start seen o
      parts_say (parts_end le) (parts_over h) room = walk_no_part
      parts_say (parts_end le) (parts_more lt x off st t rest) room = absurd (omega arith)
      parts_say (parts_next {o = o} lt at v vs) (parts_over h) room = absurd (omega arith)
      parts_say (parts_next {o = o} lt at v vs) (parts_more less x off st t rest) room =
          let same = same_at at x in
          let w = node_says v (rw (← ap (λ q. q.node) same) at t) room in
          part_case _ _ _ o st (rw (same, off) at w) (parts_say vs rest room)
      parts_say (parts_stop lt at v) (parts_over h) room = absurd (omega arith)
      parts_say (parts_stop lt at v) (parts_more less x off st t rest) room =
          let same = same_at at x in
          let w = node_says v (rw (← ap (λ q. q.node) same) at t) room in
          trips_first (stands_trips st (rw (same, off) at w))

      pub elements_say : {X : Shape} {pending : List ℕ} {depth : Option ℕ} {stop j n p start : ℕ} {seen : Seen} {o : Outcome} → ElementsRun m pending depth stop j n p start seen o → NodeStandsFor s shapes X j → Takes m j (size_of s.layouts X) → stop ≤ length m.bytes.now → RunSays n X pending depth stop p start seen o
      elements_say (elements_end {n = n} e) st t le = none_case n e
      elements_say (elements_next {n = n} {p = p} {o = o} lt t' v vs) st t le =
          element_case n p o lt st (take_same t t') (node_says v t le) (elements_say vs st t le)
      elements_say (elements_free {n = n} {p = p} h t' room) st t le = let made = made_of r h t in free_run n p st made.1 made.0 (rw (take_same t' t) at room)
      elements_say (elements_stop {n = n} {p = p} lt v) st t le = element_stop_case n p lt st (node_says v t le)

      pub enter_says : {pending : List ℕ} {depth : Option ℕ} {stop j n start : ℕ} {target : PointeeKind} {order : Option Key} {where_to : ℤ} {seen : Seen} {o : Outcome} {P : Pointee} (sharing : Option Flavor) → cond (is_some sharing) None order ≡ order → (l : ℕ) → EnterRuns m pending depth stop target j n where_to start seen o → Points s shapes m target order j P → Counts target n l → stop ≤ length m.bytes.now → EnterSays (leading sharing order where_to P l) pending depth stop start seen o
      enter_says sharing kept l (enter_too_large {n = n} {where_to = where_to} g) h c le = too_large_case sharing where_to n l h c g
      enter_says sharing kept l (enter_outside {n = n} {where_to = where_to} g f) h c le = outside_case sharing where_to n l h c g f
      enter_says sharing kept l (enter_unaligned {n = n} {where_to = where_to} g e above below f) h c le = unaligned_case sharing where_to n l h c g e above below f
      enter_says sharing kept l (enter_too_deep {n = n} {where_to = where_to} g e above below aligned f) h c le = deep_case sharing where_to n l h c g e above below aligned f
      enter_says sharing kept l (enter_within {n = n} {where_to = where_to} g e above below aligned allowed v) h c le =
          within_case sharing where_to n l h c g e above below aligned allowed kept (contents_say l v h c (region_some n l h c g) (omega (arith, below, le)))
      enter_says sharing kept l (enter_stop {n = n} {where_to = where_to} g e above below aligned allowed v) h c le =
          stop_case sharing where_to n l h c g e above below aligned allowed kept (contents_say l v h c (region_some n l h c g) (omega (arith, below, le)))

      pub contents_say : {pending : List ℕ} {depth : Option ℕ} {j n z t start align : ℕ} {target : PointeeKind} {order : Option Key} {seen : Seen} {o : Outcome} {P : Pointee} (l : ℕ) → ContentsRun m pending depth target j n z t start seen o → Points s shapes m target order j P → Counts target n l → (z ≡ pointee_size s P l) × (z < 18446744073709551616) × (align ≡ pointee_align s P) → t ≤ length m.bytes.now → ContentsSay order P l t pending depth start seen o
      contents_say l (contents_empty e plain) h c k le = empty_case l plain h (sym k.0 ∙ e) le
      contents_say l (contents_one {o = o} lt v) (points_one sized st) c k le = one_case _ _ _ _ _ l o st (node_says v (sized_takes sized (omega (arith, k.0, k.1))) le)
      contents_say l (contents_run {n = n} {o = o} lt v) (points_run sized st) c k le =
          run_case _ _ _ _ _ _ l o (rw c at (elements_say v st (sized_takes sized (element_few n l _ _ c k.0 k.1 lt)) le))
      contents_say l (contents_lone {n = n} e few) (points_entries {key = key} sized st) c k le = lone_case (key_of key) l (rw c at few) (sym k.0 ∙ e) st sized le
      contents_say l (contents_equal {n = n} e many) (points_entries {key = key} sized st) c k le = equal_case (key_of key) l (rw c at many) (sym k.0 ∙ e) st sized le
      contents_say l (contents_entries {n = n} {o = o} lt v) (points_entries sized st) c k le = entries_case _ _ _ _ _ _ _ l o (rw c at (entries_say v st sized le))
      contents_say l (contents_text utf) points_text c k le = walk_text (rw k.0 at utf)
      contents_say l (contents_no_text wrong) points_text c k le = trips_text (rw k.0 at wrong)
