-- How a check goes over a plan: one rule for each thing that it finds.
use Rattle.std.specs.Prelude.{◌≡◌, ◌≢◌, ◌⊎◌, ℕ, zero, suc, ◌+◌, ◌-◌, ◌*◌, ◌%◌, ◌<◌, ◌≤◌, max, ℤ, pos, ◌+ℤ◌, List, [], ◌∷◌, length, slice_index, Option, Some, None, IsUtf8, Contains, IsTrue, Bool, true, false}
use Rattle.std.specs.FinMap.{get, insert}
use Rattle.archive_check.specs.declared.format.error.Error.{Error}
use Rattle.archive_check.specs.declared.format.error.Error.TheVariants.{InvalidDiscriminant}
use Rattle.archive_check.specs.declared.format.expr.Kind.{Kind as KindExpr}
use Rattle.archive_check.specs.declared.format.expr.Key.{Key as KeyExpr}
use Rattle.archive_check.specs.declared.format.expr.Key.TheVariants.{Leaf as LeafKey, Str as StrKey}
use Rattle.archive_schema.specs.declared.plan.PointeeKind.{PointeeKind}
use Rattle.archive_schema.specs.declared.plan.PointeeKind.TheVariants.{One, Run, Text, Entries as EntriesOf}
use Rattle.archive_schema.specs.declared.plan.NodeKind.{NodeKind}
use Rattle.archive_schema.specs.declared.plan.NodeKind.TheVariants.{Free, Leaf, Record, Choice, Array, Pointer as PointerNode, Str, Shared, Weak}
use Rattle.archive_schema.specs.declared.plan.Node.{Node}
use Rattle.archive_schema.specs.declared.plan.Part.{Part}
use Rattle.archive_schema.specs.declared.plan.Span.{Span}
use Rattle.archive_check.specs.declared.context.positions.SharedType.{SharedType}
use Rattle.std.specs.Borrow.{Bor}
use Rattle.archive_schema.specs.declared.check.Checker.{Checker}
use Rattle.archive_schema.specs.declared.check.worklist.Work.{Work}
use Rattle.archive_schema.specs.declared.check.worklist.Work.TheVariants.{Part as PartWork, Parts, Elements, Entries, Leave, Finish}
use Rattle.archive_check.specs.context.PositionStates.{SameType}
use Rattle.archive_check.specs.Layout.{kind_size, key_size, key_align}
use Rattle.archive_check.specs.Keys.{ComesBehind}
use Rattle.archive_check.specs.Reads.{bytes_at, u32_at, i32_at, IsLegal, IsOutOfLine, before_end, decoded_length}
use Rattle.archive_check.specs.Expressions.{kind_of, key_of, flavor_of, pointee_of}
use Rattle.archive_check.specs.Depth.{Allows, inside}
use Rattle.archive_check.specs.Tour.{Seen, Entry}
use Rattle.archive_check.specs.Trail.{Fault, too_large, outside, unaligned, too_deep, cyclic, other_type, other_length, illegal, no_such_variant, no_text, no_string, unsorted}
use Rattle.archive_check.specs.Words.Elements.{IsAt}
use Rattle.archive_check.specs.Outcomes.{Outcome, done, refused}
use Rattle.archive_check.specs.Words.BoundedSizes.{times, rounded}
use Rattle.archive_schema.specs.plan.BoundedSizes.{sum_of}

abbrev pub pointer_bytes : PointeeKind → ℕ
pointer_bytes One = 4
pointer_bytes Run = 8
pointer_bytes Text = 8
pointer_bytes (EntriesOf key) = 8

-- The node at i does this.
pub record IsNode (m : Checker) (i : ℕ) (kind : NodeKind) : Type 0 where
  pub node : Node
  pub at : IsAt m.nodes.now i node
  pub kind_is : node.kind ≡ kind

-- The node at i takes so much.
pub record Takes (m : Checker) (i : ℕ) (z : ℕ) : Type 0 where
  pub node : Node
  pub at : IsAt m.nodes.now i node
  pub size_is : node.size ≡ Some z

-- Where the value begins in an entry of a key.
abbrev pub value_begin : KeyExpr → ℕ → Option ℕ
value_begin key align = rounded (Some (key_size (key_of key))) align

-- What each takes that a pointer leads to: the node itself, a text's byte, or an entry whose value the node is.
abbrev pub unit_align : PointeeKind → Node → ℕ
unit_align One node = node.align
unit_align Run node = node.align
unit_align Text node = 1
unit_align (EntriesOf key) node = max (key_align (key_of key)) node.align

abbrev pub unit_size : PointeeKind → Node → Option ℕ
unit_size One node = node.size
unit_size Run node = node.size
unit_size Text node = Some 1
unit_size (EntriesOf key) node = rounded (sum_of (value_begin key node.align) node.size) (max (key_align (key_of key)) node.align)

-- n of what a pointer leads to, whose node is at i.
pub record RegionIs (m : Checker) (target : PointeeKind) (i n : ℕ) (size : Option ℕ) (align : ℕ) : Type 0 where
  pub node : Node
  pub at : IsAt m.nodes.now i node
  pub size_is : times (unit_size target node) n ≡ size
  pub align_is : unit_align target node ≡ align

-- an entry of a key and of the node at i takes so much, and its value begins there.
pub record EntryTakes (m : Checker) (key : KeyExpr) (i offset size : ℕ) : Type 0 where
  pub node : Node
  pub at : IsAt m.nodes.now i node
  pub offset_is : value_begin key node.align ≡ Some offset
  pub size_is : unit_size (EntriesOf key) node ≡ Some size

-- Where the entry of this size begins that is before the one at p, if there is one.
abbrev pub before_at : Bool → ℕ → ℕ → Option ℕ
before_at false p size = None
before_at true p size = Some (p - size)

-- How many there are behind a pointer.
abbrev pub pointee_count : List ℕ → ℕ → PointeeKind → ℕ
pointee_count bytes p One = 1
pointee_count bytes p Run = u32_at bytes (p + 4)
pointee_count bytes p Text = u32_at bytes (p + 4)
pointee_count bytes p (EntriesOf key) = u32_at bytes (p + 4)

-- The length that stands in the pointer: 0 for one value.
abbrev pub pointee_length : List ℕ → ℕ → PointeeKind → ℕ
pointee_length bytes p One = 0
pointee_length bytes p Run = u32_at bytes (p + 4)
pointee_length bytes p Text = u32_at bytes (p + 4)
pointee_length bytes p (EntriesOf key) = u32_at bytes (p + 4)

-- How a pointer of the shared type and of this length is met.
abbrev pub entry_for : SharedType → ℕ → Entry
entry_for shared_type l = record { flavor = flavor_of shared_type.flavor; pointee = pointee_of shared_type.pointee; length = l }

-- The tag at p names the variant x, of those from a up to b.
abbrev pub IsVariant : Checker → ℕ → ℕ → ℕ → Span → Type 0
IsVariant m a b p x = (a + slice_index m.bytes.now p < b) × IsAt m.variants.now (a + slice_index m.bytes.now p) x

-- It names none, which is refused.
abbrev pub IsNoVariant : Checker → Bor (List ℕ) → ℕ → ℕ → ℕ → Error → Type 0
IsNoVariant m name a b p e = (b ≤ a + slice_index m.bytes.now p) × (e ≡ InvalidDiscriminant name (slice_index m.bytes.now p))

-- Pending, depth, stop, what, where, start, seen, outcome.
mutual
  pub data NodeRuns (m : Checker) : List ℕ → Option ℕ → ℕ → ℕ → ℕ → ℕ → Seen → Outcome → Type 0 where
    run_free : {pending : List ℕ} {depth : Option ℕ} {stop i p z start : ℕ} {seen : Seen}
        → IsNode m i Free
        → Takes m i z
        → p + z ≤ length m.bytes.now
        → NodeRuns m pending depth stop i p start seen (done start seen)
    run_leaf : {pending : List ℕ} {depth : Option ℕ} {stop i p start : ℕ} {seen : Seen} {kind : KindExpr}
        → IsNode m i (Leaf kind)
        → IsLegal (kind_of kind) (bytes_at m.bytes.now p (kind_size (kind_of kind)))
        → NodeRuns m pending depth stop i p start seen (done start seen)
    run_illegal : {pending : List ℕ} {depth : Option ℕ} {stop i p start : ℕ} {seen : Seen} {kind : KindExpr}
        → IsNode m i (Leaf kind)
        → (IsLegal (kind_of kind) (bytes_at m.bytes.now p (kind_size (kind_of kind))) → ⊥)
        → NodeRuns m pending depth stop i p start seen (refused (illegal (kind_of kind)))
    run_record : {pending : List ℕ} {depth : Option ℕ} {stop i p start a b : ℕ} {seen : Seen} {o : Outcome}
        → IsNode m i (Record a b)
        → PartsRun m pending depth stop a b p start seen o
        → NodeRuns m pending depth stop i p start seen o
    run_choice : {pending : List ℕ} {depth : Option ℕ} {stop i p start a b : ℕ} {seen : Seen} {o : Outcome} {name : Bor (List ℕ)} {x : Span}
        → IsNode m i (Choice name a b)
        → a + slice_index m.bytes.now p < b
        → IsAt m.variants.now (a + slice_index m.bytes.now p) x
        → PartsRun m pending depth stop x.first x.last p start seen o
        → NodeRuns m pending depth stop i p start seen o
    run_tag : {pending : List ℕ} {depth : Option ℕ} {stop i p start a b : ℕ} {seen : Seen} {name : Bor (List ℕ)}
        → IsNode m i (Choice name a b)
        → b ≤ a + slice_index m.bytes.now p
        → NodeRuns m pending depth stop i p start seen (refused (no_such_variant name.now (slice_index m.bytes.now p)))
    run_array : {pending : List ℕ} {depth : Option ℕ} {stop i p start n j : ℕ} {seen : Seen} {o : Outcome}
        → IsNode m i (Array n j)
        → ElementsRun m pending depth stop j n p start seen o
        → NodeRuns m pending depth stop i p start seen o
    run_pointer : {pending : List ℕ} {depth : Option ℕ} {stop i p start j : ℕ} {seen : Seen} {o : Outcome} {target : PointeeKind}
        → IsNode m i (PointerNode target j)
        → EnterRuns m pending depth stop target j (pointee_count m.bytes.now p target) (pos p +ℤ i32_at m.bytes.now p) start seen o
        → NodeRuns m pending depth stop i p start seen o
    run_str : {pending : List ℕ} {depth : Option ℕ} {stop i p start j : ℕ} {seen : Seen} {o : Outcome}
        → IsNode m i (Str j)
        → StringRuns m pending depth stop j p start seen o
        → NodeRuns m pending depth stop i p start seen o
    run_shared : {pending : List ℕ} {depth : Option ℕ} {stop i p start k j : ℕ} {seen : Seen} {o : Outcome} {target : PointeeKind}
        → IsNode m i (Shared k target j)
        → FollowRuns m pending depth stop k target j (pointee_count m.bytes.now p target) (pointee_length m.bytes.now p target) (pos p +ℤ i32_at m.bytes.now p) start seen o
        → NodeRuns m pending depth stop i p start seen o
    run_null : {pending : List ℕ} {depth : Option ℕ} {stop i p start k j : ℕ} {seen : Seen} {target : PointeeKind}
        → IsNode m i (Weak k target j)
        → i32_at m.bytes.now p ≡ pos 1
        → NodeRuns m pending depth stop i p start seen (done start seen)
    run_weak : {pending : List ℕ} {depth : Option ℕ} {stop i p start k j : ℕ} {seen : Seen} {o : Outcome} {target : PointeeKind}
        → IsNode m i (Weak k target j)
        → i32_at m.bytes.now p ≢ pos 1
        → FollowRuns m pending depth stop k target j (pointee_count m.bytes.now p target) (pointee_length m.bytes.now p target) (pos p +ℤ i32_at m.bytes.now p) start seen o
        → NodeRuns m pending depth stop i p start seen o

  -- A string, whose text's node is any.
  pub data StringRuns (m : Checker) : List ℕ → Option ℕ → ℕ → ℕ → ℕ → ℕ → Seen → Outcome → Type 0 where
    string_inline : {pending : List ℕ} {depth : Option ℕ} {stop p start j : ℕ} {seen : Seen}
        → (IsOutOfLine m.bytes.now p → ⊥)
        → IsUtf8 (before_end (bytes_at m.bytes.now p 8))
        → StringRuns m pending depth stop j p start seen (done start seen)
    string_no_text : {pending : List ℕ} {depth : Option ℕ} {stop p start j : ℕ} {seen : Seen}
        → (IsOutOfLine m.bytes.now p → ⊥)
        → (IsUtf8 (before_end (bytes_at m.bytes.now p 8)) → ⊥)
        → StringRuns m pending depth stop j p start seen (refused no_text)
    string_short : {pending : List ℕ} {depth : Option ℕ} {stop p start j : ℕ} {seen : Seen}
        → IsOutOfLine m.bytes.now p
        → decoded_length (u32_at m.bytes.now p) ≤ 8
        → StringRuns m pending depth stop j p start seen (refused no_string)
    string_out_of_line : {pending : List ℕ} {depth : Option ℕ} {stop p start j : ℕ} {seen : Seen} {o : Outcome}
        → IsOutOfLine m.bytes.now p
        → 8 < decoded_length (u32_at m.bytes.now p)
        → EnterRuns m pending depth stop Text j (decoded_length (u32_at m.bytes.now p)) (pos p +ℤ i32_at m.bytes.now (p + 4)) start seen o
        → StringRuns m pending depth stop j p start seen o

  -- A key for itself.
  pub data KeyRuns (m : Checker) : List ℕ → Option ℕ → ℕ → KeyExpr → ℕ → ℕ → ℕ → Seen → Outcome → Type 0 where
    key_leaf : {pending : List ℕ} {depth : Option ℕ} {stop j p start : ℕ} {seen : Seen} {kind : KindExpr}
        → IsLegal (kind_of kind) (bytes_at m.bytes.now p (kind_size (kind_of kind)))
        → KeyRuns m pending depth stop (LeafKey kind) j p start seen (done start seen)
    key_illegal : {pending : List ℕ} {depth : Option ℕ} {stop j p start : ℕ} {seen : Seen} {kind : KindExpr}
        → (IsLegal (kind_of kind) (bytes_at m.bytes.now p (kind_size (kind_of kind))) → ⊥)
        → KeyRuns m pending depth stop (LeafKey kind) j p start seen (refused (illegal (kind_of kind)))
    key_string : {pending : List ℕ} {depth : Option ℕ} {stop j p start : ℕ} {seen : Seen} {o : Outcome}
        → StringRuns m pending depth stop j p start seen o
        → KeyRuns m pending depth stop StrKey j p start seen o

  -- A key, and whether it comes behind the one before it.
  pub data OrderRuns (m : Checker) : List ℕ → Option ℕ → ℕ → KeyExpr → ℕ → Option ℕ → ℕ → ℕ → Seen → Outcome → Type 0 where
    order_key : {pending : List ℕ} {depth : Option ℕ} {stop j p start : ℕ} {before : Option ℕ} {seen : Seen} {key : KeyExpr} {e : Fault}
        → KeyRuns m pending depth stop key j p start seen (refused e)
        → OrderRuns m pending depth stop key j before p start seen (refused e)
    order_wrong : {pending : List ℕ} {depth : Option ℕ} {stop j p start mid : ℕ} {before : Option ℕ} {seen known : Seen} {key : KeyExpr}
        → KeyRuns m pending depth stop key j p start seen (done mid known)
        → (ComesBehind (key_of key) m.bytes.now before p → ⊥)
        → OrderRuns m pending depth stop key j before p start seen (refused unsorted)
    order_kept : {pending : List ℕ} {depth : Option ℕ} {stop j p start mid : ℕ} {before : Option ℕ} {seen known : Seen} {key : KeyExpr}
        → KeyRuns m pending depth stop key j p start seen (done mid known)
        → ComesBehind (key_of key) m.bytes.now before p
        → OrderRuns m pending depth stop key j before p start seen (done mid known)

  -- n entries, the next of them at p.
  pub data EntriesRun (m : Checker) : List ℕ → Option ℕ → ℕ → KeyExpr → ℕ → Option ℕ → ℕ → ℕ → ℕ → Seen → Outcome → Type 0 where
    entries_end : {pending : List ℕ} {depth : Option ℕ} {stop j n p start : ℕ} {before : Option ℕ} {seen : Seen} {key : KeyExpr}
        → n ≡ 0
        → EntriesRun m pending depth stop key j before n p start seen (done start seen)
    entries_key : {pending : List ℕ} {depth : Option ℕ} {stop j n p start : ℕ} {before : Option ℕ} {seen : Seen} {key : KeyExpr} {e : Fault}
        → 0 < n
        → OrderRuns m pending depth stop key j before p start seen (refused e)
        → EntriesRun m pending depth stop key j before n p start seen (refused e)
    entries_value : {pending : List ℕ} {depth : Option ℕ} {stop j n p offset size start mid : ℕ} {before : Option ℕ} {seen known : Seen} {key : KeyExpr} {e : Fault}
        → 0 < n
        → OrderRuns m pending depth stop key j before p start seen (done mid known)
        → EntryTakes m key j offset size
        → NodeRuns m pending depth stop j (p + offset) mid known (refused e)
        → EntriesRun m pending depth stop key j before n p start seen (refused e)
    entries_next : {pending : List ℕ} {depth : Option ℕ} {stop j n p offset size start mid later : ℕ} {before : Option ℕ} {seen known more : Seen} {key : KeyExpr} {o : Outcome}
        → 0 < n
        → OrderRuns m pending depth stop key j before p start seen (done mid known)
        → EntryTakes m key j offset size
        → NodeRuns m pending depth stop j (p + offset) mid known (done later more)
        → EntriesRun m pending depth stop key j (Some p) (n - 1) (p + size) later more o
        → EntriesRun m pending depth stop key j before n p start seen o

  -- A shared pointer is followed: its shared type, target, pointee, count, length and position.
  pub data FollowRuns (m : Checker) : List ℕ → Option ℕ → ℕ → ℕ → PointeeKind → ℕ → ℕ → ℕ → ℤ → ℕ → Seen → Outcome → Type 0 where
    -- a position before the buffer was never met, and is outside
    follow_before : {pending : List ℕ} {depth : Option ℕ} {stop k j n l start : ℕ} {seen : Seen} {o : Outcome} {target : PointeeKind} {where_to : ℤ}
        → ((t : ℕ) → where_to ≢ pos t)
        → EnterRuns m pending depth stop target j n where_to start seen o
        → FollowRuns m pending depth stop k target j n l where_to start seen o
    follow_new : {pending : List ℕ} {depth : Option ℕ} {stop k j n l start t : ℕ} {seen : Seen} {o : Outcome} {target : PointeeKind} {where_to : ℤ} {shared_type : SharedType}
        → IsAt m.shared_types.now k shared_type
        → where_to ≡ pos t
        → get seen t ≡ None
        → EnterRuns m (t ∷ pending) depth stop target j n where_to start (insert seen t (entry_for shared_type l)) o
        → FollowRuns m pending depth stop k target j n l where_to start seen o
    follow_again : {pending : List ℕ} {depth : Option ℕ} {stop k j n l start t : ℕ} {seen : Seen} {target : PointeeKind} {where_to : ℤ} {shared_type : SharedType}
        → IsAt m.shared_types.now k shared_type
        → where_to ≡ pos t
        → get seen t ≡ Some (entry_for shared_type l)
        → (Contains pending t → ⊥) ⊎ IsTrue shared_type.flavor.cycles
        → FollowRuns m pending depth stop k target j n l where_to start seen (done start seen)
    follow_type : {pending : List ℕ} {depth : Option ℕ} {stop k j n l start t : ℕ} {seen : Seen} {target : PointeeKind} {where_to : ℤ} {shared_type : SharedType} {old : Entry}
        → IsAt m.shared_types.now k shared_type
        → where_to ≡ pos t
        → get seen t ≡ Some old
        → (SameType old (entry_for shared_type l) → ⊥)
        → FollowRuns m pending depth stop k target j n l where_to start seen (refused other_type)
    follow_length : {pending : List ℕ} {depth : Option ℕ} {stop k j n l start t : ℕ} {seen : Seen} {target : PointeeKind} {where_to : ℤ} {shared_type : SharedType} {old : Entry}
        → IsAt m.shared_types.now k shared_type
        → where_to ≡ pos t
        → get seen t ≡ Some old
        → SameType old (entry_for shared_type l)
        → old.length ≢ l
        → FollowRuns m pending depth stop k target j n l where_to start seen (refused other_length)
    follow_cycle : {pending : List ℕ} {depth : Option ℕ} {stop k j n l start t : ℕ} {seen : Seen} {target : PointeeKind} {where_to : ℤ} {shared_type : SharedType}
        → IsAt m.shared_types.now k shared_type
        → where_to ≡ pos t
        → get seen t ≡ Some (entry_for shared_type l)
        → Contains pending t
        → shared_type.flavor.cycles ≡ false
        → FollowRuns m pending depth stop k target j n l where_to start seen (refused cyclic)

  -- The parts from a to b, of what begins at p.
  pub data PartsRun (m : Checker) : List ℕ → Option ℕ → ℕ → ℕ → ℕ → ℕ → ℕ → Seen → Outcome → Type 0 where
    parts_end : {pending : List ℕ} {depth : Option ℕ} {stop a b p start : ℕ} {seen : Seen}
        → b ≤ a
        → PartsRun m pending depth stop a b p start seen (done start seen)
    parts_next : {pending : List ℕ} {depth : Option ℕ} {stop a b p start mid : ℕ} {seen known : Seen} {o : Outcome} {x : Part}
        → a < b
        → IsAt m.parts.now a x
        → NodeRuns m pending depth stop x.node (p + x.offset) start seen (done mid known)
        → PartsRun m pending depth stop (a + 1) b p mid known o
        → PartsRun m pending depth stop a b p start seen o
    parts_stop : {pending : List ℕ} {depth : Option ℕ} {stop a b p start : ℕ} {seen : Seen} {e : Fault} {x : Part}
        → a < b
        → IsAt m.parts.now a x
        → NodeRuns m pending depth stop x.node (p + x.offset) start seen (refused e)
        → PartsRun m pending depth stop a b p start seen (refused e)

  -- n elements.
  pub data ElementsRun (m : Checker) : List ℕ → Option ℕ → ℕ → ℕ → ℕ → ℕ → ℕ → Seen → Outcome → Type 0 where
    elements_end : {pending : List ℕ} {depth : Option ℕ} {stop j n p start : ℕ} {seen : Seen}
        → n ≡ 0
        → ElementsRun m pending depth stop j n p start seen (done start seen)
    elements_next : {pending : List ℕ} {depth : Option ℕ} {stop j n p z start mid : ℕ} {seen known : Seen} {o : Outcome}
        → 0 < n
        → Takes m j z
        → NodeRuns m pending depth stop j p start seen (done mid known)
        → ElementsRun m pending depth stop j (n - 1) (p + z) mid known o
        → ElementsRun m pending depth stop j n p start seen o
    -- a run whose elements may be any bytes is one step
    elements_free : {pending : List ℕ} {depth : Option ℕ} {stop j n p z start : ℕ} {seen : Seen}
        → IsNode m j Free
        → Takes m j z
        → p + n * z ≤ length m.bytes.now
        → ElementsRun m pending depth stop j n p start seen (done start seen)
    elements_stop : {pending : List ℕ} {depth : Option ℕ} {stop j n p start : ℕ} {seen : Seen} {e : Fault}
        → 0 < n
        → NodeRuns m pending depth stop j p start seen (refused e)
        → ElementsRun m pending depth stop j n p start seen (refused e)

  -- A region of n is entered where the pointer says.
  pub data EnterRuns (m : Checker) : List ℕ → Option ℕ → ℕ → PointeeKind → ℕ → ℕ → ℤ → ℕ → Seen → Outcome → Type 0 where
    enter_too_large : {pending : List ℕ} {depth : Option ℕ} {stop j n start align : ℕ} {seen : Seen} {target : PointeeKind} {where_to : ℤ}
        → RegionIs m target j n None align
        → EnterRuns m pending depth stop target j n where_to start seen (refused too_large)
    enter_outside : {pending : List ℕ} {depth : Option ℕ} {stop j n z start align : ℕ} {seen : Seen} {target : PointeeKind} {where_to : ℤ}
        → RegionIs m target j n (Some z) align
        → ((t : ℕ) → where_to ≡ pos t → start ≤ t → t + z ≤ stop → ⊥)
        → EnterRuns m pending depth stop target j n where_to start seen (refused (outside where_to z start stop))
    enter_unaligned : {pending : List ℕ} {depth : Option ℕ} {stop j n z start align t : ℕ} {seen : Seen} {target : PointeeKind} {where_to : ℤ}
        → RegionIs m target j n (Some z) align
        → where_to ≡ pos t
        → start ≤ t
        → t + z ≤ stop
        → t % align ≢ 0
        → EnterRuns m pending depth stop target j n where_to start seen (refused (unaligned t align))
    enter_too_deep : {pending : List ℕ} {depth : Option ℕ} {stop j n z start align t : ℕ} {seen : Seen} {target : PointeeKind} {where_to : ℤ}
        → RegionIs m target j n (Some z) align
        → where_to ≡ pos t
        → start ≤ t
        → t + z ≤ stop
        → t % align ≡ 0
        → (Allows depth 1 → ⊥)
        → EnterRuns m pending depth stop target j n where_to start seen (refused too_deep)
    enter_within : {pending : List ℕ} {depth : Option ℕ} {stop j n z start mid align t : ℕ} {seen known : Seen} {target : PointeeKind} {where_to : ℤ}
        → RegionIs m target j n (Some z) align
        → where_to ≡ pos t
        → start ≤ t
        → t + z ≤ stop
        → t % align ≡ 0
        → Allows depth 1
        → ContentsRun m pending (inside depth) target j n z t start seen (done mid known)
        → EnterRuns m pending depth stop target j n where_to start seen (done (t + z) known)
    enter_stop : {pending : List ℕ} {depth : Option ℕ} {stop j n z start align t : ℕ} {seen : Seen} {e : Fault} {target : PointeeKind} {where_to : ℤ}
        → RegionIs m target j n (Some z) align
        → where_to ≡ pos t
        → start ≤ t
        → t + z ≤ stop
        → t % align ≡ 0
        → Allows depth 1
        → ContentsRun m pending (inside depth) target j n z t start seen (refused e)
        → EnterRuns m pending depth stop target j n where_to start seen (refused e)

  -- A region at t of n, of z bytes.
  pub data ContentsRun (m : Checker) : List ℕ → Option ℕ → PointeeKind → ℕ → ℕ → ℕ → ℕ → ℕ → Seen → Outcome → Type 0 where
    contents_empty : {pending : List ℕ} {depth : Option ℕ} {target : PointeeKind} {j n z t start : ℕ} {seen : Seen}
        → z ≡ 0
        → ((key : KeyExpr) → target ≢ EntriesOf key)
        → ContentsRun m pending depth target j n z t start seen (done start seen)
    contents_one : {pending : List ℕ} {depth : Option ℕ} {j n z t start : ℕ} {seen : Seen} {o : Outcome}
        → 0 < z
        → NodeRuns m pending depth t j t start seen o
        → ContentsRun m pending depth One j n z t start seen o
    contents_run : {pending : List ℕ} {depth : Option ℕ} {j n z t start : ℕ} {seen : Seen} {o : Outcome}
        → 0 < z
        → ElementsRun m pending depth t j n t start seen o
        → ContentsRun m pending depth Run j n z t start seen o
    contents_entries : {pending : List ℕ} {depth : Option ℕ} {j n z t start : ℕ} {seen : Seen} {key : KeyExpr} {o : Outcome}
        → 0 < z
        → EntriesRun m pending depth t key j None n t start seen o
        → ContentsRun m pending depth (EntriesOf key) j n z t start seen o
    -- entries without a byte have equal keys, so there may be one at most
    contents_lone : {pending : List ℕ} {depth : Option ℕ} {j n z t start : ℕ} {seen : Seen} {key : KeyExpr}
        → z ≡ 0
        → n ≤ 1
        → ContentsRun m pending depth (EntriesOf key) j n z t start seen (done start seen)
    contents_equal : {pending : List ℕ} {depth : Option ℕ} {j n z t start : ℕ} {seen : Seen} {key : KeyExpr}
        → z ≡ 0
        → 1 < n
        → ContentsRun m pending depth (EntriesOf key) j n z t start seen (refused unsorted)
    contents_text : {pending : List ℕ} {depth : Option ℕ} {j n z t start : ℕ} {seen : Seen}
        → IsUtf8 (bytes_at m.bytes.now t z)
        → ContentsRun m pending depth Text j n z t start seen (done start seen)
    contents_no_text : {pending : List ℕ} {depth : Option ℕ} {j n z t start : ℕ} {seen : Seen}
        → (IsUtf8 (bytes_at m.bytes.now t z) → ⊥)
        → ContentsRun m pending depth Text j n z t start seen (refused no_text)

-- The levels that are left inside a region, and n regions in it.
abbrev pub deeper : ℕ → Option ℕ → Option ℕ
deeper zero depth = inside depth
deeper (suc n) depth = inside (deeper n depth)

-- The whole work list.
pub data ListRuns (m : Checker) : List ℕ → Option ℕ → ℕ → List Work → ℕ → Seen → Outcome → Type 0 where
  list_end : {pending : List ℕ} {depth : Option ℕ} {stop start : ℕ} {seen : Seen} → ListRuns m pending depth stop [] start seen (done start seen)
  list_part : {pending : List ℕ} {depth : Option ℕ} {stop i p start mid : ℕ} {seen known : Seen} {o : Outcome} {work : List Work}
      → NodeRuns m pending depth stop i p start seen (done mid known)
      → ListRuns m pending depth stop work mid known o
      → ListRuns m pending depth stop (PartWork i p ∷ work) start seen o
  list_part_stop : {pending : List ℕ} {depth : Option ℕ} {stop i p start : ℕ} {seen : Seen} {e : Fault} {work : List Work}
      → NodeRuns m pending depth stop i p start seen (refused e)
      → ListRuns m pending depth stop (PartWork i p ∷ work) start seen (refused e)
  list_parts : {pending : List ℕ} {depth : Option ℕ} {stop a b p start mid : ℕ} {seen known : Seen} {o : Outcome} {work : List Work}
      → PartsRun m pending depth stop a b p start seen (done mid known)
      → ListRuns m pending depth stop work mid known o
      → ListRuns m pending depth stop (Parts a b p ∷ work) start seen o
  list_parts_stop : {pending : List ℕ} {depth : Option ℕ} {stop a b p start : ℕ} {seen : Seen} {e : Fault} {work : List Work}
      → PartsRun m pending depth stop a b p start seen (refused e)
      → ListRuns m pending depth stop (Parts a b p ∷ work) start seen (refused e)
  list_elements : {pending : List ℕ} {depth : Option ℕ} {stop j n p start mid : ℕ} {seen known : Seen} {o : Outcome} {work : List Work}
      → ElementsRun m pending depth stop j n p start seen (done mid known)
      → ListRuns m pending depth stop work mid known o
      → ListRuns m pending depth stop (Elements j n p ∷ work) start seen o
  list_elements_stop : {pending : List ℕ} {depth : Option ℕ} {stop j n p start : ℕ} {seen : Seen} {e : Fault} {work : List Work}
      → ElementsRun m pending depth stop j n p start seen (refused e)
      → ListRuns m pending depth stop (Elements j n p ∷ work) start seen (refused e)
  list_entries : {pending : List ℕ} {depth : Option ℕ} {stop j n p offset size start mid : ℕ} {later : Bool} {seen known : Seen} {key : KeyExpr} {o : Outcome} {work : List Work}
      → EntryTakes m key j offset size
      → EntriesRun m pending depth stop key j (before_at later p size) n p start seen (done mid known)
      → ListRuns m pending depth stop work mid known o
      → ListRuns m pending depth stop (Entries key j n p later ∷ work) start seen o
  list_entries_stop : {pending : List ℕ} {depth : Option ℕ} {stop j n p offset size start : ℕ} {later : Bool} {seen : Seen} {key : KeyExpr} {e : Fault} {work : List Work}
      → EntryTakes m key j offset size
      → EntriesRun m pending depth stop key j (before_at later p size) n p start seen (refused e)
      → ListRuns m pending depth stop (Entries key j n p later ∷ work) start seen (refused e)
  list_leave : {pending : List ℕ} {depth outer : Option ℕ} {stop x y n start : ℕ} {seen : Seen} {o : Outcome} {work : List Work}
      → depth ≡ deeper n outer
      → ListRuns m pending outer y work x seen o
      → ListRuns m pending depth stop (Leave x y n ∷ work) start seen o
  list_finish : {pending : List ℕ} {depth : Option ℕ} {stop k t start : ℕ} {seen : Seen} {o : Outcome} {work : List Work}
      → ListRuns m pending depth stop work start seen o
      → ListRuns m (t ∷ pending) depth stop (Finish k t ∷ work) start seen o
