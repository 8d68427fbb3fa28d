-- Why the writing of a value is refused.
use Rattle.std.specs.Prelude.{◌≡◌, ◌⊎◌, ℕ, ℤ, pos, suc, ◌+◌, ◌*◌, ◌-◌, ◌^◌, ◌<◌, ◌≤◌, List, ◌∷◌, length, Some, IsSomeAnd, Contains, FitsSigned}
use Rattle.std.specs.Int.{Width, byte_len}
use Rattle.archive_check.specs.Shape.{Name, Sign, signed, unsigned, Kind, unit, bool, char, number as number_kind, non_zero, raw_rel, Key, Flavor, Shape, leaf, parts, choice, array, boxed, vec, sorted_map, str, shared, weak, named, Pointee, one, run, text, Parts, part, Variants, definition, variant_at}
use Rattle.archive_check.specs.Layout.{Layout, up, size_of, align_of}
use Rattle.archive_check.specs.Definitions.{Definitions, Knows}
use Rattle.archive_check.specs.Value.{Pointer, Value, number, product, case, list, box, hole, Values, value, pointers}
use Rattle.archive_check.specs.Reads.{SchemaTable}
use Rattle.archive_check.specs.Tour.{Region}
use Rattle.archive_check.specs.WriterState.{WriterState}
use Rattle.archive_check.specs.declared.format.error.Error.{Error}
use Rattle.archive_check.specs.declared.format.error.Error.TheVariants.{OutOfMemory, IsizeOverflow, OffsetOverflow, PositionTooLarge, LengthTooLarge, NumberTooLarge, StringTooLong, BufferOverflow, WriterFailed, CyclicSerialize, LayoutTooLarge, UnsortedKeys}
use Rattle.archive_check.specs.Denotes.{Naming}
use Rattle.archive_num.specs.Offsets.{distance, IsTooFar}
use Rattle.archive_types.specs.Plans.{Cursor, Step, lays, meets, disorder, Foreseen, ValuePlan, RegionPlan, cursor, begun}

-- The writer holds the planned bytes up to a position, ends at `cap`, and has less room than for
-- the `count` planned bytes that come next.
pub record Overflows (reaches : ℕ → Type 0) (old new : WriterState) (count cap position : ℕ) : Type 0 where
  pub behind : length old.bytes ≤ position
  pub held : position ≡ length new.bytes
  pub planned : reaches (position + count)
  pub full : IsSomeAnd old.room (λ room. (cap ≡ length old.bytes + room) × (cap < position + count))
  pub left : IsSomeAnd new.room (λ room. room < count)

-- Why what is planned wasn't written: memory was refused; it doesn't fit; the device failed now, or
-- too often before; or the value caused it.
pub data Explains (own : Error → Type 0) (reaches : ℕ → Type 0) (old new : WriterState) : Error → Type 0 where
  no_memory : Explains own reaches old new OutOfMemory
  no_room : {count cap position : ℕ} → Overflows reaches old new count cap position → Explains own reaches old new (BufferOverflow count cap position)
  device_failed : (old.failures < new.failures) ⊎ (old.failures ≡ 2 ^ 64 - 1) → Explains own reaches old new WriterFailed
  own_cause : {e : Error} → own e → Explains own reaches old new e

-- The errors that a value may cause.
pub data IsOwnCause : Error → Type 0 where
  of_isize : IsOwnCause IsizeOverflow
  of_offset : IsOwnCause OffsetOverflow
  of_position : IsOwnCause PositionTooLarge
  of_length : IsOwnCause LengthTooLarge
  of_number : IsOwnCause NumberTooLarge
  of_string : IsOwnCause StringTooLong
  of_key : IsOwnCause CyclicSerialize
  of_layout : IsOwnCause LayoutTooLarge
  of_order : IsOwnCause UnsortedKeys

-- The refusals that a write may meet: of memory, of the writer's room and device, and those that the value causes.
pub data IsOfWriting : Error → Type 0 where
  of_memory : IsOfWriting OutOfMemory
  of_room : {count cap position : ℕ} → IsOfWriting (BufferOverflow count cap position)
  of_device : IsOfWriting WriterFailed
  of_value : {e : Error} → IsOwnCause e → IsOfWriting e

-- A Y with the value w lies at an offset in an X with the value v.
mutual
  pub data ValuePart (s : SchemaTable) : Shape → Value → ℕ → Shape → Value → Type 0 where
    part_itself : {X : Shape} {v : Value} → ValuePart s X v 0 X v
    part_of_parts : {ps : Parts} {vs : Values} {o : ℕ} {Y : Shape} {w : Value}
        → PartOfParts s 0 ps vs o Y w
        → ValuePart s (parts ps) (product vs) o Y w
    part_of_choice : {name : Name} {variants : Variants} {tag : ℕ} {ps : Parts} {vs : Values} {o : ℕ} {Y : Shape} {w : Value}
        → variant_at variants tag ≡ Some ps
        → PartOfParts s 1 ps vs o Y w
        → ValuePart s (choice name variants) (case tag vs) o Y w
    part_of_array : {n : ℕ} {X : Shape} {vs : Values} {o : ℕ} {Y : Shape} {w : Value}
        → PartOfRun s n X vs o Y w
        → ValuePart s (array n X) (list vs) o Y w
    part_of_named : {name : Name} {X : Shape} {v : Value} {o : ℕ} {Y : Shape} {w : Value}
        → definition s.table name ≡ Some X
        → ValuePart s X v o Y w
        → ValuePart s (named name) v o Y w

  -- The same among parts that are laid out one after another from an offset on.
  pub data PartOfParts (s : SchemaTable) : ℕ → Parts → Values → ℕ → Shape → Value → Type 0 where
    in_first_part : {at : ℕ} {X : Shape} {ps : Parts} {v : Value} {vs : Values} {o : ℕ} {Y : Shape} {w : Value}
        → ValuePart s X v o Y w
        → PartOfParts s at (part X ps) (value v vs) (up at (align_of s.layouts X) + o) Y w
    in_later_part : {at : ℕ} {X : Shape} {ps : Parts} {v : Value} {vs : Values} {o : ℕ} {Y : Shape} {w : Value}
        → PartOfParts s (up at (align_of s.layouts X) + size_of s.layouts X) ps vs o Y w
        → PartOfParts s at (part X ps) (value v vs) o Y w

  -- The same among elements.
  pub data PartOfRun (s : SchemaTable) : ℕ → Shape → Values → ℕ → Shape → Value → Type 0 where
    in_first_element : {n : ℕ} {X : Shape} {v : Value} {vs : Values} {o : ℕ} {Y : Shape} {w : Value}
        → ValuePart s X v o Y w
        → PartOfRun s (suc n) X (value v vs) o Y w
    in_later_element : {n : ℕ} {X : Shape} {v : Value} {vs : Values} {o : ℕ} {Y : Shape} {w : Value}
        → PartOfRun s n X vs o Y w
        → PartOfRun s (suc n) X (value v vs) (size_of s.layouts X + o) Y w

-- A Y with the value w lies at an offset in a pointee with the value v.
pub data PartOfPointee (s : SchemaTable) : Pointee → ℕ → Value → ℕ → Shape → Value → Type 0 where
  part_of_one : {X : Shape} {v : Value} {o : ℕ} {Y : Shape} {w : Value} → ValuePart s X v o Y w → PartOfPointee s (one X) 0 v o Y w
  part_of_run : {n : ℕ} {X : Shape} {vs : Values} {o : ℕ} {Y : Shape} {w : Value} → PartOfRun s n X vs o Y w → PartOfPointee s (run X) n (list vs) o Y w

-- The part owns or shares what this pointer leads to.
pub data IsOwner : Shape → Value → Pointer → Type 0 where
  owner_box : {P : Pointee} {h : Pointer} → IsOwner (boxed P) (box (hole h)) h
  owner_vec : {X : Shape} {h : Pointer} → IsOwner (vec X) (hole h) h
  owner_map : {K : Key} {V : Shape} {h : Pointer} → IsOwner (sorted_map K V) (hole h) h
  owner_string : {h : Pointer} → IsOwner str (hole h) h
  owner_shared : {flavor : Flavor} {P : Pointee} {h : Pointer} → IsOwner (shared flavor P) (hole h) h
  owner_weak : {flavor : Flavor} {P : Pointee} {h : Pointer} → IsOwner (weak flavor P) (hole h) h

-- The number has more bits than the leaf.
abbrev pub IsTooWide : Kind → ℤ → Type 0
IsTooWide unit z = ⊥
IsTooWide bool z = ⊥
IsTooWide char z = ⊥
IsTooWide (number_kind unsigned width) z = (n : ℕ) → n < 2 ^ (8 * byte_len width) → z ≡ pos n → ⊥
IsTooWide (number_kind signed width) z = FitsSigned width z → ⊥
IsTooWide (non_zero unsigned width) z = (n : ℕ) → n < 2 ^ (8 * byte_len width) → z ≡ pos n → ⊥
IsTooWide (non_zero signed width) z = FitsSigned width z → ⊥
IsTooWide (raw_rel sign width) z = ⊥

-- The part shares what this pointer leads to.
pub data IsSharedOwner : Shape → Value → Pointer → Type 0 where
  shared_owner : {flavor : Flavor} {P : Pointee} {h : Pointer} → IsSharedOwner (shared flavor P) (hole h) h
  weak_owner : {flavor : Flavor} {P : Pointee} {h : Pointer} → IsSharedOwner (weak flavor P) (hole h) h

-- Why a part can't be written anywhere: what it points to lies above 4,294,967,295, or is shared
-- and has a greater length; its number has too many bits; its text is too long.
pub data HindersPart : Shape → Value → Error → Type 0 where
  stands_too_far : {Y : Shape} {w : Value} {h : Pointer} {t : ℕ} → IsOwner Y w h → h.target ≡ pos t → 4294967295 < t → HindersPart Y w PositionTooLarge
  shared_too_long : {Y : Shape} {w : Value} {h : Pointer} → IsSharedOwner Y w h → 4294967295 < h.length → HindersPart Y w LengthTooLarge
  too_wide : {kind : Kind} {z : ℤ} → IsTooWide kind z → HindersPart (leaf kind) (number z) NumberTooLarge
  text_too_long : {h : Pointer} → 1073741823 < h.length → HindersPart str (hole h) StringTooLong

-- Why a part can't be written at q: it can't be anywhere, its offset doesn't fit, or it is 1 in a
-- weak pointer, which says null.
pub data HindersPartAt : Shape → ℕ → Value → Error → Type 0 where
  anywhere : {Y : Shape} {q : ℕ} {w : Value} {e : Error} → HindersPart Y w e → HindersPartAt Y q w e
  too_far_from_here : {Y : Shape} {q : ℕ} {w : Value} {e : Error} {h : Pointer} {t : ℕ} → IsOwner Y w h → h.target ≡ pos t → IsTooFar e (distance q t) → HindersPartAt Y q w e
  looks_null : {flavor : Flavor} {P : Pointee} {q : ℕ} {h : Pointer} → h.target ≡ pos (suc q) → HindersPartAt (weak flavor P) q (hole h) OffsetOverflow

-- Why a step of a plan fails: a part of the region can't be written; its length is above
-- 4,294,967,295, its end above `usize::MAX`; the key is pending; keys don't ascend.
pub data HindersStep (s : SchemaTable) : Step → Error → Type 0 where
  part_hinders : {r : Region} {v : Value} {o : ℕ} {Y : Shape} {w : Value} {e : Error}
      → PartOfPointee s r.pointee r.length v o Y w
      → HindersPartAt Y (r.begin + o) w e
      → HindersStep s (lays r v) e
  length_hinders : {r : Region} {v : Value} → 4294967295 < r.length → HindersStep s (lays r v) LengthTooLarge
  end_hinders : {r : Region} {v : Value} → 2 ^ 64 ≤ r.begin + r.size → HindersStep s (lays r v) LayoutTooLarge
  key_hinders : {key : ℕ} → HindersStep s (meets key) CyclicSerialize
  order_hinders : HindersStep s disorder UnsortedKeys

-- One of these steps fails with this error.
abbrev pub HindersSome : SchemaTable → List Step → Error → Type 0
HindersSome s C e = (t : Step) × Contains C t × HindersStep s t e

-- What hinders the writing of what v owns, as an X: a step of its plan, or a part of it, wherever it will lie.
pub record Hinders (D : Definitions) (X : Shape) (keys : List Naming) (v : Value) (a : Cursor) (e : Error) : Type 0 where
  pub named : IsOwnCause e
  pub cause : Foreseen D keys a (λ s names. ValuePlan s names X v a (λ flat C b. HindersSome s C e ⊎ ((o : ℕ) × (Y : Shape) × (w : Value) × ValuePart s X flat o Y w × HindersPart Y w e)))

-- The value causes this error: a step of the plan for a pointee and its region fails so.
pub record HindersRegion (D : Definitions) (P : Pointee) (n : ℕ) (keys : List Naming) (v : Value) (a : Cursor) (e : Error) : Type 0 where
  pub named : IsOwnCause e
  pub cause : Foreseen D keys a (λ s names. RegionPlan s names P n v a (λ t C b. HindersSome s C e))

-- What hinders the resolving of a value at p, of which `flat` is to be read there: a part of it.
pub record HindersAt (D : Definitions) (X : Shape) (flat : Value) (p : ℕ) (e : Error) : Type 0 where
  pub named : IsOwnCause e
  pub cause : (s : SchemaTable) → Knows s D → (o : ℕ) × (Y : Shape) × (w : Value) × ValuePart s X flat o Y w × HindersPartAt Y (p + o) w e

-- And of its own region there: its end is above `usize::MAX`, too.
abbrev pub HindersRegionAt : Definitions → Shape → Layout → Value → ℕ → Error → Type 0
HindersRegionAt D X L flat p e = ((e ≡ LayoutTooLarge) × (2 ^ 64 ≤ p + L.size)) ⊎ HindersAt D X flat p e

-- The plan goes on to n at least.
abbrev pub PlanReaches : Definitions → Shape → List Naming → Value → Cursor → ℕ → Type 0
PlanReaches D X keys v a n = Foreseen D keys a (λ s names. ValuePlan s names X v a (λ flat C b. n ≤ b.position))

-- The plan for a pointee and its region goes on to m at least.
abbrev pub RegionReaches : Definitions → Pointee → ℕ → List Naming → Value → Cursor → ℕ → Type 0
RegionReaches D P n keys v a m = Foreseen D keys a (λ s names. RegionPlan s names P n v a (λ t C b. m ≤ b.position))

-- Why what v owns, as an X, wasn't written.
abbrev pub IsRefused : Definitions → Shape → List Naming → Value → WriterState → WriterState → Error → Type 0
IsRefused D X keys v old new = Explains (Hinders D X keys v (cursor old)) (PlanReaches D X keys v (cursor old)) old new

-- Why a pointee and its region weren't written.
abbrev pub IsRegionRefused : Definitions → Pointee → ℕ → List Naming → Value → WriterState → WriterState → Error → Type 0
IsRegionRefused D P n keys v old new = Explains (HindersRegion D P n keys v (cursor old)) (RegionReaches D P n keys v (cursor old)) old new

-- Why they weren't written under an unknown key, which is pending meanwhile.
abbrev pub IsSharedRefused : Definitions → Pointee → ℕ → ℕ → List Naming → Value → WriterState → WriterState → Error → Type 0
IsSharedRefused D P n key keys v old new =
    Explains (HindersRegion D P n keys v (begun (cursor old) key)) (RegionReaches D P n keys v (begun (cursor old) key)) old new
