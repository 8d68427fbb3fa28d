-- Ways through an archive: from its root to what lies in it, each step a rule of reading; and which test is false where a way leads.
use Rattle.std.specs.Prelude.{◌≡◌, ◌≢◌, ℕ, suc, ◌+◌, ◌*◌, ◌%◌, ◌<◌, ◌≤◌, ◌^◌, pos, List, [], ◌∷◌, ◌++◌, slice_index, Some, None, false, IsUtf8}
use Rattle.std.specs.Borrow.{Bor}
use Rattle.archive_inspect.specs.declared.route.RouteStep.{RouteStep}
use Rattle.archive_inspect.specs.declared.route.RouteStep.TheVariants.{Part, Only, Variant, Element, Key as KeyStep, Value as ValueStep, Target, Text as TextStep}
use Rattle.archive_check.specs.Shape.{Name, Kind, Key, Flavor, Shape, leaf, parts, choice, array, boxed, vec, sorted_map, str, shared, weak, named, Pointee, one, run, text, Parts, no_part, part, Variants, key_shape, entry_of, definition, variant_at}
use Rattle.archive_check.specs.Layout.{up, kind_size, size_of, align_of}
use Rattle.archive_check.specs.Value.{Pointer}
use Rattle.archive_check.specs.Reads.{SchemaTable, bytes_at, u32_at, i32_at, IsLegal, IsOutOfLine, before_end, decoded_length, pointer_at, map_at, string_at}
use Rattle.archive_check.specs.Keys.{ComesBehind}
use Rattle.archive_check.specs.Tour.{region_of, root_pointer}
use Rattle.archive_check.specs.Trail.{Fault, too_large, outside, unaligned, cyclic, other_type, other_length, illegal, no_such_variant, no_text, no_string, unsorted}

-- What a way leads to: a value of a shape, the parts behind the tag of a choice, or a text of n bytes.
pub data WayEnd : Type 0 where
  a_value : Shape → WayEnd
  a_payload : Parts → WayEnd
  a_text : ℕ → WayEnd

-- Y, at q, is the part of this number, from 0 on, among those laid out from an offset on, of what begins at p.
pub data IsPartNumbered (s : SchemaTable) (p : ℕ) : ℕ → Parts → ℕ → ℕ → Shape → Type 0 where
  numbered_first : {at : ℕ} {X : Shape} {ps : Parts} → IsPartNumbered s p at (part X ps) 0 (p + up at (align_of s.layouts X)) X
  numbered_later : {at k q : ℕ} {X Y : Shape} {ps : Parts}
      → IsPartNumbered s p (up at (align_of s.layouts X) + size_of s.layouts X) ps k q Y
      → IsPartNumbered s p at (part X ps) (suc k) q Y

-- The X at p is this pointer: a null is none, nor is a string with its text in place.
pub data PointsBy (bytes : List ℕ) (p : ℕ) : Shape → Pointer → Type 0 where
  points_box : {P : Pointee} → PointsBy bytes p (boxed P) (pointer_at bytes p None P)
  points_vec : {X : Shape} → PointsBy bytes p (vec X) (pointer_at bytes p None (run X))
  points_map : {K : Key} {V : Shape} → PointsBy bytes p (sorted_map K V) (map_at bytes p K V)
  points_string : IsOutOfLine bytes p → 8 < decoded_length (u32_at bytes p) → PointsBy bytes p str (string_at bytes p)
  points_shared : {flavor : Flavor} {P : Pointee} → PointsBy bytes p (shared flavor P) (pointer_at bytes p (Some flavor) P)
  points_weak : {flavor : Flavor} {P : Pointee} → i32_at bytes p ≢ pos 1 → PointsBy bytes p (weak flavor P) (pointer_at bytes p (Some flavor) P)

-- One step from what lies at a position to what lies in it, or to what it leads to. The names in a step are for people.
pub data StepsTo (s : SchemaTable) (bytes : List ℕ) (p : ℕ) : RouteStep → WayEnd → ℕ → WayEnd → Type 0 where
  steps_part : {k q : ℕ} {shown : Bor Name} {ps : Parts} {Y : Shape}
      → IsPartNumbered s p 0 ps k q Y
      → StepsTo s bytes p (Part k shown) (a_value (parts ps)) q (a_value Y)
  -- to the variant that the tag names, and on to one of its parts.
  steps_variant : {shown : Bor Name} {name : Name} {variants : Variants} {ps : Parts}
      → variant_at variants (slice_index bytes p) ≡ Some ps
      → StepsTo s bytes p (Variant (slice_index bytes p) shown) (a_value (choice name variants)) p (a_payload ps)
  steps_payload : {k q : ℕ} {shown : Bor Name} {ps : Parts} {Y : Shape}
      → IsPartNumbered s p 1 ps k q Y
      → StepsTo s bytes p (Part k shown) (a_payload ps) q (a_value Y)
  steps_only : {q : ℕ} {X Y : Shape} → IsPartNumbered s p 1 (part X no_part) 0 q Y → StepsTo s bytes p Only (a_payload (part X no_part)) q (a_value Y)
  steps_array : {n k : ℕ} {Y : Shape} → k < n → StepsTo s bytes p (Element k) (a_value (array n Y)) (p + k * size_of s.layouts Y) (a_value Y)
  -- to an element of those that a pointer leads to, to the only value, or to the text.
  steps_element : {t k : ℕ} {X Y : Shape} {P : Pointer}
      → PointsBy bytes p X P
      → P.target ≡ pos t
      → P.pointee ≡ run Y
      → k < P.length
      → StepsTo s bytes p (Element k) (a_value X) (t + k * size_of s.layouts Y) (a_value Y)
  steps_target : {t : ℕ} {X Y : Shape} {P : Pointer}
      → PointsBy bytes p X P
      → P.target ≡ pos t
      → P.pointee ≡ one Y
      → StepsTo s bytes p Target (a_value X) t (a_value Y)
  steps_text : {t : ℕ} {X : Shape} {P : Pointer}
      → PointsBy bytes p X P
      → P.target ≡ pos t
      → P.pointee ≡ text
      → StepsTo s bytes p TextStep (a_value X) t (a_text P.length)
  -- to the key of an entry, and to its value.
  steps_key : {t k : ℕ} {K : Key} {V : Shape}
      → (map_at bytes p K V).target ≡ pos t
      → k < u32_at bytes (p + 4)
      → StepsTo s bytes p (KeyStep k) (a_value (sorted_map K V)) (t + k * size_of s.layouts (entry_of K V)) (a_value (key_shape K))
  steps_value : {t k : ℕ} {K : Key} {V : Shape}
      → (map_at bytes p K V).target ≡ pos t
      → k < u32_at bytes (p + 4)
      → StepsTo s bytes p (ValueStep k) (a_value (sorted_map K V))
      (t + k * size_of s.layouts (entry_of K V) + up (size_of s.layouts (key_shape K)) (align_of s.layouts V)) (a_value V)

-- The steps lead from the X at root to what lies at the position; what a name stands for lies where the name does.
pub data LeadsBy (s : SchemaTable) (bytes : List ℕ) (root : ℕ) (X : Shape) : List RouteStep → ℕ → WayEnd → Type 0 where
  leads_root : LeadsBy s bytes root X [] root (a_value X)
  leads_named : {steps : List RouteStep} {p : ℕ} {name : Name} {Y : Shape}
      → LeadsBy s bytes root X steps p (a_value (named name))
      → definition s.table name ≡ Some Y
      → LeadsBy s bytes root X steps p (a_value Y)
  leads_on : {steps : List RouteStep} {step : RouteStep} {p q : ℕ} {e f : WayEnd}
      → LeadsBy s bytes root X steps p e
      → StepsTo s bytes p step e q f
      → LeadsBy s bytes root X (steps ++ step ∷ []) q f

-- A test of the pointer's region is false: of its size, of its range, or of its alignment. The trail says which range it is.
pub data RegionFails (s : SchemaTable) (P : Pointer) : Fault → Type 0 where
  fails_size : 2 ^ 64 ≤ (region_of s P 0).size → RegionFails s P too_large
  fails_range : {start stop : ℕ}
      → ((t : ℕ) → P.target ≡ pos t → start ≤ t → t + (region_of s P t).size ≤ stop → ⊥)
      → RegionFails s P (outside P.target (region_of s P 0).size start stop)
  fails_align : {t : ℕ} → P.target ≡ pos t → t % (region_of s P t).align ≢ 0 → RegionFails s P (unaligned t (region_of s P t).align)

-- What may be wrong with a shared position; the trail says how it was met before.
pub data SharingFails (flavor : Flavor) : Fault → Type 0 where
  fails_type : SharingFails flavor other_type
  fails_length : SharingFails flavor other_length
  fails_cycle : flavor.cycles ≡ false → SharingFails flavor cyclic

-- A test of what lies at p is false, which is the fault.
pub data FailsAt (s : SchemaTable) (bytes : List ℕ) (p : ℕ) : WayEnd → Fault → Type 0 where
  fails_leaf : {kind : Kind} → (IsLegal kind (bytes_at bytes p (kind_size kind)) → ⊥) → FailsAt s bytes p (a_value (leaf kind)) (illegal kind)
  fails_tag : {name : Name} {variants : Variants}
      → variant_at variants (slice_index bytes p) ≡ None
      → FailsAt s bytes p (a_value (choice name variants)) (no_such_variant name (slice_index bytes p))
  fails_inline : (IsOutOfLine bytes p → ⊥) → (IsUtf8 (before_end (bytes_at bytes p 8)) → ⊥) → FailsAt s bytes p (a_value str) no_text
  fails_coded : IsOutOfLine bytes p → decoded_length (u32_at bytes p) ≤ 8 → FailsAt s bytes p (a_value str) no_string
  fails_text : {n : ℕ} → (IsUtf8 (bytes_at bytes p n) → ⊥) → FailsAt s bytes p (a_text n) no_text
  fails_region : {X : Shape} {P : Pointer} {fault : Fault} → PointsBy bytes p X P → RegionFails s P fault → FailsAt s bytes p (a_value X) fault
  fails_sharing : {X : Shape} {P : Pointer} {flavor : Flavor} {t : ℕ} {fault : Fault}
      → PointsBy bytes p X P
      → P.sharing ≡ Some flavor
      → P.target ≡ pos t
      → SharingFails flavor fault
      → FailsAt s bytes p (a_value X) fault

-- The steps lead from the X at root to what lies at the position, of which a test is false: one of its own; of the root, one of its region; of a key
-- of a map, that it comes behind the key of the entry before.
pub data FaultBy (s : SchemaTable) (bytes : List ℕ) (root : ℕ) (X : Shape) : List RouteStep → ℕ → Fault → Type 0 where
  fault_there : {steps : List RouteStep} {p : ℕ} {e : WayEnd} {fault : Fault}
      → LeadsBy s bytes root X steps p e
      → FailsAt s bytes p e fault
      → FaultBy s bytes root X steps p fault
  fault_of_root : {fault : Fault} → RegionFails s (root_pointer root X) fault → FaultBy s bytes root X [] root fault
  fault_of_order : {steps : List RouteStep} {m p q k : ℕ} {K : Key} {V : Shape}
      → LeadsBy s bytes root X steps m (a_value (sorted_map K V))
      → StepsTo s bytes m (KeyStep k) (a_value (sorted_map K V)) p (a_value (key_shape K))
      → StepsTo s bytes m (KeyStep (suc k)) (a_value (sorted_map K V)) q (a_value (key_shape K))
      → (ComesBehind K bytes (Some p) q → ⊥)
      → FaultBy s bytes root X (steps ++ KeyStep (suc k) ∷ []) q unsorted
