-- What the program keeps of a way that it goes: what it leads to, and pointers on it.
use Rattle.std.specs.Prelude.{◌≡◌, ℕ, suc, ◌+◌, ◌*◌, ◌<◌, ◌≤◌, ◌^◌, pos, ◌+ℤ◌, List, ◌++◌, slice_index, Option, Some, None, option_map, IsUtf8}
use Rattle.archive_check.specs.declared.format.error.Error.{Error}
use Rattle.archive_check.specs.declared.format.expr.Kind.{Kind as KindExpr}
use Rattle.archive_inspect.specs.declared.route.RouteStep.{RouteStep}
use Rattle.archive_inspect.specs.declared.route.RouteStep.TheVariants.{Key as KeyStep}
use Rattle.archive_inspect.specs.declared.ways.Point.{Point}
use Rattle.archive_inspect.specs.declared.ways.Thing.{Thing}
use Rattle.archive_inspect.specs.declared.ways.Thing.TheVariants as thing
use Rattle.archive_inspect.specs.declared.ways.entries.EntryPlaces.{EntryPlaces}
use Rattle.archive_inspect.specs.declared.ways.pointing.Pointing.{Pointing}
use Rattle.archive_inspect.specs.declared.ways.pointing.Pointed.{Pointed}
use Rattle.archive_inspect.specs.declared.ways.pointing.Pointed.TheVariants as pointed
use Rattle.archive_schema.specs.declared.shape.Schema.{Schema as RustSchema}
use Rattle.archive_check.specs.declared.format.layout.Layout.{Layout as RustLayout}
use Rattle.archive_check.specs.Shape.{Name, Key, Flavor, Shape, leaf, choice, sorted_map, str, named, Pointee, one, run, text, Parts, Variants, variant_at, key_shape, entry_of, definition}
use Rattle.archive_check.specs.Layout.{Layout, layout, kind_size, up, size_of, align_of}
use Rattle.archive_check.specs.Expressions.{kind_of, shape_of, shapes_in, key_of, flavor_of}
use Rattle.archive_check.specs.Value.{Pointer}
use Rattle.archive_check.specs.Reads.{SchemaTable, bytes_at, u32_at, i32_at, map_at, IsLegal, IsOutOfLine, before_end, decoded_length}
use Rattle.archive_check.specs.Keys.{ComesBehind}
use Rattle.archive_check.specs.Tour.{region_of}
use Rattle.archive_check.specs.Trail.{Fault, illegal}
use Rattle.archive_check.specs.Words.Faults.{IsFor}
use Rattle.archive_check.specs.Definitions.{Knows}
use Rattle.archive_schema.specs.Schemas.{root_of, definitions_in, layout_of}
use Rattle.archive_inspect.specs.Ways.{WayEnd, a_value, a_payload, a_text, IsPartNumbered, PointsBy, StepsTo, LeadsBy, RegionFails, FailsAt, FaultBy}

-- What a way leads to.
abbrev pub end_of_way : Thing → WayEnd
end_of_way (thing.Value x) = a_value (shape_of x.now)
end_of_way (thing.Key K) = a_value (key_shape (key_of K))
end_of_way (thing.Payload xs) = a_payload (shapes_in xs.now)
end_of_way (thing.Text n) = a_text n

-- What a pointer leads to, and the order of that.
abbrev pub pointed_of : Pointed → Pointee
pointed_of (pointed.One x) = one (shape_of x.now)
pointed_of (pointed.Run x) = run (shape_of x.now)
pointed_of (pointed.Entries K x) = run (entry_of (key_of K) (shape_of x.now))
pointed_of pointed.Text = text

abbrev pub pointed_order : Pointed → Option Key
pointed_order (pointed.Entries K x) = Some (key_of K)
pointed_order _ = None

-- The pointer.
abbrev pub pointer_told : Pointing → Pointer
pointer_told p = record { target = p.target; sharing = option_map flavor_of p.flavor; order = pointed_order p.pointed; pointee = pointed_of p.pointed; length = p.length }

-- Each of the elements is an X, or has it as its value.
pub data IsHeldBy : Pointee → Shape → Type 0 where
  held_element : {X : Shape} → IsHeldBy (run X) X
  held_value : {V : Shape} (K : Key) → IsHeldBy (run (entry_of K V)) V

-- A pointer at a position to what is told, with the length behind its offset.
pub record IsRunAt (bytes : List ℕ) (at : ℕ) (to : Pointed) (p : Pointing) : Type 0 where
  pub target : p.target ≡ pos at +ℤ i32_at bytes at
  pub length : p.length ≡ u32_at bytes (at + 4)
  pub pointed : p.pointed ≡ to
  pub owned : p.flavor ≡ None

-- Under whatever knows the definitions of a schema.
abbrev pub Under : RustSchema → (SchemaTable → Type 0) → Type 0
Under f P = (s : SchemaTable) → Knows s (definitions_in f) → P s

-- What an X means: itself, or what its name is defined as, and so on.
pub data MeantBy (s : SchemaTable) (X : Shape) : Shape → Type 0 where
  means_itself : MeantBy s X X
  means_more : {name : Name} {Y : Shape} → MeantBy s X (named name) → definition s.table name ≡ Some Y → MeantBy s X Y

-- What a way leads to means: a value what its shape does, and anything itself.
pub data MeansEnd (s : SchemaTable) : WayEnd → WayEnd → Type 0 where
  means_value : {X Y : Shape} → MeantBy s X Y → MeansEnd s (a_value X) (a_value Y)
  means_so : {e : WayEnd} → MeansEnd s e e

-- an X that is laid out behind an end ends there.
abbrev pub EndsNext : RustSchema → Shape → ℕ → ℕ → Type 0
EndsNext f X at end = Under f (λ s. end ≡ up at (align_of s.layouts X) + size_of s.layouts X)

-- Under whatever knows the definitions of a schema, one thing means another.
abbrev pub MeansThere : RustSchema → Thing → Thing → Type 0
MeansThere f a b = Under f (λ s. MeansEnd s (end_of_way a) (end_of_way b))

-- A part of this number, laid out with others from an offset on, of what begins at p.
pub record PartAmong (f : RustSchema) (p at : ℕ) (ps : Parts) (k : ℕ) (q : Point) : Type 0 where
  pub shape : Shape
  pub value : end_of_way q.thing ≡ a_value shape
  pub numbered : Under f (λ s. IsPartNumbered s p at ps k q.at shape)

-- The element of this number among n, the first at t.
pub record ElementAmong (f : RustSchema) (X : Shape) (t n k : ℕ) (q : Point) : Type 0 where
  pub few : k < n
  pub value : end_of_way q.thing ≡ a_value X
  pub lies : Under f (λ s. q.at ≡ t + k * size_of s.layouts X)

-- What an entry takes, and where the value begins in it.
abbrev pub EntrySizes : RustSchema → Key → Shape → (RustLayout × ℕ) → Type 0
EntrySizes f K V e = Under f (λ s. (layout s.layouts (entry_of K V) ≡ layout_of e.0) × (e.1 ≡ up (size_of s.layouts (key_shape K)) (align_of s.layouts V)))

-- Where the key and the value of the entry of this number lie, of the map at p.
pub record EntryAmong (f : RustSchema) (bytes : List ℕ) (p : ℕ) (K : Key) (V : Shape) (k : ℕ) (e : EntryPlaces) : Type 0 where
  pub target : ℕ
  pub leads : (map_at bytes p K V).target ≡ pos target
  pub few : k < u32_at bytes (p + 4)
  pub key : Under f (λ s. e.key ≡ target + k * size_of s.layouts (entry_of K V))
  pub value : Under f (λ s. e.value ≡ target + k * size_of s.layouts (entry_of K V) + up (size_of s.layouts (key_shape K)) (align_of s.layouts V))

-- The step leads from one point to another.
abbrev pub StepsBetween : RustSchema → List ℕ → RouteStep → Point → Point → Type 0
StepsBetween f bytes step a b = Under f (λ s. StepsTo s bytes a.at step (end_of_way a.thing) b.at (end_of_way b.thing))

-- What lies at a point is this pointer.
pub data PointsFrom (bytes : List ℕ) (a : Point) (P : Pointer) : Type 0 where
  points_from : {X : Shape} → end_of_way a.thing ≡ a_value X → PointsBy bytes a.at X P → PointsFrom bytes a P

-- The steps lead there from the root.
abbrev pub LeadsToPoint : RustSchema → List ℕ → ℕ → List RouteStep → Point → Type 0
LeadsToPoint f bytes root steps a = Under f (λ s. LeadsBy s bytes root (root_of f) steps a.at (end_of_way a.thing))

-- The steps lead on from one point to another: whatever way leads to the first, goes on by them to the second.
abbrev pub LeadsOn : RustSchema → List ℕ → Point → List RouteStep → Point → Type 0
LeadsOn f bytes a steps b = (root : ℕ) (before : List RouteStep) → LeadsToPoint f bytes root before a → LeadsToPoint f bytes root (before ++ steps) b

-- What each element of a pointee takes: a text is of single bytes.
abbrev pub unit_layout : SchemaTable → Pointee → Layout
unit_layout s (one X) = layout s.layouts X
unit_layout s (run X) = layout s.layouts X
unit_layout s text = record { size = 1; align = 1 }

-- The region of the pointer takes n bytes; it takes too many.
abbrev pub RegionTakes : RustSchema → Pointer → ℕ → Type 0
RegionTakes f P size = Under f (λ s. (region_of s P 0).size ≡ size)

abbrev pub RegionAligned : RustSchema → Pointer → ℕ → Type 0
RegionAligned f P align = Under f (λ s. (region_of s P 0).align ≡ align)

abbrev pub RegionIsLarge : RustSchema → Pointer → Type 0
RegionIsLarge f P = Under f (λ s. 2 ^ 64 ≤ (region_of s P 0).size)

-- A test of the pointer's region is false, which the refusal says.
pub record RegionRefused (f : RustSchema) (P : Pointer) (e : Error) : Type 0 where
  pub fault : Fault
  pub said : IsFor fault e
  pub fails : Under f (λ s. RegionFails s P fault)

-- The leaf at a point is none; its string or text isn't UTF-8; its string is out of line, and too short for that.
pub record LeafFails (bytes : List ℕ) (a : Point) (kind : KindExpr) : Type 0 where
  pub leaf : end_of_way a.thing ≡ a_value (leaf (kind_of kind))
  pub illegal : IsLegal (kind_of kind) (bytes_at bytes a.at (kind_size (kind_of kind))) → ⊥

pub record LeafRefused (bytes : List ℕ) (a : Point) (e : Error) : Type 0 where
  pub kind : KindExpr
  pub fails : LeafFails bytes a kind
  pub said : IsFor (illegal (kind_of kind)) e

pub data TextFails (bytes : List ℕ) (a : Point) : Type 0 where
  fails_elsewhere : {n : ℕ} → end_of_way a.thing ≡ a_text n → (IsUtf8 (bytes_at bytes a.at n) → ⊥) → TextFails bytes a
  fails_here : end_of_way a.thing ≡ a_value str → (IsOutOfLine bytes a.at → ⊥) → (IsUtf8 (before_end (bytes_at bytes a.at 8)) → ⊥) → TextFails bytes a

pub record StringFails (bytes : List ℕ) (a : Point) : Type 0 where
  pub string : end_of_way a.thing ≡ a_value str
  pub out_of_line : IsOutOfLine bytes a.at
  pub short : decoded_length (u32_at bytes a.at) ≤ 8

-- The choice of this name at a point has no variant of its tag, which is this.
pub record TagFails (bytes : List ℕ) (a : Point) (name : Name) (tag : ℕ) : Type 0 where
  pub variants : Variants
  pub choice : end_of_way a.thing ≡ a_value (choice name variants)
  pub has : slice_index bytes a.at ≡ tag
  pub none : variant_at variants tag ≡ None

-- The pointer at a point is shared so, and leads to no position before the buffer.
pub record SharedAt (bytes : List ℕ) (a : Point) (flavor : Flavor) : Type 0 where
  pub pointer : Pointer
  pub target : ℕ
  pub points : PointsFrom bytes a pointer
  pub shared : pointer.sharing ≡ Some flavor
  pub leads : pointer.target ≡ pos target

-- The key of this entry of the map at a point lies at the position, and doesn't come behind the one before.
pub record KeyFails (f : RustSchema) (bytes : List ℕ) (m : Point) (number position : ℕ) : Type 0 where
  pub before : ℕ
  pub earlier : ℕ
  pub at : ℕ
  pub key : Key
  pub value : Shape
  pub map : end_of_way m.thing ≡ a_value (sorted_map key value)
  pub next : number ≡ suc before
  pub told : position ≡ at
  pub first : Under f (λ s. StepsTo s bytes m.at (KeyStep before) (a_value (sorted_map key value)) earlier (a_value (key_shape key)))
  pub second : Under f (λ s. StepsTo s bytes m.at (KeyStep number) (a_value (sorted_map key value)) at (a_value (key_shape key)))
  pub behind : ComesBehind key bytes (Some earlier) at → ⊥

-- A test of what lies at a point is false, which the refusal says.
pub record PointRefused (f : RustSchema) (bytes : List ℕ) (a : Point) (e : Error) : Type 0 where
  pub fault : Fault
  pub said : IsFor fault e
  pub fails : Under f (λ s. FailsAt s bytes a.at (end_of_way a.thing) fault)

-- The steps lead from the root to the position, where a test is false, which the refusal says.
pub record RefusedBy (f : RustSchema) (bytes : List ℕ) (root : ℕ) (steps : List RouteStep) (position : ℕ) (e : Error) : Type 0 where
  pub at : ℕ
  pub fault : Fault
  pub told : position ≡ at
  pub said : IsFor fault e
  pub leads : Under f (λ s. FaultBy s bytes root (root_of f) steps at fault)
