-- What is said of what a view shows, in the view's own words: a view has the definitions and the pointee of its type with it. `Both` is a parameter as a
-- clause names it: what it was as the call began, and what it is at the return.
use denote.Triple.Both.{Both}
use denote.Ref.{MutBor}
use Rattle.std.specs.declared.cmp.Ordering.{Ordering}
use Rattle.std.specs.Prelude.{Bool, ◌≡◌, ◌+◌, ◌*◌, ◌-◌, ℕ, List, Option, Result, slice_index}
use Rattle.archive_check.specs.Layout.{Layout}
use Rattle.archive_check.specs.Shape.{Pointee}
use Rattle.archive_check.specs.LittleEndian.{little_number}
use Rattle.archive_check.specs.Reads.{bytes_at, length_at}
use Rattle.archive_check.specs.Readable.{target_from}
use Rattle.archive_check.specs.Value.{Value, shared_value}
use Rattle.archive_check.specs.Denotes.{Naming}
use Rattle.archive_check.specs.Entries.{ReadsBack, RefusesReading}
use Rattle.archive_check.specs.Viewed.{Viewed, Says}
use Rattle.archive_check.specs.declared.format.error.Error.{Error}
use Rattle.archive_check.specs.declared.format.traits.ArchivePointee as ArchivePointee
use Rattle.archive_check.specs.declared.format.traits.Entries as Entries
use Rattle.archive_types.specs.Compared.{Standing, standing, elements, elements_from, slice_of, result_in, result_order}
use Rattle.archive_types.specs.Standing.{StandsWith, view}
use Rattle.archive_types.specs.ValueOrder.{ComparesTo, EqualsTo}
use Rattle.archive_types.specs.Views.{ShowsPart}
use Rattle.archive_types.specs.declared.view.RawView.{RawView}
use Rattle.archive_types.specs.declared.view.Ref.{Ref}

-- The buffer, the position and the length of what a view shows, by which views are compared.
abbrev pub shown : {T M : Type 0} {g : ArchivePointee.Ghosts T M} → Ref T M g → Standing
shown v = standing v.bytes.now v.pos v.len

-- The elements of the slice that a view shows, and of the vector.
abbrev pub elements_shown : {T M : Type 0} {g : ArchivePointee.Ghosts T M} → ℕ → Ref T M g → List Standing
elements_shown size v = elements size (shown v)

abbrev pub elements_in : {T M : Type 0} {g : ArchivePointee.Ghosts T M} → ℕ → Ref T M g → List Standing
elements_in size v = elements size (slice_of (shown v))

-- an element of a slice; the order of a result, of such a value and such an error, and of one of the machine.
abbrev pub element_shown : {T M : Type 0} {g : ArchivePointee.Ghosts T M} → ℕ → ℕ → Ref T M g → Standing
element_shown size i v = standing v.bytes.now (v.pos + i * size) 0

abbrev pub result_to : {T M U W : Type 0} {g : ArchivePointee.Ghosts T M} → (Standing → U → Ordering) → (Standing → W → Ordering) → Layout → Layout → Ref T M g → Result U W → Ordering
result_to R S L E v r = result_order R S (result_in L.align E.align (shown v)) r

-- Elements from the beginning of a part on: the first n of them; and those from the one of index a up to b.
abbrev pub first_elements : RawView → ℕ → ℕ → List Standing
first_elements s size n = elements_from s.bytes.now s.pos size 0 n

abbrev pub elements_between : RawView → ℕ → ℕ → ℕ → List Standing
elements_between s size a b = elements_from s.bytes.now s.pos size a (b - a)

abbrev pub part_tag : RawView → ℕ
part_tag p = slice_index p.bytes.now p.pos

-- The number of n bytes that a part shows.
abbrev pub part_number : RawView → ℕ → ℕ
part_number p size = little_number (bytes_at p.bytes.now p.pos size)

abbrev pub part_shown : RawView → Standing
part_shown p = standing p.bytes.now p.pos p.len

-- The tag of a choice: the byte where it stands.
abbrev pub tag_of : {T M : Type 0} {g : ArchivePointee.Ghosts T M} → Ref T M g → ℕ
tag_of v = slice_index v.bytes.now v.pos

-- Whatever an archive says of what the view shows is this value.
abbrev pub ShowsValue : {T M : Type 0} {g : ArchivePointee.Ghosts T M} → Ref T M g → Value → Type 0
ShowsValue {g = g} v w = Says g.definitions v.bytes.now v.pos g.pointee v.len w

-- The first view shows a part of what the second one does: what is taken of it.
abbrev pub ShowsPartOf : {T M U N : Type 0} {g : ArchivePointee.Ghosts T M} {h : ArchivePointee.Ghosts U N} → Ref U N h → Ref T M g → (Value → Option Value) → Type 0
ShowsPartOf {g = g} {h = h} u v taken = ShowsPart g.definitions v.bytes.now v.pos g.pointee v.len u.pos h.pointee u.len taken

-- The same of one value.
abbrev pub ShowsValueOf : {T M U N : Type 0} {g : ArchivePointee.Ghosts T M} {h : ArchivePointee.Ghosts U N} → Ref U N h → Ref T M g → (Value → Option Value) → Type 0
ShowsValueOf {g = g} {h = h} u v taken = ShowsPart g.definitions v.bytes.now v.pos g.pointee v.len u.pos h.pointee 0 taken

-- Wherever what the second view shows is a part of an archive, so is what the first one does.
abbrev pub StandsBeside : {T M U N : Type 0} {g : ArchivePointee.Ghosts T M} {h : ArchivePointee.Ghosts U N} → Ref U N h → Ref T M g → Type 0
StandsBeside {g = g} {h = h} u v = StandsWith g.definitions v.bytes.now (view v.pos g.pointee v.len) (view u.pos h.pointee u.len)

-- What the view shows was read back as this value, with these keys.
abbrev pub ReadsView : {T M D : Type 0} {g : ArchivePointee.Ghosts T M} → Ref T M g → Entries.Ghosts D → Both (MutBor D) (MutBor D) → Value → List Naming → Type 0
ReadsView {g = g} v d b w keys = ReadsBack d.keeps g.definitions v.bytes.now v.pos g.pointee v.len (d.entry_of b.entry.now) (d.entry_of b.exit.now) w keys

-- Why it wasn't.
abbrev pub RefusesView : {T M D : Type 0} {g : ArchivePointee.Ghosts T M} → Ref T M g → Entries.Ghosts D → Both (MutBor D) (MutBor D) → Error → Type 0
RefusesView {g = g} v d b e = RefusesReading g.definitions v.bytes.now v.pos g.pointee v.len (d.entry_of b.entry.now) e

-- What a view promises of a part, which has no type: it is one of that type.
abbrev pub IsPartOf : {T M : Type 0} → ArchivePointee.Ghosts T M → RawView → Type 0
IsPartOf g p = Viewed g.definitions p.bytes.now p.pos g.pointee p.len

-- The part was read back as this value, with these keys.
abbrev pub ReadsPart : {T M D E : Type 0} → ArchivePointee.Ghosts T M → Both RawView E → Entries.Ghosts D → Both (MutBor D) (MutBor D) → Value → List Naming → Type 0
ReadsPart g p d b w keys =
    ReadsBack d.keeps g.definitions p.entry.bytes.now p.entry.pos g.pointee p.entry.len (d.entry_of b.entry.now) (d.entry_of b.exit.now) w keys

-- Why it wasn't.
abbrev pub RefusesPart : {T M D E : Type 0} → ArchivePointee.Ghosts T M → Both RawView E → Entries.Ghosts D → Both (MutBor D) (MutBor D) → Error → Type 0
RefusesPart g p d b e = RefusesReading g.definitions p.entry.bytes.now p.entry.pos g.pointee p.entry.len (d.entry_of b.entry.now) e

-- The second view shows what the pointer that the first one shows leads to, and says its name.
abbrev pub IsTargetOf : {T M U N : Type 0} {g : ArchivePointee.Ghosts T M} {h : ArchivePointee.Ghosts U N} → Ref T M g → Ref U N h → Type 0
IsTargetOf {h = h} v u =
    (u.bytes.now ≡ v.bytes.now) × (u.pos ≡ target_from v.bytes.now v.pos v.pos) × (u.len ≡ length_at v.bytes.now v.pos h.pointee) × ShowsValue v (shared_value u.pos)

-- The value that the view shows is ordered so, compared to this one; and whether it is this one.
abbrev pub ViewComparesTo : {T M : Type 0} {g : ArchivePointee.Ghosts T M} → Ref T M g → Value → Ordering → Type 0
ViewComparesTo {g = g} v = ComparesTo g.definitions g.pointee v.bytes.now v.pos v.len

abbrev pub ViewEquals : {T M : Type 0} {g : ArchivePointee.Ghosts T M} → Ref T M g → Value → Bool → Type 0
ViewEquals {g = g} v = EqualsTo g.definitions g.pointee v.bytes.now v.pos v.len
