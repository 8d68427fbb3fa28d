-- What is said of the entries of a map that a view shows.
use Rattle.std.specs.Prelude.{◌≡◌, ◌+◌, ◌-◌, ◌*◌, ◌<◌, ◌≤◌, ◌^◌, ℕ, zero, suc, List, [], ◌∷◌}
use Rattle.std.specs.declared.cmp.Ordering.{Ordering}
use Rattle.std.specs.declared.cmp.Ordering.TheVariants.{Equal}
use Rattle.archive_check.specs.Layout.{Layout}
use Rattle.archive_check.specs.Reads.{u32_at}
use Rattle.archive_check.specs.Readable.{target_from}
use Rattle.archive_check.specs.SelfCheck.Maps.{entry_size}
use Rattle.archive_check.specs.declared.format.traits.ArchivePointee as ArchivePointee
use Rattle.archive_types.specs.Compared.{Standing, standing}
use Rattle.archive_types.specs.Maps.{entry_value_begin, key_in, value_in}
use Rattle.archive_types.specs.Words.Seen.{ShowsPartOf}
use Rattle.archive_types.specs.declared.view.RawView.{RawView}
use Rattle.archive_types.specs.declared.view.Ref.{Ref}

-- A key and its value where they stand.
abbrev pub Pair : Type 0
Pair = Standing × Standing

-- The pair of the entry i, of keys and values with these layouts, where the entries begin at p; n pairs from the one of index i on.
abbrev pub pair_at : Layout → Layout → List ℕ → ℕ → ℕ → Pair
pair_at k v bytes p i = (standing bytes (p + i * entry_size k v) 0, standing bytes (p + i * entry_size k v + entry_value_begin k v) 0)

abbrev pub pairs_from : Layout → Layout → List ℕ → ℕ → ℕ → ℕ → List Pair
pairs_from k v bytes p i zero = []
pairs_from k v bytes p i (suc n) = pair_at k v bytes p i ∷ pairs_from k v bytes p (i + 1) n

-- The pairs from the entry a up to b, of entries that begin where a part does.
abbrev pub pairs_between : Layout → Layout → RawView → ℕ → ℕ → List Pair
pairs_between k v s a b = pairs_from k v s.bytes.now s.pos a (b - a)

-- How many entries the map has that a view shows, and where the first one begins.
abbrev pub entry_count : {T M : Type 0} {g : ArchivePointee.Ghosts T M} → Ref T M g → ℕ
entry_count m = u32_at m.bytes.now (m.pos + 4)

abbrev pub first_entry : {T M : Type 0} {g : ArchivePointee.Ghosts T M} → Ref T M g → ℕ
first_entry m = target_from m.bytes.now m.pos m.pos

abbrev pub key_shown : {T M : Type 0} {g : ArchivePointee.Ghosts T M} → ℕ → ℕ → Ref T M g → Standing
key_shown z i m = standing m.bytes.now (first_entry m + i * z) 0

-- The pair that two views show.
abbrev pub shown_pair : {T M U N : Type 0} {g : ArchivePointee.Ghosts T M} {h : ArchivePointee.Ghosts U N}
    → Ref T M g × Ref U N h → Pair
shown_pair r = (standing (r.0).bytes.now (r.0).pos (r.0).len, standing (r.1).bytes.now (r.1).pos (r.1).len)

-- The first view shows the key of the entry i of the map that the second one shows.
abbrev pub IsEntryKey : {T M U N : Type 0} {g : ArchivePointee.Ghosts T M} {h : ArchivePointee.Ghosts U N} → Layout
    → Layout → Ref U N h → Ref T M g → ℕ → Type 0
IsEntryKey k v u m i = (u.bytes.now ≡ m.bytes.now) × (u.pos ≡ first_entry m + i * entry_size k v) × (u.len ≡ 0) × ShowsPartOf u m (key_in i)

-- It shows the value of the entry i.
abbrev pub IsEntryValue : {T M U N : Type 0} {g : ArchivePointee.Ghosts T M} {h : ArchivePointee.Ghosts U N} → Layout
    → Layout → Ref U N h → Ref T M g → ℕ → Type 0
IsEntryValue k v u m i = (u.bytes.now ≡ m.bytes.now) × (u.pos ≡ first_entry m + i * entry_size k v + entry_value_begin k v) × (u.len ≡ 0) × ShowsPartOf u m (value_in i)

-- By this order of keys and values of the machine, the key of the entry i equals q.
abbrev pub HasKeyAt : {T M Q : Type 0} {g : ArchivePointee.Ghosts T M} → (Standing → Q → Ordering) → ℕ → Ref T M g → Q
    → ℕ → Type 0
HasKeyAt R z m q i = (i < entry_count m) × (R (key_shown z i m) q ≡ Equal)

-- That of some entry does; that of none.
abbrev pub HasKey : {T M Q : Type 0} {g : ArchivePointee.Ghosts T M} → (Standing → Q → Ordering) → ℕ → Ref T M g → Q
    → Type 0
HasKey R z m q = (i : ℕ) × HasKeyAt R z m q i

abbrev pub HasNoKey : {T M Q : Type 0} {g : ArchivePointee.Ghosts T M} → (Standing → Q → Ordering) → ℕ → Ref T M g → Q
    → Type 0
HasNoKey R z m q = (i : ℕ) → HasKeyAt R z m q i → ⊥

-- The first view shows the value of an entry whose key equals q.
abbrev pub IsValueAtKey : {T M U N Q : Type 0} {g : ArchivePointee.Ghosts T M} {h : ArchivePointee.Ghosts U N}
    → (Standing → Q → Ordering) → Layout → Layout → Ref U N h → Ref T M g → Q → Type 0
IsValueAtKey R k v u m q = (i : ℕ) × HasKeyAt R (entry_size k v) m q i × IsEntryValue k v u m i

-- The comparisons are no more than the binary digits of the map's length.
abbrev pub AreFewFor : {T M : Type 0} {g : ArchivePointee.Ghosts T M} → Ref T M g → ℕ → Type 0
AreFewFor m count = (digits : ℕ) → entry_count m < 2 ^ digits → count ≤ digits
