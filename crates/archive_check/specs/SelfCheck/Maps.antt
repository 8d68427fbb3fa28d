-- The check of a map: how its entries lie, and the law of its type, from those of its key and its value.
use Rattle.std.specs.Prelude.{◌≡◌, ℕ, ℤ, ◌+◌, max, Bool, true, ◌&&◌, ◌||◌, Option, Some, None, IsTrue, nat_lt, List}
use Rattle.std.proofs.Common.{refl, sym, ap, ◌∙◌}
use Rattle.std.proofs.lemmas.Bool.{and_parts}
use Rattle.archive_check.specs.Shape.{Name, Key, leaf_key, str_key, Shape, parts, sorted_map, run, Parts, Table, key_shape, entry_of}
use Rattle.archive_check.specs.Layout.{Layout, up}
use Rattle.archive_check.specs.Value.{Pointer}
use Rattle.archive_check.specs.Defined.{Holds, holds_parts, holds_first, holds_later, Mentions, mentions_held, mentions_map, mentions_parts, mentions_first, mentions_later}
use Rattle.archive_check.specs.Definitions.{Definitions, no_definition, both, listed, NoOthers}
use Rattle.archive_check.specs.MissingNames.{or_else, missing}
use Rattle.archive_check.specs.Members.NoOthers.{around_reached}
use Rattle.archive_check.specs.SelfCheck.Ways.{Way, enter_way}
use Rattle.archive_check.specs.SelfCheck.Laws.{IsCheckOf, own_check}
use Rattle.archive_check.specs.SelfCheck.Lone.{AreOrdered, tuple_direct, none_listed}
use Rattle.archive_check.specs.SelfCheck.Owners.{owned_order}

-- Where an entry ends whose key and value have these layouts, and what it takes with the padding behind it.
abbrev pub entry_end : Layout → Layout → ℕ
entry_end k v = up (up 0 k.align + k.size) v.align + v.size

abbrev pub entry_align : Layout → Layout → ℕ
entry_align k v = max k.align (max v.align 1)

abbrev pub entry_size : Layout → Layout → ℕ
entry_size k v = up (entry_end k v) (entry_align k v)

-- The definitions of a key and a value.
abbrev pub entry_definitions : Definitions → Definitions → Definitions
entry_definitions D E = both D (both E no_definition)

-- Whether it holds of a key and of a value: that they check themselves, or that they bring no definition.
abbrev pub entry_each : Bool → Bool → Bool
entry_each k v = k && (v && true)

-- Whether one of them at most brings definitions, as `lone` says it of parts.
abbrev pub entry_lone : Bool → Bool → Bool
entry_lone k v = (v && true) || (k && (true || (v && true)))

-- A pointer to n entries of a map.
abbrev pub to_entries : ℤ → Key → Shape → ℕ → Pointer
to_entries z K V n = record { target = z; sharing = None; order = Some K; pointee = run (entry_of K V); length = n }

-- The region of entries that a pointer to z leads to.
abbrev pub entries_at : List ℕ → ℤ → ℕ → Key → Shape → Way
entries_at bytes z n K V = enter_way bytes (to_entries z K V n)

-- A key mentions no name, so an entry mentions those of its value.
no_name_held : {n : Name} (K : Key) → Holds n (key_shape K) → ⊥
no_name_held (leaf_key kind) h = elim h [ ]
no_name_held str_key h = elim h [ ]

no_name : {n : Name} (K : Key) → Mentions n (key_shape K) → ⊥
no_name (leaf_key kind) (mentions_held h) = elim h [ ]
no_name str_key (mentions_held h) = elim h [ ]

entry_holds : {n : Name} (K : Key) {V : Shape} → Holds n (entry_of K V) → Holds n V
entry_holds K (holds_parts (holds_first h)) = absurd (no_name_held K h)
entry_holds K (holds_parts (holds_later (holds_first h))) = h
entry_holds K (holds_parts (holds_later (holds_later h))) = elim h [ ]

pub entry_mentions : {n : Name} (K : Key) {V : Shape} → Mentions n (entry_of K V) → Mentions n V
entry_mentions K (mentions_held h) = mentions_held (entry_holds K h)
entry_mentions K (mentions_parts (mentions_first m)) = absurd (no_name K m)
entry_mentions K (mentions_parts (mentions_later (mentions_first m))) = m
entry_mentions K (mentions_parts (mentions_later (mentions_later m))) = elim m [ ]

or_nothing : (o : Option Name) → o ≡ or_else o None
or_nothing None = refl
or_nothing (Some name) = refl

-- an entry misses what its value does.
entry_misses : (table : Table) (K : Key) (V : Shape) → missing true table (sorted_map K V) ≡ missing true table (entry_of K V)
entry_misses table (leaf_key kind) V = or_nothing (missing true table V)
entry_misses table str_key V = or_nothing (missing true table V)

-- of what an entry of such a map is a record of
module _ (D : Definitions) (K : Key) (V : Shape) (ps : Parts) (is : parts ps ≡ entry_of K V) where
  -- The check of the map.
  pub map_check : (direct nameless lone : Bool) (size : ℕ) → (IsTrue direct → AreOrdered D ps nameless lone) → IsTrue (tuple_direct direct lone size) → IsCheckOf D (sorted_map K V) 8 D (sorted_map K V) 8 nameless
  map_check direct nameless lone size h says =
      let (each, small) = and_parts (direct && lone) (nat_lt size 18446744073709551615) says in
      let (own, alone) = and_parts direct lone each in
      let r = h own in
      let o = r.ordered alone in
      let root : missing true o.0 (sorted_map K V) ≡ missing true o.0 (parts ps) = entry_misses o.0 K V ∙ sym (ap (λ Y. missing true o.0 Y) is) in
      own_check D (sorted_map K V) 8 o.0 nameless refl (owned_order D (parts ps) (sorted_map K V) o.0 root o.1) (λ none. none_listed (listed D) (r.plain none).has)

  -- It reaches what its entries do.
  pub map_reaches : NoOthers D (parts ps) → NoOthers D (sorted_map K V)
  map_reaches h = around_reached D (entry_of K V) (sorted_map K V) (λ n m. mentions_map (entry_mentions K m)) (rw is at h)
