-- The ways through each shape, from the ways through what it holds.
use Rattle.std.proofs.Common.{◌≡◌, ℕ, suc, refl, ◌+◌, ◌<◌, List, Option, Some, None}
use Rattle.archive_check.specs.Shape.{Shape, Key, parts, boxed, vec, sorted_map, key_shape, entry_of, str, Pointee, one, run, Parts, part}
use Rattle.archive_check.specs.Layout.{up, size_of, align_of}
use Rattle.archive_check.specs.Value.{Pointer}
use Rattle.archive_check.specs.Reads.{SchemaTable, u32_at, IsOutOfLine, decoded_length, pointer_at, map_at, string_at}
use Rattle.archive_check.specs.Keys.{ComesBehind}
use Rattle.archive_check.specs.Tour.{Seen}
use Rattle.archive_check.specs.Walk.{walk_parts, walk_boxed, walk_vec, walk_map, walk_out_of_line, walk_part, walk_none, walk_element, follow_unique, walk_one, walk_run, walk_entries}
use Rattle.archive_check.specs.Trail.{Fault, unsorted, trips_parts, trips_boxed, trips_vec, trips_map, trips_out_of_line, trips_first, trips_later, trips_element, trips_later_element, trips_unique, trips_one, trips_run, trips_entries, trips_key, trips_order, trips_value, trips_later_entry}
use Rattle.archive_check.specs.Outcomes.{Outcome, done, refused}
use Rattle.archive_check.specs.SelfCheck.Ways.{shape_way, parts_way, run_way, enter_way}
use Rattle.archive_check.specs.SelfCheck.Regions.{follow_way, contents_way, entries_way}

module _ (bytes : List ℕ) (s : SchemaTable) (pending : List ℕ) (depth : Option ℕ) (stop start : ℕ) (seen : Seen) where
  -- one value, and a run, in their regions
  pub one_way : (t n : ℕ) (X : Shape) (o : Outcome) → shape_way bytes t X s pending depth stop start seen o → contents_way bytes t None (one X) n s pending depth stop start seen o
  one_way t n X (done l k) w = walk_one w
  one_way t n X (refused f) w = trips_one w

  pub many_way : (t n : ℕ) (X : Shape) (o : Outcome) → run_way bytes t n X s pending depth stop start seen o → contents_way bytes t None (run X) n s pending depth stop start seen o
  many_way t n X (done l k) w = walk_run w
  many_way t n X (refused f) w = trips_run w

  -- the entries of a map in theirs
  pub all_entries_way : (t n : ℕ) (K : Key) (V : Shape) (o : Outcome) → entries_way bytes None t n K V s pending depth stop start seen o → contents_way bytes t (Some K) (run (entry_of K V)) n s pending depth stop start seen o
  all_entries_way t n K V (done l k) w = walk_entries w.0 w.1
  all_entries_way t n K V (refused f) w = trips_entries w

  -- the region of a unique pointer
  pub unique_way : (p : Pointer) (o : Outcome) → p.sharing ≡ None → enter_way bytes p s pending depth stop start seen o → follow_way bytes p s pending depth stop start seen o
  unique_way p (done l k) e (t, w) = follow_unique e w
  unique_way p (refused f) e w = trips_unique e w

  pub boxed_way : (p : ℕ) (P : Pointee) (o : Outcome) → enter_way bytes (pointer_at bytes p None P) s pending depth stop start seen o → shape_way bytes p (boxed P) s pending depth stop start seen o
  boxed_way p P (done l k) w = walk_boxed (unique_way (pointer_at bytes p None P) (done l k) refl w)
  boxed_way p P (refused f) w = trips_boxed (unique_way (pointer_at bytes p None P) (refused f) refl w)

  pub vec_way : (p : ℕ) (X : Shape) (o : Outcome) → enter_way bytes (pointer_at bytes p None (run X)) s pending depth stop start seen o → shape_way bytes p (vec X) s pending depth stop start seen o
  vec_way p X (done l k) w = walk_vec (unique_way (pointer_at bytes p None (run X)) (done l k) refl w)
  vec_way p X (refused f) w = trips_vec (unique_way (pointer_at bytes p None (run X)) (refused f) refl w)

  pub map_way : (p : ℕ) (K : Key) (V : Shape) (o : Outcome) → enter_way bytes (map_at bytes p K V) s pending depth stop start seen o → shape_way bytes p (sorted_map K V) s pending depth stop start seen o
  map_way p K V (done l k) w = walk_map (unique_way (map_at bytes p K V) (done l k) refl w)
  map_way p K V (refused f) w = trips_map (unique_way (map_at bytes p K V) (refused f) refl w)

  pub string_way : (p : ℕ) (o : Outcome) → IsOutOfLine bytes p → 8 < decoded_length (u32_at bytes p) → enter_way bytes (string_at bytes p) s pending depth stop start seen o → shape_way bytes p str s pending depth stop start seen o
  string_way p (done l k) out long w = walk_out_of_line out long (unique_way (string_at bytes p) (done l k) refl w)
  string_way p (refused f) out long w = trips_out_of_line out long (unique_way (string_at bytes p) (refused f) refl w)

  pub record_way : (p : ℕ) (ps : Parts) (o : Outcome) → parts_way bytes p 0 ps s pending depth stop start seen o → shape_way bytes p (parts ps) s pending depth stop start seen o
  record_way p ps (done l k) w = walk_parts w
  record_way p ps (refused f) w = trips_parts w

  -- one part more
  pub part_way : (p at q next mid : ℕ) (X : Shape) (ps : Parts) (o : Outcome) → q ≡ p + up at (align_of s.layouts X) → next ≡ up at (align_of s.layouts X) + size_of s.layouts X
      → shape_way bytes q X s pending depth stop start seen (done mid seen) → parts_way bytes p next ps s pending depth stop mid seen o → parts_way bytes p at (part X ps) s pending depth stop start seen o
  part_way p at q next mid X ps (done l k) here after w v = walk_part (rw here at w) (rw after at v)
  part_way p at q next mid X ps (refused f) here after w v = trips_later (rw here at w) (rw after at v)

  pub part_stop : (p at q : ℕ) (X : Shape) (ps : Parts) (f : Fault) → q ≡ p + up at (align_of s.layouts X) → shape_way bytes q X s pending depth stop start seen (refused f) → parts_way bytes p at (part X ps) s pending depth stop start seen (refused f)
  part_stop p at q X ps f here w = trips_first (rw here at w)

  -- one element more
  pub element_way : (p q n m mid : ℕ) (X : Shape) (o : Outcome) → m ≡ suc n → q ≡ p + size_of s.layouts X
      → shape_way bytes p X s pending depth stop start seen (done mid seen) → run_way bytes q n X s pending depth stop mid seen o → run_way bytes p m X s pending depth stop start seen o
  element_way p q n m mid X (done l k) e here w v = rw e (walk_element w (rw here at v))
  element_way p q n m mid X (refused f) e here w v = rw e (trips_later_element w (rw here at v))

  pub element_stop : (p n m : ℕ) (X : Shape) (f : Fault) → m ≡ suc n → shape_way bytes p X s pending depth stop start seen (refused f) → run_way bytes p m X s pending depth stop start seen (refused f)
  element_stop p n m X f e w = rw e (trips_element w)

  -- one entry more of a map
  pub entry_way : (before : Option ℕ) (p q n m mid : ℕ) (K : Key) (V : Shape) (o : Outcome) → m ≡ suc n → q ≡ p + size_of s.layouts (entry_of K V) → ComesBehind K bytes before p
      → shape_way bytes p (entry_of K V) s pending depth stop start seen (done mid seen) → entries_way bytes (Some p) q n K V s pending depth stop mid seen o → entries_way bytes before p m K V s pending depth stop start seen o
  entry_way before p q n m mid K V (done l k) e here behind w v = rw e (walk_element w (rw here at v.0), (behind, rw here at v.1))
  entry_way before p q n m mid K V (refused f) e here behind w v = rw e (trips_later_entry w behind (rw here at v))

  pub key_stop : (before : Option ℕ) (p n m : ℕ) (K : Key) (V : Shape) (f : Fault) → m ≡ suc n → shape_way bytes p (key_shape K) s pending depth stop start seen (refused f) → entries_way bytes before p m K V s pending depth stop start seen (refused f)
  key_stop before p n m K V f e w = rw e (trips_key w)

  pub order_stop : (before : Option ℕ) (p n m mid : ℕ) (K : Key) (V : Shape) → m ≡ suc n → (ComesBehind K bytes before p → ⊥)
      → shape_way bytes p (key_shape K) s pending depth stop start seen (done mid seen) → entries_way bytes before p m K V s pending depth stop start seen (refused unsorted)
  order_stop before p n m mid K V e not w = rw e (trips_order w not)

  pub value_stop : (before : Option ℕ) (p at n m mid : ℕ) (K : Key) (V : Shape) (f : Fault) → m ≡ suc n → at ≡ p + up (size_of s.layouts (key_shape K)) (align_of s.layouts V) → ComesBehind K bytes before p
      → shape_way bytes p (key_shape K) s pending depth stop start seen (done mid seen) → shape_way bytes at V s pending depth stop mid seen (refused f) → entries_way bytes before p m K V s pending depth stop start seen (refused f)
  value_stop before p at n m mid K V f e here behind k v = rw e (trips_value k behind (rw here at v))

  pub no_entry_way : (before : Option ℕ) (p n : ℕ) (K : Key) (V : Shape) → n ≡ 0 → entries_way bytes before p n K V s pending depth stop start seen (done start seen)
  no_entry_way before p n K V e = rw e (walk_none, tt)

  pub none_way : (p n : ℕ) (X : Shape) → n ≡ 0 → run_way bytes p n X s pending depth stop start seen (done start seen)
  none_way p n X e = rw e walk_none
