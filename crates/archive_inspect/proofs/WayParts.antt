-- What a way leads to is a part of the archive; a leaf or a text is one of its leaves.
use Rattle.std.proofs.Common.{◌≡◌, ℕ, ◌+◌, ◌*◌, ◌<◌, pos, List, [], length, Some, slice_index, Contains, All, refl, sym, subst, ◌∙◌}
use Rattle.std.proofs.lemmas.List.Elements.{All-contains, Contains-push}
use Rattle.archive_inspect.specs.declared.route.RouteStep.{RouteStep}
use Rattle.archive_check.specs.Layout.{up, size_of, align_of, kind_size}
use Rattle.archive_check.specs.Leaves.{number_leaf, text_leaf, leaves_of, regions_of}
use Rattle.archive_check.specs.Reads.{SchemaTable, bytes_at, before_end, kind_value, IsOutOfLine, reads_boxed, reads_vec, reads_map, reads_inline, reads_out_of_line, reads_shared, reads_null, reads_weak}
use Rattle.archive_check.specs.Shape.{Name, Kind, Key, Shape, leaf, choice, sorted_map, str, named as named_shape, Pointee, one, run, text, Parts, Variants, key_shape, entry_of, definition, variant_at}
use Rattle.archive_check.specs.Tour.{region_of, root_region, Contents, contents_one, Accepted}
use Rattle.archive_check.specs.Value.{Pointer, Value, pointers}
use Rattle.archive_check.specs.Within.{IsPart, first_part, later_part, Within, whole, in_parts, in_choice, in_array, in_named, whole_region, in_string, PartOfSome}
use Rattle.archive_check.proofs.Editing.Texts.{inline_bytes}
use Rattle.archive_check.proofs.Maps.Entries.{key_at, value_at}
use Rattle.archive_check.proofs.Meanings.ReachedParts.{LeadsInto, Closed, part_of_reads, accepted_closed, part_within, part_element}
use Rattle.archive_check.proofs.Tours.ReadingUnique.{pos_one}
use Rattle.archive_inspect.proofs.StandingLeaves.{leaf_stands, text_stands}
use Rattle.archive_inspect.specs.Ways.{WayEnd, a_value, a_payload, a_text, IsPartNumbered, numbered_first, numbered_later, PointsBy, points_box, points_vec, points_map, points_string, points_shared, points_weak, StepsTo, steps_part, steps_variant, steps_payload, steps_only, steps_array, steps_element, steps_target, steps_text, steps_key, steps_value, LeadsBy, leads_root, leads_named, leads_on}

module _ (s : SchemaTable) (bytes : List ℕ) where
  is_part : {p at k q : ℕ} {ps : Parts} {Y : Shape} → IsPartNumbered s p at ps k q Y → IsPart s p at ps q Y
  is_part numbered_first = first_part
  is_part (numbered_later i) = later_part (is_part i)

  -- what is read of a pointer has it as its only hole
  pointer_read : {p n : ℕ} {X : Shape} {P : Pointer} {v : Value} → PointsBy bytes p X P → Contents s bytes p (one X) n v → Contains (pointers v) P
  pointer_read {P = P} points_box (contents_one reads_boxed) = Contains-push [] P
  pointer_read {P = P} points_vec (contents_one reads_vec) = Contains-push [] P
  pointer_read {P = P} points_map (contents_one reads_map) = Contains-push [] P
  pointer_read (points_string o long) (contents_one (reads_inline inline u)) = absurd (inline o)
  pointer_read {P = P} (points_string o long) (contents_one (reads_out_of_line out far)) = Contains-push [] P
  pointer_read {P = P} points_shared (contents_one reads_shared) = Contains-push [] P
  pointer_read (points_weak other) (contents_one (reads_null e)) = absurd (other e)
  pointer_read {P = P} (points_weak other) (contents_one (reads_weak e)) = Contains-push [] P

  module _ (root : ℕ) (X : Shape) (a : Accepted s bytes root X) where
    abbrev pub IsPartAt : ℕ → Pointee → ℕ → Type 0
    IsPartAt = PartOfSome s bytes (regions_of a)

    -- a value or a text is a part of the archive, a payload that of a choice that is one
    pub data EndStands (p : ℕ) : WayEnd → Type 0 where
      value_stands : {Y : Shape} (n : ℕ) → IsPartAt p (one Y) n → EndStands p (a_value Y)
      payload_stands : {name : Name} {variants : Variants} {ps : Parts} (n : ℕ) → IsPartAt p (one (choice name variants)) n → variant_at variants (slice_index bytes p) ≡ Some ps → EndStands p (a_payload ps)
      text_ends : {n : ℕ} → IsPartAt p text n → EndStands p (a_text n)

    inner : {p n q : ℕ} {Y Z : Shape} → IsPartAt p (one Y) n → Within s bytes p Y q Z → IsPartAt q (one Z) 0
    inner (r, c, i) w = (r, c, part_within s bytes i refl w)

    element : {t n k : ℕ} {P : Pointee} {Y : Shape} → IsPartAt t P n → P ≡ run Y → k < n → IsPartAt (t + k * size_of s.layouts Y) (one Y) 0
    element (r, c, i) is below = (r, c, part_element s bytes i is below)

    -- what a pointer leads to is a region of the archive
    target : {p n t : ℕ} {Y : Shape} {P : Pointer} → IsPartAt p (one Y) n → PointsBy bytes p Y P → P.target ≡ pos t → IsPartAt t P.pointee P.length
    target {t = t} {P = P} (r, c, i) by there =
        let (v, h, leads) = All-contains (Closed s bytes (regions_of a)) (regions_of a) r (accepted_closed s bytes a) c in
        let (w, k, f) = part_of_reads s bytes i h in
        let (u, x, l, has, y) = All-contains (LeadsInto s bytes (regions_of a)) (pointers v) P leads (f P (pointer_read by k)) in
        let here : u ≡ t = pos_one (sym l.target ∙ there) in
        subst (λ z. IsPartAt z P.pointee P.length) here (region_of s P u, has, whole_region)

    value_at_end : {p n : ℕ} {P : Pointee} {Y : Shape} → P ≡ one Y → IsPartAt p P n → EndStands p (a_value Y)
    value_at_end {p} {n} is h = value_stands n (subst (λ Q. IsPartAt p Q n) is h)

    text_at_end : {p n : ℕ} {P : Pointee} → P ≡ text → IsPartAt p P n → EndStands p (a_text n)
    text_at_end {p} {n} is h = text_ends (subst (λ Q. IsPartAt p Q n) is h)

    -- an entry of a map, and its key and value
    entry : {m n t k : ℕ} {K : Key} {V : Shape} {P : Pointer} → IsPartAt m (one (sorted_map K V)) n → PointsBy bytes m (sorted_map K V) P → P.target ≡ pos t → P.pointee ≡ run (entry_of K V) → k < P.length
        → IsPartAt (t + k * size_of s.layouts (entry_of K V)) (one (entry_of K V)) 0
    entry h by there is below = element (target h by there) is below

    key_stands : {q n : ℕ} (K : Key) (V : Shape) → IsPartAt q (one (entry_of K V)) n → EndStands q (a_value (key_shape K))
    key_stands {q} K V h = value_stands 0 (subst (λ z. IsPartAt z (one (key_shape K)) 0) (key_at s.layouts K q) (inner h (in_parts whole first_part)))

    value_of_entry : {q n : ℕ} (K : Key) (V : Shape) → IsPartAt q (one (entry_of K V)) n → EndStands (q + up (size_of s.layouts (key_shape K)) (align_of s.layouts V)) (a_value V)
    value_of_entry {q} K V h = value_stands 0 (subst (λ z. IsPartAt (q + z) (one V) 0) (value_at s.layouts K V) (inner h (in_parts whole (later_part first_part))))

    step_stands : {p q : ℕ} {step : RouteStep} {e f : WayEnd} → EndStands p e → StepsTo s bytes p step e q f → EndStands q f
    step_stands (value_stands n h) (steps_part i) = value_stands 0 (inner h (in_parts whole (is_part i)))
    step_stands (value_stands n h) (steps_variant e) = payload_stands n h e
    step_stands (payload_stands n h e) (steps_payload i) = value_stands 0 (inner h (in_choice whole e (is_part i)))
    step_stands (payload_stands n h e) (steps_only i) = value_stands 0 (inner h (in_choice whole e (is_part i)))
    step_stands (value_stands n h) (steps_array below) = value_stands 0 (inner h (in_array whole below))
    step_stands (value_stands n h) (steps_element by there is below) = value_stands 0 (element (target h by there) is below)
    step_stands (value_stands n h) (steps_target by there is) = value_at_end is (target h by there)
    step_stands (value_stands n h) (steps_text by there is) = text_at_end is (target h by there)
    step_stands (value_stands n h) (steps_key {K = K} {V = V} there below) = key_stands K V (entry h points_map there refl below)
    step_stands (value_stands n h) (steps_value {K = K} {V = V} there below) = value_of_entry K V (entry h points_map there refl below)
    step_stands (text_ends h) by = elim by [ ]

    pub way_stands : {steps : List RouteStep} {p : ℕ} {e : WayEnd} → LeadsBy s bytes root X steps p e → EndStands p e
    way_stands leads_root = value_stands 0 (root_region s root X, Contains-push a.regions (root_region s root X), whole_region)
    way_stands (leads_named h d) = named (way_stands h) d
      where
        named : {p : ℕ} {name : Name} {Y : Shape} → EndStands p (a_value (named_shape name)) → definition s.table name ≡ Some Y → EndStands p (a_value Y)
        named (value_stands n h) d = value_stands 0 (inner h (in_named whole d))
    way_stands (leads_on h step) = step_stands (way_stands h) step

    -- a leaf or a text to which a way leads is one of the leaves
    pub leaf_among : {p : ℕ} {kind : Kind} → EndStands p (a_value (leaf kind)) → Contains (leaves_of a) (number_leaf p kind (kind_value kind (bytes_at bytes p (kind_size kind))))
    leaf_among {p} {kind} (value_stands n h) = leaf_stands s bytes a p n kind h

    pub text_among : {p n : ℕ} → EndStands p (a_text n) → Contains (leaves_of a) (text_leaf p (bytes_at bytes p n))
    text_among {p} {n} (text_ends h) = text_stands s bytes a p n h

    pub inline_among : {p : ℕ} → (IsOutOfLine bytes p → ⊥) → EndStands p (a_value str) → Contains (leaves_of a) (text_leaf p (before_end (bytes_at bytes p 8)))
    inline_among {p} o (value_stands n (r, c, i)) =
        subst (λ t. Contains (leaves_of a) (text_leaf p t)) (inline_bytes bytes p) (text_stands s bytes a p (length (before_end (bytes_at bytes p 8))) (r, c, in_string i o))
