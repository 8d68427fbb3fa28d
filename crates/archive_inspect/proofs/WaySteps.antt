-- The steps that the program takes are by the rules of reading.
use Rattle.std.proofs.Common.{◌≡◌, ◌≢◌, ℕ, suc, ◌+◌, ◌*◌, ◌<◌, max, pos, ◌+ℤ◌, List, [], ◌∷◌, ◌++◌, length, refl, sym, ap, ap₂, ◌∙◌, subst, arith, Some, None, option_map, slice_index, Bor}
use Rattle.archive_inspect.specs.declared.route.RouteStep.{RouteStep}
use Rattle.archive_inspect.specs.declared.route.RouteStep.TheVariants.{Part, Only, Variant, Element, Key as KeyStep, Value as ValueStep, Target, Text as TextStep}
use Rattle.archive_inspect.specs.declared.ways.Point.{Point}
use Rattle.archive_inspect.specs.declared.ways.entries.EntryPlaces.{EntryPlaces}
use Rattle.archive_inspect.specs.declared.ways.pointing.Pointing.{Pointing}
use Rattle.archive_inspect.specs.declared.ways.pointing.Pointed.{Pointed}
use Rattle.archive_inspect.specs.declared.ways.pointing.Pointed.TheVariants as pointed
use Rattle.archive_check.specs.declared.format.layout.Layout.{Layout as RustLayout}
use Rattle.archive_check.specs.declared.format.expr.Key.{Key as KeyExpr}
use Rattle.archive_schema.specs.declared.shape.Schema.{Schema as RustSchema}
use Rattle.archive_check.specs.declared.format.expr.Expr.{Expr}
use Rattle.archive_check.specs.Shape.{Name, Key, Flavor, Shape, parts, choice, array, boxed, vec, sorted_map, str, shared, weak, Pointee, one, run, text, Parts, no_part, part, Variants, variant_at, key_shape, entry_of}
use Rattle.archive_check.specs.Layout.{Layout, layout, up, key_size, key_align, size_of, align_of}
use Rattle.archive_check.specs.Expressions.{shape_of, shapes_in, key_of, flavor_of}
use Rattle.archive_check.specs.Value.{Pointer}
use Rattle.archive_check.specs.Reads.{SchemaTable, u32_at, i32_at, IsOutOfLine, decoded_length, pointer_at, string_at}
use Rattle.archive_check.specs.Definitions.{HasLayout}
use Rattle.archive_schema.specs.Schemas.{definitions_in, root_of, layout_of}
use Rattle.archive_inspect.proofs.EntryLayouts.{key_takes, entry_layout}
use Rattle.archive_inspect.specs.Ways.{WayEnd, a_value, a_payload, a_text, IsPartNumbered, numbered_first, numbered_later, PointsBy, points_box, points_vec, points_map, points_string, points_shared, points_weak, steps_part, steps_variant, steps_payload, steps_only, steps_array, steps_element, steps_target, steps_text, steps_key, steps_value, LeadsBy, leads_root, leads_named, leads_on}
use Rattle.archive_inspect.specs.Points.{end_of_way, pointed_of, pointed_order, pointer_told, IsRunAt, Under, MeantBy, means_itself, means_more, MeansEnd, means_value, means_so, MeansThere, EndsNext, EntrySizes, PartAmong, ElementAmong, EntryAmong, PointsFrom, points_from, StepsBetween, LeadsToPoint}

-- the pointers that the program reads
module _ (bytes : List ℕ) (p : ℕ) where
  pub box_points : {X : Shape} {P : Pointee} {q : Pointer} → X ≡ boxed P → q ≡ pointer_at bytes p None P → PointsBy bytes p X q
  box_points e h = rw (e, h) points_box

  pub shared_points : {X : Shape} {flavor : Flavor} {P : Pointee} {q : Pointer} → X ≡ shared flavor P → q ≡ pointer_at bytes p (Some flavor) P → PointsBy bytes p X q
  shared_points e h = rw (e, h) points_shared

  pub weak_points : {X : Shape} {flavor : Flavor} {P : Pointee} {q : Pointer} → X ≡ weak flavor P → i32_at bytes p ≢ pos 1 → q ≡ pointer_at bytes p (Some flavor) P → PointsBy bytes p X q
  weak_points e other h = rw (e, h) (points_weak other)

  pub string_points : {q : Pointer} → IsOutOfLine bytes p → 8 < decoded_length (u32_at bytes p) → q ≡ string_at bytes p → PointsBy bytes p str q
  string_points out long h = rw h (points_string out long)

  run_told : (to : Pointed) (r : Pointing) → IsRunAt bytes p to r
      → pointer_told r ≡ record { target = pos p +ℤ i32_at bytes p; sharing = None; order = pointed_order to; pointee = pointed_of to; length = u32_at bytes (p + 4) }
  run_told to r h = λ i. record { target = h.target i; sharing = option_map flavor_of (h.owned i); order = pointed_order (h.pointed i); pointee = pointed_of (h.pointed i); length = h.length i }

  pub vec_points : {X : Shape} (x : Bor Expr) (r : Pointing) → X ≡ vec (shape_of x.now) → IsRunAt bytes p (pointed.Run x) r → PointsBy bytes p X (pointer_told r)
  vec_points x r e h = rw (e, run_told (pointed.Run x) r h) points_vec

  pub map_points : {X : Shape} (K : KeyExpr) (x : Bor Expr) (r : Pointing) → X ≡ sorted_map (key_of K) (shape_of x.now) → IsRunAt bytes p (pointed.Entries K x) r → PointsBy bytes p X (pointer_told r)
  map_points K x r e h = rw (e, run_told (pointed.Entries K x) r h) points_map

module _ (f : RustSchema) where
  -- what an entry takes, by what its value does
  pub entry_sizes : (K : Key) (V : Shape) (l : RustLayout) → HasLayout (definitions_in f) V (layout_of l) → (offset end align size : ℕ) → offset ≡ up (key_size K) l.align → end ≡ offset + l.size → align ≡ max (key_align K) l.align → size ≡ up end align
      → Under f (λ s. (layout s.layouts (entry_of K V) ≡ record { size = size; align = align }) × (offset ≡ up (size_of s.layouts (key_shape K)) (align_of s.layouts V)))
  entry_sizes K V l h offset end align size begins ends aligned takes s know =
      let its_size : size_of s.layouts V ≡ l.size = ap (λ (k : Layout). k.size) (h.solved s know) in
      let its_align : align_of s.layouts V ≡ l.align = ap (λ (k : Layout). k.align) (h.solved s know) in
      let positive : 0 < align_of s.layouts V = rw its_align l.positive in
      let laid = entry_layout s.layouts K V positive in
      let all : size_of s.layouts (entry_of K V) ≡ size = laid.0 ∙ ap₂ (λ a z. up (up (key_size K) a + z) (max (key_align K) a)) its_align its_size ∙ sym (takes ∙ ap₂ up (ends ∙ ap (λ o. o + l.size) begins) aligned) in
      let high : align_of s.layouts (entry_of K V) ≡ align = laid.1 ∙ ap (λ a. max (key_align K) a) its_align ∙ sym aligned in
      ((λ i. record { size = all i; align = high i }), begins ∙ ap₂ up (sym (key_takes s.layouts K)) (sym its_align))

  -- where an entry lies, and its value
  module _ (K : Key) (V : Shape) (l : RustLayout) (offset : ℕ) (sizes : EntrySizes f K V (l, offset)) (target k : ℕ) where
    pub entry_lies : (start : ℕ) → start ≡ target + k * l.size → Under f (λ s. start ≡ target + k * size_of s.layouts (entry_of K V))
    entry_lies start is s know = is ∙ ap (λ z. target + k * z) (sym (ap (λ (m : Layout). m.size) (sizes s know).0))

    pub entry_value_lies : (start value : ℕ) → start ≡ target + k * l.size → value ≡ start + offset
        → Under f (λ s. value ≡ target + k * size_of s.layouts (entry_of K V) + up (size_of s.layouts (key_shape K)) (align_of s.layouts V))
    entry_value_lies start value is behind s know = behind ∙ ap₂ (λ a b. a + b) (entry_lies start is s know) (sizes s know).1

  -- The parts before the one of a number are laid out, `done` of them, up to `at`; what is counted on from there is counted from the start.
  abbrev pub PartsLeft : ℕ → ℕ → Parts → Parts → ℕ → ℕ → ℕ → Type 0
  PartsLeft p start ps rest done number at =
      Under f (λ s. (k q : ℕ) (Y : Shape) → number ≡ done + k → IsPartNumbered s p at rest k q Y → IsPartNumbered s p start ps number q Y)

  -- where a part lies behind an end, by its layout
  pub offset_lies : (X : Shape) (l : RustLayout) (p at offset q : ℕ) → HasLayout (definitions_in f) X (layout_of l) → offset ≡ up at l.align → q ≡ p + offset → Under f (λ s. q ≡ p + up at (align_of s.layouts X))
  offset_lies X l p at offset q h is there s know = there ∙ ap (λ o. p + o) (is ∙ ap (λ a. up at a) (sym (ap (λ (k : Layout). k.align) (h.solved s know))))

  module _ (p start : ℕ) (ps : Parts) where
    pub left_first : (number : ℕ) → PartsLeft p start ps ps 0 number start
    left_first number s know k q Y e h = let same : k ≡ number = omega arith in subst (λ j. IsPartNumbered s p start ps j q Y) same h

    pub left_more : (rest others : Parts) (X : Shape) (done next number at end : ℕ) → PartsLeft p start ps rest done number at → rest ≡ part X others → next ≡ done + 1 → EndsNext f X at end
        → PartsLeft p start ps others next number end
    left_more rest others X done next number at end left is follows ends s know k q Y e h =
        let count : number ≡ done + suc k = omega arith in
        let here : IsPartNumbered s p (up at (align_of s.layouts X) + size_of s.layouts X) others k q Y = subst (λ n. IsPartNumbered s p n others k q Y) (ends s know) h in
        left s know (suc k) q Y count (subst (λ r. IsPartNumbered s p at r (suc k) q Y) (sym is) (numbered_later here))

    pub left_last : (rest others : Parts) (X : Shape) (number at q : ℕ) → PartsLeft p start ps rest number number at → rest ≡ part X others → Under f (λ s. q ≡ p + up at (align_of s.layouts X))
        → Under f (λ s. IsPartNumbered s p start ps number q X)
    left_last rest others X number at q left is lies s know =
        let count : number ≡ number + 0 = omega arith in
        let here : IsPartNumbered s p at (part X others) 0 q X = subst (λ n. IsPartNumbered s p at (part X others) 0 n X) (sym (lies s know)) numbered_first in
        left s know 0 q X count (subst (λ r. IsPartNumbered s p at r 0 q X) (sym is) here)

  -- a way leads to what its end means, too
  module _ (s : SchemaTable) (bytes : List ℕ) (root : ℕ) (X : Shape) (steps : List RouteStep) (p : ℕ) where
    pub leads_meant : {Y Z : Shape} → LeadsBy s bytes root X steps p (a_value Y) → MeantBy s Y Z → LeadsBy s bytes root X steps p (a_value Z)
    leads_meant h means_itself = h
    leads_meant h (means_more m d) = leads_named (leads_meant h m) d

    pub leads_end : {e g : WayEnd} → LeadsBy s bytes root X steps p e → MeansEnd s e g → LeadsBy s bytes root X steps p g
    leads_end h (means_value m) = leads_meant h m
    leads_end h means_so = h

  -- a way goes on by a step, to what it leads to, and to what that means
  module _ (bytes : List ℕ) (root : ℕ) where
    pub way_begins : (x : Point) → x.at ≡ root → Under f (λ s. MeansEnd s (a_value (root_of f)) (end_of_way x.thing)) → LeadsToPoint f bytes root [] x
    way_begins x at means s know = rw at (leads_end s bytes root (root_of f) [] root leads_root (means s know))

    pub way_goes_on : (steps : List RouteStep) (step : RouteStep) (a b x : Point) → LeadsToPoint f bytes root steps a → StepsBetween f bytes step a b → x.at ≡ b.at → MeansThere f b.thing x.thing
        → LeadsToPoint f bytes root (steps ++ step ∷ []) x
    way_goes_on steps step a b x leads goes at means s know = rw at (leads_end s bytes root (root_of f) (steps ++ step ∷ []) b.at (leads_on (leads s know) (goes s know)) (means s know))

  module _ (bytes : List ℕ) (a b : Point) where
    pub part_step : {ps : Parts} {k : ℕ} → end_of_way a.thing ≡ a_value (parts ps) → PartAmong f a.at 0 ps k b → (shown : Bor (List ℕ)) → StepsBetween f bytes (Part k shown) a b
    part_step e h shown s know = rw (e, h.value) (steps_part (h.numbered s know))

    pub payload_step : {ps : Parts} {k : ℕ} → end_of_way a.thing ≡ a_payload ps → PartAmong f a.at 1 ps k b → (shown : Bor (List ℕ)) → StepsBetween f bytes (Part k shown) a b
    payload_step e h shown s know = rw (e, h.value) (steps_payload (h.numbered s know))

    pub only_step : {ps : Parts} {X : Shape} → end_of_way a.thing ≡ a_payload ps → ps ≡ part X no_part → PartAmong f a.at 1 ps 0 b → StepsBetween f bytes Only a b
    only_step {ps = ps} {X = X} e is h s know =
        let numbered : IsPartNumbered s a.at 1 (part X no_part) 0 b.at h.shape = subst (λ r. IsPartNumbered s a.at 1 r 0 b.at h.shape) is (h.numbered s know) in
        rw (e, is, h.value) (steps_only numbered)

    pub only_from : (xs : List Expr) → length xs ≡ 1 → end_of_way a.thing ≡ a_payload (shapes_in xs) → PartAmong f a.at 1 (shapes_in xs) 0 b → StepsBetween f bytes Only a b
    only_from [] single is h = absurd (omega arith)
    only_from (x ∷ []) single is h = only_step is refl h
    only_from (x ∷ y ∷ zs) single is h = absurd (omega arith)

    pub variant_step : {name : Name} {variants : Variants} {ps : Parts} {tag : ℕ} → end_of_way a.thing ≡ a_value (choice name variants) → slice_index bytes a.at ≡ tag → variant_at variants tag ≡ Some ps
        → b.at ≡ a.at → end_of_way b.thing ≡ a_payload ps → (shown : Bor (List ℕ)) → StepsBetween f bytes (Variant tag shown) a b
    variant_step {name} {variants} {ps} {tag} e t v at behind shown s know =
        let here : variant_at variants (slice_index bytes a.at) ≡ Some ps = ap (variant_at variants) t ∙ v in
        rw (e, at, behind, ← t) (steps_variant here)

    pub array_step : {n k : ℕ} {Y : Shape} → end_of_way a.thing ≡ a_value (array n Y) → ElementAmong f Y a.at n k b → StepsBetween f bytes (Element k) a b
    array_step e h s know = rw (e, h.value, h.lies s know) (steps_array h.few)

    pub element_step : {t k n : ℕ} {X Y : Shape} {P : Pointer} → end_of_way a.thing ≡ a_value X → PointsBy bytes a.at X P → P.target ≡ pos t → P.pointee ≡ run Y → n ≡ P.length → ElementAmong f Y t n k b
        → StepsBetween f bytes (Element k) a b
    element_step {k = k} {P = P} e points to is count h s know =
        let few : k < P.length = omega (arith, h.few, count) in
        rw (e, h.value, h.lies s know) (steps_element points to is few)

    pub target_step : {Y : Shape} {P : Pointer} → PointsFrom bytes a P → P.target ≡ pos b.at → P.pointee ≡ one Y → end_of_way b.thing ≡ a_value Y → StepsBetween f bytes Target a b
    target_step (points_from e points) to is there s know = rw (e, there) (steps_target points to is)

    pub text_step : {P : Pointer} → PointsFrom bytes a P → P.target ≡ pos b.at → P.pointee ≡ text → end_of_way b.thing ≡ a_text P.length → StepsBetween f bytes TextStep a b
    text_step (points_from e points) to is there s know = rw (e, there) (steps_text points to is)

    pub key_step : {K : Key} {V : Shape} {k : ℕ} {e : EntryPlaces} → end_of_way a.thing ≡ a_value (sorted_map K V) → EntryAmong f bytes a.at K V k e → b.at ≡ e.key → end_of_way b.thing ≡ a_value (key_shape K)
        → StepsBetween f bytes (KeyStep k) a b
    key_step is h at there s know = rw (is, there, at, h.key s know) (steps_key h.leads h.few)

    pub value_step : {K : Key} {V : Shape} {k : ℕ} {e : EntryPlaces} → end_of_way a.thing ≡ a_value (sorted_map K V) → EntryAmong f bytes a.at K V k e → b.at ≡ e.value → end_of_way b.thing ≡ a_value V
        → StepsBetween f bytes (ValueStep k) a b
    value_step is h at there s know = rw (is, there, at, h.value s know) (steps_value h.leads h.few)
