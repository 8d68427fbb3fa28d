-- What is refused where a way leads.
use Rattle.std.proofs.Common.{◌≡◌, ◌≢◌, ℕ, zero, suc, ℤ, ◌+◌, ◌*◌, ◌%◌, ◌<◌, ◌≤◌, ◌^◌, max, pos, List, [], ◌∷◌, ◌++◌, length, refl, sym, ap, ◌∙◌, subst, arith, Some, Bor}
use Rattle.archive_check.specs.declared.format.error.Error.{Error}
use Rattle.archive_check.specs.declared.format.error.Error.TheVariants.{LayoutTooLarge, InvalidSubtreePointer, UnalignedPointer, InvalidDiscriminant, InvalidUtf8, InvalidStringRepr, UnsortedKeys}
use Rattle.archive_check.specs.declared.format.expr.Kind.{Kind as KindExpr}
use Rattle.archive_check.specs.declared.format.layout.Layout.{Layout as RustLayout}
use Rattle.archive_inspect.specs.declared.route.RouteStep.{RouteStep}
use Rattle.archive_inspect.specs.declared.route.RouteStep.TheVariants.{Key as KeyStep}
use Rattle.archive_inspect.specs.declared.ways.Point.{Point}
use Rattle.archive_inspect.specs.declared.ways.entries.EntryPlaces.{EntryPlaces}
use Rattle.archive_schema.specs.declared.shape.Schema.{Schema as RustSchema}
use Rattle.archive_check.specs.Shape.{Key, Flavor, Shape, sorted_map, Pointee, one, run, text, entry_of}
use Rattle.archive_check.specs.Keys.{ComesBehind}
use Rattle.archive_check.specs.Layout.{Layout, up, key_size, key_align, size_of, align_of}
use Rattle.archive_check.proofs.Names.PositiveAlignments.{align_pos}
use Rattle.archive_check.proofs.Tours.PartsInside.{up_le}
use Rattle.archive_inspect.proofs.EntryLayouts.{entry_layout}
use Rattle.archive_check.specs.Expressions.{kind_of}
use Rattle.archive_check.specs.Value.{Pointer}
use Rattle.archive_check.specs.Tour.{root_pointer, pointee_size, pointee_align}
use Rattle.archive_check.specs.Trail.{Fault, too_large, outside, unaligned, illegal, no_such_variant, no_text, no_string, unsorted}
use Rattle.archive_check.specs.Words.Faults.{IsFor}
use Rattle.archive_schema.specs.Schemas.{root_of, layout_of}
use Rattle.archive_inspect.specs.Ways.{a_value, steps_key, RegionFails, fails_size, fails_range, fails_align, SharingFails, fails_leaf, fails_tag, fails_inline, fails_coded, fails_text, fails_region, fails_sharing, fault_there, fault_of_root, fault_of_order}
use Rattle.archive_inspect.specs.Points.{end_of_way, Under, LeadsToPoint, EntryAmong, IsHeldBy, held_element, held_value, unit_layout, RegionTakes, RegionAligned, RegionIsLarge, RegionRefused, PointsFrom, points_from, LeafFails, TextFails, fails_elsewhere, fails_here, StringFails, TagFails, SharedAt, KeyFails, PointRefused, RefusedBy}

no_steps : (xs : List RouteStep) → length xs ≡ 0 → xs ≡ []
no_steps [] e = refl
no_steps (x ∷ xs) e = absurd (omega arith)

module _ (f : RustSchema) where
  -- a region takes what its elements do
  pub takes_one : (P : Pointee) (X : Shape) (n : ℕ) (l : RustLayout) → Under f (λ s. unit_layout s P ≡ layout_of l) → P ≡ one X → Under f (λ s. pointee_size s P n ≡ l.size)
  takes_one (one Y) X n l unit is s know = ap (λ (k : Layout). k.size) (unit s know)
  takes_one (run Y) X n l unit is s know = cc
  takes_one text X n l unit is s know = cc

  pub takes_many : (P : Pointee) (n : ℕ) (l : RustLayout) → Under f (λ s. unit_layout s P ≡ layout_of l) → ((X : Shape) → P ≢ one X) → Under f (λ s. pointee_size s P n ≡ n * l.size)
  takes_many (one Y) n l unit many s know = absurd (many Y refl)
  takes_many (run Y) n l unit many s know = ap (λ (k : Layout). n * k.size) (unit s know)
  takes_many text n l unit many s know = let single : 1 ≡ l.size = ap (λ (k : Layout). k.size) (unit s know) in omega (arith, ap (λ k. n * k) single)

  -- a region of single bytes or more is large where its only value is, where its elements are together, or where one of them is
  pub large_one : (P : Pointee) (X : Shape) (n : ℕ) → P ≡ one X → Under f (λ s. 2 ^ 64 ≤ size_of s.layouts X) → Under f (λ s. 2 ^ 64 ≤ pointee_size s P n)
  large_one P X n is large s know = rw is (large s know)

  pub large_many : (P : Pointee) (n : ℕ) → ((X : Shape) → P ≢ one X) → Under f (λ s. 2 ^ 64 ≤ n * (unit_layout s P).size) → Under f (λ s. 2 ^ 64 ≤ pointee_size s P n)
  large_many (one Y) n many large s know = absurd (many Y refl)
  large_many (run Y) n many large s know = large s know
  large_many text n many large s know = omega (arith, large s know)

  entry_above : (K : Key) (V : Shape) → Under f (λ s. size_of s.layouts V ≤ size_of s.layouts (entry_of K V))
  entry_above K V s know =
      let positive : 0 < align_of s.layouts V = omega (arith, align_pos s.layouts know.laid_out.aligned V) in
      omega (arith, (entry_layout s.layouts K V positive).0, up_le (up (key_size K) (align_of s.layouts V) + size_of s.layouts V) (max (key_align K) (align_of s.layouts V)) (omega arith))

  many_above : (n a b : ℕ) → n ≢ 0 → a ≤ b → a ≤ n * b
  many_above zero a b some le = absurd (some refl)
  many_above (suc n) a b some le = omega arith

  pub large_held : (P : Pointee) (X : Shape) (n : ℕ) → IsHeldBy P X → n ≢ 0 → Under f (λ s. 2 ^ 64 ≤ size_of s.layouts X) → Under f (λ s. 2 ^ 64 ≤ pointee_size s P n)
  large_held P X n (held_element {X = Y}) some large s know = many_above n (2 ^ 64) (size_of s.layouts Y) some (large s know)
  large_held P X n (held_value {V = V} K) some large s know = many_above n (2 ^ 64) (size_of s.layouts (entry_of K V)) some (omega (arith, large s know, entry_above K V s know))

  pub aligned_so : (P : Pointee) (l : RustLayout) → Under f (λ s. unit_layout s P ≡ layout_of l) → Under f (λ s. pointee_align s P ≡ l.align)
  aligned_so (one Y) l unit s know = ap (λ (k : Layout). k.align) (unit s know)
  aligned_so (run Y) l unit s know = ap (λ (k : Layout). k.align) (unit s know)
  aligned_so text l unit s know = ap (λ (k : Layout). k.align) (unit s know)

  module _ (P : Pointer) where
    pub region_large : RegionIsLarge f P → RegionRefused f P LayoutTooLarge
    region_large h = record { fault = too_large; said = refl; fails = λ s know. fails_size (h s know) }

    pub region_outside : (z : ℤ) (size start stop : ℕ) → z ≡ P.target → RegionTakes f P size → ((t : ℕ) → P.target ≡ pos t → start ≤ t → t + size ≤ stop → ⊥) → RegionRefused f P (InvalidSubtreePointer z size start stop)
    region_outside z size start stop is takes none = record {
      fault = outside P.target size start stop;
      said = ap (λ y. InvalidSubtreePointer y size start stop) is;
      fails = λ s know. subst (λ n. RegionFails s P (outside P.target n start stop)) (takes s know)
          (fails_range (λ t e low high. none t e low (subst (λ n. t + n ≤ stop) (takes s know) high)));
    }

    pub region_unaligned : (z : ℤ) (align : ℕ) → z ≡ P.target → RegionAligned f P align → (t : ℕ) × (P.target ≡ pos t) × (t % align ≢ 0) → RegionRefused f P (UnalignedPointer z align)
    region_unaligned z align is aligned (t, e, off) = record {
      fault = unaligned t align;
      said = ap (λ y. UnalignedPointer y align) (is ∙ e);
      fails = λ s know. subst (λ n. RegionFails s P (unaligned t n)) (aligned s know) (fails_align e (subst (λ n. t % n ≢ 0) (sym (aligned s know)) off));
    }

  module _ (bytes : List ℕ) (a : Point) where
    pub leaf_refused : (kind : KindExpr) (e : Error) → LeafFails bytes a kind → IsFor (illegal (kind_of kind)) e → PointRefused f bytes a e
    leaf_refused kind e h said = record { fault = illegal (kind_of kind); said = said; fails = λ s know. rw h.leaf (fails_leaf h.illegal) }

    pub text_refused : TextFails bytes a → PointRefused f bytes a InvalidUtf8
    text_refused (fails_elsewhere is none) = record { fault = no_text; said = refl; fails = λ s know. rw is (fails_text none) }
    text_refused (fails_here is here none) = record { fault = no_text; said = refl; fails = λ s know. rw is (fails_inline here none) }

    pub string_refused : StringFails bytes a → PointRefused f bytes a InvalidStringRepr
    string_refused h = record { fault = no_string; said = refl; fails = λ s know. rw h.string (fails_coded h.out_of_line h.short) }

    pub tag_refused : (name : Bor (List ℕ)) (tag : ℕ) → TagFails bytes a name.now tag → PointRefused f bytes a (InvalidDiscriminant name tag)
    tag_refused name tag h = record {
      fault = no_such_variant name.now tag;
      said = (name, refl, refl);
      fails = λ s know. rw (h.choice, ← h.has) (fails_tag {variants = h.variants} (rw h.has h.none));
    }

    pub region_refused : (P : Pointer) (e : Error) → PointsFrom bytes a P → RegionRefused f P e → PointRefused f bytes a e
    region_refused P e (points_from is points) h = record { fault = h.fault; said = h.said; fails = λ s know. rw is (fails_region points (h.fails s know)) }

    pub shared_refused : (flavor : Flavor) (fault : Fault) (e : Error) → SharedAt bytes a flavor → SharingFails flavor fault → IsFor fault e → PointRefused f bytes a e
    shared_refused flavor fault e h wrong said = by h.points
      where
        by : PointsFrom bytes a h.pointer → PointRefused f bytes a e
        by (points_from is points) = record { fault = fault; said = said; fails = λ s know. rw is (fails_sharing points h.shared h.leads wrong) }

    -- the key of an entry of a map, and that of the entry before
    pub key_fails : (K : Key) (V : Shape) (before number : ℕ) (e g : EntryPlaces) (z : ℕ) → end_of_way a.thing ≡ a_value (sorted_map K V) → number ≡ before + 1 → EntryAmong f bytes a.at K V before e → EntryAmong f bytes a.at K V number g
        → z ≡ g.key → (ComesBehind K bytes (Some e.key) g.key → ⊥) → KeyFails f bytes a number z
    key_fails K V before number e g z is next first second told behind = record {
      before = before;
      earlier = e.key;
      at = g.key;
      key = K;
      value = V;
      map = is;
      next = omega (arith, next);
      told = told;
      first = λ s know. rw (first.key s know) (steps_key first.leads first.few);
      second = λ s know. rw (second.key s know) (steps_key second.leads second.few);
      behind = behind;
    }

  module _ (bytes : List ℕ) (root : ℕ) (steps : List RouteStep) (z : ℕ) where
    pub refused_there : (a : Point) (e : Error) → LeadsToPoint f bytes root steps a → z ≡ a.at → PointRefused f bytes a e → RefusedBy f bytes root steps z e
    refused_there a e leads told h = record { at = a.at; fault = h.fault; told = told; said = h.said; leads = λ s know. fault_there (leads s know) (h.fails s know) }

    pub refused_root : (e : Error) → z ≡ root → length steps ≡ 0 → RegionRefused f (root_pointer root (root_of f)) e → RefusedBy f bytes root steps z e
    refused_root e told empty h = let none = no_steps steps empty in record { at = root; fault = h.fault; told = told; said = h.said; leads = λ s know. rw none (fault_of_root (h.fails s know)) }

    pub refused_order : (before : List RouteStep) (m : Point) (number : ℕ) → LeadsToPoint f bytes root before m → KeyFails f bytes m number z → steps ≡ before ++ KeyStep number ∷ [] → RefusedBy f bytes root steps z UnsortedKeys
    refused_order before m number leads h is = record {
      at = h.at;
      fault = unsorted;
      told = h.told;
      said = refl;
      leads = λ s know. rw (is, h.next) (fault_of_order (rw h.map at (leads s know)) (h.first s know) (rw h.next at (h.second s know)) h.behind);
    }
