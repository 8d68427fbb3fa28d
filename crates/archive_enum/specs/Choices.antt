-- Options and results as archives hold them: what they look like, and the laws of that.
use Rattle.std.specs.Prelude.{◌≡◌, ℕ, zero, suc, ◌+◌, ◌<◌, ◌≤◌, max, Bool, ◌&&◌, IsTrue, is_some, nat_lt, true, codes}
use Rattle.std.proofs.Common.{refl, ap, ◌∙◌, inl, inr, arith}
use Rattle.std.proofs.lemmas.Bool.{and_parts}
use Rattle.std.proofs.lemmas.List.{append-nil}
use Rattle.archive_check.specs.Shape.{Name, Shape, choice, no_part, part, no_variant, variant, variant_at}
use Rattle.archive_check.specs.Layout.{Layout, up, size_of, align_of}
use Rattle.archive_check.specs.Reads.{SchemaTable}
use Rattle.archive_check.specs.Defined.{Mentions, mentions_choice, mentions_other, mentions_variant, mentions_first}
use Rattle.archive_check.specs.Definitions.{Definitions, no_definition, both, Knows, NoOthers, HasLayout, IsAlign}
use Rattle.archive_check.specs.Members.NoOthers.{around_reached}
use Rattle.archive_check.specs.SelfCheck.Laws.{IsCheckOf, no_more}
use Rattle.archive_check.specs.SelfCheck.Lone.{small_fits}
use Rattle.archive_check.specs.SelfCheck.Regions.{align_some}

-- Nothing, or a value.
abbrev pub option_shape : Shape → Shape
option_shape X = choice (codes "ArchivedOption") (variant no_part (variant (part X no_part) no_variant))

-- A value behind the tag, both rounded up.
abbrev pub option_layout : Layout → Layout
option_layout L = record { size = up (L.align + L.size) L.align; align = L.align }

-- The definitions of the option's variants.
abbrev pub option_definitions : Definitions → Definitions
option_definitions D = both no_definition (both (both D no_definition) no_definition)

-- Whether an option of it checks itself: its value does, and its size is below usize::MAX.
abbrev pub option_direct : Bool → Layout → Bool
option_direct direct L = direct && nat_lt (option_layout L).size 18446744073709551615

-- The first multiple of an alignment behind a tag.
pub up_first : (a : ℕ) → IsAlign a → up 1 a ≡ a
up_first a (inl e) = rw e refl
up_first a (inr (inl e)) = rw e refl
up_first a (inr (inr (inl e))) = rw e refl
up_first a (inr (inr (inr (inl e)))) = rw e refl
up_first a (inr (inr (inr (inr (inl e))))) = rw e refl
up_first a (inr (inr (inr (inr (inr e))))) = rw e refl

-- The value ends within the option.
pub option_holds : (L : Layout) → IsAlign L.align → L.align + L.size ≤ (option_layout L).size
option_holds L is = omega (arith, align_some L.align is)

pub align_low_first : (L : Layout) → IsAlign L.align → 0 < L.align
align_low_first L is = omega (arith, align_some L.align is)

-- A tag that isn't 0 is 1.
pub option_tag : (X : Shape) (t : ℕ) → is_some (variant_at (variant no_part (variant (part X no_part) no_variant)) t) ≡ true → (t ≡ 0 → ⊥) → t ≡ 1
option_tag X zero h n = absurd (n refl)
option_tag X (suc zero) h n = refl
option_tag X (suc (suc t)) h n = cc

option_align : (a : ℕ) → 1 ≤ a → max 1 (max (max a 1) 1) ≡ a
option_align a h = omega arith

option_end : (a z : ℕ) → 1 ≤ a → up 1 a ≡ a → max 1 (max (up 1 a + z) 1) ≡ a + z
option_end a z h e = omega (arith, e)

-- Under all definitions that come with the value.
pub option_has_layout : (D : Definitions) (X : Shape) (L : Layout) → IsAlign L.align → HasLayout D X L → HasLayout D (option_shape X) (option_layout L)
option_has_layout D X L is h = record {
  solved = λ s k. (
      let z : size_of s.layouts X ≡ L.size = ap (λ (l : Layout). l.size) (h.solved s k) in
      let a : align_of s.layouts X ≡ L.align = ap (λ (l : Layout). l.align) (h.solved s k) in
      let low = align_some L.align is in
      let align : align_of s.layouts (option_shape X) ≡ L.align = ap (λ b. max 1 (max (max b 1) 1)) a ∙ option_align L.align low in
      let end : max 1 (max (up 1 (align_of s.layouts X) + size_of s.layouts X) 1) ≡ L.align + L.size = rw (a, z) (option_end L.align L.size low (up_first L.align is)) in
      let size : size_of s.layouts (option_shape X) ≡ up (L.align + L.size) L.align = rw (end, align) refl in
      λ i. record { size = size i; align = align i });
}

-- What is reached from the value is reached from the option.
option_mentions : (X : Shape) (n : Name) → Mentions n X → Mentions n (option_shape X)
option_mentions X n m = mentions_choice (mentions_other (mentions_variant (mentions_first m)))

pub option_reached : (D : Definitions) (X : Shape) → NoOthers D X → NoOthers D (option_shape X)
option_reached D X h = around_reached D X (option_shape X) (option_mentions X) h

known_below : (D : Definitions) (s : SchemaTable) → Knows s D → Knows s (option_definitions D)
known_below D s k = record {
  has = (tt, ((k.has, tt), tt));
  finite = λ name Y c. k.finite name Y (simp append-nil at c);
  laid_out = k.laid_out;
}

-- The check of an option, where its value checks itself.
pub option_check : (D : Definitions) (X : Shape) (L : Layout) (direct : Bool) (E : Definitions) (Y : Shape) (n : ℕ) (nameless : Bool) → (IsTrue direct → IsCheckOf D X L.size E Y n nameless)
    → IsTrue (option_direct direct L) → IsCheckOf D (option_shape X) (option_layout L).size (option_definitions D) (option_shape X) (option_layout L).size nameless
option_check D X L direct E Y n nameless h says =
    let (own, small) = and_parts direct (nat_lt (option_layout L).size 18446744073709551615) says in
    let i = h own in
    record {
      within = no_more (option_layout L).size;
      small = small_fits (option_layout L).size small;
      order = i.order;
      ordered = record { has = i.ordered.has; only = i.ordered.only; once = i.ordered.once; root = rw i.ordered.root refl; closed = i.ordered.closed; placed = i.ordered.placed };
      known = known_below D;
      leads = λ t k bytes p pending depth stop start seen o w. w;
      plain = i.plain;
    }
