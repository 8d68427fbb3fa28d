-- Results as archives hold them: what they look like, and the laws of that.
use Rattle.std.specs.Prelude.{◌≡◌, ℕ, zero, suc, ◌+◌, ◌≤◌, max, codes, is_some, true, Bool, ◌&&◌, ◌||◌, [], None, IsTrue, nat_lt}
use Rattle.std.proofs.Common.{refl, ap, arith, ⊎_elim}
use Rattle.std.proofs.lemmas.Bool.{and_parts}
use Rattle.std.proofs.lemmas.List.{append-nil}
use Rattle.archive_check.specs.Shape.{Name, Shape, choice, no_part, part, Variants, no_variant, variant, variant_at, Table}
use Rattle.archive_check.specs.Layout.{Layout, up, size_of, align_of}
use Rattle.archive_check.specs.Defined.{Mentions, mentions_choice, mentions_other, mentions_variant, mentions_first}
use Rattle.archive_check.specs.Reads.{SchemaTable}
use Rattle.archive_check.specs.Definitions.{Definitions, no_definition, both, listed, Knows, NoOthers, HasLayout, IsAlign}
use Rattle.archive_check.specs.Members.NoOthers.{around_reached, both_reached}
use Rattle.archive_check.specs.Members.PartsLayout.{knows_left, knows_right}
use Rattle.archive_check.specs.MissingNames.{missing}
use Rattle.archive_check.specs.SelfCheck.Laws.{IsCheckOf, no_more}
use Rattle.archive_check.specs.SelfCheck.Lone.{HasOrder, none_missing, first_order, later_order, plain_order, or_parts, small_fits}
use Rattle.archive_check.specs.SelfCheck.Regions.{align_some}
use Rattle.archive_enum.specs.Choices.{up_first}

-- The variants of a result: each with one part.
abbrev pub result_variants : Shape → Shape → Variants
result_variants X Y = variant (part X no_part) (variant (part Y no_part) no_variant)

-- A value, or an error.
abbrev pub result_shape : Shape → Shape → Shape
result_shape X Y = choice (codes "ArchivedResult") (result_variants X Y)

-- The longer of both behind the tag, rounded up to the greater alignment.
abbrev pub result_layout : Layout → Layout → Layout
result_layout L M = record { size = up (max (L.align + L.size) (M.align + M.size)) (max L.align M.align); align = max L.align M.align }

-- The definitions of the result's variants.
abbrev pub result_definitions : Definitions → Definitions → Definitions
result_definitions D E = both (both D no_definition) (both (both E no_definition) no_definition)

-- Whether a result checks itself: its value and its error do, at most one of them brings definitions, and its size is below usize::MAX.
abbrev pub result_direct : Bool → Bool → Bool → Bool → ℕ → Bool
result_direct value error value_nameless error_nameless size = ((value && error) && (value_nameless || error_nameless)) && nat_lt size 18446744073709551615

-- A tag that isn't 0 is 1.
pub result_tag : (X Y : Shape) (t : ℕ) → is_some (variant_at (result_variants X Y) t) ≡ true → (t ≡ 0 → ⊥) → t ≡ 1
result_tag X Y zero h n = absurd (n refl)
result_tag X Y (suc zero) h n = refl
result_tag X Y (suc (suc t)) h n = cc

two_aligns : (a b : ℕ) → 1 ≤ a → max (max a 1) (max (max b 1) 1) ≡ max a b
two_aligns a b h = omega (arith, h)

two_ends : (x y : ℕ) → 1 ≤ x → max x (max y 1) ≡ max x y
two_ends x y h = omega (arith, h)

-- Under all definitions that come with the value and the error.
pub result_has_layout : (D E : Definitions) (X Y : Shape) (L M : Layout) → IsAlign L.align → IsAlign M.align → HasLayout D X L → HasLayout E Y M → HasLayout (both D E) (result_shape X Y) (result_layout L M)
result_has_layout D E X Y L M is js h k = record {
  solved = λ s both_known. (
      let left = h.solved s (knows_left s D E both_known) in
      let right = k.solved s (knows_right s D E both_known) in
      let z : size_of s.layouts X ≡ L.size = ap (λ (l : Layout). l.size) left in
      let a : align_of s.layouts X ≡ L.align = ap (λ (l : Layout). l.align) left in
      let y : size_of s.layouts Y ≡ M.size = ap (λ (l : Layout). l.size) right in
      let b : align_of s.layouts Y ≡ M.align = ap (λ (l : Layout). l.align) right in
      let low = align_some L.align is in
      let align : align_of s.layouts (result_shape X Y) ≡ max L.align M.align = rw (a, b) (two_aligns L.align M.align low) in
      let end : max (up 1 (align_of s.layouts X) + size_of s.layouts X) (max (up 1 (align_of s.layouts Y) + size_of s.layouts Y) 1) ≡ max (L.align + L.size) (M.align + M.size)
      = rw (a, z, b, y, up_first L.align is, up_first M.align js) (two_ends (L.align + L.size) (M.align + M.size) (omega (arith, low))) in
      let size : size_of s.layouts (result_shape X Y) ≡ up (max (L.align + L.size) (M.align + M.size)) (max L.align M.align) = rw (end, align) refl in
      λ i. record { size = size i; align = align i });
}

-- What is reached from the value or the error is reached from the result.
value_mentions : (X Y : Shape) (n : Name) → Mentions n X → Mentions n (result_shape X Y)
value_mentions X Y n m = mentions_choice (mentions_variant (mentions_first m))

error_mentions : (X Y : Shape) (n : Name) → Mentions n Y → Mentions n (result_shape X Y)
error_mentions X Y n m = mentions_choice (mentions_other (mentions_variant (mentions_first m)))

pub result_reached : (D E : Definitions) (X Y : Shape) → NoOthers D X → NoOthers E Y → NoOthers (both D E) (result_shape X Y)
result_reached D E X Y h k = both_reached D E (result_shape X Y) (around_reached D X (result_shape X Y) (value_mentions X Y) h) (around_reached E Y (result_shape X Y) (error_mentions X Y) k)

known_in_variants : (D E : Definitions) (s : SchemaTable) → Knows s (both D E) → Knows s (result_definitions D E)
known_in_variants D E s k = record {
  has = ((k.has.0, tt), ((k.has.1, tt), tt));
  finite = λ name Y c. k.finite name Y (simp append-nil at c);
  laid_out = k.laid_out;
}

-- It misses no name that neither its value nor its error does.
result_root : (X Y : Shape) (order : Table) → missing true order X ≡ None → missing true order Y ≡ None → missing true order (result_shape X Y) ≡ None
result_root X Y order e f = rw (e, f) refl

-- the check of a result, where its value and its error check themselves
module _ (D : Definitions) (X : Shape) (L : Layout) (D' : Definitions) (X' : Shape) (m : ℕ) (none : Bool) (E : Definitions) (Y : Shape) (M : Layout) (E' : Definitions) (Y' : Shape) (n : ℕ) (none' : Bool) where
  one_nameless : IsCheckOf D X L.size D' X' m none → IsCheckOf E Y M.size E' Y' n none' → IsTrue (none || none') → HasOrder (both D E) (result_shape X Y)
  one_nameless c k says = ⊎_elim
      (λ value. let o = plain_order c value in
      (k.order, later_order D E X Y (result_shape X Y) k.order (result_root X Y k.order (none_missing k.order X o.root) k.ordered.root) o k.ordered))
      (λ error. let o = plain_order k error in
      (c.order, first_order D E X Y (result_shape X Y) c.order (result_root X Y c.order c.ordered.root (none_missing c.order Y o.root)) c.ordered o))
      (or_parts none none' says)

  none_in_both : IsCheckOf D X L.size D' X' m none → IsCheckOf E Y M.size E' Y' n none' → IsTrue (none && none') → listed (both D E) ≡ []
  none_in_both c k says = let (value, error) = and_parts none none' says in rw (c.plain value, k.plain error) refl

  pub result_check : (value error : Bool) → (IsTrue value → IsCheckOf D X L.size D' X' m none) → (IsTrue error → IsCheckOf E Y M.size E' Y' n none')
      → IsTrue (result_direct value error none none' (result_layout L M).size)
      → IsCheckOf (both D E) (result_shape X Y) (result_layout L M).size (result_definitions D E) (result_shape X Y) (result_layout L M).size (none && none')
  result_check value error c k says =
      let (each, small) = and_parts ((value && error) && (none || none')) (nat_lt (result_layout L M).size 18446744073709551615) says in
      let (own, alone) = and_parts (value && error) (none || none') each in
      let (first, later) = and_parts value error own in
      let o = one_nameless (c first) (k later) alone in
      record {
        within = no_more (result_layout L M).size;
        small = small_fits (result_layout L M).size small;
        order = o.0;
        ordered = o.1;
        known = known_in_variants D E;
        leads = λ t kn bytes p pending depth stop start seen o w. w;
        plain = none_in_both (c first) (k later);
      }
