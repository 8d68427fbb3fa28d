-- Strings, boxes, vectors and options are compared to values of the machine by what both mean, if what they hold is, and as to the parts that equal these.
use Rattle.std.proofs.Common.{ap, refl, sym}
use mathlib.Core.Bool.{true≢false}
use Rattle.std.specs.Prelude.{◌≡◌, ℕ, true, IsTrue, List, [], ◌∷◌, Option, Some, None}
use Rattle.std.specs.Cmp.Lexicographic.{slice_cmp, on_texts}
use Rattle.std.specs.Option.{option_cmp}
use Rattle.std.specs.Ordering.{is_eq, nat_cmp, ordering_then}
use Rattle.std.specs.declared.cmp.Ordering.{Ordering}
use Rattle.std.specs.declared.cmp.Ordering.TheVariants.{Less, Equal, Greater}
use Rattle.archive_check.specs.Definitions.{Definitions, HasLayout}
use Rattle.archive_check.specs.Layout.{Layout}
use Rattle.archive_check.specs.Readable.{string_text}
use Rattle.archive_check.specs.Shape.{Shape, boxed, vec, str, Pointee, one}
use Rattle.archive_check.specs.Value.{Value, list, text_value, box}
use Rattle.archive_types.specs.Compared.{Standing, elements, pointee_at, slice_of, option_order, number_alike}
use Rattle.archive_types.specs.Members.OrderedParts.{string_means, box_means, vec_means, slice_native}
use Rattle.archive_types.specs.Runs.{each_meaning}
use Rattle.archive_types.specs.ValueOrder.{OrdersNative}

-- A text is compared to one as to one that equals it.
pub text_alike : (xs ys us : List ℕ) → is_eq (slice_cmp nat_cmp xs us) ≡ true → slice_cmp nat_cmp ys xs ≡ slice_cmp nat_cmp ys us
text_alike = number_alike (on_texts (λ xs. xs))

-- so are lists of values and options of one, where values are
module _ {U : Type 0} (R : Standing → Standing → Ordering) (N : Standing → U → Ordering) (alike : (x y : Standing) (u : U) → IsTrue (is_eq (N x u)) → R y x ≡ N y u) where
  both_tied : (r s : Ordering) → is_eq (ordering_then r s) ≡ true → (is_eq r ≡ true) × (is_eq s ≡ true)
  both_tied Less s h = absurd (true≢false (sym h))
  both_tied Equal s h = (refl, h)
  both_tied Greater s h = absurd (true≢false (sym h))

  pub lists_alike : (xs ys : List Standing) (us : List U) → IsTrue (is_eq (slice_cmp N xs us)) → slice_cmp R ys xs ≡ slice_cmp N ys us
  lists_alike [] [] [] h = refl
  lists_alike [] (y ∷ ys) [] h = refl
  lists_alike [] ys (u ∷ us) h = absurd (true≢false (sym h))
  lists_alike (x ∷ xs) ys [] h = absurd (true≢false (sym h))
  lists_alike (x ∷ xs) [] (u ∷ us) h = refl
  lists_alike (x ∷ xs) (y ∷ ys) (u ∷ us) h =
      let tied = both_tied (N x u) (slice_cmp N xs us) h in
      rw (alike x y u tied.0, lists_alike xs ys us tied.1) refl

  pub option_alike : (p q : Option Standing) (o : Option U) → IsTrue (is_eq (option_order N p o)) → option_cmp R q p ≡ option_order N q o
  option_alike None None None h = refl
  option_alike None (Some y) None h = refl
  option_alike None q (Some u) h = absurd (true≢false (sym h))
  option_alike (Some x) q None h = absurd (true≢false (sym h))
  option_alike (Some x) None (Some u) h = refl
  option_alike (Some x) (Some y) (Some u) h = alike x y u h

-- A string and a native one, whose bytes `text_of` returns.
pub strings_native : {U : Type 0} (text_of : U → List ℕ) (D : Definitions) → OrdersNative D (one str) (λ u. text_value (text_of u)) (λ v u. slice_cmp nat_cmp (string_text v.bytes v.pos) (text_of u))
strings_native text_of D a v u m = rw (string_means D a v m) refl

-- A box and a native one, of which `inner_of` returns what it holds.
pub boxes_native : {B U : Type 0} (inner_of : B → U) (D : Definitions) (P : Pointee) (meaning : U → Value) (R : Standing → U → Ordering) → OrdersNative D P meaning R
    → OrdersNative D (one (boxed P)) (λ b. box (meaning (inner_of b))) (λ v b. R (pointee_at P v) (inner_of b))
boxes_native inner_of D P meaning R by_value a v b m =
    let x = box_means D P a v m in
    rw (x.is) (by_value _ x.inner (inner_of b) x.means)

-- A vector and a native one, whose elements `items_of` returns.
pub vecs_native : {V U : Type 0} (items_of : V → List U) (D : Definitions) (X : Shape) (L : Layout) → HasLayout D X L → (meaning : U → Value) (R : Standing → U → Ordering) → OrdersNative D (one X) meaning R
    → OrdersNative D (one (vec X)) (λ us. list (each_meaning meaning (items_of us))) (λ v us. slice_cmp R (elements L.size (slice_of v)) (items_of us))
vecs_native items_of D X L layout meaning R by_value a v us m = slice_native D X L layout meaning R by_value (slice_of a) v (items_of us) (vec_means D X a v m)
