-- What is compared with a value of the machine is compared by the values that both mean.
use Rattle.std.proofs.Common.{◌≡◌, ℕ, Bool, nat_eq, List, Option, Result, ap, sym, ◌∙◌}
use Rattle.std.specs.Ordering.{is_eq, nat_cmp}
use Rattle.std.specs.Cmp.Lexicographic.{slice_cmp, pointwise, texts_ties}
use Rattle.std.specs.declared.cmp.Ordering.{Ordering}
use Rattle.archive_check.specs.Shape.{Shape, Pointee, one, run, vec, str, text}
use Rattle.archive_check.specs.Layout.{Layout}
use Rattle.archive_check.specs.Value.{Value, list, text_value}
use Rattle.archive_check.specs.Reads.{bytes_at}
use Rattle.archive_check.specs.Readable.{string_text}
use Rattle.archive_check.specs.Definitions.{Definitions, HasLayout, IsAlign, both}
use Rattle.archive_enum.specs.Choices.{option_shape}
use Rattle.archive_enum.specs.ResultShapes.{result_shape}
use Rattle.archive_types.specs.Compared.{Standing, standing, elements, slice_of, value_of, option_order, result_in, result_order}
use Rattle.archive_types.specs.Members.Options.{option_meaning}
use Rattle.archive_types.specs.Members.Results.{result_meaning}
use Rattle.archive_types.specs.Runs.{each_meaning}
use Rattle.archive_types.specs.Members.OrderedParts.{as_native_pointee, text_means, string_means, slice_native, vec_means, option_native, result_native}
use Rattle.archive_types.specs.ValueOrder.{value_cmp, Means, OrdersNative, ComparesTo, EqualsTo}

module _ {U : Type 0} (D : Definitions) (P : Pointee) (meaning : U → Value) (R : Standing → U → Ordering) (by_value : OrdersNative D P meaning R) (bytes : List ℕ) (q n : ℕ) (u : U) where
  pub compares : (r : Ordering) → r ≡ R (standing bytes q n) u → ComparesTo D P bytes q n (meaning u) r
  compares r e v m = e ∙ by_value (standing bytes q n) v u m

  pub equals : (r : Bool) → r ≡ is_eq (R (standing bytes q n) u) → EqualsTo D P bytes q n (meaning u) r
  equals r e v m = e ∙ ap is_eq (by_value (standing bytes q n) v u m)

-- texts

module _ (D : Definitions) (bytes : List ℕ) (q n : ℕ) (u : List ℕ) where
  pub text_compares : (r : Ordering) → r ≡ slice_cmp nat_cmp (bytes_at bytes q n) u → ComparesTo D text bytes q n (text_value u) r
  text_compares r e v m = rw (text_means D (standing bytes q n) v m) e

  pub text_equals : (r : Bool) → r ≡ pointwise nat_eq (bytes_at bytes q n) u → EqualsTo D text bytes q n (text_value u) r
  text_equals r e v m = rw (text_means D (standing bytes q n) v m) (e ∙ texts_ties (bytes_at bytes q n) u)

  pub string_compares : (r : Ordering) → r ≡ slice_cmp nat_cmp (string_text bytes q) u → ComparesTo D (one str) bytes q n (text_value u) r
  string_compares r e v m = rw (string_means D (standing bytes q n) v m) e

  pub string_equals : (r : Bool) → r ≡ pointwise nat_eq (string_text bytes q) u → EqualsTo D (one str) bytes q n (text_value u) r
  string_equals r e v m = rw (string_means D (standing bytes q n) v m) (e ∙ texts_ties (string_text bytes q) u)

-- what is made of one type of values

module _ {U : Type 0} (D : Definitions) (X : Shape) (L : Layout) (layout : HasLayout D X L) (P : Pointee) (is_one : P ≡ one X) (meaning : U → Value) (R : Standing → U → Ordering) (by_value : OrdersNative D P meaning R)
    (bytes : List ℕ) (q n : ℕ) where
  each_by_value : OrdersNative D (one X) meaning R
  each_by_value = as_native_pointee D P (one X) meaning R is_one by_value

  pub slice_compares : (us : List U) (r : Ordering) → r ≡ slice_cmp R (elements L.size (standing bytes q n)) us → ComparesTo D (run X) bytes q n (list (each_meaning meaning us)) r
  slice_compares us r e v m = e ∙ slice_native D X L layout meaning R each_by_value (standing bytes q n) v us m

  pub slice_equals : (us : List U) (r : Bool) → r ≡ is_eq (slice_cmp R (elements L.size (standing bytes q n)) us) → EqualsTo D (run X) bytes q n (list (each_meaning meaning us)) r
  slice_equals us r e v m = e ∙ ap is_eq (slice_native D X L layout meaning R each_by_value (standing bytes q n) v us m)

  pub vec_compares : (us : List U) (r : Ordering) → r ≡ slice_cmp R (elements L.size (slice_of (standing bytes q n))) us → ComparesTo D (one (vec X)) bytes q n (list (each_meaning meaning us)) r
  vec_compares us r e v m = e ∙ slice_native D X L layout meaning R each_by_value (slice_of (standing bytes q n)) v us (vec_means D X (standing bytes q n) v m)

  pub vec_equals : (us : List U) (r : Bool) → r ≡ is_eq (slice_cmp R (elements L.size (slice_of (standing bytes q n))) us) → EqualsTo D (one (vec X)) bytes q n (list (each_meaning meaning us)) r
  vec_equals us r e v m = e ∙ ap is_eq (slice_native D X L layout meaning R each_by_value (slice_of (standing bytes q n)) v us (vec_means D X (standing bytes q n) v m))

  pub option_compares : IsAlign L.align → (o : Option U) (r : Ordering) → r ≡ option_order R (value_of L.align (standing bytes q n)) o → ComparesTo D (one (option_shape X)) bytes q n (option_meaning meaning o) r
  option_compares align o r e v m = e ∙ option_native D X L align layout meaning R each_by_value (standing bytes q n) v o m

  pub option_equals : IsAlign L.align → (o : Option U) (r : Bool) → r ≡ is_eq (option_order R (value_of L.align (standing bytes q n)) o) → EqualsTo D (one (option_shape X)) bytes q n (option_meaning meaning o) r
  option_equals align o r e v m = e ∙ ap is_eq (option_native D X L align layout meaning R each_by_value (standing bytes q n) v o m)

pub result_equals : {U W : Type 0} (D E : Definitions) (X Y : Shape) (L M : Layout) → IsAlign L.align → IsAlign M.align → HasLayout D X L → HasLayout E Y M → (P Q : Pointee) → P ≡ one X → Q ≡ one Y
    → (mean_value : U → Value) (mean_error : W → Value) (R : Standing → U → Ordering) (S : Standing → W → Ordering) → OrdersNative D P mean_value R → OrdersNative E Q mean_error S
    → (bytes : List ℕ) (q n : ℕ) (u : Result U W) (r : Bool) → r ≡ is_eq (result_order R S (result_in L.align M.align (standing bytes q n)) u)
    → EqualsTo (both D E) (one (result_shape X Y)) bytes q n (result_meaning mean_value mean_error u) r
result_equals D E X Y L M value_align error_align value_layout error_layout P Q e f mean_value mean_error R S of_values of_errors bytes q n u r is v m =
    is
    ∙ ap is_eq
    (result_native D E X Y L M value_align error_align value_layout error_layout mean_value mean_error R S (as_native_pointee D P (one X) mean_value R e of_values) (as_native_pointee E Q (one Y) mean_error S f of_errors)
    (standing bytes q n) v u m)
