-- The orders of parts are those of the values that they mean: of each type, from that of what it holds.
use Rattle.std.proofs.Common.{◌≡◌, ℕ, ℤ, zero, suc, pos, ◌+◌, ◌*◌, ◌/◌, ◌+ℤ◌, Bool, true, false, nat_eq, if◌then◌else◌, List, [], ◌∷◌, slice_index, Option, Some, None, arith, refl, sym, ap, ◌∙◌}
use Rattle.std.proofs.lemmas.Bool.Decides.{nat_tests}
use Rattle.std.specs.Prelude.{Result, Ok, Err}
use Rattle.std.specs.Int.{Width}
use Rattle.std.specs.Option.{option_cmp}
use Rattle.std.specs.Result.{result_cmp}
use Rattle.std.specs.Ordering.{on, nat_cmp, int_cmp, ordering_then}
use Rattle.std.specs.Cmp.Lexicographic.{slice_cmp}
use Rattle.std.specs.declared.cmp.Ordering.{Ordering}
use Rattle.std.specs.declared.cmp.Ordering.TheVariants.{Less, Equal, Greater}
use Rattle.archive_check.specs.Shape.{Sign, Kind, number as number_kind, non_zero, Flavor, Shape, leaf, boxed, vec, str, shared, Pointee, one, run, text, Parts, no_part, part, no_variant, variant, variant_at}
use Rattle.archive_check.specs.Layout.{Layout, up, kind_size, size_of, align_of}
use Rattle.archive_check.specs.Value.{Pointer, Value, number, case, list, text_value, box, hole, Values, no_value, value}
use Rattle.archive_check.specs.Reads.{SchemaTable, Reads, ReadsParts, ReadsRun, bytes_at, u32_at, i32_at, length_at, pointer_at, string_at, IsOutOfLine, before_end, decoded_length, IsLegal, kind_value, reads_leaf, reads_choice, reads_boxed, reads_vec, reads_inline, reads_out_of_line, reads_shared, reads_part, reads_no_part, reads_none, reads_element}
use Rattle.archive_check.specs.Tour.{Contents, contents_one, contents_run, contents_text, Leads}
use Rattle.archive_check.specs.Readable.{position, target_from, string_text}
use Rattle.archive_check.specs.Definitions.{Definitions, Knows, HasLayout, IsAlign, both}
use Rattle.archive_check.specs.Members.PartsLayout.{knows_left, knows_right}
use Rattle.archive_enum.specs.Choices.{option_shape, up_first}
use Rattle.archive_enum.specs.ResultShapes.{result_shape, result_variants}
use Rattle.archive_types.specs.Compared.{Standing, standing, elements, elements_from, slices, pointee_at, slice_of, value_of, result_in, option_order, result_order}
use Rattle.archive_types.specs.Members.Options.{option_meaning}
use Rattle.archive_types.specs.Members.Results.{result_meaning}
use Rattle.archive_types.specs.Runs.{each_meaning}
use Rattle.archive_types.specs.ValueOrder.{value_cmp, values_cmp, Follows, FollowsAll, follows_number, follows_case, follows_list, follows_text, follows_box, follows_pointer, follows_no_value, follows_value, Means, OrdersValues, OrdersNative}

-- Of a pointee that is written in another way.
pub as_pointee : (D : Definitions) (P Q : Pointee) (R : Standing → Standing → Ordering) → P ≡ Q → OrdersValues D P R → OrdersValues D Q R
as_pointee D P Q R e h = rw (← e) h

pub as_native_pointee : {U : Type 0} (D : Definitions) (P Q : Pointee) (meaning : U → Value) (R : Standing → U → Ordering) → P ≡ Q → OrdersNative D P meaning R → OrdersNative D Q meaning R
as_native_pointee D P Q meaning R e h = rw (← e) h

-- leaves

leaf_is : {s : SchemaTable} {bytes : List ℕ} {q n : ℕ} {kind : Kind} {v w : Value} → Contents s bytes q (one (leaf kind)) n v → Follows s bytes v w → w ≡ number (kind_value kind (bytes_at bytes q (kind_size kind)))
leaf_is (contents_one (reads_leaf l)) follows_number = refl

leaf_legal : {s : SchemaTable} {bytes : List ℕ} {q n : ℕ} {kind : Kind} {v : Value} → Contents s bytes q (one (leaf kind)) n v → IsLegal kind (bytes_at bytes q (kind_size kind))
leaf_legal (contents_one (reads_leaf l)) = l

module _ {X : Type 0} (value_of : X → ℤ) (number_of : List ℕ → X) (R : X → X → Ordering) (D : Definitions) (kind : Kind) (count : ℕ) (size : kind_size kind ≡ count)
    (law : (xs : List ℕ) → IsLegal kind xs → value_of (number_of xs) ≡ kind_value kind xs) (order : (x y : X) → R x y ≡ int_cmp (value_of x) (value_of y)) where
  leaf_means : (a : Standing) (w : Value) → Means D (one (leaf kind)) a w → w ≡ number (value_of (number_of (bytes_at a.bytes a.pos count)))
  leaf_means a w m = leaf_is m.contents m.follows ∙ ap number (sym (law _ (leaf_legal m.contents))) ∙ ap (λ k. number (value_of (number_of (bytes_at a.bytes a.pos k)))) size

  pub leaves_ordered : OrdersValues D (one (leaf kind)) (on (λ v. number_of (bytes_at v.bytes v.pos count)) R)
  leaves_ordered a b v w m n = rw (leaf_means a v m, leaf_means b w n) (order _ _)

  pub leaves_native : OrdersNative D (one (leaf kind)) (λ x. number (value_of x)) (λ v u. R (number_of (bytes_at v.bytes v.pos count)) u)
  leaves_native a v u m = rw (leaf_means a v m) (order _ _)

-- numbers that aren't 0

same_value : (sign : Sign) (width : Width) (bs : List ℕ) → kind_value (non_zero sign width) bs ≡ kind_value (number_kind sign width) bs
unfolding kind_value
same_value sign width bs = refl

pub non_zero_law : {X : Type 0} (value_of : X → ℤ) (number_of : List ℕ → X) (sign : Sign) (width : Width) (kind : Kind) → kind ≡ number_kind sign width
    → ((xs : List ℕ) → IsLegal kind xs → value_of (number_of xs) ≡ kind_value kind xs) → (xs : List ℕ) → IsLegal (non_zero sign width) xs → value_of (number_of xs) ≡ kind_value (non_zero sign width) xs
non_zero_law value_of number_of sign width kind e law xs legal =
    let plain : IsLegal (number_kind sign width) xs = record { size = legal.size; number = tt } in
    law xs (rw e plain) ∙ ap (λ k. kind_value k xs) e ∙ sym (same_value sign width xs)

pub non_zero_size : (sign : Sign) (width : Width) (kind : Kind) (count : ℕ) → kind ≡ number_kind sign width → kind_size kind ≡ count → kind_size (non_zero sign width) ≡ count
non_zero_size sign width kind count e size = rw e at size

-- texts

text_is : {s : SchemaTable} {bytes : List ℕ} {q n : ℕ} {v w : Value} → Contents s bytes q text n v → Follows s bytes v w → w ≡ text_value (bytes_at bytes q n)
text_is (contents_text u) follows_text = refl

pub text_means : (D : Definitions) (a : Standing) (w : Value) → Means D text a w → w ≡ text_value (bytes_at a.bytes a.pos a.len)
text_means D a w m = text_is m.contents m.follows

pub texts_ordered : (D : Definitions) → OrdersValues D text (on (λ v. bytes_at v.bytes v.pos v.len) (slice_cmp nat_cmp))
texts_ordered D a b v w m n = rw (text_means D a v m, text_means D b w n) refl

-- strings, wherever their texts stand

leads_text : {s : SchemaTable} {bytes : List ℕ} {p : Pointer} {t : ℕ} {v w : Value} → p.pointee ≡ text → Leads s bytes p t v → Follows s bytes v w → w ≡ text_value (bytes_at bytes t p.length)
leads_text {s = s} {bytes = bytes} {p = p} {t = t} {v = v} e l f = text_is (rw e at l.contents) f

outside_is : (q : ℕ) {s : SchemaTable} {bytes : List ℕ} {w : Value} → Follows s bytes (hole (string_at bytes q)) w → w ≡ text_value (bytes_at bytes (target_from bytes q (q + 4)) (decoded_length (u32_at bytes q)))
outside_is q {bytes = bytes} (follows_pointer {t = t} l f) =
    let there : t ≡ target_from bytes q (q + 4) = sym (ap position l.target) in
    leads_text refl l f ∙ ap (λ r. text_value (bytes_at bytes r (decoded_length (u32_at bytes q)))) there

string_is : {s : SchemaTable} {bytes : List ℕ} {q n : ℕ} {v w : Value} (b : Bool) → nat_eq (slice_index bytes q / 64) 2 ≡ b → Contents s bytes q (one str) n v → Follows s bytes v w
    → w ≡ text_value (if b then bytes_at bytes (target_from bytes q (q + 4)) (decoded_length (u32_at bytes q)) else before_end (bytes_at bytes q 8))
string_is true e (contents_one (reads_inline o u)) f = absurd (o (grind (arith, nat_tests)))
string_is {q = q} true e (contents_one (reads_out_of_line o u)) f = outside_is q f
string_is false e (contents_one (reads_inline o u)) follows_text = refl
string_is {bytes = bytes} {q = q} false e (contents_one (reads_out_of_line o u)) f = absurd (grind (arith, nat_tests, o))

pub string_means : (D : Definitions) (a : Standing) (w : Value) → Means D (one str) a w → w ≡ text_value (string_text a.bytes a.pos)
string_means D a w m = string_is (nat_eq (slice_index a.bytes a.pos / 64) 2) refl m.contents m.follows

pub strings_ordered : (D : Definitions) → OrdersValues D (one str) (on (λ v. string_text v.bytes v.pos) (slice_cmp nat_cmp))
strings_ordered D a b v w m n = rw (string_means D a v m, string_means D b w n) refl

-- slices

module _ (D : Definitions) (X : Shape) (L : Layout) (layout : HasLayout D X L) where
  element_size : (s : SchemaTable) → Knows s D → size_of s.layouts X ≡ L.size
  element_size s k = ap (λ (l : Layout). l.size) (layout.solved s k)

  next_place : (s : SchemaTable) → Knows s D → (p i q : ℕ) → q ≡ p + i * L.size → q + size_of s.layouts X ≡ p + (i + 1) * L.size
  next_place s k p i q e = rw (element_size s k, e) (omega arith)

  module _ (R : Standing → Standing → Ordering) (by_value : OrdersValues D (one X) R) (a b : List ℕ) (s t : SchemaTable) (k : Knows s D) (l : Knows t D) where
    runs_ordered : {n m p q : ℕ} {vs ws us xs : Values} (f g i : ℕ) → p ≡ f + i * L.size → q ≡ g + i * L.size → ReadsRun s a p n X vs → FollowsAll s a vs us → ReadsRun t b q m X ws → FollowsAll t b ws xs
        → slice_cmp R (elements_from a f L.size i n) (elements_from b g L.size i m) ≡ values_cmp us xs
    runs_ordered f g i c d reads_none follows_no_value reads_none follows_no_value = refl
    runs_ordered f g i c d reads_none follows_no_value (reads_element r rs) (follows_value h hs) = refl
    runs_ordered f g i c d (reads_element r rs) (follows_value h hs) reads_none follows_no_value = refl
    runs_ordered {p = p} {q = q} f g i c d (reads_element {v = v} r rs) (follows_value {w = v'} h hs) (reads_element {v = w} u us) (follows_value {w = w'} j js) =
        let first : Means D (one X) (standing a (f + i * L.size) 0) v' = record { schema = s; value = v; knows = k; contents = contents_one (rw c at r); follows = h } in
        let second : Means D (one X) (standing b (g + i * L.size) 0) w' = record { schema = t; value = w; knows = l; contents = contents_one (rw d at u); follows = j } in
        rw (
          by_value (standing a (f + i * L.size) 0) (standing b (g + i * L.size) 0) v' w' first second,
          runs_ordered f g (i + 1) (next_place s k f i p c) (next_place t l g i q d) rs hs us js,
        ) refl

  module _ (R : Standing → Standing → Ordering) (by_value : OrdersValues D (one X) R) where
    lists_ordered : {s t : SchemaTable} {a b : List ℕ} {p q n m : ℕ} {v w v' w' : Value} → Knows s D → Knows t D → Contents s a p (run X) n v → Follows s a v v' → Contents t b q (run X) m w → Follows t b w w'
        → slice_cmp R (elements_from a p L.size 0 n) (elements_from b q L.size 0 m) ≡ value_cmp v' w'
    lists_ordered {s = s} {t = t} {a = a} {b = b} {p = p} {q = q} k l (contents_run rs) (follows_list hs) (contents_run us) (follows_list js) =
        runs_ordered R by_value a b s t k l p q 0 (omega arith) (omega arith) rs hs us js

    pub slices_ordered : OrdersValues D (run X) (slices L.size R)
    slices_ordered a b v w m n = lists_ordered m.knows n.knows m.contents m.follows n.contents n.follows

  -- a slice and one of the machine

  module _ {U : Type 0} (meaning : U → Value) (R : Standing → U → Ordering) (by_value : OrdersNative D (one X) meaning R) (a : List ℕ) (s : SchemaTable) (k : Knows s D) where
    run_ordered : (f i : ℕ) (us : List U) {n p : ℕ} {vs ws : Values} → p ≡ f + i * L.size → ReadsRun s a p n X vs → FollowsAll s a vs ws → slice_cmp R (elements_from a f L.size i n) us ≡ values_cmp ws (each_meaning meaning us)
    run_ordered f i [] c reads_none follows_no_value = refl
    run_ordered f i (u ∷ us) c reads_none follows_no_value = refl
    run_ordered f i [] c (reads_element r rs) (follows_value h hs) = refl
    run_ordered f i (u ∷ us) {p = p} c (reads_element {v = v} r rs) (follows_value {w = w} h hs) =
        let first : Means D (one X) (standing a (f + i * L.size) 0) w = record { schema = s; value = v; knows = k; contents = contents_one (rw c at r); follows = h } in
        rw (by_value (standing a (f + i * L.size) 0) w u first, run_ordered f (i + 1) us (next_place s k f i p c) rs hs) refl

  module _ {U : Type 0} (meaning : U → Value) (R : Standing → U → Ordering) (by_value : OrdersNative D (one X) meaning R) where
    list_ordered : {s : SchemaTable} {a : List ℕ} {p n : ℕ} {v w : Value} (us : List U) → Knows s D → Contents s a p (run X) n v → Follows s a v w
        → slice_cmp R (elements_from a p L.size 0 n) us ≡ value_cmp w (list (each_meaning meaning us))
    list_ordered {s = s} {a = a} {p = p} us k (contents_run rs) (follows_list hs) = run_ordered meaning R by_value a s k p 0 us (omega arith) rs hs

    pub slice_native : OrdersNative D (run X) (λ us. list (each_meaning meaning us)) (λ v us. slice_cmp R (elements L.size v) us)
    slice_native a v us m = list_ordered us m.knows m.contents m.follows

-- pointers: what they lead to

led_to : (D : Definitions) (P : Pointee) (s : SchemaTable) (bytes : List ℕ) (q : ℕ) (sharing : Option Flavor) (w : Value) → Knows s D → Follows s bytes (hole (pointer_at bytes q sharing P)) w → Means D P (standing bytes (target_from bytes q q) (length_at bytes q P)) w
led_to D P s bytes q sharing w k (follows_pointer {t = t} {v = v} l f) =
    let there : t ≡ target_from bytes q q = sym (ap position l.target) in
    record { schema = s; value = v; knows = k; contents = rw there at l.contents; follows = f }

-- What a box means is a box of what that means.
pub record BoxMeans (D : Definitions) (P : Pointee) (a : Standing) (w : Value) : Type 0 where
  pub inner : Value
  pub is : w ≡ box inner
  pub means : Means D P (pointee_at P a) inner

box_is : (D : Definitions) (P : Pointee) (s : SchemaTable) (bytes : List ℕ) (q m n : ℕ) (v w : Value) → Knows s D → Contents s bytes q (one (boxed P)) n v → Follows s bytes v w → BoxMeans D P (standing bytes q m) w
box_is D P s bytes q m n _ _ k (contents_one reads_boxed) (follows_box {w = w} f) = record { inner = w; is = refl; means = led_to D P s bytes q None w k f }

pub box_means : (D : Definitions) (P : Pointee) (a : Standing) (w : Value) → Means D (one (boxed P)) a w → BoxMeans D P a w
box_means D P a w m = box_is D P m.schema a.bytes a.pos a.len a.len m.value w m.knows m.contents m.follows

pub boxes_ordered : (D : Definitions) (P : Pointee) (R : Standing → Standing → Ordering) → OrdersValues D P R → OrdersValues D (one (boxed P)) (on (pointee_at P) R)
boxes_ordered D P R by_value a b v w m n =
    let x = box_means D P a v m in
    let y = box_means D P b w n in
    rw (x.is, y.is) (by_value _ _ x.inner y.inner x.means y.means)

shared_is : (D : Definitions) (P : Pointee) (flavor : Flavor) (s : SchemaTable) (bytes : List ℕ) (q m n : ℕ) (v w : Value) → Knows s D → Contents s bytes q (one (shared flavor P)) n v → Follows s bytes v w
    → Means D P (pointee_at P (standing bytes q m)) w
shared_is D P flavor s bytes q m n _ w k (contents_one reads_shared) f = led_to D P s bytes q (Some flavor) w k f

pub shared_means : (D : Definitions) (P : Pointee) (flavor : Flavor) (a : Standing) (w : Value) → Means D (one (shared flavor P)) a w → Means D P (pointee_at P a) w
shared_means D P flavor a w m = shared_is D P flavor m.schema a.bytes a.pos a.len a.len m.value w m.knows m.contents m.follows

pub shared_ordered : (D : Definitions) (P : Pointee) (flavor : Flavor) (R : Standing → Standing → Ordering) → OrdersValues D P R → OrdersValues D (one (shared flavor P)) (on (pointee_at P) R)
shared_ordered D P flavor R by_value a b v w m n = by_value _ _ v w (shared_means D P flavor a v m) (shared_means D P flavor b w n)

vec_is : (D : Definitions) (X : Shape) (s : SchemaTable) (bytes : List ℕ) (q m n : ℕ) (v w : Value) → Knows s D → Contents s bytes q (one (vec X)) n v → Follows s bytes v w → Means D (run X) (slice_of (standing bytes q m)) w
vec_is D X s bytes q m n _ w k (contents_one reads_vec) f = led_to D (run X) s bytes q None w k f

pub vec_means : (D : Definitions) (X : Shape) (a : Standing) (w : Value) → Means D (one (vec X)) a w → Means D (run X) (slice_of a) w
vec_means D X a w m = vec_is D X m.schema a.bytes a.pos a.len a.len m.value w m.knows m.contents m.follows

pub vecs_ordered : (D : Definitions) (X : Shape) (R : Standing → Standing → Ordering) → OrdersValues D (run X) R → OrdersValues D (one (vec X)) (on slice_of R)
vecs_ordered D X R by_value a b v w m n = by_value _ _ v w (vec_means D X a v m) (vec_means D X b w n)

-- options

pub then_Equal : (r : Ordering) → ordering_then r Equal ≡ r
then_Equal Less = refl
then_Equal Equal = refl
then_Equal Greater = refl

-- What a part with nothing behind it says.
first_means : (D : Definitions) (X : Shape) (L : Layout) → IsAlign L.align → HasLayout D X L → (s : SchemaTable) (bytes : List ℕ) (q : ℕ) {v w : Value} → Knows s D → Reads s bytes (q + up 1 (align_of s.layouts X)) X v → Follows s bytes v w
    → Means D (one X) (standing bytes (q + L.align) 0) w
first_means D X L is layout s bytes q {v = v} k r f =
    let a : align_of s.layouts X ≡ L.align = ap (λ (l : Layout). l.align) (layout.solved s k) in
    let there : q + up 1 (align_of s.layouts X) ≡ q + L.align = rw (a, up_first L.align is) refl in
    record { schema = s; value = v; knows = k; contents = contents_one (rw there at r); follows = f }

pub nothing_follows : {s : SchemaTable} {bytes : List ℕ} {q n : ℕ} {vs ws : Values} → ReadsParts s bytes q n no_part vs → FollowsAll s bytes vs ws → ws ≡ no_value
nothing_follows reads_no_part follows_no_value = refl

-- A variant's one part.
record OnePart (s : SchemaTable) (bytes : List ℕ) (q : ℕ) (X : Shape) (ws : Values) : Type 0 where
  said : Value
  meant : Value
  is : ws ≡ value meant no_value
  reads : Reads s bytes (q + up 1 (align_of s.layouts X)) X said
  follows : Follows s bytes said meant

one_follows : {s : SchemaTable} {bytes : List ℕ} {q : ℕ} {X : Shape} {vs ws : Values} → ReadsParts s bytes q 1 (part X no_part) vs → FollowsAll s bytes vs ws → OnePart s bytes q X ws
one_follows (reads_part {v = v} r reads_no_part) (follows_value {w = w} f follows_no_value) = record { said = v; meant = w; is = refl; reads = r; follows = f }

abbrev pub parts_of : Option Parts → Parts
parts_of None = no_part
parts_of (Some ps) = ps

-- What an option means.
pub data OptionMeans (D : Definitions) (X : Shape) (L : Layout) (bytes : List ℕ) (q : ℕ) : Value → Type 0 where
  none_means : slice_index bytes q ≡ 0 → OptionMeans D X L bytes q (case 0 no_value)
  some_means : {w : Value} → slice_index bytes q ≡ 1 → Means D (one X) (standing bytes (q + L.align) 0) w → OptionMeans D X L bytes q (case 1 (value w no_value))

module _ (D : Definitions) (X : Shape) (L : Layout) (align : IsAlign L.align) (layout : HasLayout D X L) where
  option_is : (s : SchemaTable) (bytes : List ℕ) (q tag : ℕ) (ps : Parts) {vs ws : Values} → Knows s D → slice_index bytes q ≡ tag → variant_at (variant no_part (variant (part X no_part) no_variant)) tag ≡ Some ps
      → ReadsParts s bytes q 1 ps vs → FollowsAll s bytes vs ws → OptionMeans D X L bytes q (case tag ws)
  option_is s bytes q zero ps k e h rs f =
      let none : ps ≡ no_part = sym (ap parts_of h) in
      rw (nothing_follows (rw none at rs) f) (none_means e)
  option_is s bytes q (suc zero) ps k e h rs f =
      let some : ps ≡ part X no_part = sym (ap parts_of h) in
      let o = one_follows (rw some at rs) f in
      rw (o.is) (some_means e (first_means D X L align layout s bytes q k o.reads o.follows))
  option_is s bytes q (suc (suc tag)) ps k e h rs f = cc

  option_contents : (s : SchemaTable) (bytes : List ℕ) (q n : ℕ) (v w : Value) → Knows s D → Contents s bytes q (one (option_shape X)) n v → Follows s bytes v w → OptionMeans D X L bytes q w
  option_contents s bytes q n _ _ k (contents_one (reads_choice {ps = ps} h rs)) (follows_case f) = option_is s bytes q (slice_index bytes q) ps k refl h rs f

  pub option_means : (a : Standing) (w : Value) → Means D (one (option_shape X)) a w → OptionMeans D X L a.bytes a.pos w
  option_means a w m = option_contents m.schema a.bytes a.pos a.len m.value w m.knows m.contents m.follows

  pub value_there : (a : Standing) → slice_index a.bytes a.pos ≡ 1 → value_of L.align a ≡ Some (standing a.bytes (a.pos + L.align) 0)
  value_there a e = rw e refl

  pub no_value_there : (a : Standing) → slice_index a.bytes a.pos ≡ 0 → value_of L.align a ≡ None
  no_value_there a e = rw e refl

  two_options : (R : Standing → Standing → Ordering) → OrdersValues D (one X) R → (a b : Standing) (v w : Value) → OptionMeans D X L a.bytes a.pos v → OptionMeans D X L b.bytes b.pos w
      → option_cmp R (value_of L.align a) (value_of L.align b) ≡ value_cmp v w
  two_options R by_value a b _ _ (none_means e) (none_means f) = rw (no_value_there a e, no_value_there b f) refl
  two_options R by_value a b _ _ (none_means e) (some_means f m) = rw (no_value_there a e, value_there b f) refl
  two_options R by_value a b _ _ (some_means e m) (none_means f) = rw (value_there a e, no_value_there b f) refl
  two_options R by_value a b _ _ (some_means {w = v} e m) (some_means {w = w} f n) = rw (value_there a e, value_there b f) (by_value _ _ v w m n ∙ sym (then_Equal (value_cmp v w)))

  pub options_ordered : (R : Standing → Standing → Ordering) → OrdersValues D (one X) R → OrdersValues D (one (option_shape X)) (on (value_of L.align) (option_cmp R))
  options_ordered R by_value a b v w m n = two_options R by_value a b v w (option_means a v m) (option_means b w n)

  option_and_native : {U : Type 0} (meaning : U → Value) (R : Standing → U → Ordering) → OrdersNative D (one X) meaning R → (a : Standing) (v : Value) (o : Option U) → OptionMeans D X L a.bytes a.pos v
      → option_order R (value_of L.align a) o ≡ value_cmp v (option_meaning meaning o)
  option_and_native meaning R by_value a _ None (none_means e) = rw (no_value_there a e) refl
  option_and_native meaning R by_value a _ (Some u) (none_means e) = rw (no_value_there a e) refl
  option_and_native meaning R by_value a _ None (some_means e m) = rw (value_there a e) refl
  option_and_native meaning R by_value a _ (Some u) (some_means {w = w} e m) = rw (value_there a e) (by_value _ w u m ∙ sym (then_Equal (value_cmp w (meaning u))))

  pub option_native : {U : Type 0} (meaning : U → Value) (R : Standing → U → Ordering) → OrdersNative D (one X) meaning R
      → OrdersNative D (one (option_shape X)) (option_meaning meaning) (λ v o. option_order R (value_of L.align v) o)
  option_native meaning R by_value a v o m = option_and_native meaning R by_value a v o (option_means a v m)

-- results

-- What a result means: the definitions of both come with it.
pub data ResultMeans (D E : Definitions) (X Y : Shape) (L M : Layout) (bytes : List ℕ) (q : ℕ) : Value → Type 0 where
  ok_means : {w : Value} → slice_index bytes q ≡ 0 → Means D (one X) (standing bytes (q + L.align) 0) w → ResultMeans D E X Y L M bytes q (case 0 (value w no_value))
  err_means : {w : Value} → slice_index bytes q ≡ 1 → Means E (one Y) (standing bytes (q + M.align) 0) w → ResultMeans D E X Y L M bytes q (case 1 (value w no_value))

module _ (D E : Definitions) (X Y : Shape) (L M : Layout) (value_align : IsAlign L.align) (error_align : IsAlign M.align) (value_layout : HasLayout D X L) (error_layout : HasLayout E Y M) where
  result_is : (s : SchemaTable) (bytes : List ℕ) (q tag : ℕ) (ps : Parts) {vs ws : Values} → Knows s (both D E) → slice_index bytes q ≡ tag → variant_at (result_variants X Y) tag ≡ Some ps
      → ReadsParts s bytes q 1 ps vs → FollowsAll s bytes vs ws → ResultMeans D E X Y L M bytes q (case tag ws)
  result_is s bytes q zero ps k e h rs f =
      let ok : ps ≡ part X no_part = sym (ap parts_of h) in
      let o = one_follows (rw ok at rs) f in
      rw (o.is) (ok_means e (first_means D X L value_align value_layout s bytes q (knows_left s D E k) o.reads o.follows))
  result_is s bytes q (suc zero) ps k e h rs f =
      let err : ps ≡ part Y no_part = sym (ap parts_of h) in
      let o = one_follows (rw err at rs) f in
      rw (o.is) (err_means e (first_means E Y M error_align error_layout s bytes q (knows_right s D E k) o.reads o.follows))
  result_is s bytes q (suc (suc tag)) ps k e h rs f = cc

  result_contents : (s : SchemaTable) (bytes : List ℕ) (q n : ℕ) (v w : Value) → Knows s (both D E) → Contents s bytes q (one (result_shape X Y)) n v → Follows s bytes v w → ResultMeans D E X Y L M bytes q w
  result_contents s bytes q n _ _ k (contents_one (reads_choice {ps = ps} h rs)) (follows_case f) = result_is s bytes q (slice_index bytes q) ps k refl h rs f

  pub result_means : (a : Standing) (w : Value) → Means (both D E) (one (result_shape X Y)) a w → ResultMeans D E X Y L M a.bytes a.pos w
  result_means a w m = result_contents m.schema a.bytes a.pos a.len m.value w m.knows m.contents m.follows

  ok_there : (a : Standing) → slice_index a.bytes a.pos ≡ 0 → result_in L.align M.align a ≡ Ok (standing a.bytes (a.pos + L.align) 0)
  ok_there a e = rw e refl

  err_there : (a : Standing) → slice_index a.bytes a.pos ≡ 1 → result_in L.align M.align a ≡ Err (standing a.bytes (a.pos + M.align) 0)
  err_there a e = rw e refl

  two_results : (R S : Standing → Standing → Ordering) → OrdersValues D (one X) R → OrdersValues E (one Y) S → (a b : Standing) (v w : Value)
      → ResultMeans D E X Y L M a.bytes a.pos v → ResultMeans D E X Y L M b.bytes b.pos w → result_cmp R S (result_in L.align M.align a) (result_in L.align M.align b) ≡ value_cmp v w
  two_results R S of_values of_errors a b _ _ (ok_means {w = v} e m) (ok_means {w = w} f n) = rw (ok_there a e, ok_there b f) (of_values _ _ v w m n ∙ sym (then_Equal (value_cmp v w)))
  two_results R S of_values of_errors a b _ _ (ok_means e m) (err_means f n) = rw (ok_there a e, err_there b f) refl
  two_results R S of_values of_errors a b _ _ (err_means e m) (ok_means f n) = rw (err_there a e, ok_there b f) refl
  two_results R S of_values of_errors a b _ _ (err_means {w = v} e m) (err_means {w = w} f n) = rw (err_there a e, err_there b f) (of_errors _ _ v w m n ∙ sym (then_Equal (value_cmp v w)))

  pub results_ordered : (R S : Standing → Standing → Ordering) → OrdersValues D (one X) R → OrdersValues E (one Y) S
      → OrdersValues (both D E) (one (result_shape X Y)) (on (result_in L.align M.align) (result_cmp R S))
  results_ordered R S of_values of_errors a b v w m n = two_results R S of_values of_errors a b v w (result_means a v m) (result_means b w n)

  result_and_native : {U W : Type 0} (mean_value : U → Value) (mean_error : W → Value) (R : Standing → U → Ordering) (S : Standing → W → Ordering) → OrdersNative D (one X) mean_value R → OrdersNative E (one Y) mean_error S
      → (a : Standing) (v : Value) (r : Result U W) → ResultMeans D E X Y L M a.bytes a.pos v → result_order R S (result_in L.align M.align a) r ≡ value_cmp v (result_meaning mean_value mean_error r)
  result_and_native mean_value mean_error R S of_values of_errors a _ (Ok u) (ok_means {w = w} e m) = rw (ok_there a e) (of_values _ w u m ∙ sym (then_Equal (value_cmp w (mean_value u))))
  result_and_native mean_value mean_error R S of_values of_errors a _ (Err u) (ok_means e m) = rw (ok_there a e) refl
  result_and_native mean_value mean_error R S of_values of_errors a _ (Ok u) (err_means e m) = rw (err_there a e) refl
  result_and_native mean_value mean_error R S of_values of_errors a _ (Err u) (err_means {w = w} e m) = rw (err_there a e) (of_errors _ w u m ∙ sym (then_Equal (value_cmp w (mean_error u))))

  pub result_native : {U W : Type 0} (mean_value : U → Value) (mean_error : W → Value) (R : Standing → U → Ordering) (S : Standing → W → Ordering) → OrdersNative D (one X) mean_value R → OrdersNative E (one Y) mean_error S
      → OrdersNative (both D E) (one (result_shape X Y)) (result_meaning mean_value mean_error) (λ v r. result_order R S (result_in L.align M.align v) r)
  result_native mean_value mean_error R S of_values of_errors a v r m = result_and_native mean_value mean_error R S of_values of_errors a v r (result_means a v m)
