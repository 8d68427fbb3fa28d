-- The order of what archives say: numbers by value, texts by their bytes, lists by the first elements that differ and else by length, variants by
-- their tags, so that `None` is less than `Some` and `Ok` less than `Err`, and pointers by what they lead to.
use Rattle.std.specs.Prelude.{◌≡◌, ℕ, ℤ, List, Bool, true, ◌&&◌}
use Rattle.std.specs.Ordering.{nat_cmp, int_cmp, ordering_then, is_eq, is_lt}
use Rattle.std.specs.Cmp.Lexicographic.{slice_cmp}
use Rattle.std.specs.declared.cmp.Ordering.{Ordering}
use Rattle.std.specs.declared.cmp.Ordering.TheVariants.{Less, Equal, Greater}
use Rattle.archive_check.specs.Shape.{Pointee}
use Rattle.archive_check.specs.Value.{Pointer, Value, number, product, case, list, text_value, box, null, hole, Values, no_value, value}
use Rattle.archive_check.specs.Reads.{SchemaTable}
use Rattle.archive_check.specs.Tour.{Contents, Leads}
use Rattle.archive_check.specs.Definitions.{Definitions, Knows}
use Rattle.archive_types.specs.Compared.{Standing, standing}

-- The order of two values of one type: the first parts that differ decide, and else the lengths;
-- what has no rule is equal.
abbrev mutual
  pub value_cmp : Value → Value → Ordering
  value_cmp (number x) (number y) = int_cmp x y
  value_cmp (product vs) (product ws) = values_cmp vs ws
  value_cmp (case s vs) (case t ws) = ordering_then (nat_cmp s t) (values_cmp vs ws)
  value_cmp (list vs) (list ws) = values_cmp vs ws
  value_cmp (text_value xs) (text_value ys) = slice_cmp nat_cmp xs ys
  value_cmp (box v) (box w) = value_cmp v w
  value_cmp _ _ = Equal

  -- The first two that differ decide, and else the lengths.
  pub values_cmp : Values → Values → Ordering
  values_cmp no_value no_value = Equal
  values_cmp no_value (value w ws) = Less
  values_cmp (value v vs) no_value = Greater
  values_cmp (value v vs) (value w ws) = ordering_then (value_cmp v w) (values_cmp vs ws)

-- The key of an entry: the first part of a pair.
abbrev pub key_of_pair : Value → Value
key_of_pair (product (value k vs)) = k
key_of_pair v = v

-- Whether the keys of entries ascend strictly.
abbrev pub keys_ascend : Values → Bool
keys_ascend no_value = true
keys_ascend (value v no_value) = true
keys_ascend (value v (value w vs)) = is_lt (value_cmp (key_of_pair v) (key_of_pair w)) && keys_ascend (value w vs)

-- The second value is the first one, with what it leads to in place of each pointer, shared or not.
mutual
  pub data Follows (s : SchemaTable) (bytes : List ℕ) : Value → Value → Type 0 where
    follows_number : {z : ℤ} → Follows s bytes (number z) (number z)
    follows_product : {vs ws : Values} → FollowsAll s bytes vs ws → Follows s bytes (product vs) (product ws)
    follows_case : {tag : ℕ} {vs ws : Values} → FollowsAll s bytes vs ws → Follows s bytes (case tag vs) (case tag ws)
    follows_list : {vs ws : Values} → FollowsAll s bytes vs ws → Follows s bytes (list vs) (list ws)
    follows_text : {text : List ℕ} → Follows s bytes (text_value text) (text_value text)
    follows_box : {v w : Value} → Follows s bytes v w → Follows s bytes (box v) (box w)
    follows_null : Follows s bytes null null
    follows_pointer : {p : Pointer} {t : ℕ} {v w : Value}
        → Leads s bytes p t v
        → Follows s bytes v w
        → Follows s bytes (hole p) w

  pub data FollowsAll (s : SchemaTable) (bytes : List ℕ) : Values → Values → Type 0 where
    follows_no_value : FollowsAll s bytes no_value no_value
    follows_value : {v w : Value} {vs ws : Values} → Follows s bytes v w → FollowsAll s bytes vs ws → FollowsAll s bytes (value v vs) (value w ws)

-- Under some schema that knows the definitions, P there says w, each pointer followed.
pub record Means (D : Definitions) (P : Pointee) (a : Standing) (w : Value) : Type 0 where
  pub schema : SchemaTable
  pub value : Value
  pub knows : Knows schema D
  pub contents : Contents schema a.bytes a.pos P a.len value
  pub follows : Follows schema a.bytes value w

-- The order of two parts is that of the values that they mean.
abbrev pub OrdersValues : Definitions → Pointee → (Standing → Standing → Ordering) → Type 0
OrdersValues D P R = (a b : Standing) (v w : Value) → Means D P a v → Means D P b w → R a b ≡ value_cmp v w

-- And that of a part and a value of the machine is that of what it means and of the value's meaning.
abbrev pub OrdersNative : {U : Type 0} → Definitions → Pointee → (U → Value) → (Standing → U → Ordering) → Type 0
OrdersNative D P meaning R = (a : Standing) (v : Value) (u : _) → Means D P a v → R a u ≡ value_cmp v (meaning u)

-- r is the order of what P there means and of u.
abbrev pub ComparesTo : Definitions → Pointee → List ℕ → ℕ → ℕ → Value → Ordering → Type 0
ComparesTo D P bytes q n u r = (v : Value) → Means D P (standing bytes q n) v → r ≡ value_cmp v u

-- r tells whether what P there means is ordered as u.
abbrev pub EqualsTo : Definitions → Pointee → List ℕ → ℕ → ℕ → Value → Bool → Type 0
EqualsTo D P bytes q n u r = (v : Value) → Means D P (standing bytes q n) v → r ≡ is_eq (value_cmp v u)
