-- What an archive denotes is what was written, its keys renamed one to one.
use Rattle.std.proofs.Common.{◌≡◌, ℕ, zero, suc, List, [], ◌∷◌, refl, sym, ap, ◌∙◌, arith, Option, Some, None, Contains}
use Rattle.std.specs.Ordering.{nat_cmp}
use Rattle.std.specs.FinMap.{FinMap, get}
use Rattle.archive_check.specs.Value.{Value}
use Rattle.archive_check.specs.Tour.{Entry, Seen}
use Rattle.archive_check.specs.Denotes.{Naming, IsSharedValue, Same, rename}
use Rattle.archive_check.specs.Reached.{Names, LeadsTo, leads_at_once, leads_through}
use Rattle.archive_check.specs.WriterState.{KeyStates}
use Rattle.archive_check.proofs.Tours.ReadingUnique.{contents_one_value}
use Rattle.archive_check.proofs.Meanings.MeaningUnique.{fills_one}
use Rattle.archive_check.proofs.Meanings.SameMeanings.{rename_again, rename_stays}
use Rattle.archive_check.proofs.Tours.Seen.{same_some}
use Rattle.archive_types.specs.Writing.{NameMap, AreNamed, HasKeys, LeadsToKey, key_at_once, key_through, IsKeyed, AreKeys, World, Found, AreFinished}

-- keys

named_in : (names : NameMap) (ks : List Naming) (k : Naming) → AreNamed names ks → Contains ks k → get names k.0 ≡ Some k.1
named_in names [] k h (i, less, e) = absurd (omega (arith, less))
named_in names (l ∷ ks) k h (zero, less, e) = rw e at h.0
named_in names (l ∷ ks) k h (suc i, less, e) = named_in names ks k h.1 (i, omega arith, e)

-- the map tells what the value leads to as its keys do
leads_in : (names : NameMap) (ks : List Naming) (v : Value) (k : ℕ) → AreNamed names ks → LeadsToKey ks v k → LeadsTo names v k
leads_in names ks v k h (key_at_once n) = leads_at_once n
leads_in names ks v k h (key_through {l = l} i c n) = leads_through (leads_in names ks v l.0 h i) (named_in names ks l h c) n

-- names that come back

pub rename_back : (f g : ℕ → ℕ) (v : Value) → ((k : ℕ) → Names k v → g (f k) ≡ k) → rename g (rename f v) ≡ v
rename_back f g v h = rename_again f g v ∙ rename_stays (λ k. g (f k)) v h

-- what has no names stays as it is
pub rename_plain : (f : ℕ → ℕ) (v : Value) → HasKeys [] v → rename f v ≡ v
rename_plain f v h = rename_stays f v (λ k n. absurd (omega (arith, (h k n).1.1)))

-- the key that is found at a position that was seen
abbrev key_of : (o : Option Entry) → ((e : Entry) → o ≡ Some e → ℕ) → ℕ
key_of None f = 0
key_of (Some e) f = f e refl

key_of_is : (o : Option Entry) (f : (e : Entry) → o ≡ Some e → ℕ) (k : ℕ) (e : Entry) → o ≡ Some e → ((d : Entry) (is : o ≡ Some d) → f d is ≡ k) → key_of o f ≡ k
key_of_is None f k e is h = cc
key_of_is (Some d) f k e is h = h d refl

pub one_value : (m : Option (Entry × Value)) (e d : Entry) (x y : Value) → m ≡ Some (e, x) → m ≡ Some (d, y) → x ≡ y
one_value m e d x y h i = ap (λ (p : Entry × Value). p.1) (same_some (sym h ∙ i))

pub one_entry : (m : Option (Entry × Value)) (e d : Entry) (x y : Value) → m ≡ Some (e, x) → m ≡ Some (d, y) → e ≡ d
one_entry m e d x y h i = ap (λ (p : Entry × Value). p.0) (same_some (sym h ∙ i))

-- what is known of the keys in the end
pub record InTheEnd (w : World) (states : KeyStates) (ks : List Naming) (x : Value) (seen : Seen) (shared : FinMap nat_cmp (Entry × Value)) : Type 0 where
  pub placed : (k t : ℕ) → states k ≡ Some (Some t) → w.position k ≡ t
  pub apart : (k l t : ℕ) → states k ≡ Some (Some t) → states l ≡ Some (Some t) → k ≡ l
  pub finished : AreFinished states x
  pub keys : AreKeys w.names ks
  pub keyed : IsKeyed ks x
  pub typed : (k t : ℕ) (e : Entry) (v : Value) → states k ≡ Some (Some t) → get w.names k ≡ Some (e, v) → get seen t ≡ Some e
  pub inner : (k t : ℕ) (e : Entry) (v : Value) → states k ≡ Some (Some t) → get w.names k ≡ Some (e, v) → AreFinished states v
  pub found : (t : ℕ) (e : Entry) → get seen t ≡ Some e → Found w states t e
  pub knows : (t : ℕ) → IsSharedValue w.schema w.bytes t (get seen t) (get shared t)

module _ (w : World) (states : KeyStates) (ks : List Naming) (x : Value) (seen : Seen) (shared : FinMap nat_cmp (Entry × Value)) (h : InTheEnd w states ks x seen shared) where
  -- a name that the value leads to is one of its keys, and finished
  is_key : (k : ℕ) → LeadsTo w.names x k → (y : Entry × Value) × Contains ks (k, y)
  is_key k (leads_at_once n) = h.keyed.value k n
  is_key k (leads_through {t = t} {e = e} {w = z} l is n) =
      let (y, c) = is_key t l in
      let same : y.1 ≡ z = one_value (get w.names t) y.0 e y.1 z (named_in w.names ks (t, y) h.keys.named c) is in
      h.keyed.named (t, y) c k (rw same n)

  -- and each key that the map has is led to
  leads : (k : ℕ) (y : Entry × Value) → get w.names k ≡ Some y → LeadsTo w.names x k
  leads k y is = leads_in w.names ks x k h.keys.named (h.keyed.only (k, y) (h.keys.only k y is))

  is_finished : (k : ℕ) → LeadsTo w.names x k → (t : ℕ) × (states k ≡ Some (Some t))
  is_finished k (leads_at_once n) = h.finished k n
  is_finished k (leads_through {t = l} {e = e} {w = z} i is n) = let (t, there) = is_finished l i in h.inner l t e z there is k n

  abbrev from : ℕ → ℕ
  from t = key_of (get seen t) (λ e is. (h.found t e is).key)

  from_is : (k t : ℕ) (e : Entry) → states k ≡ Some (Some t) → get seen t ≡ Some e → from t ≡ k
  from_is k t e is at = key_of_is (get seen t) (λ e is. (h.found t e is).key) k e at (λ d here. h.apart (h.found t d here).key k t (h.found t d here).finished is)

  from_position : (k : ℕ) → LeadsTo w.names x k → from (w.position k) ≡ k
  from_position k l =
      let (y, c) = is_key k l in
      let (t, is) = is_finished k l in
      rw (h.placed k t is) (from_is k t y.0 is (h.typed k t y.0 y.1 is (named_in w.names ks (k, y) h.keys.named c)))

  -- what is known of a position that was seen
  known_value : (t : ℕ) (e : Entry) (o : Option Entry) (m : Option (Entry × Value)) (f : Found w states t e) → o ≡ Some e → IsSharedValue w.schema w.bytes t o m → m ≡ Some (e, rename w.position f.value)
  known_value t e None m f is k = cc
  known_value t e (Some d) m f is k =
      let same : d ≡ e = cc in
      let (v, y, contents, fills, at) = rw same at k in
      at ∙ ap (λ z. Some (e, z)) (fills_one w.schema w.bytes fills (rw (contents_one_value f.contents contents) at f.fills))

  seen_or : (t : ℕ) (o : Option Entry) (m : Option (Entry × Value)) (e : Entry) (z : Value) → IsSharedValue w.schema w.bytes t o m → m ≡ Some (e, z) → o ≡ Some e
  seen_or t None m e z k is = cc
  seen_or t (Some d) m e z (v, y, contents, fills, at) is = ap Some (one_entry m d e y z at is)

  there : (k : ℕ) (e : Entry) (y : Value) → get w.names k ≡ Some (e, y) → (from (w.position k) ≡ k) × (get shared (w.position k) ≡ Some (e, rename w.position y))
  there k e y is =
      let l = leads k (e, y) is in
      let (t, finished) = is_finished k l in
      let at = h.typed k t e y finished is in
      let f = h.found t e at in
      let key : f.key ≡ k = h.apart f.key k t f.finished finished in
      let same : f.value ≡ y = one_value (get w.names k) e e f.value y (rw key at f.names) is in
      (from_position k l, rw (h.placed k t finished) (known_value t e (get seen t) (get shared t) f at (h.knows t) ∙ ap (λ z. Some (e, rename w.position z)) same))

  back : (t : ℕ) (e : Entry) (z : Value) → get shared t ≡ Some (e, z) → (w.position (from t) ≡ t) × (get w.names (from t) ≡ Some (e, rename from z))
  back t e z is =
      let at = seen_or t (get seen t) (get shared t) e z (h.knows t) is in
      let f = h.found t e at in
      let key : from t ≡ f.key = from_is f.key t e f.finished at in
      let stays : rename from (rename w.position f.value) ≡ f.value
      = rename_back w.position from f.value (λ k n. from_position k (leads_through (leads f.key (e, f.value) f.names) f.names n)) in
      let same : rename w.position f.value ≡ z = one_value (get shared t) e e _ z (known_value t e (get seen t) (get shared t) f at (h.knows t)) is in
      (ap w.position key ∙ h.placed f.key t f.finished, rw key (f.names ∙ ap (λ y. Some (e, y)) (sym stays ∙ ap (rename from) same)))

  pub same_in_the_end : Same (record { value = x; shared = w.names }) (record { value = rename w.position x; shared = shared })
  same_in_the_end = record {
    to = w.position;
    from = from;
    value = refl;
    value_back = sym (rename_back w.position from x (λ k n. from_position k (leads_at_once n)));
    there = there;
    back = back;
  }
