-- The entries of a map, one after another, as a type's own check goes over them.
use Rattle.std.proofs.Common.{◌≡◌, ℕ, suc, refl, sym, ap, ◌∙◌, subst, ◌+◌, ◌-◌, ◌*◌, ◌<◌, ◌≤◌, min, max, arith, List, Option, Some, None, Bool, ◌&&◌, IsTrue, nat_lt}
use Rattle.std.proofs.lemmas.Bool.{and_parts}
use Rattle.std.proofs.lemmas.Bool.Decides.{nat_tests}
use Rattle.archive_check.specs.Words.BoundedSizes.{fits}
use Rattle.archive_check.specs.SelfCheck.Lone.{tuple_direct, small_fits}
use Rattle.std.proofs.Math.Nat.{mul-le-mul_right}
use Rattle.std.specs.Int.{Width, w8, w16, w32, w64, w128, byte_len}
use Rattle.archive_check.specs.Shape.{Kind, unit, bool, char, number, non_zero, raw_rel, Key, leaf_key, str_key, Shape, no_part, part, key_shape, entry_of}
use Rattle.archive_check.specs.Layout.{Layout, up, kind_size, key_size, key_align, size_of, align_of}
use Rattle.archive_check.specs.Reads.{SchemaTable}
use Rattle.archive_check.specs.Keys.{ComesBehind}
use Rattle.archive_check.specs.Tour.{Seen}
use Rattle.archive_check.specs.declared.format.error.Error.{Error}
use Rattle.archive_check.specs.declared.format.error.Error.TheVariants.{UnsortedKeys}
use Rattle.archive_check.specs.context.Ranges.{RangeState}
use Rattle.archive_check.specs.context.FreshContexts.{HasLevels}
use Rattle.archive_check.specs.Definitions.{Definitions, no_definition, both, Knows, HasLayout}
use Rattle.archive_check.specs.Walk.{Walk, walk_parts, WalkParts, walk_part}
use Rattle.archive_check.specs.Trail.{Fault, unsorted, Trips, TripsParts, trips_first, trips_later}
use Rattle.archive_check.specs.Outcomes.{refused}
use Rattle.archive_check.specs.SelfCheck.Ways.{Way, Goes, Halts, shape_way, parts_way}
use Rattle.archive_check.specs.SelfCheck.Regions.{entries_way}
use Rattle.archive_check.specs.SelfCheck.Maps.{entry_definitions, entry_end, entry_align, entry_size}
use Rattle.archive_check.proofs.SelfCheck.Ways.{Toward, toward_same, toward_then, toward_halts, toward_end}
use Rattle.archive_check.proofs.SelfCheck.Layouts.{its_size, its_align}
use Rattle.archive_check.proofs.SelfCheck.Parts.{knows_left, knows_right}
use Rattle.archive_check.proofs.SelfCheck.Steps.{entry_way, key_stop, order_stop, value_stop, no_entry_way}
use Rattle.archive_check.proofs.Tours.PartsInside.{up_le}
use Rattle.archive_check.proofs.Maps.Entries.{kind_first, key_first, key_at}

-- the key at p is refused, or doesn't come behind the one before it
module _ (D : Definitions) (X : Shape) (K : Key) (is : X ≡ key_shape K) (b : List ℕ) (before : Option ℕ) (p : ℕ) (s : RangeState) (n : ℕ) (V : Shape) where
  pub key_halts : (e : Error) → Halts D (shape_way b p X) s e → Halts D (entries_way b before p (suc n) K V) s e
  key_halts e h = toward_halts D D (entries_way b before p (suc n) K V) (entries_way b before p (suc n) K V) (shape_way b p X) s s (λ t k. k) (toward_same D (entries_way b before p (suc n) K V) s) e
      (λ t k pending seen f w. key_stop b t pending s.depth s.end s.start seen before p n (suc n) K V f refl (rw is at w)) h

  pub order_halts : (s1 : RangeState) → Goes D (shape_way b p X) s s1 → (ComesBehind K b before p → ⊥) → Halts D (entries_way b before p (suc n) K V) s UnsortedKeys
  order_halts s1 g not some = (unsorted, refl, λ t k pending seen. order_stop b t pending s.depth s.end s.start seen before p n (suc n) s1.start K V refl not (rw is at (g.runs some t k pending seen)))

-- a key takes few bytes, and lies where its entry begins
width_few : (width : Width) → byte_len width ≤ 16
width_few w8 = omega arith
width_few w16 = omega arith
width_few w32 = omega arith
width_few w64 = omega arith
width_few w128 = omega arith

kind_few : (kind : Kind) → kind_size kind ≤ 16
kind_few unit = omega arith
kind_few bool = omega arith
kind_few char = omega arith
kind_few (number sign width) = width_few width
kind_few (non_zero sign width) = width_few width
kind_few (raw_rel sign width) = width_few width

pub key_few : (K : Key) → key_size K ≤ 16
key_few (leaf_key kind) = kind_few kind
key_few str_key = omega arith

pub key_first_aligned : (K : Key) → up 0 (key_align K) ≡ 0
key_first_aligned (leaf_key kind) = kind_first kind
key_first_aligned str_key = refl

-- so an entry has room for a key, and for a value behind it
pub entry_room : (L M : Layout) → up 0 L.align ≡ 0 → 1 ≤ M.align → (L.size ≤ up L.size M.align) × (up L.size M.align + M.size ≤ entry_size L M)
entry_room L M none some =
    let end : entry_end L M ≡ up L.size M.align + M.size = ap (λ n. up (n + L.size) M.align + M.size) none ∙ ap (λ n. up n M.align + M.size) (omega arith) in
    (up_le L.size M.align some, omega (arith, end, up_le (entry_end L M) (entry_align L M) (omega arith)))

-- the next of some entries lies in their bytes
pub next_room : (z n k at len : ℕ) → k < n → at + n * z ≤ len → at + k * z + z ≤ len
next_room z n k at len lt fits = let more : (k + 1) * z ≤ n * z = mul-le-mul_right z (omega arith) in omega (arith, more, fits)

module _ (D E : Definitions) (K : Key) (L : Layout) (laid : HasLayout D (key_shape K) L) (V : Shape) (M : Layout) (valued : HasLayout E V M) where
  -- what a key takes, and an entry, under each schema
  pub entry_sized : (t : SchemaTable) → Knows t (entry_definitions D E) → (L.size ≡ size_of t.layouts (key_shape K)) × (entry_size L M ≡ size_of t.layouts (entry_of K V))
  entry_sized t k =
      let left = knows_left t D (both E no_definition) k in
      let right = knows_left t E no_definition (knows_right t D (both E no_definition) k) in
      let a : align_of t.layouts (key_shape K) ≡ L.align = its_align D (key_shape K) L laid L.align refl t left in
      let z : size_of t.layouts (key_shape K) ≡ L.size = its_size D (key_shape K) L laid t left in
      let c : align_of t.layouts V ≡ M.align = its_align E V M valued M.align refl t right in
      let y : size_of t.layouts V ≡ M.size = its_size E V M valued t right in
      (sym z, λ i. up (up (up 0 (sym a i) + sym z i) (sym c i) + sym y i) (max (sym a i) (max (sym c i) 1)))

  pub entry_aligned : (t : SchemaTable) → Knows t (entry_definitions D E) → align_of t.layouts (entry_of K V) ≡ entry_align L M
  entry_aligned t k =
      let left = knows_left t D (both E no_definition) k in
      let right = knows_left t E no_definition (knows_right t D (both E no_definition) k) in
      let a : align_of t.layouts (key_shape K) ≡ L.align = its_align D (key_shape K) L laid L.align refl t left in
      let c : align_of t.layouts V ≡ M.align = its_align E V M valued M.align refl t right in
      λ i. max (a i) (max (c i) 1)

-- the size of an entry, where that fits
module _ (direct lone : Bool) (Z size : ℕ) (says : IsTrue (tuple_direct direct lone Z)) (is : size ≡ min Z 18446744073709551615) where
  few : IsTrue (nat_lt Z 18446744073709551615)
  few = (and_parts (direct && lone) (nat_lt Z 18446744073709551615) says).1

  pub entry_exact : size ≡ Z
  entry_exact = let small : Z < 18446744073709551615 = grind (arith, nat_tests, few) in omega (arith, is, small)

  pub entry_whole : Some size ≡ fits Z
  entry_whole = ap Some entry_exact ∙ sym (small_fits Z few)

-- of a part alone the trail is its own
only_part : {s : SchemaTable} {b pending : List ℕ} {depth : Option ℕ} {stop p at start : ℕ} {seen : Seen} {X : Shape} {f : Fault} → TripsParts s b pending depth stop p at (part X no_part) start seen f
    → Trips s b pending depth stop (p + up at (align_of s.layouts X)) X start seen f
only_part (trips_first t) = t
only_part (trips_later w t) = elim t [ ]

-- and what they take at one layout each
module _ (D E : Definitions) (K : Key) (L : Layout) (is : L ≡ record { size = key_size K; align = key_align K }) (laid : HasLayout D (key_shape K) L) (V : Shape) (M : Layout) (valued : HasLayout E V M)
    (size z : ℕ) (size_is : size ≡ min L.size 18446744073709551615) (z_is : z ≡ entry_size L M) where
  pub size_same : size ≡ L.size
  size_same = let few = key_few K in let key = ap (λ l. l.size) is in omega (arith, few, key, size_is)

  pub aligned_first : up 0 L.align ≡ 0
  aligned_first = ap (λ l. up 0 l.align) is ∙ key_first_aligned K

  pub sizes : (t : SchemaTable) → Knows t (entry_definitions D E) → (size ≡ size_of t.layouts (key_shape K)) × (z ≡ size_of t.layouts (entry_of K V))
  sizes t k = let both_are = entry_sized D E K L laid V M valued t k in (size_same ∙ both_are.0, z_is ∙ both_are.1)

  -- a key, and a value behind it, lie in an entry
  pub room : 1 ≤ M.align → (L.size ≤ up size M.align) × (up size M.align + M.size ≤ z)
  room some = let r = entry_room L M aligned_first some in let same = size_same in rw (same, z_is) r

-- from a range on, m entries are left, the next at p
module _ (D E : Definitions) (K : Key) (V : Shape) (b : List ℕ) (R : Way) (before : Option ℕ) (p m n : ℕ) (count : m ≡ suc n) (s s1 : RangeState)
    (toward : Toward (entry_definitions D E) R (entries_way b before p m K V) s s1) where
  -- its key is refused
  pub key_refused : (e : Error) → Halts D (entries_way b before p (suc n) K V) s1 e → Halts (entry_definitions D E) R s e
  key_refused e = toward_halts D (entry_definitions D E) R (entries_way b before p m K V) (entries_way b before p (suc n) K V) s s1 (λ t. knows_left t D (both E no_definition)) toward e (λ t k pending seen f w. rw count w)

  module _ (size z : ℕ) (sized : (t : SchemaTable) → Knows t (entry_definitions D E) → (size ≡ size_of t.layouts (key_shape K)) × (z ≡ size_of t.layouts (entry_of K V)))
      (s2 : RangeState) (key : Goes D (shape_way b p (key_shape K)) s1 s2) (behind : ComesBehind K b before p) where
    within : HasLevels s1.depth → HasLevels s2.depth
    within some = rw (key.depth some) some

    -- its value is refused
    pub value_refused : (e : Error) → Halts (both E no_definition) (parts_way b p size (part V no_part)) s2 e → Halts (entry_definitions D E) R s e
    value_refused e halts some =
        let inner : HasLevels s1.depth = rw (toward.depth some) some in
        let f = halts (within inner) in (
          f.0,
          f.1,
          λ t k pending seen.
              let w = rw (toward.depth some, toward.end) at (key.runs inner t (knows_left t D (both E no_definition) k) pending seen) in
              let here = subst (λ x. TripsParts t b pending x s2.end p size (part V no_part) s2.start seen (f.0)) (key.depth inner ∙ toward.depth some) (f.2 t (knows_right t D (both E no_definition) k) pending seen) in
              let v = subst (λ x. TripsParts t b pending s.depth x p size (part V no_part) s2.start seen (f.0)) (key.end ∙ toward.end) here in
              toward.leads some t k pending seen (refused f.0) (value_stop b t pending s.depth s.end s1.start seen before p (p + up size (align_of t.layouts V)) n m s2.start K V f.0 count (ap (λ x. p + up x (align_of t.layouts V)) ((sized t k).0)) behind w (only_part v)),
        )

    entry_goes : (s3 : RangeState) → Goes (both E no_definition) (parts_way b p size (part V no_part)) s2 s3 → Goes (entry_definitions D E) (shape_way b p (entry_of K V)) s1 s3
    entry_goes s3 g = record {
      end = g.end ∙ key.end;
      depth = λ some. g.depth (within some) ∙ key.depth some;
      runs = λ some t k pending seen.
          let w = key.runs some t (knows_left t D (both E no_definition) k) pending seen in
          let v = rw (key.depth some, key.end) at (g.runs (within some) t (knows_right t D (both E no_definition) k) pending seen) in
          let here = key_at t.layouts K p in
          let is = (sized t k).0 in
          let next : up 0 (align_of t.layouts (key_shape K)) + size_of t.layouts (key_shape K) ≡ size = ap (λ m. m + size_of t.layouts (key_shape K)) (key_first t.layouts K) ∙ omega (arith, is) in
          walk_parts (walk_part {mid = s2.start} {known = seen} (subst (λ q. Walk t b pending s1.depth s1.end q (key_shape K) s1.start seen s2.start seen) (sym here) w)
          (subst (λ m. WalkParts t b pending s1.depth s1.end p m (part V no_part) s2.start seen s3.start seen) (sym next) v));
    }

    -- it is gone through, and the next one stands behind it
    pub next_entry : (s3 : RangeState) → Goes (both E no_definition) (parts_way b p size (part V no_part)) s2 s3 → Toward (entry_definitions D E) R (entries_way b (Some p) (p + z) n K V) s s3
    next_entry s3 g =
        toward_then (entry_definitions D E) (entry_definitions D E) R (entries_way b before p m K V) (shape_way b p (entry_of K V)) s s1 (λ t k. k) toward (entries_way b (Some p) (p + z) n K V) s3
        (λ t k pending seen o w q. entry_way b t pending s.depth s.end s1.start seen before p (p + z) n m s3.start K V o count (ap (λ x. p + x) ((sized t k).1)) behind w q) (entry_goes s3 g)

-- all are left
pub entries_begin : (D : Definitions) (K : Key) (V : Shape) (b : List ℕ) (at n z : ℕ) (s : RangeState) → Toward D (entries_way b None at n K V) (entries_way b None (at + 0 * z) (n - 0) K V) s s
entries_begin D K V b at n z s = let here : at + 0 * z ≡ at = omega arith in let all : n - 0 ≡ n = omega arith in rw (here, all) (toward_same D (entries_way b None at n K V) s)

-- none is left
pub entries_gone : (D : Definitions) (K : Key) (V : Shape) (b : List ℕ) (R : Way) (before : Option ℕ) (p m : ℕ) (s s1 : RangeState) → m ≡ 0 → Toward D R (entries_way b before p m K V) s s1 → Goes D R s s1
entries_gone D K V b R before p m s s1 none toward = toward_end D R (entries_way b before p m K V) s s1 toward (λ t kn pending seen. no_entry_way b t pending s.depth s.end s1.start seen before p m K V none)
