-- What is paid for the regions that a check enters.
use Rattle.std.proofs.Common.{◌≡◌, ℤ, inl, inr, ℕ, zero, suc, ap, ◌∙◌, ◌+◌, ◌-◌, ◌*◌, ◌<◌, ◌≤◌, arith, List, [], ◌∷◌, length, Option, Some, None, OnSome, IfNone, unwrap_or, slice_index, Bor}
use Rattle.std.proofs.Math.Nat.{mul-le-mul_right, mul-le-mul_left}
use Rattle.std.specs.Prelude.{true}
use Rattle.archive_check.specs.declared.format.expr.Key.{Key as KeyExpr}
use Rattle.archive_check.specs.Expressions.{key_of}
use Rattle.archive_check.specs.Layout.{key_size}
use Rattle.archive_schema.specs.declared.plan.PointeeKind.{PointeeKind}
use Rattle.archive_schema.specs.declared.plan.PointeeKind.TheVariants.{One, Run, Text, Entries as EntriesOf}
use Rattle.archive_schema.specs.declared.plan.NodeKind.TheVariants.{Record, Choice, Array}
use Rattle.archive_schema.specs.declared.plan.Part.{Part}
use Rattle.archive_schema.specs.declared.plan.Span.{Span}
use Rattle.archive_schema.specs.declared.check.Checker.{Checker}
use Rattle.archive_schema.specs.declared.check.worklist.Work.{Work}
use Rattle.archive_schema.specs.declared.check.worklist.Work.TheVariants.{Leave}
use Rattle.archive_check.specs.declared.context.range.Region.{Region}
use Rattle.archive_check.specs.context.Ranges.{RangeState}
use Rattle.archive_check.specs.Words.Elements.{span, IsAt}
use Rattle.archive_schema.specs.plan.SoundPlans.{IsSound}
use Rattle.archive_schema.specs.plan.PackedPlans.{size_at, parts_size, variants_size, ArePacked}
use Rattle.archive_schema.specs.check.Runs.{IsNode, IsVariant, RegionIs, pointer_bytes}
use Rattle.archive_schema.specs.check.Lists.{left_first, IsMore}
use Rattle.archive_schema.specs.check.LoopInvariant.{PartFits}
use Rattle.archive_schema.specs.check.Entered.{Entered}
use Rattle.archive_schema.specs.check.Paid.{bytes_of, bytes_in, bytes_of_parts, bytes_of_elements, bytes_of_entries, PaysFrom}
use Rattle.archive_check.proofs.Elements.{same_at, at_default, span_next}
use Rattle.archive_schema.proofs.check.TurnInvariants.{node_fits}
use Rattle.archive_schema.proofs.check.EnteredRegions.{is_node_itself, node_takes, entry_takes}
use Rattle.archive_schema.proofs.check.EntryPlaces.{entry_parts}
use Rattle.archive_schema.proofs.plan.PackedPlans.{size_is, taken, variant_least}

-- an entry is left, or there is no room for it
pub pays_entry : (m : Checker) (s : RangeState) (w w' : List Work) (entry : Work) (r : Option (Unit {0})) → OnSome r (w' ≡ entry ∷ w) → IfNone r (w' ≡ w) → PaysFrom m (bytes_of m entry) s w s w'
pays_entry m s w w' entry (Some u) some none = omega (arith, ap (bytes_in m) some)
pays_entry m s w w' entry None some none = omega (arith, ap (bytes_in m) none)

pub pays_more : (m : Checker) (s : RangeState) (w w' : List Work) (entry : Work) {Nothing : Type 0} → IsMore entry Nothing w' w → PaysFrom m (bytes_of m entry) s w s w'
pays_more m s w w' entry (inl (some, e)) = omega (arith, ap (bytes_in m) e)
pays_more m s w w' entry (inr (none, e)) = omega (arith, ap (bytes_in m) e)

-- a region that is left first gives back no more than its outer range has behind it
left_bytes : (m : Checker) (a b : ℕ) (work : List Work) → bytes_in m (left_first a b work) ≤ b - a + bytes_in m work
left_bytes m a b [] = omega arith
left_bytes m a b (entry ∷ work) = by_entry entry
  where
    by_entry : (entry : Work) → bytes_in m (left_first a b (entry ∷ work)) ≤ b - a + bytes_in m (entry ∷ work)
    by_entry (Leave x y n) = omega arith
    by_entry entry = omega arith

-- a region is entered, and is to be left
pub listed_pays : (m : Checker) {target : PointeeKind} {j n : ℕ} {z : ℤ} {s s1 : RangeState} {r : Region} (s2 : RangeState) (w w2 w3 : List Work) (entry : Work) → Entered m target j n z s s1 r → s1.pushes ≤ s.pushes + 1 → s2 ≡ s1 → bytes_of m entry ≤ r.size
    → w2 ≡ left_first r.outer_start r.outer_end w → PaysFrom m (bytes_of m entry) s2 w2 s2 w3 → PaysFrom m 4 s w s2 w3
listed_pays m {r = r} s2 w w2 w3 entry h pushes same few left pays =
    let p = ap (λ (q : RangeState). q.pushes) same in
    let a = ap (λ (q : RangeState). q.start) same in
    let b = ap (λ (q : RangeState). q.end) same in
    omega (arith, pays, pushes, few, ap (bytes_in m) left, left_bytes m r.outer_start r.outer_end w, p, a, b, h.start, h.end, h.lands.above, h.lands.below, h.outer_start, h.outer_end)

-- what a node takes
pub node_size : {m : Checker} {i p : ℕ} → (f : PartFits m i p) → size_at m.nodes.now i ≡ f.size
node_size f = taken f.takes

-- what a node holds takes no more than it
module _ {m : Checker} {i p : ℕ} (f : PartFits m i p) where
  module _ (packed : ArePacked m.nodes.now m.parts.now m.variants.now) where
    pub record_few : {a b : ℕ} → IsNode m i (Record a b) → bytes_of_parts m a b ≤ size_at m.nodes.now i
    record_few {a = a} {b = b} is =
        let h = packed i is.node f.size is.at (ap (λ q. q.size) (same_at is.at f.takes.at) ∙ f.takes.size_is) in
        let few : bytes_of_parts m a b ≤ f.size = rw is.kind_is at h in
        omega (arith, few, node_size f)

    pub variant_few : {a b : ℕ} {name : Bor (List ℕ)} {x : Span} → IsNode m i (Choice name a b) → IsVariant m a b p x → bytes_of_parts m x.first x.last ≤ size_at m.nodes.now i
    variant_few {a = a} {b = b} {name = name} {x = x} is variant =
        let h = packed i is.node f.size is.at (ap (λ q. q.size) (same_at is.at f.takes.at) ∙ f.takes.size_is) in
        let all : variants_size m.nodes.now m.parts.now (span m.variants.now a b) ≤ f.size = rw is.kind_is at h in
        omega (arith, variant_least m.nodes.now m.parts.now m.variants.now a b (slice_index m.bytes.now p) x variant.0 variant.1, all, node_size f)

  pub array_few : {n j : ℕ} → IsSound m → IsNode m i (Array n j) → bytes_of_elements m j n ≤ size_at m.nodes.now i
  array_few {n = n} sound is =
      let fits = (node_fits sound is f).1 in
      let same = ap (λ q. n * q) (taken fits.takes) in
      omega (arith, fits.within, same, node_size f)

  pub pointer_few : (target : PointeeKind) → pointer_bytes target ≤ f.size → 4 ≤ size_at m.nodes.now i
  pointer_few One le = omega (arith, le, node_size f)
  pointer_few Run le = omega (arith, le, node_size f)
  pointer_few Text le = omega (arith, le, node_size f)
  pointer_few (EntriesOf key) le = omega (arith, le, node_size f)

-- what a region holds takes no more than it
module _ {m : Checker} {target : PointeeKind} {j n z align : ℕ} (is : is_node_itself target ≡ true) (region : RegionIs m target j n (Some z) align) (lt : 0 < z) where
  pub region_few : bytes_of_elements m j n ≤ z
  region_few =
      let k = node_takes is region lt in
      let here = ap (λ q. n * q) (size_is m.nodes.now j k.1.node k.1.at ∙ ap (λ (o : Option ℕ). unwrap_or o 0) k.1.size_is) in
      omega (arith, k.2, here)

  pub region_one_few : n ≡ 1 → size_at m.nodes.now j ≤ z
  region_one_few one =
      let same = ap (λ q. q * size_at m.nodes.now j) one in
      omega (arith, region_few, same)

-- what the region of some entries holds takes no more than it
pub region_entries_few : {m : Checker} {key : KeyExpr} {j n z align : ℕ} → RegionIs m (EntriesOf key) j n (Some z) align → 0 < z → bytes_of_entries m key j n ≤ z
region_entries_few {m = m} {key = key} {j = j} {n = n} region lt =
    let (offset, size, takes, is) = entry_takes region lt in
    let (x, sized, first, last) = entry_parts key takes.node.size takes.node.align takes.node.positive takes.offset_is takes.size_is in
    let here : size_at m.nodes.now j ≡ x = size_is m.nodes.now j takes.node takes.at ∙ ap (λ (o : Option ℕ). unwrap_or o 0) sized in
    let more : n * (key_size (key_of key) + size_at m.nodes.now j) ≤ n * size = mul-le-mul_left n (omega (arith, here, first, last)) in
    omega (arith, is, more)

-- the next of some entries
pub entries_next_is : (m : Checker) (key : KeyExpr) (j n k : ℕ) → k < n → bytes_of_entries m key j (n - k) ≡ key_size (key_of key) + size_at m.nodes.now j + bytes_of_entries m key j (n - (k + 1))
entries_next_is m key j n k lt = let one : n - k ≡ 1 + (n - (k + 1)) = omega arith in rw one (omega arith)

-- the next of some parts, and of some elements
pub parts_next_is : (m : Checker) (a b : ℕ) (x : Part) → a < b → b ≤ length m.parts.now → IsAt m.parts.now a x → bytes_of_parts m a b ≡ size_at m.nodes.now x.node + bytes_of_parts m (a + 1) b
parts_next_is m a b x lt le at = ap (parts_size m.nodes.now) (span_next m.parts.now a b x lt le at)

pub elements_next_is : (m : Checker) (j n k : ℕ) → k < n → bytes_of_elements m j (n - k) ≡ size_at m.nodes.now j + bytes_of_elements m j (n - (k + 1))
elements_next_is m j n k lt = let one : n - k ≡ 1 + (n - (k + 1)) = omega arith in rw one (omega arith)

pub elements_first_is : (m : Checker) (j n : ℕ) → 0 < n → bytes_of_elements m j n ≡ size_at m.nodes.now j + bytes_of_elements m j (n - 1)
elements_first_is m j zero lt = absurd (omega (arith, lt))
elements_first_is m j (suc n) lt = let less : suc n - 1 ≡ n = omega arith in rw less (omega arith)

pub elements_few : (m : Checker) (j n k : ℕ) → bytes_of_elements m j (n - k) ≤ bytes_of_elements m j n
elements_few m j n k = mul-le-mul_right (size_at m.nodes.now j) (omega arith)

-- some parts are passed over
pub parts_few_from : (m : Checker) (n a b : ℕ) → a + n ≤ b → b ≤ length m.parts.now → bytes_of_parts m (a + n) b ≤ bytes_of_parts m a b
parts_few_from m zero a b lt le = let same : a + 0 ≡ a = omega arith in rw same (omega arith)
parts_few_from m (suc n) a b lt le =
    let same : a + suc n ≡ a + 1 + n = omega arith in
    let next = parts_next_is m a b _ (omega arith) le (at_default m.parts.now a (record { offset = 0; node = 0 }) (omega arith)) in
    let rest = parts_few_from m n (a + 1) b (omega arith) le in
    rw same (omega (arith, next, rest))
