-- Where the key and the value of an entry lie.
use Rattle.std.proofs.Common.{◌≡◌, ℕ, refl, sym, ap, ◌∙◌, ◌+◌, ◌-◌, ◌*◌, ◌<◌, ◌≤◌, max, arith, length, Bool, true, false, Option, Some, IsTrue, IfSome, unwrap_or, slice_index_or}
use Rattle.std.proofs.Math.Nat.{mul-le-mul_right}
use Rattle.archive_check.specs.declared.format.expr.Key.{Key as KeyExpr}
use Rattle.archive_check.specs.Expressions.{key_of}
use Rattle.archive_check.specs.Layout.{key_size, key_align}
use Rattle.archive_check.specs.Words.BoundedSizes.{rounded}
use Rattle.archive_check.specs.Words.Elements.{IsAt}
use Rattle.archive_check.proofs.BoundedSizes.{rounded_some}
use Rattle.archive_check.proofs.Elements.{same_at}
use Rattle.archive_schema.specs.declared.plan.PointeeKind.TheVariants.{Entries as EntriesOf}
use Rattle.archive_schema.specs.declared.plan.Node.{Node}
use Rattle.archive_schema.specs.declared.check.Checker.{Checker}
use Rattle.archive_schema.specs.plan.BoundedSizes.{sum_of}
use Rattle.archive_schema.specs.check.Runs.{EntryTakes, before_at, unit_size, value_begin}
use Rattle.archive_schema.specs.check.LoopInvariant.{KeyFits, PartFits, EntriesFit}
use Rattle.archive_schema.proofs.plan.BoundedSizes.{sum_some}
use Rattle.archive_schema.proofs.plan.PlanSizes.{entry_sizes}

-- a value begins behind its key, and an entry ends behind its value
pub entry_parts : (key : KeyExpr) (size : Option ℕ) (align : ℕ) {o y : ℕ} → 0 < align → value_begin key align ≡ Some o → rounded (sum_of (value_begin key align) size) (max (key_align (key_of key)) align) ≡ Some y
    → (x : ℕ) × (size ≡ Some x) × (key_size (key_of key) ≤ o) × (o + x ≤ y)
entry_parts key size align {o} {y} lt begins whole =
    let (end, summed, less, is) = rounded_some (sum_of (value_begin key align) size) (max (key_align (key_of key)) align) y (omega (arith, lt)) whole in
    let (at, x, begun, sized, total) = sum_some (value_begin key align) size end summed in
    let (k, same, below, up) = rounded_some (Some (key_size (key_of key))) align o lt begins in
    let here : key_size (key_of key) ≡ k = cc in
    let there : at ≡ o = (let both : Some at ≡ Some o = sym begun ∙ begins in cc) in
    (x, sized, omega (arith, here, below), omega (arith, less, total, there))

-- the place of the value and the size that were read of the node
pub entry_node : {m : Checker} {key : KeyExpr} {j n p offset size : ℕ} {later : Bool} {begin whole : Option ℕ} {x : Node} → EntriesFit m key j n p later → x ≡ slice_index_or m.nodes.now j x
    → begin ≡ value_begin key (slice_index_or m.nodes.now j x).align → offset ≡ unwrap_or begin 0 → whole ≡ unit_size (EntriesOf key) (slice_index_or m.nodes.now j x) → size ≡ unwrap_or whole 0 → EntryTakes m key j offset size
entry_node {m = m} {key = key} {j = j} {x = x} f is begun begins all takes =
    let at : IsAt m.nodes.now j x = record { below = f.takes.at.below; is = is } in
    let same = same_at at f.takes.at in
    let offset_is = ap (λ (q : Node). value_begin key q.align) same ∙ f.takes.offset_is in
    let size_is = ap (λ q. unit_size (EntriesOf key) q) same ∙ f.takes.size_is in
    record {
      node = x;
      at = at;
      offset_is = offset_is ∙ ap Some (sym (begins ∙ ap (λ (o : Option ℕ). unwrap_or o 0) (begun ∙ ap (λ (q : Node). value_begin key q.align) (sym is) ∙ offset_is)));
      size_is = size_is ∙ ap Some (sym (takes ∙ ap (λ (o : Option ℕ). unwrap_or o 0) (all ∙ ap (λ q. unit_size (EntriesOf key) q) (sym is) ∙ size_is)));
    }

module _ {m : Checker} {key : KeyExpr} {j n p offset size : ℕ} {later : Bool} (f : EntriesFit m key j n p later) (takes : EntryTakes m key j offset size) where
  -- k entries and one more take no more than all
  room : (k : ℕ) → k < n → p + k * size + size ≤ length m.bytes.now
  room k lt =
      let all : (k + 1) * size ≤ n * size = mul-le-mul_right size (omega arith) in
      let more : (k + 1) * size ≡ k * size + size = omega arith in
      let whole : n * f.size ≡ n * size = ap (λ q. n * q) (entry_sizes f.takes takes) in
      omega (arith, f.fits)

  pub key_room : (k : ℕ) → k < n → p + k * size + key_size (key_of key) ≤ length m.bytes.now
  key_room k lt =
      let (x, sized, first, last) = entry_parts key takes.node.size takes.node.align takes.node.positive takes.offset_is takes.size_is in
      omega (arith, room k lt, first, last)

  pub value_fits : (k : ℕ) → k < n → PartFits m j (p + k * size + offset)
  value_fits k lt =
      let (x, sized, first, last) = entry_parts key takes.node.size takes.node.align takes.node.positive takes.offset_is takes.size_is in
      record { size = x; takes = record { node = takes.node; at = takes.at; size_is = sized }; fits = omega (arith, room k lt, last) }

  -- the first entry and the others
  pub next_room : 0 < n → p + size + (n - 1) * size ≤ length m.bytes.now
  next_room lt =
      let whole : n * f.size ≡ n * size = ap (λ q. n * q) (entry_sizes f.takes takes) in
      let split : n * size ≡ size + (n - 1) * size = (let one : n ≡ 1 + (n - 1) = omega arith in ap (λ q. q * size) one ∙ omega arith) in
      omega (arith, f.fits)

  -- the key of the entry before, if there is one, and the one here
  pub keys_fit : 0 < n → KeyFits m key (before_at later p size) p
  keys_fit lt =
      let (x, sized, first, last) = entry_parts key takes.node.size takes.node.align takes.node.positive takes.offset_is takes.size_is in
      let here : p + 0 * size + key_size (key_of key) ≤ length m.bytes.now = key_room 0 lt in
      record { first = before_fits later (omega (arith, first, last)) f.first; here = omega (arith, here) }
    where
      before_fits : (later : Bool) → key_size (key_of key) ≤ size → (IsTrue later → f.size ≤ p) → IfSome (before_at later p size) (λ q. q + key_size (key_of key) ≤ length m.bytes.now)
      before_fits false small before = tt
      before_fits true small before =
          let there = before refl in
          omega (arith, there, small, entry_sizes f.takes takes, f.fits)
