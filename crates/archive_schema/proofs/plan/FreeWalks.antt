-- What a node without anything to check stands for is walked whatever its bytes are.
use Rattle.std.proofs.Common.{◌≡◌, ℕ, zero, suc, refl, ap, ◌∙◌, subst, ◌+◌, ◌*◌, ◌<◌, ◌≤◌, arith, List, length, Option, Some, IsTrue}
use Rattle.std.specs.Int.{Width, w8, w16, w32, w64, w128, byte_len}
use Rattle.archive_schema.specs.declared.plan.NodeKind.TheVariants.{Free}
use Rattle.archive_schema.specs.declared.plan.Node.{Node}
use Rattle.archive_schema.specs.declared.plan.Part.{Part as PlanPart}
use Rattle.archive_schema.specs.declared.check.Checker.{Checker}
use Rattle.archive_check.specs.Shape.{Kind, unit, bool, char, number, non_zero, raw_rel, Shape, Parts}
use Rattle.archive_check.specs.Layout.{up, kind_size, size_of, align_of, parts_end}
use Rattle.archive_check.specs.Words.PlainData.{is_plain_kind}
use Rattle.archive_check.specs.Reads.{SchemaTable, LaidOut}
use Rattle.archive_check.specs.Tour.{Seen}
use Rattle.archive_check.specs.Walk.{Walk, walk_named, WalkParts, walk_no_part, walk_part, WalkRun, walk_none, walk_element}
use Rattle.archive_check.specs.Words.Elements.{IsAt}
use Rattle.archive_schema.specs.check.Runs.{IsNode}
use Rattle.archive_schema.specs.plan.Represents.{NodeStandsFor, stands, stands_named, PartsStand, parts_over, parts_more, Made, made_free}
use Rattle.archive_schema.specs.plan.Compiled.{MadeTo}
use Rattle.archive_check.proofs.Tours.PartsInside.{parts_end_le}
use Rattle.archive_check.proofs.Elements.{same_at}

few_bytes : (w : Width) → (1 ≤ byte_len w) × (byte_len w ≤ 16)
few_bytes w8 = (omega arith, omega arith)
few_bytes w16 = (omega arith, omega arith)
few_bytes w32 = (omega arith, omega arith)
few_bytes w64 = (omega arith, omega arith)
few_bytes w128 = (omega arith, omega arith)

pub kind_few : (k : Kind) → kind_size k < 18446744073709551616
kind_few unit = omega arith
kind_few bool = omega arith
kind_few char = omega arith
kind_few (number s w) = omega (arith, (few_bytes w).1)
kind_few (non_zero s w) = omega (arith, (few_bytes w).1)
kind_few (raw_rel s w) = omega (arith, (few_bytes w).1)

-- a leaf without a byte is any
pub empty_plain : (k : Kind) → kind_size k ≡ 0 → IsTrue (is_plain_kind k)
empty_plain unit h = refl
empty_plain bool h = absurd (omega arith)
empty_plain char h = absurd (omega arith)
empty_plain (number s w) h = refl
empty_plain (non_zero s w) h = absurd (omega (arith, (few_bytes w).0))
empty_plain (raw_rel s w) h = refl

-- any z bytes are walked as an X
abbrev pub AnyBytes : SchemaTable → Shape → ℕ → Type 0
AnyBytes s X z = (bytes pending : List ℕ) (depth : Option ℕ) (stop p start : ℕ) (seen : Seen) → p + z ≤ length bytes → Walk s bytes pending depth stop p X start seen start seen

free_walks : {s : SchemaTable} {shapes : ℕ → Shape} {m : Checker} {X : Shape} → Made s shapes m Free X → AnyBytes s X (size_of s.layouts X)
free_walks (made_free w) = w

module _ {s : SchemaTable} {shapes : ℕ → Shape} {m : Checker} {n : ℕ} (made : MadeTo s shapes m n) where
  pub any_stands : {X : Shape} {j : ℕ} → NodeStandsFor s shapes X j → j < n → (node : Node) (z : ℕ) → IsAt m.nodes.now j node → node.kind ≡ Free → node.size ≡ Some z → AnyBytes s X z
  any_stands {j = j} (stands e) lt node z at free size =
      let q = made.made j node z lt at size in
      subst (λ Y. AnyBytes s Y z) e (subst (λ y. AnyBytes s (shapes j) y) q.0 (free_walks (subst (λ w. Made s shapes m w (shapes j)) free q.1)))
  any_stands (stands_named d st) lt node z at free size =
      let inner = any_stands st lt node z at free size in
      λ bytes pending depth stop p start seen le. walk_named d (inner bytes pending depth stop p start seen le)

  pub any_parts : LaidOut s → {a b at : ℕ} {ps : Parts} → PartsStand s shapes m a b at ps
      → ((k : ℕ) (x : PlanPart) → a ≤ k → k < b → IsAt m.parts.now k x → IsNode m x.node Free × (x.node < n))
      → (bytes pending : List ℕ) (depth : Option ℕ) (stop p start : ℕ) (seen : Seen) → p + parts_end s.layouts at ps ≤ length bytes → WalkParts s bytes pending depth stop p at ps start seen start seen
  any_parts laid (parts_over h) free bytes pending depth stop p start seen le = walk_no_part
  any_parts laid (parts_more {a = a} {at = at} {x = x} {X = X} {ps = ps} lt here off st takes rest) free bytes pending depth stop p start seen le =
      let f = free a x (omega arith) lt here in
      let size = ap (λ (w : Node). w.size) (same_at f.0.at takes.at) ∙ takes.size_is in
      let within : p + up at (align_of s.layouts X) + size_of s.layouts X ≤ length bytes = omega (arith, parts_end_le s laid ps (up at (align_of s.layouts X) + size_of s.layouts X)) in
      walk_part (any_stands st f.1 f.0.node (size_of s.layouts X) f.0.at f.0.kind_is size bytes pending depth stop (p + up at (align_of s.layouts X)) start seen within)
      (any_parts laid rest (λ k y from to h. free k y (omega arith) to h) bytes pending depth stop p start seen le)

pub any_run : {s : SchemaTable} {X : Shape} → AnyBytes s X (size_of s.layouts X) → (n : ℕ) (bytes pending : List ℕ) (depth : Option ℕ) (stop p start : ℕ) (seen : Seen)
    → p + n * size_of s.layouts X ≤ length bytes → WalkRun s bytes pending depth stop p n X start seen start seen
any_run w zero bytes pending depth stop p start seen le = walk_none
any_run {s} {X} w (suc n) bytes pending depth stop p start seen le =
    walk_element (w bytes pending depth stop p start seen (omega arith)) (any_run w n bytes pending depth stop (p + size_of s.layouts X) start seen (omega arith))
