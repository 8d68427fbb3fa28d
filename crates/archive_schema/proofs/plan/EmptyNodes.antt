-- What takes no byte: nodes, texts and keys.
use Rattle.std.proofs.Common.{◌≡◌, ◌⊎◌, inl, inr, ℕ, refl, ◌≤◌, arith, List, length, length-take-le, drop, Option, Some, IsUtf8}
use Rattle.std.proofs.lemmas.Str.{IsUtf8-nil}
use Rattle.archive_check.specs.declared.format.expr.Kind.{Kind as KindExpr}
use Rattle.archive_schema.specs.declared.plan.PointeeKind.{PointeeKind}
use Rattle.archive_schema.specs.declared.plan.PointeeKind.TheVariants.{One, Run, Text, Entries as EntriesOf}
use Rattle.archive_schema.specs.declared.plan.NodeKind.{NodeKind}
use Rattle.archive_schema.specs.declared.plan.NodeKind.TheVariants.{Free, Leaf, Record, Choice, Array, Pointer as PointerNode, Str, Shared, Weak}
use Rattle.archive_schema.specs.declared.check.Checker.{Checker}
use Rattle.archive_check.specs.Shape.{Kind, unit, bool, char, number, non_zero, raw_rel, Key, leaf_key, str_key, key_shape}
use Rattle.archive_check.specs.Layout.{kind_size, key_size}
use Rattle.archive_check.specs.Keys.{ComesBehind}
use Rattle.archive_check.specs.Reads.{SchemaTable, bytes_at, IsLegalNumber, kind_number, kind_value}
use Rattle.archive_check.specs.Tour.{Seen}
use Rattle.archive_check.specs.Walk.{Walk, walk_leaf}
use Rattle.archive_check.specs.Expressions.{kind_of}
use Rattle.archive_schema.specs.check.Runs.{pointer_bytes}
use Rattle.archive_schema.specs.plan.SoundPlans.{NodeKindFits}
use Rattle.archive_check.proofs.LittleEndian.{some_byte}

pub empty_number : (kind : Kind) (n : ℕ) → kind_size kind ≡ 0 → IsLegalNumber kind n
empty_number unit n e = tt
empty_number bool n e = absurd (omega arith)
empty_number char n e = absurd (omega arith)
empty_number (number sign width) n e = tt
empty_number (non_zero sign width) n e = absurd (omega (arith, e, some_byte width))
empty_number (raw_rel sign width) n e = tt

pub empty_length : (bytes : List ℕ) (p n : ℕ) → n ≡ 0 → length (bytes_at bytes p n) ≡ n
unfolding bytes_at
empty_length bytes p n e = length-take-le n (drop p bytes) (omega (arith, e))

-- what takes nothing and isn't free is such a leaf
abbrev pub Nothing : NodeKind → Type 0
Nothing kind = (kind ≡ Free) ⊎ ((leaf_kind : KindExpr) × (kind ≡ Leaf leaf_kind) × (kind_size (kind_of leaf_kind) ≡ 0))

empty_target : (target : PointeeKind) → pointer_bytes target ≤ 0 → ⊥
empty_target One h = omega arith
empty_target Run h = omega arith
empty_target Text h = omega arith
empty_target (EntriesOf key) h = omega arith

pub empty_kind : (m : Checker) (i : ℕ) (kind : NodeKind) → NodeKindFits m i 0 kind → Nothing kind
empty_kind m i Free h = inl refl
empty_kind m i (Leaf kind) h = inr (kind, refl, omega (arith, h))
empty_kind m i (Record a b) h = absurd (omega (arith, h.0))
empty_kind m i (Choice name a b) h = absurd (omega (arith, h.tag))
empty_kind m i (Array n j) h = absurd (omega (arith, h.0))
empty_kind m i (PointerNode target j) h = absurd (empty_target target h.0)
empty_kind m i (Str j) h = absurd (omega (arith, h.0))
empty_kind m i (Shared k target j) h = absurd (empty_target target h.0)
empty_kind m i (Weak k target j) h = absurd (empty_target target h.0)

pub empty_text : (bytes : List ℕ) (t n : ℕ) → n ≡ 0 → IsUtf8 (bytes_at bytes t n)
unfolding bytes_at
empty_text bytes t n e = rw e IsUtf8-nil

-- a key that takes nothing is a unit, and comes behind no other
pub empty_key : (s : SchemaTable) (bytes : List ℕ) {pending : List ℕ} {depth : Option ℕ} {stop p start : ℕ} {seen : Seen} (K : Key) → key_size K ≡ 0 → Walk s bytes pending depth stop p (key_shape K) start seen start seen
empty_key s bytes {p = p} (leaf_key kind) none = walk_leaf (record { size = empty_length bytes p (kind_size kind) none; number = empty_number kind (kind_number kind (bytes_at bytes p (kind_size kind))) none })
empty_key s bytes str_key none = absurd (omega arith)

pub empty_order : (bytes : List ℕ) (p q : ℕ) (K : Key) → key_size K ≡ 0 → ComesBehind K bytes (Some p) q → ⊥
unfolding kind_value
empty_order bytes p q (leaf_key unit) none less = cc
empty_order bytes p q (leaf_key bool) none less = omega arith
empty_order bytes p q (leaf_key char) none less = omega arith
empty_order bytes p q (leaf_key (number sign width)) none less = omega (arith, none, some_byte width)
empty_order bytes p q (leaf_key (non_zero sign width)) none less = omega (arith, none, some_byte width)
empty_order bytes p q (leaf_key (raw_rel sign width)) none less = omega (arith, none, some_byte width)
empty_order bytes p q str_key none less = omega arith
