-- Leaves are copied: they own nothing, are small, and have their bytes wherever they stand.
use Rattle.std.proofs.Common.{◌≡◌, ℕ, ℤ, ◌≤◌, List, [], length, min, sym, ap, ◌∙◌, arith}
use Rattle.std.proofs.Math.Nat.{min-eq_left}
use Rattle.std.specs.Int.{Width, w8, w16, w32, w64, w128, byte_len}
use Rattle.archive_check.specs.Shape.{Sign, Kind, unit, bool, char, number as number_kind, non_zero, raw_rel, leaf, Shape}
use Rattle.archive_check.specs.Layout.{kind_size}
use Rattle.archive_check.specs.Definitions.{Definitions}
use Rattle.archive_check.specs.Value.{Value, number}
use Rattle.archive_types.specs.Writing.{Resolves}
use Rattle.archive_types.specs.Copies.{IsCopied, OwnsNothing}
use Rattle.archive_types.proofs.Planning.Planned.{serialized_leaf}

width_small : (w : Width) → byte_len w ≤ 1024
width_small w8 = omega arith
width_small w16 = omega arith
width_small w32 = omega arith
width_small w64 = omega arith
width_small w128 = omega arith

kind_small : (kind : Kind) → kind_size kind ≤ 1024
kind_small unit = omega arith
kind_small bool = omega arith
kind_small char = omega arith
kind_small (number_kind sign w) = width_small w
kind_small (non_zero sign w) = width_small w
kind_small (raw_rel sign w) = width_small w

-- so the size that a type tells of itself is not cut off, and small
pub leaf_sized : (kind : Kind) (size n : ℕ) → size ≡ kind_size kind → n ≡ min size 18446744073709551615 → n ≡ size
leaf_sized kind size n e told = told ∙ min-eq_left (omega (arith, e, kind_small kind))

pub leaf_small : (kind : Kind) (size n : ℕ) → size ≡ kind_size kind → n ≡ min size 18446744073709551615 → n ≤ 1024
leaf_small kind size n e told = omega (arith, leaf_sized kind size n e told, e, kind_small kind)

-- a number that isn't 0 has as many bytes as one that may be
pub non_zero_size : (kind : Kind) (sign : Sign) (w : Width) (n : ℕ) → kind ≡ number_kind sign w → kind_size kind ≡ n → kind_size (non_zero sign w) ≡ n
non_zero_size kind sign w n e sized = ap kind_size (sym e) ∙ sized

pub leaf_owns_nothing : (D : Definitions) (X : Shape) (kind : Kind) (z : ℤ) → X ≡ leaf kind → OwnsNothing D X [] (number z)
leaf_owns_nothing D X kind z same w = serialized_leaf D X kind z w same

pub leaf_copied : (D : Definitions) (X : Shape) (kind : Kind) (size : ℕ) (v : Value) (a bytes : List ℕ) → X ≡ leaf kind → a ≡ bytes → length bytes ≡ size
    → ((E : Definitions) (p : ℕ) → Resolves E p a (leaf kind) v) → IsCopied D X size v bytes
leaf_copied D X kind size v a bytes same e sized h = record { sized = sized; resolved = λ p. rw (same, ← e) (h D p) }
