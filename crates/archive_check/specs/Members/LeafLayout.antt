-- The layout of a leaf, and its laws.
use Rattle.std.proofs.Common.{◌≡◌, max, refl, inl, inr, arith}
use Rattle.std.specs.Int.{Width, w8, w16, w32, w64, w128, byte_len}
use Rattle.archive_check.specs.Shape.{Kind, unit, bool, char, number, non_zero, raw_rel, Shape, leaf}
use Rattle.archive_check.specs.Layout.{Layout, kind_size, kind_align}
use Rattle.archive_check.specs.Definitions.{no_definition, NoOthers, HasLayout, IsAlign}

abbrev pub leaf_layout : Kind → Layout
leaf_layout kind = record { size = kind_size kind; align = kind_align kind }

number_align : (width : Width) → IsAlign (byte_len width)
number_align w8 = inl refl
number_align w16 = inr (inl refl)
number_align w32 = inr (inr (inl refl))
number_align w64 = inr (inr (inr (inl refl)))
number_align w128 = inr (inr (inr (inr (inl refl))))

byte_len-positive : (width : Width) → max (byte_len width) 1 ≡ byte_len width
byte_len-positive w8 = refl
byte_len-positive w16 = refl
byte_len-positive w32 = refl
byte_len-positive w64 = refl
byte_len-positive w128 = refl

-- A power of two.
pub leaf_align : (kind : Kind) → IsAlign (kind_align kind)
leaf_align unit = inl refl
leaf_align bool = inl refl
leaf_align char = inr (inr (inl refl))
leaf_align (number sign width) = rw (byte_len-positive width) (number_align width)
leaf_align (non_zero sign width) = rw (byte_len-positive width) (number_align width)
leaf_align (raw_rel sign width) = rw (byte_len-positive width) (number_align width)

-- In every schema.
pub leaf_has_layout : (kind : Kind) → HasLayout no_definition (leaf kind) (leaf_layout kind)
leaf_has_layout kind = record { solved = λ s k. refl }

-- And no definition is brought that isn't reached.
pub no_definition_reached : (X : Shape) → NoOthers no_definition X
no_definition_reached X name Y c = absurd (omega (arith, c.1))
