-- The laws of the layout of relative pointers, whose offsets have at most 64 bits.
use Rattle.std.proofs.Common.{Bool, true, false, refl, inl, inr}
use Rattle.std.specs.Int.{Width, w8, w16, w32, w64, w128}
use Rattle.archive_check.specs.Shape.{Sign, parts}
use Rattle.archive_check.specs.Definitions.{no_definition, HasLayout, IsAlign}
use Rattle.archive_num.specs.OffsetWidths.{IsOffsetWidth, not_128}
use Rattle.archive_types.specs.RelativePointers.{rel_parts, rel_layout}

-- A power of two.
pub rel_align : (width : Width) → IsOffsetWidth width → (has : Bool) → IsAlign (rel_layout width has).align
rel_align w8 h false = inl refl
rel_align w16 h false = inr (inl refl)
rel_align w32 h false = inr (inr (inl refl))
rel_align w64 h false = inr (inr (inr (inl refl)))
rel_align w8 h true = inr (inr (inl refl))
rel_align w16 h true = inr (inr (inl refl))
rel_align w32 h true = inr (inr (inl refl))
rel_align w64 h true = inr (inr (inr (inl refl)))
rel_align w128 h has = not_128 h

-- In every schema.
pub rel_has_layout : (sign : Sign) (width : Width) → IsOffsetWidth width → (has : Bool) → HasLayout no_definition (parts (rel_parts sign width has)) (rel_layout width has)
rel_has_layout sign w8 h false = record { solved = λ s k. refl }
rel_has_layout sign w16 h false = record { solved = λ s k. refl }
rel_has_layout sign w32 h false = record { solved = λ s k. refl }
rel_has_layout sign w64 h false = record { solved = λ s k. refl }
rel_has_layout sign w8 h true = record { solved = λ s k. refl }
rel_has_layout sign w16 h true = record { solved = λ s k. refl }
rel_has_layout sign w32 h true = record { solved = λ s k. refl }
rel_has_layout sign w64 h true = record { solved = λ s k. refl }
rel_has_layout sign w128 h has = not_128 h
