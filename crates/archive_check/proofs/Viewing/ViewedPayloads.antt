-- The parts of the variant that a tag names lie where the choice's type says, and are views as it is.
use Rattle.std.proofs.Common.{◌≡◌, ℕ, zero, suc, ◌+◌, ◌<◌, ◌≤◌, List, length, slice_index, Some, is_some, true, refl, subst, arith}
use Rattle.std.proofs.Math.Logic.{∥∥₁_map, ∥∥₁_elim}
use Rattle.std.specs.Coded.{le_prop}
use Rattle.archive_check.specs.Shape.{Name, Shape, choice, Pointee, one, Parts, part, no_part, Variants, no_variant, variant, variant_at}
use Rattle.archive_check.specs.Layout.{up, size_of, align_of}
use Rattle.archive_check.specs.Reads.{SchemaTable}
use Rattle.archive_check.specs.Within.{Within, whole, in_choice, in_named, IsPart, first_part, later_part}
use Rattle.archive_check.specs.Definitions.{Definitions, Knows}
use Rattle.archive_check.specs.Members.PartsLayout.{part_at, offset_of_part, StandsFor, for_itself, by_name}
use Rattle.archive_check.specs.Members.VariantsLayout.{payload_at, payload_definitions, payload_offset, knows_payload, VariantsLaidOut, IsChoice}
use Rattle.archive_check.specs.Viewed.{Lies, Viewed}
use Rattle.archive_check.proofs.Meanings.ReachedParts.{within_reached}
use Rattle.archive_check.proofs.Viewing.Viewed.{lies_reached, reached_lies, lies_fits}
use Rattle.archive_check.proofs.Viewing.ViewedVariants.{tag_fits, tag_known}

-- a payload is a part of a variant
pub record IsPayload (vs : Variants) (tag i : ℕ) (Y : Shape) : Type 0 where
  pub its_parts : Parts
  pub variant : variant_at vs tag ≡ Some its_parts
  pub part : part_at its_parts i ≡ Some Y

pub is_payload : (vs : Variants) (tag i : ℕ) (Y : Shape) → payload_at vs tag i ≡ Some Y → IsPayload vs tag i Y
is_payload no_variant tag i Y e = cc
is_payload (variant ps vs) zero i Y e = record { its_parts = ps; variant = refl; part = e }
is_payload (variant ps vs) (suc tag) i Y e = let h = is_payload vs tag i Y e in record { its_parts = h.its_parts; variant = h.variant; part = h.part }

pub offset_is : (s : SchemaTable) (vs : Variants) (tag i : ℕ) (ps : Parts) → variant_at vs tag ≡ Some ps → payload_offset s.layouts vs tag i ≡ offset_of_part s.layouts 1 ps i
offset_is s no_variant tag i ps e = cc
offset_is s (variant qs vs) zero i ps e = let same : qs ≡ ps = cc e in subst (λ rs. offset_of_part s.layouts 1 qs i ≡ offset_of_part s.layouts 1 rs i) same refl
offset_is s (variant qs vs) (suc tag) i ps e = offset_is s vs tag i ps e

-- the part with an index stands at its offset
pub part_stands : (s : SchemaTable) (p at : ℕ) (ps : Parts) (i : ℕ) (Y : Shape) → part_at ps i ≡ Some Y → IsPart s p at ps (p + offset_of_part s.layouts at ps i) Y
part_stands s p at no_part i Y e = cc
part_stands s p at (part X ps) zero Y e =
    let same : X ≡ Y = cc e in
    let first : IsPart s p at (part X ps) (p + up at (align_of s.layouts X)) X = first_part in
    subst (λ Z. IsPart s p at (part X ps) (p + up at (align_of s.layouts X)) Z) same first
part_stands s p at (part X ps) (suc i) Y e = later_part (part_stands s p (up at (align_of s.layouts X) + size_of s.layouts X) ps i Y e)

-- what stands for a choice is it
pub choice_within : {s : SchemaTable} {bytes : List ℕ} {q : ℕ} {X : Shape} {name : Name} {vs : Variants} → StandsFor s (choice name vs) X → Within s bytes q X q (choice name vs)
choice_within for_itself = whole
choice_within (by_name d) = in_named whole d

module _ (D : Definitions) (X : Shape) (name : Name) (E : Definitions) (vs : Variants) (is : IsChoice D X name E vs) (bytes : List ℕ) (q n : ℕ) (P : Pointee) (one_is : P ≡ one X) where
  choice_lies : (s : SchemaTable) → Knows s D → Lies s bytes q P n → Lies s bytes q (one (choice name vs)) 0
  choice_lies s k l =
      let (w, r) = lies_reached s bytes (rw one_is at l) in
      reached_lies s bytes (within_reached s bytes r (choice_within (is.stands s k))).1

  pub choice_viewed : Viewed D bytes q P n → Viewed D bytes q (one (choice name vs)) 0
  choice_viewed v = ∥∥₁_map v (λ (s, k, l). (s, k, choice_lies s k l))

  -- its tag lies in the buffer, and names a variant
  pub choice_tag_fits : Viewed D bytes q P n → q < length bytes
  choice_tag_fits v = tag_fits D bytes q 0 name vs (choice_viewed v)

  pub choice_tag_known : Viewed D bytes q P n → is_some (variant_at vs (slice_index bytes q)) ≡ true
  choice_tag_known v = tag_known D bytes q 0 name vs (choice_viewed v)

  module _ (a end : ℕ) (begin : ℕ → ℕ → ℕ) (laid : VariantsLaidOut E vs a end begin) (i : ℕ) (Y : Shape) (at : payload_at vs (slice_index bytes q) i ≡ Some Y) where
    pub payload_lies : (s : SchemaTable) → Knows s D → Lies s bytes q P n → Lies s bytes (q + begin (slice_index bytes q) i) (one Y) 0
    payload_lies s k l =
        let (w, r) = lies_reached s bytes (rw one_is at l) in
        let h = is_payload vs (slice_index bytes q) i Y at in
        let here : payload_offset s.layouts vs (slice_index bytes q) i ≡ begin (slice_index bytes q) i = laid.offsets s (is.known s k) (slice_index bytes q) i in
        let there = offset_is s vs (slice_index bytes q) i h.its_parts h.variant in
        let part : IsPart s q 1 h.its_parts (q + begin (slice_index bytes q) i) Y = rw (← here, there) (part_stands s q 1 h.its_parts i Y h.part) in
        reached_lies s bytes (within_reached s bytes r (in_choice (choice_within (is.stands s k)) h.variant part)).1

    -- the part with an index of the variant that the tag names
    pub payload_viewed : (F : Definitions) → payload_definitions E (slice_index bytes q) i ≡ F → Viewed D bytes q P n → Viewed F bytes (q + begin (slice_index bytes q) i) (one Y) 0
    payload_viewed F of v = ∥∥₁_map v (λ (s, k, l). (s, rw of at (knows_payload s E (slice_index bytes q) i (is.known s k)), payload_lies s k l))

    -- it lies in the buffer
    pub payload_within : Viewed D bytes q P n → q + begin (slice_index bytes q) i ≤ length bytes
    payload_within v = ∥∥₁_elim v le_prop (λ (s, k, l). omega (arith, lies_fits s bytes k.laid_out (payload_lies s k l)))
