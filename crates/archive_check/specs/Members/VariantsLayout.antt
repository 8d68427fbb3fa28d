-- The variants of a choice, as a type names them: where each part of each lies, and what they take together, in each schema that knows their definitions.
use Rattle.std.proofs.Common.{◌≡◌, ℕ, zero, suc, max, Option, None, refl, arith}
use Rattle.archive_check.specs.Shape.{Name, Shape, choice, named, parts, Parts, Variants, no_variant, variant}
use Rattle.archive_check.specs.Layout.{Layouts, variants_align, variants_end}
use Rattle.archive_check.specs.Reads.{SchemaTable}
use Rattle.archive_check.specs.Defined.{holds_parts, holds_choice, holds_variant, holds_other, Mentions, mentions_held, mentions_parts, mentions_choice, mentions_variant, mentions_other}
use Rattle.archive_check.specs.Definitions.{Definitions, no_definition, defines, both, Knows, NoOthers}
use Rattle.archive_check.specs.Members.NoOthers.{around_reached, both_reached}
use Rattle.archive_check.specs.Members.PartsLayout.{part_at, offset_of_part, definitions_at, knows_none, knows_at, knows_left, knows_right, PartsLaidOut, StandsFor, by_name}

-- The part with this index of the variant with this tag.
abbrev pub payload_at : Variants → ℕ → ℕ → Option Shape
payload_at no_variant tag i = None
payload_at (variant ps vs) zero i = part_at ps i
payload_at (variant ps vs) (suc tag) i = payload_at vs tag i

-- And the definitions that it brings, of those of the variants.
abbrev pub payload_definitions : Definitions → ℕ → ℕ → Definitions
payload_definitions (both D E) zero i = definitions_at D i
payload_definitions (both D E) (suc tag) i = payload_definitions E tag i
payload_definitions _ tag i = no_definition

-- Variants, and others behind them.
abbrev pub joined_variants : Variants → Variants → Variants
joined_variants no_variant ws = ws
joined_variants (variant ps vs) ws = variant ps (joined_variants vs ws)

-- Where the part with this index begins, in the variant with this tag.
abbrev pub payload_offset : Layouts → Variants → ℕ → ℕ → ℕ
payload_offset names no_variant tag i = 1
payload_offset names (variant ps vs) zero i = offset_of_part names 1 ps i
payload_offset names (variant ps vs) (suc tag) i = payload_offset names vs tag i

-- The offsets in the first variant, or in one of those that come later.
abbrev pub first_variant_or : (ℕ → ℕ) → (ℕ → ℕ → ℕ) → ℕ → ℕ → ℕ
first_variant_or first later zero = first
first_variant_or first later (suc tag) = later tag

-- Of variants behind a tag: their greatest alignment, their greatest end, and where each part of each begins.
pub record VariantsLaidOut (D : Definitions) (vs : Variants) (align end : ℕ) (begin : ℕ → ℕ → ℕ) : Type 0 where
  pub aligned : (s : SchemaTable) → Knows s D → variants_align s.layouts vs ≡ align
  pub ends : (s : SchemaTable) → Knows s D → variants_end s.layouts vs ≡ end
  pub offsets : (s : SchemaTable) → Knows s D → (tag i : ℕ) → payload_offset s.layouts vs tag i ≡ begin tag i

-- an X with the definitions D is a choice of this name with these variants, whose definitions E are known where its own are.
pub record IsChoice (D : Definitions) (X : Shape) (name : Name) (E : Definitions) (vs : Variants) : Type 0 where
  pub stands : (s : SchemaTable) → Knows s D → StandsFor s (choice name vs) X
  pub known : (s : SchemaTable) → Knows s D → Knows s E

-- Under a name whose definition is the only one that is brought, as where the choice contains itself.
pub is_recursive_choice : (name : Name) (E : Definitions) (vs : Variants) → ((s : SchemaTable) → Knows s (defines name (choice name vs)) → Knows s E)
    → IsChoice (defines name (choice name vs)) (named name) name E vs
is_recursive_choice name E vs known = record { stands = λ s k. by_name k.has; known = known }

-- Who knows those of all variants knows those of each part.
pub knows_payload : (s : SchemaTable) (D : Definitions) (tag i : ℕ) → Knows s D → Knows s (payload_definitions D tag i)
knows_payload s (both D E) zero i k = knows_at s D i (knows_left s D E k)
knows_payload s (both D E) (suc tag) i k = knows_payload s E tag i (knows_right s D E k)
knows_payload s no_definition tag i k = knows_none s k.laid_out
knows_payload s (defines n X) tag i k = knows_none s k.laid_out

pub no_variant_laid_out : VariantsLaidOut no_definition no_variant 1 1 (λ tag i. 1)
no_variant_laid_out = record { aligned = λ s k. refl; ends = λ s k. refl; offsets = λ s k tag i. refl }

module _ (D E : Definitions) (ps : Parts) (a : ℕ) (end : ℕ → ℕ) (begin : ℕ → ℕ → ℕ) (first : PartsLaidOut D ps a end begin) (vs : Variants) (b last : ℕ) (later : ℕ → ℕ → ℕ) (others : VariantsLaidOut E vs b last later) where
  variant_offsets : (s : SchemaTable) → Knows s (both D E) → (tag i : ℕ) → payload_offset s.layouts (variant ps vs) tag i ≡ first_variant_or (begin 1) later tag i
  variant_offsets s k zero i = first.offsets s (knows_left s D E k) 1 i
  variant_offsets s k (suc tag) i = others.offsets s (knows_right s D E k) tag i

  -- One variant, and others behind it.
  pub variant_laid_out : VariantsLaidOut (both D E) (variant ps vs) (max a b) (max (end 1) last) (first_variant_or (begin 1) later)
  variant_laid_out = record {
    aligned = λ s k. rw (first.aligned s (knows_left s D E k), others.aligned s (knows_right s D E k)) refl;
    ends = λ s k. rw (first.ends s (knows_left s D E k) 1, others.ends s (knows_right s D E k)) refl;
    offsets = variant_offsets;
  }

-- No variant.
pub no_variants_reached : (name : Name) → NoOthers no_definition (choice name no_variant)
no_variants_reached name n Y c = absurd (omega (arith, c.1))

in_first : (name : Name) (ps : Parts) (vs : Variants) (n : Name) → Mentions n (parts ps) → Mentions n (choice name (variant ps vs))
in_first name ps vs n (mentions_parts m) = mentions_choice (mentions_variant m)
in_first name ps vs n (mentions_held (holds_parts h)) = mentions_held (holds_choice (holds_variant h))

in_others : (name : Name) (ps : Parts) (vs : Variants) (n : Name) → Mentions n (choice name vs) → Mentions n (choice name (variant ps vs))
in_others name ps vs n (mentions_choice m) = mentions_choice (mentions_other m)
in_others name ps vs n (mentions_held (holds_choice h)) = mentions_held (holds_choice (holds_other h))

-- One variant, and others behind it.
pub variant_reached : (D E : Definitions) (ps : Parts) (vs : Variants) → NoOthers D (parts ps) → ((name : Name) → NoOthers E (choice name vs)) → (name : Name) → NoOthers (both D E) (choice name (variant ps vs))
variant_reached D E ps vs h k name = both_reached D E (choice name (variant ps vs))
    (around_reached D (parts ps) (choice name (variant ps vs)) (in_first name ps vs) h)
    (around_reached E (choice name vs) (choice name (variant ps vs)) (in_others name ps vs) (k name))
