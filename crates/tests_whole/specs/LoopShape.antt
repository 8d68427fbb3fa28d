-- What a value that is a shared value of its own type looks like, where a pointer may lead into its own value.
use Rattle.std.specs.Prelude.{◌≡◌, ℕ, zero, suc, is_some, true, codes, refl}
use Rattle.archive_core.specs.Shape.{Name, Flavor, Shape, choice, named, one, shared, Variants, no_variant, variant, no_part, part, variant_at}
use Rattle.archive_core.specs.Layout.{Layout}
use Rattle.archive_core.specs.Definitions.{Definitions, no_definition, defines, both, Knows, HasLayout}
use Rattle.archive_core.specs.Reads.{SchemaTable}
use Rattle.archive_core.specs.NamedLayout.{name_has_layout}
use Rattle.archive_core.specs.SharedLaws.{flavor_as}

abbrev pub loop_name : Name
loop_name = codes "ArchivedLoop"

abbrev pub loop_shape : Shape
loop_shape = named loop_name

-- a flavor that allows cycles
abbrev pub loop_flavor : Flavor
loop_flavor = flavor_as (codes "Looping") true

-- a shared one of it
abbrev pub loop_pointer : Shape
loop_pointer = shared loop_flavor (one loop_shape)

abbrev pub loop_variants : Variants
loop_variants = variant (part loop_pointer no_part) no_variant

abbrev pub loop_choice : Shape
loop_choice = choice loop_name loop_variants

abbrev pub loop_definitions : Definitions
loop_definitions = defines loop_name loop_choice

abbrev pub loop_layout : Layout
loop_layout = record { size = 8; align = 4 }

pub loop_has_layout : HasLayout loop_definitions loop_shape loop_layout
loop_has_layout = name_has_layout loop_name loop_choice loop_layout (λ s k. refl)

-- the definitions that the variant brings
abbrev pub variants_definitions : Definitions
variants_definitions = both (both loop_definitions no_definition) no_definition

pub knows_variants : (s : SchemaTable) → Knows s loop_definitions → Knows s variants_definitions
knows_variants s k = record { has = ((k.has, tt), tt); finite = k.finite; laid_out = k.laid_out }

-- the only tag is 0
pub loop_tag : (tag : ℕ) → is_some (variant_at loop_variants tag) ≡ true → tag ≡ 0
loop_tag zero h = refl
loop_tag (suc tag) h = cc
