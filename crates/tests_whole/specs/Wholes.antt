-- Whole archives of numbers and of texts.
use Rattle.std.specs.Prelude.{ℕ, List, [], length, ◌-◌, pos}
use Rattle.std.specs.Int.{w32}
use Rattle.archive_core.specs.Archives.{IsValueOf}
use Rattle.archive_core.specs.Definitions.{no_definition}
use Rattle.archive_core.specs.Shape.{leaf, number as number_kind, unsigned, str}
use Rattle.archive_core.specs.Value.{number, text_value}
use Rattle.archive_core.specs.Writing.{Archives}

-- the number of 4 bytes at the end is n
abbrev pub DenotesNumber : List ℕ → ℕ → Type 0
DenotesNumber bytes n = IsValueOf no_definition bytes (length bytes - 4) (leaf (number_kind unsigned w32)) (number (pos n)) []

-- the bytes are an archive of the text
abbrev pub ArchivesText : List ℕ → List ℕ → Type 0
ArchivesText text bytes = (root : ℕ) × Archives no_definition [] bytes root str 8 [] (text_value text)

-- behind these bytes stands an archive of the text, its root here
abbrev pub ArchivesTextAt : List ℕ → List ℕ → List ℕ → ℕ → Type 0
ArchivesTextAt text before bytes root = Archives no_definition before bytes root str 8 [] (text_value text)
