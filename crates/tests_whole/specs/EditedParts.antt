-- What a write over a part of a record leaves.
use Rattle.std.specs.Prelude.{◌≡◌, ◌+◌, ℕ, List}
use Rattle.archive_core.specs.Archives.{root_in}
use Rattle.archive_core.specs.Layout.{Layout}
use Rattle.archive_core.specs.Leaves.{edit}

-- the new bytes are the old ones, with these in place of those that begin so far behind the root, which has this layout
abbrev pub PartEdited : List ℕ → List ℕ → Layout → ℕ → List ℕ → Type 0
PartEdited old new layout begin part = new ≡ edit old (root_in old layout + begin) part
