-- How layouts of definitions are found: in rounds over the definitions.
use Rattle.std.proofs.Common.{ℕ, zero, suc, Option, Some, None}
use Rattle.archive_check.specs.Shape.{Shape, Table, definition}
use Rattle.archive_check.specs.Layout.{Layout, Layouts, layout}

abbrev pub layout_or : Layouts → Option Shape → Layout
layout_or names None = record { size = 0; align = 1 }
layout_or names (Some X) = layout names X

-- the layouts that so many rounds over the definitions come to
abbrev pub rounds : Table → ℕ → Layouts
rounds table zero name = record { size = 0; align = 1 }
rounds table (suc k) name = layout_or (rounds table k) (definition table name)
