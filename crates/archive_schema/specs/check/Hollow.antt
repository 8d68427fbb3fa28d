-- Records that end in a run of no elements, as a tree's leaves do.
use Rattle.std.specs.Prelude.{◌≡◌, ℕ, ◌+◌, ◌≤◌, IsTrue, false}
use Rattle.archive_check.specs.Reads.{u32_at}
use Rattle.archive_check.specs.Words.Elements.{IsAt}
use Rattle.archive_schema.specs.declared.plan.Node.{Node}
use Rattle.archive_schema.specs.declared.plan.NodeKind.TheVariants.{Record, Pointer as PointerNode}
use Rattle.archive_schema.specs.declared.plan.PointeeKind.TheVariants.{Run}
use Rattle.archive_schema.specs.declared.check.Checker.{Checker}
use Rattle.archive_schema.specs.declared.check.hollow.Hollow.{Hollow}
use Rattle.archive_schema.specs.check.Runs.{IsNode}
use Rattle.archive_schema.specs.plan.Shallow.{IsShallowSpan, IsFreeSpan}

-- The node j has this alignment.
pub record HasAlign (m : Checker) (j align : ℕ) : Type 0 where
  pub node : Node
  pub at : IsAt m.nodes.now j node
  pub align_is : node.align ≡ align

-- These are the parts of the node i: the last one is a pointer to a run, and the others may be any bytes, or are shallow.
pub record IsHollow (m : Checker) (i : ℕ) (x : Hollow) : Type 0 where
  pub record_is : IsNode m i (Record x.first (x.end + 1))
  pub order : x.first ≤ x.end
  pub part : IsAt m.parts.now x.end (record { offset = x.offset; node = x.node })
  pub pointer_is : IsNode m x.node (PointerNode Run x.pointee)
  pub align_is : HasAlign m x.pointee x.align
  pub shallow : x.is_free ≡ false → IsShallowSpan m.shallow.now m.parts.now x.first x.end
  pub free : IsTrue x.is_free → IsFreeSpan m.nodes.now m.parts.now x.first x.end

-- The pointer at p leads to no elements.
abbrev pub IsEmptyAt : Checker → ℕ → Type 0
IsEmptyAt m p = u32_at m.bytes.now (p + 4) ≡ 0
