-- What is said of seals: of what they come to, of a seal of a part, and of a write over a leaf or a text.
use Rattle.std.specs.Prelude.{◌≡◌, ℕ, ℤ, List, slice_index}
use Rattle.archive_check.specs.Shape.{Kind, Pointee, one, str, text}
use Rattle.archive_check.specs.ComesTo.{IsComeTo}
use Rattle.archive_check.specs.Reads.{bytes_at}
use Rattle.archive_check.specs.Leaves.{PlacedLeaf, edit, number_leaf, text_leaf}
use Rattle.archive_check.specs.Definitions.{Definitions}
use Rattle.archive_check.specs.Revised.{WritesLeaf}
use Rattle.archive_types.specs.Sealed.{StandsIn, leaf_at, string_leaf, text_begin}
use Rattle.archive_types.specs.Standing.{view}
use Rattle.archive_core.specs.SealsKept.{IsFreeIn, KeepsParts, KeepsSeals, ComesWith}
use Rattle.archive_core.specs.declared.seal.Seal.{Seal}

-- The seal shows a P that seals reach from the root of an archive, so no key of a map.
abbrev pub IsSealOf : {T : Type 0} → Definitions → Pointee → Seal T → Type 0
IsSealOf D P v = IsComeTo D v.bytes.now v.pos P v.len

-- Wherever seals come to what the second one shows, a P, they come to what the first one does, a Q.
abbrev pub SealsBeside : {T U : Type 0} → Definitions → Pointee → Pointee → Seal U → Seal T → Type 0
SealsBeside D P Q u v = ComesWith D v.bytes.now (view v.pos P v.len) (view u.pos Q u.len)

-- Of a P that the first seal shows, the second one shows a part, a Q at this position and with this length, in the same bytes.
pub record SealsPart {T U : Type 0} (D : Definitions) (P : Pointee) (E : Definitions) (Q : Pointee) (p n : ℕ) (v : Seal T) (u : Seal U) : Type 0 where
  pub same_reference : u.bytes.ghost_name ≡ v.bytes.ghost_name
  pub buffer : u.bytes.now ≡ v.bytes.now
  pub position : u.pos ≡ p
  pub length : u.len ≡ n
  pub come_to : IsSealOf E Q u
  pub beside : SealsBeside D P Q u v

-- The leaf y was written over x, which lies in the P at q. In every archive with x, and not in a
-- key, x alone changes and the parts stay parts. If seals reach that P, x is in no key, and seals
-- reach all else as before.
pub record WritesOver (x y : PlacedLeaf) (q : ℕ) (P : Pointee) (n : ℕ) (old new : List ℕ) : Type 0 where
  pub stands : StandsIn old q P n x
  pub free : IsFreeIn old q P n x
  pub leaf : WritesLeaf x y old new
  pub parts : KeepsParts x old new
  pub seals : KeepsSeals old new (view q P n)

-- The number z was written over the one at q, in the P there.
abbrev pub WritesNumber : Kind → ℕ → Pointee → ℕ → ℤ → List ℕ → List ℕ → Type 0
WritesNumber kind q P n z old new = WritesOver (leaf_at kind old q) (number_leaf q kind z) q P n old new

-- The same of the text of n bytes at q, and of the text of the string at q.
abbrev pub WritesText : ℕ → ℕ → List ℕ → List ℕ → List ℕ → Type 0
WritesText q n value old new = WritesOver (text_leaf q (bytes_at old q n)) (text_leaf q value) q text n old new

abbrev pub WritesString : ℕ → ℕ → List ℕ → List ℕ → List ℕ → Type 0
WritesString q n value old new = WritesOver (string_leaf old q) (text_leaf (text_begin old q) value) q (one str) n old new

abbrev pub string_edit : List ℕ → ℕ → List ℕ → List ℕ
string_edit bytes p value = edit bytes (text_begin bytes p) value

-- The tag of a choice that a seal shows.
abbrev pub seal_tag : {T : Type 0} → Seal T → ℕ
seal_tag v = slice_index v.bytes.now v.pos
