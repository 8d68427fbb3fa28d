-- Relative pointers that say what they lead to: an offset, and a length where what they lead to has one.
use Rattle.std.specs.Prelude.{◌+◌, ◌*◌, ℕ, ℤ, max, Bool, true, false, List, ◌++◌, take, drop, length}
use Rattle.std.specs.Int.{Width, w32, byte_len}
use Rattle.archive_check.specs.Shape.{Sign, unsigned, number, raw_rel, Shape, leaf, parts, Parts, no_part, part}
use Rattle.archive_check.specs.Layout.{Layout}
use Rattle.archive_check.specs.LittleEndian.{little_bytes}
use Rattle.archive_num.specs.Offsets.{offset_bytes}

-- Its parts, with a length or without.
abbrev pub rel_parts : Sign → Width → Bool → Parts
rel_parts sign width false = part (leaf (raw_rel sign width)) no_part
rel_parts sign width true = part (leaf (raw_rel sign width)) (part (leaf (number unsigned w32)) no_part)

-- Where the length stands.
abbrev pub length_begin : Width → ℕ
length_begin width = max (byte_len width) 4

abbrev pub rel_layout : Width → Bool → Layout
rel_layout width false = record { size = byte_len width; align = byte_len width }
rel_layout width true = record { size = 2 * length_begin width; align = length_begin width }

-- The bytes with others written over them from a position on.
abbrev pub written_at : ℕ → List ℕ → List ℕ → List ℕ
written_at at new old = take at old ++ new ++ drop (at + length new) old

-- The bytes with a pointer of this offset and length written over them.
abbrev pub rel_bytes : Width → Bool → ℤ → ℕ → List ℕ → List ℕ
rel_bytes width false z n old = offset_bytes width z ++ drop (byte_len width) old
rel_bytes width true z n old = written_at (length_begin width) (little_bytes 4 n) (offset_bytes width z ++ drop (byte_len width) old)
