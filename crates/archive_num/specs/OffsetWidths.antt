-- How wide an offset may be.
use Rattle.std.specs.Prelude.{IsTrue, nat_le}
use Rattle.std.specs.Int.{Width, w128, byte_len}
use Rattle.std.proofs.Common.{sym}
use mathlib.Core.Bool.{true≢false}

-- Eight bytes at most.
abbrev pub IsOffsetWidth : Width → Type 0
IsOffsetWidth width = IsTrue (nat_le (byte_len width) 8)

-- So it hasn't sixteen.
pub not_128 : {A : Type 0} → IsOffsetWidth w128 → A
not_128 h = absurd (true≢false (sym h))
