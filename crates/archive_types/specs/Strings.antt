-- A string: its bytes by where its text stands, and what is read in its place.
use Rattle.std.specs.Prelude.{ℕ, List, length, nat_lt, if◌then◌else◌}
use Rattle.archive_check.specs.Shape.{text}
use Rattle.archive_check.specs.Value.{Pointer, Value, text_value, hole}
use Rattle.archive_num.specs.Offsets.{distance}
use Rattle.archive_num.specs.StringBytes.{inline_bytes, out_of_line_bytes}
use Rattle.archive_types.specs.Writing.{to_pointee}

-- Of the string at p of a text, which stands at t if it isn't inline.
abbrev pub string_form : List ℕ → ℕ → ℕ → List ℕ
string_form bytes p t = if nat_lt 8 (length bytes) then out_of_line_bytes (length bytes) (distance p t) else inline_bytes bytes

-- The pointer to a text of n bytes.
abbrev pub to_text : ℕ → ℕ → Pointer
to_text t n = to_pointee t text n

-- What is read in a string's place: its text, or a hole for one that stands at t.
abbrev pub string_flat : List ℕ → ℕ → Value
string_flat bytes t = if nat_lt 8 (length bytes) then hole (to_text t (length bytes)) else text_value bytes
