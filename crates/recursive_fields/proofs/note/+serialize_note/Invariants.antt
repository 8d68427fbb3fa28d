-- Written by tools/derive: change the declaration, and run it again.
use Rattle.archive_core.proofs.Runs.{Continues}
use Rattle.archive_core.specs.Options.{option_keys, option_meaning, option_flat, OptionBelongs}
use Rattle.archive_core.specs.Strings.{string_flat}
use Rattle.archive_core.specs.Value.{product, value, no_value, text_value}
use Rattle.recursive_fields.specs.NoteMeaning.{note_meaning, note_keys, note_flat, note_belongs}
use Rattle.recursive_fields.specs.NoteShape.{note_shape, note_definitions, tuple3_string_note_option_string_shape, tuple3_string_note_option_string_definitions}
use Rattle.std.proofs.Common.{◌≡◌, ◌≤◌, ◌++◌, [], length, drop, string_bytes}
use Rattle.std.specs.Prelude.{[], ◌++◌, ◌≡◌, ◌≤◌, length, string_bytes}
use Rattle.std.specs.Vec.{vec_len, vec_capacity}
use Rattle.recursive_fields.proofs.note.+serialize_note.Given as goal

abbrev pub invariant-serialize_each_tuple3_string_note_option_string-loop-value : goal.invariant-serialize_each_tuple3_string_note_option_string-loop-value
invariant-serialize_each_tuple3_string_note_option_string-loop-value g l = record { continues : Continues tuple3_string_note_option_string_definitions tuple3_string_note_option_string_shape (λ y. ([] ++ ((note_keys y.1) ++ ((option_keys (λ y. []) y.2) ++ [])))) (λ y. (product (value (text_value (string_bytes y.0)) (value (note_meaning y.1) (value (option_meaning (λ y. (text_value (string_bytes y))) y.2) no_value))))) (λ y r. (product (value (string_flat (string_bytes y.0) r.0) (value (note_flat y.1 r.1.0) (value (option_flat (λ y s. (string_flat (string_bytes y) s)) y.2 r.1.1.0) no_value))))) (λ y r. ((length (string_bytes y.0) ≤ 1073741823) × ((note_belongs y.1 r.1.0) × ((OptionBelongs (λ y s. (length (string_bytes y) ≤ 1073741823)) y.2 r.1.1.0) × Unit {0})))) (g.S.Keys.state l.initial.serializer) (g.S.Keys.state l.serializer) l.values (drop l.value-index l.values) l.resolvers.items; reserved : (vec_len l.resolvers ≡ l.value-index) × (length l.values ≤ vec_capacity l.resolvers) }

abbrev pub invariant-serialize_each_note-loop-value : goal.invariant-serialize_each_note-loop-value
invariant-serialize_each_note-loop-value g l = record { continues : Continues note_definitions note_shape note_keys note_meaning note_flat note_belongs (g.S.Keys.state l.initial.serializer) (g.S.Keys.state l.serializer) l.values (drop l.value-index l.values) l.resolvers.items; reserved : (vec_len l.resolvers ≡ l.value-index) × (length l.values ≤ vec_capacity l.resolvers) }
