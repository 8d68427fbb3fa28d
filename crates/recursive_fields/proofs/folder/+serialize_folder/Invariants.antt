-- Written by tools/derive: change the declaration, and run it again.
use Rattle.archive_core.proofs.Runs.{Continues}
use Rattle.archive_core.specs.Strings.{string_flat}
use Rattle.archive_core.specs.Value.{product, value, no_value, text_value}
use Rattle.recursive_fields.specs.FolderMeaning.{folder_meaning, folder_keys, folder_flat, folder_belongs}
use Rattle.recursive_fields.specs.FolderShape.{pair_string_folder_shape, pair_string_folder_definitions}
use Rattle.std.proofs.Common.{◌≤◌, ◌++◌, [], length, string_bytes}
use Rattle.std.specs.Prelude.{[], ◌++◌, ◌≤◌, length, string_bytes}
use Rattle.recursive_fields.proofs.folder.+serialize_folder.Given as goal

abbrev pub invariant-serialize_entries_map_string_folder-loop-key : goal.invariant-serialize_entries_map_string_folder-loop-key
invariant-serialize_entries_map_string_folder-loop-key g l = record { continues : Continues pair_string_folder_definitions pair_string_folder_shape (λ y. ([] ++ ((folder_keys y.1) ++ []))) (λ y. (product (value (text_value (string_bytes y.0)) (value (folder_meaning y.1) no_value)))) (λ y r. (product (value (string_flat (string_bytes y.0) r.0) (value (folder_flat y.1 r.1.0) no_value)))) (λ y r. ((length (string_bytes y.0) ≤ 1073741823) × ((folder_belongs y.1 r.1.0) × Unit {0}))) (g.S.Keys.state l.initial.serializer) (g.S.Keys.state l.serializer) l.values.entries l.key-iterator l.resolvers.items }
