use Rattle.std.proofs.Common.{◌≡◌, sym, ap, ◌∙◌}
use Rattle.archive_check.specs.Layout.{kind_size}
use Rattle.archive_check.specs.Reads.{bytes_at, with_sign}
use Rattle.archive_check.proofs.Editing.EditedBytes.{bytes_long}
use Rattle.std.specs.Int.{byte_len, from_le_bytes}
use Rattle.archive_num.specs.Offsets.{as_isize}
use Rattle.archive_types.proofs.Writing.Pointers.{number_read, as_isize_again}
use Rattle.archive_types.proofs.Viewing.Shown.{slice_is}
use Rattle.archive_types.proofs.rel_ptr.raw.read_offset.Goals as goal

pub returns : goal.returns
returns g c =
    let bytes = c.args.bytes.now in
    let pos = c.args.pos in
    let width = g.N.Integer.width in
    let count : c.byte_count.result ≡ byte_len width = c.byte_count.ensures ∙ sym g.met.N.Native.size_law ∙ ap kind_size g.met.N.Integer.integer_law in
    let slice = slice_is bytes pos c.byte_count.result ∙ ap (bytes_at bytes pos) count in
    let value = ap g.N.Native.value_of (c.read_from.ensures ∙ ap g.N.Native.number_of slice)
    ∙ number_read g.N.Native.value_of g.N.Native.number_of (bytes_at bytes pos (byte_len width)) g.N.Integer.sign width g.N.Native.kind g.met.N.Integer.integer_law
    (bytes_long bytes pos (byte_len width) c.requires) g.met.N.Native.value_law in
    let said = with_sign g.N.Integer.sign width (from_le_bytes width (bytes_at bytes pos (byte_len width))) in
    ap as_isize (c.to_distance.ensures ∙ ap as_isize value) ∙ as_isize_again said
