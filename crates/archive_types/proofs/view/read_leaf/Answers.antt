use Rattle.std.proofs.Common.{arith, ap, ◌∙◌}
use Rattle.archive_check.specs.Reads.{bytes_at}
use Rattle.archive_types.proofs.Viewing.Shown.{leaf_shown, leaf_slice, slice_is}
use Rattle.archive_types.proofs.view.read_leaf.Goals as goal

pub read_from-requires-clause-legal : goal.read_from-requires-clause-legal
read_from-requires-clause-legal g c = g.met.N.Native.kind_law _ (leaf_slice c.args.part.bytes.now c.args.part.pos c.args.part.len g.N.Native.byte_count c.byte_count.result g.N.Native.kind g.met.N.Native.size_law c.byte_count.ensures c.requires)

pub returns : goal.returns
returns g c = c.read_from.ensures ∙ ap g.N.Native.number_of (slice_is c.args.part.bytes.now c.args.part.pos c.byte_count.result ∙ ap (bytes_at c.args.part.bytes.now c.args.part.pos) c.byte_count.ensures)

pub overflow_add-pos : goal.overflow_add-pos
overflow_add-pos g c =
    let shown = leaf_shown c.args.part.bytes.now c.args.part.pos c.args.part.len g.N.Native.kind c.requires in
    let fits = shown.fits in
    let size = g.met.N.Native.size_law in
    let count = c.byte_count.ensures in
    let buffer = c.ranges.part.0 in
    omega arith

pub slice_bounds-read_from-end : goal.slice_bounds-read_from-end
slice_bounds-read_from-end g c =
    let shown = leaf_shown c.args.part.bytes.now c.args.part.pos c.args.part.len g.N.Native.kind c.requires in
    let fits = shown.fits in
    let size = g.met.N.Native.size_law in
    let count = c.byte_count.ensures in
    omega arith
