use Rattle.std.proofs.Common.{rules, ◌≡◌, length}
use Rattle.archive_types.proofs.Writing.ArrayRegions.{whole_array_if, no_whole_array}
use Rattle.archive_types.proofs.array.unsized_sources.OwnedArraySerializeUnsized.serialize_unsized.Goals as goal

pub returns : goal.returns
returns g c = record {
  serialized =
      let count : length c.args.self.now ≡ g.row.N = rw c.as_slice.ensures.elements at c.as_slice.ensures.whole in
      let h = rw c.as_slice.ensures.elements at c.serialize_in_turn.ensures.as_array.serialized in
      whole_array_if g.T.Archived.ArchivePointee.definitions g.T.Archived.Portable.shape g.row.N g.T.Archive.keys g.T.Archive.meaning c.args.self.now count _ _
      c.serialize_in_turn.result h;
  goes_on = search rules;
  refused =
      let count : length c.args.self.now ≡ g.row.N = rw c.as_slice.ensures.elements at c.as_slice.ensures.whole in
      let h = rw c.as_slice.ensures.elements at c.serialize_in_turn.ensures.as_array.refused in
      no_whole_array g.T.Archived.ArchivePointee.definitions g.T.Archived.Portable.shape g.row.N g.T.Archive.keys g.T.Archive.meaning c.args.self.now count _ _
      c.serialize_in_turn.result h;
}
