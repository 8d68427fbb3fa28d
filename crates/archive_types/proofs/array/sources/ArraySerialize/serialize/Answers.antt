use Rattle.std.proofs.Common.{rules, ◌≡◌, length}
use Rattle.archive_types.proofs.Writing.Arrays.{array_refused, serialized_array}
use Rattle.archive_types.proofs.array.sources.ArraySerialize.serialize.Goals as goal

pub returns-in-Ok : goal.returns-in-Ok
returns-in-Ok g c = record {
  serialized =
      let count : length c.args.self.now ≡ g.row.N = c.type_inv.self in
      serialized_array g.T.Archived.ArchivePointee.definitions g.T.Archived.Portable.shape g.row.N g.T.Archive.keys g.T.Archive.meaning c.args.self.now count _ _ _ c.in-Ok.ensures.serialized;
  same_value = search rules;
  goes_on = search rules;
  refused = search rules;
}

pub returns-in-Err : goal.returns-in-Err
returns-in-Err g c = record {
  serialized = search rules;
  same_value = search rules;
  goes_on = search rules;
  refused =
      let count : length c.args.self.now ≡ g.row.N = c.type_inv.self in
      array_refused g.T.Archived.ArchivePointee.definitions g.T.Archived.Portable.shape g.row.N g.T.Archive.keys g.T.Archive.meaning c.args.self.now count _ _ _ c.in-Err.ensures.refused;
}
