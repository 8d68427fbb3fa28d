use Rattle.std.proofs.Common.{rules, refl, inr}
use Rattle.archive_check.specs.Shape.{array, one}
use Rattle.archive_types.proofs.Viewing.ArraysShown.{array_element_viewed}
use Rattle.archive_types.proofs.Planning.Causes.{err_by}
use Rattle.archive_types.proofs.Reading.ReadElements.{array_read}
use Rattle.archive_types.proofs.array.reading.ArrayDeserializeOwnedArray.deserialize_part.Goals as goal

pub read_each-requires : goal.read_each-requires
read_each-requires g c = λ k below.
    array_element_viewed g.T.ArchivePointee.definitions c.args.part.bytes.now c.args.part.pos c.args.part.len g.row.N g.T.Portable.shape g.T.Portable.layout g.met.T.Portable.has_layout k below
    g.T.ArchivePointee.pointee g.met.T.Portable.is_one c.requires

pub returns-in_err-items : goal.returns-in_err-items
returns-in_err-items g c = record {
  read = search rules;
  refused = err_by c.from_residual.result c.in_err-items.field-0.0 _ c.from_residual.ensures.1
      (c.in_err-items.ensures.refused (one (array g.row.N g.T.Portable.shape)) c.args.part.len (inr refl));
}

pub returns : goal.returns
returns g c = record {
  read =
      let X = g.T.Portable.shape in
      array_read g.T.ArchivePointee.definitions c.args.part.bytes.now c.args.part.pos (one (array g.row.N X)) c.args.part.len g.row.N g.U.Archive.meaning g.U.Archive.keys
      (g.D.Entries.entry_of c.args.deserializer.now) (g.D.Entries.entry_of c.read_each.new.deserializer) c.in_ok-items.items.items c.in_ok-items.ensures.whole
      (c.in_ok-items.ensures.read (one (array g.row.N X)) c.args.part.len (inr refl));
  refused = search rules;
}
