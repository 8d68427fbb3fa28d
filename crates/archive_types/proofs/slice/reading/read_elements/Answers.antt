use Rattle.std.proofs.Common.{refl, inl}
use Rattle.archive_check.specs.Shape.{run}
use Rattle.archive_types.proofs.Planning.Causes.{err_from}
use Rattle.archive_types.proofs.Viewing.PartsShown.{element_viewed}
use Rattle.archive_types.proofs.Reading.ReadElements.{ok_from}
use Rattle.archive_types.proofs.slice.reading.read_elements.Goals as goal

pub read_each-requires : goal.read_each-requires
read_each-requires g c = λ k below.
    element_viewed g.T.ArchivePointee.definitions c.args.part.bytes.now c.args.part.pos c.args.part.len g.T.Portable.shape g.T.Portable.layout g.met.T.Portable.has_layout k below
    g.T.ArchivePointee.pointee g.met.T.Portable.is_one c.requires

pub returns-clause-read : goal.returns-clause-read
returns-clause-read g c = ok_from c.read_each.result c.read_each.ensures.read (λ v h. h (run g.T.Portable.shape) c.args.part.len (inl (refl, refl)))

pub returns-clause-refused : goal.returns-clause-refused
returns-clause-refused g c = err_from c.read_each.result c.read_each.ensures.refused (λ e h. h (run g.T.Portable.shape) c.args.part.len (inl (refl, refl)))
