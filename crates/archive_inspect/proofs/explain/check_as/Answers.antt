use Rattle.std.proofs.Common.{arith, sym}
use Rattle.archive_schema.specs.Schemas.{IsSchemaOf}
use Rattle.archive_schema.proofs.Archives.{answers_type}
use Rattle.archive_inspect.proofs.explain.check_as.Goals as goal

pub returns : goal.returns
returns g c =
    let made : IsSchemaOf c.schema.result.now g.T.Portable.shape g.T.ArchivePointee.definitions = rw c.schema.ensures c.requires in
    let answer = c.check.ensures.answer c.new-context.ensures.whole in
    let here = rw c.new-context.ensures.unlimited at answer in
    rw (sym c.root_position-root.ensures) (answers_type c.schema.result.now g.T.Portable.shape g.T.ArchivePointee.definitions made c.args.bytes.now _ c.root_position-root.result g.met.T.Portable.no_others (omega arith) c.check.result here)
