use Rattle.archive_check.proofs.Elements.{at_default}
use Rattle.archive_schema.proofs.check.FollowedPointers.{numbered_at}
use Rattle.archive_schema.proofs.check.Checker.type_number.Goals as goal

pub returns : goal.returns
returns g c =
    numbered_at c.args.self.now (g.C.SharedContext.numbered c.args.context.now) c.args.shared_type c.type_number.result _
    (at_default c.args.self.now.shared_types.now c.args.shared_type c.index-self-shared_type.result c.requires) c.type_number.ensures.number
