use Rattle.archive_check.proofs.Archives.{archive_viewed}
use Rattle.archive_core.proofs.api.kept.Access.access_by_schema.Goals as goal

pub returns-in-Err-clause-answer : goal.returns-in-Err-clause-answer
returns-in-Err-clause-answer g c =
    let h = rw c.new-context.ensures.unlimited at (c.in-Err.ensures.answer c.new-context.ensures.whole) in
    record { accepted = tt; refused = h.refused; exact = h.exact }

pub returns-clause-answer : goal.returns-clause-answer
returns-clause-answer g c =
    let h = rw c.new-context.ensures.unlimited at (c.in_default.ensures.answer c.new-context.ensures.whole) in
    record { accepted = h.accepted; refused = tt; exact = tt }

pub at-requires : goal.at-requires
at-requires g c = rw g.met.T.Portable.is_one (archive_viewed _ _ _ _ _ (c.in_default.ensures.answer c.new-context.ensures.whole).accepted)
