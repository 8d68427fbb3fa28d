use Rattle.std.proofs.Common.{sym}
use Rattle.archive_check.specs.Expressions.{shape_of}
use Rattle.archive_schema.proofs.Given.{missing_here}
use Rattle.archive_schema.proofs.shape.Schema.defines.Goals as goal

pub returns-in-None-clause-held : goal.returns-in-None-clause-held
returns-in-None-clause-held c =
    let h = missing_here c.args.self.now (shape_of c.args.expr.now) _ _ c.deref.ensures.value c.missing.ensures in
    let none = rw c.in-None.is at h in
    λ _. sym none

pub returns-in-Some-clause-others : goal.returns-in-Some-clause-others
returns-in-Some-clause-others c =
    let h = missing_here c.args.self.now (shape_of c.args.expr.now) _ _ c.deref.ensures.value c.missing.ensures in
    let some = rw c.in-Some.is at h in
    λ none. cc (some, none)
