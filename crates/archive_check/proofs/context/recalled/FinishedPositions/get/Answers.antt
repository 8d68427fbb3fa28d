use Rattle.std.proofs.Common.{◌≡◌, pos, sym, ap, ◌∙◌, Some}
use Rattle.std.specs.Int.{w128}
use Rattle.std.proofs.Math.Facts.{to_z-of_z}
use Rattle.archive_check.specs.context.RecalledPositions.{recalled}
use Rattle.archive_check.proofs.context.recalled.FinishedPositions.get.Goals as goal

pub returns-in-Some-get : goal.returns-in-Some-get
returns-in-Some-get g c = λ kept before.
    let found : kept (pos c.in-Some.key) ≡ Some (recalled c.in-Some-get.kept.now) = before c.in-Some.key c.in-Some-get.kept.now c.in-Some-get.ensures in
    ap kept (sym (c.in-Some.ensures ∙ to_z-of_z {w = w128} {z = c.args.position} c.ranges.position)) ∙ found
