use Rattle.std.proofs.Common.{◌≡◌, arith, ◌∙◌}
use Rattle.std.proofs.lemmas.Bool.Decides.{nat_tests}
use Rattle.archive_inspect.proofs.Refused.{aligned_so}
use Rattle.archive_inspect.proofs.ways.regions.has_align.Goals as goal

pub returns-in-Some : goal.returns-in-Some
returns-in-Some c = λ t s know.
    let e : c.in-Some.unit.align ≡ c.args.align = grind (arith, nat_tests) in
    aligned_so c.args.form.now.schema _ c.in-Some.unit c.in-Some.ensures s know ∙ e
