use Rattle.std.proofs.Common.{◌≡◌, ◌*◌, arith, ◌∙◌}
use Rattle.archive_inspect.proofs.Refused.{takes_one, takes_many}
use Rattle.archive_inspect.proofs.ways.regions.bytes_of.Goals as goal

pub returns-in-Some : goal.returns-in-Some
returns-in-Some c = takes_one c.args.form.now.schema _ _ _ c.in_ok-unit.unit c.in_ok-unit.ensures c.in-Some.ensures.found

pub returns : goal.returns
returns c = λ s know.
    let e : c.args.pointer.length * c.in_ok-unit.unit.size ≡ c.in_ok-bytes.bytes = omega arith in
    takes_many c.args.form.now.schema _ c.args.pointer.length c.in_ok-unit.unit c.in_ok-unit.ensures c.in-None.ensures.none s know ∙ e
