-- Written by tools/derive: change the declaration, and run it again.
use Rattle.std.proofs.Common.{◌≡◌, refl, arith, rules}
use Rattle.std.proofs.lemmas.Int.{to_z-of_z}
use mir.Syntax.{w8}
use mir.Val.{SFits}
use Rattle.derived_plain.proofs.depot.depot_sent_of.Goals as goal

pub returns-clause-meaning : goal.returns-clause-meaning
returns-clause-meaning c =
    let e0 : SFits w8 c.args.values.rest.second = search rules in
    rw (to_z-of_z w8 c.args.values.rest.second e0) refl
