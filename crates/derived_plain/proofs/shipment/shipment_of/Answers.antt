-- Written by tools/derive: change the declaration, and run it again.
use Rattle.std.proofs.Common.{◌≡◌, refl, arith, rules}
use Rattle.std.proofs.lemmas.Int.{to_z-of_z}
use mir.Syntax.{w8}
use mir.Val.{SFits}
use Rattle.derived_plain.proofs.shipment.shipment_of.Goals as goal

pub returns-clause-meaning : goal.returns-clause-meaning
returns-clause-meaning c =
    let e0 : SFits w8 c.args.values.rest.rest.first = search rules in
    rw (c.into_array.ensures, to_z-of_z w8 c.args.values.rest.rest.first e0) refl
