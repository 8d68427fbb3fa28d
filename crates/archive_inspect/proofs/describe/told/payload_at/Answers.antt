use Rattle.std.proofs.Common.{refl, subst, sym, [], Contains}
use Rattle.std.proofs.lemmas.List.Elements.{Contains-push}
use Rattle.archive_check.specs.Expressions.{shapes_in}
use Rattle.archive_inspect.specs.Points.{means_so}
use Rattle.archive_inspect.specs.declared.ways.Point.{Point}
use Rattle.archive_inspect.specs.declared.ways.Thing.TheVariants as thing
use Rattle.archive_inspect.proofs.describe.told.payload_at.Goals as goal

pub returns : goal.returns
returns c =
    let x : Point = record { at = c.args.at; thing = thing.Payload c.in-Some.parts } in
    record {
      behind = shapes_in c.in-Some.parts.now;
      tagged = c.in-Some.ensures.found;
      there = λ s. record { point = x; among = subst (λ l. Contains l x) (sym c.in_ok-points.ensures) (Contains-push [] x); at = refl; means = means_so };
    }
