use Rattle.std.proofs.Common.{◌<◌, length, subst, sym, arith}
use Rattle.std.proofs.lemmas.Option.{IfSome_then}
use Rattle.std.proofs.lemmas.List.Elements.{All-get_or}
use Rattle.archive_inspect.specs.Described.{IsReached}
use Rattle.archive_inspect.specs.Points.{LeadsOn}
use Rattle.archive_inspect.proofs.Described.{reached_on}
use Rattle.archive_inspect.proofs.describe.reached_by.Goals as goal

pub returns : goal.returns
returns c =
    let f = c.args.form.now.schema in
    let xs = c.args.holders.now in
    let i = c.args.way.now.left_out in
    let below : i < length xs = omega arith in
    let start = c.index-holders-way.result in
    let reached : IsReached f c.args.bytes.now c.args.root start = subst (IsReached f c.args.bytes.now c.args.root) (sym c.index-holders-way.is) (All-get_or (IsReached f c.args.bytes.now c.args.root) xs i start below c.requires) in
    IfSome_then c.follow_from.result c.follow_from.ensures (λ b h. reached_on f c.args.bytes.now c.args.root c.args.way.now start b (omega arith) reached (subst (λ l. LeadsOn f c.args.bytes.now start l b) c.deref-2.ensures.value h))
