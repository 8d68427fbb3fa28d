use Rattle.std.proofs.Common.{◌≡◌, ◌<◌, length, arith, sym, ap, ◌∙◌}
use Rattle.std.proofs.lemmas.Slice.Eq.{bytes_eq-Decides}
use Rattle.archive_check.specs.declared.format.defs.Def.{Def}
use Rattle.archive_schema.proofs.plan.Named.{one_at, taken, not_taken}
use Rattle.archive_schema.proofs.plan.names.take.Goals as goal

pub returns-then-eq : goal.returns-then-eq
returns-then-eq c =
    let count : length c.loop-i.defs.items ≡ length c.args.defs.now.items = ap length c.loop-i.invariant.1 in
    let below : c.loop-i.i < length c.loop-i.defs.items = omega (arith, count, c.args.defs.now.ok.0, c.loop-i-test.true, c.len-i-end.ensures) in
    let here = one_at c.loop-i.defs.items c.loop-i.i c.remove.result c.index.result.now below c.remove.ensures.value c.index.ensures in
    taken c.args.defs.now.items c.loop-i.defs.items c.remove.new.self.items c.loop-i.i c.remove.result c.args.name.now
    c.loop-i.invariant.1 below c.remove.ensures.value
    (ap (λ (d : Def). d.name.now) here ∙ (bytes_eq-Decides c.index.result.now.name.now c.args.name.now).0 (sym c.if-eq.ensures))
    c.loop-i.invariant.0 c.remove.ensures.items

pub returns : goal.returns
returns c =
    let count : length c.loop-i.defs.items ≡ length c.args.defs.now.items = ap length c.loop-i.invariant.1 in
    let end : length c.loop-i.defs.items ≡ c.loop-i.i = omega (arith, count, c.args.defs.now.ok.0, c.loop-i-test.false, c.loop-i.auto.i-end, c.len-i-end.ensures) in
    not_taken c.args.defs.now.items c.loop-i.defs.items c.loop-i.i c.args.name.now c.loop-i.invariant.1 end c.loop-i.invariant.0
