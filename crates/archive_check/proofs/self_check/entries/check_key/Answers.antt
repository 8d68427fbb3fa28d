use Rattle.std.proofs.Common.{◌≡◌, suc, sym, ap, ◌∙◌}
use Rattle.archive_check.specs.Expressions.{key_of}
use Rattle.archive_check.specs.declared.format.error.Error.TheVariants.{UnsortedKeys}
use Rattle.archive_check.specs.Layout.{key_size}
use Rattle.archive_check.specs.SelfCheck.Ways.{Halts}
use Rattle.archive_check.specs.SelfCheck.Regions.{entries_way}
use Rattle.archive_check.proofs.SelfCheck.Outcomes.{if_none}
use Rattle.archive_check.proofs.Checks.TestedAnswers.{not_true, is_true}
use Rattle.archive_check.proofs.Maps.CheckedEntries.{key_halts, order_halts}
use Rattle.archive_check.proofs.self_check.entries.check_key.Goals as goal

-- what a key takes, as a key
pub comes_behind-requires-clause-front : goal.comes_behind-requires-clause-front
comes_behind-requires-clause-front g c =
    let same : key_size (key_of c.key.result) ≡ g.K.Portable.layout.size = ap key_size c.key.ensures ∙ sym (ap (λ l. l.size) g.met.K.MapKey.key_laid) in rw same c.requires.earlier

pub comes_behind-requires-clause-back : goal.comes_behind-requires-clause-back
comes_behind-requires-clause-back g c =
    let same : key_size (key_of c.key.result) ≡ g.K.Portable.layout.size = ap key_size c.key.ensures ∙ sym (ap (λ l. l.size) g.met.K.MapKey.key_laid) in rw same c.requires.fits

pub returns-in_err-check_value-clause-stops : goal.returns-in_err-check_value-clause-stops
returns-in_err-check_value-clause-stops g c d n V =
    rw c.from_residual.ensures (key_halts g.K.ArchivePointee.definitions g.K.Portable.shape g.K.MapKey.key g.met.K.MapKey.is_key c.args.bytes.now c.args.before c.args.at (g.C.Context.state c.args.context.now) n V c.check_value.new.refusal (c.in_err-check_value.ensures.stops d))

pub returns-then-not-comes_behind-clause-stops : goal.returns-then-not-comes_behind-clause-stops
returns-then-not-comes_behind-clause-stops g c d n V =
    let s = g.C.Context.state c.args.context.now in
    let D = g.K.ArchivePointee.definitions in
    let K = g.K.MapKey.key in
    let told = rw c.key.ensures at c.comes_behind.ensures in
    if_none (λ e. Halts D (entries_way c.args.bytes.now c.args.before c.args.at (suc n) K V) s e) c.refuse.result c.refuse.new.refusal UnsortedKeys c.refuse.ensures.fault
    (order_halts D g.K.Portable.shape K g.met.K.MapKey.is_key c.args.bytes.now c.args.before c.args.at s n V (g.C.Context.state c.check_value.new.context) c.in_ok-check_value.ensures.through (λ h. not_true c.comes_behind.result c.if-not-comes_behind.true (told.1 h)))

pub returns-clause-behind : goal.returns-clause-behind
returns-clause-behind g c = let told = rw c.key.ensures at c.comes_behind.ensures in told.0 (is_true c.comes_behind.result c.if-not-comes_behind.false)
