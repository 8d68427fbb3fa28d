use Rattle.std.proofs.Common.{rules, subst, length}
use Rattle.archive_inspect.specs.Described.{Tiles}
use Rattle.archive_inspect.specs.Opened.{TellsAll}
use Rattle.archive_inspect.proofs.Described.{described_whole}
use Rattle.archive_inspect.proofs.describe.describe.Goals as goal

pub returns-then-told : goal.returns-then-told
returns-then-told c =
    described_whole c.args.form.now c.args.bytes.now c.root_position-root.result c.in-Some.parts.items c.in_ok-all.all.items (c.in_ok-accepted.ensures (search rules)) (rw c.schema.ensures at c.root_position-root.ensures.position)
    (rw c.in-Some.is at c.in_ok-found.ensures) c.in_ok-all.ensures (subst (λ l. Tiles l (length c.args.bytes.now)) c.deref.ensures.value (c.are_tiles.ensures (search rules)))
    (subst (TellsAll c.args.form.now.schema c.args.bytes.now c.root_position-root.result) c.deref-2.ensures.value (c.in_ok-told.ensures (search rules)))
