use Rattle.std.proofs.Common.{ap, ◌∙◌, Ok}
use Rattle.archive_schema.proofs.check.Entries.{read_at}
use Rattle.archive_schema.proofs.check.FollowedPointers.{answer_of, index_of, shared_at, follows_no_start, follows_no_cycle, follows_known, follows_nowhere, follows_started}
use Rattle.archive_schema.proofs.check.TurnExits.{no_room}
use Rattle.archive_schema.proofs.check.Checker.follow.Goals as goal

pub returns-in_default-clause-follows : goal.returns-in_default-clause-follows
returns-in_default-clause-follows g c =
    let position = read_at (record { sfits = c.read_position-position.type_inv }) c.read_position-position.ensures in
    let here = shared_at c.args.self.now c.index-self-shared_type.result c.requires.shared_type c.count-count.ensures c.length-length.ensures position in
    let new = answer_of _ _ (c.in-Ok-Started.is ∙ ap Ok c.in-Ok-Started.field-0-is) c.start_shared.ensures.answer in
    follows_nowhere here c.in-Ok-Started.ensures.range c.in-Ok-Started.ensures.started new c.in_default.ensures c.enter.ensures.enters

pub returns-in_err-finish-in-Ok-Started-clause-follows : goal.returns-in_err-finish-in-Ok-Started-clause-follows
returns-in_err-finish-in-Ok-Started-clause-follows g c = rw c.from_residual.ensures (no_room c.in_err-finish-in-Ok-Started.ensures.none)

pub returns-in_ok-finish-in-Ok-Started-clause-follows : goal.returns-in_ok-finish-in-Ok-Started-clause-follows
returns-in_ok-finish-in-Ok-Started-clause-follows g c =
    let position = read_at (record { sfits = c.read_position-position.type_inv }) c.read_position-position.ensures in
    let here = shared_at c.args.self.now c.index-self-shared_type.result c.requires.shared_type c.count-count.ensures c.length-length.ensures position in
    let new = answer_of _ _ (c.in-Ok-Started.is ∙ ap Ok c.in-Ok-Started.field-0-is) c.start_shared.ensures.answer in
    follows_started here c.in-Ok-Started.ensures.range c.in-Ok-Started.ensures.started new (index_of _ c.in-Ok.begin c.in-Ok.ensures.0.0 c.in-Ok.ensures.1) c.in_ok-finish-in-Ok-Started.ensures.some c.enter-in-Ok-Started.ensures.enters

pub returns-in-Err-clause-follows : goal.returns-in-Err-clause-follows
returns-in-Err-clause-follows g c =
    let position = read_at (record { sfits = c.read_position-position.type_inv }) c.read_position-position.ensures in
    let here = shared_at c.args.self.now c.index-self-shared_type.result c.requires.shared_type c.count-count.ensures c.length-length.ensures position in
    follows_no_start here c.refuse.ensures.none c.refuse.ensures.fault c.in-Err.ensures.answer

pub returns-then-not-kind-clause-follows : goal.returns-then-not-kind-clause-follows
returns-then-not-kind-clause-follows g c =
    let position = read_at (record { sfits = c.read_position-position.type_inv }) c.read_position-position.ensures in
    let here = shared_at c.args.self.now c.index-self-shared_type.result c.requires.shared_type c.count-count.ensures c.length-length.ensures position in
    let pending = answer_of _ _ (c.in-Ok-Pending.is ∙ ap Ok c.in-Ok-Pending.field-0-is) c.start_shared.ensures.answer in
    follows_no_cycle here c.refuse-then-not-kind.ensures.none c.refuse-then-not-kind.ensures.fault pending c.if-not-kind.true

pub returns-else-not-kind-clause-follows : goal.returns-else-not-kind-clause-follows
returns-else-not-kind-clause-follows g c =
    let position = read_at (record { sfits = c.read_position-position.type_inv }) c.read_position-position.ensures in
    let here = shared_at c.args.self.now c.index-self-shared_type.result c.requires.shared_type c.count-count.ensures c.length-length.ensures position in
    let pending = answer_of _ _ (c.in-Ok-Pending.is ∙ ap Ok c.in-Ok-Pending.field-0-is) c.start_shared.ensures.answer in
    follows_known here c.requires.ready c.in-Ok-Pending.ensures.range c.in-Ok-Pending.ensures.started pending (λ e. c.if-not-kind.false)

pub returns-in-Ok-Finished-clause-follows : goal.returns-in-Ok-Finished-clause-follows
returns-in-Ok-Finished-clause-follows g c =
    let position = read_at (record { sfits = c.read_position-position.type_inv }) c.read_position-position.ensures in
    let here = shared_at c.args.self.now c.index-self-shared_type.result c.requires.shared_type c.count-count.ensures c.length-length.ensures position in
    let over = answer_of _ _ (c.in-Ok-Finished.is ∙ ap Ok c.in-Ok-Finished.field-0-is) c.start_shared.ensures.answer in
    follows_known here c.requires.ready c.in-Ok-Finished.ensures.range c.in-Ok-Finished.ensures.started over (λ e. cc)
