use Rattle.std.proofs.Common.{rules, ap, ◌∙◌}
use Rattle.archive_check.specs.context.Validators.{positions_of}
use Rattle.archive_check.proofs.context.FirstPositions.{listed_pending, listed_unfinished, listed_finished, refused_new, never_refused}
use Rattle.archive_check.proofs.context.first.FirstPosition.to_list.Goals as goal

pub returns-in_err-start_shared-clause-refused : goal.returns-in_err-start_shared-clause-refused
returns-in_err-start_shared-clause-refused c =
    refused_new (positions_of c.deref_mut.result.now) _ _ c.in_err-start_shared.field-0.0 c.from_residual-in_err-start_shared.result (ap positions_of (c.deref_mut.ensures.value ∙ c.in_ok-list.ensures.ok) ∙ c.new.ensures)
    c.in_err-start_shared.ensures.answer c.from_residual-in_err-start_shared.ensures.1

pub returns-in_err-finish_shared-clause-refused : goal.returns-in_err-finish_shared-clause-refused
returns-in_err-finish_shared-clause-refused c =
    let none = ap positions_of (c.deref_mut.ensures.value ∙ c.in_ok-list.ensures.ok) ∙ c.new.ensures in
    let listed = listed_pending c.args.self.now _ _ _ (search rules) none c.in_ok-start_shared.ensures.started in
    never_refused c.args.self.now _ _ _ _ (search rules) (ap positions_of c.deref_mut-then-self.ensures.value ∙ listed) c.in_err-finish_shared.ensures.answer

pub returns-then-self-clause-same : goal.returns-then-self-clause-same
returns-then-self-clause-same c =
    let none = ap positions_of (c.deref_mut.ensures.value ∙ c.in_ok-list.ensures.ok) ∙ c.new.ensures in
    let listed = listed_pending c.args.self.now _ _ _ (search rules) none c.in_ok-start_shared.ensures.started in
    listed_finished c.args.self.now _ _ _ (search rules) c.if-self.true (ap positions_of c.deref_mut-then-self.ensures.value ∙ listed) c.in_ok-finish_shared.ensures.finished

pub returns-clause-same : goal.returns-clause-same
returns-clause-same c =
    let none = ap positions_of (c.deref_mut.ensures.value ∙ c.in_ok-list.ensures.ok) ∙ c.new.ensures in
    let listed = listed_pending c.args.self.now _ _ _ (search rules) none c.in_ok-start_shared.ensures.started in
    listed_unfinished c.args.self.now _ c.if-self.false listed
