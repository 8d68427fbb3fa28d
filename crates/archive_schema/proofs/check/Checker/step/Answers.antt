use Rattle.std.proofs.Common.{rules, ◌+◌, ◌<◌, ◌≤◌, arith, length}
use Rattle.std.proofs.lemmas.Int.{to_z_pos}
use mir.Syntax.{w128}
use Rattle.archive_schema.proofs.check.LegalElements.{node_takes}
use Rattle.archive_schema.proofs.check.TurnExits.{no_room, opens_free, element_node, finishes, not_finished}
use Rattle.archive_schema.proofs.plan.PlanSizes.{entry_sizes}
use Rattle.archive_schema.proofs.check.EntryPlaces.{entry_node, keys_fit, next_room, value_fits}
use Rattle.archive_schema.proofs.check.EntryTurns.{opens_no_entry, key_refused, entry_opened, opens_entry}
use Rattle.archive_schema.proofs.check.Checker.step.Goals as goal

pub returns-in-Part-clause-turn : goal.returns-in-Part-clause-turn
returns-in-Part-clause-turn g c = rw c.in-Part.is c.open.ensures.turn

pub returns-in-Parts-clause-turn : goal.returns-in-Parts-clause-turn
returns-in-Parts-clause-turn g c = rw c.in-Parts.is c.open_parts.ensures.turn

pub returns-in-Free-clause-turn : goal.returns-in-Free-clause-turn
returns-in-Free-clause-turn g c =
    let ready = rw c.in-Elements.is at c.requires.ready in
    rw c.in-Elements.is (opens_free ready (element_node ready c.index-self-node.is c.in-Free.is))

pub check_elements-requires : goal.check_elements-requires
check_elements-requires g c =
    let ready = rw c.in-Elements.is at c.requires.ready in
    record { plan = c.requires.plan; ready = ready; size = node_takes ready.fits.0 c.index-self-node.is c.unwrap_or-size.ensures }

pub returns-then-left-eq0-clause-turn : goal.returns-then-left-eq0-clause-turn
returns-then-left-eq0-clause-turn g c =
    let ready = rw c.in-Entries.is at c.requires.ready in
    rw c.in-Entries.is (opens_no_entry ready c.if-left-eq0.true)

pub entry_before-before-requires : goal.entry_before-before-requires
entry_before-before-requires g c some =
    let ready = rw c.in-Entries.is at c.requires.ready in
    let takes = entry_node ready.fits.0 c.index-self-value.is c.value_offset.ensures c.unwrap_or-offset.ensures c.unit_of.ensures.end c.unwrap_or-size-in-Entries.ensures in
    omega (arith, ready.fits.0.first some, entry_sizes ready.fits.0.takes takes)

pub check_next_key-requires : goal.check_next_key-requires
check_next_key-requires g c =
    let ready = rw c.in-Entries.is at c.requires.ready in
    let takes = entry_node ready.fits.0 c.index-self-value.is c.value_offset.ensures c.unwrap_or-offset.ensures c.unit_of.ensures.end c.unwrap_or-size-in-Entries.ensures in
    record { known = takes.at.below; fits = rw c.entry_before-before.ensures (keys_fit ready.fits.0 takes (omega (arith, c.if-left-eq0.false))); below = ready.below }

pub returns-in_err-check_next_key-in-Entries-clause-turn : goal.returns-in_err-check_next_key-in-Entries-clause-turn
returns-in_err-check_next_key-in-Entries-clause-turn g c =
    let ready = rw c.in-Entries.is at c.requires.ready in
    let takes = entry_node ready.fits.0 c.index-self-value.is c.value_offset.ensures c.unwrap_or-offset.ensures c.unit_of.ensures.end c.unwrap_or-size-in-Entries.ensures in
    rw (c.in-Entries.is, c.from_residual.ensures) (key_refused ready takes (omega (arith, c.if-left-eq0.false)) (rw c.entry_before-before.ensures at c.in_err-check_next_key-in-Entries.ensures.passes))

pub returns-in_err-more_entries-in-Entries-clause-turn : goal.returns-in_err-more_entries-in-Entries-clause-turn
returns-in_err-more_entries-in-Entries-clause-turn g c = rw c.from_residual-in_err-more_entries-in-Entries.ensures (no_room c.in_err-more_entries-in-Entries.ensures.none)

pub overflow_add-at : goal.overflow_add-at
overflow_add-at g c =
    let ready = rw c.in-Entries.is at c.requires.ready in
    let takes = entry_node ready.fits.0 c.index-self-value.is c.value_offset.ensures c.unwrap_or-offset.ensures c.unit_of.ensures.end c.unwrap_or-size-in-Entries.ensures in
    let lt : 0 < c.in-Entries.left = omega (arith, c.if-left-eq0.false) in
    let h : c.in-Entries.at + c.unwrap_or-size-in-Entries.result ≤ length c.args.self.now.bytes.now = omega (arith, next_room ready.fits.0 takes lt) in search rules

pub overflow_add-at-in-Entries : goal.overflow_add-at-in-Entries
overflow_add-at-in-Entries g c =
    let ready = rw c.in-Entries.is at c.requires.ready in
    let takes = entry_node ready.fits.0 c.index-self-value.is c.value_offset.ensures c.unwrap_or-offset.ensures c.unit_of.ensures.end c.unwrap_or-size-in-Entries.ensures in
    let lt : 0 < c.in-Entries.left = omega (arith, c.if-left-eq0.false) in
    let f = value_fits ready.fits.0 takes 0 lt in
    let h : c.in-Entries.at + c.unwrap_or-offset.result ≤ length c.args.self.now.bytes.now = omega (arith, f.fits) in search rules

pub open-requires-in-Entries-clause-ready : goal.open-requires-in-Entries-clause-ready
open-requires-in-Entries-clause-ready g c =
    let ready = rw c.in-Entries.is at c.requires.ready in
    let takes = entry_node ready.fits.0 c.index-self-value.is c.value_offset.ensures c.unwrap_or-offset.ensures c.unit_of.ensures.end c.unwrap_or-size-in-Entries.ensures in
    let key = rw c.entry_before-before.ensures at c.in_ok-check_next_key-in-Entries.ensures.passes.some in
    entry_opened ready (omega (arith, c.if-left-eq0.false)) takes key c.in_ok-more_entries-in-Entries.ensures.some

pub returns-in_ok-more_entries-in-Entries-clause-turn : goal.returns-in_ok-more_entries-in-Entries-clause-turn
returns-in_ok-more_entries-in-Entries-clause-turn g c =
    let ready = rw c.in-Entries.is at c.requires.ready in
    let takes = entry_node ready.fits.0 c.index-self-value.is c.value_offset.ensures c.unwrap_or-offset.ensures c.unit_of.ensures.end c.unwrap_or-size-in-Entries.ensures in
    let key = rw c.entry_before-before.ensures at c.in_ok-check_next_key-in-Entries.ensures.passes.some in
    rw c.in-Entries.is (opens_entry ready (omega (arith, c.if-left-eq0.false)) takes key c.in_ok-more_entries-in-Entries.ensures.some c.open-in-Entries.ensures.turn)

pub returns-in-Leave-clause-turn : goal.returns-in-Leave-clause-turn
returns-in-Leave-clause-turn g c = rw c.in-Leave.is c.leave_regions.ensures.turn

pub returns-in-Err-clause-turn : goal.returns-in-Err-clause-turn
returns-in-Err-clause-turn g c =
    rw c.in-Finish.is (not_finished c.refuse.ensures.none c.refuse.ensures.fault (to_z_pos w128 c.in-Finish.at (omega arith)) c.in-Err.ensures.answer)

pub returns-in_default-finish_shared-clause-turn : goal.returns-in_default-finish_shared-clause-turn
returns-in_default-finish_shared-clause-turn g c =
    let ready = rw c.in-Finish.is at c.requires.ready in
    rw c.in-Finish.is (finishes ready (to_z_pos w128 c.in-Finish.at (omega arith)) c.in_default-finish_shared.ensures.range c.in_default-finish_shared.ensures.finished)
