use Rattle.std.proofs.Common.{rules, ◌≡◌, ◌+◌, ◌-◌, ◌*◌, ◌≤◌, arith, length}
use Rattle.archive_schema.proofs.check.AtOnce.{towards_same}
use Rattle.archive_schema.proofs.check.EntryPlaces.{entry_node, key_room, value_fits}
use Rattle.archive_schema.proofs.check.KeysAtOnce.{towards_entry, value_stops, key_stops, entries_over}
use Rattle.archive_schema.proofs.check.Paid.{entries_next_is}
use Rattle.archive_schema.proofs.check.Checker.check_shallow_entries.Goals as goal

pub loop-index-init : goal.loop-index-init
loop-index-init g c = let all : c.args.count - 0 ≡ c.args.count = omega arith in let here : c.args.at + 0 * c.unwrap_or-size.result ≡ c.args.at = omega arith in (rw (all, here) towards_same, tt, rw all (omega arith))

pub check_next_key-requires : goal.check_next_key-requires
check_next_key-requires g c =
    let takes = entry_node c.requires.fits c.index-self-value.is c.value_offset.ensures c.unwrap_or-offset.ensures c.unit_of.ensures.end c.unwrap_or-size.ensures in
    record {
      known = c.requires.fits.takes.at.below;
      fits = record { first = c.loop-index.invariant.1; here = key_room c.requires.fits takes c.loop-index.index c.loop-index-test.true };
      below = rw c.loop-index.invariant.0.end c.requires.below;
    }

pub check_shallow-requires : goal.check_shallow-requires
check_shallow-requires g c =
    let takes = entry_node c.requires.fits c.index-self-value.is c.value_offset.ensures c.unwrap_or-offset.ensures c.unit_of.ensures.end c.unwrap_or-size.ensures in
    let key = c.in_ok-check_next_key.ensures.passes.some in
    record {
      plan = c.requires.plan;
      shallow = λ y here. c.requires.plan.marked.shallow c.args.value y here c.requires.shallow;
      fits = value_fits c.requires.fits takes c.loop-index.index c.loop-index-test.true;
      below = rw (key.through.end, c.loop-index.invariant.0.end) c.requires.below;
    }

pub returns-in_err-check_next_key-clause-passes : goal.returns-in_err-check_next_key-clause-passes
returns-in_err-check_next_key-clause-passes g c =
    rw c.from_residual.ensures (key_stops (omega (arith, c.loop-index-test.true)) c.loop-index.invariant.0 c.in_err-check_next_key.ensures.passes)

pub returns-in_err-check_shallow-clause-passes : goal.returns-in_err-check_shallow-clause-passes
returns-in_err-check_shallow-clause-passes g c =
    let takes = entry_node c.requires.fits c.index-self-value.is c.value_offset.ensures c.unwrap_or-offset.ensures c.unit_of.ensures.end c.unwrap_or-size.ensures in
    rw c.from_residual-in_err-check_shallow.ensures (value_stops takes (omega (arith, c.loop-index-test.true)) c.loop-index.invariant.0 c.in_ok-check_next_key.ensures.passes.some c.in_err-check_shallow.ensures.passes)

pub loop-index-preserved : goal.loop-index-preserved
loop-index-preserved g c =
    let takes = entry_node c.requires.fits c.index-self-value.is c.value_offset.ensures c.unwrap_or-offset.ensures c.unit_of.ensures.end c.unwrap_or-size.ensures in
    let k = c.loop-index.index in
    let count : c.args.count - (k + 1) ≡ c.args.count - k - 1 = omega arith in (
      rw count (towards_entry takes (omega (arith, c.loop-index-test.true)) (omega arith) c.loop-index.invariant.0 c.in_ok-check_next_key.ensures.passes.some c.in_ok-check_shallow.ensures.passes.some),
      key_room c.requires.fits takes k c.loop-index-test.true,
      omega (arith, c.loop-index.invariant.2, c.in_ok-check_next_key.ensures.pays, c.in_ok-check_shallow.ensures.pays, entries_next_is c.args.self.now c.args.key c.args.value c.args.count k c.loop-index-test.true),
    )

pub returns-clause-passes : goal.returns-clause-passes
returns-clause-passes g c = entries_over (omega (arith, c.loop-index-test.false)) c.loop-index.invariant.0

pub returns-in_err-check_next_key-clause-pays : goal.returns-in_err-check_next_key-clause-pays
returns-in_err-check_next_key-clause-pays g c =
    omega (arith, c.loop-index.invariant.2, c.in_err-check_next_key.ensures.pays, entries_next_is c.args.self.now c.args.key c.args.value c.args.count c.loop-index.index c.loop-index-test.true)

pub returns-in_err-check_shallow-clause-pays : goal.returns-in_err-check_shallow-clause-pays
returns-in_err-check_shallow-clause-pays g c =
    omega (arith, c.loop-index.invariant.2, c.in_ok-check_next_key.ensures.pays, c.in_err-check_shallow.ensures.pays, entries_next_is c.args.self.now c.args.key c.args.value c.args.count c.loop-index.index c.loop-index-test.true)

pub returns-clause-pays : goal.returns-clause-pays
returns-clause-pays g c = omega (arith, c.loop-index.invariant.2)

pub overflow_add-next-in-loop-index : goal.overflow_add-next-in-loop-index
overflow_add-next-in-loop-index g c =
    let takes = entry_node c.requires.fits c.index-self-value.is c.value_offset.ensures c.unwrap_or-offset.ensures c.unit_of.ensures.end c.unwrap_or-size.ensures in
    let f = value_fits c.requires.fits takes c.loop-index.index c.loop-index-test.true in
    let h : c.args.at + c.loop-index.index * c.unwrap_or-size.result + c.unwrap_or-offset.result ≤ length c.args.self.now.bytes.now = omega (arith, f.fits) in search rules
