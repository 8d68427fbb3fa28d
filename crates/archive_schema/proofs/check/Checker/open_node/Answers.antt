use Rattle.std.proofs.Common.{SFits, arith, sym, ap, refl, ◌∙◌, to_z, of_z}
use Rattle.std.proofs.lemmas.Int.{to_z-of_z}
use mir.Syntax.{w32}
use Rattle.archive_schema.specs.declared.plan.PointeeKind.TheVariants.{One}
use Rattle.archive_schema.specs.check.Paid.{bytes_in}
use Rattle.archive_schema.proofs.check.AtOnce.{once_turns}
use Rattle.archive_schema.proofs.check.Entries.{read_at}
use Rattle.archive_schema.proofs.check.Paid.{record_few, variant_few, array_few, pointer_few}
use Rattle.archive_schema.proofs.check.TurnInvariants.{node_is, record_fits, variant_fits, parts_ready, node_fits}
use Rattle.archive_schema.proofs.check.TurnExits.{opens_record, opens_variant, opens_no_variant, opens_array, opens_pointer, opens_shared, opens_weak, opens_null}
use Rattle.archive_schema.proofs.check.Checker.open_node.Goals as goal

-- a node that is checked at once

pub returns-in_err-check_shallow-clause-turn : goal.returns-in_err-check_shallow-clause-turn
returns-in_err-check_shallow-clause-turn g c = rw c.from_residual.ensures (once_turns c.in_err-check_shallow.ensures.passes c.requires.ready)

pub returns-then-self-node-clause-turn : goal.returns-then-self-node-clause-turn
returns-then-self-node-clause-turn g c = once_turns c.in_ok-check_shallow.ensures.passes c.requires.ready

pub returns-in_err-check_shallow-in-Free-clause-turn :
    goal.returns-in_err-check_shallow-in-Free-clause-turn
returns-in_err-check_shallow-in-Free-clause-turn g c =
    rw c.from_residual-in_err-check_shallow-in-Free.ensures (once_turns c.in_err-check_shallow-in-Free.ensures.passes c.requires.ready)

pub returns-in_ok-check_shallow-in-Free-clause-turn :
    goal.returns-in_ok-check_shallow-in-Free-clause-turn
returns-in_ok-check_shallow-in-Free-clause-turn g c = once_turns c.in_ok-check_shallow-in-Free.ensures.passes c.requires.ready

-- a record

pub next_part-requires-clause-ready : goal.next_part-requires-clause-ready
next_part-requires-clause-ready g c =
    let f = c.requires.ready.fits.0 in
    parts_ready c.requires.ready (record_fits c.requires.plan.sound (node_is f c.index-self-node.is c.in-Record.is) f)

pub returns-in-Record-clause-turn : goal.returns-in-Record-clause-turn
returns-in-Record-clause-turn g c =
    opens_record c.requires.plan.sound c.requires.ready (node_is c.requires.ready.fits.0 c.index-self-node.is c.in-Record.is) c.next_part.ensures.turn

pub returns-in-Record-clause-pays : goal.returns-in-Record-clause-pays
returns-in-Record-clause-pays g c =
    let f = c.requires.ready.fits.0 in
    omega (arith, c.next_part.ensures.pays, record_few f c.requires.plan.packed (node_is f c.index-self-node.is c.in-Record.is))

-- a choice

pub returns-in_err-variant-in-Choice-clause-turn :
    goal.returns-in_err-variant-in-Choice-clause-turn
returns-in_err-variant-in-Choice-clause-turn g c =
    rw c.from_residual-in_err-variant-in-Choice.ensures (opens_no_variant (node_is c.requires.ready.fits.0 c.index-self-node.is c.in-Choice.is) c.in_err-variant-in-Choice.ensures.none)

pub next_part-requires-in-Choice-clause-ready : goal.next_part-requires-in-Choice-clause-ready
next_part-requires-in-Choice-clause-ready g c =
    let f = c.requires.ready.fits.0 in
    let chosen = c.in_ok-variant-in-Choice.ensures in
    rw chosen.list (parts_ready c.requires.ready (variant_fits c.requires.plan.sound (node_is f c.index-self-node.is c.in-Choice.is) chosen.some f))

pub returns-in_ok-variant-in-Choice-clause-turn : goal.returns-in_ok-variant-in-Choice-clause-turn
returns-in_ok-variant-in-Choice-clause-turn g c =
    let chosen = c.in_ok-variant-in-Choice.ensures in
    opens_variant c.requires.plan.sound c.requires.ready (node_is c.requires.ready.fits.0 c.index-self-node.is c.in-Choice.is) chosen.some chosen.list c.next_part-in-Choice.ensures.turn

pub returns-in_ok-variant-in-Choice-clause-pays : goal.returns-in_ok-variant-in-Choice-clause-pays
returns-in_ok-variant-in-Choice-clause-pays g c =
    let f = c.requires.ready.fits.0 in
    let chosen = c.in_ok-variant-in-Choice.ensures in
    omega (arith, c.next_part-in-Choice.ensures.pays, ap (bytes_in c.args.self.now) chosen.list, variant_few f c.requires.plan.packed (node_is f c.index-self-node.is c.in-Choice.is) chosen.some)

-- an array

pub returns-in_ok-elements-in-Array-clause-turn : goal.returns-in_ok-elements-in-Array-clause-turn
returns-in_ok-elements-in-Array-clause-turn g c =
    opens_array c.requires.plan.sound c.requires.ready (node_is c.requires.ready.fits.0 c.index-self-node.is c.in-Array.is) c.in_ok-elements-in-Array.ensures.some c.in_ok-elements-in-Array.ensures.none

pub returns-in_ok-elements-in-Array-clause-pays : goal.returns-in_ok-elements-in-Array-clause-pays
returns-in_ok-elements-in-Array-clause-pays g c =
    let few = array_few c.requires.ready.fits.0 c.requires.plan.sound (node_is c.requires.ready.fits.0 c.index-self-node.is c.in-Array.is) in
    omega (arith, ap (bytes_in c.args.self.now) c.in_ok-elements-in-Array.ensures.some, few)

-- a pointer

pub returns-in-One-clause-turn : goal.returns-in-One-clause-turn
returns-in-One-clause-turn g c =
    let is = rw c.in-One.is at (node_is c.requires.ready.fits.0 c.index-self-node.is c.in-Pointer.is) in
    opens_pointer is refl (read_at (record { sfits = c.read_position-position.type_inv }) c.read_position-position.ensures) c.enter_box.ensures.enters

pub returns-in-One-clause-pays : goal.returns-in-One-clause-pays
returns-in-One-clause-pays g c =
    let f = c.requires.ready.fits.0 in
    let is = rw c.in-One.is at (node_is f c.index-self-node.is c.in-Pointer.is) in
    omega (arith, c.enter_box.ensures.pays, pointer_few f One (node_fits c.requires.plan.sound is f).0)

pub open_run-requires-clause-kind : goal.open_run-requires-clause-kind
open_run-requires-clause-kind g c = rw c.in-Run.is at (node_is c.requires.ready.fits.0 c.index-self-node.is c.in-Pointer.is)

pub returns-in_err-enter-in-Text-clause-turn : goal.returns-in_err-enter-in-Text-clause-turn
returns-in_err-enter-in-Text-clause-turn g c =
    let is = node_is c.requires.ready.fits.0 c.index-self-node.is c.in-Pointer.is in
    rw c.from_residual-in_err-enter-in-Text.ensures
    (opens_pointer is c.count-count.ensures (read_at (record { sfits = c.read_position-position-in-Text.type_inv }) c.read_position-position-in-Text.ensures) c.in_err-enter-in-Text.ensures.enters)

pub returns-in_ok-enter-in-Text-clause-turn : goal.returns-in_ok-enter-in-Text-clause-turn
returns-in_ok-enter-in-Text-clause-turn g c =
    let is = node_is c.requires.ready.fits.0 c.index-self-node.is c.in-Pointer.is in
    opens_pointer is c.count-count.ensures (read_at (record { sfits = c.read_position-position-in-Text.type_inv }) c.read_position-position-in-Text.ensures) c.in_ok-enter-in-Text.ensures.enters

pub returns-in_err-enter-in-Text-clause-pays : goal.returns-in_err-enter-in-Text-clause-pays
returns-in_err-enter-in-Text-clause-pays g c =
    let f = c.requires.ready.fits.0 in
    rw c.from_residual-in_err-enter-in-Text.ensures (omega (arith, c.in_err-enter-in-Text.ensures.pays, pointer_few f c.in-Pointer.target (node_fits c.requires.plan.sound (node_is f c.index-self-node.is c.in-Pointer.is) f).0))

pub returns-in_ok-enter-in-Text-clause-pays : goal.returns-in_ok-enter-in-Text-clause-pays
returns-in_ok-enter-in-Text-clause-pays g c =
    let f = c.requires.ready.fits.0 in
    omega (arith, c.in_ok-enter-in-Text.ensures.pays, pointer_few f c.in-Pointer.target (node_fits c.requires.plan.sound (node_is f c.index-self-node.is c.in-Pointer.is) f).0)

-- a shared pointer

pub returns-in_err-follow-in-Shared-clause-turn : goal.returns-in_err-follow-in-Shared-clause-turn
returns-in_err-follow-in-Shared-clause-turn g c =
    rw c.from_residual-in_err-follow-in-Shared.ensures (opens_shared (node_is c.requires.ready.fits.0 c.index-self-node.is c.in-Shared.is) c.in_err-follow-in-Shared.ensures.follows)

pub returns-in_ok-follow-in-Shared-clause-turn : goal.returns-in_ok-follow-in-Shared-clause-turn
returns-in_ok-follow-in-Shared-clause-turn g c =
    opens_shared (node_is c.requires.ready.fits.0 c.index-self-node.is c.in-Shared.is) c.in_ok-follow-in-Shared.ensures.follows

pub returns-in_err-follow-in-Shared-clause-pays : goal.returns-in_err-follow-in-Shared-clause-pays
returns-in_err-follow-in-Shared-clause-pays g c =
    let f = c.requires.ready.fits.0 in
    rw c.from_residual-in_err-follow-in-Shared.ensures (omega (arith, c.in_err-follow-in-Shared.ensures.pays, pointer_few f c.in-Shared.target (node_fits c.requires.plan.sound (node_is f c.index-self-node.is c.in-Shared.is) f).0))

pub returns-in_ok-follow-in-Shared-clause-pays : goal.returns-in_ok-follow-in-Shared-clause-pays
returns-in_ok-follow-in-Shared-clause-pays g c =
    let f = c.requires.ready.fits.0 in
    omega (arith, c.in_ok-follow-in-Shared.ensures.pays, pointer_few f c.in-Shared.target (node_fits c.requires.plan.sound (node_is f c.index-self-node.is c.in-Shared.is) f).0)

-- a weak one

pub returns-then-read_i32-eq1-clause-turn : goal.returns-then-read_i32-eq1-clause-turn
returns-then-read_i32-eq1-clause-turn g c =
    let fits : SFits w32 c.read_i32.result = record { sfits = c.read_i32.type_inv } in
    let null = sym c.read_i32.ensures ∙ sym (to_z-of_z w32 c.read_i32.result fits) ∙ ap (to_z w32) c.if-read_i32-eq1.true in
    opens_null c.requires.ready (node_is c.requires.ready.fits.0 c.index-self-node.is c.in-Weak.is) null

pub returns-in_err-follow-in-Weak-clause-turn : goal.returns-in_err-follow-in-Weak-clause-turn
returns-in_err-follow-in-Weak-clause-turn g c =
    rw c.from_residual-in_err-follow-in-Weak.ensures
    (opens_weak (node_is c.requires.ready.fits.0 c.index-self-node.is c.in-Weak.is) (λ e. c.if-read_i32-eq1.false (ap (of_z w32) (c.read_i32.ensures ∙ e))) c.in_err-follow-in-Weak.ensures.follows)

pub returns-in_ok-follow-in-Weak-clause-turn : goal.returns-in_ok-follow-in-Weak-clause-turn
returns-in_ok-follow-in-Weak-clause-turn g c =
    opens_weak (node_is c.requires.ready.fits.0 c.index-self-node.is c.in-Weak.is) (λ e. c.if-read_i32-eq1.false (ap (of_z w32) (c.read_i32.ensures ∙ e))) c.in_ok-follow-in-Weak.ensures.follows

pub returns-in_err-follow-in-Weak-clause-pays : goal.returns-in_err-follow-in-Weak-clause-pays
returns-in_err-follow-in-Weak-clause-pays g c =
    let f = c.requires.ready.fits.0 in
    rw c.from_residual-in_err-follow-in-Weak.ensures (omega (arith, c.in_err-follow-in-Weak.ensures.pays, pointer_few f c.in-Weak.target (node_fits c.requires.plan.sound (node_is f c.index-self-node.is c.in-Weak.is) f).0))

pub returns-in_ok-follow-in-Weak-clause-pays : goal.returns-in_ok-follow-in-Weak-clause-pays
returns-in_ok-follow-in-Weak-clause-pays g c =
    let f = c.requires.ready.fits.0 in
    omega (arith, c.in_ok-follow-in-Weak.ensures.pays, pointer_few f c.in-Weak.target (node_fits c.requires.plan.sound (node_is f c.index-self-node.is c.in-Weak.is) f).0)
