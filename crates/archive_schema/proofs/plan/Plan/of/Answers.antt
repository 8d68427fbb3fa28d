use Rattle.std.proofs.Common.{rules, ◌≡◌, ◌+◌, sym, ap, subst, length, arith}
use Rattle.archive_check.specs.Expressions.{shape_of}
use Rattle.archive_schema.specs.plan.NodeCounts.{count_of}
use Rattle.archive_schema.specs.plan.PlanGrowth.{lists_of}
use Rattle.archive_schema.specs.plan.CompileQueue.{Waits, waits_of}
use Rattle.archive_schema.specs.plan.Compiled.{Compiled}
use Rattle.archive_schema.specs.plan.NodeNumbers.{def_shapes, start_of}
use Rattle.archive_schema.specs.plan.Planned.{Chained, Finishes, CanChain, CanFinish}
use Rattle.archive_schema.specs.plan.Compilable.{Can}
use Rattle.archive_schema.proofs.plan.Restated.{as_done}
use Rattle.archive_schema.proofs.plan.NodeNumbers.{can_chain}
use Rattle.archive_schema.proofs.plan.Planned.{all_planned, all_named, root_can, finish_can}
use Rattle.archive_schema.proofs.plan.Plan.of.Goals as goal

pub compile_defs-requires-clause-can : goal.compile_defs-requires-clause-can
compile_defs-requires-clause-can c = subst (λ names. CanChain names (def_shapes c.args.defs.now)) (sym c.deref.ensures.value) (can_chain c.in_ok-names.ensures.0 c.requires.definitions)

pub compile-requires-clause-can : goal.compile-requires-clause-can
compile-requires-clause-can c =
    let done : c.len-done.result ≡ length c.compile_defs.new.plan.nodes.items = search rules in
    let front = subst (λ n. Chained c.in_ok-names.names.items (def_shapes c.args.defs.now) n (waits_of c.compile_defs.new.queue) (lists_of c.compile_defs.new.plan)) (ap (λ (w : Waits). w.next) c.new-queue.ensures)
    (subst (λ names. Chained names (def_shapes c.args.defs.now) c.new-queue.result.next (waits_of c.compile_defs.new.queue) (lists_of c.compile_defs.new.plan)) c.deref.ensures.value c.in_ok-compile_defs.ensures) in
    subst (λ names. Can names c.len-done.result (shape_of c.args.root.now)) (sym c.deref-2.ensures.value) (root_can c.in_ok-names.ensures.0 front c.requires done)

pub compile_waiting-requires : goal.compile_waiting-requires
compile_waiting-requires c =
    let done : c.len-done.result ≡ length c.compile_defs.new.plan.nodes.items = search rules in
    let front = subst (λ n. Chained c.in_ok-names.names.items (def_shapes c.args.defs.now) n (waits_of c.compile_defs.new.queue) (lists_of c.compile_defs.new.plan)) (ap (λ (w : Waits). w.next) c.new-queue.ensures)
    (subst (λ names. Chained names (def_shapes c.args.defs.now) c.new-queue.result.next (waits_of c.compile_defs.new.queue) (lists_of c.compile_defs.new.plan)) c.deref.ensures.value c.in_ok-compile_defs.ensures) in
    let root = subst (λ names. Compiled names c.len-done.result (shape_of c.args.root.now) (waits_of c.compile_defs.new.queue) (waits_of c.compile.new.queue) (lists_of c.compile_defs.new.plan) (lists_of c.compile.new.plan) c.in_ok-node.node)
    c.deref-2.ensures.value c.in_ok-node.ensures in
    subst (λ names. CanFinish names (waits_of c.compile.new.queue) (lists_of c.compile.new.plan)) (sym c.deref-3.ensures.value) (finish_can c.in_ok-names.ensures.0 front c.requires (as_done done root))

pub returns-clause-made : goal.returns-clause-made
returns-clause-made c =
    let done : c.len-done.result ≡ length c.compile_defs.new.plan.nodes.items = search rules in
    let base : c.in_ok-base.base ≡ start_of (def_shapes c.args.defs.now) (length c.args.defs.now) + count_of (shape_of c.args.root.now) =
    omega (arith, c.in_ok-base.ensures, c.in_ok-names.ensures.1, c.in_ok-more.ensures) in
    let front = subst (λ n. Chained c.in_ok-names.names.items (def_shapes c.args.defs.now) n (waits_of c.compile_defs.new.queue) (lists_of c.compile_defs.new.plan)) (ap (λ (w : Waits). w.next) c.new-queue.ensures)
    (subst (λ names. Chained names (def_shapes c.args.defs.now) c.new-queue.result.next (waits_of c.compile_defs.new.queue) (lists_of c.compile_defs.new.plan)) c.deref.ensures.value c.in_ok-compile_defs.ensures) in
    let root = subst (λ names. Compiled names c.len-done.result (shape_of c.args.root.now) (waits_of c.compile_defs.new.queue) (waits_of c.compile.new.queue) (lists_of c.compile_defs.new.plan) (lists_of c.compile.new.plan) c.in_ok-node.node)
    c.deref-2.ensures.value c.in_ok-node.ensures in
    let rest = subst (λ names. Finishes names (waits_of c.compile.new.queue) (waits_of c.compile_waiting.new.queue) (lists_of c.compile.new.plan) (lists_of c.compile_waiting.new.plan))
    c.deref-3.ensures.value c.in_ok-compile_waiting.ensures in
    all_planned (shape_of c.args.root.now) c.compile_waiting.new.plan c.in_ok-names.ensures.0 front base (as_done done root) rest

pub returns-clause-names : goal.returns-clause-names
returns-clause-names c =
    let done : c.len-done.result ≡ length c.compile_defs.new.plan.nodes.items = search rules in
    let base : c.in_ok-base.base ≡ start_of (def_shapes c.args.defs.now) (length c.args.defs.now) + count_of (shape_of c.args.root.now) =
    omega (arith, c.in_ok-base.ensures, c.in_ok-names.ensures.1, c.in_ok-more.ensures) in
    let front = subst (λ n. Chained c.in_ok-names.names.items (def_shapes c.args.defs.now) n (waits_of c.compile_defs.new.queue) (lists_of c.compile_defs.new.plan)) (ap (λ (w : Waits). w.next) c.new-queue.ensures)
    (subst (λ names. Chained names (def_shapes c.args.defs.now) c.new-queue.result.next (waits_of c.compile_defs.new.queue) (lists_of c.compile_defs.new.plan)) c.deref.ensures.value c.in_ok-compile_defs.ensures) in
    let root = subst (λ names. Compiled names c.len-done.result (shape_of c.args.root.now) (waits_of c.compile_defs.new.queue) (waits_of c.compile.new.queue) (lists_of c.compile_defs.new.plan) (lists_of c.compile.new.plan) c.in_ok-node.node)
    c.deref-2.ensures.value c.in_ok-node.ensures in
    let rest = subst (λ names. Finishes names (waits_of c.compile.new.queue) (waits_of c.compile_waiting.new.queue) (lists_of c.compile.new.plan) (lists_of c.compile_waiting.new.plan))
    c.deref-3.ensures.value c.in_ok-compile_waiting.ensures in
    all_named (shape_of c.args.root.now) c.compile_waiting.new.plan c.in_ok-names.ensures.0 front base (as_done done root) rest
