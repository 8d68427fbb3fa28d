use Rattle.std.proofs.Common.{rules, ◌≡◌, arith, sym, ◌∙◌, subst, ap, length, [], refl}
use Rattle.archive_check.specs.declared.format.defs.Def.{Def}
use Rattle.archive_check.specs.Expressions.{shape_of}
use Rattle.archive_schema.specs.plan.PlanGrowth.{lists_of}
use Rattle.archive_schema.specs.plan.CompileQueue.{waits_of}
use Rattle.archive_schema.proofs.plan.Restated.{as_shape, as_done}
use Rattle.archive_schema.proofs.plan.CompiledChain.{chained_start, defs_next, defs_begin}
use Rattle.archive_check.specs.Words.Elements.{IsAt}
use Rattle.archive_schema.specs.plan.NodeNumbers.{def_shapes, start_of}
use Rattle.archive_schema.specs.plan.Compilable.{Can}
use Rattle.archive_schema.proofs.plan.Compilable.{can_as}
use Rattle.archive_schema.proofs.plan.NodeNumbers.{def_at}
use Rattle.archive_schema.proofs.plan.assembly.compile_defs.Goals as goal

pub loop-i-init : goal.loop-i-init
loop-i-init c = chained_start c.args.names.now [] c.args.queue.now.next (waits_of c.args.queue.now) (lists_of c.args.plan.now) refl c.requires.new_queue c.requires.new_plan

pub compile-requires : goal.compile-requires
compile-requires c =
    let done : c.len-done.result ≡ length c.loop-i.plan.nodes.items = search rules in
    let at : IsAt c.args.defs.now c.loop-i.i c.index-defs-i.result = record { below = c.loop-i-test.true; is = c.index-defs-i.is } in
    let begins : c.len-done.result ≡ start_of (def_shapes c.args.defs.now) c.loop-i.i = done ∙ defs_begin c.args.defs.now c.loop-i.i (omega (arith, at.below)) c.loop-i.invariant in
    let can : Can c.args.names.now c.len-done.result (shape_of c.index-defs-i.result.expr) =
    subst (λ n. Can c.args.names.now n (shape_of c.index-defs-i.result.expr)) (sym begins) (c.requires.can c.loop-i.i (shape_of c.index-defs-i.result.expr) (def_at c.args.defs.now c.loop-i.i at)) in
    record { done = omega (arith, done); can = can_as (ap (λ (d : Def). shape_of d.expr) c.index-defs-i.is) can }

pub loop-i-preserved : goal.loop-i-preserved
loop-i-preserved c =
    let done : c.len-done.result ≡ length c.loop-i.plan.nodes.items = search rules in
    defs_next c.loop-i.invariant (record { below = c.loop-i-test.true; is = c.index-defs-i.is })
    (as_done done (as_shape (ap (λ (d : Def). shape_of d.expr) c.index-defs-i.is) c.in_ok-compile.ensures))
