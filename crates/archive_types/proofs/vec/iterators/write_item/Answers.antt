use Rattle.std.proofs.Common.{length, sym, ◌∙◌, arith}
use Rattle.archive_types.specs.ItemsWritten.{not_serialized, item_wrote, not_resolved}
use Rattle.archive_types.proofs.Planning.Causes.{err_by, goes_both}
use Rattle.archive_types.proofs.Writing.ItemsLaid.{begins_silent, begins_less}
use Rattle.archive_types.proofs.vec.iterators.write_item.Goals as goal

pub returns-in_err-resolver-clause-refused : goal.returns-in_err-resolver-clause-refused
returns-in_err-resolver-clause-refused g c = err_by c.from_residual.result c.in_err-resolver.field-0.0 _ c.from_residual.ensures.1 (not_serialized c.in_err-resolver.ensures.refused)

pub returns-then-pos-before-clause-refused : goal.returns-then-pos-before-clause-refused
returns-then-pos-before-clause-refused g c =
    item_wrote c.in_ok-resolver.ensures.serialized (begins_less _ _ c.serialize.ensures.goes_on.kept
    (λ e. c.if-pos-before.true (c.pos.ensures ∙ g.met.S.Writer.position_law _ ∙ e ∙ sym (g.met.S.Writer.position_law _) ∙ sym c.pos-before.ensures)))

pub returns-in_err-resolve_next-clause-goes_on : goal.returns-in_err-resolve_next-clause-goes_on
returns-in_err-resolve_next-clause-goes_on g c = goes_both _ _ _ c.serialize.ensures.goes_on c.resolve_next.ensures.goes_on

pub returns-in_err-resolve_next-clause-refused : goal.returns-in_err-resolve_next-clause-refused
returns-in_err-resolve_next-clause-refused g c = err_by c.from_residual-in_err-resolve_next.result c.in_err-resolve_next.field-0.0 _ c.from_residual-in_err-resolve_next.ensures.1
    (not_resolved c.in_ok-resolver.ensures.serialized
    (begins_silent _ _ c.serialize.ensures.goes_on.kept (sym (g.met.S.Writer.position_law _) ∙ sym c.pos.ensures ∙ c.if-pos-before.false ∙ c.pos-before.ensures ∙ g.met.S.Writer.position_law _))
    c.in_err-resolve_next.ensures.refused)

pub returns-clause-goes_on : goal.returns-clause-goes_on
returns-clause-goes_on g c = goes_both _ _ _ c.serialize.ensures.goes_on c.resolve_next.ensures.goes_on

pub returns-clause-written : goal.returns-clause-written
returns-clause-written g c = record {
  resolver = c.in_ok-resolver.resolver;
  mid = _;
  serialized = c.in_ok-resolver.ensures.serialized;
  same = c.in_ok-resolver.ensures.same_value;
  silent = begins_silent _ _ c.serialize.ensures.goes_on.kept (sym (g.met.S.Writer.position_law _) ∙ sym c.pos.ensures ∙ c.if-pos-before.false ∙ c.pos-before.ensures ∙ g.met.S.Writer.position_law _);
  puts = c.in_ok-resolve_next.ensures.region;
}
