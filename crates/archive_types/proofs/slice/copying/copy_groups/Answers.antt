use Rattle.std.proofs.Common.{rules, ap, ◌∙◌, subst, length}
use Rattle.archive_types.specs.Copies.{IsCopyRefused, copies_from, copies_to}
use Rattle.archive_types.proofs.Planning.Causes.{err_by}
use Rattle.archive_types.proofs.Copying.Copies.{are_copied, each_owns_nothing}
use Rattle.archive_types.proofs.slice.copying.copy_groups.Goals as goal

pub returns-clause-outcome : goal.returns-clause-outcome
returns-clause-outcome g c = record {
  serialized = search rules;
  in_bulk = (
    c.in_ok-pos.ensures.position ∙ ap (copies_from g.T.CopiedAs.Portable.layout) (g.met.S.Writer.position_law _),
    are_copied _ _ g.T.CopiedAs.Portable.layout _ _ _ _ _ _ _ g.met.T.CopiedAs.Portable.has_layout c.copied_size-size.ensures.owns_nothing c.copied_size-size.ensures.size c.in_ok-pos.ensures.read
        c.in_ok-pos.ensures.copied c.in_ok-pos.ensures.keys,
  );
  untouched = search rules;
  goes_on = search rules;
  fails_on = search rules;
  refused = search rules;
  not_in_bulk = search rules;
}

pub returns-in_err-pos-clause-outcome : goal.returns-in_err-pos-clause-outcome
returns-in_err-pos-clause-outcome g c = record {
  serialized = search rules;
  in_bulk = search rules;
  untouched = search rules;
  goes_on = search rules;
  fails_on = search rules;
  refused = search rules;
  not_in_bulk = err_by c.from_residual.result c.in_err-pos.field-0.0 _ c.from_residual.ensures.1 (
    each_owns_nothing _ _ _ _ c.copied_size-size.ensures.owns_nothing _,
    subst (λ n. IsCopyRefused (copies_to g.T.CopiedAs.Portable.layout (length c.args.values.now) n) (g.S.Keys.state c.args.serializer.now) (g.S.Keys.state c.copy_together.new.serializer) c.in_err-pos.field-0.0) (g.met.S.Writer.position_law _) c.in_err-pos.ensures.cause,
  );
}
