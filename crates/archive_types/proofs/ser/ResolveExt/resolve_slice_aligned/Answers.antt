use Rattle.std.proofs.Common.{rules, ◌≡◌, ◌∙◌, sym, refl, length, arith}
use Rattle.std.proofs.lemmas.Grind.{common_steps}
use Rattle.archive_types.proofs.Planning.Causes.{goes_nowhere}
use Rattle.archive_types.proofs.Writing.RunRegions.{run_too_large, ends_above, puts_nothing}
use Rattle.archive_types.proofs.ser.ResolveExt.resolve_slice_aligned.Goals as goal

pub returns-then-not-run_fits-clause-outcome : goal.returns-then-not-run_fits-clause-outcome
returns-then-not-run_fits-clause-outcome g c = record {
  put = search rules;
  refused = run_too_large g.T.Archived.ArchivePointee.definitions g.T.Archived.Portable.shape g.T.Archived.Portable.layout _ _ _ _
      (ends_above _ _ _ _ _ _ c.run_fits.ensures.1 c.if-not-run_fits.true c.size-size.ensures (c.pos-pos.ensures ∙ g.met.Self.Writer.position_law _));
  goes_on = search rules;
  keys = search rules;
}

pub returns-then-is_empty-clause-outcome : goal.returns-then-is_empty-clause-outcome
returns-then-is_empty-clause-outcome g c =
    let none : length c.args.values.now ≡ 0 = grind (arith, common_steps) in
    record {
      put = puts_nothing _ _ _ _ _ c.args.values.now c.args.resolvers.items g.met.T.Archived.Portable.has_layout none;
      refused = search rules;
      goes_on = goes_nowhere _;
      keys = λ k. refl;
    }
