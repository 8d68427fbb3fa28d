use Rattle.std.proofs.Common.{rules, refl, sym}
use Rattle.archive_check.proofs.Reading.ReadVariants.{case_read_back, case_refuses, empty_case_read_back}
use Rattle.archive_enum.specs.Choices.{up_first}
use Rattle.archive_types.proofs.Planning.Causes.{err_by}
use Rattle.archive_types.proofs.option.ArchivedOptionDeserializeOption.deserialize_part.Goals as goal

pub returns-in_err-deserialize-in-Some : goal.returns-in_err-deserialize-in-Some
returns-in_err-deserialize-in-Some g c = record {
  read = search rules;
  refused =
      let L = g.A.Portable.layout in
      err_by c.from_residual.result c.in_err-deserialize-in-Some.field-0.0 _ c.from_residual.ensures.1
      (case_refuses _ _ (λ s k. k) _ _ 1 _ refl L g.met.A.Portable.has_layout c.args.part.bytes.now c.args.part.pos _ L.align (sym (up_first L.align g.met.A.Portable.is_align))
      (rw (c.at-view.ensures.buffer, c.at-view.ensures.position) at c.in-Some.ensures.tag) _ _
      (rw (c.in-Some.ensures.buffer, c.in-Some.ensures.position, c.in-Some.ensures.length, c.at-view.ensures.buffer, c.at-view.ensures.position, g.met.A.Portable.is_one) at c.in_err-deserialize-in-Some.ensures.refused));
}

pub returns-in-None : goal.returns-in-None
returns-in-None g c = record {
  read =
      empty_case_read_back _ _ _ 0 refl c.args.part.bytes.now c.args.part.pos _ (rw (c.at-view.ensures.buffer, c.at-view.ensures.position) at c.in-None.ensures.tag) _ _ refl;
  refused = search rules;
}

pub returns-in_ok-deserialize-in-Some : goal.returns-in_ok-deserialize-in-Some
returns-in_ok-deserialize-in-Some g c = record {
  read =
      let L = g.A.Portable.layout in
      case_read_back _ _ (λ s k. k) _ _ 1 _ refl L g.met.A.Portable.has_layout c.args.part.bytes.now c.args.part.pos _ L.align (sym (up_first L.align g.met.A.Portable.is_align))
      (rw (c.at-view.ensures.buffer, c.at-view.ensures.position) at c.in-Some.ensures.tag) _ _ _ _
      (rw (c.in-Some.ensures.buffer, c.in-Some.ensures.position, c.in-Some.ensures.length, c.at-view.ensures.buffer, c.at-view.ensures.position, g.met.A.Portable.is_one) at c.in_ok-deserialize-in-Some.ensures.read);
  refused = search rules;
}
