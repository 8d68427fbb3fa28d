use Rattle.std.proofs.Common.{rules, refl, sym}
use Rattle.archive_check.specs.Members.PartsLayout.{knows_left, knows_right}
use Rattle.archive_check.proofs.Reading.ReadVariants.{case_read_back, case_refuses}
use Rattle.archive_enum.specs.Choices.{up_first}
use Rattle.archive_types.proofs.Planning.Causes.{err_by}
use Rattle.archive_types.proofs.result.ArchivedResultDeserializeResult.deserialize_part.Goals as goal

pub returns-in_err-deserialize-in-Ok : goal.returns-in_err-deserialize-in-Ok
returns-in_err-deserialize-in-Ok g c = record {
  read = search rules;
  refused =
      let L = g.A.Portable.layout in
      err_by c.from_residual.result c.in_err-deserialize-in-Ok.field-0.0 _ c.from_residual.ensures.1
      (case_refuses _ _ (λ s k. knows_left s _ _ k) _ _ 0 _ refl L g.met.A.Portable.has_layout c.args.part.bytes.now c.args.part.pos _ L.align (sym (up_first L.align g.met.A.Portable.is_align))
      (rw (c.at-view.ensures.buffer, c.at-view.ensures.position) at c.in-Ok.ensures.tag) _ _
      (rw (c.in-Ok.ensures.buffer, c.in-Ok.ensures.position, c.in-Ok.ensures.length, c.at-view.ensures.buffer, c.at-view.ensures.position, g.met.A.Portable.is_one) at c.in_err-deserialize-in-Ok.ensures.refused));
}

pub returns-in_err-deserialize-in-Err : goal.returns-in_err-deserialize-in-Err
returns-in_err-deserialize-in-Err g c = record {
  read = search rules;
  refused =
      let L = g.B.Portable.layout in
      err_by c.from_residual-in_err-deserialize-in-Err.result c.in_err-deserialize-in-Err.field-0.0 _ c.from_residual-in_err-deserialize-in-Err.ensures.1
      (case_refuses _ _ (λ s k. knows_right s _ _ k) _ _ 1 _ refl L g.met.B.Portable.has_layout c.args.part.bytes.now c.args.part.pos _ L.align (sym (up_first L.align g.met.B.Portable.is_align))
      (rw (c.at-view.ensures.buffer, c.at-view.ensures.position) at c.in-Err.ensures.tag) _ _
      (rw (c.in-Err.ensures.buffer, c.in-Err.ensures.position, c.in-Err.ensures.length, c.at-view.ensures.buffer, c.at-view.ensures.position, g.met.B.Portable.is_one) at c.in_err-deserialize-in-Err.ensures.refused));
}

pub returns-in_ok-deserialize-in-Ok : goal.returns-in_ok-deserialize-in-Ok
returns-in_ok-deserialize-in-Ok g c = record {
  read =
      let L = g.A.Portable.layout in
      case_read_back _ _ (λ s k. knows_left s _ _ k) _ _ 0 _ refl L g.met.A.Portable.has_layout c.args.part.bytes.now c.args.part.pos _ L.align (sym (up_first L.align g.met.A.Portable.is_align))
      (rw (c.at-view.ensures.buffer, c.at-view.ensures.position) at c.in-Ok.ensures.tag) _ _ _ _
      (rw (c.in-Ok.ensures.buffer, c.in-Ok.ensures.position, c.in-Ok.ensures.length, c.at-view.ensures.buffer, c.at-view.ensures.position, g.met.A.Portable.is_one) at c.in_ok-deserialize-in-Ok.ensures.read);
  refused = search rules;
}

pub returns-in_ok-deserialize-in-Err : goal.returns-in_ok-deserialize-in-Err
returns-in_ok-deserialize-in-Err g c = record {
  read =
      let L = g.B.Portable.layout in
      case_read_back _ _ (λ s k. knows_right s _ _ k) _ _ 1 _ refl L g.met.B.Portable.has_layout c.args.part.bytes.now c.args.part.pos _ L.align (sym (up_first L.align g.met.B.Portable.is_align))
      (rw (c.at-view.ensures.buffer, c.at-view.ensures.position) at c.in-Err.ensures.tag) _ _ _ _
      (rw (c.in-Err.ensures.buffer, c.in-Err.ensures.position, c.in-Err.ensures.length, c.at-view.ensures.buffer, c.at-view.ensures.position, g.met.B.Portable.is_one) at c.in_ok-deserialize-in-Err.ensures.read);
  refused = search rules;
}
