use Rattle.std.proofs.Common.{◌≡◌, length, arith}
use Rattle.std.proofs.lemmas.Grind.{common_steps}
use Rattle.archive_types.proofs.Planning.Causes.{err_by}
use Rattle.archive_types.proofs.Copying.Copies.{copies_step, copies_broken, cut_at, copies_written, copies_read}
use Rattle.archive_types.proofs.slice.copying.copy_by.Goals as goal

pub returns-in_err-write_piece-clause-refused : goal.returns-in_err-write_piece-clause-refused
returns-in_err-write_piece-clause-refused g c = err_by c.from_residual.result c.in_err-write_piece.field-0.0 _ c.from_residual.ensures.1
    (copies_broken _ _ _ _ _ _ _ _ _ _ _ _ _ _ _ _ (cut_at _ _ _ _ c.split_at.ensures.front c.split_at.ensures.back) (g.met.W.Writer.position_law _) c.requires.same
    c.loop-rest.invariant.copies c.write_piece.ensures.goes_on (g.met.W.Writer.position_law _) c.in_err-write_piece.ensures.refused)

pub loop-rest-preserved : goal.loop-rest-preserved
loop-rest-preserved g c = record {
  copies = copies_step _ _ _ _ _ _ _ _ _ _ _ _ (cut_at _ _ _ _ c.split_at.ensures.front c.split_at.ensures.back) c.loop-rest.invariant.copies c.write_piece.ensures.read c.in_ok-write_piece.ensures.copied c.write_piece.ensures.goes_on c.write_piece.ensures.keys;
}

pub returns-clause-copied : goal.returns-clause-copied
returns-clause-copied g c =
    let none : length c.loop-rest.rest.now ≡ 0 = grind (arith, common_steps) in
    copies_written _ _ _ _ _ _ _ _ _ none c.loop-rest.invariant.copies

pub returns-clause-read : goal.returns-clause-read
returns-clause-read g c =
    let none : length c.loop-rest.rest.now ≡ 0 = grind (arith, common_steps) in
    rw (c.requires.same) (copies_read _ _ _ _ _ _ _ _ _ none c.loop-rest.invariant.copies)
