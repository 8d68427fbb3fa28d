use Rattle.std.proofs.Common.{[], ◌∷◌, length, length-append, refl, ◌∙◌, arith}
use Rattle.archive_types.specs.ItemsWritten.{not_aligned, too_far, too_many, one_refused}
use Rattle.archive_types.proofs.Planning.Causes.{err_by, goes_both, goes_written}
use Rattle.archive_types.proofs.Writing.ItemsLaid.{items_serialized, laid_none, laid_more, yields_more, no_more}
use Rattle.archive_types.proofs.vec.ArchivedVec.serialize_from_unknown_length_iter.Goals as goal

pub returns-in_err-pos-clause-refused : goal.returns-in_err-pos-clause-refused
returns-in_err-pos-clause-refused g c = err_by c.from_residual.result c.in_err-pos.field-0.0 _ c.from_residual.ensures.1
    (not_aligned (rw (g.met.S.Writer.position_law c.args.serializer.now) at c.in_err-pos.ensures.refusal))

pub returns-in_err-pos-2-clause-refused : goal.returns-in_err-pos-2-clause-refused
returns-in_err-pos-2-clause-refused g c =
    err_by c.from_residual-in_err-pos-2.result c.in_err-pos-2.field-0.0 _ c.from_residual-in_err-pos-2.ensures.1
    (rw (c.in_err-pos-2.ensures.refused.0) (too_far c.in_ok-pos.ensures.padded (omega (arith, c.in_err-pos-2.ensures.refused.1, c.in_ok-pos.ensures.position, g.met.S.Writer.position_law c.align_for.new.self))))

pub loop-item-init : goal.loop-item-init
loop-item-init g c = record {
  can_next = rw (c.into_iter-item-iterator.ensures.into_iter_gives) c.requires.can;
  finite = rw (c.into_iter-item-iterator.ensures.into_iter_gives) c.requires.ends;
  goes = goes_written _ _ _ c.in_ok-pos.ensures.written c.in_ok-pos.ensures.room c.in_ok-pos.ensures.device c.in_ok-pos.ensures.keys;
  counted = refl;
  few = omega arith;
  laid = laid_none _ _ _ _ _ _ _ _ _ _ c.in_ok-pos.ensures.padded (c.in_ok-pos-2.ensures.same ∙ c.in_ok-pos.ensures.position ∙ g.met.S.Writer.position_law c.align_for.new.self);
}

pub returns-in_default-clause-refused : goal.returns-in_default-clause-refused
returns-in_default-clause-refused g c =
    too_many c.loop-item.yielded c.in-Some.item c.in_ok-pos-2.pos (c.next.new.self, yields_more g.I.Iterator.next_gives c.args.iter c.loop-item.item-iterator c.next.new.self c.loop-item.yielded c.in-Some.item (rw (c.into_iter-item-iterator.ensures.into_iter_gives) at c.loop-item.yielded_by) c.in-Some.ensures.steps)
    c.loop-item.invariant.laid (no_more c.loop-item.count _ c.loop-item.invariant.counted c.in_default.ensures)

pub returns-in_err-write_item-clause-goes_on : goal.returns-in_err-write_item-clause-goes_on
returns-in_err-write_item-clause-goes_on g c = goes_both _ _ _ c.loop-item.invariant.goes c.write_item.ensures.goes_on

pub returns-in_err-write_item-clause-refused : goal.returns-in_err-write_item-clause-refused
returns-in_err-write_item-clause-refused g c = err_by c.from_residual-in_err-write_item.result c.in_err-write_item.field-0.0 _ c.from_residual-in_err-write_item.ensures.1
    (one_refused c.loop-item.yielded c.in-Some.item c.in_ok-pos-2.pos (g.S.Keys.state c.loop-item.serializer)
    (c.next.new.self, yields_more g.I.Iterator.next_gives c.args.iter c.loop-item.item-iterator c.next.new.self c.loop-item.yielded c.in-Some.item (rw (c.into_iter-item-iterator.ensures.into_iter_gives) at c.loop-item.yielded_by) c.in-Some.ensures.steps)
    c.loop-item.invariant.laid c.in_err-write_item.ensures.refused)

pub loop-item-preserved : goal.loop-item-preserved
loop-item-preserved g c =
    let later = c.in-Some.ensures.goes.on c.loop-item.invariant.finite in
    let sizes = length-append c.loop-item.yielded (c.in-Some.item ∷ []) in
    let added = c.in-Some-checked_add.ensures in
    record {
      can_next = later.0;
      finite = later.1;
      goes = goes_both _ _ _ c.loop-item.invariant.goes c.write_item.ensures.goes_on;
      counted = omega (arith, added.1, c.loop-item.invariant.counted, sizes);
      few = omega (arith, added.0, c.loop-item.invariant.counted, sizes);
      laid = laid_more _ _ _ _ _ _ _ c.loop-item.yielded c.in-Some.item c.in_ok-pos-2.pos _ _ _ c.loop-item.invariant.laid c.in_ok-write_item.ensures.written;
    }

pub returns-clause-stored : goal.returns-clause-stored
returns-clause-stored g c = (
  c.loop-item.yielded,
  (c.next.new.self, (c.loop-item.item-iterator, rw (c.into_iter-item-iterator.ensures.into_iter_gives) at c.loop-item.yielded_by, c.in-None.ensures.steps)),
  c.loop-item.invariant.few,
  rw (c.from_pos.ensures) c.loop-item.invariant.laid,
  λ own. rw (c.from_pos.ensures) (items_serialized _ _ _ _ _ _ _ c.loop-item.yielded c.in_ok-pos-2.pos _ _ g.met.T.Portable.has_layout c.loop-item.invariant.laid own),
)
