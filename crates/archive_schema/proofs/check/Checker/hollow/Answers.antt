use Rattle.std.proofs.Common.{rules, ap, ◌∙◌, ◌≡◌, ◌+◌, ◌-◌, arith, slice_index_or}
use Rattle.archive_schema.specs.declared.plan.NodeKind.TheVariants.{Pointer as PointerNode}
use Rattle.archive_schema.specs.check.Runs.{IsNode}
use Rattle.archive_check.proofs.Checks.TestedAnswers.{is_true}
use Rattle.archive_check.proofs.Elements.{at_default}
use Rattle.archive_schema.proofs.check.HollowRecords.{last_known, pointee_known}
use Rattle.archive_schema.proofs.check.TurnInvariants.{kind_fits, node_there}
use Rattle.archive_schema.proofs.check.Checker.hollow.Goals as goal

pub offset_bounds-self-part : goal.offset_bounds-self-part
offset_bounds-self-part c =
    let fits = (kind_fits c.requires.plan.sound (node_there c.requires.takes c.index-self-node.is c.in-Record.is) c.requires.takes).1 in
    let h = last_known c.requires.takes fits c.if-first-last.false in search rules

pub bounds-self-part : goal.bounds-self-part
bounds-self-part c =
    let fits = (kind_fits c.requires.plan.sound (node_there c.requires.takes c.index-self-node.is c.in-Record.is) c.requires.takes).1 in
    last_known c.requires.takes fits c.if-first-last.false

pub offset_bounds-self-pointee : goal.offset_bounds-self-pointee
offset_bounds-self-pointee c =
    let m = c.args.self.now in
    let last = c.in-Record.last - 1 in
    let fits = (kind_fits c.requires.plan.sound (node_there c.requires.takes c.index-self-node.is c.in-Record.is) c.requires.takes).1 in
    let at = at_default m.parts.now last (record { offset = 0; node = 0 }) (omega (arith, fits.last, c.if-first-last.false)) in
    let pointer : IsNode m (slice_index_or m.parts.now last (record { offset = 0; node = 0 })).node (PointerNode c.in-Pointer.target c.in-Pointer.pointee) =
    record { node = c.index-self-part.result; at = record { below = last_known c.requires.takes fits c.if-first-last.false; is = c.index-self-part.is }; kind_is = ap (λ q. q.kind) c.index-self-part.is ∙ c.in-Pointer.is } in
    let h = pointee_known c.requires.plan.sound fits c.if-first-last.false at pointer in search rules

pub bounds-self-pointee : goal.bounds-self-pointee
bounds-self-pointee c =
    let m = c.args.self.now in
    let last = c.in-Record.last - 1 in
    let fits = (kind_fits c.requires.plan.sound (node_there c.requires.takes c.index-self-node.is c.in-Record.is) c.requires.takes).1 in
    let at = at_default m.parts.now last (record { offset = 0; node = 0 }) (omega (arith, fits.last, c.if-first-last.false)) in
    let pointer : IsNode m (slice_index_or m.parts.now last (record { offset = 0; node = 0 })).node (PointerNode c.in-Pointer.target c.in-Pointer.pointee) =
    record { node = c.index-self-part.result; at = record { below = last_known c.requires.takes fits c.if-first-last.false; is = c.index-self-part.is }; kind_is = ap (λ q. q.kind) c.index-self-part.is ∙ c.in-Pointer.is } in
    pointee_known c.requires.plan.sound fits c.if-first-last.false at pointer

pub returns-then-is_span_free : goal.returns-then-is_span_free
returns-then-is_span_free c =
    let m = c.args.self.now in
    let last = c.in-Record.last - 1 in
    let is = node_there c.requires.takes c.index-self-node.is c.in-Record.is in
    let fits = (kind_fits c.requires.plan.sound is c.requires.takes).1 in
    let same : last + 1 ≡ c.in-Record.last = omega (arith, c.if-first-last.false) in
    let at = at_default m.parts.now last (record { offset = 0; node = 0 }) (omega (arith, fits.last, c.if-first-last.false)) in
    let pointer : IsNode m (slice_index_or m.parts.now last (record { offset = 0; node = 0 })).node (PointerNode c.in-Pointer.target c.in-Pointer.pointee) =
    record { node = c.index-self-part.result; at = record { below = last_known c.requires.takes fits c.if-first-last.false; is = c.index-self-part.is }; kind_is = ap (λ q. q.kind) c.index-self-part.is ∙ c.in-Pointer.is } in
    record {
      record_is = rw same is;
      order = omega (arith, c.if-first-last.false);
      part = at;
      pointer_is = rw c.in-Run.is at pointer;
      align_is = record { node = c.index-self-pointee.result; at = record { below = pointee_known c.requires.plan.sound fits c.if-first-last.false at pointer; is = c.index-self-pointee.is }; align_is = ap (λ q. q.align) c.index-self-pointee.is };
      shallow = λ other. cc;
      free = λ same. c.is_span_free.ensures (is_true c.is_span_free.result c.if-is_span_free.true);
    }

pub returns : goal.returns
returns c =
    let m = c.args.self.now in
    let last = c.in-Record.last - 1 in
    let is = node_there c.requires.takes c.index-self-node.is c.in-Record.is in
    let fits = (kind_fits c.requires.plan.sound is c.requires.takes).1 in
    let same : last + 1 ≡ c.in-Record.last = omega (arith, c.if-first-last.false) in
    let at = at_default m.parts.now last (record { offset = 0; node = 0 }) (omega (arith, fits.last, c.if-first-last.false)) in
    let pointer : IsNode m (slice_index_or m.parts.now last (record { offset = 0; node = 0 })).node (PointerNode c.in-Pointer.target c.in-Pointer.pointee) =
    record { node = c.index-self-part.result; at = record { below = last_known c.requires.takes fits c.if-first-last.false; is = c.index-self-part.is }; kind_is = ap (λ q. q.kind) c.index-self-part.is ∙ c.in-Pointer.is } in
    record {
      record_is = rw same is;
      order = omega (arith, c.if-first-last.false);
      part = at;
      pointer_is = rw c.in-Run.is at pointer;
      align_is = record { node = c.index-self-pointee.result; at = record { below = pointee_known c.requires.plan.sound fits c.if-first-last.false at pointer; is = c.index-self-pointee.is }; align_is = ap (λ q. q.align) c.index-self-pointee.is };
      shallow = λ same. c.is_span_shallow.ensures.sound (is_true c.is_span_shallow.result c.if-not-is_span_shallow.false);
      free = λ other. cc;
    }
