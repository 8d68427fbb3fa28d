use Rattle.std.proofs.Common.{All, length}
use Rattle.std.proofs.lemmas.List.Elements.{All-nil, All-push, All-same, All-take}
use Rattle.archive_inspect.specs.Described.{IsReached, IsPiece}
use Rattle.archive_inspect.proofs.Described.{root_reached, reached_whole}
use Rattle.archive_inspect.proofs.describe.parts_of.Goals as goal

pub loop-init : goal.loop-init
loop-init c =
    let f = c.args.form.now.schema in
    let bytes = c.args.bytes.now in
    let root = c.args.root in
    let none : All (IsReached f bytes root) c.new-holders.result.items = All-same (IsReached f bytes root) _ _ c.new-holders.ensures.items (All-nil (IsReached f bytes root)) in
    let start : IsReached f bytes root c.in-Some.start = root_reached f bytes root c.in-Some.start c.in-Some.ensures in (
      All-same (IsReached f bytes root) _ _ c.in_ok-push.ensures.items (All-push (IsReached f bytes root) c.new-holders.result.items c.in-Some.start none start),
      All-same (IsPiece f bytes root) _ _ c.new-parts.ensures.items (All-nil (IsPiece f bytes root)),
    )

pub reached_by-requires : goal.reached_by-requires
reached_by-requires c =
    let P = IsReached c.args.form.now.schema c.args.bytes.now c.args.root in
    All-same P _ _ c.deref.ensures.value (All-same P _ _ c.truncate.ensures.items (All-take P (length c.holders-frames.result.now) c.loop.holders.items c.loop.invariant.0))

pub loop-preserved : goal.loop-preserved
loop-preserved c =
    let f = c.args.form.now.schema in
    let bytes = c.args.bytes.now in
    let root = c.args.root in
    let P = IsReached f bytes root in
    let point = c.in-Some-reached_by.point in
    let way = c.in-Some-reached_by.ensures in
    let kept : All P c.truncate.new.self.items = All-same P _ _ c.truncate.ensures.items (All-take P (length c.holders-frames.result.now) c.loop.holders.items c.loop.invariant.0) in
    (c.in_ok-keep_holder.ensures f bytes root kept (reached_whole f bytes root c.in_ok-way.way point way), c.in_ok-add_part.ensures root c.loop.invariant.1 way)
