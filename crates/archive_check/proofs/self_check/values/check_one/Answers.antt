use Rattle.std.proofs.Common.{sym, ◌∙◌, None}
use Rattle.std.proofs.lemmas.Int.{to_z-of_z}
use mir.Syntax.{w128}
use Rattle.archive_check.specs.Shape.{one}
use Rattle.archive_check.specs.Value.{Pointer}
use Rattle.archive_check.specs.SelfCheck.Ways.{shape_way}
use Rattle.archive_check.specs.SelfCheck.Regions.{contents_way, align_some}
use Rattle.archive_check.proofs.SelfCheck.Outcomes.{some_map, none_map}
use Rattle.archive_check.proofs.SelfCheck.Ways.{goes_from, halts_from}
use Rattle.archive_check.proofs.SelfCheck.Regions.{enters_not, region_goes, region_left, region_halts}
use Rattle.archive_check.proofs.SelfCheck.Layouts.{its_size, its_align}
use Rattle.archive_check.proofs.SelfCheck.Steps.{one_way}
use Rattle.archive_check.proofs.BoundedSizes.{some_is}
use Rattle.archive_check.proofs.SelfCheck.Spent.{region_spends, left_spends}
use Rattle.archive_check.proofs.self_check.values.check_one.Goals as goal

pub enter-requires : goal.enter-requires
enter-requires g c = rw c.align.ensures (align_some _ g.met.T.Portable.is_align)

pub returns-in_err-region-clause-stops : goal.returns-in_err-region-clause-stops
returns-in_err-region-clause-stops g c d =
    let D = g.T.ArchivePointee.definitions in
    let X = g.T.Portable.shape in
    let L = g.T.Portable.layout in
    let laid = g.met.T.Portable.has_layout in
    let p : Pointer = record { target = c.args.position; sharing = None; order = None; pointee = one X; length = 0 } in
    let s = g.C.Context.state c.args.context.now in
    rw c.from_residual.ensures (enters_not D c.args.bytes.now p L.size c.align.result (its_size D X L laid) (its_align D X L laid c.align.result c.align.ensures) s c.whole_size.result c.enter.new.refusal (c.whole_size.ensures (sym c.is_direct.ensures ∙ c.if-not-is_direct.false)) (rw (to_z-of_z w128 c.args.position c.ranges.position) at c.in_err-region.ensures.stops))

pub returns-in_err-check_value-clause-stops : goal.returns-in_err-check_value-clause-stops
returns-in_err-check_value-clause-stops g c d =
    let D = g.T.ArchivePointee.definitions in
    let X = g.T.Portable.shape in
    let L = g.T.Portable.layout in
    let laid = g.met.T.Portable.has_layout in
    let b = c.args.bytes.now in
    let p : Pointer = record { target = c.args.position; sharing = None; order = None; pointee = one X; length = 0 } in
    let s = g.C.Context.state c.args.context.now in
    let s1 = g.C.Context.state c.enter.new.context in
    let r = c.in_ok-region.region in
    let h = rw (to_z-of_z w128 c.args.position c.ranges.position) at c.in_ok-region.ensures.entered in
    rw c.from_residual-in_err-check_value.ensures (region_halts D b p L.size c.align.result (its_size D X L laid) (its_align D X L laid c.align.result c.align.ensures) s s1 r (sym h.0 ∙ (c.whole_size.ensures (sym c.is_direct.ensures ∙ c.if-not-is_direct.false))) h.1 c.check_value.new.refusal
    (halts_from D D (shape_way b r.begin X) (contents_way b r.begin None (one X) 0) s1 (λ t k. k) (λ t k pending seen o. one_way b t pending s1.depth s1.end s1.start seen r.begin 0 X o) c.check_value.new.refusal (c.in_err-check_value.ensures.stops d)))

pub returns-clause-through : goal.returns-clause-through
returns-clause-through g c =
    let D = g.T.ArchivePointee.definitions in
    let X = g.T.Portable.shape in
    let L = g.T.Portable.layout in
    let laid = g.met.T.Portable.has_layout in
    let b = c.args.bytes.now in
    let p : Pointer = record { target = c.args.position; sharing = None; order = None; pointee = one X; length = 0 } in
    let s = g.C.Context.state c.args.context.now in
    let s1 = g.C.Context.state c.enter.new.context in
    let s2 = g.C.Context.state c.check_value.new.context in
    let s3 = g.C.Context.state c.leave.new.context in
    let r = c.in_ok-region.region in
    let h = rw (to_z-of_z w128 c.args.position c.ranges.position) at c.in_ok-region.ensures.entered in
    let goes = goes_from D D (shape_way b r.begin X) (contents_way b r.begin None (one X) 0) s1 (λ t k. k) (λ t k pending seen o. one_way b t pending s1.depth s1.end s1.start seen r.begin 0 X o) s2 c.in_ok-check_value.ensures.through in
    some_map c.leave.result (region_goes D b p L.size c.align.result (its_size D X L laid) (its_align D X L laid c.align.result c.align.ensures) s s1 r (sym h.0 ∙ (c.whole_size.ensures (sym c.is_direct.ensures ∙ c.if-not-is_direct.false))) h.1 s2 s3 goes) c.leave.ensures.left

pub returns-clause-stops : goal.returns-clause-stops
returns-clause-stops g c d =
    let D = g.T.ArchivePointee.definitions in
    let X = g.T.Portable.shape in
    let L = g.T.Portable.layout in
    let laid = g.met.T.Portable.has_layout in
    let b = c.args.bytes.now in
    let p : Pointer = record { target = c.args.position; sharing = None; order = None; pointee = one X; length = 0 } in
    let s = g.C.Context.state c.args.context.now in
    let s1 = g.C.Context.state c.enter.new.context in
    let s2 = g.C.Context.state c.check_value.new.context in
    let r = c.in_ok-region.region in
    let h = rw (to_z-of_z w128 c.args.position c.ranges.position) at c.in_ok-region.ensures.entered in
    let goes = goes_from D D (shape_way b r.begin X) (contents_way b r.begin None (one X) 0) s1 (λ t k. k) (λ t k pending seen o. one_way b t pending s1.depth s1.end s1.start seen r.begin 0 X o) s2 c.in_ok-check_value.ensures.through in
    none_map c.leave.result (region_left D b p L.size c.align.result (its_size D X L laid) (its_align D X L laid c.align.result c.align.ensures) s s1 r (sym h.0 ∙ (c.whole_size.ensures (sym c.is_direct.ensures ∙ c.if-not-is_direct.false))) h.1 s2 c.leave.new.refusal goes) c.leave.ensures.refused

-- what is spent

pub returns-in_err-check_value-clause-spends : goal.returns-in_err-check_value-clause-spends
returns-in_err-check_value-clause-spends g c =
    let size = some_is (sym (sym c.in_ok-region.ensures.entered.0 ∙ c.whole_size.ensures (sym c.is_direct.ensures ∙ c.if-not-is_direct.false))) in
    region_spends (g.C.Context.state c.check_value.new.context) g.T.Portable.layout.size c.in_ok-region.ensures.entered.1 c.in_ok-region.ensures.pushes size c.in_err-check_value.ensures.spends

pub returns-clause-spends : goal.returns-clause-spends
returns-clause-spends g c =
    let size = some_is (sym (sym c.in_ok-region.ensures.entered.0 ∙ c.whole_size.ensures (sym c.is_direct.ensures ∙ c.if-not-is_direct.false))) in
    left_spends (g.C.Context.state c.check_value.new.context) (g.C.Context.state c.leave.new.context) g.T.Portable.layout.size c.leave.result c.in_ok-region.ensures.entered.1 c.in_ok-region.ensures.pushes size c.in_ok-check_value.ensures.spends c.in_ok-check_value.ensures.through.end c.leave.ensures.left c.leave.ensures.unchanged
