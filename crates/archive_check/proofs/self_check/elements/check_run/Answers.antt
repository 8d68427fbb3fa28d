use Rattle.std.proofs.Common.{ap, sym, ◌∙◌, ◌*◌, None}
use Rattle.std.proofs.lemmas.Int.{to_z-of_z}
use mir.Syntax.{w128}
use Rattle.archive_check.specs.Shape.{run}
use Rattle.archive_check.specs.Value.{Pointer}
use Rattle.archive_check.specs.SelfCheck.Ways.{run_way}
use Rattle.archive_check.specs.SelfCheck.Regions.{contents_way, align_some}
use Rattle.archive_check.proofs.SelfCheck.Outcomes.{some_map, none_map}
use Rattle.archive_check.proofs.SelfCheck.Ways.{goes_from, halts_from}
use Rattle.archive_check.proofs.SelfCheck.Regions.{enters_not, region_goes, region_left, region_halts}
use Rattle.archive_check.proofs.SelfCheck.Layouts.{its_size, its_align, times_is}
use Rattle.archive_check.proofs.SelfCheck.Steps.{many_way}
use Rattle.archive_check.proofs.BoundedSizes.{some_is}
use Rattle.archive_check.proofs.SelfCheck.Spent.{region_spends, left_spends}
use Rattle.archive_check.proofs.self_check.elements.check_run.Goals as goal

pub enter-requires : goal.enter-requires
enter-requires g c = rw c.align.ensures (align_some _ g.met.T.Portable.is_align)

pub returns-in_err-region-clause-stops : goal.returns-in_err-region-clause-stops
returns-in_err-region-clause-stops g c d =
    let D = g.T.ArchivePointee.definitions in
    let X = g.T.Portable.shape in
    let L = g.T.Portable.layout in
    let laid = g.met.T.Portable.has_layout in
    let p : Pointer = record { target = c.args.position; sharing = None; order = None; pointee = run X; length = c.args.count } in
    let s = g.C.Context.state c.args.context.now in
    rw c.from_residual.ensures (enters_not D c.args.bytes.now p (c.args.count * L.size) c.align.result (λ t k. ap (λ z. c.args.count * z) (its_size D X L laid t k)) (its_align D X L laid c.align.result c.align.ensures) s c.times-whole.result c.enter.new.refusal (times_is c.whole_size.result c.args.count L.size c.times-whole.result c.times-whole.ensures.total (c.whole_size.ensures (sym c.is_direct.ensures ∙ c.if-not-is_direct.false))) (rw (to_z-of_z w128 c.args.position c.ranges.position) at c.in_err-region.ensures.stops))

pub returns-in_err-check_elements-clause-stops : goal.returns-in_err-check_elements-clause-stops
returns-in_err-check_elements-clause-stops g c d =
    let D = g.T.ArchivePointee.definitions in
    let X = g.T.Portable.shape in
    let L = g.T.Portable.layout in
    let laid = g.met.T.Portable.has_layout in
    let b = c.args.bytes.now in
    let p : Pointer = record { target = c.args.position; sharing = None; order = None; pointee = run X; length = c.args.count } in
    let s = g.C.Context.state c.args.context.now in
    let s1 = g.C.Context.state c.enter.new.context in
    let r = c.in_ok-region.region in
    let h = rw (to_z-of_z w128 c.args.position c.ranges.position) at c.in_ok-region.ensures.entered in
    rw c.from_residual-in_err-check_elements.ensures (region_halts D b p (c.args.count * L.size) c.align.result (λ t k. ap (λ z. c.args.count * z) (its_size D X L laid t k)) (its_align D X L laid c.align.result c.align.ensures) s s1 r (sym h.0 ∙ times_is c.whole_size.result c.args.count L.size c.times-whole.result c.times-whole.ensures.total (c.whole_size.ensures (sym c.is_direct.ensures ∙ c.if-not-is_direct.false))) h.1 c.check_elements.new.refusal
    (halts_from D D (run_way b r.begin c.args.count X) (contents_way b r.begin None (run X) c.args.count) s1 (λ t k. k) (λ t k pending seen o. many_way b t pending s1.depth s1.end s1.start seen r.begin c.args.count X o) c.check_elements.new.refusal (c.in_err-check_elements.ensures.stops d)))

pub returns-clause-through : goal.returns-clause-through
returns-clause-through g c =
    let D = g.T.ArchivePointee.definitions in
    let X = g.T.Portable.shape in
    let L = g.T.Portable.layout in
    let laid = g.met.T.Portable.has_layout in
    let b = c.args.bytes.now in
    let p : Pointer = record { target = c.args.position; sharing = None; order = None; pointee = run X; length = c.args.count } in
    let s = g.C.Context.state c.args.context.now in
    let s1 = g.C.Context.state c.enter.new.context in
    let s2 = g.C.Context.state c.check_elements.new.context in
    let s3 = g.C.Context.state c.leave.new.context in
    let r = c.in_ok-region.region in
    let h = rw (to_z-of_z w128 c.args.position c.ranges.position) at c.in_ok-region.ensures.entered in
    let goes = goes_from D D (run_way b r.begin c.args.count X) (contents_way b r.begin None (run X) c.args.count) s1 (λ t k. k) (λ t k pending seen o. many_way b t pending s1.depth s1.end s1.start seen r.begin c.args.count X o) s2 c.in_ok-check_elements.ensures.through in
    some_map c.leave.result (region_goes D b p (c.args.count * L.size) c.align.result (λ t k. ap (λ z. c.args.count * z) (its_size D X L laid t k)) (its_align D X L laid c.align.result c.align.ensures) s s1 r (sym h.0 ∙ times_is c.whole_size.result c.args.count L.size c.times-whole.result c.times-whole.ensures.total (c.whole_size.ensures (sym c.is_direct.ensures ∙ c.if-not-is_direct.false))) h.1 s2 s3 goes) c.leave.ensures.left

pub returns-clause-stops : goal.returns-clause-stops
returns-clause-stops g c d =
    let D = g.T.ArchivePointee.definitions in
    let X = g.T.Portable.shape in
    let L = g.T.Portable.layout in
    let laid = g.met.T.Portable.has_layout in
    let b = c.args.bytes.now in
    let p : Pointer = record { target = c.args.position; sharing = None; order = None; pointee = run X; length = c.args.count } in
    let s = g.C.Context.state c.args.context.now in
    let s1 = g.C.Context.state c.enter.new.context in
    let s2 = g.C.Context.state c.check_elements.new.context in
    let r = c.in_ok-region.region in
    let h = rw (to_z-of_z w128 c.args.position c.ranges.position) at c.in_ok-region.ensures.entered in
    let goes = goes_from D D (run_way b r.begin c.args.count X) (contents_way b r.begin None (run X) c.args.count) s1 (λ t k. k) (λ t k pending seen o. many_way b t pending s1.depth s1.end s1.start seen r.begin c.args.count X o) s2 c.in_ok-check_elements.ensures.through in
    none_map c.leave.result (region_left D b p (c.args.count * L.size) c.align.result (λ t k. ap (λ z. c.args.count * z) (its_size D X L laid t k)) (its_align D X L laid c.align.result c.align.ensures) s s1 r (sym h.0 ∙ times_is c.whole_size.result c.args.count L.size c.times-whole.result c.times-whole.ensures.total (c.whole_size.ensures (sym c.is_direct.ensures ∙ c.if-not-is_direct.false))) h.1 s2 c.leave.new.refusal goes) c.leave.ensures.refused

-- what is spent

pub returns-in_err-check_elements-clause-spends : goal.returns-in_err-check_elements-clause-spends
returns-in_err-check_elements-clause-spends g c =
    let size = some_is (sym (sym c.in_ok-region.ensures.entered.0 ∙ times_is c.whole_size.result c.args.count g.T.Portable.layout.size c.times-whole.result c.times-whole.ensures.total (c.whole_size.ensures (sym c.is_direct.ensures ∙ c.if-not-is_direct.false)))) in
    region_spends (g.C.Context.state c.check_elements.new.context) (c.args.count * g.T.Portable.layout.size) c.in_ok-region.ensures.entered.1 c.in_ok-region.ensures.pushes size c.in_err-check_elements.ensures.spends

pub returns-clause-spends : goal.returns-clause-spends
returns-clause-spends g c =
    let size = some_is (sym (sym c.in_ok-region.ensures.entered.0 ∙ times_is c.whole_size.result c.args.count g.T.Portable.layout.size c.times-whole.result c.times-whole.ensures.total (c.whole_size.ensures (sym c.is_direct.ensures ∙ c.if-not-is_direct.false)))) in
    left_spends (g.C.Context.state c.check_elements.new.context) (g.C.Context.state c.leave.new.context) (c.args.count * g.T.Portable.layout.size) c.leave.result c.in_ok-region.ensures.entered.1 c.in_ok-region.ensures.pushes size c.in_ok-check_elements.ensures.spends c.in_ok-check_elements.ensures.through.end c.leave.ensures.left c.leave.ensures.unchanged
