use Rattle.std.proofs.Common.{◌*◌, ◌&&◌, nat_lt, arith, ap, sym, ◌∙◌, Some, None}
use Rattle.std.proofs.lemmas.Bool.{and_parts}
use Rattle.std.proofs.lemmas.Int.{to_z-of_z}
use mir.Syntax.{w128}
use Rattle.archive_check.specs.Shape.{run, entry_of}
use Rattle.archive_check.specs.SelfCheck.Regions.{contents_way, entries_way}
use Rattle.archive_check.specs.SelfCheck.Maps.{entry_definitions, entry_size, entry_each, entry_lone, to_entries}
use Rattle.archive_check.proofs.SelfCheck.Outcomes.{some_map, none_map}
use Rattle.archive_check.proofs.SelfCheck.Ways.{goes_from, halts_from}
use Rattle.archive_check.proofs.SelfCheck.Regions.{enters_not, region_goes, region_left, region_halts}
use Rattle.archive_check.proofs.SelfCheck.Layouts.{times_is}
use Rattle.archive_check.proofs.SelfCheck.Steps.{all_entries_way}
use Rattle.archive_check.proofs.BoundedSizes.{some_is}
use Rattle.archive_check.proofs.SelfCheck.Spent.{region_spends, left_spends}
use Rattle.archive_check.proofs.Maps.CheckedEntries.{entry_sized, entry_aligned, entry_whole, entry_exact}
use Rattle.archive_check.proofs.self_check.entries.check_map.Goals as goal

pub enter-requires : goal.enter-requires
enter-requires g c = rw c.align-align.ensures (omega arith)

pub check_entries-requires-clause-sized : goal.check_entries-requires-clause-sized
check_entries-requires-clause-sized g c =
    entry_exact (entry_each g.K.Check.SelfCheck.direct g.V.Check.SelfCheck.direct) (entry_lone g.K.Check.SelfCheck.nameless g.V.Check.SelfCheck.nameless) (entry_size g.K.Portable.layout g.V.Portable.layout) c.size_of_record-size.result (sym c.is_direct.ensures ∙ c.if-not-is_direct.false) c.size_of_record-size.ensures

pub check_entries-requires-clause-fits : goal.check_entries-requires-clause-fits
check_entries-requires-clause-fits g c =
    let Z = entry_size g.K.Portable.layout g.V.Portable.layout in
    let direct = sym c.is_direct.ensures ∙ c.if-not-is_direct.false in
    let h = rw (to_z-of_z w128 c.args.position c.ranges.position) at c.in_ok-region.ensures.entered in
    let exact = entry_exact (entry_each g.K.Check.SelfCheck.direct g.V.Check.SelfCheck.direct) (entry_lone g.K.Check.SelfCheck.nameless g.V.Check.SelfCheck.nameless) Z c.size_of_record-size.result direct c.size_of_record-size.ensures in
    let size = some_is (sym (sym h.0 ∙ times_is (Some c.size_of_record-size.result) c.args.count Z c.times.result c.times.ensures.total (entry_whole (entry_each g.K.Check.SelfCheck.direct g.V.Check.SelfCheck.direct) (entry_lone g.K.Check.SelfCheck.nameless g.V.Check.SelfCheck.nameless) Z c.size_of_record-size.result direct c.size_of_record-size.ensures))) in
    rw exact (omega (arith, size, h.1.lands.below, c.requires))

pub returns-in_err-region-clause-stops : goal.returns-in_err-region-clause-stops
returns-in_err-region-clause-stops g c d =
    let D = g.K.ArchivePointee.definitions in
    let E = g.V.ArchivePointee.definitions in
    let K = g.K.MapKey.key in
    let L = g.K.Portable.layout in
    let M = g.V.Portable.layout in
    let V = g.V.Portable.shape in
    let laid = rw g.met.K.MapKey.is_key at g.met.K.Portable.has_layout in
    let Z = entry_size L M in
    let direct = sym c.is_direct.ensures ∙ c.if-not-is_direct.false in
    let whole = times_is (Some c.size_of_record-size.result) c.args.count Z c.times.result c.times.ensures.total (entry_whole (entry_each g.K.Check.SelfCheck.direct g.V.Check.SelfCheck.direct) (entry_lone g.K.Check.SelfCheck.nameless g.V.Check.SelfCheck.nameless) Z c.size_of_record-size.result direct c.size_of_record-size.ensures) in
    rw c.from_residual.ensures (enters_not (entry_definitions D E) c.args.bytes.now (to_entries c.args.position K V c.args.count) (c.args.count * Z) c.align-align.result (λ t k. ap (λ z. c.args.count * z) (sym ((entry_sized D E K L laid V M g.met.V.Portable.has_layout t k).1)))
    (λ t k. entry_aligned D E K L laid V M g.met.V.Portable.has_layout t k ∙ sym c.align-align.ensures) (g.C.Context.state c.args.context.now) c.times.result c.enter.new.refusal whole (rw (to_z-of_z w128 c.args.position c.ranges.position) at c.in_err-region.ensures.stops))

pub returns-in_err-check_entries-clause-stops : goal.returns-in_err-check_entries-clause-stops
returns-in_err-check_entries-clause-stops g c d =
    let D = g.K.ArchivePointee.definitions in
    let E = g.V.ArchivePointee.definitions in
    let K = g.K.MapKey.key in
    let L = g.K.Portable.layout in
    let M = g.V.Portable.layout in
    let V = g.V.Portable.shape in
    let b = c.args.bytes.now in
    let laid = rw g.met.K.MapKey.is_key at g.met.K.Portable.has_layout in
    let Z = entry_size L M in
    let direct = sym c.is_direct.ensures ∙ c.if-not-is_direct.false in
    let whole = times_is (Some c.size_of_record-size.result) c.args.count Z c.times.result c.times.ensures.total (entry_whole (entry_each g.K.Check.SelfCheck.direct g.V.Check.SelfCheck.direct) (entry_lone g.K.Check.SelfCheck.nameless g.V.Check.SelfCheck.nameless) Z c.size_of_record-size.result direct c.size_of_record-size.ensures) in
    let s = g.C.Context.state c.args.context.now in
    let s1 = g.C.Context.state c.enter.new.context in
    let r = c.in_ok-region.region in
    let h = rw (to_z-of_z w128 c.args.position c.ranges.position) at c.in_ok-region.ensures.entered in
    let each = (and_parts (entry_each g.K.Check.SelfCheck.direct g.V.Check.SelfCheck.direct && entry_lone g.K.Check.SelfCheck.nameless g.V.Check.SelfCheck.nameless) (nat_lt Z 18446744073709551615) d).0 in
    let own = (and_parts (entry_each g.K.Check.SelfCheck.direct g.V.Check.SelfCheck.direct) (entry_lone g.K.Check.SelfCheck.nameless g.V.Check.SelfCheck.nameless) each).0 in
    rw c.from_residual-in_err-check_entries.ensures (region_halts (entry_definitions D E) b (to_entries c.args.position K V c.args.count) (c.args.count * Z) c.align-align.result (λ t k. ap (λ z. c.args.count * z) (sym ((entry_sized D E K L laid V M g.met.V.Portable.has_layout t k).1)))
    (λ t k. entry_aligned D E K L laid V M g.met.V.Portable.has_layout t k ∙ sym c.align-align.ensures) s s1 r (sym h.0 ∙ whole) h.1 c.check_entries.new.refusal
    (halts_from (entry_definitions D E) (entry_definitions D E) (entries_way b None r.begin c.args.count K V) (contents_way b r.begin (Some K) (run (entry_of K V)) c.args.count) s1 (λ t k. k) (λ t k pending seen o. all_entries_way b t pending s1.depth s1.end s1.start seen r.begin c.args.count K V o) c.check_entries.new.refusal (c.in_err-check_entries.ensures.stops own)))

pub returns-clause-through : goal.returns-clause-through
returns-clause-through g c =
    let D = g.K.ArchivePointee.definitions in
    let E = g.V.ArchivePointee.definitions in
    let K = g.K.MapKey.key in
    let L = g.K.Portable.layout in
    let M = g.V.Portable.layout in
    let V = g.V.Portable.shape in
    let b = c.args.bytes.now in
    let laid = rw g.met.K.MapKey.is_key at g.met.K.Portable.has_layout in
    let Z = entry_size L M in
    let direct = sym c.is_direct.ensures ∙ c.if-not-is_direct.false in
    let whole = times_is (Some c.size_of_record-size.result) c.args.count Z c.times.result c.times.ensures.total (entry_whole (entry_each g.K.Check.SelfCheck.direct g.V.Check.SelfCheck.direct) (entry_lone g.K.Check.SelfCheck.nameless g.V.Check.SelfCheck.nameless) Z c.size_of_record-size.result direct c.size_of_record-size.ensures) in
    let s = g.C.Context.state c.args.context.now in
    let s1 = g.C.Context.state c.enter.new.context in
    let s2 = g.C.Context.state c.check_entries.new.context in
    let s3 = g.C.Context.state c.leave.new.context in
    let r = c.in_ok-region.region in
    let h = rw (to_z-of_z w128 c.args.position c.ranges.position) at c.in_ok-region.ensures.entered in
    let goes = goes_from (entry_definitions D E) (entry_definitions D E) (entries_way b None r.begin c.args.count K V) (contents_way b r.begin (Some K) (run (entry_of K V)) c.args.count) s1 (λ t k. k) (λ t k pending seen o. all_entries_way b t pending s1.depth s1.end s1.start seen r.begin c.args.count K V o) s2 c.in_ok-check_entries.ensures.through in
    some_map c.leave.result (region_goes (entry_definitions D E) b (to_entries c.args.position K V c.args.count) (c.args.count * Z) c.align-align.result (λ t k. ap (λ z. c.args.count * z) (sym ((entry_sized D E K L laid V M g.met.V.Portable.has_layout t k).1)))
    (λ t k. entry_aligned D E K L laid V M g.met.V.Portable.has_layout t k ∙ sym c.align-align.ensures) s s1 r (sym h.0 ∙ whole) h.1 s2 s3 goes) c.leave.ensures.left

pub returns-clause-stops : goal.returns-clause-stops
returns-clause-stops g c d =
    let D = g.K.ArchivePointee.definitions in
    let E = g.V.ArchivePointee.definitions in
    let K = g.K.MapKey.key in
    let L = g.K.Portable.layout in
    let M = g.V.Portable.layout in
    let V = g.V.Portable.shape in
    let b = c.args.bytes.now in
    let laid = rw g.met.K.MapKey.is_key at g.met.K.Portable.has_layout in
    let Z = entry_size L M in
    let direct = sym c.is_direct.ensures ∙ c.if-not-is_direct.false in
    let whole = times_is (Some c.size_of_record-size.result) c.args.count Z c.times.result c.times.ensures.total (entry_whole (entry_each g.K.Check.SelfCheck.direct g.V.Check.SelfCheck.direct) (entry_lone g.K.Check.SelfCheck.nameless g.V.Check.SelfCheck.nameless) Z c.size_of_record-size.result direct c.size_of_record-size.ensures) in
    let s = g.C.Context.state c.args.context.now in
    let s1 = g.C.Context.state c.enter.new.context in
    let s2 = g.C.Context.state c.check_entries.new.context in
    let r = c.in_ok-region.region in
    let h = rw (to_z-of_z w128 c.args.position c.ranges.position) at c.in_ok-region.ensures.entered in
    let goes = goes_from (entry_definitions D E) (entry_definitions D E) (entries_way b None r.begin c.args.count K V) (contents_way b r.begin (Some K) (run (entry_of K V)) c.args.count) s1 (λ t k. k) (λ t k pending seen o. all_entries_way b t pending s1.depth s1.end s1.start seen r.begin c.args.count K V o) s2 c.in_ok-check_entries.ensures.through in
    none_map c.leave.result (region_left (entry_definitions D E) b (to_entries c.args.position K V c.args.count) (c.args.count * Z) c.align-align.result (λ t k. ap (λ z. c.args.count * z) (sym ((entry_sized D E K L laid V M g.met.V.Portable.has_layout t k).1)))
    (λ t k. entry_aligned D E K L laid V M g.met.V.Portable.has_layout t k ∙ sym c.align-align.ensures) s s1 r (sym h.0 ∙ whole) h.1 s2 c.leave.new.refusal goes) c.leave.ensures.refused

-- what is spent

pub returns-in_err-check_entries-clause-spends : goal.returns-in_err-check_entries-clause-spends
returns-in_err-check_entries-clause-spends g c =
    let Z = entry_size g.K.Portable.layout g.V.Portable.layout in
    let direct = sym c.is_direct.ensures ∙ c.if-not-is_direct.false in
    let exact = entry_exact (entry_each g.K.Check.SelfCheck.direct g.V.Check.SelfCheck.direct) (entry_lone g.K.Check.SelfCheck.nameless g.V.Check.SelfCheck.nameless) Z c.size_of_record-size.result direct c.size_of_record-size.ensures in
    let size = some_is (sym (sym c.in_ok-region.ensures.entered.0 ∙ times_is (Some c.size_of_record-size.result) c.args.count Z c.times.result c.times.ensures.total (entry_whole (entry_each g.K.Check.SelfCheck.direct g.V.Check.SelfCheck.direct) (entry_lone g.K.Check.SelfCheck.nameless g.V.Check.SelfCheck.nameless) Z c.size_of_record-size.result direct c.size_of_record-size.ensures))) in
    region_spends (g.C.Context.state c.check_entries.new.context) (c.args.count * c.size_of_record-size.result) c.in_ok-region.ensures.entered.1 c.in_ok-region.ensures.pushes (rw exact size) c.in_err-check_entries.ensures.spends

pub returns-clause-spends : goal.returns-clause-spends
returns-clause-spends g c =
    let Z = entry_size g.K.Portable.layout g.V.Portable.layout in
    let direct = sym c.is_direct.ensures ∙ c.if-not-is_direct.false in
    let exact = entry_exact (entry_each g.K.Check.SelfCheck.direct g.V.Check.SelfCheck.direct) (entry_lone g.K.Check.SelfCheck.nameless g.V.Check.SelfCheck.nameless) Z c.size_of_record-size.result direct c.size_of_record-size.ensures in
    let size = some_is (sym (sym c.in_ok-region.ensures.entered.0 ∙ times_is (Some c.size_of_record-size.result) c.args.count Z c.times.result c.times.ensures.total (entry_whole (entry_each g.K.Check.SelfCheck.direct g.V.Check.SelfCheck.direct) (entry_lone g.K.Check.SelfCheck.nameless g.V.Check.SelfCheck.nameless) Z c.size_of_record-size.result direct c.size_of_record-size.ensures))) in
    left_spends (g.C.Context.state c.check_entries.new.context) (g.C.Context.state c.leave.new.context) (c.args.count * c.size_of_record-size.result) c.leave.result c.in_ok-region.ensures.entered.1 c.in_ok-region.ensures.pushes (rw exact size) c.in_ok-check_entries.ensures.spends c.in_ok-check_entries.ensures.through.end c.leave.ensures.left c.leave.ensures.unchanged
