use Rattle.std.proofs.lemmas.Bool.{and_parts}
use Rattle.std.proofs.Common.{◌≡◌, ◌+◌, arith, ap, sym, ◌∙◌, Some}
use Rattle.archive_check.specs.Layout.{up}
use Rattle.archive_check.specs.Words.BoundedSizes.{rounded}
use Rattle.archive_check.proofs.SelfCheck.Outcomes.{some_map, none_map}
use Rattle.archive_check.proofs.BoundedSizes.{some_is}
use Rattle.archive_check.proofs.SelfCheck.Parts.{part_goes, part_halts, first_halts}
use Rattle.archive_check.proofs.Tours.PartsInside.{up_le}
use Rattle.archive_check.specs.SelfCheck.Regions.{align_some}
use Rattle.archive_check.proofs.self_check.parts.Tuple2CheckedParts.check_parts.Goals as goal

pub returns-in_err-check_value-clause-stops : goal.returns-in_err-check_value-clause-stops
returns-in_err-check_value-clause-stops g c d =
    let L = g.A.Portable.layout in
    let o : c.in-Some.offset ≡ up c.args.start L.align = sym (some_is (sym (ap (λ a. rounded (Some c.args.start) a) c.align.ensures) ∙ sym c.offset_of.ensures ∙ c.in-Some.is)) in
    rw c.from_residual.ensures (first_halts g.A.ArchivePointee.definitions g.R.CheckedParts.definitions g.A.Portable.shape L g.met.A.Portable.has_layout g.R.CheckedParts.parts c.args.bytes.now c.args.base c.args.start c.in-Some.offset 0 o (g.C.Context.state c.args.context.now) c.check_value.new.refusal (c.in_err-check_value.ensures.stops (and_parts _ _ d).0))

pub returns-clause-through : goal.returns-clause-through
returns-clause-through g c =
    let L = g.A.Portable.layout in
    let s = g.C.Context.state c.args.context.now in
    let s1 = g.C.Context.state c.check_value.new.context in
    let s2 = g.C.Context.state c.check_parts.new.context in
    let o : c.in-Some.offset ≡ up c.args.start L.align = sym (some_is (sym (ap (λ a. rounded (Some c.args.start) a) c.align.ensures) ∙ sym c.offset_of.ensures ∙ c.in-Some.is)) in
    let above = g.met.R.CheckedParts.rises (up c.args.start L.align + L.size) in
    let z : c.size.result ≡ L.size = omega (arith, c.size.ensures, c.requires.fits, above, c.if-prove.false) in
    some_map c.check_parts.result (part_goes g.A.ArchivePointee.definitions g.R.CheckedParts.definitions g.A.Portable.shape L g.met.A.Portable.has_layout g.R.CheckedParts.parts c.args.bytes.now c.args.base c.args.start c.in-Some.offset c.size.result o s z s1 c.in_ok-check_value.ensures.through s2) c.check_parts.ensures.through

pub returns-clause-stops : goal.returns-clause-stops
returns-clause-stops g c d =
    let L = g.A.Portable.layout in
    let s = g.C.Context.state c.args.context.now in
    let s1 = g.C.Context.state c.check_value.new.context in
    let o : c.in-Some.offset ≡ up c.args.start L.align = sym (some_is (sym (ap (λ a. rounded (Some c.args.start) a) c.align.ensures) ∙ sym c.offset_of.ensures ∙ c.in-Some.is)) in
    let above = g.met.R.CheckedParts.rises (up c.args.start L.align + L.size) in
    let z : c.size.result ≡ L.size = omega (arith, c.size.ensures, c.requires.fits, above, c.if-prove.false) in
    none_map c.check_parts.result (part_halts g.A.ArchivePointee.definitions g.R.CheckedParts.definitions g.A.Portable.shape L g.met.A.Portable.has_layout g.R.CheckedParts.parts c.args.bytes.now c.args.base c.args.start c.in-Some.offset c.size.result o s z s1 c.in_ok-check_value.ensures.through c.check_parts.new.refusal) (c.check_parts.ensures.stops (and_parts _ _ d).1)

-- what is spent

pub returns-in_err-check_value-clause-spends : goal.returns-in_err-check_value-clause-spends
returns-in_err-check_value-clause-spends g c =
    let L = g.A.Portable.layout in
    let above = g.met.R.CheckedParts.rises (up c.args.start L.align + L.size) in
    omega (arith, c.in_err-check_value.ensures.spends, above, up_le c.args.start L.align (align_some _ g.met.A.Portable.is_align))

pub returns-clause-spends : goal.returns-clause-spends
returns-clause-spends g c =
    let L = g.A.Portable.layout in
    let o : c.in-Some.offset ≡ up c.args.start L.align = sym (some_is (sym (ap (λ a. rounded (Some c.args.start) a) c.align.ensures) ∙ sym c.offset_of.ensures ∙ c.in-Some.is)) in
    let above = g.met.R.CheckedParts.rises (up c.args.start L.align + L.size) in
    let z : c.size.result ≡ L.size = omega (arith, c.size.ensures, c.requires.fits, above, c.if-prove.false) in
    let there : c.in-Some.offset + c.size.result ≡ up c.args.start L.align + L.size = omega (arith, o, z) in
    let rest = c.check_parts.ensures.spends in
    let end = ap g.R.CheckedParts.end there in
    omega (arith, c.in_ok-check_value.ensures.spends, rest, end, there, above, up_le c.args.start L.align (align_some _ g.met.A.Portable.is_align))
