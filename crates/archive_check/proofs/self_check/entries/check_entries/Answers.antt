use Rattle.std.proofs.Common.{◌≡◌, ◌+◌, ◌-◌, ◌*◌, ◌&&◌, ℕ, suc, min, true, refl, ◌∙◌, arith, length, None}
use Rattle.std.proofs.lemmas.Bool.{and_parts}
use Rattle.archive_check.specs.SelfCheck.Regions.{entries_way, align_some}
use Rattle.archive_check.specs.SelfCheck.Maps.{entry_definitions}
use Rattle.archive_check.proofs.SelfCheck.Spent.{next_spends}
use Rattle.archive_check.proofs.Maps.CheckedEntries.{size_same, sizes, room, next_room, key_refused, value_refused, next_entry, entries_begin, entries_gone}
use Rattle.archive_check.proofs.self_check.entries.check_entries.Goals as goal

pub loop-index-init : goal.loop-index-init
loop-index-init g c = (
  refl,
  entries_begin (entry_definitions g.K.ArchivePointee.definitions g.V.ArchivePointee.definitions) g.K.MapKey.key g.V.Portable.shape c.args.bytes.now c.args.at c.args.count c.args.size (g.C.Context.state c.args.context.now),
  tt,
  let all : c.args.count - 0 ≡ c.args.count = omega arith in rw all (omega arith),
)

pub check_key-requires-clause-fits : goal.check_key-requires-clause-fits
check_key-requires-clause-fits g c =
    let K = g.K.Portable.layout in
    let one = room g.K.ArchivePointee.definitions g.V.ArchivePointee.definitions g.K.MapKey.key K g.met.K.MapKey.key_laid (rw g.met.K.MapKey.is_key at g.met.K.Portable.has_layout) g.V.Portable.shape g.V.Portable.layout g.met.V.Portable.has_layout (min K.size 18446744073709551615) c.args.size refl c.requires.sized (align_some _ g.met.V.Portable.is_align) in
    omega (arith, one.0, one.1, next_room c.args.size c.args.count c.loop-index.index c.args.at (length c.args.bytes.now) c.loop-index-test.true c.requires.fits)

pub check_parts-requires-clause-fits : goal.check_parts-requires-clause-fits
check_parts-requires-clause-fits g c =
    let one = room g.K.ArchivePointee.definitions g.V.ArchivePointee.definitions g.K.MapKey.key g.K.Portable.layout g.met.K.MapKey.key_laid (rw g.met.K.MapKey.is_key at g.met.K.Portable.has_layout) g.V.Portable.shape g.V.Portable.layout g.met.V.Portable.has_layout c.size.result c.args.size c.size.ensures c.requires.sized (align_some _ g.met.V.Portable.is_align) in
    omega (arith, one.0, one.1, next_room c.args.size c.args.count c.loop-index.index c.args.at (length c.args.bytes.now) c.loop-index-test.true c.requires.fits)

pub returns-in_err-check_key-clause-stops : goal.returns-in_err-check_key-clause-stops
returns-in_err-check_key-clause-stops g c d =
    let n : ℕ = c.args.count - (c.loop-index.index + 1) in
    let count : c.args.count - c.loop-index.index ≡ suc (c.args.count - (c.loop-index.index + 1)) = omega (arith, c.loop-index-test.true) in
    rw c.from_residual.ensures (key_refused g.K.ArchivePointee.definitions g.V.ArchivePointee.definitions g.K.MapKey.key g.V.Portable.shape c.args.bytes.now (entries_way c.args.bytes.now None c.args.at c.args.count g.K.MapKey.key g.V.Portable.shape)
    c.loop-index.before (c.args.at + c.loop-index.index * c.args.size) (c.args.count - c.loop-index.index) n count (g.C.Context.state c.args.context.now) (g.C.Context.state c.loop-index.context) c.loop-index.invariant.1
    c.check_key.new.refusal (c.in_err-check_key.ensures.stops (and_parts g.K.Check.SelfCheck.direct (g.V.Check.SelfCheck.direct && true) d).0 n g.V.Portable.shape))

pub returns-in_err-check_parts-clause-stops : goal.returns-in_err-check_parts-clause-stops
returns-in_err-check_parts-clause-stops g c d =
    let n : ℕ = c.args.count - (c.loop-index.index + 1) in
    let count : c.args.count - c.loop-index.index ≡ suc (c.args.count - (c.loop-index.index + 1)) = omega (arith, c.loop-index-test.true) in
    rw c.from_residual-in_err-check_parts.ensures (value_refused g.K.ArchivePointee.definitions g.V.ArchivePointee.definitions g.K.MapKey.key g.V.Portable.shape c.args.bytes.now (entries_way c.args.bytes.now None c.args.at c.args.count g.K.MapKey.key g.V.Portable.shape)
    c.loop-index.before (c.args.at + c.loop-index.index * c.args.size) (c.args.count - c.loop-index.index) n count (g.C.Context.state c.args.context.now) (g.C.Context.state c.loop-index.context) c.loop-index.invariant.1
    c.size.result c.args.size (sizes g.K.ArchivePointee.definitions g.V.ArchivePointee.definitions g.K.MapKey.key g.K.Portable.layout g.met.K.MapKey.key_laid (rw g.met.K.MapKey.is_key at g.met.K.Portable.has_layout) g.V.Portable.shape g.V.Portable.layout g.met.V.Portable.has_layout c.size.result c.args.size c.size.ensures c.requires.sized)
    (g.C.Context.state c.check_key.new.context) (rw g.met.K.MapKey.is_key at c.in_ok-check_key.ensures.through) c.in_ok-check_key.ensures.behind
    c.check_parts.new.refusal (c.in_err-check_parts.ensures.stops (and_parts g.K.Check.SelfCheck.direct (g.V.Check.SelfCheck.direct && true) d).1))

pub loop-index-preserved : goal.loop-index-preserved
loop-index-preserved g c =
    let n : ℕ = c.args.count - (c.loop-index.index + 1) in
    let count : c.args.count - c.loop-index.index ≡ suc (c.args.count - (c.loop-index.index + 1)) = omega (arith, c.loop-index-test.true) in
    let laid = rw g.met.K.MapKey.is_key at g.met.K.Portable.has_layout in
    let one = room g.K.ArchivePointee.definitions g.V.ArchivePointee.definitions g.K.MapKey.key g.K.Portable.layout g.met.K.MapKey.key_laid laid g.V.Portable.shape g.V.Portable.layout g.met.V.Portable.has_layout c.size.result c.args.size c.size.ensures c.requires.sized (align_some _ g.met.V.Portable.is_align) in
    let same = size_same g.K.ArchivePointee.definitions g.V.ArchivePointee.definitions g.K.MapKey.key g.K.Portable.layout g.met.K.MapKey.key_laid laid g.V.Portable.shape g.V.Portable.layout g.met.V.Portable.has_layout c.size.result c.args.size c.size.ensures c.requires.sized in
    let there : c.args.at + (c.loop-index.index + 1) * c.args.size ≡ c.args.at + c.loop-index.index * c.args.size + c.args.size = omega arith in (
      c.in_ok-check_parts.ensures.positions ∙ c.in_ok-check_key.ensures.positions ∙ c.loop-index.invariant.0,
      rw there (next_entry g.K.ArchivePointee.definitions g.V.ArchivePointee.definitions g.K.MapKey.key g.V.Portable.shape c.args.bytes.now (entries_way c.args.bytes.now None c.args.at c.args.count g.K.MapKey.key g.V.Portable.shape)
          c.loop-index.before (c.args.at + c.loop-index.index * c.args.size) (c.args.count - c.loop-index.index) n count (g.C.Context.state c.args.context.now) (g.C.Context.state c.loop-index.context) c.loop-index.invariant.1
          c.size.result c.args.size (sizes g.K.ArchivePointee.definitions g.V.ArchivePointee.definitions g.K.MapKey.key g.K.Portable.layout g.met.K.MapKey.key_laid laid g.V.Portable.shape g.V.Portable.layout g.met.V.Portable.has_layout c.size.result c.args.size c.size.ensures c.requires.sized)
          (g.C.Context.state c.check_key.new.context) (rw g.met.K.MapKey.is_key at c.in_ok-check_key.ensures.through) c.in_ok-check_key.ensures.behind (g.C.Context.state c.check_parts.new.context) c.in_ok-check_parts.ensures.through),
      omega (arith, one.0, one.1, next_room c.args.size c.args.count c.loop-index.index c.args.at (length c.args.bytes.now) c.loop-index-test.true c.requires.fits),
      omega (arith, c.in_ok-check_parts.ensures.spends, c.in_ok-check_key.ensures.spends, c.loop-index.invariant.3, next_spends c.args.size c.args.count c.loop-index.index c.loop-index-test.true, one.0, one.1, same),
    )

pub returns-clause-through : goal.returns-clause-through
returns-clause-through g c =
    let none : c.args.count - c.loop-index.index ≡ 0 = omega (arith, c.loop-index-test.false) in
    entries_gone (entry_definitions g.K.ArchivePointee.definitions g.V.ArchivePointee.definitions) g.K.MapKey.key g.V.Portable.shape c.args.bytes.now (entries_way c.args.bytes.now None c.args.at c.args.count g.K.MapKey.key g.V.Portable.shape)
    c.loop-index.before (c.args.at + c.loop-index.index * c.args.size) (c.args.count - c.loop-index.index) (g.C.Context.state c.args.context.now) (g.C.Context.state c.loop-index.context) none c.loop-index.invariant.1

pub returns-in_err-check_key-clause-spends : goal.returns-in_err-check_key-clause-spends
returns-in_err-check_key-clause-spends g c =
    let K = g.K.Portable.layout in
    let one = room g.K.ArchivePointee.definitions g.V.ArchivePointee.definitions g.K.MapKey.key K g.met.K.MapKey.key_laid (rw g.met.K.MapKey.is_key at g.met.K.Portable.has_layout) g.V.Portable.shape g.V.Portable.layout g.met.V.Portable.has_layout (min K.size 18446744073709551615) c.args.size refl c.requires.sized (align_some _ g.met.V.Portable.is_align) in
    omega (arith, c.in_err-check_key.ensures.spends, c.loop-index.invariant.3, next_spends c.args.size c.args.count c.loop-index.index c.loop-index-test.true, one.0, one.1)

pub returns-in_err-check_parts-clause-spends : goal.returns-in_err-check_parts-clause-spends
returns-in_err-check_parts-clause-spends g c =
    let laid = rw g.met.K.MapKey.is_key at g.met.K.Portable.has_layout in
    let one = room g.K.ArchivePointee.definitions g.V.ArchivePointee.definitions g.K.MapKey.key g.K.Portable.layout g.met.K.MapKey.key_laid laid g.V.Portable.shape g.V.Portable.layout g.met.V.Portable.has_layout c.size.result c.args.size c.size.ensures c.requires.sized (align_some _ g.met.V.Portable.is_align) in
    let same = size_same g.K.ArchivePointee.definitions g.V.ArchivePointee.definitions g.K.MapKey.key g.K.Portable.layout g.met.K.MapKey.key_laid laid g.V.Portable.shape g.V.Portable.layout g.met.V.Portable.has_layout c.size.result c.args.size c.size.ensures c.requires.sized in
    omega (arith, c.in_err-check_parts.ensures.spends, c.in_ok-check_key.ensures.spends, c.loop-index.invariant.3, next_spends c.args.size c.args.count c.loop-index.index c.loop-index-test.true, one.0, one.1, same)

pub returns-clause-spends : goal.returns-clause-spends
returns-clause-spends g c = omega (arith, c.loop-index.invariant.3)
