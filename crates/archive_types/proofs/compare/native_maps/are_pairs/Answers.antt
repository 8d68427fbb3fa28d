use Rattle.std.proofs.Common.{◌≡◌, ◌<◌, suc, length, arith, sym, ap, ◌∙◌}
use Rattle.std.proofs.lemmas.Bool.Decides.{nat_tests}
use Rattle.archive_check.specs.SelfCheck.Maps.{entry_size}
use Rattle.archive_types.specs.Members.OrderedPairs.{pair_native}
use Rattle.archive_types.proofs.Maps.NativePairs.{other_lengths, level_broken, level_goes}
use Rattle.archive_types.proofs.compare.native_maps.are_pairs.Goals as goal

pub returns-then-len : goal.returns-then-len
returns-then-len g c =
    let k = g.K.Portable.layout in
    let v = g.V.Portable.layout in
    let s = c.entries-entries.result in
    let N = pair_native k v g.K.CompareNative.native_order g.V.CompareNative.native_order in
    let told = c.entries-entries.ensures in
    let other = other_lengths N s.bytes.now s.pos (entry_size k v) s.len c.args.map.now.entries (λ e. (
    let same : c.len.result ≡ c.len-2.result = c.len.ensures ∙ e ∙ sym c.len-2.ensures.len in
    grind (arith, nat_tests, same, c.if-len.true))) in
    sym (rw (told.buffer, told.position, told.length) at other)

pub returns-then-not-is_pair : goal.returns-then-not-is_pair
returns-then-not-is_pair g c =
    let k = g.K.Portable.layout in
    let v = g.V.Portable.layout in
    let s = c.entries-entries.result in
    let N = pair_native k v g.K.CompareNative.native_order g.V.CompareNative.native_order in
    let told = c.entries-entries.ensures in
    let more : length c.loop-key.key-iterator ≡ suc (length c.next.new.self) = ap length c.in-Some.ensures.steps in
    let below : c.loop-key.index < s.len = omega (arith, more, c.loop-key.invariant.counted) in
    let broken = level_broken N s.bytes.now s.pos (entry_size k v) c.loop-key.index s.len _ c.next.new.self c.loop-key.key-iterator below c.in-Some.ensures.steps (sym c.is_pair.ensures ∙ c.if-not-is_pair.true) in
    sym (rw (told.buffer, told.position, told.length) at (c.loop-key.invariant.level ∙ broken))

pub loop-key-preserved : goal.loop-key-preserved
loop-key-preserved g c =
    let k = g.K.Portable.layout in
    let v = g.V.Portable.layout in
    let s = c.entries-entries.result in
    let N = pair_native k v g.K.CompareNative.native_order g.V.CompareNative.native_order in
    let more : length c.loop-key.key-iterator ≡ suc (length c.next.new.self) = ap length c.in-Some.ensures.steps in
    let below : c.loop-key.index < s.len = omega (arith, more, c.loop-key.invariant.counted) in
    let goes = level_goes N s.bytes.now s.pos (entry_size k v) c.loop-key.index s.len _ c.next.new.self c.loop-key.key-iterator below c.in-Some.ensures.steps (sym c.is_pair.ensures ∙ c.if-not-is_pair.false) in
    record {
      can_next = tt;
      finite = tt;
      counted = omega (arith, more, c.loop-key.invariant.counted);
      level = c.loop-key.invariant.level ∙ goes;
    }
