use Rattle.std.proofs.Common.{◌≡◌, ◌+◌, length}
use Rattle.std.specs.Ordering.{is_eq}
use Rattle.std.specs.Cmp.Lexicographic.{slice_cmp}
use Rattle.archive_check.specs.SelfCheck.Maps.{entry_size}
use Rattle.archive_types.specs.Compared.{elements_from}
use Rattle.archive_types.specs.Members.OrderedPairs.{pair_native}
use Rattle.archive_types.proofs.Maps.NativePairs.{is_level}
use Rattle.archive_types.proofs.compare.native_maps.are_pairs.Given as goal

abbrev pub invariant-loop-key : goal.invariant-loop-key
invariant-loop-key g l =
    let k = g.K.Portable.layout in
    let v = g.V.Portable.layout in
    let N = pair_native k v g.K.CompareNative.native_order g.V.CompareNative.native_order in
    let s = l.entries in record {
      can_next : (goal.iterator-loop-key g).can_next l.key-iterator;
      finite : (goal.iterator-loop-key g).is_finite l.key-iterator;
      counted : l.index + length l.key-iterator ≡ s.len;
      level : is_eq (slice_cmp N (elements_from s.bytes.now s.pos (entry_size k v) 0 s.len) l.fn.map.entries) ≡ is_level N s.bytes.now s.pos (entry_size k v) l.index s.len l.key-iterator;
    }
