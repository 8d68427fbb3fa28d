use Rattle.std.proofs.Common.{◌<◌, length, map, sym, ap, ◌∙◌, arith, rules}
use Rattle.std.proofs.lemmas.List.{length-map}
use Rattle.archive_check.specs.Value.{list}
use Rattle.archive_check.specs.declared.format.error.Error.TheVariants.{OutOfMemory}
use Rattle.archive_types.specs.Causes.{no_memory}
use Rattle.archive_types.specs.MapPairs.{pair_keys, pair_meaning}
use Rattle.archive_types.specs.Members.Maps.{entry_is}
use Rattle.archive_types.specs.Members.PlannedMaps.{pair_planned}
use Rattle.archive_types.specs.Members.PlannedOwners.{each_planned}
use Rattle.archive_types.specs.Runs.{each_keys, each_meaning}
use Rattle.archive_types.specs.ValueOrder.{keys_ascend}
use Rattle.archive_types.specs.Writing.{map_flat}
use Rattle.archive_types.proofs.Planning.Causes.{err_by, goes_nowhere}
use Rattle.archive_types.proofs.Planning.PlannedMaps.{as_pairs, long_map_refused}
use Rattle.archive_types.proofs.Writing.SortedPairs.{keys_of_pairs, map_ascends, meaning_of_pairs}
use Rattle.archive_types.proofs.map.owned.BTreeMapSerialize.serialize.Goals as goal

pub returns-then-len-clause-outcome : goal.returns-then-len-clause-outcome
returns-then-len-clause-outcome g c =
    let long : 4294967295 < length c.args.self.now.entries = omega (arith, c.if-len.true, c.len.ensures.len) in
    record {
      serialized = tt;
      same_value = tt;
      goes_on = goes_nowhere _;
      refused = long_map_refused _ _ _ _ (entry_is g.K.Archived.Portable.shape g.V.Archived.Portable.shape g.K.Archived.MapKey.key g.met.K.Archived.MapKey.is_key) _ _ _ _ _
          (each_planned _ _ _ _ (pair_planned g.K.Archive.keys g.V.Archive.keys g.K.Archive.meaning g.V.Archive.meaning _ _ _ _ g.met.K.Archive.planned g.met.V.Archive.planned) c.args.self.now.entries) long;
    }

pub returns-in_err-entries-clause-outcome : goal.returns-in_err-entries-clause-outcome
returns-in_err-entries-clause-outcome g c = record {
  serialized = search rules;
  same_value = search rules;
  goes_on = goes_nowhere _;
  refused = err_by c.from_residual.result OutOfMemory _ c.from_residual.ensures.1 no_memory;
}

pub serialize_ordered-requires-clause-ordered : goal.serialize_ordered-requires-clause-ordered
serialize_ordered-requires-clause-ordered g c =
    let same = ap (map (λ e. (e.key.now, e.value.now))) c.deref.ensures.value ∙ c.in_ok-entries.ensures in
    ap keys_ascend (meaning_of_pairs (λ e. (e.key.now, e.value.now)) (pair_meaning g.K.Archive.meaning g.V.Archive.meaning) c.deref.result.now ∙ ap (each_meaning (pair_meaning g.K.Archive.meaning g.V.Archive.meaning)) same)
    ∙ map_ascends g.K.Ord.cmp g.K.Archive.meaning g.V.Archive.meaning g.met.K.SortedKey.sorted c.args.self.now.entries c.len.ensures.ordered

pub returns-clause-outcome : goal.returns-clause-outcome
returns-clause-outcome g c =
    let same = ap (map (λ e. (e.key.now, e.value.now))) c.deref.ensures.value ∙ c.in_ok-entries.ensures in
    as_pairs _ g.K.Archived.MapKey.key g.V.Archived.Portable.shape (map_flat g.K.Archived.MapKey.key g.V.Archived.Portable.shape)
    (keys_of_pairs (λ e. (e.key.now, e.value.now)) (pair_keys g.K.Archive.keys g.V.Archive.keys) c.deref.result.now ∙ ap (each_keys (pair_keys g.K.Archive.keys g.V.Archive.keys)) same)
    (ap list (meaning_of_pairs (λ e. (e.key.now, e.value.now)) (pair_meaning g.K.Archive.meaning g.V.Archive.meaning) c.deref.result.now ∙ ap (each_meaning (pair_meaning g.K.Archive.meaning g.V.Archive.meaning)) same))
    (sym (length-map c.deref.result.now (λ e. (e.key.now, e.value.now))) ∙ ap length same)
    c.serialize_ordered.ensures
