use Rattle.std.proofs.Common.{length, map, sym, ap, ◌∙◌}
use Rattle.std.proofs.lemmas.List.{length-map}
use Rattle.archive_check.specs.declared.format.error.Error.TheVariants.{OutOfMemory}
use Rattle.archive_types.specs.Causes.{no_memory}
use Rattle.archive_types.specs.MapPairs.{pair_keys, pair_meaning}
use Rattle.archive_types.specs.Members.Maps.{entry_is}
use Rattle.archive_types.specs.Runs.{each_flat, each_keys, each_meaning}
use Rattle.archive_types.specs.ValueOrder.{keys_ascend}
use Rattle.archive_types.proofs.Planning.Causes.{err_by, err_from, goes_nowhere}
use Rattle.archive_types.proofs.Writing.SortedPairs.{keys_of_pairs, map_ascends, meaning_of_pairs}
use Rattle.archive_core.specs.recursive.HeldMaps.{PairBelongs, pair_flat}
use Rattle.archive_core.proofs.recursive.MapsHeld.{belongs_to_pairs, flats_of_pairs, mapped_as, unmapped_as}
use Rattle.archive_core.proofs.fields.Ties.{if_ok}
use Rattle.archive_core.proofs.recursive.maps.serialize_inner_map.Goals as goal

pub returns-in_err-entries-clause-goes_on : goal.returns-in_err-entries-clause-goes_on
returns-in_err-entries-clause-goes_on g c = goes_nowhere _

pub returns-in_err-entries-clause-refused : goal.returns-in_err-entries-clause-refused
returns-in_err-entries-clause-refused g c = err_by c.from_residual.result OutOfMemory _ c.from_residual.ensures.1 (record { since = λ old go h. no_memory })

pub resolve_entries-requires-clause-ordered : goal.resolve_entries-requires-clause-ordered
resolve_entries-requires-clause-ordered g c =
    let same = ap (map (λ e. (e.key.now, e.value.now))) c.deref.ensures.value ∙ c.in_ok-entries.ensures in
    ap keys_ascend (meaning_of_pairs (λ e. (e.key.now, e.value.now)) (pair_meaning g.K.Archive.meaning g.V.Archive.meaning) c.deref.result.now ∙ ap (each_meaning (pair_meaning g.K.Archive.meaning g.V.Archive.meaning)) same)
    ∙ map_ascends g.K.Ord.cmp g.K.Archive.meaning g.V.Archive.meaning g.met.K.SortedKey.sorted c.args.source.now.entries c.len-count.ensures.ordered

pub resolve_entries-requires-clause-pairs : goal.resolve_entries-requires-clause-pairs
resolve_entries-requires-clause-pairs g c = entry_is g.K.Archived.Portable.shape g.V.Archived.Portable.shape g.K.Archived.MapKey.key g.met.K.Archived.MapKey.is_key

pub resolve_entries-requires-clause-same_values : goal.resolve_entries-requires-clause-same_values
resolve_entries-requires-clause-same_values g c =
    let same = ap (map (λ e. (e.key.now, e.value.now))) c.deref.ensures.value ∙ c.in_ok-entries.ensures in
    belongs_to_pairs (λ e. (e.key.now, e.value.now)) (PairBelongs g.K.Archive.belongs g.V.Archive.belongs) c.deref.result.now c.args.resolvers.items (rw (← same) at c.requires.same_values)

pub returns-clause-mapped : goal.returns-clause-mapped
returns-clause-mapped g c =
    let same = ap (map (λ e. (e.key.now, e.value.now))) c.deref.ensures.value ∙ c.in_ok-entries.ensures in
    if_ok c.resolve_entries.result (mapped_as _ _ g.K.Archived.MapKey.key g.V.Archived.Portable.shape
    (sym (length-map c.deref.result.now (λ e. (e.key.now, e.value.now))) ∙ ap length same)
    (keys_of_pairs (λ e. (e.key.now, e.value.now)) (pair_keys g.K.Archive.keys g.V.Archive.keys) c.deref.result.now ∙ ap (each_keys (pair_keys g.K.Archive.keys g.V.Archive.keys)) same)
    (meaning_of_pairs (λ e. (e.key.now, e.value.now)) (pair_meaning g.K.Archive.meaning g.V.Archive.meaning) c.deref.result.now ∙ ap (each_meaning (pair_meaning g.K.Archive.meaning g.V.Archive.meaning)) same)
    (flats_of_pairs (λ e. (e.key.now, e.value.now)) (pair_flat g.K.Archive.flat g.V.Archive.flat) c.deref.result.now c.args.resolvers.items ∙ ap (λ es. each_flat (pair_flat g.K.Archive.flat g.V.Archive.flat) es c.args.resolvers.items) same))
    c.resolve_entries.ensures.mapped

pub returns-clause-refused : goal.returns-clause-refused
returns-clause-refused g c =
    let same = ap (map (λ e. (e.key.now, e.value.now))) c.deref.ensures.value ∙ c.in_ok-entries.ensures in
    err_from c.resolve_entries.result c.resolve_entries.ensures.refused (unmapped_as _ _ g.K.Archived.MapKey.key g.V.Archived.Portable.shape
    (sym (length-map c.deref.result.now (λ e. (e.key.now, e.value.now))) ∙ ap length same)
    (keys_of_pairs (λ e. (e.key.now, e.value.now)) (pair_keys g.K.Archive.keys g.V.Archive.keys) c.deref.result.now ∙ ap (each_keys (pair_keys g.K.Archive.keys g.V.Archive.keys)) same)
    (meaning_of_pairs (λ e. (e.key.now, e.value.now)) (pair_meaning g.K.Archive.meaning g.V.Archive.meaning) c.deref.result.now ∙ ap (each_meaning (pair_meaning g.K.Archive.meaning g.V.Archive.meaning)) same)
    (flats_of_pairs (λ e. (e.key.now, e.value.now)) (pair_flat g.K.Archive.flat g.V.Archive.flat) c.deref.result.now c.args.resolvers.items ∙ ap (λ es. each_flat (pair_flat g.K.Archive.flat g.V.Archive.flat) es c.args.resolvers.items) same))
