-- Written by tools/derive: change the declaration, and run it again.
use Rattle.archive_core.proofs.Causes.{err_from}
use Rattle.archive_core.proofs.PooledPointers.{weak_back, weak_unread, null_back}
use Rattle.archive_core.proofs.PooledReading.{kept_refused}
use Rattle.archive_core.proofs.ReadChoices.{variant_read_back, variant_refuses}
use Rattle.archive_core.proofs.ReadRecords.{first_refuses, later_refuses}
use Rattle.archive_core.proofs.ReadVariants.{case_read_back, case_refuses, empty_case_read_back}
use Rattle.archive_core.proofs.fields.Ties.{if_ok}
use Rattle.archive_core.proofs.recursive.PositionsBegun.{unread_since}
use Rattle.archive_core.specs.Choices.{option_shape}
use Rattle.archive_core.specs.Definitions.{both, no_definition}
use Rattle.archive_core.specs.Held.{read_as}
use Rattle.archive_core.specs.Options.{option_keys}
use Rattle.archive_core.specs.PartsReading.{part_read_back, no_part_read_back}
use Rattle.archive_core.specs.Shape.{shared, weak, one, leaf, unsigned, part, no_part, number as number_kind}
use Rattle.archive_core.specs.SharedSources.{rc_flavor, rc_keys}
use Rattle.archive_core.specs.Value.{value}
use Rattle.recursive_kinds.specs.RoadMeaning.{road_meaning, road_keys, road_way_means, road_way_has_keys, road_detour_means, road_detour_has_keys}
use Rattle.recursive_kinds.specs.RoadShape.{road_name, road_shape, road_definitions, road_variants, road_variant_definitions, road_has_variants, road_way_parts, road_way_definitions, road_detour_parts, road_detour_definitions}
use Rattle.std.proofs.Common.{inl, ◌++◌, [], length, refl, pos}
use Rattle.std.specs.Int.{w8}
use Rattle.std.specs.Prelude.{[], ◌++◌, refl, pos, length}
use Rattle.recursive_kinds.proofs.road.+read_road.Goals as goal

pub read_shared_road-returns-in-Err-read_road-clause-refused : goal.read_shared_road-returns-in-Err-read_road-clause-refused
read_shared_road-returns-in-Err-read_road-clause-refused g t c = unread_since road_definitions c.args.part.bytes.now c.args.part.pos c.args.part.len rc_flavor (one road_shape) g.D.Entries.keeps _ _ _ c.requires (rw c.in-None.is at c.in-Ok.ensures.begun) (rw (c.part_behind-behind.ensures.buffer, c.part_behind-behind.ensures.position, c.part_behind-behind.ensures.length) at c.in-Err-read_road.ensures.refused)

pub read_shared_road-returns-in-Some-clause-read : goal.read_shared_road-returns-in-Some-clause-read
read_shared_road-returns-in-Some-clause-read g t c = rw c.in-Some.is at c.in-Ok.ensures.known

pub read_shared_road-returns-in-Ok-read_road-clause-read : goal.read_shared_road-returns-in-Ok-read_road-clause-read
read_shared_road-returns-in-Ok-read_road-clause-read g t c = if_ok c.finish_reading.result (λ s h. h.since _ _ (rw c.in-None.is at c.in-Ok.ensures.begun) (rw (c.part_behind-behind.ensures.buffer, c.part_behind-behind.ensures.position, c.part_behind-behind.ensures.length) at c.in-Ok-read_road.ensures.read)) c.finish_reading.ensures.read

pub read_shared_road-returns-in-Ok-read_road-clause-refused : goal.read_shared_road-returns-in-Ok-read_road-clause-refused
read_shared_road-returns-in-Ok-read_road-clause-refused g t c = err_from c.finish_reading.result c.finish_reading.ensures.refused (λ e h. h.since _ _ (rw c.in-None.is at c.in-Ok.ensures.begun) (rw (c.part_behind-behind.ensures.buffer, c.part_behind-behind.ensures.position, c.part_behind-behind.ensures.length) at c.in-Ok-read_road.ensures.read))

pub read_option_shared_road-returns-in-None-clause-read : goal.read_option_shared_road-returns-in-None-clause-read
read_option_shared_road-returns-in-None-clause-read g t c = empty_case_read_back road_definitions _ _ 0 refl c.args.part.bytes.now c.args.part.pos c.args.part.len (rw (c.at-view.ensures.buffer, c.at-view.ensures.position) at c.in-None.ensures.tag) _ _ refl

pub read_option_shared_road-returns-in-Err-clause-refused : goal.read_option_shared_road-returns-in-Err-clause-refused
read_option_shared_road-returns-in-Err-clause-refused g t c = case_refuses road_definitions road_definitions (λ s k. k) _ _ 1 (shared rc_flavor (one road_shape)) refl (record { size = 4; align = 4 }) (record { solved = λ s k. refl }) c.args.part.bytes.now c.args.part.pos c.args.part.len 4 refl (rw (c.at-view.ensures.buffer, c.at-view.ensures.position) at c.in-Some.ensures.tag) _ _ (rw (c.part.ensures.buffer, c.part.ensures.position, c.part.ensures.length, c.in-Some.ensures.buffer, c.in-Some.ensures.position, c.in-Some.ensures.length, c.at-view.ensures.buffer, c.at-view.ensures.position) at c.in-Err.ensures.refused)

pub read_option_shared_road-returns-in-Ok-clause-read : goal.read_option_shared_road-returns-in-Ok-clause-read
read_option_shared_road-returns-in-Ok-clause-read g t c = case_read_back road_definitions road_definitions (λ s k. k) _ _ 1 (shared rc_flavor (one road_shape)) refl (record { size = 4; align = 4 }) (record { solved = λ s k. refl }) c.args.part.bytes.now c.args.part.pos c.args.part.len 4 refl (rw (c.at-view.ensures.buffer, c.at-view.ensures.position) at c.in-Some.ensures.tag) _ _ _ _ (rw (c.part.ensures.buffer, c.part.ensures.position, c.part.ensures.length, c.in-Some.ensures.buffer, c.in-Some.ensures.position, c.in-Some.ensures.length, c.at-view.ensures.buffer, c.at-view.ensures.position) at c.in-Ok.ensures.read)

pub read_weak_shared_road-returns-in_default-clause-read : goal.read_weak_shared_road-returns-in_default-clause-read
read_weak_shared_road-returns-in_default-clause-read g t c = (let says = rw (c.at-view.ensures.buffer, c.at-view.ensures.position, c.at-view.ensures.length) at c.in_default.ensures.none in let is = rw (c.at-view.ensures.buffer, c.at-view.ensures.position) at c.in_default.ensures.is_null in null_back road_definitions c.args.part.bytes.now c.args.part.pos c.args.part.len rc_flavor (one road_shape) _ is says)

pub read_weak_shared_road-returns-in-Err-clause-refused : goal.read_weak_shared_road-returns-in-Err-clause-refused
read_weak_shared_road-returns-in-Err-clause-refused g t c = (let some = c.in-Some.ensures.some in let far = rw (c.at-view.ensures.buffer, c.at-view.ensures.position) at c.in-Some.ensures.offset in weak_unread road_definitions c.args.part.bytes.now c.args.part.pos c.args.part.len rc_flavor (one road_shape) _ _ far c.requires (rw (c.part-behind.ensures.buffer, c.part-behind.ensures.position, c.part-behind.ensures.length, some.0, some.1, some.2, c.at-view.ensures.buffer, c.at-view.ensures.position) at (c.in-Err.ensures.refused c.part-behind.result.bytes.now c.part-behind.result.len)))

pub read_weak_shared_road-returns-in-Some-known-clause-read : goal.read_weak_shared_road-returns-in-Some-known-clause-read
read_weak_shared_road-returns-in-Some-known-clause-read g t c = (let some = c.in-Some.ensures.some in let far = rw (c.at-view.ensures.buffer, c.at-view.ensures.position) at c.in-Some.ensures.offset in weak_back road_definitions c.args.part.bytes.now c.args.part.pos c.args.part.len rc_flavor (one road_shape) _ _ _ far c.requires (rw (c.part-behind.ensures.buffer, c.part-behind.ensures.position, c.part-behind.ensures.length, some.0, some.1, some.2, c.at-view.ensures.buffer, c.at-view.ensures.position) at ((rw c.in-Some-known.is at c.in-Ok.ensures.known) c.part-behind.result.bytes.now c.part-behind.result.len)))

pub read_weak_shared_road-returns-in-Err-read_road-clause-refused : goal.read_weak_shared_road-returns-in-Err-read_road-clause-refused
read_weak_shared_road-returns-in-Err-read_road-clause-refused g t c = (let some = c.in-Some.ensures.some in let far = rw (c.at-view.ensures.buffer, c.at-view.ensures.position) at c.in-Some.ensures.offset in weak_unread road_definitions c.args.part.bytes.now c.args.part.pos c.args.part.len rc_flavor (one road_shape) _ _ far c.requires (rw (c.part-behind.ensures.buffer, c.part-behind.ensures.position, c.part-behind.ensures.length, some.0, some.1, some.2, c.at-view.ensures.buffer, c.at-view.ensures.position) at (let a = (rw c.in-None.is at c.in-Ok.ensures.begun) in kept_refused road_definitions c.part-behind.result.bytes.now c.part-behind.result.pos (one road_shape) c.part-behind.result.len g.D.Entries.keeps _ _ _ a.nothing a.begun a.started a.unknown c.in-Err-read_road.ensures.refused)))

pub read_weak_shared_road-returns-in-Ok-finish_target-clause-read : goal.read_weak_shared_road-returns-in-Ok-finish_target-clause-read
read_weak_shared_road-returns-in-Ok-finish_target-clause-read g t c = (let some = c.in-Some.ensures.some in let far = rw (c.at-view.ensures.buffer, c.at-view.ensures.position) at c.in-Some.ensures.offset in weak_back road_definitions c.args.part.bytes.now c.args.part.pos c.args.part.len rc_flavor (one road_shape) _ _ _ far c.requires (rw (c.part-behind.ensures.buffer, c.part-behind.ensures.position, c.part-behind.ensures.length, some.0, some.1, some.2, c.at-view.ensures.buffer, c.at-view.ensures.position) at (c.in-Ok-finish_target.ensures.read _ _ c.part-behind.result.bytes.now c.part-behind.result.len (rw c.in-None.is at c.in-Ok.ensures.begun) c.part-behind.ensures.viewed c.in-Ok-read_road.ensures.read)))

pub read_weak_shared_road-returns-in-Err-finish_target-clause-refused : goal.read_weak_shared_road-returns-in-Err-finish_target-clause-refused
read_weak_shared_road-returns-in-Err-finish_target-clause-refused g t c = (let some = c.in-Some.ensures.some in let far = rw (c.at-view.ensures.buffer, c.at-view.ensures.position) at c.in-Some.ensures.offset in inl (c.in-Err-finish_target.ensures.refused _ _ c.part-behind.result.bytes.now c.part-behind.result.len (rw c.in-None.is at c.in-Ok.ensures.begun) c.in-Ok-read_road.ensures.read))

pub read_road_way-returns-in-Err-clause-refused : goal.read_road_way-returns-in-Err-clause-refused
read_road_way-returns-in-Err-clause-refused g t c = (variant_refuses road_definitions road_shape road_name road_variant_definitions road_variants road_has_variants 0 road_way_parts refl road_way_definitions refl _ _ _ c.requires.tag _ _ (first_refuses no_definition (both road_definitions no_definition) (leaf (number_kind unsigned w8)) (record { size = 1; align = 1 }) (record { solved = λ s k. refl }) (part (option_shape (shared rc_flavor (one road_shape))) no_part) _ _ 1 _ _ (rw (c.part_0_of_road_way-p0.ensures.buffer, c.part_0_of_road_way-p0.ensures.position, c.part_0_of_road_way-p0.ensures.length) at c.in-Err.ensures.refused)))

pub read_road_way-returns-in-Err-read_option_shared_road-clause-refused : goal.read_road_way-returns-in-Err-read_option_shared_road-clause-refused
read_road_way-returns-in-Err-read_option_shared_road-clause-refused g t c = (variant_refuses road_definitions road_shape road_name road_variant_definitions road_variants road_has_variants 0 road_way_parts refl road_way_definitions refl _ _ _ c.requires.tag _ _ (later_refuses no_definition (both road_definitions no_definition) (leaf (number_kind unsigned w8)) (record { size = 1; align = 1 }) (record { solved = λ s k. refl }) (part (option_shape (shared rc_flavor (one road_shape))) no_part) _ _ 1 _ _ _ c.in-Ok.ensures.read.kept (first_refuses road_definitions no_definition (option_shape (shared rc_flavor (one road_shape))) (record { size = 8; align = 4 }) (record { solved = λ s k. refl }) no_part _ _ 2 _ _ (rw (c.part_1_of_road_way-p1.ensures.buffer, c.part_1_of_road_way-p1.ensures.position, c.part_1_of_road_way-p1.ensures.length) at c.in-Err-read_option_shared_road.ensures.refused))))

pub read_road_way-returns-clause-read : goal.read_road_way-returns-clause-read
read_road_way-returns-clause-read g t c = read_as (road_way_has_keys c.in-Ok.a0 c.in-Ok-read_option_shared_road.a1) (road_way_means c.in-Ok.a0 c.in-Ok-read_option_shared_road.a1) (variant_read_back road_definitions road_shape road_name road_variant_definitions road_variants road_has_variants 0 road_way_parts refl road_way_definitions refl _ _ _ c.requires.tag _ _ _ _ (part_read_back {L = (record { size = 1; align = 1 })} {ks = []} {ls = ((option_keys (λ y. (rc_keys y.key (one road_shape) 0 (road_meaning y.value.value) (road_keys y.value.value))) c.in-Ok-read_option_shared_road.a1) ++ [])} (record { solved = λ s k. refl }) (rw (c.part_0_of_road_way-p0.ensures.buffer, c.part_0_of_road_way-p0.ensures.position, c.part_0_of_road_way-p0.ensures.length) at c.in-Ok.ensures.read) (part_read_back {L = (record { size = 8; align = 4 })} {ks = (option_keys (λ y. (rc_keys y.key (one road_shape) 0 (road_meaning y.value.value) (road_keys y.value.value))) c.in-Ok-read_option_shared_road.a1)} {ls = []} (record { solved = λ s k. refl }) (rw (c.part_1_of_road_way-p1.ensures.buffer, c.part_1_of_road_way-p1.ensures.position, c.part_1_of_road_way-p1.ensures.length) at c.in-Ok-read_option_shared_road.ensures.read) no_part_read_back)))

pub read_road_detour-returns-in-Err-clause-refused : goal.read_road_detour-returns-in-Err-clause-refused
read_road_detour-returns-in-Err-clause-refused g t c = (variant_refuses road_definitions road_shape road_name road_variant_definitions road_variants road_has_variants 1 road_detour_parts refl road_detour_definitions refl _ _ _ c.requires.tag _ _ (first_refuses road_definitions (both road_definitions no_definition) (shared rc_flavor (one road_shape)) (record { size = 4; align = 4 }) (record { solved = λ s k. refl }) (part (weak rc_flavor (one road_shape)) no_part) _ _ 1 _ _ (rw (c.part_0_of_road_detour-p0.ensures.buffer, c.part_0_of_road_detour-p0.ensures.position, c.part_0_of_road_detour-p0.ensures.length) at c.in-Err.ensures.refused)))

pub read_road_detour-returns-in-Err-read_weak_shared_road-clause-refused : goal.read_road_detour-returns-in-Err-read_weak_shared_road-clause-refused
read_road_detour-returns-in-Err-read_weak_shared_road-clause-refused g t c = (variant_refuses road_definitions road_shape road_name road_variant_definitions road_variants road_has_variants 1 road_detour_parts refl road_detour_definitions refl _ _ _ c.requires.tag _ _ (later_refuses road_definitions (both road_definitions no_definition) (shared rc_flavor (one road_shape)) (record { size = 4; align = 4 }) (record { solved = λ s k. refl }) (part (weak rc_flavor (one road_shape)) no_part) _ _ 1 _ _ _ c.in-Ok.ensures.read.kept (first_refuses road_definitions no_definition (weak rc_flavor (one road_shape)) (record { size = 4; align = 4 }) (record { solved = λ s k. refl }) no_part _ _ 8 _ _ (rw (c.part_1_of_road_detour-p1.ensures.buffer, c.part_1_of_road_detour-p1.ensures.position, c.part_1_of_road_detour-p1.ensures.length) at c.in-Err-read_weak_shared_road.ensures.refused))))

pub read_road_detour-returns-clause-read : goal.read_road_detour-returns-clause-read
read_road_detour-returns-clause-read g t c = read_as (road_detour_has_keys c.in-Ok.a0 c.in-Ok-read_weak_shared_road.a1) (road_detour_means c.in-Ok.a0 c.in-Ok-read_weak_shared_road.a1) (variant_read_back road_definitions road_shape road_name road_variant_definitions road_variants road_has_variants 1 road_detour_parts refl road_detour_definitions refl _ _ _ c.requires.tag _ _ _ _ (part_read_back {L = (record { size = 4; align = 4 })} {ks = (rc_keys c.in-Ok.a0.key (one road_shape) 0 (road_meaning c.in-Ok.a0.value.value) (road_keys c.in-Ok.a0.value.value))} {ls = ((option_keys (λ s. (rc_keys s.key (one road_shape) 0 (road_meaning s.value.value) (road_keys s.value.value))) c.in-Ok-read_weak_shared_road.a1.value) ++ [])} (record { solved = λ s k. refl }) (rw (c.part_0_of_road_detour-p0.ensures.buffer, c.part_0_of_road_detour-p0.ensures.position, c.part_0_of_road_detour-p0.ensures.length) at c.in-Ok.ensures.read) (part_read_back {L = (record { size = 4; align = 4 })} {ks = (option_keys (λ s. (rc_keys s.key (one road_shape) 0 (road_meaning s.value.value) (road_keys s.value.value))) c.in-Ok-read_weak_shared_road.a1.value)} {ls = []} (record { solved = λ s k. refl }) (rw (c.part_1_of_road_detour-p1.ensures.buffer, c.part_1_of_road_detour-p1.ensures.position, c.part_1_of_road_detour-p1.ensures.length) at c.in-Ok-read_weak_shared_road.ensures.read) no_part_read_back)))
