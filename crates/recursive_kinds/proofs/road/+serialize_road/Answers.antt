-- Written by tools/derive: change the declaration, and run it again.
use Rattle.archive_core.proofs.Causes.{goes_both, explains_sooner}
use Rattle.archive_core.proofs.OwnChoices.{serialized_variant, variant_refused}
use Rattle.archive_core.proofs.Planned.{one_owned}
use Rattle.archive_core.proofs.PlannedParts.{serialized_no_part, serialized_part, first_refused, later_refused}
use Rattle.archive_core.proofs.WrittenVariants.{serialized_case, serialized_empty_case, case_refused}
use Rattle.archive_core.proofs.recursive.KeysBegun.{region_refused}
use Rattle.archive_core.specs.Causes.{ValuePart, part_itself, HindersPart, stands_too_far, owner_shared, owner_weak, shared_too_long, shared_owner, weak_owner, IsRefused}
use Rattle.archive_core.specs.Choices.{option_shape}
use Rattle.archive_core.specs.Definitions.{Definitions, both, no_definition}
use Rattle.archive_core.specs.Denotes.{Naming, fills_null}
use Rattle.archive_core.specs.Error.{Error}
use Rattle.archive_core.specs.Held.{written_as, refused_as}
use Rattle.archive_core.specs.Options.{option_keys, option_meaning, option_planned}
use Rattle.archive_core.specs.PartsPlanned.{part_planned, no_part_planned}
use Rattle.archive_core.specs.Plans.{Serialized, serialized, cursor, plans_null}
use Rattle.archive_core.specs.Reads.{SchemaTable}
use Rattle.archive_core.specs.Shape.{Shape, named, choice, shared, weak, one, leaf, unsigned, part, no_part, variant, no_variant, Pointee, number as number_kind}
use Rattle.archive_core.specs.SharedLaws.{weak_value, weak_planned, as_weak}
use Rattle.archive_core.specs.SharedSources.{rc_flavor, rc_keys, rc_one_planned}
use Rattle.archive_core.specs.Value.{Value, case, number, value, no_value, null, shared_value}
use Rattle.archive_core.specs.WriterState.{WriterState}
use Rattle.recursive_kinds.specs.RoadMeaning.{road_meaning, road_keys, road_planned, road_way_means, road_way_has_keys, road_way_opens, road_detour_means, road_detour_has_keys, road_detour_opens}
use Rattle.recursive_kinds.specs.RoadShape.{road_name, road_shape, road_definitions, road_variants, road_variant_definitions, road_has_variants, road_way_parts, road_way_definitions, road_detour_parts, road_detour_definitions}
use Rattle.std.proofs.Common.{inl, inr, ◌≡◌, ◌++◌, [], ℕ, List, refl, arith, pos, ⊎_elim}
use Rattle.std.proofs.lemmas.Grind.{common_steps}
use Rattle.std.specs.Int.{w8}
use Rattle.std.specs.Prelude.{ℕ, List, [], ◌++◌, ◌≡◌, refl, pos, codes}
use Rattle.recursive_kinds.proofs.road.+serialize_road.Goals as goal

pub serialize_shared_road-returns-in-Err-clause-refused : goal.serialize_shared_road-returns-in-Err-clause-refused
serialize_shared_road-returns-in-Err-clause-refused g t c = (c.in-Err.ensures.refused.said road_definitions rc_flavor (one road_shape) 0 (road_keys c.args.value.now.value.value) (road_meaning c.args.value.now.value.value))

pub serialize_shared_road-returns-in-Err-serialize_road-clause-goes_on : goal.serialize_shared_road-returns-in-Err-serialize_road-clause-goes_on
serialize_shared_road-returns-in-Err-serialize_road-clause-goes_on g t c = (goes_both _ _ _ c.begin_shared.ensures.goes_on c.serialize_road.ensures.goes_on)

pub serialize_shared_road-returns-in-Err-serialize_road-clause-refused : goal.serialize_shared_road-returns-in-Err-serialize_road-clause-refused
serialize_shared_road-returns-in-Err-serialize_road-clause-refused g t c = (let same : c.deref-inner.result.now ≡ c.args.value.now.value.value = grind (arith, common_steps) in rw (← same) (region_refused road_definitions (one road_shape) 0 c.args.value.now.key _ _ rc_flavor _ _ _ _ (rw c.in-None.is at c.in-Ok.ensures.begun) c.serialize_road.ensures.goes_on (one_owned road_definitions road_shape _ _ _ _ _ c.in-Err-serialize_road.ensures.refused)))

pub serialize_shared_road-returns-in-Err-finish_shared-clause-goes_on : goal.serialize_shared_road-returns-in-Err-finish_shared-clause-goes_on
serialize_shared_road-returns-in-Err-finish_shared-clause-goes_on g t c = (c.finish_shared.ensures.goes_on.since _ _ (rw c.in-None.is at c.in-Ok.ensures.begun) c.serialize_road.ensures.goes_on)

pub serialize_shared_road-returns-in-Err-finish_shared-clause-refused : goal.serialize_shared_road-returns-in-Err-finish_shared-clause-refused
serialize_shared_road-returns-in-Err-finish_shared-clause-refused g t c = (let same : c.deref-inner.result.now ≡ c.args.value.now.value.value = grind (arith, common_steps) in rw (← same) (c.in-Err-finish_shared.ensures.refused.since rc_flavor _ _ (rw c.in-None.is at c.in-Ok.ensures.begun) c.serialize_road.ensures.goes_on c.in-Ok-serialize_road.ensures.serialized))

pub serialize_shared_road-returns-in-Some-clause-serialized : goal.serialize_shared_road-returns-in-Some-clause-serialized
serialize_shared_road-returns-in-Some-clause-serialized g t c = ((rw c.in-Some.is at c.in-Ok.ensures.known).said road_definitions rc_flavor (one road_shape) 0 (road_keys c.args.value.now.value.value) (road_meaning c.args.value.now.value.value))

pub serialize_shared_road-returns-in-Ok-finish_shared-clause-serialized : goal.serialize_shared_road-returns-in-Ok-finish_shared-clause-serialized
serialize_shared_road-returns-in-Ok-finish_shared-clause-serialized g t c = (let same : c.deref-inner.result.now ≡ c.args.value.now.value.value = grind (arith, common_steps) in rw (← same) (c.in-Ok-finish_shared.ensures.shared.since rc_flavor _ _ (rw c.in-None.is at c.in-Ok.ensures.begun) c.serialize_road.ensures.goes_on c.in-Ok-serialize_road.ensures.serialized))

pub serialize_shared_road-returns-in-Ok-finish_shared-clause-goes_on : goal.serialize_shared_road-returns-in-Ok-finish_shared-clause-goes_on
serialize_shared_road-returns-in-Ok-finish_shared-clause-goes_on g t c = (c.finish_shared.ensures.goes_on.since _ _ (rw c.in-None.is at c.in-Ok.ensures.begun) c.serialize_road.ensures.goes_on)

pub serialize_option_shared_road-returns-in-None-clause-serialized : goal.serialize_option_shared_road-returns-in-None-clause-serialized
serialize_option_shared_road-returns-in-None-clause-serialized g t c = rw c.in-None.is (serialized_empty_case road_definitions _ _ 0 refl _)

pub serialize_option_shared_road-returns-in-Err-clause-refused : goal.serialize_option_shared_road-returns-in-Err-clause-refused
serialize_option_shared_road-returns-in-Err-clause-refused g t c = rw c.in-Some.is (case_refused road_definitions road_definitions (λ s k. k) _ _ 1 (shared rc_flavor (one road_shape)) refl _ _ _ _ _ (c.in-Err.ensures.refused.said road_definitions rc_flavor (one road_shape) 0 (road_keys c.in-Some.whole.value.value) (road_meaning c.in-Some.whole.value.value)))

pub serialize_option_shared_road-returns-in-Err-serialize_road-clause-goes_on : goal.serialize_option_shared_road-returns-in-Err-serialize_road-clause-goes_on
serialize_option_shared_road-returns-in-Err-serialize_road-clause-goes_on g t c = (goes_both _ _ _ c.begin_shared.ensures.goes_on c.serialize_road.ensures.goes_on)

pub serialize_option_shared_road-returns-in-Err-serialize_road-clause-refused : goal.serialize_option_shared_road-returns-in-Err-serialize_road-clause-refused
serialize_option_shared_road-returns-in-Err-serialize_road-clause-refused g t c = rw c.in-Some.is (case_refused road_definitions road_definitions (λ s k. k) _ _ 1 (shared rc_flavor (one road_shape)) refl _ _ _ _ _ (let same : c.deref-inner.result.now ≡ c.in-Some.whole.value.value = grind (arith, common_steps) in rw (← same) (region_refused road_definitions (one road_shape) 0 c.in-Some.whole.key _ _ rc_flavor _ _ _ _ (rw c.in-None-known.is at c.in-Ok.ensures.begun) c.serialize_road.ensures.goes_on (one_owned road_definitions road_shape _ _ _ _ _ c.in-Err-serialize_road.ensures.refused))))

pub serialize_option_shared_road-returns-in-Err-finish_shared-clause-goes_on : goal.serialize_option_shared_road-returns-in-Err-finish_shared-clause-goes_on
serialize_option_shared_road-returns-in-Err-finish_shared-clause-goes_on g t c = (c.finish_shared.ensures.goes_on.since _ _ (rw c.in-None-known.is at c.in-Ok.ensures.begun) c.serialize_road.ensures.goes_on)

pub serialize_option_shared_road-returns-in-Err-finish_shared-clause-refused : goal.serialize_option_shared_road-returns-in-Err-finish_shared-clause-refused
serialize_option_shared_road-returns-in-Err-finish_shared-clause-refused g t c = rw c.in-Some.is (case_refused road_definitions road_definitions (λ s k. k) _ _ 1 (shared rc_flavor (one road_shape)) refl _ _ _ _ _ (let same : c.deref-inner.result.now ≡ c.in-Some.whole.value.value = grind (arith, common_steps) in rw (← same) (c.in-Err-finish_shared.ensures.refused.since rc_flavor _ _ (rw c.in-None-known.is at c.in-Ok.ensures.begun) c.serialize_road.ensures.goes_on c.in-Ok-serialize_road.ensures.serialized)))

pub serialize_option_shared_road-returns-in-Some-known-clause-serialized : goal.serialize_option_shared_road-returns-in-Some-known-clause-serialized
serialize_option_shared_road-returns-in-Some-known-clause-serialized g t c = rw c.in-Some.is (serialized_case road_definitions road_definitions (λ s k. k) _ _ 1 (shared rc_flavor (one road_shape)) refl _ _ _ _ _ ((rw c.in-Some-known.is at c.in-Ok.ensures.known).said road_definitions rc_flavor (one road_shape) 0 (road_keys c.in-Some.whole.value.value) (road_meaning c.in-Some.whole.value.value)))

pub serialize_option_shared_road-returns-in-Ok-finish_shared-clause-serialized : goal.serialize_option_shared_road-returns-in-Ok-finish_shared-clause-serialized
serialize_option_shared_road-returns-in-Ok-finish_shared-clause-serialized g t c = rw c.in-Some.is (serialized_case road_definitions road_definitions (λ s k. k) _ _ 1 (shared rc_flavor (one road_shape)) refl _ _ _ _ _ (let same : c.deref-inner.result.now ≡ c.in-Some.whole.value.value = grind (arith, common_steps) in rw (← same) (c.in-Ok-finish_shared.ensures.shared.since rc_flavor _ _ (rw c.in-None-known.is at c.in-Ok.ensures.begun) c.serialize_road.ensures.goes_on c.in-Ok-serialize_road.ensures.serialized)))

pub serialize_option_shared_road-returns-in-Ok-finish_shared-clause-goes_on : goal.serialize_option_shared_road-returns-in-Ok-finish_shared-clause-goes_on
serialize_option_shared_road-returns-in-Ok-finish_shared-clause-goes_on g t c = (c.finish_shared.ensures.goes_on.since _ _ (rw c.in-None-known.is at c.in-Ok.ensures.begun) c.serialize_road.ensures.goes_on)

weak_serialized : (D : Definitions) (P : Pointee) (ks : List Naming) (v flat : Value) (old new : WriterState) → Serialized D (shared rc_flavor P) ks v flat old new → Serialized D (weak rc_flavor P) ks v flat old new
weak_serialized D P ks v flat old new (serialized writes planned) = serialized writes (λ below s names k m. (
    let q = planned below s names k m in
    record { flat = q.flat; steps = q.steps; stop = q.stop; plans = as_weak q.plans; such = q.such }))

null_serialized : (D : Definitions) (P : Pointee) (w : WriterState) → Serialized D (weak rc_flavor P) [] null null w w
null_serialized D P w = as_null (serialized_empty_case D (codes "") (variant no_part no_variant) 0 refl w)
  where
    as_null : Serialized D (choice (codes "") (variant no_part no_variant)) [] (case 0 no_value) (case 0 no_value) w w → Serialized D (weak rc_flavor P) [] null null w w
    as_null (serialized writes planned) = serialized
        (record { added = writes.added; grown = writes.grown; states = writes.states; finished = λ k n. elim n [ ]; appends = writes.appends; fills = λ x c. fills_null })
        (λ below s names k n. record { flat = null; steps = []; stop = cursor w; plans = plans_null; such = (refl, record { position = refl; keys = λ key. refl }) })

weak_part : {s : SchemaTable} {P : Pointee} {v : Value} {o : ℕ} {Y : Shape} {w : Value} {e : Error} → ValuePart s (shared rc_flavor P) v o Y w → HindersPart Y w e
    → (Z : Shape) × ValuePart s (weak rc_flavor P) v o Z w × HindersPart Z w e
weak_part {P = P} part_itself (stands_too_far owner_shared there far) = (weak rc_flavor P, part_itself, stands_too_far owner_weak there far)
weak_part {P = P} part_itself (shared_too_long shared_owner long) = (weak rc_flavor P, part_itself, shared_too_long weak_owner long)

weak_refused : (D : Definitions) (P : Pointee) (ks : List Naming) (v : Value) (old new : WriterState) (e : Error) → IsRefused D (shared rc_flavor P) ks v old new e → IsRefused D (weak rc_flavor P) ks v old new e
weak_refused D P ks v old new e h = explains_sooner _ _ _ _ old new e
    (λ x. record {
      named = x.named;
      cause = λ below s names k m. (
          let q = x.cause below s names k m in
          record {
            flat = q.flat;
            steps = q.steps;
            stop = q.stop;
            plans = as_weak q.plans;
            such = ⊎_elim inl (λ y. (let z = weak_part y.3 y.4 in inr (y.0, z.0, y.2, z.1, z.2))) q.such;
          });
    })
    (λ m x below s names k l. (let q = x below s names k l in record { flat = q.flat; steps = q.steps; stop = q.stop; plans = as_weak q.plans; such = q.such })) h

pub serialize_weak_shared_road-returns-in-None-clause-serialized : goal.serialize_weak_shared_road-returns-in-None-clause-serialized
serialize_weak_shared_road-returns-in-None-clause-serialized g t c = rw c.in-None.is (null_serialized road_definitions (one road_shape) _)

pub serialize_weak_shared_road-returns-in-Err-clause-refused : goal.serialize_weak_shared_road-returns-in-Err-clause-refused
serialize_weak_shared_road-returns-in-Err-clause-refused g t c = rw c.in-Some.is (weak_refused road_definitions (one road_shape) _ _ _ _ _ (c.in-Err.ensures.refused.said road_definitions rc_flavor (one road_shape) 0 (road_keys c.in-Some.whole.value.value) (road_meaning c.in-Some.whole.value.value)))

pub serialize_weak_shared_road-returns-in-Err-serialize_road-clause-goes_on : goal.serialize_weak_shared_road-returns-in-Err-serialize_road-clause-goes_on
serialize_weak_shared_road-returns-in-Err-serialize_road-clause-goes_on g t c = (goes_both _ _ _ c.begin_shared.ensures.goes_on c.serialize_road.ensures.goes_on)

pub serialize_weak_shared_road-returns-in-Err-serialize_road-clause-refused : goal.serialize_weak_shared_road-returns-in-Err-serialize_road-clause-refused
serialize_weak_shared_road-returns-in-Err-serialize_road-clause-refused g t c = rw c.in-Some.is (weak_refused road_definitions (one road_shape) _ _ _ _ _ (let same : c.deref-inner.result.now ≡ c.in-Some.whole.value.value = grind (arith, common_steps) in rw (← same) (region_refused road_definitions (one road_shape) 0 c.in-Some.whole.key _ _ rc_flavor _ _ _ _ (rw c.in-None-known.is at c.in-Ok.ensures.begun) c.serialize_road.ensures.goes_on (one_owned road_definitions road_shape _ _ _ _ _ c.in-Err-serialize_road.ensures.refused))))

pub serialize_weak_shared_road-returns-in-Err-finish_shared-clause-goes_on : goal.serialize_weak_shared_road-returns-in-Err-finish_shared-clause-goes_on
serialize_weak_shared_road-returns-in-Err-finish_shared-clause-goes_on g t c = (c.finish_shared.ensures.goes_on.since _ _ (rw c.in-None-known.is at c.in-Ok.ensures.begun) c.serialize_road.ensures.goes_on)

pub serialize_weak_shared_road-returns-in-Err-finish_shared-clause-refused : goal.serialize_weak_shared_road-returns-in-Err-finish_shared-clause-refused
serialize_weak_shared_road-returns-in-Err-finish_shared-clause-refused g t c = rw c.in-Some.is (weak_refused road_definitions (one road_shape) _ _ _ _ _ (let same : c.deref-inner.result.now ≡ c.in-Some.whole.value.value = grind (arith, common_steps) in rw (← same) (c.in-Err-finish_shared.ensures.refused.since rc_flavor _ _ (rw c.in-None-known.is at c.in-Ok.ensures.begun) c.serialize_road.ensures.goes_on c.in-Ok-serialize_road.ensures.serialized)))

pub serialize_weak_shared_road-returns-in-Some-known-clause-serialized : goal.serialize_weak_shared_road-returns-in-Some-known-clause-serialized
serialize_weak_shared_road-returns-in-Some-known-clause-serialized g t c = rw c.in-Some.is (weak_serialized road_definitions (one road_shape) _ _ _ _ _ ((rw c.in-Some-known.is at c.in-Ok.ensures.known).said road_definitions rc_flavor (one road_shape) 0 (road_keys c.in-Some.whole.value.value) (road_meaning c.in-Some.whole.value.value)))

pub serialize_weak_shared_road-returns-in-Ok-finish_shared-clause-serialized : goal.serialize_weak_shared_road-returns-in-Ok-finish_shared-clause-serialized
serialize_weak_shared_road-returns-in-Ok-finish_shared-clause-serialized g t c = rw c.in-Some.is (weak_serialized road_definitions (one road_shape) _ _ _ _ _ (let same : c.deref-inner.result.now ≡ c.in-Some.whole.value.value = grind (arith, common_steps) in rw (← same) (c.in-Ok-finish_shared.ensures.shared.since rc_flavor _ _ (rw c.in-None-known.is at c.in-Ok.ensures.begun) c.serialize_road.ensures.goes_on c.in-Ok-serialize_road.ensures.serialized)))

pub serialize_weak_shared_road-returns-in-Ok-finish_shared-clause-goes_on : goal.serialize_weak_shared_road-returns-in-Ok-finish_shared-clause-goes_on
serialize_weak_shared_road-returns-in-Ok-finish_shared-clause-goes_on g t c = (c.finish_shared.ensures.goes_on.since _ _ (rw c.in-None-known.is at c.in-Ok.ensures.begun) c.serialize_road.ensures.goes_on)

pub serialize_road_way-returns-in-Err-clause-refused : goal.serialize_road_way-returns-in-Err-clause-refused
serialize_road_way-returns-in-Err-clause-refused g t c = (variant_refused road_definitions road_shape road_name road_variant_definitions road_variants road_has_variants 0 road_way_parts refl road_way_definitions refl _ _ _ _ _ (first_refused no_definition (both road_definitions no_definition) (leaf (number_kind unsigned w8)) (part (option_shape (shared rc_flavor (one road_shape))) no_part) [] ((option_keys (λ y. (rc_keys y.key (one road_shape) 0 (road_meaning y.value.value) (road_keys y.value.value))) c.args.a1.now) ++ []) (number (pos c.args.a0.now)) (value (option_meaning (λ y. (shared_value y.key)) c.args.a1.now) no_value) _ _ _ (part_planned road_definitions (option_shape (shared rc_flavor (one road_shape))) (option_keys (λ y. (rc_keys y.key (one road_shape) 0 (road_meaning y.value.value) (road_keys y.value.value))) c.args.a1.now) (option_meaning (λ y. (shared_value y.key)) c.args.a1.now) (option_planned road_definitions (shared rc_flavor (one road_shape)) (λ y. (rc_keys y.key (one road_shape) 0 (road_meaning y.value.value) (road_keys y.value.value))) (λ y. (shared_value y.key)) (λ y. (rc_one_planned road_definitions y.key (one road_shape) road_shape refl _ _ (road_planned y.value.value))) c.args.a1.now) no_part_planned) c.in-Err.ensures.refused))

pub serialize_road_way-returns-in-Err-serialize_option_shared_road-clause-refused : goal.serialize_road_way-returns-in-Err-serialize_option_shared_road-clause-refused
serialize_road_way-returns-in-Err-serialize_option_shared_road-clause-refused g t c = (variant_refused road_definitions road_shape road_name road_variant_definitions road_variants road_has_variants 0 road_way_parts refl road_way_definitions refl _ _ _ _ _ (later_refused no_definition (both road_definitions no_definition) (leaf (number_kind unsigned w8)) (part (option_shape (shared rc_flavor (one road_shape))) no_part) [] ((option_keys (λ y. (rc_keys y.key (one road_shape) 0 (road_meaning y.value.value) (road_keys y.value.value))) c.args.a1.now) ++ []) (number (pos c.args.a0.now)) (value (option_meaning (λ y. (shared_value y.key)) c.args.a1.now) no_value) _ _ _ _ _ c.in-Ok.ensures.serialized c.serialize_part.ensures.goes_on c.serialize_option_shared_road.ensures.goes_on (first_refused road_definitions no_definition (option_shape (shared rc_flavor (one road_shape))) no_part (option_keys (λ y. (rc_keys y.key (one road_shape) 0 (road_meaning y.value.value) (road_keys y.value.value))) c.args.a1.now) [] (option_meaning (λ y. (shared_value y.key)) c.args.a1.now) no_value _ _ _ no_part_planned c.in-Err-serialize_option_shared_road.ensures.refused)))

pub serialize_road_way-returns-in-Err-serialize_option_shared_road-clause-goes_on : goal.serialize_road_way-returns-in-Err-serialize_option_shared_road-clause-goes_on
serialize_road_way-returns-in-Err-serialize_option_shared_road-clause-goes_on g t c = (goes_both _ _ _ c.serialize_part.ensures.goes_on c.serialize_option_shared_road.ensures.goes_on)

pub serialize_road_way-returns-clause-serialized : goal.serialize_road_way-returns-clause-serialized
serialize_road_way-returns-clause-serialized g t c = (serialized_variant road_definitions road_shape road_name road_variant_definitions road_variants road_has_variants 0 road_way_parts refl road_way_definitions refl _ _ _ _ _ (serialized_part no_definition (both road_definitions no_definition) (leaf (number_kind unsigned w8)) (part (option_shape (shared rc_flavor (one road_shape))) no_part) [] ((option_keys (λ y. (rc_keys y.key (one road_shape) 0 (road_meaning y.value.value) (road_keys y.value.value))) c.args.a1.now) ++ []) (number (pos c.args.a0.now)) (value (option_meaning (λ y. (shared_value y.key)) c.args.a1.now) no_value) _ _ _ _ _ c.in-Ok.ensures.serialized (serialized_part road_definitions no_definition (option_shape (shared rc_flavor (one road_shape))) no_part (option_keys (λ y. (rc_keys y.key (one road_shape) 0 (road_meaning y.value.value) (road_keys y.value.value))) c.args.a1.now) [] (option_meaning (λ y. (shared_value y.key)) c.args.a1.now) no_value _ _ _ _ _ c.in-Ok-serialize_option_shared_road.ensures.serialized (serialized_no_part no_definition _))))

pub serialize_road_way-returns-clause-goes_on : goal.serialize_road_way-returns-clause-goes_on
serialize_road_way-returns-clause-goes_on g t c = (goes_both _ _ _ c.serialize_part.ensures.goes_on c.serialize_option_shared_road.ensures.goes_on)

pub serialize_whole_road-returns-in-Ok-clause-serialized : goal.serialize_whole_road-returns-in-Ok-clause-serialized
serialize_whole_road-returns-in-Ok-clause-serialized g t c = rw c.in-Way.is (written_as (road_way_has_keys c.in-Way.a0 c.in-Way.a1) (road_way_means c.in-Way.a0 c.in-Way.a1) (rw (road_way_opens c.in-Way.a0 c.in-Way.a1) refl) c.in-Ok.ensures.serialized)

pub serialize_whole_road-returns-in-Ok-clause-same_value : goal.serialize_whole_road-returns-in-Ok-clause-same_value
serialize_whole_road-returns-in-Ok-clause-same_value g t c = rw (c.in-Way.is, road_way_opens c.in-Way.a0 c.in-Way.a1) c.in-Ok.ensures.same_values

pub serialize_whole_road-returns-in-Err-clause-refused : goal.serialize_whole_road-returns-in-Err-clause-refused
serialize_whole_road-returns-in-Err-clause-refused g t c = rw c.in-Way.is (refused_as (road_way_has_keys c.in-Way.a0 c.in-Way.a1) (road_way_means c.in-Way.a0 c.in-Way.a1) c.in-Err.ensures.refused)

pub serialize_whole_road-returns-in-Err-serialize_shared_road-clause-refused : goal.serialize_whole_road-returns-in-Err-serialize_shared_road-clause-refused
serialize_whole_road-returns-in-Err-serialize_shared_road-clause-refused g t c = rw c.in-Detour.is (refused_as (road_detour_has_keys c.in-Detour.a0 c.in-Detour.a1) (road_detour_means c.in-Detour.a0 c.in-Detour.a1) (variant_refused road_definitions road_shape road_name road_variant_definitions road_variants road_has_variants 1 road_detour_parts refl road_detour_definitions refl _ _ _ _ _ (first_refused road_definitions (both road_definitions no_definition) (shared rc_flavor (one road_shape)) (part (weak rc_flavor (one road_shape)) no_part) (rc_keys c.in-Detour.a0.key (one road_shape) 0 (road_meaning c.in-Detour.a0.value.value) (road_keys c.in-Detour.a0.value.value)) ((option_keys (λ s. (rc_keys s.key (one road_shape) 0 (road_meaning s.value.value) (road_keys s.value.value))) c.in-Detour.a1.value) ++ []) (shared_value c.in-Detour.a0.key) (value (weak_value (λ s. (shared_value s.key)) c.in-Detour.a1.value) no_value) _ _ _ (part_planned road_definitions (weak rc_flavor (one road_shape)) (option_keys (λ s. (rc_keys s.key (one road_shape) 0 (road_meaning s.value.value) (road_keys s.value.value))) c.in-Detour.a1.value) (weak_value (λ s. (shared_value s.key)) c.in-Detour.a1.value) (weak_planned road_definitions rc_flavor (one road_shape) (λ s. (rc_keys s.key (one road_shape) 0 (road_meaning s.value.value) (road_keys s.value.value))) (λ s. (shared_value s.key)) (λ s. (rc_one_planned road_definitions s.key (one road_shape) road_shape refl _ _ (road_planned s.value.value))) c.in-Detour.a1.value) no_part_planned) c.in-Err-serialize_shared_road.ensures.refused)))

pub serialize_whole_road-returns-in-Err-serialize_weak_shared_road-clause-refused : goal.serialize_whole_road-returns-in-Err-serialize_weak_shared_road-clause-refused
serialize_whole_road-returns-in-Err-serialize_weak_shared_road-clause-refused g t c = rw c.in-Detour.is (refused_as (road_detour_has_keys c.in-Detour.a0 c.in-Detour.a1) (road_detour_means c.in-Detour.a0 c.in-Detour.a1) (variant_refused road_definitions road_shape road_name road_variant_definitions road_variants road_has_variants 1 road_detour_parts refl road_detour_definitions refl _ _ _ _ _ (later_refused road_definitions (both road_definitions no_definition) (shared rc_flavor (one road_shape)) (part (weak rc_flavor (one road_shape)) no_part) (rc_keys c.in-Detour.a0.key (one road_shape) 0 (road_meaning c.in-Detour.a0.value.value) (road_keys c.in-Detour.a0.value.value)) ((option_keys (λ s. (rc_keys s.key (one road_shape) 0 (road_meaning s.value.value) (road_keys s.value.value))) c.in-Detour.a1.value) ++ []) (shared_value c.in-Detour.a0.key) (value (weak_value (λ s. (shared_value s.key)) c.in-Detour.a1.value) no_value) _ _ _ _ _ c.in-Ok-serialize_shared_road.ensures.serialized c.serialize_shared_road.ensures.goes_on c.serialize_weak_shared_road.ensures.goes_on (first_refused road_definitions no_definition (weak rc_flavor (one road_shape)) no_part (option_keys (λ s. (rc_keys s.key (one road_shape) 0 (road_meaning s.value.value) (road_keys s.value.value))) c.in-Detour.a1.value) [] (weak_value (λ s. (shared_value s.key)) c.in-Detour.a1.value) no_value _ _ _ no_part_planned c.in-Err-serialize_weak_shared_road.ensures.refused))))

pub serialize_whole_road-returns-in-Err-serialize_weak_shared_road-clause-goes_on : goal.serialize_whole_road-returns-in-Err-serialize_weak_shared_road-clause-goes_on
serialize_whole_road-returns-in-Err-serialize_weak_shared_road-clause-goes_on g t c = (goes_both _ _ _ c.serialize_shared_road.ensures.goes_on c.serialize_weak_shared_road.ensures.goes_on)

pub serialize_whole_road-returns-in-Ok-serialize_weak_shared_road-clause-serialized : goal.serialize_whole_road-returns-in-Ok-serialize_weak_shared_road-clause-serialized
serialize_whole_road-returns-in-Ok-serialize_weak_shared_road-clause-serialized g t c = rw c.in-Detour.is (written_as (road_detour_has_keys c.in-Detour.a0 c.in-Detour.a1) (road_detour_means c.in-Detour.a0 c.in-Detour.a1) (rw (road_detour_opens c.in-Detour.a0 c.in-Detour.a1) refl) (serialized_variant road_definitions road_shape road_name road_variant_definitions road_variants road_has_variants 1 road_detour_parts refl road_detour_definitions refl _ _ _ _ _ (serialized_part road_definitions (both road_definitions no_definition) (shared rc_flavor (one road_shape)) (part (weak rc_flavor (one road_shape)) no_part) (rc_keys c.in-Detour.a0.key (one road_shape) 0 (road_meaning c.in-Detour.a0.value.value) (road_keys c.in-Detour.a0.value.value)) ((option_keys (λ s. (rc_keys s.key (one road_shape) 0 (road_meaning s.value.value) (road_keys s.value.value))) c.in-Detour.a1.value) ++ []) (shared_value c.in-Detour.a0.key) (value (weak_value (λ s. (shared_value s.key)) c.in-Detour.a1.value) no_value) _ _ _ _ _ c.in-Ok-serialize_shared_road.ensures.serialized (serialized_part road_definitions no_definition (weak rc_flavor (one road_shape)) no_part (option_keys (λ s. (rc_keys s.key (one road_shape) 0 (road_meaning s.value.value) (road_keys s.value.value))) c.in-Detour.a1.value) [] (weak_value (λ s. (shared_value s.key)) c.in-Detour.a1.value) no_value _ _ _ _ _ c.in-Ok-serialize_weak_shared_road.ensures.serialized (serialized_no_part no_definition _)))))

pub serialize_whole_road-returns-in-Ok-serialize_weak_shared_road-clause-goes_on : goal.serialize_whole_road-returns-in-Ok-serialize_weak_shared_road-clause-goes_on
serialize_whole_road-returns-in-Ok-serialize_weak_shared_road-clause-goes_on g t c = (goes_both _ _ _ c.serialize_shared_road.ensures.goes_on c.serialize_weak_shared_road.ensures.goes_on)

pub serialize_whole_road-returns-in-Ok-serialize_weak_shared_road-clause-same_value : goal.serialize_whole_road-returns-in-Ok-serialize_weak_shared_road-clause-same_value
serialize_whole_road-returns-in-Ok-serialize_weak_shared_road-clause-same_value g t c = rw (c.in-Detour.is, road_detour_opens c.in-Detour.a0 c.in-Detour.a1) (c.in-Ok-serialize_shared_road.ensures.same_value, (c.in-Ok-serialize_weak_shared_road.ensures.same_value, tt))
