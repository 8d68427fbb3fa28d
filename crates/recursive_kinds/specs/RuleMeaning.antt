-- What Rule means. Written by tools/derive: change the declaration, and run it again.
use Rattle.archive_core.specs.Arrays.{array_keys, array_meaning, array_keyed, array_planned}
use Rattle.archive_core.specs.Definitions.{no_definition}
use Rattle.archive_core.specs.Denotes.{Naming}
use Rattle.archive_core.specs.Held.{each_mapped, each_mapped_keys, held_keyed, held_planned, keyed_as, planned_as}
use Rattle.archive_core.specs.Keyed.{each_keyed, record_keyed, nothing_keyed, part_keyed, number_keyed, text_keyed, box_keyed}
use Rattle.archive_core.specs.PartsPlanned.{part_planned, no_part_planned, record_planned}
use Rattle.archive_core.specs.Planned.{leaf_planned, text_planned}
use Rattle.archive_core.specs.PlannedOwners.{box_planned, run_region_planned, slice_planned}
use Rattle.archive_core.specs.Plans.{HasPlan}
use Rattle.archive_core.specs.Runs.{each_keys, each_meaning, each_flat, EachBelongs}
use Rattle.archive_core.specs.Shape.{parts, boxed, array, run, text, leaf, unsigned, number as number_kind}
use Rattle.archive_core.specs.Value.{Value, product, list, box, hole, number, value, no_value, text_value}
use Rattle.archive_core.specs.Writing.{IsKeyed, to_pointee}
use Rattle.recursive_kinds.specs.declared.rule.Rule.{Rule-F, out-Rule, roll-Rule, fold-Rule, fold-roll-Rule, ind-Rule, roll-out-Rule}
use Rattle.recursive_kinds.specs.declared.rule.Rule.TheFolds.{map-Rule}
use Rattle.recursive_kinds.specs.declared.rule.RuleResolver.{RuleResolver}
use Rattle.std.proofs.Common.{ap, subst, sym, ◌∙◌}
use Rattle.std.specs.Int.{w8, w16, w32}
use Rattle.std.specs.Prelude.{List, [], ◌++◌, ◌≡◌, ◌≤◌, refl, pos, length, map, string_bytes, ⊤, ◌<◌, ◌^◌}
use Rattle.recursive_kinds.specs.RuleShape.{rule_shape, rule_definitions, rule_parts, rule_part_definitions, rule_has_parts}
use Rattle.recursive_kinds.specs.declared.rule.Rule.{Rule as Rule-Source}

abbrev pub rule_meaning_layer : {A : Type 0} → (A → Value) → Rule-F A → Value
rule_meaning_layer m t = product (value (box (text_value (string_bytes t.words.text))) (value (array_meaning 4 (λ y. (number (pos y))) t.version) (value (box (list (each_meaning (λ y. (number (pos y))) t.pages.items.items))) (value (number (pos t.lines)) (value (box (list (each_meaning m t.parts.items.items))) no_value)))))

pub rule_meaning : Rule-Source → Value
rule_meaning = fold-Rule Value (rule_meaning_layer (λ v. v))

pub rule_means_roll : (x : Rule-F Rule-Source) → rule_meaning (roll-Rule x) ≡ rule_meaning_layer rule_meaning x
unfolding rule_meaning
rule_means_roll t = fold-roll-Rule Value (rule_meaning_layer (λ v. v)) t ∙ ap (λ vs. product (value (box (text_value (string_bytes t.words.text))) (value (array_meaning 4 (λ y. (number (pos y))) t.version) (value (box (list (each_meaning (λ y. (number (pos y))) t.pages.items.items))) (value (number (pos t.lines)) (value (box (list vs)) no_value)))))) (each_mapped rule_meaning t.parts.items.items)

pub rule_means : (t : Rule-Source) → rule_meaning t ≡ rule_meaning_layer rule_meaning (out-Rule t)
rule_means t = ap rule_meaning (sym (roll-out-Rule t)) ∙ rule_means_roll (out-Rule t)

abbrev pub rule_keys_layer : {A : Type 0} → (A → (List Naming)) → Rule-F A → (List Naming)
rule_keys_layer m t = ([] ++ ((array_keys 4 (λ y. []) t.version) ++ ((each_keys (λ y. []) t.pages.items.items) ++ ([] ++ ((each_keys m t.parts.items.items) ++ [])))))

pub rule_keys : Rule-Source → (List Naming)
rule_keys = fold-Rule (List Naming) (rule_keys_layer (λ v. v))

pub rule_has_keys_roll : (x : Rule-F Rule-Source) → rule_keys (roll-Rule x) ≡ rule_keys_layer rule_keys x
unfolding rule_keys
rule_has_keys_roll t = fold-roll-Rule (List Naming) (rule_keys_layer (λ v. v)) t ∙ ap (λ vs. ([] ++ ((array_keys 4 (λ y. []) t.version) ++ ((each_keys (λ y. []) t.pages.items.items) ++ ([] ++ (vs ++ [])))))) (each_mapped_keys rule_keys t.parts.items.items)

pub rule_has_keys : (t : Rule-Source) → rule_keys t ≡ rule_keys_layer rule_keys (out-Rule t)
rule_has_keys t = ap rule_keys (sym (roll-out-Rule t)) ∙ rule_has_keys_roll (out-Rule t)

-- what is read in its place
abbrev pub rule_flat : Rule-Source → RuleResolver → Value
rule_flat t r = product (value (box (hole (to_pointee r.kept.0 text (length (string_bytes (out-Rule t).words.text))))) (value (list (each_flat (λ y s. (number (pos y))) (out-Rule t).version r.kept.1.0.kept.items)) (value (box (hole (to_pointee r.kept.1.1.0 (run (leaf (number_kind unsigned w16))) (length (out-Rule t).pages.items.items)))) (value (number (pos (out-Rule t).lines)) (value (box (hole (to_pointee r.kept.1.1.1.1.0 (run rule_shape) (length (out-Rule t).parts.items.items)))) no_value)))))

abbrev pub rule_belongs : Rule-Source → RuleResolver → Type 0
rule_belongs t r = ((length (string_bytes (out-Rule t).words.text) ≤ 4294967295) × ((EachBelongs (λ y s. ⊤) (out-Rule t).version r.kept.1.0.kept.items) × ((length (out-Rule t).pages.items.items ≤ 4294967295) × (((out-Rule t).lines < 2 ^ 32) × ((length (out-Rule t).parts.items.items ≤ 4294967295) × Unit {0})))))

rule_keyed_layer : (y : Rule-F ((t : Rule-Source) × IsKeyed (rule_keys t) (rule_meaning t))) → IsKeyed (rule_keys (roll-Rule (map-Rule ((t : Rule-Source) × IsKeyed (rule_keys t) (rule_meaning t)) Rule-Source (λ e. e.0) y))) (rule_meaning (roll-Rule (map-Rule ((t : Rule-Source) × IsKeyed (rule_keys t) (rule_meaning t)) Rule-Source (λ e. e.0) y)))
rule_keyed_layer y = keyed_as (rule_has_keys_roll _) (rule_means_roll _) (record_keyed (part_keyed (box_keyed [] (text_value (string_bytes y.words.text)) (text_keyed (string_bytes y.words.text))) (part_keyed (array_keyed 4 (λ y. []) (λ y. (number (pos y))) (λ y. (number_keyed _)) y.version) (part_keyed (box_keyed _ _ (each_keyed (λ y. []) (λ y. (number (pos y))) (λ y. (number_keyed _)) y.pages.items.items)) (part_keyed (number_keyed _) (part_keyed (box_keyed _ _ (held_keyed rule_keys rule_meaning y.parts.items.items)) nothing_keyed))))))

pub rule_keyed : (t : Rule-Source) → IsKeyed (rule_keys t) (rule_meaning t)
rule_keyed = ind-Rule (λ t. IsKeyed (rule_keys t) (rule_meaning t)) (λ x y is. subst (λ z. IsKeyed (rule_keys (roll-Rule z)) (rule_meaning (roll-Rule z))) is (rule_keyed_layer y))

rule_planned_layer : (y : Rule-F ((t : Rule-Source) × HasPlan rule_definitions rule_shape (rule_keys t) (rule_meaning t))) → HasPlan rule_definitions rule_shape (rule_keys (roll-Rule (map-Rule ((t : Rule-Source) × HasPlan rule_definitions rule_shape (rule_keys t) (rule_meaning t)) Rule-Source (λ e. e.0) y))) (rule_meaning (roll-Rule (map-Rule ((t : Rule-Source) × HasPlan rule_definitions rule_shape (rule_keys t) (rule_meaning t)) Rule-Source (λ e. e.0) y)))
rule_planned_layer y = planned_as (rule_has_keys_roll _) (rule_means_roll _) (record_planned rule_definitions rule_shape rule_part_definitions rule_parts _ _ rule_has_parts (part_planned no_definition (boxed text) [] (box (text_value (string_bytes y.words.text))) (box_planned no_definition text (length (string_bytes y.words.text)) [] (text_value (string_bytes y.words.text)) (text_planned no_definition [] (string_bytes y.words.text))) (part_planned no_definition (array 4 (leaf (number_kind unsigned w8))) (array_keys 4 (λ y. []) y.version) (array_meaning 4 (λ y. (number (pos y))) y.version) (array_planned 4 no_definition (leaf (number_kind unsigned w8)) (λ y. []) (λ y. (number (pos y))) (λ y. (leaf_planned no_definition _ _ [] _ refl)) y.version) (part_planned no_definition (boxed (run (leaf (number_kind unsigned w16)))) (each_keys (λ y. []) y.pages.items.items) (box (list (each_meaning (λ y. (number (pos y))) y.pages.items.items))) (box_planned no_definition (run (leaf (number_kind unsigned w16))) _ _ _ (slice_planned no_definition (leaf (number_kind unsigned w16)) (λ y. []) (λ y. (number (pos y))) (λ y. (leaf_planned no_definition _ _ [] _ refl)) y.pages.items.items)) (part_planned no_definition (leaf (number_kind unsigned w32)) [] (number (pos y.lines)) (leaf_planned no_definition _ _ [] _ refl) (part_planned rule_definitions (boxed (run rule_shape)) (each_keys rule_keys (map (λ e. e.0) y.parts.items.items)) (box (list (each_meaning rule_meaning (map (λ e. e.0) y.parts.items.items)))) (box_planned rule_definitions (run rule_shape) _ _ _ (run_region_planned rule_definitions rule_shape _ _ _ (held_planned rule_keys rule_meaning rule_definitions rule_shape y.parts.items.items))) no_part_planned))))))

pub rule_planned : (t : Rule-Source) → HasPlan rule_definitions rule_shape (rule_keys t) (rule_meaning t)
rule_planned = ind-Rule (λ t. HasPlan rule_definitions rule_shape (rule_keys t) (rule_meaning t)) (λ x y is. subst (λ z. HasPlan rule_definitions rule_shape (rule_keys (roll-Rule z)) (rule_meaning (roll-Rule z))) is (rule_planned_layer y))
