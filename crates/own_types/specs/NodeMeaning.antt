-- What Node means. Written by tools/derive: change the declaration, and run it again.
use Rattle.archive_core.specs.Denotes.{Naming}
use Rattle.archive_core.specs.Held.{variant_planned, keyed_as, planned_as}
use Rattle.archive_core.specs.Keyed.{case_keyed, nothing_keyed, part_keyed, box_keyed}
use Rattle.archive_core.specs.PartsPlanned.{part_planned, no_part_planned}
use Rattle.archive_core.specs.PlannedOwners.{boxed_one_planned}
use Rattle.archive_core.specs.Plans.{HasPlan}
use Rattle.archive_core.specs.Shape.{boxed, one, variant}
use Rattle.archive_core.specs.Value.{Value, case, box, hole, value, no_value}
use Rattle.archive_core.specs.Writing.{IsKeyed, to_pointee}
use Rattle.own_types.specs.declared.node.Node.{Node-F, out-Node, roll-Node, fold-Node, fold-roll-Node, ind-Node, out-roll-Node}
use Rattle.own_types.specs.declared.node.Node.TheFolds.{map-Node}
use Rattle.own_types.specs.declared.node.NodeResolver.{NodeResolver}
use Rattle.std.proofs.Common.{ap, subst, sym, ◌∙◌, Box, Global}
use Rattle.std.specs.Prelude.{ℕ, List, [], ◌++◌, ◌≡◌, refl, ⊤, Option, None, Some}
use Rattle.own_types.specs.NodeShape.{node_name, node_shape, node_definitions, node_variants, node_variant_definitions, node_has_variants, node_nil_parts, node_nil_definitions, node_cons_parts, node_cons_definitions}
use Rattle.own_types.specs.declared.node.Node.{Node as Node-Source}
use Rattle.own_types.specs.declared.node.Node.TheOpen as Layer
use Rattle.own_types.specs.declared.node.Node.TheVariants as Its
use Rattle.own_types.specs.declared.node.NodeResolver.TheVariants as Kept
use Rattle.own_types.specs.declared.node.NodeKept.{NodeKept}
use Rattle.own_types.specs.declared.node.NodeKept.TheVariants as Open
use Rattle.own_types.specs.declared.node.NodeFront.{NodeFront}
use Rattle.own_types.specs.declared.node.NodeFront.TheVariants as Front

abbrev pub node_meaning_layer : {A : Type 0} → (A → Value) → Node-F A → Value
node_meaning_layer m Layer.Nil = case 0 no_value
node_meaning_layer m (Layer.Cons a0) = case 1 (value (box (m a0.value)) no_value)

pub node_meaning : Node-Source → Value
node_meaning = fold-Node Value (node_meaning_layer (λ v. v))

pub node_means_roll : (x : Node-F Node-Source) → node_meaning (roll-Node x) ≡ node_meaning_layer node_meaning x
unfolding node_meaning
node_means_roll Layer.Nil = fold-roll-Node Value (node_meaning_layer (λ v. v)) Layer.Nil
node_means_roll (Layer.Cons a0) = fold-roll-Node Value (node_meaning_layer (λ v. v)) (Layer.Cons a0)

pub node_nil_means : node_meaning Its.Nil ≡ node_meaning_layer node_meaning Layer.Nil
node_nil_means = ap node_meaning (sym Its.rolls-Nil) ∙ node_means_roll Layer.Nil

pub node_cons_means : (a0 : (Box Node-Source Global)) → node_meaning (Its.Cons a0) ≡ node_meaning_layer node_meaning (Layer.Cons a0)
node_cons_means a0 = ap node_meaning (sym (Its.rolls-Cons a0)) ∙ node_means_roll (Layer.Cons a0)

abbrev pub node_keys_layer : {A : Type 0} → (A → (List Naming)) → Node-F A → (List Naming)
node_keys_layer m Layer.Nil = []
node_keys_layer m (Layer.Cons a0) = ((m a0.value) ++ [])

pub node_keys : Node-Source → (List Naming)
node_keys = fold-Node (List Naming) (node_keys_layer (λ v. v))

pub node_has_keys_roll : (x : Node-F Node-Source) → node_keys (roll-Node x) ≡ node_keys_layer node_keys x
unfolding node_keys
node_has_keys_roll Layer.Nil = fold-roll-Node (List Naming) (node_keys_layer (λ v. v)) Layer.Nil
node_has_keys_roll (Layer.Cons a0) = fold-roll-Node (List Naming) (node_keys_layer (λ v. v)) (Layer.Cons a0)

pub node_nil_has_keys : node_keys Its.Nil ≡ node_keys_layer node_keys Layer.Nil
node_nil_has_keys = ap node_keys (sym Its.rolls-Nil) ∙ node_has_keys_roll Layer.Nil

pub node_cons_has_keys : (a0 : (Box Node-Source Global)) → node_keys (Its.Cons a0) ≡ node_keys_layer node_keys (Layer.Cons a0)
node_cons_has_keys a0 = ap node_keys (sym (Its.rolls-Cons a0)) ∙ node_has_keys_roll (Layer.Cons a0)

-- what is read in its place, by the resolver of the same variant
abbrev pub node_flat_layer : Node-F Node-Source → NodeResolver → Value
node_flat_layer Layer.Nil r = case 0 no_value
node_flat_layer (Layer.Cons a0) r = elim r [ Kept.Cons s ↦ case 1 (value (box (hole (to_pointee s.0 (one node_shape) 0))) no_value) | _ ↦ case 1 no_value ]

abbrev pub node_flat : Node-Source → NodeResolver → Value
node_flat v r = node_flat_layer (out-Node v) r

abbrev pub node_belongs_layer : Node-F Node-Source → NodeResolver → Type 0
node_belongs_layer Layer.Nil r = elim r [ Kept.Nil ↦ Unit {0} | _ ↦ ⊥ ]
node_belongs_layer (Layer.Cons a0) r = elim r [ Kept.Cons s ↦ (⊤ × Unit {0}) | _ ↦ ⊥ ]

abbrev pub node_belongs : Node-Source → NodeResolver → Type 0
node_belongs v r = node_belongs_layer (out-Node v) r

pub node_nil_opens : out-Node Its.Nil ≡ Layer.Nil
node_nil_opens = ap out-Node (sym Its.rolls-Nil) ∙ out-roll-Node Layer.Nil

pub node_cons_opens : (a0 : (Box Node-Source Global)) → out-Node (Its.Cons a0) ≡ (Layer.Cons a0)
node_cons_opens a0 = ap out-Node (sym (Its.rolls-Cons a0)) ∙ out-roll-Node (Layer.Cons a0)

-- what its box holds
abbrev pub node_rest_layer : Node-F Node-Source → Option Node-Source
node_rest_layer Layer.Nil = None
node_rest_layer (Layer.Cons a0) = Some a0.value

abbrev pub node_rest : Node-Source → Option Node-Source
node_rest v = node_rest_layer (out-Node v)

-- the resolver, by what is kept and where the box's value stands
abbrev pub node_closed : NodeKept → ℕ → NodeResolver
node_closed Open.Cons t = Kept.Cons (t, tt)

-- what a value means, by what stands before its box and what the box holds; and its keys
abbrev pub node_around : NodeFront → Value → Value
node_around Front.Cons m = case 1 (value (box m) no_value)

abbrev pub node_keys_around : NodeFront → List Naming → List Naming
node_keys_around Front.Cons k = k ++ []

-- it is of the one variant that has a box
pub node_kept_is : (x : NodeKept) → x ≡ Open.Cons
node_kept_is Open.Cons = refl

pub node_front_is : (x : NodeFront) → x ≡ Front.Cons
node_front_is Front.Cons = refl

node_keyed_layer : (y : Node-F ((t : Node-Source) × IsKeyed (node_keys t) (node_meaning t))) → IsKeyed (node_keys (roll-Node (map-Node ((t : Node-Source) × IsKeyed (node_keys t) (node_meaning t)) Node-Source (λ e. e.0) y))) (node_meaning (roll-Node (map-Node ((t : Node-Source) × IsKeyed (node_keys t) (node_meaning t)) Node-Source (λ e. e.0) y)))
node_keyed_layer Layer.Nil = keyed_as (node_has_keys_roll _) (node_means_roll _) (case_keyed _ 0 _ nothing_keyed)
node_keyed_layer (Layer.Cons a0) = keyed_as (node_has_keys_roll _) (node_means_roll _) (case_keyed _ 1 _ (part_keyed (box_keyed _ _ a0.value.1) nothing_keyed))

pub node_keyed : (t : Node-Source) → IsKeyed (node_keys t) (node_meaning t)
node_keyed = ind-Node (λ t. IsKeyed (node_keys t) (node_meaning t)) (λ x y is. subst (λ z. IsKeyed (node_keys (roll-Node z)) (node_meaning (roll-Node z))) is (node_keyed_layer y))

node_planned_layer : (y : Node-F ((t : Node-Source) × HasPlan node_definitions node_shape (node_keys t) (node_meaning t))) → HasPlan node_definitions node_shape (node_keys (roll-Node (map-Node ((t : Node-Source) × HasPlan node_definitions node_shape (node_keys t) (node_meaning t)) Node-Source (λ e. e.0) y))) (node_meaning (roll-Node (map-Node ((t : Node-Source) × HasPlan node_definitions node_shape (node_keys t) (node_meaning t)) Node-Source (λ e. e.0) y)))
node_planned_layer Layer.Nil = planned_as (node_has_keys_roll _) (node_means_roll _) (variant_planned node_definitions node_shape node_name node_variant_definitions node_variants node_has_variants 0 node_nil_parts refl node_nil_definitions refl _ _ no_part_planned)
node_planned_layer (Layer.Cons a0) = planned_as (node_has_keys_roll _) (node_means_roll _) (variant_planned node_definitions node_shape node_name node_variant_definitions node_variants node_has_variants 1 node_cons_parts refl node_cons_definitions refl _ _ (part_planned node_definitions (boxed (one node_shape)) (node_keys a0.value.0) (box (node_meaning a0.value.0)) (boxed_one_planned node_definitions (one node_shape) node_shape refl _ _ a0.value.1) no_part_planned))

pub node_planned : (t : Node-Source) → HasPlan node_definitions node_shape (node_keys t) (node_meaning t)
node_planned = ind-Node (λ t. HasPlan node_definitions node_shape (node_keys t) (node_meaning t)) (λ x y is. subst (λ z. HasPlan node_definitions node_shape (node_keys (roll-Node z)) (node_meaning (roll-Node z))) is (node_planned_layer y))
