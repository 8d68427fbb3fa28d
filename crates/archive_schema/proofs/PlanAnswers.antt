-- What a check over a schema's plan answers, said of the schema.
use Rattle.std.proofs.Math.Logic.{∥∥₁_elim, ∥∥₁_map}
use Rattle.std.specs.Coded.{le_prop}
use mathlib.Core.HLevel.{⊥_prop}
use Rattle.std.proofs.Common.{◌<◌, length, ◌↔◌, inl, inr, ℕ, refl, sym, ◌∙◌, Option, Result, Ok, Err, IfErr}
use Rattle.archive_check.specs.declared.format.error.Error.{Error}
use Rattle.archive_schema.specs.declared.check.Checker.{Checker}
use Rattle.archive_schema.specs.declared.shape.Schema.{Schema as RustSchema}
use Rattle.archive_check.specs.Shape.{Name, Table}
use Rattle.archive_check.specs.Expressions.{entries_of}
use Rattle.archive_check.specs.Reads.{SchemaTable}
use Rattle.archive_check.specs.Depth.{AcceptedWithin}
use Rattle.archive_check.specs.Trail.{Fault, RootTrips}
use Rattle.archive_check.specs.Defined.{Reaches}
use Rattle.archive_check.specs.Definitions.{Knows}
use Rattle.archive_check.specs.Archives.{IsArchiveWithin, IsFaulty, ExplainsNoArchive}
use Rattle.archive_schema.specs.check.PlanChecks.{PlanOf, PlanAccepts, PlanRefuses, PlanIsExact}
use Rattle.archive_schema.specs.plan.Planned.{IsOf, IsPlan}
use Rattle.archive_schema.specs.Schemas.{root_of, definitions_in}
use Rattle.archive_schema.specs.plan.SoundPlans.{IsSound}
use Rattle.archive_schema.proofs.plan.SoundPlans.{sound_again}
use Rattle.archive_schema.proofs.SchemaDefinitions.{knows_own, own_laid_out, schema_meaning}
use Rattle.archive_check.proofs.Names.WellFormed.{reached_within}
use Rattle.archive_check.proofs.Names.ReachedNames.{SameName, same_accepted_within, same_faults}

abbrev own_table : RustSchema → Table
own_table s = entries_of s.definitions.items

-- the schema's own definitions, with the layouts of one that knows them
abbrev of_own : RustSchema → SchemaTable → SchemaTable
of_own s t = record { table = own_table s; layouts = t.layouts }

module _ (s : RustSchema) (t : SchemaTable) (knows : Knows t (definitions_in s)) where
  same_names : (n : Name) → Reaches (own_table s) n (root_of s) → SameName (of_own s t) t n
  same_names n r =
      let (Y, e) = reached_within (own_table s) (own_table s) (λ m Z f. f) s.complete.closed r s.complete.root in
      record { definition_is = e ∙ sym (knows_own (own_table s) t knows n Y e); layout_is = refl }

  module _ (m : Checker) (is : IsOf m s.plan) (plan : IsPlan s.definitions.items (root_of s) s.plan s.node) where
    pub own_plan : PlanOf m s.node (of_own s t) (root_of s)
    own_plan = plan.plan_of m (of_own s t) is refl (own_laid_out (own_table s) t knows)

    pub accepted_own : (limit : Option ℕ) (root : ℕ) → AcceptedWithin (of_own s t) m.bytes.now limit root (root_of s) ↔ AcceptedWithin t m.bytes.now limit root (root_of s)
    accepted_own limit root = same_accepted_within (of_own s t) t (root_of s) same_names m.bytes.now limit root

    pub faults_own : (limit : Option ℕ) (root : ℕ) (fault : Fault) → RootTrips (of_own s t) m.bytes.now limit root (root_of s) fault → RootTrips t m.bytes.now limit root (root_of s) fault
    faults_own limit root fault = (same_faults (of_own s t) t (root_of s) same_names m.bytes.now limit root fault).0

module _ (s : RustSchema) (m : Checker) (is : IsOf m s.plan) (limit : Option ℕ) (root : ℕ) where
  pub plan_accepts : PlanAccepts m s.node limit root → IsArchiveWithin (definitions_in s) m.bytes.now limit root (root_of s)
  plan_accepts h = record {
    well_formed = (schema_meaning s).well_formed;
    known = (schema_meaning s).known;
    accepted = λ t k. ∥∥₁_map s.planned (λ p. (accepted_own s t k m is p limit root).0 (h (of_own s t) (root_of s) (own_plan s t k m is p)));
  }

  pub plan_refuses : (error : Error) → PlanRefuses m s.node limit root error → IsFaulty (definitions_in s) m.bytes.now limit root (root_of s) error
  plan_refuses error (fault, said, h) = record {
    well_formed = (schema_meaning s).well_formed;
    fault = fault;
    said = said;
    trips = λ t k. ∥∥₁_map s.planned (λ p. faults_own s t k m is p limit root fault (h (of_own s t) (root_of s) (own_plan s t k m is p)));
  }

  pub plan_exact : (answer : Result (Unit {0}) Error) → PlanIsExact m s.node limit root answer → IfErr answer (ExplainsNoArchive (definitions_in s) m.bytes.now limit root (root_of s))
  plan_exact (Ok u) h = tt
  plan_exact (Err e) (inl memory) = inl cc
  plan_exact (Err e) (inr h) = inr (λ a. ∥∥₁_elim a.known ⊥_prop (λ (t, k). ∥∥₁_elim s.planned ⊥_prop (λ p. ∥∥₁_elim (a.accepted t k) ⊥_prop (λ x.
      (let ok = (h (of_own s t) (root_of s) (own_plan s t k m is p)).1 ((accepted_own s t k m is p limit root).1 x) in cc)))))

-- the root's node is there
pub plan_known : (s : RustSchema) → s.node < length s.plan.nodes.items
plan_known s = ∥∥₁_elim s.planned le_prop (λ p. p.below)

-- and the plan is sound, with any bytes
pub plan_sound : (s : RustSchema) (m : Checker) → IsOf m s.plan → IsSound m
plan_sound s m is = sound_again m (∥∥₁_map s.planned (λ p. p.sound m is))
