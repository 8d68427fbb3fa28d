-- What a check of a whole buffer answers, as what is explained of it.
use Rattle.std.proofs.Common.{◌≡◌, ◌≢◌, inl, inr, ⊎_elim, ap, ◌∙◌, subst, ℕ, pos, List, Result, Option, None, Ok, Err}
use Rattle.std.proofs.lemmas.Option.{IfSome_then}
use Rattle.archive_inspect.specs.declared.explain.Explanation.{Explanation}
use Rattle.archive_check.specs.declared.format.error.Error.{Error}
use Rattle.archive_check.specs.declared.format.error.Error.TheVariants.{OutOfMemory}
use Rattle.archive_check.specs.Archives.{Answers, IsFaulty, IsRefusal}
use Rattle.archive_check.specs.Defined.{WellFormed}
use Rattle.archive_check.specs.Definitions.{Definitions, listed}
use Rattle.archive_check.specs.Shape.{Shape}
use Rattle.archive_inspect.specs.declared.explain.FaultPlace.{FaultPlace}
use Rattle.archive_schema.specs.declared.shape.Schema.{Schema as RustSchema}
use Rattle.archive_schema.specs.Schemas.{definitions_in, root_of, IsSchemaOf}
use Rattle.archive_check.specs.Reads.{SchemaTable}
use Rattle.archive_check.specs.Definitions.{Knows}
use Rattle.archive_check.specs.Expressions.{entries_of}
use Rattle.archive_check.proofs.Archives.{has_each}
use Rattle.archive_check.proofs.Names.WellFormed.{found_stands}
use Rattle.archive_schema.proofs.SchemaDefinitions.{defined_has}
use Rattle.archive_inspect.specs.declared.route.RouteStep.{RouteStep}
use Rattle.archive_inspect.specs.Ways.{FaultBy}
use Rattle.archive_inspect.specs.Points.{RefusedBy}
use Rattle.archive_inspect.specs.Explained.{IsPlaceOf, IsExplained, ExplainsBuffer}

-- Where the definitions give a shape a meaning, what is refused for another cause than memory is faulty.
module _ (D : Definitions) (bytes : List ℕ) (root : ℕ) (X : Shape) (well : WellFormed (listed D) X) where
  faulty : (e : Error) → e ≢ OutOfMemory → IsRefusal D bytes None root X e → IsFaulty D bytes None root X e
  faulty e other (inl (inl memory)) = absurd (other memory)
  faulty e other (inl (inr (inl (is, none)))) = absurd (none well.defined)
  faulty e other (inl (inr (inr (is, all, none)))) = absurd (none well)
  faulty e other (inr f) = f

  -- so what is explained by the answer of a check is what is to be explained of the buffer, where the places that a schema tells are places here
  pub explains : (f : RustSchema) → ((e : Error) (place : FaultPlace) → IsPlaceOf (definitions_in f) bytes root (root_of f) e place → IsPlaceOf D bytes root X e place)
      → (answer : Result (Unit {0}) Error) (explanation : Option Explanation) → Answers D bytes None root X answer → IsExplained f bytes root answer explanation → ExplainsBuffer D bytes root X explanation
  explains f moved (Ok u) explanation h none = rw none (record { accepted = h.accepted; refused = tt; exact = tt; placed = tt })
  explains f moved (Err e) explanation h (x, is, found) = rw is (record {
    accepted = tt;
    refused = rw found.same (faulty e found.other h.refused);
    exact = ⊎_elim (λ memory. absurd (found.other memory)) (λ none. none) h.exact;
    placed = rw found.same (IfSome_then x.place found.placed (moved e));
  })

-- what knows a type's definitions knows those that its schema keeps
knows_kept : (f : RustSchema) (X : Shape) (D : Definitions) → IsSchemaOf f X D → (s : SchemaTable) → Knows s D → Knows s (definitions_in f)
knows_kept f X D made s k = record {
  has = defined_has s (entries_of f.definitions.items) (λ name Y c. has_each s D k.has name Y (found_stands (listed D) name Y (made.known name Y c)));
  finite = λ name Y c h. k.finite name Y (found_stands (listed D) name Y (made.known name Y c)) h;
  laid_out = k.laid_out;
}

-- The places that a type's schema tells are those of the type.
pub placed_type : (f : RustSchema) (X : Shape) (D : Definitions) → IsSchemaOf f X D → (bytes : List ℕ) (root : ℕ) (e : Error) (place : FaultPlace) → IsPlaceOf (definitions_in f) bytes root (root_of f) e place → IsPlaceOf D bytes root X e place
placed_type f X D made bytes root e place h = record {
  at = h.at;
  fault = h.fault;
  whole = h.whole;
  told = h.told;
  said = h.said;
  leads = λ s k. subst (λ Z. FaultBy s bytes root Z place.way.steps.items h.at h.fault) made.root (h.leads s (knows_kept f X D made s k));
}

-- What is refused where a way leads is the place of the fault.
pub told_place : (f : RustSchema) (bytes : List ℕ) (root : ℕ) (e : Error) (place : FaultPlace) (steps : List RouteStep) (position : ℕ) → place.fault.position ≡ pos position → RefusedBy f bytes root steps position e → steps ≡ place.way.steps.items
    → place.way.left_out ≡ 0 → IsPlaceOf (definitions_in f) bytes root (root_of f) e place
told_place f bytes root e place steps position told h same whole = record {
  at = h.at;
  fault = h.fault;
  whole = whole;
  told = told ∙ ap pos h.told;
  said = h.said;
  leads = λ s know. subst (λ l. FaultBy s bytes root (root_of f) l h.at h.fault) same (h.leads s know);
}
