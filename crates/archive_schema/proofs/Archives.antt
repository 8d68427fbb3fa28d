-- What a check of a type's schema says of a buffer.
use Rattle.std.proofs.Common.{◌≡◌, ◌<◌, ◌^◌, inl, inr, ℕ, List, length, Some, None, false, Option, Result, refl, sym, subst, Contains}
use Rattle.std.proofs.lemmas.Result.{on_ok_weaker, IfErr-weaker}
use Rattle.archive_check.specs.declared.format.error.Error.{Error}
use Rattle.archive_schema.specs.declared.shape.Schema.{Schema as RustSchema}
use Rattle.archive_check.specs.Shape.{Name, Shape, Table, definition}
use Rattle.archive_check.specs.Expressions.{entries_of}
use Rattle.archive_check.specs.MissingNames.{missing}
use Rattle.archive_check.specs.Reads.{SchemaTable}
use Rattle.archive_check.specs.Depth.{AcceptedWithin}
use Rattle.archive_check.specs.Definitions.{Definitions, listed, NoOthers, Knows, HasLayouts}
use Rattle.archive_check.specs.Trail.{RootTrips}
use Rattle.archive_schema.specs.Schemas.{root_of, defined_by, definitions_in, IsSchemaOf}
use Rattle.archive_check.specs.Archives.{IsArchiveWithin, IsRefusal, Answers}
use Rattle.archive_schema.specs.plan.Names.{Prepared}
use Rattle.archive_check.proofs.Names.WellFormed.{found_stands}
use Rattle.archive_check.proofs.Names.MissingNames.{none_near}
use Rattle.archive_check.proofs.Archives.{has_each, some_knows, refusal_no_archive}
use Rattle.archive_schema.proofs.SchemaDefinitions.{listed_defined, listed_in, defined_has, schema_meaning}

module _ (D : Definitions) (X : Shape) (table : Table) where
  -- the definitions that a type's schema keeps have layouts
  pub prepared_laid_out : NoOthers D X → Prepared D X table → HasLayouts table
  prepared_laid_out no_others p =
      let (s, k) = some_knows D X p.well_formed no_others in
      let each : (name : Name) (Y : Shape) → definition table name ≡ Some Y → definition s.table name ≡ Some Y = λ name Y e. has_each s D k.has name Y (found_stands (listed D) name Y (p.known name Y e)) in
      ∣ (record { table = table; layouts = s.layouts }, refl, record { solves = λ name Y e. k.laid_out.solves name Y (each name Y e); aligned = k.laid_out.aligned }) ∣₁

  -- and define each name that the shape holds
  pub prepared_held : Prepared D X table → missing false (listed (defined_by table)) X ≡ None
  prepared_held p = subst (λ l. missing false l X ≡ None) (sym (listed_defined table)) (none_near table X p.complete.root)

-- so a schema that keeps them is the type's
pub prepared_schema : (r : RustSchema) (X : Shape) (D : Definitions) → root_of r ≡ X → Prepared D X (entries_of r.definitions.items) → IsSchemaOf r X D
prepared_schema r X D root p = record {
  root = root;
  known = λ name Y c. p.known name Y (p.ordered.once name Y (subst (λ l. Contains l (name, Y)) (listed_in r) c));
  has = λ name Y h e. subst (λ l. definition l name ≡ Some Y) (sym (listed_in r)) (p.has name Y h e);
  well_formed = p.well_formed;
}

module _ (r : RustSchema) (X : Shape) (D : Definitions) (made : IsSchemaOf r X D) where
  -- what knows a type's definitions knows those that its schema keeps
  knows_schema : (s : SchemaTable) → Knows s D → Knows s (definitions_in r)
  knows_schema s k = record {
    has = defined_has s (entries_of r.definitions.items) (λ name Y c. has_each s D k.has name Y (found_stands (listed D) name Y (made.known name Y c)));
    finite = λ name Y c h. k.finite name Y (found_stands (listed D) name Y (made.known name Y c)) h;
    laid_out = k.laid_out;
  }

  -- What a check says of the schema's definitions holds of the type's.
  module _ (bytes : List ℕ) (limit : Option ℕ) (pos : ℕ) where
    accepts : NoOthers D X → IsArchiveWithin (definitions_in r) bytes limit pos (root_of r) → IsArchiveWithin D bytes limit pos X
    accepts no_others h = record {
      well_formed = made.well_formed;
      known = ∣ some_knows D X made.well_formed no_others ∣₁;
      accepted = λ s k. subst (λ Z. ∥ AcceptedWithin s bytes limit pos Z ∥₁) made.root (h.accepted s (knows_schema s k));
    }

    refuses : (e : Error) → IsRefusal (definitions_in r) bytes limit pos (root_of r) e → IsRefusal D bytes limit pos X e
    refuses e (inl (inl memory)) = inl (inl memory)
    refuses e (inl (inr (inl (is, none)))) = absurd (none (schema_meaning r).well_formed.defined)
    refuses e (inl (inr (inr (is, all, none)))) = absurd (none (schema_meaning r).well_formed)
    refuses e (inr h) = inr (record {
      well_formed = made.well_formed;
      fault = h.fault;
      said = h.said;
      trips = λ s k. subst (λ Z. ∥ RootTrips s bytes limit pos Z h.fault ∥₁) made.root (h.trips s (knows_schema s k));
    })

    pub answers_type : NoOthers D X → length bytes < 2 ^ 64 → (answer : Result (Unit {0}) Error) → Answers (definitions_in r) bytes limit pos (root_of r) answer → Answers D bytes limit pos X answer
    answers_type no_others few answer h = record {
      accepted = on_ok_weaker answer (accepts no_others) h.accepted;
      refused = IfErr-weaker answer _ _ refuses h.refused;
      exact = IfErr-weaker answer _ _ (λ e f. refusal_no_archive D bytes limit pos X e few (refuses e f)) h.refused;
    }
