-- A shape has a schema where its definitions can be collected and put in order, and else the refusal says why not.
use Rattle.std.proofs.Common.{◌≡◌, ◌⊎◌, inl, inr, ⊎_elim, [], refl, sym, ◌∙◌, true, Some, None, Contains}
use Rattle.archive_check.specs.declared.format.error.Error.{Error}
use Rattle.archive_check.specs.declared.format.error.Error.TheVariants.{OutOfMemory, ShapeConflict, RecursiveLayout}
use Rattle.archive_check.specs.Shape.{Name, Shape, Table, definition}
use Rattle.archive_check.specs.Defined.{Reaches, HeldIn, AllDefined}
use Rattle.archive_check.specs.Definitions.{Definitions, listed, NoOthers, Extended, Conflicts}
use Rattle.archive_schema.specs.plan.Names.{Complete, Prepared, HasAll}
use Rattle.archive_check.specs.MissingNames.{Collected, Arranged}
use Rattle.archive_check.specs.Archives.{ExplainsNoSchema}
use Rattle.archive_check.proofs.Names.MissingNames.{none_near, none_missed}
use Rattle.archive_check.proofs.Names.WellFormed.{all_defined, held_not_well_formed, involved_reached, lost_not_defined, placed_listed, placed_reached, well_formed}

-- what is collected is complete
pub collected_complete : (old : Table) (X : Shape) (new : Table) → Collected old X new → Complete new
collected_complete old X new c = record { once = c.once; closed = λ n Y e. none_near new Y (c.closed n Y e) }

-- so is what is put in order
pub arranged_complete : (old : Table) (X : Shape) (found placed : Table) → Collected old X found → Arranged found placed → HasAll placed X
arranged_complete old X found placed collected arranged = record {
  root = none_missed found placed (λ n Y e. (Y, arranged.same n ∙ e)) true X collected.root;
  closed = λ n Y e. none_missed found placed (λ m Z f. (Z, arranged.same m ∙ f)) true Y (collected.closed n Y (sym (arranged.same n) ∙ e));
}

-- so the definitions of a type are prepared
pub prepared : (D : Definitions) (X : Shape) (table : Table) → Extended [] D table → (found : Table) → Collected table X found → (placed : Table) → Arranged found placed → Prepared D X placed
prepared D X table added found collected placed arranged = record {
  known = placed_listed D X table added found collected placed arranged;
  has = placed_reached D X table added found collected placed arranged;
  complete = arranged_complete table X found placed collected arranged;
  ordered = record { same = λ n. refl; once = arranged.once; earlier = arranged.earlier };
  well_formed = well_formed D X table added found collected placed arranged;
}

-- two definitions of one name
pub conflict_not_defined : (D : Definitions) (X : Shape) → NoOthers D X → Conflicts [] D → AllDefined (listed D) X → ⊥
conflict_not_defined D X reached c all =
    let (Y, e, one) = all c.name (involved_reached (listed D) X all c.name (reached c.name c.shape c.here)) in
    let there : Contains (listed D) (c.name, c.other) = ⊎_elim (λ f. cc f) (λ d. d) c.there in
    c.differ (one c.shape c.here ∙ sym (one c.other there))

-- What the steps of making a schema answer: definitions are added to none, collected and put in order.
module _ (D : Definitions) (X : Shape) where
  pub explains_conflict : (old : Table) (e : Error) → old ≡ [] → NoOthers D X
      → (e ≡ OutOfMemory) ⊎ ((e ≡ ShapeConflict) × Conflicts old D) → ExplainsNoSchema X D e
  explains_conflict old e none reached (inl memory) = inl memory
  explains_conflict old e none reached (inr (is, c)) = inr (inl (is, conflict_not_defined D X reached (rw none at c)))

  module _ (old table items : Table) (Y : Shape) (none : old ≡ []) (added : Extended old D table) (same : items ≡ table) (root : Y ≡ X) where
    extended : Extended [] D items
    extended = rw same (rw none at added)

    pub explains_lost : (e : Error) → (e ≡ OutOfMemory) ⊎ ((e ≡ ShapeConflict) × (name : Name) × Reaches items name Y × (definition items name ≡ None)) → ExplainsNoSchema X D e
    explains_lost e (inl memory) = inl memory
    explains_lost e (inr (is, name, reached, lost)) = inr (inl (is, lost_not_defined D X items extended name (rw root at reached) lost))

    module _ (found : Table) (collected : Collected items Y found) where
      at_root : Collected items X found
      at_root = rw root at collected

      pub explains_held : (e : Error) → (e ≡ OutOfMemory) ⊎ ((e ≡ RecursiveLayout) × (name : Name) × (Z : Shape) × (definition found name ≡ Some Z) × HeldIn found name Z) → ExplainsNoSchema X D e
      explains_held e (inl memory) = inl memory
      explains_held e (inr (is, name, Z, defined, holds)) =
          inr (inr (is, all_defined D X items extended found at_root, held_not_well_formed D X items extended found at_root name Z defined holds))

      pub prepares : (placed : Table) → Arranged found placed → Prepared D X placed
      prepares placed arranged = prepared D X items extended found at_root placed arranged
