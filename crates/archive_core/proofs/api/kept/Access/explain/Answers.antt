use Rattle.std.proofs.Common.{◌≡◌, inl, inr, sym, ◌∙◌, Option, Some, None, IfSome, IfNone}
use Rattle.std.proofs.lemmas.Result.{IfErr-weaker}
use Rattle.archive_check.specs.declared.format.error.Error.{Error}
use Rattle.archive_check.specs.declared.format.error.Error.TheVariants.{OutOfMemory}
use Rattle.archive_check.specs.Archives.{ExplainsNoSchema}
use Rattle.archive_check.specs.Defined.{WellFormed}
use Rattle.archive_check.specs.Definitions.{Definitions, listed}
use Rattle.archive_check.specs.Shape.{Shape}
use Rattle.archive_schema.specs.Schemas.{IsSchemaOf}
use Rattle.archive_schema.specs.declared.shape.Schema.{Schema}
use Rattle.archive_check.proofs.SelfCheck.Orders.{ordered_well}
use Rattle.archive_core.proofs.api.kept.Access.explain.Goals as goal

-- a schema is made only of definitions that have a meaning
kept_well : (X : Shape) (D : Definitions) (schema : Option Schema) {P : Type 0} → IfSome schema (λ s. IsSchemaOf s X D) → IfNone schema P → (P → WellFormed (listed D) X) → WellFormed (listed D) X
kept_well X D (Some s) made needed direct = made.well_formed
kept_well X D None made needed direct = direct needed

-- where they have one, only memory can be refused
memory_alone : (X : Shape) (D : Definitions) → WellFormed (listed D) X → (e : Error) → ExplainsNoSchema X D e → e ≡ OutOfMemory
memory_alone X D well e (inl memory) = memory
memory_alone X D well e (inr (inl (is, none))) = absurd (none well.defined)
memory_alone X D well e (inr (inr (is, all, none))) = absurd (none well)

pub returns-clause-refused : goal.returns-clause-refused
returns-clause-refused g c =
    let well = kept_well g.T.Portable.shape g.T.ArchivePointee.definitions c.args.self.now.schema c.args.self.now.made c.args.self.now.needed
    (λ h. let checks = g.met.T.Portable.checks h in ordered_well g.T.ArchivePointee.definitions g.T.Portable.shape checks.order checks.ordered g.met.T.Portable.no_others) in
    IfErr-weaker c.explain.result _ _ (memory_alone g.T.Portable.shape g.T.ArchivePointee.definitions well) c.explain.ensures.refused
