use Rattle.std.proofs.Common.{sym, ap, ◌∙◌, false}
use Rattle.archive_check.specs.Expressions.{shape_of}
use Rattle.archive_check.specs.MissingNames.{missing}
use Rattle.archive_schema.proofs.SchemaDefinitions.{listed_in, schema_meaning}
use Rattle.archive_check.proofs.BoundedSizes.{some_is, none_is}
use Rattle.archive_schema.proofs.shape.Schema.layout.Goals as goal

pub extent_of-extent-requires : goal.extent_of-extent-requires
extent_of-extent-requires c = sym (ap (λ table. missing false table (shape_of c.args.expr.now)) (listed_in c.args.self.now)) ∙ c.requires

pub returns-in-Some-clause-meaning : goal.returns-in-Some-clause-meaning
returns-in-Some-clause-meaning c = schema_meaning c.args.self.now

pub returns-in-None-clause-meaning : goal.returns-in-None-clause-meaning
returns-in-None-clause-meaning c = schema_meaning c.args.self.now

pub returns-in-Some-clause-ok : goal.returns-in-Some-clause-ok
returns-in-Some-clause-ok c = record {
  solved = λ t k. λ i. record {
    size = some_is (sym (c.extent_of-extent.ensures t k).end_is ∙ c.in-Some.is) i;
    align = sym (c.extent_of-extent.ensures t k).align_is i;
  };
}

pub returns-in-None-clause-large : goal.returns-in-None-clause-large
returns-in-None-clause-large c = λ t k. none_is (sym (c.extent_of-extent.ensures t k).end_is ∙ c.in-None.is)
