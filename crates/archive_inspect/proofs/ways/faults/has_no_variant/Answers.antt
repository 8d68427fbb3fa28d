use Rattle.std.proofs.Common.{rules, ap, ◌∙◌}
use Rattle.archive_check.specs.Shape.{choice}
use Rattle.archive_check.specs.Expressions.{variants_in}
use Rattle.archive_inspect.specs.Ways.{a_value}
use Rattle.archive_inspect.proofs.ways.faults.has_no_variant.Goals as goal

pub returns-in-None : goal.returns-in-None
returns-in-None c = λ t. record {
  variants = variants_in c.in-Some.choice.1.now;
  choice = c.in-Some.ensures ∙ ap (λ n. a_value (choice n (variants_in c.in-Some.choice.1.now))) (c.is_same.ensures (search rules));
  has = search rules;
  none = c.in-None.ensures.none;
}
