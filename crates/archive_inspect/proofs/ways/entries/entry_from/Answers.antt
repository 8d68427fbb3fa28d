use Rattle.std.proofs.Common.{arith}
use Rattle.archive_check.specs.Expressions.{shape_of, key_of}
use Rattle.archive_inspect.proofs.WaySteps.{entry_lies, entry_value_lies}
use Rattle.archive_inspect.proofs.ways.entries.entry_from.Goals as goal

pub returns : goal.returns
returns c =
    let f = c.args.form.now.schema in
    let K = key_of c.args.key in
    let V = shape_of c.args.value.now in
    let sizes = c.in_ok-sizes.sizes in
    let t = c.in_ok-target.target in
    let k = c.args.number in
    record {
      target = t;
      leads = c.in_ok-target.ensures;
      few = omega arith;
      key = entry_lies f K V sizes.0 sizes.1 c.in_ok-sizes.ensures t k c.in_ok-start.start (omega arith);
      value = entry_value_lies f K V sizes.0 sizes.1 c.in_ok-sizes.ensures t k c.in_ok-start.start c.in_ok-inner.inner (omega arith) (omega arith);
    }
