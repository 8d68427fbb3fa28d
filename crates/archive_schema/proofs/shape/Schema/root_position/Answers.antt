use Rattle.std.proofs.Common.{ap, ◌∙◌, ◌-◌}
use Rattle.archive_schema.specs.Schemas.{layout_of}
use Rattle.archive_schema.proofs.Given.{root_defined, one_size, no_room}
use Rattle.archive_schema.proofs.shape.Schema.root_position.Goals as goal

pub layout-requires : goal.layout-requires
layout-requires c = root_defined c.args.self.now

pub returns-in-Ok-clause-position : goal.returns-in-Ok-clause-position
returns-in-Ok-clause-position c = λ L h. c.saturating_sub.ensures ∙ ap (λ n. c.args.len - n) (one_size c.args.self.now L h (layout_of c.in-Ok.layout) c.in-Ok.ensures.ok)

pub returns-in-Err-clause-position : goal.returns-in-Err-clause-position
returns-in-Err-clause-position c = λ L h. no_room c.args.self.now L h c.args.len c.ranges.len.fits c.in-Err.ensures.large
