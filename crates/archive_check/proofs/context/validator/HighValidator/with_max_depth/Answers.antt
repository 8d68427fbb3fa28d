use Rattle.std.proofs.Common.{◌≡◌, refl}
use Rattle.archive_check.proofs.Archives.{is_whole}
use Rattle.archive_check.proofs.context.validator.HighValidator.with_max_depth.Goals as goal

pub returns-clause-whole : goal.returns-clause-whole
returns-clause-whole c = is_whole _ _ c.args.bytes.now c.args.depth c.requires (λ d e. let same : c.unwrap_or.result ≡ d = rw e at c.unwrap_or.ensures in rw same at c.unwrap_or.type_inv) c.with_max_depth.ensures refl
