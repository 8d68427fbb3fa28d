use Rattle.archive_check.specs.Definitions.{no_definition}
use Rattle.archive_types.proofs.Writing.Nothing.{empty_product_copied}
use Rattle.archive_types.proofs.phantom.PhantomDataCopied.copy_one.Goals as goal

pub returns-clause-read : goal.returns-clause-read
returns-clause-read g c = empty_product_copied no_definition
