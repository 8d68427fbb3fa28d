use Rattle.std.proofs.Common.{refl}
use Rattle.archive_types.proofs.Writing.Nothing.{empty_product_read_back}
use Rattle.archive_types.proofs.phantom.PhantomDataDeserialize.deserialize_part.Goals as goal

pub returns-clause-read : goal.returns-clause-read
returns-clause-read g c = empty_product_read_back _ _ _ _ _ _ refl
