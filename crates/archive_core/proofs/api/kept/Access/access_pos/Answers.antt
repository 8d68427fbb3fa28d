use Rattle.std.proofs.Common.{◌∙◌, sym}
use Rattle.archive_core.proofs.api.kept.Access.access_pos.Goals as goal

pub access_direct-requires : goal.access_direct-requires
access_direct-requires g c = sym c.is_direct.ensures ∙ c.if-is_direct.true
