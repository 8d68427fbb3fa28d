use Rattle.std.proofs.Common.{◌≡◌, ◌*◌, List, take}
use Rattle.archive_types.specs.Copies.{each_bytes, EachCopied}
use Rattle.archive_types.proofs.traits.copying.Copied.copy_into.Given as goal

abbrev pub invariant-loop-index : goal.invariant-loop-index
invariant-loop-index g l = record {
  copied : take (l.index * l.size) l.bytes ≡ each_bytes g.Self.Copied.copied_bytes (take l.index l.values);
  read : EachCopied g.Self.CopiedAs.ArchivePointee.definitions g.Self.CopiedAs.Portable.shape g.Self.CopiedAs.Portable.layout.size g.Self.Copied.copied_meaning g.Self.Copied.copied_bytes (take l.index l.values);
}
