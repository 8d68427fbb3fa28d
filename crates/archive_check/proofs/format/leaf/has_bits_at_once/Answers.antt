use Rattle.std.specs.Int.{w16, w32, w64, w128}
use Rattle.archive_check.specs.Reads.{u32_at}
use Rattle.archive_check.proofs.format.LegalBytes.{some_bits}
use Rattle.archive_check.proofs.format.leaf.has_bits_at_once.Goals as goal

pub returns-in-2 : goal.returns-in-2
returns-in-2 c = some_bits w16 c.args.bytes.now c.args.at c.args.n c.read_u16.result c.in-2.is c.requires c.read_u16.ensures

pub returns-in-4 : goal.returns-in-4
unfolding u32_at
returns-in-4 c = some_bits w32 c.args.bytes.now c.args.at c.args.n c.read_u32.result c.in-4.is c.requires c.read_u32.ensures

pub returns-in-8 : goal.returns-in-8
returns-in-8 c = some_bits w64 c.args.bytes.now c.args.at c.args.n c.read_u64.result c.in-8.is c.requires c.read_u64.ensures

pub returns-in-16 : goal.returns-in-16
returns-in-16 c = some_bits w128 c.args.bytes.now c.args.at c.args.n c.read_u128.result c.in-16.is c.requires c.read_u128.ensures
