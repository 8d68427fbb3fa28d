use Rattle.std.proofs.Common.{rules, ◌≡◌, ◌+◌, ◌-◌, arith}
use Rattle.archive_types.proofs.Writing.PlacedParts.{put_there, put_changes_only}
use Rattle.archive_types.proofs.ser.resolve_in_block.Goals as goal

pub returns : goal.returns
returns g c = record {
  resolved =
      let n = g.T.Archived.Portable.layout.size in
      let count : c.args.begin + c.size.result - c.args.begin ≡ n = omega (arith, c.size.ensures, c.requires.inside, c.requires.ends) in
      rw (put_there n c.args.begin c.args.pos _ c.args.block.now count c.requires.inside c.resolve_over.new.bytes c.resolve_over.ensures.same_length) c.resolve_over.ensures.resolved;
  refused = search rules;
  others_stay =
      let n = g.T.Archived.Portable.layout.size in
      let count : c.args.begin + c.size.result - c.args.begin ≡ n = omega (arith, c.size.ensures, c.requires.inside, c.requires.ends) in
      put_changes_only n c.args.begin c.args.pos _ c.args.block.now count c.requires.inside c.resolve_over.new.bytes c.resolve_over.ensures.same_length;
}
