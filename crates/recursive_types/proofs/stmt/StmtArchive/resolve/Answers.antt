-- Written by tools/derive: change the declaration, and run it again.
use Rattle.recursive_types.specs.StmtMeaning.{stmt_set_opens, stmt_block_opens}
use Rattle.std.proofs.Common.{◌≡◌, length, arith, rules}
use Rattle.std.specs.Prelude.{◌≡◌, length}
use Rattle.recursive_types.proofs.stmt.StmtArchive.resolve.Goals as goal
use Rattle.recursive_types.proofs.stmt.StmtArchive.resolve.Goals.{in-Set+in-Set-resolver, in-Block+in-Block-resolver}

pub returns : goal.returns
returns g = elim g.match-self.branch [
  | in-Set+in-Set-resolver w ↦ let after : g.match-self.bytes ≡ w.resolve_stmt_2.new.place.0 = search rules in let there = rw (w.new.ensures.position) at w.resolve_stmt_2.ensures in rw (w.in-Set.is, w.in-Set-resolver.is, stmt_set_opens w.in-Set.a0 w.in-Set.a1, after, w.result-is) (record { resolved = there.resolved; refused = there.refused; same_length = search rules })
  | in-Block+in-Block-resolver w ↦ let same0 : w.of-h0.result.len ≡ length w.in-Block.a0.items = grind (arith, w.of-h0.ensures, w.len.ensures) in let after : g.match-self.bytes ≡ w.resolve_stmt_1.new.place.0 = search rules in let there = rw (same0, w.new-in-Block.ensures.position) at w.resolve_stmt_1.ensures in rw (w.in-Block.is, w.in-Block-resolver.is, stmt_block_opens w.in-Block.a0, after, w.result-is) (record { resolved = there.resolved; refused = there.refused; same_length = search rules })
]
