-- Written by tools/derive: change the declaration, and run it again.
use Rattle.recursive_types.specs.ExprMeaning.{expr_num_opens, expr_add_opens, expr_call_opens}
use Rattle.std.proofs.Common.{◌≡◌, length, arith, rules}
use Rattle.std.specs.Prelude.{◌≡◌, length}
use Rattle.recursive_types.proofs.expr.ExprArchive.resolve.Goals as goal
use Rattle.recursive_types.proofs.expr.ExprArchive.resolve.Goals.{in-Num+in-Num-resolver, in-Add+in-Add-resolver, in-Call+in-Call-resolver}

pub returns : goal.returns
returns g = elim g.match-self.branch [
  | in-Num+in-Num-resolver w ↦ let after : g.match-self.bytes ≡ w.resolve_expr_1.new.place.0 = search rules in let there = rw (w.new.ensures.position) at w.resolve_expr_1.ensures in rw (w.in-Num.is, w.in-Num-resolver.is, expr_num_opens w.in-Num.a0, after, w.result-is) (record { resolved = there.resolved; refused = there.refused; same_length = search rules })
  | in-Add+in-Add-resolver w ↦ let after : g.match-self.bytes ≡ w.resolve_expr_2.new.place.0 = search rules in let there = rw (w.new-in-Add.ensures.position) at w.resolve_expr_2.ensures in rw (w.in-Add.is, w.in-Add-resolver.is, expr_add_opens w.in-Add._a0 w.in-Add._a1, after, w.result-is) (record { resolved = there.resolved; refused = there.refused; same_length = search rules })
  | in-Call+in-Call-resolver w ↦ let same1 : w.of-h1.result.len ≡ length w.in-Call.a1.items = grind (arith, w.of-h1.ensures, w.len.ensures) in let after : g.match-self.bytes ≡ w.resolve_expr_2-in-Call.new.place.0 = search rules in let there = rw (same1, w.new-in-Call.ensures.position) at w.resolve_expr_2-in-Call.ensures in rw (w.in-Call.is, w.in-Call-resolver.is, expr_call_opens w.in-Call.a0 w.in-Call.a1, after, w.result-is) (record { resolved = there.resolved; refused = there.refused; same_length = search rules })
]
