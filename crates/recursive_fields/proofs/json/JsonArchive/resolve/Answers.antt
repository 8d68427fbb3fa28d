-- Written by tools/derive: change the declaration, and run it again.
use Rattle.recursive_fields.specs.JsonMeaning.{json_null_opens, json_number_opens, json_text_opens, json_list_opens, json_object_opens}
use Rattle.std.proofs.Common.{◌≡◌, length, arith, rules}
use Rattle.std.specs.Prelude.{◌≡◌, length}
use Rattle.recursive_fields.proofs.json.JsonArchive.resolve.Goals as goal
use Rattle.recursive_fields.proofs.json.JsonArchive.resolve.Goals.{in-Null, in-Number+in-Number-resolver, in-Text+in-Text-resolver, in-List+in-List-resolver, in-Object+in-Object-resolver}

pub returns : goal.returns
returns g = elim g.match-self.branch [
  | in-Null w ↦ let after : g.match-self.bytes ≡ w.resolve_json_0.new.place.0 = search rules in let there = rw (w.new.ensures.position) at w.resolve_json_0.ensures in rw (w.in-Null.is, json_null_opens, after, w.result-is) (record { resolved = there.resolved; refused = there.refused; same_length = search rules })
  | in-Number+in-Number-resolver w ↦ let after : g.match-self.bytes ≡ w.resolve_json_1.new.place.0 = search rules in let there = rw (w.new-in-Number.ensures.position) at w.resolve_json_1.ensures in rw (w.in-Number.is, w.in-Number-resolver.is, json_number_opens w.in-Number.a0, after, w.result-is) (record { resolved = there.resolved; refused = there.refused; same_length = search rules })
  | in-Text+in-Text-resolver w ↦ let after : g.match-self.bytes ≡ w.resolve_json_1-in-Text.new.place.0 = search rules in let there = rw (w.new-in-Text.ensures.position) at w.resolve_json_1-in-Text.ensures in rw (w.in-Text.is, w.in-Text-resolver.is, json_text_opens w.in-Text.a0, after, w.result-is) (record { resolved = there.resolved; refused = there.refused; same_length = search rules })
  | in-List+in-List-resolver w ↦ let same0 : w.of-h0.result.len ≡ length w.in-List.a0.items = grind (arith, w.of-h0.ensures, w.len.ensures) in let after : g.match-self.bytes ≡ w.resolve_json_1-in-List.new.place.0 = search rules in let there = rw (same0, w.new-in-List.ensures.position) at w.resolve_json_1-in-List.ensures in rw (w.in-List.is, w.in-List-resolver.is, json_list_opens w.in-List.a0, after, w.result-is) (record { resolved = there.resolved; refused = there.refused; same_length = search rules })
  | in-Object+in-Object-resolver w ↦ let same0 : w.of-h0-in-Object.result.len ≡ length w.in-Object.a0.items = grind (arith, w.of-h0-in-Object.ensures, w.len-in-Object.ensures) in let after : g.match-self.bytes ≡ w.resolve_json_1-in-Object.new.place.0 = search rules in let there = rw (same0, w.new-in-Object.ensures.position) at w.resolve_json_1-in-Object.ensures in rw (w.in-Object.is, w.in-Object-resolver.is, json_object_opens w.in-Object.a0, after, w.result-is) (record { resolved = there.resolved; refused = there.refused; same_length = search rules })
]
