-- Written by tools/derive: change the declaration, and run it again.
use Rattle.recursive_fields.specs.NoteMeaning.{note_text_opens, note_work_opens, note_table_opens, note_done_opens, note_days_opens, note_about_opens, note_either_opens, note_several_opens}
use Rattle.std.proofs.Common.{◌≡◌, length, arith, rules}
use Rattle.std.specs.Prelude.{◌≡◌, length}
use Rattle.recursive_fields.proofs.note.NoteArchive.resolve.Goals as goal
use Rattle.recursive_fields.proofs.note.NoteArchive.resolve.Goals.{in-Text+in-Text-resolver, in-Work+in-Work-resolver, in-Table+in-Table-resolver, in-Done+in-Done-resolver, in-Days+in-Days-resolver, in-About+in-About-resolver, in-Either+in-Either-resolver, in-Several+in-Several-resolver}

pub returns : goal.returns
returns g = elim g.match-self.branch [
  | in-Text+in-Text-resolver w ↦ let after : g.match-self.bytes ≡ w.resolve_note_1.new.place.0 = search rules in let there = rw (w.new.ensures.position) at w.resolve_note_1.ensures in rw (w.in-Text.is, w.in-Text-resolver.is, note_text_opens w.in-Text.a0, after, w.result-is) (record { resolved = there.resolved; refused = there.refused; same_length = search rules })
  | in-Work+in-Work-resolver w ↦ let after : g.match-self.bytes ≡ w.resolve_note_1-in-Work.new.place.0 = search rules in let there = rw (w.new-in-Work.ensures.position) at w.resolve_note_1-in-Work.ensures in rw (w.in-Work.is, w.in-Work-resolver.is, note_work_opens w.in-Work.a0, after, w.result-is) (record { resolved = there.resolved; refused = there.refused; same_length = search rules })
  | in-Table+in-Table-resolver w ↦ let same0 : w.of-h0.result.len ≡ length w.in-Table.a0.items = grind (arith, w.of-h0.ensures, w.len.ensures) in let after : g.match-self.bytes ≡ w.resolve_note_1-in-Table.new.place.0 = search rules in let there = rw (same0, w.new-in-Table.ensures.position) at w.resolve_note_1-in-Table.ensures in rw (w.in-Table.is, w.in-Table-resolver.is, note_table_opens w.in-Table.a0, after, w.result-is) (record { resolved = there.resolved; refused = there.refused; same_length = search rules })
  | in-Done+in-Done-resolver w ↦ let after : g.match-self.bytes ≡ w.resolve_note_1-in-Done.new.place.0 = search rules in let there = rw (w.new-in-Done.ensures.position) at w.resolve_note_1-in-Done.ensures in rw (w.in-Done.is, w.in-Done-resolver.is, note_done_opens w.in-Done.a0, after, w.result-is) (record { resolved = there.resolved; refused = there.refused; same_length = search rules })
  | in-Days+in-Days-resolver w ↦ let after : g.match-self.bytes ≡ w.resolve_note_1-in-Days.new.place.0 = search rules in let there = rw (w.new-in-Days.ensures.position) at w.resolve_note_1-in-Days.ensures in rw (w.in-Days.is, w.in-Days-resolver.is, note_days_opens w.in-Days.a0, after, w.result-is) (record { resolved = there.resolved; refused = there.refused; same_length = search rules })
  | in-About+in-About-resolver w ↦ let after : g.match-self.bytes ≡ w.resolve_note_1-in-About.new.place.0 = search rules in let there = rw (w.new-in-About.ensures.position) at w.resolve_note_1-in-About.ensures in rw (w.in-About.is, w.in-About-resolver.is, note_about_opens w.in-About._a0, after, w.result-is) (record { resolved = there.resolved; refused = there.refused; same_length = search rules })
  | in-Either+in-Either-resolver w ↦ let after : g.match-self.bytes ≡ w.resolve_note_2.new.place.0 = search rules in let there = rw (w.new-in-Either.ensures.position) at w.resolve_note_2.ensures in rw (w.in-Either.is, w.in-Either-resolver.is, note_either_opens w.in-Either._a0 w.in-Either._a1, after, w.result-is) (record { resolved = there.resolved; refused = there.refused; same_length = search rules })
  | in-Several+in-Several-resolver w ↦ let same0 : w.of-h0-in-Several.result.len ≡ length w.in-Several.a0.items = grind (arith, w.of-h0-in-Several.ensures, w.len-in-Several.ensures) in let after : g.match-self.bytes ≡ w.resolve_note_1-in-Several.new.place.0 = search rules in let there = rw (same0, w.new-in-Several.ensures.position) at w.resolve_note_1-in-Several.ensures in rw (w.in-Several.is, w.in-Several-resolver.is, note_several_opens w.in-Several.a0, after, w.result-is) (record { resolved = there.resolved; refused = there.refused; same_length = search rules })
]
