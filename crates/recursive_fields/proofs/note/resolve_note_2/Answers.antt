-- Written by tools/derive: change the declaration, and run it again.
use Rattle.archive_core.proofs.Causes.{err_from}
use Rattle.archive_core.proofs.OwnChoices.{resolves_variant, variant_hindered, tagged_whole}
use Rattle.archive_core.proofs.fields.Ties.{zeroed_case}
use Rattle.archive_core.specs.Layout.{up}
use Rattle.archive_core.specs.SelfCheck.Regions.{no_lower, rises_over}
use Rattle.archive_core.specs.Shape.{variant}
use Rattle.recursive_fields.specs.NoteShape.{note_has_variants, note_layout, note_has_layout}
use Rattle.std.proofs.Common.{◌≡◌, ◌+◌, ◌-◌, ◌<◌, ◌∷◌, length, drop, slice_set, arith, refl}
use Rattle.std.proofs.lemmas.List.{length-take, length-drop, length-set}
use Rattle.std.specs.Prelude.{◌≡◌, refl, pos, length, Result, Ok, Err, OnOk}
use Rattle.recursive_fields.proofs.note.resolve_note_2.Goals as goal

on_ok : {A B P Q : Type 0} (r : Result A B) → (P → Q) → OnOk r P → OnOk r Q
on_ok (Ok x) f h = f h
on_ok (Err e) f h = tt

pub resolve_2-requires-clause-zeroed : goal.resolve_2-requires-clause-zeroed
resolve_2-requires-clause-zeroed g c = zeroed_case _ _ _ c.args.tag _ (c.requires.inside tt) (rises_over 1 g.A.Archived.Portable.layout.align g.A.Archived.Portable.layout.size g.met.A.Archived.Portable.is_align (λ n. (up n g.B.Archived.Portable.layout.align + g.B.Archived.Portable.layout.size)) (λ m. (rises_over m g.B.Archived.Portable.layout.align g.B.Archived.Portable.layout.size g.met.B.Archived.Portable.is_align (λ n. n) no_lower))) c.requires.zeroed _ refl

pub returns-clause-resolved : goal.returns-clause-resolved
returns-clause-resolved g c =
    let old = c.args.place.bytes.now in
    let tagged = slice_set old 0 c.args.tag in
    let new = c.resolve_2.new.bytes in
    let some : 0 < length old = omega (arith, c.requires.zeroed.sized) in
    let few : length new + 1 ≡ length old = omega (arith, some, c.resolve_2.ensures.same_length, length-take (length tagged - 1) (drop 1 tagged), length-drop 1 tagged, length-set old 0 c.args.tag) in
    let sized : length (c.args.tag ∷ new) ≡ 12 = omega (arith, few, c.requires.zeroed.sized) in
    on_ok c.resolve_2.result
    (λ h. rw (tagged_whole c.args.tag (length tagged - 1) old new some (omega (arith, length-set old 0 c.args.tag)))
    (resolves_variant _ _ _ _ _ note_has_variants c.args.tag _ c.requires.variant _ c.requires.definitions _ c.args.place.pos note_layout note_has_layout new sized h))
    c.resolve_2.ensures.resolved

pub returns-clause-refused : goal.returns-clause-refused
returns-clause-refused g c = err_from c.resolve_2.result c.resolve_2.ensures.refused (λ e h. variant_hindered _ _ _ _ _ note_has_variants c.args.tag _ c.requires.variant _ c.requires.definitions _ c.args.place.pos e h)
