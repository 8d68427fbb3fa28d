-- Written by tools/derive: change the declaration, and run it again.
use Rattle.archive_core.proofs.Causes.{err_from}
use Rattle.archive_core.proofs.OwnChoices.{resolves_variant, variant_hindered, tagged_whole}
use Rattle.archive_core.specs.Shape.{variant}
use Rattle.recursive_types.specs.ListShape.{list_has_variants, list_layout, list_has_layout}
use Rattle.std.proofs.Common.{◌≡◌, ◌+◌, ◌-◌, ◌<◌, ◌∷◌, length, drop, slice_set, arith}
use Rattle.std.proofs.lemmas.List.{length-take, length-drop, length-set}
use Rattle.std.specs.Prelude.{◌≡◌, pos, length, Result, Ok, Err, OnOk}
use Rattle.recursive_types.proofs.list.resolve_list_0.Goals as goal

on_ok : {A B P Q : Type 0} (r : Result A B) → (P → Q) → OnOk r P → OnOk r Q
on_ok (Ok x) f h = f h
on_ok (Err e) f h = tt

pub returns-clause-resolved : goal.returns-clause-resolved
returns-clause-resolved c =
    let old = c.args.place.bytes.now in
    let tagged = slice_set old 0 c.args.tag in
    let new = c.resolve_0.new.bytes in
    let some : 0 < length old = omega (arith, c.requires.zeroed.sized) in
    let few : length new + 1 ≡ length old = omega (arith, some, c.resolve_0.ensures.same_length, length-take (length tagged - 1) (drop 1 tagged), length-drop 1 tagged, length-set old 0 c.args.tag) in
    let sized : length (c.args.tag ∷ new) ≡ 12 = omega (arith, few, c.requires.zeroed.sized) in
    on_ok c.resolve_0.result
    (λ h. rw (tagged_whole c.args.tag (length tagged - 1) old new some (omega (arith, length-set old 0 c.args.tag)))
    (resolves_variant _ _ _ _ _ list_has_variants c.args.tag _ c.requires.variant _ c.requires.definitions _ c.args.place.pos list_layout list_has_layout new sized h))
    c.resolve_0.ensures.resolved

pub returns-clause-refused : goal.returns-clause-refused
returns-clause-refused c = err_from c.resolve_0.result c.resolve_0.ensures.refused (λ e h. variant_hindered _ _ _ _ _ list_has_variants c.args.tag _ c.requires.variant _ c.requires.definitions _ c.args.place.pos e h)
