use Rattle.std.proofs.Common.{◌≡◌, ◌∷◌, ◌++◌, [], ap, subst, sym, ◌∙◌, arith}
use Rattle.std.proofs.lemmas.List.{nil_from_length}
use Rattle.std.specs.Prelude.{option_to_list}
use Rattle.std.specs.Vec.{vec_len}
use Rattle.archive_schema.specs.Schemas.{root_of}
use Rattle.archive_inspect.specs.Ways.{a_value}
use Rattle.archive_inspect.specs.Points.{end_of_way, MeansEnd}
use Rattle.archive_inspect.proofs.Searched.{Searches, search_begins, search_goes_on, search_ends}
use Rattle.archive_inspect.proofs.describe.told.tell_all_leaves.Goals as goal

pub loop-init : goal.loop-init
loop-init c =
    let f = c.args.form.now.schema in
    let bytes = c.args.bytes.now in
    let pieces = c.args.pieces.now in
    let x = c.meant.result in
    let begins = search_begins f bytes pieces c.args.root x c.meant.ensures.same
    (λ s know. subst (λ X. MeansEnd s (a_value X) (end_of_way x.thing)) (c.root.ensures ∙ ap root_of c.schema.ensures) (c.meant.ensures.means s know)) in
    subst (λ l. Searches f bytes pieces c.args.root l c.new-points.result.items c.new-followed.result.items) (sym c.in_ok-pending.ensures)
    (subst (λ l. Searches f bytes pieces c.args.root (x ∷ []) l c.new-followed.result.items) (sym c.new-points.ensures.items)
    (subst (λ l. Searches f bytes pieces c.args.root (x ∷ []) [] l) (sym c.new-followed.ensures.items) begins))

pub loop-preserved : goal.loop-preserved
loop-preserved c =
    let f = c.args.form.now.schema in
    let rest = c.pop.new.self.items in
    let popped : c.loop.pending.items ≡ rest ++ c.in-Some.point ∷ [] = c.pop.ensures.items ∙ ap (λ r. rest ++ option_to_list r) c.in-Some.is in
    search_goes_on f c.args.bytes.now c.args.pieces.now c.args.root c.loop.pending.items rest c.loop.points.items c.in-Some-2.found.items _ _ c.in-Some.point c.loop.followed.items _
    c.loop.invariant popped (rw c.in-Some-2.is at c.in_ok-found.ensures) c.in_ok-append.ensures.items c.in_ok-push.ensures.items

pub returns-in_default : goal.returns-in_default
returns-in_default c = λ t.
    let both : (vec_len c.loop.pending ≡ 0) × (vec_len c.pop.new.self ≡ 0) = rw c.in_default.is at c.pop.ensures.cases in
    let none : c.loop.pending.items ≡ [] = nil_from_length c.loop.pending.items (omega (arith, both.0)) in
    search_ends c.args.form.now.schema c.args.bytes.now c.args.pieces.now c.args.root c.loop.pending.items c.loop.points.items c.loop.followed.items c.loop.invariant none
